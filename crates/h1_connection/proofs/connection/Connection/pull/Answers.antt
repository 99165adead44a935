use Rattle.h1_connection.proofs.ResultLemmas.{ok_both}
use Rattle.h1_connection.proofs.GoesOnLemmas.{still_sound, same_state, allowed_parts, body_open, body_plain, pull_goes_on}
use Rattle.h1_connection.proofs.connection.Connection.pull.Goals as goal

pub pull-requires-clause-open : goal.pull-requires-clause-open
pull-requires-clause-open c = body_open c.self.inside.config c.self.inside.parts (allowed_parts _ _ c.self.inside.parts _ c.self.view_is c.requires.can_pull)

pub pull-requires-clause-plain : goal.pull-requires-clause-plain
pull-requires-clause-plain c = body_plain c.self.inside.config c.self.inside.parts (allowed_parts _ _ c.self.inside.parts _ c.self.view_is c.requires.can_pull)

pub invariant_of-self : goal.invariant_of-self
invariant_of-self c = still_sound c.pull.result _ _ _ c.self.invariant c.pull.ensures.sound c.pull.ensures.err

pub returns-clause-stands : goal.returns-clause-stands
returns-clause-stands c =
    ok_both c.pull.result _ _ _ (λ answer pulled marks. pull_goes_on _ _ _ _ answer c.self.view_is c.requires.can_pull pulled marks c.pull.ensures.ahead) c.pull.ensures.ok c.pull.ensures.marks

pub returns-clause-err : goal.returns-clause-err
returns-clause-err c = same_state c.pull.result _ _ _ _ c.self.view_is c.pull.ensures.err
