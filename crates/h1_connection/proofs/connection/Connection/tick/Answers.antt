use Rattle.std.proofs.Common.{◌∙◌, refl}
use Rattle.h1_connection.proofs.MarkLemmas.{quiet_tick}
use Rattle.h1_connection.proofs.ResultLemmas.{ok_both}
use Rattle.h1_connection.proofs.GoesOnLemmas.{still_sound, same_state, goes_on, allowed_parts, tick_before}
use Rattle.h1_connection.proofs.connection.Connection.tick.Goals as goal

pub tick-requires-clause-before : goal.tick-requires-clause-before
tick-requires-clause-before c = tick_before c.self.inside.config c.self.inside.parts _ (allowed_parts _ _ c.self.inside.parts _ c.self.view_is c.requires.can_tick)

pub invariant_of-self : goal.invariant_of-self
invariant_of-self c = still_sound c.tick.result _ _ _ c.self.invariant c.tick.ensures.sound c.tick.ensures.err

pub returns-clause-stands : goal.returns-clause-stands
returns-clause-stands c =
    ok_both c.tick.result _ _ _ (λ expiry steps marks. goes_on _ _ _ _ _ _ c.self.view_is c.requires.can_tick steps (marks ∙ quiet_tick expiry _) c.tick.ensures.ahead refl) c.tick.ensures.ok c.tick.ensures.marks

pub returns-clause-err : goal.returns-clause-err
returns-clause-err c = same_state c.tick.result _ _ _ _ c.self.view_is c.tick.ensures.err
