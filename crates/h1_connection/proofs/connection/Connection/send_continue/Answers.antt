use Rattle.std.proofs.Common.{refl}
use Rattle.h1_connection.proofs.ResultLemmas.{on_map, on_both}
use Rattle.h1_connection.proofs.GoesOnLemmas.{still_sound, same_state, goes_on}
use Rattle.h1_connection.proofs.GivenLemmas.{continue_opens, waits_given}
use Rattle.h1_connection.proofs.connection.Connection.send_continue.Goals as goal

pub invariant_of-self : goal.invariant_of-self
invariant_of-self c = still_sound c.send_continue.result _ _ _ c.self.invariant c.send_continue.ensures.sound c.send_continue.ensures.err

pub returns-clause-stands : goal.returns-clause-stands
returns-clause-stands c =
    on_both c.send_continue.result _ _ _ (λ steps marks. goes_on _ _ _ _ _ _ c.self.view_is c.requires.can_continue steps marks c.send_continue.ensures.ahead refl) c.send_continue.ensures.ok c.send_continue.ensures.marks

pub returns-clause-err : goal.returns-clause-err
returns-clause-err c = same_state c.send_continue.result _ _ _ _ c.self.view_is c.send_continue.ensures.err

pub returns-clause-can_answer : goal.returns-clause-can_answer
returns-clause-can_answer c =
    on_map c.send_continue.result _ _ (λ steps head size. waits_given c.self.inside.config c.send_continue.new.self (continue_opens c.args.self.now c.self.inside.config c.self.inside.parts c.send_continue.new.self c.self.view_is c.requires.can_continue steps) head size) c.send_continue.ensures.ok
