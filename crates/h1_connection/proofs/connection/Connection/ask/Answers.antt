use Rattle.h1_connection.proofs.ResultLemmas.{ok_map, ok_more}
use Rattle.h1_connection.proofs.GoesOnLemmas.{still_sound, same_state, head_goes_on, may_ask}
use Rattle.h1_connection.proofs.GivenLemmas.{answer_given}
use Rattle.h1_connection.proofs.connection.Connection.ask.Goals as goal

pub invariant_of-self : goal.invariant_of-self
invariant_of-self c = still_sound c.next.result _ _ _ c.self.invariant c.next.ensures.sound c.next.ensures.err

pub returns-clause-stands : goal.returns-clause-stands
returns-clause-stands c =
    ok_more c.next.result _ _ _ _
    (λ answer nexted marks number. head_goes_on _ _ _ _ answer c.self.view_is c.requires.allowed nexted marks (number (may_ask _ _ _ c.self.view_is c.requires.allowed)))
    c.next.ensures.ok c.next.ensures.marks c.next.ensures.ahead

pub returns-clause-err : goal.returns-clause-err
returns-clause-err c = same_state c.next.result _ _ _ _ c.self.view_is c.next.ensures.err

pub returns-clause-can_answer : goal.returns-clause-can_answer
returns-clause-can_answer c =
    ok_map c.next.result _ _ (λ answer opened head size is. answer_given _ _ _ c.next.new.self c.self.view_is c.requires.allowed (opened is) head size) c.next.ensures.opened
