use Rattle.std.proofs.Common.{subst}
use Rattle.std.specs.Prelude.{IfOk, OnErr}
use Rattle.h1_connection.specs.State.{State}
use Rattle.h1_connection.specs.Heads.{with_head, KeepsItem, LosesAtMostHeaders}
use Rattle.h1_connection.proofs.ResultLemmas.{ok_map, ok_more}
use Rattle.h1_connection.proofs.GoesOnLemmas.{still_sound, same_state, head_goes_on, may_ask}
use Rattle.h1_connection.proofs.GivenLemmas.{next_is_allowed, answer_given}
use Rattle.h1_connection.proofs.connection.Connection.next_into.Goals as goal

pub invariant_of-self : goal.invariant_of-self
invariant_of-self c = still_sound c.next_into.result _ _ _ c.self.invariant c.next_into.ensures.sound c.next_into.ensures.err

pub returns-clause-stands : goal.returns-clause-stands
returns-clause-stands c =
    ok_more c.next_into.result _ _ _ _
    (λ kind nexted marks number. head_goes_on _ _ _ _ (with_head c.next_into.new.item kind) c.self.view_is (next_is_allowed c.args.self.now c.requires.can_next) nexted marks
    (number (may_ask _ _ _ c.self.view_is (next_is_allowed c.args.self.now c.requires.can_next))))
    c.next_into.ensures.ok c.next_into.ensures.marks c.next_into.ensures.ahead

pub returns-clause-err : goal.returns-clause-err
returns-clause-err c = same_state c.next_into.result _ _ _ _ c.self.view_is c.next_into.ensures.err

pub returns-clause-item : goal.returns-clause-item
returns-clause-item c =
    subst (λ (s : State). IfOk c.next_into.result (λ kind. KeepsItem s.kept.is_coming kind c.args.item.now c.next_into.new.item)) c.self.view_is c.next_into.ensures.item

pub returns-clause-kept_item : goal.returns-clause-kept_item
returns-clause-kept_item c =
    subst (λ (s : State). OnErr c.next_into.result (LosesAtMostHeaders s.kept.is_coming c.args.item.now c.next_into.new.item)) c.self.view_is c.next_into.ensures.kept_item

pub returns-clause-can_answer : goal.returns-clause-can_answer
returns-clause-can_answer c =
    ok_map c.next_into.result _ _ (λ kind opened head size is. answer_given _ _ _ c.next_into.new.self c.self.view_is (next_is_allowed c.args.self.now c.requires.can_next) (opened is) head size) c.next_into.ensures.opened
