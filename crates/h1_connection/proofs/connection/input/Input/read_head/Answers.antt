use Rattle.std.proofs.Common.{◌≡◌, true, false, None, ◌∙◌, subst}
use Rattle.std.specs.Prelude.{IfOk, IfErr, OnErr}
use Rattle.h1_decoder.specs.Refusal.{UnlessNoMemory, fault_of}
use Rattle.h1_connection.specs.Incoming.{Incoming, IsFound, IsHeadOf, IsWhole, IsNextHead, IsNextFault}
use Rattle.h1_connection.proofs.InputLemmas.{due_front, found_of, same_incoming}
use Rattle.h1_connection.proofs.CutLemmas.{due_view}
use Rattle.h1_connection.proofs.connection.input.Input.read_head.Goals as goal

pub read_due-requires-clause-empty : goal.read_due-requires-clause-empty
read_due-requires-clause-empty c = due_front _ _ _ c.in-Due.is c.self.invariant

pub returns-in-Due-clause-same : goal.returns-in-Due-clause-same
returns-in-Due-clause-same c = c.read_due.ensures.same ∙ due_view _ _ _ _ c.in-Due.is c.self.invariant c.self.view_is

pub returns-in-Due-clause-head : goal.returns-in-Due-clause-head
returns-in-Due-clause-head c =
    subst (λ (i : Incoming). IfOk c.read_due.result (λ is_there. is_there ≡ true → IsNextHead i c.read_due.new.item))
    (due_view _ _ _ _ c.in-Due.is c.self.invariant c.self.view_is) c.read_due.ensures.head

pub returns-in-Due-clause-none : goal.returns-in-Due-clause-none
returns-in-Due-clause-none c =
    subst (λ (i : Incoming). IfOk c.read_due.result (λ is_there. is_there ≡ false → IsHeadOf i None × (c.read_due.new.item ≡ c.args.item.now)))
    (due_view _ _ _ _ c.in-Due.is c.self.invariant c.self.view_is) c.read_due.ensures.none

pub returns-in-Due-clause-fault : goal.returns-in-Due-clause-fault
returns-in-Due-clause-fault c =
    subst (λ (i : Incoming). IfErr c.read_due.result (λ e. UnlessNoMemory e (IsNextFault i (fault_of e))))
    (due_view _ _ _ _ c.in-Due.is c.self.invariant c.self.view_is) c.read_due.ensures.fault

pub returns-in-Due-clause-whole : goal.returns-in-Due-clause-whole
returns-in-Due-clause-whole c =
    subst (λ (i : Incoming). OnErr c.read_due.result (IsWhole i)) (due_view _ _ _ _ c.in-Due.is c.self.invariant c.self.view_is) c.read_due.ensures.whole

pub returns-clause-same : goal.returns-clause-same
returns-clause-same c =
    same_incoming c.self.inside.head_bytes c.self.inside.bytes.items c.read_found.new.head_bytes c.read_found.new.bytes.items c.self.inside.search c.read_found.ensures.all ∙ c.self.view_is

pub returns-clause-head : goal.returns-clause-head
returns-clause-head c =
    subst (λ (i : Incoming). IfOk c.read_found.result (λ is_there. is_there ≡ true → IsNextHead i c.read_found.new.item)) c.self.view_is c.read_found.ensures.head

pub returns-clause-none : goal.returns-clause-none
returns-clause-none c =
    subst (λ (i : Incoming). IfOk c.read_found.result (λ is_there. is_there ≡ false → IsHeadOf i None × (c.read_found.new.item ≡ c.args.item.now))) c.self.view_is c.read_found.ensures.none

pub returns-clause-fault : goal.returns-clause-fault
returns-clause-fault c =
    subst (λ (i : Incoming). IfErr c.read_found.result (λ e. UnlessNoMemory e (IsNextFault i (fault_of e)))) c.self.view_is c.read_found.ensures.fault

pub returns-clause-whole : goal.returns-clause-whole
returns-clause-whole c = subst (λ (i : Incoming). OnErr c.read_found.result (IsWhole i)) c.self.view_is c.read_found.ensures.whole

pub returns-in-Due-clause-found : goal.returns-in-Due-clause-found
returns-in-Due-clause-found c = subst (λ (i : Incoming). IsFound i) c.self.view_is (found_of _ _ _ c.self.invariant)

pub returns-clause-found : goal.returns-clause-found
returns-clause-found c = subst (λ (i : Incoming). IsFound i) c.self.view_is (found_of _ _ _ c.self.invariant)
