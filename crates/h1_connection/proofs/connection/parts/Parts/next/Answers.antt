use Rattle.std.proofs.Common.{subst, ap}
use Rattle.h1_connection.specs.Given.{is_head_kind}
use Rattle.h1_connection.specs.Heads.{with_head, IsNexted, NumberGoes}
use Rattle.h1_connection.specs.declared.connection.heads.NextKind.{NextKind}
use Rattle.h1_connection.proofs.ResultLemmas.{ok_map}
use Rattle.h1_connection.proofs.connection.parts.Parts.next.Goals as goal

pub returns-in-Head-clause-ok : goal.returns-in-Head-clause-ok
returns-in-Head-clause-ok c = λ held.
    subst (λ (k : NextKind). IsNexted c.args.config.now c.args.self.now (with_head c.next_into.new.item k) c.next_into.new.self) c.in-Head.is (c.in_ok-next_into.ensures.ok held)

pub returns-in-Fault-clause-ok : goal.returns-in-Fault-clause-ok
returns-in-Fault-clause-ok c = λ held.
    subst (λ (k : NextKind). IsNexted c.args.config.now c.args.self.now (with_head c.next_into.new.item k) c.next_into.new.self) c.in-Fault.is (c.in_ok-next_into.ensures.ok held)

pub returns-in-Pending-clause-ok : goal.returns-in-Pending-clause-ok
returns-in-Pending-clause-ok c = λ held.
    subst (λ (k : NextKind). IsNexted c.args.config.now c.args.self.now (with_head c.next_into.new.item k) c.next_into.new.self) c.in-Pending.is (c.in_ok-next_into.ensures.ok held)

pub returns-in-Closed-clause-ok : goal.returns-in-Closed-clause-ok
returns-in-Closed-clause-ok c = λ held.
    subst (λ (k : NextKind). IsNexted c.args.config.now c.args.self.now (with_head c.next_into.new.item k) c.next_into.new.self) c.in-Closed.is (c.in_ok-next_into.ensures.ok held)

pub returns-in-Head-clause-opened : goal.returns-in-Head-clause-opened
returns-in-Head-clause-opened c = λ is. c.in_ok-next_into.ensures.opened (ap is_head_kind c.in-Head.is)

pub returns-then-has_none-clause-ahead : goal.returns-then-has_none-clause-ahead
returns-then-has_none-clause-ahead c = ok_map c.next_without.result _ _ (λ next counts may held. counts may) c.next_without.ensures.ahead

pub returns-in-Head-clause-ahead : goal.returns-in-Head-clause-ahead
returns-in-Head-clause-ahead c = λ may held.
    subst (λ (k : NextKind). NumberGoes c.args.config.now c.args.self.now (with_head c.next_into.new.item k) c.next_into.new.self) c.in-Head.is (c.in_ok-next_into.ensures.ahead may held)

pub returns-in-Fault-clause-ahead : goal.returns-in-Fault-clause-ahead
returns-in-Fault-clause-ahead c = λ may held.
    subst (λ (k : NextKind). NumberGoes c.args.config.now c.args.self.now (with_head c.next_into.new.item k) c.next_into.new.self) c.in-Fault.is (c.in_ok-next_into.ensures.ahead may held)

pub returns-in-Pending-clause-ahead : goal.returns-in-Pending-clause-ahead
returns-in-Pending-clause-ahead c = λ may held.
    subst (λ (k : NextKind). NumberGoes c.args.config.now c.args.self.now (with_head c.next_into.new.item k) c.next_into.new.self) c.in-Pending.is (c.in_ok-next_into.ensures.ahead may held)

pub returns-in-Closed-clause-ahead : goal.returns-in-Closed-clause-ahead
returns-in-Closed-clause-ahead c = λ may held.
    subst (λ (k : NextKind). NumberGoes c.args.config.now c.args.self.now (with_head c.next_into.new.item k) c.next_into.new.self) c.in-Closed.is (c.in_ok-next_into.ensures.ahead may held)
