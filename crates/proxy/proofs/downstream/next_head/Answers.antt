use Rattle.std.proofs.Common.{sym, ◌∙◌}
use Rattle.std.proofs.lemmas.Bool.{false≢true}
use Rattle.proxy.proofs.Sides.{next_brings, next_less}
use Rattle.proxy.proofs.Wants.{wants_same, head_wants}
use Rattle.proxy.proofs.Puts.{next_hands, puts_none}
use Rattle.proxy.proofs.downstream.next_head.Goals as goal

pub returns-clause-brings : goal.returns-clause-brings
returns-clause-brings c = next_brings c.in_ok-next.next c.args.client.now c.next.new.self c.next.ensures.settings c.in_ok-next.ensures.stands

pub returns-clause-leaves : goal.returns-clause-leaves
returns-clause-leaves c = next_less c.in_ok-next.next c.args.client.now c.next.new.self c.next.ensures.settings c.in_ok-next.ensures.stands

pub returns-then-not-can_next-clause-leaves : goal.returns-then-not-can_next-clause-leaves
returns-then-not-can_next-clause-leaves c = λ trace stands allowed. absurd (false≢true (sym c.if-not-can_next.true ∙ c.can_next.ensures.value ∙ allowed))

pub returns-clause-wants : goal.returns-clause-wants
returns-clause-wants c =
    head_wants c.in_ok-next.next c.args.client.now c.next.new.self c.next.ensures.settings c.in_ok-next.ensures.stands
    (c.can_next.ensures.allowed c.if-not-can_next.false)

pub returns-then-not-can_next-clause-wants : goal.returns-then-not-can_next-clause-wants
returns-then-not-can_next-clause-wants c = λ trace stands. wants_same c.args.client.now

pub returns-clause-hands : goal.returns-clause-hands
returns-clause-hands c = next_hands c.in_ok-next.next c.args.client.now c.next.new.self c.next.ensures.settings c.in_ok-next.ensures.stands

pub returns-then-not-can_next-clause-hands : goal.returns-then-not-can_next-clause-hands
returns-then-not-can_next-clause-hands c = puts_none c.args.client.now
