use Rattle.std.proofs.Common.{refl, sym, ◌∙◌, inl}
use Rattle.model_client.specs.ClientEvent as asked
use Rattle.proxy.proofs.Sides.{next_stays, answer_less, time_stays, time_same}
use Rattle.proxy.proofs.Puts.{answer_hands}
use Rattle.proxy.proofs.Below.{next_keeps}
use Rattle.proxy.proofs.upstream.next_answer.Goals as goal

pub returns-clause-stays : goal.returns-clause-stays
returns-clause-stays c = next_stays c.in_ok-next.next c.args.server.now c.next.new.self c.next.ensures.settings c.in_ok-next.ensures.stands

pub returns-then-not-can_next-clause-time : goal.returns-then-not-can_next-clause-time
returns-then-not-can_next-clause-time c = time_same c.args.server.now

pub returns-clause-time : goal.returns-clause-time
returns-clause-time c = time_stays c.args.server.now asked.next _ c.next.new.self c.next.ensures.settings c.in_ok-next.ensures.stands (λ n. refl)

pub returns-clause-leaves : goal.returns-clause-leaves
returns-clause-leaves c = answer_less c.in_ok-next.next c.args.server.now c.next.new.self c.next.ensures.settings (sym c.can_next.ensures ∙ c.if-not-can_next.false) c.in_ok-next.ensures.stands

pub returns-clause-hands : goal.returns-clause-hands
returns-clause-hands c = answer_hands c.in_ok-next.next c.args.server.now c.next.new.self c.next.ensures.settings c.in_ok-next.ensures.stands

pub returns-then-not-can_next-clause-hands : goal.returns-then-not-can_next-clause-hands
returns-then-not-can_next-clause-hands c = inl (sym c.can_next.ensures ∙ c.if-not-can_next.true)

pub returns-clause-waits : goal.returns-clause-waits
returns-clause-waits c = next_keeps c.args.server.now c.next.new.self _ c.in_ok-next.ensures.stands
