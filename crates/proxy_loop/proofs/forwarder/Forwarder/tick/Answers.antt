use Rattle.std.proofs.Common.{sym, ap, ◌∙◌}
use Rattle.model_h1.specs.Event as on
use Rattle.proxy.specs.Kept.{client_takes}
use Rattle.model_proxy.specs.Past as event
use Rattle.model_proxy.specs.Past.{done}
use Rattle.proxy.specs.declared.proxy.Proxy.{Proxy}
use Rattle.proxy_loop.proofs.Histories.{goes_by, does, seen_by, told, untold}
use Rattle.proxy_loop.proofs.forwarder.Forwarder.tick.Goals as goal

pub invariant_of-self : goal.invariant_of-self
invariant_of-self c = goes_by (event.tick c.args.moment) done c.self.inside.proxy c.tick.new.self c.self.invariant
    (sym c.can_tick.ensures ∙ c.if-not-can_tick.false) c.in-Ok.ensures.goes c.in-Ok.ensures.serves c.in-Ok.ensures.replies

pub returns-then-not-can_tick-clause-goes : goal.returns-then-not-can_tick-clause-goes
returns-then-not-can_tick-clause-goes c =
    untold (client_takes c.args.self.now (on.tick c.args.moment)) (event.tick c.args.moment) done c.args.self.now
    (ap (λ (p : Proxy). client_takes p (on.tick c.args.moment)) (sym c.self.view_is) ∙ sym c.can_tick.ensures ∙ c.if-not-can_tick.true)

pub returns-then-not-can_tick-clause-told : goal.returns-then-not-can_tick-clause-told
returns-then-not-can_tick-clause-told c = sym (ap (λ (p : Proxy). client_takes p (on.tick c.args.moment)) (sym c.self.view_is) ∙ sym c.can_tick.ensures ∙ c.if-not-can_tick.true)

pub returns-in-Ok-clause-goes : goal.returns-in-Ok-clause-goes
returns-in-Ok-clause-goes c =
    told (client_takes c.args.self.now (on.tick c.args.moment)) (event.tick c.args.moment) done c.args.self.now c.tick.new.self
    (ap (λ (p : Proxy). client_takes p (on.tick c.args.moment)) (sym c.self.view_is) ∙ sym c.can_tick.ensures ∙ c.if-not-can_tick.false)
    (seen_by (event.tick c.args.moment) done c.self.inside.proxy c.args.self.now c.tick.new.self c.self.view_is
    (does (event.tick c.args.moment) done c.self.inside.proxy c.tick.new.self c.self.invariant c.in-Ok.ensures.goes c.in-Ok.ensures.rests c.in-Ok.ensures.serves c.in-Ok.ensures.replies))

pub returns-in-Ok-clause-told : goal.returns-in-Ok-clause-told
returns-in-Ok-clause-told c = sym (ap (λ (p : Proxy). client_takes p (on.tick c.args.moment)) (sym c.self.view_is) ∙ sym c.can_tick.ensures ∙ c.if-not-can_tick.false)
