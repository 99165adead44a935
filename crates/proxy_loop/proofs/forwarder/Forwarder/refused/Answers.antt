use Rattle.std.proofs.Common.{sym, ap, ◌∙◌}
use Rattle.proxy.specs.Kept.{wants_server}
use Rattle.model_proxy.specs.Past as event
use Rattle.model_proxy.specs.Past.{done}
use Rattle.proxy.specs.declared.proxy.Proxy.{Proxy}
use Rattle.proxy_loop.proofs.Histories.{goes_by, does, seen_by, told, untold}
use Rattle.proxy_loop.proofs.forwarder.Forwarder.refused.Goals as goal

pub invariant_of-self : goal.invariant_of-self
invariant_of-self c = goes_by event.refused done c.self.inside.proxy c.refused.new.self c.self.invariant
    (sym c.wants_server.ensures ∙ c.if-not-wants_server.false) c.in-Ok.ensures.goes c.in-Ok.ensures.serves c.in-Ok.ensures.replies

pub returns-then-not-wants_server-clause-goes : goal.returns-then-not-wants_server-clause-goes
returns-then-not-wants_server-clause-goes c =
    untold (wants_server c.args.self.now) event.refused done c.args.self.now
    (ap (λ (p : Proxy). wants_server p) (sym c.self.view_is) ∙ sym c.wants_server.ensures ∙ c.if-not-wants_server.true)

pub returns-then-not-wants_server-clause-told : goal.returns-then-not-wants_server-clause-told
returns-then-not-wants_server-clause-told c = sym (ap (λ (p : Proxy). wants_server p) (sym c.self.view_is) ∙ sym c.wants_server.ensures ∙ c.if-not-wants_server.true)

pub returns-in-Ok-clause-goes : goal.returns-in-Ok-clause-goes
returns-in-Ok-clause-goes c =
    told (wants_server c.args.self.now) event.refused done c.args.self.now c.refused.new.self
    (ap (λ (p : Proxy). wants_server p) (sym c.self.view_is) ∙ sym c.wants_server.ensures ∙ c.if-not-wants_server.false)
    (seen_by event.refused done c.self.inside.proxy c.args.self.now c.refused.new.self c.self.view_is
    (does event.refused done c.self.inside.proxy c.refused.new.self c.self.invariant c.in-Ok.ensures.goes c.in-Ok.ensures.rests c.in-Ok.ensures.serves c.in-Ok.ensures.replies))

pub returns-in-Ok-clause-told : goal.returns-in-Ok-clause-told
returns-in-Ok-clause-told c = sym (ap (λ (p : Proxy). wants_server p) (sym c.self.view_is) ∙ sym c.wants_server.ensures ∙ c.if-not-wants_server.false)
