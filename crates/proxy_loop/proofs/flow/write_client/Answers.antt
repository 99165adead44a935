use Rattle.std.proofs.Common.{sym, ap, ◌∙◌}
use Rattle.model_h1.specs.Event as on
use Rattle.proxy.specs.declared.proxy.Proxy.{Proxy}
use Rattle.proxy.specs.Kept.{client_takes}
use Rattle.proxy_loop.specs.Flow.{may_write_client}
use Rattle.proxy_loop.proofs.Flows.{not_allowed, has_failed}
use Rattle.proxy_loop.proofs.flow.write_client.Goals as goal

pub returns-then-not-can_write_client-clause-cause : goal.returns-then-not-can_write_client-clause-cause
returns-then-not-can_write_client-clause-cause g c =
    not_allowed (may_write_client c.args.forwarder.now) (g.K.Sink.faults c.args.sink.now)
    (ap (λ (p : Proxy). may_write_client p) (sym c.proxy.ensures) ∙ sym (c.can_write_client.ensures 0) ∙ c.if-not-can_write_client.true)

pub returns-in_default-clause-cause : goal.returns-in_default-clause-cause
returns-in_default-clause-cause g c =
    has_failed (may_write_client c.args.forwarder.now) (g.K.Sink.faults c.args.sink.now) (g.K.Sink.faults c.write.new.self)
    (ap (λ (p : Proxy). may_write_client p) (sym c.proxy.ensures) ∙ sym (c.can_write_client.ensures 0) ∙ c.if-not-can_write_client.false) c.in_default.ensures.fault

pub advance_client-requires-clause-can_write_client : goal.advance_client-requires-clause-can_write_client
advance_client-requires-clause-can_write_client g c =
    ap (λ (p : Proxy). client_takes p (on.write c.in-Ok.count)) (sym c.proxy.ensures) ∙ sym (c.can_write_client.ensures c.in-Ok.count) ∙ c.if-not-can_write_client.false
