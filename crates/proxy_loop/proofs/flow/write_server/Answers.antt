use Rattle.std.proofs.Common.{sym, ap, ◌∙◌}
use Rattle.proxy.specs.declared.proxy.Proxy.{Proxy}
use Rattle.proxy_loop.specs.Flow.{may_write_server}
use Rattle.proxy_loop.proofs.Flows.{not_allowed, has_failed}
use Rattle.proxy_loop.proofs.flow.write_server.Goals as goal

pub returns-then-not-can_write_server-clause-cause : goal.returns-then-not-can_write_server-clause-cause
returns-then-not-can_write_server-clause-cause g c =
    not_allowed (may_write_server c.args.forwarder.now) (g.K.Sink.faults c.args.sink.now)
    (ap (λ (p : Proxy). may_write_server p) (sym c.proxy.ensures) ∙ sym (c.can_write_server.ensures 0) ∙ c.if-not-can_write_server.true)

pub returns-in_default-clause-cause : goal.returns-in_default-clause-cause
returns-in_default-clause-cause g c =
    has_failed (may_write_server c.args.forwarder.now) (g.K.Sink.faults c.args.sink.now) (g.K.Sink.faults c.write.new.self)
    (ap (λ (p : Proxy). may_write_server p) (sym c.proxy.ensures) ∙ sym (c.can_write_server.ensures 0) ∙ c.if-not-can_write_server.false) c.in_default.ensures.fault
