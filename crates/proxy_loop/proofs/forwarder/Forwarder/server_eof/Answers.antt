use Rattle.std.proofs.Common.{sym, ap, ◌∙◌}
use Rattle.model_client.specs.ClientEvent as asked
use Rattle.proxy.specs.Kept.{server_of, server_allows}
use Rattle.model_proxy.specs.Past as event
use Rattle.model_proxy.specs.Past.{done}
use Rattle.proxy.specs.declared.proxy.Proxy.{Proxy}
use Rattle.proxy_loop.proofs.Histories.{goes_by, does, seen_by, told, untold}
use Rattle.proxy_loop.proofs.forwarder.Forwarder.server_eof.Goals as goal

pub invariant_of-self : goal.invariant_of-self
invariant_of-self c = goes_by event.server_eof done c.self.inside.proxy c.server_eof.new.self c.self.invariant
    (sym c.can_read_server.ensures.eof ∙ c.if-not-can_read_server.false) c.in-Ok.ensures.goes c.in-Ok.ensures.serves c.in-Ok.ensures.replies

pub returns-then-not-can_read_server-clause-goes : goal.returns-then-not-can_read_server-clause-goes
returns-then-not-can_read_server-clause-goes c =
    untold (server_allows (server_of c.args.self.now) asked.eof) event.server_eof done c.args.self.now
    (ap (λ (p : Proxy). server_allows (server_of p) asked.eof) (sym c.self.view_is) ∙ sym c.can_read_server.ensures.eof ∙ c.if-not-can_read_server.true)

pub returns-then-not-can_read_server-clause-told : goal.returns-then-not-can_read_server-clause-told
returns-then-not-can_read_server-clause-told c = sym (ap (λ (p : Proxy). server_allows (server_of p) asked.eof) (sym c.self.view_is) ∙ sym c.can_read_server.ensures.eof ∙ c.if-not-can_read_server.true)

pub returns-in-Ok-clause-goes : goal.returns-in-Ok-clause-goes
returns-in-Ok-clause-goes c =
    told (server_allows (server_of c.args.self.now) asked.eof) event.server_eof done c.args.self.now c.server_eof.new.self
    (ap (λ (p : Proxy). server_allows (server_of p) asked.eof) (sym c.self.view_is) ∙ sym c.can_read_server.ensures.eof ∙ c.if-not-can_read_server.false)
    (seen_by event.server_eof done c.self.inside.proxy c.args.self.now c.server_eof.new.self c.self.view_is
    (does event.server_eof done c.self.inside.proxy c.server_eof.new.self c.self.invariant c.in-Ok.ensures.goes c.in-Ok.ensures.rests c.in-Ok.ensures.serves c.in-Ok.ensures.replies))

pub returns-in-Ok-clause-told : goal.returns-in-Ok-clause-told
returns-in-Ok-clause-told c = sym (ap (λ (p : Proxy). server_allows (server_of p) asked.eof) (sym c.self.view_is) ∙ sym c.can_read_server.ensures.eof ∙ c.if-not-can_read_server.false)
