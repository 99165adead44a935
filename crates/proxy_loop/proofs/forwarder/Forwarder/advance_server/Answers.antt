use Rattle.std.proofs.Common.{take, subst, ap, length, sym, ◌∙◌, ◌≤◌}
use Rattle.model_client.specs.ClientEvent as asked
use Rattle.model_proxy.specs.Past as event
use Rattle.model_proxy.specs.Past.{gave}
use Rattle.proxy.specs.declared.proxy.Proxy.{Proxy}
use Rattle.proxy.specs.Kept.{server_of, server_text, server_allows}
use Rattle.proxy_loop.specs.History.{ForwarderDoes}
use Rattle.proxy_loop.proofs.Histories.{goes_by, does}
use Rattle.proxy_loop.proofs.forwarder.Forwarder.advance_server.Goals as goal

pub invariant_of-self : goal.invariant_of-self
invariant_of-self c =
    goes_by (event.to_server c.args.count) (gave (take c.args.count (server_text (server_of c.self.inside.proxy)))) c.self.inside.proxy c.advance_server.new.self c.self.invariant (
      ap (λ (p : Proxy). server_allows (server_of p) (asked.write c.args.count)) c.self.view_is ∙ c.requires.can_write_server,
      subst (λ (p : Proxy). c.args.count ≤ length (server_text (server_of p))) (sym c.self.view_is) c.requires.fits,
    ) c.in-Ok.ensures.goes c.in-Ok.ensures.serves c.in-Ok.ensures.replies

pub returns-in-Ok : goal.returns-in-Ok
returns-in-Ok c = record {
  goes = subst (λ (p : Proxy). ForwarderDoes (event.to_server c.args.count) (gave (take c.args.count (server_text (server_of p)))) p c.advance_server.new.self) c.self.view_is
      (does (event.to_server c.args.count) (gave (take c.args.count (server_text (server_of c.self.inside.proxy)))) c.self.inside.proxy c.advance_server.new.self c.self.invariant c.in-Ok.ensures.goes c.in-Ok.ensures.rests
      c.in-Ok.ensures.serves c.in-Ok.ensures.replies);
}
