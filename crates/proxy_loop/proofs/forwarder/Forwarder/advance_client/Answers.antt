use Rattle.std.proofs.Common.{take, subst, ap, length, sym, ◌∙◌, ◌≤◌}
use Rattle.model_h1.specs.Event as on
use Rattle.model_proxy.specs.Past as event
use Rattle.model_proxy.specs.Past.{gave}
use Rattle.proxy.specs.declared.proxy.Proxy.{Proxy}
use Rattle.proxy.specs.Kept.{client_of, client_takes}
use Rattle.proxy_loop.specs.History.{ForwarderDoes}
use Rattle.proxy_loop.proofs.Histories.{goes_by, does}
use Rattle.proxy_loop.proofs.forwarder.Forwarder.advance_client.Goals as goal

pub invariant_of-self : goal.invariant_of-self
invariant_of-self c =
    goes_by (event.to_client c.args.count) (gave (take c.args.count ((client_of c.self.inside.proxy).kept.buffered))) c.self.inside.proxy c.advance_client.new.self c.self.invariant (
      ap (λ (p : Proxy). client_takes p (on.write c.args.count)) c.self.view_is ∙ c.requires.can_write_client,
      subst (λ (p : Proxy). c.args.count ≤ length ((client_of p).kept.buffered)) (sym c.self.view_is) c.requires.fits,
    ) c.in-Ok.ensures.goes c.in-Ok.ensures.serves c.in-Ok.ensures.replies

pub returns-in-Ok : goal.returns-in-Ok
returns-in-Ok c = record {
  goes = subst (λ (p : Proxy). ForwarderDoes (event.to_client c.args.count) (gave (take c.args.count ((client_of p).kept.buffered))) p c.advance_client.new.self) c.self.view_is
      (does (event.to_client c.args.count) (gave (take c.args.count ((client_of c.self.inside.proxy).kept.buffered))) c.self.inside.proxy c.advance_client.new.self c.self.invariant c.in-Ok.ensures.goes c.in-Ok.ensures.rests
      c.in-Ok.ensures.serves c.in-Ok.ensures.replies);
}
