use Rattle.model_proxy.specs.Past as event
use Rattle.model_proxy.specs.Past.{done}
use Rattle.proxy_loop.proofs.Histories.{goes_by, does, seen_by}
use Rattle.proxy_loop.proofs.forwarder.Forwarder.client_eof.Goals as goal

pub invariant_of-self : goal.invariant_of-self
invariant_of-self c = goes_by (event.client_eof) (done) c.self.inside.proxy c.client_eof.new.self c.self.invariant
    tt c.in-Ok.ensures.goes c.in-Ok.ensures.serves c.in-Ok.ensures.replies

pub returns-in-Ok : goal.returns-in-Ok
returns-in-Ok c = record {
  goes = seen_by event.client_eof done c.self.inside.proxy c.args.self.now c.client_eof.new.self c.self.view_is
      (does event.client_eof done c.self.inside.proxy c.client_eof.new.self c.self.invariant c.in-Ok.ensures.goes c.in-Ok.ensures.rests c.in-Ok.ensures.serves c.in-Ok.ensures.replies);
}
