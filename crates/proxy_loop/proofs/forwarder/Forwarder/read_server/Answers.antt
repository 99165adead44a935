use Rattle.model_proxy.specs.Past as event
use Rattle.model_proxy.specs.Past.{took}
use Rattle.proxy.specs.Kept.{server_room}
use Rattle.proxy_loop.proofs.Histories.{goes_by, does, seen_by, takes}
use Rattle.proxy_loop.proofs.forwarder.Forwarder.read_server.Goals as goal

pub invariant_of-self : goal.invariant_of-self
invariant_of-self c = goes_by (event.server c.args.bytes.now) (took c.in-Ok.count) c.self.inside.proxy c.read_server.new.self c.self.invariant
    tt c.in-Ok.ensures.goes c.in-Ok.ensures.serves c.in-Ok.ensures.replies

pub returns-in-Ok : goal.returns-in-Ok
returns-in-Ok c = record {
  goes = seen_by (event.server c.args.bytes.now) (took c.in-Ok.count) c.self.inside.proxy c.args.self.now c.read_server.new.self c.self.view_is
      (does (event.server c.args.bytes.now) (took c.in-Ok.count) c.self.inside.proxy c.read_server.new.self c.self.invariant c.in-Ok.ensures.goes c.in-Ok.ensures.rests c.in-Ok.ensures.serves c.in-Ok.ensures.replies);
  took = takes c.self.inside.proxy c.args.self.now c.in-Ok.count c.args.bytes.now server_room c.self.view_is c.self.invariant c.in-Ok.ensures.took;
}
