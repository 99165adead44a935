use Rattle.std.proofs.Common.{take, length, sym, arith}
use Rattle.proxy.specs.Kept.{server_room}
use Rattle.model_proxy.specs.Past as event
use Rattle.proxy_loop.proofs.Flows.{took_all}
use Rattle.proxy_loop.proofs.flow.read_server.Goals as goal

pub returns-clause-came : goal.returns-clause-came
returns-clause-came g c =
    took_all event.server c.in-Ok.count c.in_ok-taken.taken (length c.args.piece.now) (server_room c.args.forwarder.now) c.args.forwarder.now c.read_server.new.self
    (g.S.Source.left c.args.source.now) (g.S.Source.left c.read.new.self) (take c.in-Ok.count c.read.new.buf) (sym c.in-Ok.ensures.bound.1)
    (omega (arith, c.in-Ok.ensures.bound.0, c.read.auto.buf)) c.requires.fits c.in_ok-taken.ensures.took c.in-Ok.ensures.bytes.0 c.in_ok-taken.ensures.goes
