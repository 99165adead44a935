use Rattle.std.proofs.Common.{take, length, sym, arith}
use Rattle.proxy.specs.Kept.{client_room}
use Rattle.model_proxy.specs.Past as event
use Rattle.proxy_loop.proofs.Flows.{took_all}
use Rattle.proxy_loop.proofs.flow.read_client.Goals as goal

pub returns-clause-came : goal.returns-clause-came
returns-clause-came g c =
    took_all event.client c.in-Ok.count c.in_ok-taken.taken (length c.args.piece.now) (client_room c.args.forwarder.now) c.args.forwarder.now c.read_client.new.self
    (g.S.Source.left c.args.source.now) (g.S.Source.left c.read.new.self) (take c.in-Ok.count c.read.new.buf) (sym c.in-Ok.ensures.bound.1)
    (omega (arith, c.in-Ok.ensures.bound.0, c.read.auto.buf)) c.requires.fits c.in_ok-taken.ensures.took c.in-Ok.ensures.bytes.0 c.in_ok-taken.ensures.goes
