use Rattle.std.proofs.Common.{length, min}
use Rattle.proxy.specs.Kept.{client_room}
use Rattle.proxy_loop.proofs.flow.take_in_client.Goals as goal

pub returns-clause-cause : goal.returns-clause-cause
returns-clause-cause g c = c.read_client.ensures.cause (min (client_room c.args.forwarder.now) (length c.args.room.now))
