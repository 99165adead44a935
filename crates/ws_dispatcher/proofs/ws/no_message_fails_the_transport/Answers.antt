use Rattle.ws_dispatcher.proofs.Forbidden.{no_transport, no_lack}
use Rattle.ws_dispatcher.proofs.ws.no_message_fails_the_transport.Goals as goal

pub returns : goal.returns
returns g c error old new message why io =
    let forbids = why.refused (no_lack error io) in no_transport error forbids.0 io forbids.2
