-- What is known of a socket as a transport: no bytes, but its end, its shutdown and the counts; and which writes are put off.
use Rattle.std.specs.Prelude.{◌<◌, ℕ, Bool, true, false, None, List, length}
use Rattle.futures.specs.declared.task.Poll.{Poll}
use Rattle.futures.specs.declared.task.Poll.TheVariants.{Ready, Pending}
use Rattle.http_transport.specs.Peer.{PeerAddress}
use Rattle.http_transport.specs.Wiring.{Wiring}
use Rattle.serve_async.specs.declared.tokio_transport.TokioTransport.{TokioTransport}

abbrev pub tokio_wiring : {R : Type 0} → TokioTransport R → Wiring
tokio_wiring w =
    record {
      received = None;
      sent = None;
      ended = w.ended;
      shut = w.shut;
      faults = w.faults;
      read_waits = w.reads;
      write_waits = w.writes;
      flush_waits = 0;
      shut_waits = w.shuts;
    }

-- who is on the other side, as it was told when the socket was accepted
abbrev pub tokio_peer : {R : Type 0} → TokioTransport R → PeerAddress
tokio_peer w = w.peer

abbrev pub is_pending : {A : Type 0} → Poll A → Bool
is_pending (Ready x) = false
is_pending Pending = true

-- few bytes that are more than when the last write was put off
abbrev pub Grew : {R : Type 0} → TokioTransport R → List ℕ → Type 0
Grew w bytes = (length bytes < 4096) × (w.offered < length bytes)
