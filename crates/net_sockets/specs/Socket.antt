-- What is known of a socket as a transport: no bytes, but its end, its shutdown and the counts.
use Rattle.std.specs.Prelude.{None}
use Rattle.http_transport.specs.Peer.{PeerAddress}
use Rattle.http_transport.specs.Wiring.{Wiring}
use Rattle.net_sockets.specs.declared.transport.TcpTransport.{TcpTransport}

abbrev pub socket_wiring : {R : Type 0} → TcpTransport R → Wiring
socket_wiring w =
    record {
      received = None;
      sent = None;
      ended = w.ended;
      shut = w.shut;
      faults = w.faults;
      read_waits = w.reads;
      write_waits = w.writes;
      flush_waits = 0;
      shut_waits = w.shuts;
    }

-- who is on the other side, as it was told when the socket was accepted
abbrev pub socket_peer : {R : Type 0} → TcpTransport R → PeerAddress
socket_peer w = w.peer
