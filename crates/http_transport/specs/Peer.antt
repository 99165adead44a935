-- Who is on the other side of a connection.
use Rattle.std.specs.Prelude.{Option}
use Rattle.std.specs.declared.net.socket_addr.SocketAddr.{SocketAddr}

-- the address, where it is known
abbrev pub PeerAddress : Type 0
PeerAddress = Option SocketAddr
