-- What is known of a listener as an acceptor: how often it failed, and how many connections it gave.
use Rattle.std.specs.Prelude.{false}
use Rattle.http_transport.specs.Opening.{Opening}
use Rattle.net_sockets.specs.declared.acceptor.TcpAcceptor.{TcpAcceptor}

-- it never answers that none follows
abbrev pub acceptor_opening : {R : Type 0} → TcpAcceptor R → Opening
acceptor_opening d = record { faults = d.faults; given = d.given; ended = false }

-- it has given no connection, and counted no failure
abbrev pub unused : Opening
unused = record { faults = 0; given = 0; ended = false }
