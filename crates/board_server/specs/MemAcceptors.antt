-- What is known of an acceptor in memory.
use Rattle.std.specs.Prelude.{false}
use Rattle.http_transport.specs.Opening.{Opening}
use Rattle.board_server.specs.declared.mem_acceptor.MemAcceptor.{MemAcceptor}

abbrev pub acceptor_opening : MemAcceptor → Opening
acceptor_opening d = record { faults = d.faults; given = d.given; ended = d.ended }

-- it has given no connection, and counted no failure
abbrev pub unused : Opening
unused = record { faults = 0; given = 0; ended = false }
