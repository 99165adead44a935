-- What is known of a transport in memory: all.
use Rattle.std.specs.Prelude.{Some}
use Rattle.http_transport.specs.Wiring.{Wiring}
use Rattle.http_transport.specs.MemTransports.{MemWiring}

-- it is never pending at a flush or a shutdown
abbrev pub known : MemWiring → Wiring
known w =
    record {
      received = Some w.received;
      sent = Some w.sent;
      ended = w.ended;
      shut = w.shut;
      faults = w.faults;
      read_waits = w.reads;
      write_waits = w.writes;
      flush_waits = 0;
      shut_waits = 0;
    }
