-- The events and the outcomes that are noted of the calls of a connection.
use Rattle.h1_connection.specs.declared.connection.heads.NextHead.{NextHead}
use Rattle.h1_connection.specs.declared.connection.heads.NextHead.TheVariants as next
use Rattle.h1_connection.specs.declared.connection.ticks.Expiry.{Expiry}
use Rattle.h1_connection.specs.declared.connection.ticks.Expiry.TheVariants as expiry
use Rattle.h1_connection.specs.declared.event.Event.{Event}
use Rattle.h1_connection.specs.declared.event.Event.TheVariants as came
use Rattle.h1_connection.specs.declared.event.Outcome.{Outcome}
use Rattle.h1_connection.specs.declared.event.Outcome.TheVariants as out
use Rattle.h1_payload.specs.declared.pulled.Pulled.{Pulled}
use Rattle.h1_payload.specs.declared.pulled.Pulled.TheVariants as pulled
use Rattle.h1_traced.specs.declared.notes.Bare.{Bare}
use Rattle.h1_traced.specs.declared.notes.Bare.TheVariants as bare

-- an event that brings nothing
abbrev pub bare_event : Bare → Event
bare_event bare.Eof = came.Eof
bare_event bare.DropBody = came.DropBody
bare_event bare.Continue = came.Continue
bare_event bare.BodyEnd = came.BodyEnd
bare_event bare.BodyError = came.BodyError
bare_event bare.Drain = came.Drain

-- where the next head was asked for
abbrev pub next_outcome : NextHead → Outcome
next_outcome (next.Head item) = out.Head item
next_outcome (next.Fault fault) = out.Fault fault
next_outcome next.Pending = out.Pending
next_outcome (next.Closed end) = out.Closed end

-- where more of a body was asked for
abbrev pub pulled_outcome : Pulled → Outcome
pulled_outcome (pulled.Bytes bytes) = out.Bytes bytes
pulled_outcome (pulled.Trailers trailers) = out.Trailers trailers
pulled_outcome pulled.End = out.BodyEnd
pulled_outcome (pulled.Broken fault) = out.Broken fault
pulled_outcome pulled.Pending = out.Pending

-- where a moment came
abbrev pub tick_outcome : Expiry → Outcome
tick_outcome expiry.None = out.Done
tick_outcome (expiry.Expired end) = out.Expired end
tick_outcome expiry.Abandoned = out.Abandoned
