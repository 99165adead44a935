-- How the body of an answer comes to its end for its reader.
use Rattle.std.specs.Prelude.{Bool, true, false, ◌||◌}
use Rattle.model_client.specs.ClientEvent as on
use Rattle.model_client.specs.ClientEvent.{ClientEvent, ClientOutcome}
use Rattle.model_client.specs.ClientTrace.{Happened}

-- its end is told, or that it is faulty
abbrev pub tells_end : ClientOutcome → Bool
tells_end on.body_ended = true
tells_end (on.broken_by fault) = true
tells_end _ = false

-- its rest isn't wanted
abbrev pub is_drop : ClientEvent → Bool
is_drop on.drop_body = true
is_drop _ = false

-- one of them happens
abbrev pub ends_body : Happened → Bool
ends_body s = is_drop s.event || tells_end s.outcome
