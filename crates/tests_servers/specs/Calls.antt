-- The calls of a service that answers at once.
use Rattle.std.specs.Prelude.{Option, None, is_some}
use Rattle.http_services.specs.Serving.{Calling}

-- a call that holds its request may be polled
abbrev pub answers_once : {Q : Type 0} → Option Q → Calling Q
answers_once call = record { is_open = is_some call; asked = call; took = None }
