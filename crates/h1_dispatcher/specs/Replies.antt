-- An answer of the service that is at hand and wasn't handed on to the connection.
use Rattle.std.specs.Prelude.{◌≡◌, List, false}
use Rattle.model_h1.specs.Sums as sums
use Rattle.h1_traced.specs.Traced.{TracedStands}
use Rattle.h1_dispatcher.specs.View.{View, is_replying}

-- there is none
abbrev pub HasNoReply : View → Type 0
HasNoReply v = is_replying v.stage ≡ false

-- Where the traced connection stands for a trace and there was none, there is none.
abbrev pub HandsOn : View → View → Type 0
HandsOn v w = (trace : List sums.Step) → TracedStands v.traced trace → HasNoReply v → HasNoReply w
