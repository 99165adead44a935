-- What the headers of a message say under one name. The first value of a name counts.
use Rattle.std.specs.Prelude.{ℕ, List, IsSome}
use Rattle.http_map.specs.HeaderMap.{Entries, get}
use Rattle.http_values.specs.OneValue.{HasReading}

-- there is a value of the name
abbrev pub HasName : Entries → List ℕ → Type 0
HasName headers name = IsSome (get headers name)

-- the first value of the name is text, it isn't empty, and the text has the property
abbrev pub FirstReads : (List ℕ → Type 0) → Entries → List ℕ → Type 0
FirstReads P headers name = HasReading P (get headers name)
