-- What a single header value is read as.
use Rattle.std.specs.Prelude.{ℕ, ◌<◌, List, length, Option, Some, None}
use Rattle.http_header.specs.FieldValue.{FieldValue, IsVisibleAscii}

-- there is a value, it is text, it isn't empty, and the text has the property
abbrev pub HasReading : (List ℕ → Type 0) → Option FieldValue → Type 0
HasReading P None = ⊥
HasReading P (Some value) = IsVisibleAscii value.bytes × (0 < length value.bytes) × P value.bytes
