-- Header lines: as pairs, as the model's headers, and in a map.
use Rattle.std.specs.Prelude.{ℕ, List, [], fold}
use Rattle.http_header.specs.FieldName.{IsFieldName}
use Rattle.http_header.specs.FieldValue.{IsFieldValue, plain_value}
use Rattle.http_header.specs.Token.{lowercase}
use Rattle.http_map.specs.HeaderMap.{Entries, append}
use Rattle.model_h1.specs.Request.{Header}

-- a line's name and its value without the white space around it
abbrev pub Line : Type 0
Line = List ℕ × List ℕ

-- a header field may have the line's name
abbrev pub HasName : Line → Type 0
HasName line = IsFieldName line.0

-- and its value
abbrev pub IsLine : Line → Type 0
IsLine line = IsFieldName line.0 × IsFieldValue line.1

-- the line as a header: its name in lower case
abbrev pub line_header : Line → Header
line_header line = record { name = lowercase line.0; value = line.1 }

-- the headers in a map, line by line
abbrev pub header_map : List Header → Entries
header_map headers = fold (λ entries header. append entries header.name (plain_value header.value)) [] headers
