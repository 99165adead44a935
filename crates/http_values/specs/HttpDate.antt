-- Dates and their texts (RFC 7231, section 7.1.1.1).
use Rattle.std.specs.Prelude.{ℕ, List, IsAscii}
use Rattle.std.specs.Str.{trim}
use Rattle.httpdate.specs.Date as date
use Rattle.http_values.specs.declared.shared.http_date.HttpDate.{HttpDate}

-- seconds since 1970
abbrev pub unix_secs : HttpDate → ℕ
unix_secs d = date.unix_secs d.date

-- what a date prints, an IMF-fixdate
abbrev pub http_date_text : HttpDate → List ℕ
http_date_text d = date.date_text d.date

-- the text is ASCII and shows the date in one of the three formats, with white space around it
abbrev pub IsHttpDateText : List ℕ → HttpDate → Type 0
IsHttpDateText text d = IsAscii text × date.IsDateText (trim text) d.date
