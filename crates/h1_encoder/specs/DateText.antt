-- The date line of a second, as it is kept.
use Rattle.std.specs.Prelude.{ℕ, List, ◌++◌, codes}
use Rattle.httparse.specs.Ascii.{crlf_bytes}
use Rattle.model_h1.specs.AnswerText.{date_of}

-- the date line of a second before the year 10000, and the empty line behind it
abbrev pub date_and_end : ℕ → List ℕ
date_and_end second = codes "date: " ++ (date_of second ++ (crlf_bytes ++ crlf_bytes))
