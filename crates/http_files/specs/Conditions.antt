-- How a GET or a HEAD is answered by its conditions (RFC 9110, section 13).
use Rattle.std.specs.Prelude.{ℕ, List, Bool, true, not, nat_lt, Option, Some, None, option_map, if◌then◌else◌}
use Rattle.httpdate.specs.Date.{parse_secs}
use Rattle.http_files.specs.declared.conditions.Conditions.{Conditions}
use Rattle.http_files.specs.declared.conditions.Verdict.{Verdict}
use Rattle.http_files.specs.declared.conditions.Verdict.TheVariants.{Served, Unmodified, Failed}

-- what was changed at this second is no younger than the date, where that is one (section 13.1.4)
abbrev pub unchanged_since : List ℕ → ℕ → Option Bool
unchanged_since date seconds = option_map (λ limit. not (nat_lt limit seconds)) (parse_secs date)

-- The condition of tags holds. Where that is missing the one of a date does, and without both nothing is asked.
abbrev pub holds : Option Bool → Option Bool → Bool
holds (Some tags) date = tags
holds None (Some date) = date
holds None None = true

-- Steps 1 and 2 of section 13.2.2: where `If-Match`, or without it `If-Unmodified-Since`, is false, the answer is 412.
-- Steps 3 and 4: where then `If-None-Match`, or without it `If-Modified-Since`, is false, it is 304.
abbrev pub verdict_of : Conditions → Verdict
verdict_of c =
    if holds c.if_match c.if_unmodified_since then (if holds c.if_none_match c.if_modified_since then Served else Unmodified) else Failed
