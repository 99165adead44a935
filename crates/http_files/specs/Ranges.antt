-- Which bytes of a file are asked for (RFC 7233, section 2.1).
use Rattle.std.specs.Prelude.{ℕ, ◌+◌, ◌*◌, ◌-◌, ◌^◌, min, List, [], ◌∷◌, length, drop, Bool, ◌&&◌, ◌||◌, ◌==◌, not, Option, Some, None, if◌then◌else◌, nat_lt, nat_eq, codes}
use Rattle.std.specs.Char.{is_ascii_digit}
use Rattle.std.specs.List.{list_all, starts_with, position_or_len, before_first, after_first}
use Rattle.http_files.specs.declared.ranges.Asked.{Asked}
use Rattle.http_files.specs.declared.ranges.Asked.TheVariants.{Whole, Part, Unsatisfiable}

-- From a first byte on, up to a last one where it is given. A last byte before the first is no range, which is passed over;
-- a first one behind the file's end is none that can be given; a last one behind the end is the file's.
abbrev pub from_first : ℕ → Option ℕ → ℕ → Asked
from_first first None length = if nat_lt first length then Part first (length - 1) else Unsatisfiable
from_first first (Some last) length =
    if nat_lt last first then Whole else (if nat_lt first length then Part first (min last (length - 1)) else Unsatisfiable)

-- So many of the last bytes, and all of them where there are fewer. None can't be given; of an empty file some can, which is
-- all of it.
abbrev pub last_bytes : ℕ → ℕ → Asked
last_bytes count length =
    if count == 0 then Unsatisfiable else (if length == 0 then Whole else Part (length - min count length) (length - 1))

abbrev pub asked_of : Option ℕ → Option ℕ → ℕ → Asked
asked_of (Some first) last length = from_first first last length
asked_of None (Some count) length = last_bytes count length
asked_of None None length = Whole

-- ---- its text

-- the number that digits write, after those that are read already
abbrev pub read_on : ℕ → List ℕ → ℕ
read_on n [] = n
read_on n (c ∷ cs) = read_on (10 * n + (c - 48)) cs

-- a place is a number of digits alone, and one that is too large is the greatest
abbrev pub is_number : List ℕ → Bool
is_number text = not (length text == 0) && list_all is_ascii_digit text

abbrev pub place_in : List ℕ → Option ℕ
place_in text = if is_number text then Some (min (read_on 0 text) (2 ^ 64 - 1)) else None

-- both are places, or left out; else it is no range
abbrev pub asked_by : List ℕ → List ℕ → ℕ → Asked
asked_by first last size =
    if (length first == 0 || is_number first) && (length last == 0 || is_number last) then asked_of (place_in first) (place_in last) size else Whole

abbrev pub is_dash : ℕ → Bool
is_dash b = b == 45

-- what stands before the first dash and after it, where white space has no place
abbrev pub asked_in : List ℕ → ℕ → Asked
asked_in spec size =
    if nat_lt (position_or_len is_dash spec) (length spec) then asked_by (before_first is_dash spec) (after_first is_dash spec) size else Whole

-- what a `Range` asks for, whose unit are bytes
abbrev pub range_of : List ℕ → ℕ → Asked
range_of value size = if starts_with nat_eq value (codes "bytes=") then asked_in (drop 6 value) size else Whole
