-- What the iterators that take a `HeaderMap` apart have left.
use Rattle.std.specs.Prelude.{◌≡◌, ℕ, ◌<◌, List, [], ◌∷◌, ◌++◌, map, length, flat_map, All, Option, Some, None, MatchOption, Result, MatchResult}
use Rattle.http_header.specs.FieldValue.{FieldValue}
use Rattle.http_map.specs.HeaderMap.{Pair, Entry, Entries, IsEntry, pairs}

-- further values of a name
abbrev pub unnamed : List FieldValue → List (Option (List ℕ) × FieldValue)
unnamed values = map (λ value. (None, value)) values

-- the values of a name, with the name beside the first alone
abbrev pub drained_entry : List ℕ → List FieldValue → List (Option (List ℕ) × FieldValue)
drained_entry name [] = []
drained_entry name (value ∷ values) = (Some name, value) ∷ unnamed values

-- what `drain` gives
abbrev pub drained : Entries → List (Option (List ℕ) × FieldValue)
drained m = flat_map (λ e. drained_entry e.0 e.1) m

-- what a `Drain` has left: the values of the name in hand, and then those of the later names
abbrev pub drained_left : List FieldValue → Entries → List (Option (List ℕ) × FieldValue)
drained_left values later = unnamed values ++ drained later

-- the count is kept, and each later entry is one of a map
pub record IsDrain (values : List FieldValue) (later : Entries) (left : ℕ) : Type 0 where
  pub count : left ≡ length (drained_left values later)
  pub entries : All IsEntry later

-- the name in hand with those of its values that are left
abbrev pub current_entries : Option Entry → Entries
current_entries None = []
current_entries (Some e) = e ∷ []

-- the names that are left, each with those of its values that are left
abbrev pub entries_left : Option Entry → Entries → Entries
entries_left current later = current_entries current ++ later

-- the count is kept, and each entry that is left is one of a map
pub record IsIntoIter (current : Option Entry) (later : Entries) (left : ℕ) : Type 0 where
  pub count : left ≡ length (pairs (entries_left current later))
  pub entries : All IsEntry (entries_left current later)

-- a call of `next` on an iterator with `before` left gave the first pair, or an error, after which nothing is left
abbrev pub GivesFirst : {E : Type 0} → List Pair → Option (Result Pair E) → List Pair → Type 0
GivesFirst before item after =
    MatchOption item ((before ≡ []) × (after ≡ [])) (λ r. MatchResult r (λ pair. before ≡ pair ∷ after) (λ _. (0 < length before) × (after ≡ [])))
