-- A `HeaderMap` in contracts: a list of names, first inserted first, each beside the list of its values.
-- A name is written in lower case, as a `HeaderName` holds it.
use Rattle.std.specs.Prelude.{◌≡◌, ℕ, ◌+◌, ◌<◌, ◌^◌, Bool, List, [], ◌∷◌, ◌++◌, map, filter, fold, drop, length, flat_map, bytes_eq, slice_get, All, Option, if◌then◌else◌}
use Rattle.std.specs.List.{list_any, IsDistinct}
use Rattle.http_header.specs.FieldName.{IsHeaderName}
use Rattle.http_header.specs.FieldValue.{FieldValue}

-- one name and all its values
abbrev pub Entry : Type 0
Entry = List ℕ × List FieldValue

-- a whole map, as a list
abbrev pub Entries : Type 0
Entries = List Entry

-- one line of a head: a name with one value
abbrev pub Pair : Type 0
Pair = List ℕ × FieldValue

-- its names, as they stand
abbrev pub keys : Entries → List (List ℕ)
keys m = map (λ e. e.0) m

-- the lengths of the lists of values, in sum
abbrev pub value_count : Entries → ℕ
value_count [] = 0
value_count (e ∷ m) = length e.1 + value_count m

-- whether the name stands in it
abbrev pub contains_key : Entries → List ℕ → Bool
contains_key m name = list_any (bytes_eq name) (keys m)

-- what stands under the name, the earliest first; nothing for a name that is not there
abbrev pub get_all : Entries → List ℕ → List FieldValue
get_all [] name = []
get_all (e ∷ m) name = if bytes_eq name e.0 then e.1 else get_all m name

-- the earliest of them
abbrev pub get : Entries → List ℕ → Option FieldValue
get m name = slice_get (get_all m name) 0

-- the name has this value alone, and keeps its place; a name that was not there comes at the end
abbrev pub insert : Entries → List ℕ → FieldValue → Entries
insert [] name value = (name, value ∷ []) ∷ []
insert (e ∷ m) name value = if bytes_eq name e.0 then (e.0, value ∷ []) ∷ m else e ∷ insert m name value

-- one more value for the name; a name that was not there comes at the end
abbrev pub append : Entries → List ℕ → FieldValue → Entries
append [] name value = (name, value ∷ []) ∷ []
append (e ∷ m) name value = if bytes_eq name e.0 then (e.0, e.1 ++ value ∷ []) ∷ m else e ∷ append m name value

-- the name and its values left out, and the others as they stood
abbrev pub remove : Entries → List ℕ → Entries
remove [] name = []
remove (e ∷ m) name = if bytes_eq name e.0 then m else e ∷ remove m name

-- each pair appended in turn
abbrev pub append_all : Entries → List Pair → Entries
append_all m items = fold (λ n item. append n item.0 item.1) m items

-- another value in place of the first under the name
abbrev pub set_first : Entries → List ℕ → FieldValue → Entries
set_first [] name value = []
set_first (e ∷ m) name value = if bytes_eq name e.0 then (e.0, value ∷ drop 1 e.1) ∷ m else e ∷ set_first m name value

-- the name with its values before the others, where it has a value
abbrev pub filled_first : List ℕ → List FieldValue → Entries → Entries
filled_first name [] m = m
filled_first name (value ∷ values) m = (name, value ∷ values) ∷ m

-- the values that pass the test beside their name. A name whose values all went goes too
abbrev pub retain : (List ℕ → FieldValue → Bool) → Entries → Entries
retain test [] = []
retain test (e ∷ m) = filled_first e.0 (filter (test e.0) e.1) (retain test m)

-- the values of one name, each beside it
abbrev pub entry_pairs : Entry → List Pair
entry_pairs e = map (λ value. (e.0, value)) e.1

-- every name with every value, name by name
abbrev pub pairs : Entries → List Pair
pairs m = flat_map entry_pairs m

-- what an iterator has left that gives every pair: as many as there are values
abbrev pub GivesPairs : Entries → List Pair → Type 0
GivesPairs m left = (left ≡ pairs m) × (length left ≡ value_count m) × (length left < 2 ^ 64)

-- a header name in lower case, with at least one value
pub record IsEntry (e : Entry) : Type 0 where
  pub named : IsHeaderName e.0
  pub filled : 0 < length e.1

-- every map is like this
pub record IsHeaderMap (m : Entries) : Type 0 where
  pub distinct : IsDistinct bytes_eq (keys m)
  pub entries : All IsEntry m
  pub counted : value_count m < 2 ^ 64
