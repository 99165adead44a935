-- Facts on a map's list of names with their values.
use Rattle.std.proofs.Common.{◌≡◌, ℕ, ◌+◌, ◌-◌, ◌<◌, ◌≤◌, ap, ◌∙◌, Bool, true, false, if◌then◌else◌, List, [], ◌∷◌, ◌++◌, ◌||◌, length, bytes_eq, All, refl, arith, length-append}
use Rattle.std.proofs.lemmas.List.Elements.{All-cons, All-head, All-tail}
use Rattle.std.proofs.lemmas.List.{length-map}
use Rattle.http_header.specs.FieldName.{IsHeaderName}
use Rattle.http_header.specs.FieldValue.{FieldValue}
use Rattle.http_map.specs.HeaderMap.{Entry, Entries, IsEntry, value_count, contains_key, get_all, insert, append, remove, Pair, entry_pairs, pairs}

-- a test decides which of two maps an edit gives
both : (b : Bool) {A B : Entries} (P : Entries → Type 0) → P A → P B → P (if b then A else B)
both true P a b = a
both false P a b = b

pub entries_cons : (e : Entry) (m : Entries) → IsEntry e → All IsEntry m → All IsEntry (e ∷ m)
entries_cons e m first all = All-cons IsEntry e m first all

pub first_entry : (e : Entry) (m : Entries) → All IsEntry (e ∷ m) → IsEntry e
first_entry e m all = All-head IsEntry e m all

pub later_entries : (e : Entry) (m : Entries) → All IsEntry (e ∷ m) → All IsEntry m
later_entries e m all = All-tail IsEntry e m all

-- the same name with other values
pub with_values : (e : Entry) (values : List FieldValue) → IsEntry e → 0 < length values → IsEntry (e.0, values)
with_values e values is some = record { named = is.named; filled = some }

module _ (name : List ℕ) (value : FieldValue) where
  pub value_count-append : (m : Entries) → value_count (append m name value) ≡ value_count m + 1
  value_count-append [] = refl
  value_count-append (e ∷ m) =
      elim (bytes_eq name e.0) as (λ b. value_count (if b then (e.0, e.1 ++ value ∷ []) ∷ m else e ∷ append m name value) ≡ length e.1 + value_count m + 1)
      [ true ↦ omega (arith, length-append e.1 (value ∷ [])) | false ↦ omega (arith, value_count-append m) ]

  pub value_count-insert : (m : Entries) → value_count (insert m name value) + length (get_all m name) ≡ value_count m + 1
  value_count-insert [] = refl
  value_count-insert (e ∷ m) =
      elim (bytes_eq name e.0) as (λ b. value_count (if b then (e.0, value ∷ []) ∷ m else e ∷ insert m name value) + length (if b then e.1 else get_all m name) ≡ length e.1 + value_count m + 1)
      [ true ↦ omega arith | false ↦ omega (arith, value_count-insert m) ]

  module _ (named : IsHeaderName name) where
    pub entries-append : (m : Entries) → All IsEntry m → All IsEntry (append m name value)
    entries-append [] all = entries_cons (name, value ∷ []) [] (record { named = named; filled = omega arith }) all
    entries-append (e ∷ m) all =
        both (bytes_eq name e.0) (All IsEntry)
        (entries_cons (e.0, e.1 ++ value ∷ []) m (with_values e (e.1 ++ value ∷ []) (first_entry e m all) (omega (arith, length-append e.1 (value ∷ [])))) (later_entries e m all))
        (entries_cons e (append m name value) (first_entry e m all) (entries-append m (later_entries e m all)))

    pub entries-insert : (m : Entries) → All IsEntry m → All IsEntry (insert m name value)
    entries-insert [] all = entries_cons (name, value ∷ []) [] (record { named = named; filled = omega arith }) all
    entries-insert (e ∷ m) all =
        both (bytes_eq name e.0) (All IsEntry)
        (entries_cons (e.0, value ∷ []) m (with_values e (value ∷ []) (first_entry e m all) (omega arith)) (later_entries e m all))
        (entries_cons e (insert m name value) (first_entry e m all) (entries-insert m (later_entries e m all)))

module _ (name : List ℕ) where
  pub value_count-remove : (m : Entries) → value_count (remove m name) + length (get_all m name) ≡ value_count m
  value_count-remove [] = refl
  value_count-remove (e ∷ m) =
      elim (bytes_eq name e.0) as (λ b. value_count (if b then m else e ∷ remove m name) + length (if b then e.1 else get_all m name) ≡ length e.1 + value_count m)
      [ true ↦ omega arith | false ↦ omega (arith, value_count-remove m) ]

  -- a name of the map has a value
  pub some-get_all : (m : Entries) → All IsEntry m → contains_key m name ≡ true → 0 < length (get_all m name)
  some-get_all [] all = λ there. cc
  some-get_all (e ∷ m) all =
      elim (bytes_eq name e.0) as (λ b. (b || contains_key m name) ≡ true → 0 < length (if b then e.1 else get_all m name))
      [ true ↦ (λ there. (first_entry e m all).filled) | false ↦ some-get_all m (later_entries e m all) ]

  pub entries-remove : (m : Entries) → All IsEntry m → All IsEntry (remove m name)
  entries-remove [] all = all
  entries-remove (e ∷ m) all =
      both (bytes_eq name e.0) (All IsEntry) (later_entries e m all)
      (entries_cons e (remove m name) (first_entry e m all) (entries-remove m (later_entries e m all)))

-- each name has a value
pub length-counted : (m : Entries) → All IsEntry m → length m ≤ value_count m
length-counted [] all = omega arith
length-counted (e ∷ m) all = omega (arith, (first_entry e m all).filled, length-counted m (later_entries e m all))

-- there are as many pairs as values
pub length-pairs : (m : Entries) → length (pairs m) ≡ value_count m
length-pairs [] = refl
length-pairs (e ∷ m) =
    let beside : FieldValue → Pair = λ value. (e.0, value) in
    omega (arith, length-append (entry_pairs e) (pairs m), length-map e.1 beside, length-pairs m)

-- once the first pair of the first name is given, one pair less is left
pub length-first_given : (name : List ℕ) (value : FieldValue) (values others : List FieldValue) (later : Entries) (left : ℕ) → values ≡ value ∷ others → left ≡ length (pairs ((name, values) ∷ later)) → left - 1 ≡ length (entry_pairs (name, others) ++ pairs later)
length-first_given name value values others later left first count =
    let all : left ≡ length (pairs ((name, value ∷ others) ∷ later)) = count ∙ ap (λ vs. length (pairs ((name, vs) ∷ later))) first in
    omega (arith, all)
