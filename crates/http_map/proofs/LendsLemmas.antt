-- A write to the first value of a name.
use Rattle.std.proofs.Common.{◌≡◌, ℕ, zero, suc, ◌+◌, ◌<◌, List, [], ◌∷◌, length, All, drop, slice_get, Some, refl, sym, ap, ◌∙◌, arith, length-drop}
use Rattle.std.specs.Map.{values_of}
use Rattle.indexmap.specs.Layout.{set_value_at}
use Rattle.http_header.specs.FieldValue.{FieldValue}
use Rattle.http_map.specs.HeaderMap.{Entries, IsEntry, value_count, get_all, set_first}
use Rattle.http_map.specs.Counted.{IsCounted}
use Rattle.http_map.specs.Lines.{StandsFirstAt}
use Rattle.http_map.specs.Lends.{set_first_at, values_at}
use Rattle.http_map.proofs.MapLemmas.{entries_cons, first_entry, later_entries, with_values}

module _ (name : List ℕ) where
  pub set_first-at : (m : Entries) (i : ℕ) (w : FieldValue) → StandsFirstAt m name i → set_first_at m i w ≡ set_first m name w
  set_first-at [] i w at = absurd at
  set_first-at (e ∷ m) zero w at = rw at
  set_first-at (e ∷ m) (suc i) w at = rw at.0 (ap (λ n. e ∷ n) (set_first-at m i w at.1))

  pub get_all-at : (m : Entries) (i : ℕ) → StandsFirstAt m name i → get_all m name ≡ values_at m i
  get_all-at [] i at = absurd at
  get_all-at (e ∷ m) zero at = rw at
  get_all-at (e ∷ m) (suc i) at = rw at.0 (get_all-at m i at.1)

-- a first value in place of another leaves the count
value_count-set_first_at : (m : Entries) (i : ℕ) (w : FieldValue) → All IsEntry m → value_count (set_first_at m i w) ≡ value_count m
value_count-set_first_at [] i w all = refl
value_count-set_first_at (e ∷ m) zero w all = omega (arith, length-drop 1 e.1, (first_entry e m all).filled)
value_count-set_first_at (e ∷ m) (suc i) w all = ap (λ n. length e.1 + n) (value_count-set_first_at m i w (later_entries e m all))

entries-set_first_at : (m : Entries) (i : ℕ) (w : FieldValue) → All IsEntry m → All IsEntry (set_first_at m i w)
entries-set_first_at [] i w all = all
entries-set_first_at (e ∷ m) zero w all = entries_cons (e.0, w ∷ drop 1 e.1) m (with_values e (w ∷ drop 1 e.1) (first_entry e m all) (omega arith)) (later_entries e m all)
entries-set_first_at (e ∷ m) (suc i) w all = entries_cons e (set_first_at m i w) (first_entry e m all) (entries-set_first_at m i w (later_entries e m all))

pub IsCounted-set_first_at : (m : Entries) (i : ℕ) (w : FieldValue) (len : ℕ) → IsCounted m len → IsCounted (set_first_at m i w) len
IsCounted-set_first_at m i w len counted = record {
  count = counted.count ∙ sym (value_count-set_first_at m i w counted.entries);
  fits = counted.fits;
  entries = entries-set_first_at m i w counted.entries;
}

-- the values of the name at an index, as the `IndexMap` gives them
pub values_at-values_of : (m : Entries) (i : ℕ) (vs : List FieldValue) → slice_get (values_of m) i ≡ Some vs → values_at m i ≡ vs
values_at-values_of [] i vs at = cc
values_at-values_of (e ∷ m) zero vs at = cc
values_at-values_of (e ∷ m) (suc i) vs at = values_at-values_of m i vs at

-- a name of a map has a value
pub filled_at : (m : Entries) (i : ℕ) (vs : List FieldValue) → All IsEntry m → slice_get (values_of m) i ≡ Some vs → 0 < length vs
filled_at [] i vs all at = cc
filled_at (e ∷ m) zero vs all at = let same : e.1 ≡ vs = cc in rw (← same) (first_entry e m all).filled
filled_at (e ∷ m) (suc i) vs all at = filled_at m i vs (later_entries e m all) at

-- the values of the name at an index with another first one
pub set_value_at-first : (m : Entries) (i : ℕ) (vs : List FieldValue) (w : FieldValue) → slice_get (values_of m) i ≡ Some vs → set_value_at m i (w ∷ drop 1 vs) ≡ set_first_at m i w
set_value_at-first [] i vs w at = refl
set_value_at-first (e ∷ m) zero vs w at = let same : e.1 ≡ vs = cc in ap (λ x. (e.0, w ∷ drop 1 x) ∷ m) (sym same)
set_value_at-first (e ∷ m) (suc i) vs w at = ap (λ n. e ∷ n) (set_value_at-first m i vs w at)
