-- What the calls of the `IndexMap` under a `HeaderMap` do to the list that a contract sees.
use Rattle.std.proofs.Common.{◌≡◌, ℕ, ◌+◌, true, false, cond, if◌then◌else◌, List, [], ◌∷◌, ◌++◌, ◌||◌, length, bytes_eq, is_some, unwrap_or, Option, Some, None, refl, sym, ap, ◌∙◌}
use Rattle.std.specs.Map.{values_of, lookup, remove_entry}
use Rattle.http_header.specs.FieldValue.{FieldValue}
use Rattle.indexmap.specs.IndexMap.{insert_entry}
use Rattle.http_map.specs.HeaderMap.{Entries, value_count, contains_key, get_all, insert, append, remove}

-- how many values the lists have together
abbrev pub item_count : List (List FieldValue) → ℕ
item_count [] = 0
item_count (vs ∷ lists) = length vs + item_count lists

pub item_count-values_of : (m : Entries) → item_count (values_of m) ≡ value_count m
item_count-values_of [] = refl
item_count-values_of (e ∷ m) = ap (λ n. length e.1 + n) (item_count-values_of m)

module _ (name : List ℕ) where
  pub get_all-lookup : (m : Entries) → get_all m name ≡ unwrap_or (lookup (bytes_eq name) m) []
  get_all-lookup [] = refl
  get_all-lookup (e ∷ m) =
      elim (bytes_eq name e.0) as (λ b. (if b then e.1 else get_all m name) ≡ unwrap_or (cond b (Some e.1) (lookup (bytes_eq name) m)) [])
      [ true ↦ refl | false ↦ get_all-lookup m ]

  -- a name that is not found has no values
  pub get_all-absent : (m : Entries) → false ≡ is_some (lookup (bytes_eq name) m) → get_all m name ≡ []
  get_all-absent m absent = get_all-lookup m ∙ by (lookup (bytes_eq name) m) absent
    where
      by : (found : Option (List FieldValue)) → false ≡ is_some found → unwrap_or found [] ≡ []
      by None h = refl
      by (Some vs) h = cc

  pub contains_key-lookup : (m : Entries) → contains_key m name ≡ is_some (lookup (bytes_eq name) m)
  contains_key-lookup [] = refl
  contains_key-lookup (e ∷ m) =
      elim (bytes_eq name e.0) as (λ b. (b || contains_key m name) ≡ is_some (cond b (Some e.1) (lookup (bytes_eq name) m)))
      [ true ↦ refl | false ↦ contains_key-lookup m ]

  pub remove-remove_entry : (m : Entries) → remove m name ≡ remove_entry (bytes_eq name) m
  remove-remove_entry [] = refl
  remove-remove_entry (e ∷ m) = ap (λ n. if bytes_eq name e.0 then m else e ∷ n) (remove-remove_entry m)

  -- the values that a name has, put in their own place, change nothing
  pub insert_entry-same : (m : Entries) (vs : List FieldValue) → lookup (bytes_eq name) m ≡ Some vs → insert_entry bytes_eq m name vs ≡ m
  insert_entry-same [] vs there = cc
  insert_entry-same (e ∷ m) vs there =
      (elim (bytes_eq name e.0) as (λ b. cond b (Some e.1) (lookup (bytes_eq name) m) ≡ Some vs → (if b then (e.0, vs) ∷ m else e ∷ insert_entry bytes_eq m name vs) ≡ e ∷ m) [
        | true ↦ (λ t. let same : e.1 ≡ vs = cc in ap (λ ws. (e.0, ws) ∷ m) (sym same))
        | false ↦ (λ t. ap (λ n. e ∷ n) (insert_entry-same m vs t))
      ]) there

  module _ (value : FieldValue) where
    pub insert-insert_entry : (m : Entries) → insert m name value ≡ insert_entry bytes_eq m name (value ∷ [])
    insert-insert_entry [] = refl
    insert-insert_entry (e ∷ m) = ap (λ n. if bytes_eq name e.0 then (e.0, value ∷ []) ∷ m else e ∷ n) (insert-insert_entry m)

    -- a name that is there gets one more value
    pub append-present : (m : Entries) (vs : List FieldValue) → lookup (bytes_eq name) m ≡ Some vs → append m name value ≡ insert_entry bytes_eq m name (vs ++ value ∷ [])
    append-present [] vs there = cc
    append-present (e ∷ m) vs there =
        (elim (bytes_eq name e.0) as (λ b. cond b (Some e.1) (lookup (bytes_eq name) m) ≡ Some vs → (if b then (e.0, e.1 ++ value ∷ []) ∷ m else e ∷ append m name value) ≡ (if b then (e.0, vs ++ value ∷ []) ∷ m else e ∷ insert_entry bytes_eq m name (vs ++ value ∷ []))) [
          | true ↦ (λ t. let same : e.1 ≡ vs = cc in ap (λ ws. (e.0, ws ++ value ∷ []) ∷ m) same)
          | false ↦ (λ t. ap (λ n. e ∷ n) (append-present m vs t))
        ]) there

    -- a name that is not there goes last
    pub append-absent : (m : Entries) → lookup (bytes_eq name) m ≡ None → append m name value ≡ insert_entry bytes_eq m name (value ∷ [])
    append-absent [] absent = refl
    append-absent (e ∷ m) absent =
        (elim (bytes_eq name e.0) as (λ b. cond b (Some e.1) (lookup (bytes_eq name) m) ≡ None → (if b then (e.0, e.1 ++ value ∷ []) ∷ m else e ∷ append m name value) ≡ (if b then (e.0, value ∷ []) ∷ m else e ∷ insert_entry bytes_eq m name (value ∷ [])))
        [ true ↦ (λ t. cc) | false ↦ (λ t. ap (λ n. e ∷ n) (append-absent m t)) ]) absent
