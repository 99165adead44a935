-- Where a name stands among a map's names, and what a look-up and an edit give there.
use Rattle.std.proofs.Common.{◌≡◌, ℕ, zero, suc, ◌<◌, ◌≤◌, Bor, option_copied, true, false, cond, if◌then◌else◌, List, [], ◌∷◌, ◌++◌, ◌||◌, take, drop, length, bytes_eq, get_or, Option, Some, None, is_some, refl, sym, ap, ◌∙◌, subst, arith}
use Rattle.std.specs.Map.{lookup, values_of}
use Rattle.std.specs.Prelude.{⊤, slice_set, slice_get, position, IfSome, IfNone}
use Rattle.std.proofs.lemmas.List.Quantifiers.{position-Some}
use Rattle.std.proofs.lemmas.List.{length-map}
use Rattle.indexmap.specs.Layout.{set_value_at}
use Rattle.http_header.specs.FieldValue.{FieldValue}
use Rattle.http_map.specs.HeaderMap.{Entry, Entries, contains_key, get_all, insert, append, remove, keys}
use Rattle.http_map.specs.Lines.{StandsFirstAt, Lacks}
use Rattle.http_map.proofs.CallerLemmas.{same_bytes, bytes_eq-itself, bytes_eq-other}

-- the name isn't one of the first so many
abbrev pub IsNotBefore : Entries → List ℕ → ℕ → Type 0
IsNotBefore [] name i = ⊤
IsNotBefore (e ∷ m) name zero = ⊤
IsNotBefore (e ∷ m) name (suc i) = (bytes_eq name e.0 ≡ false) × IsNotBefore m name i

-- names that differ do so either way round
pub apart_turned : (a b : List ℕ) → bytes_eq a b ≡ false → bytes_eq b a ≡ false
apart_turned a b h = bytes_eq-other b a (λ same. let is : bytes_eq a b ≡ true = subst (λ x. bytes_eq a x ≡ true) (sym same) (bytes_eq-itself a) in let no : true ≡ false = sym is ∙ h in cc)

module _ (name : List ℕ) where
  pub none_before : (m : Entries) → IsNotBefore m name 0
  none_before [] = tt
  none_before (e ∷ m) = tt

  -- a name that differs is passed
  pub passed : (m : Entries) (i : ℕ) (d : Entry) → i < length m → IsNotBefore m name i → bytes_eq name (get_or m i d).0 ≡ false → IsNotBefore m name (suc i)
  passed [] i d within before other = tt
  passed (e ∷ m) zero d within before other = (other, none_before m)
  passed (e ∷ m) (suc i) d within before other = (before.0, passed m i d (omega (arith, within)) before.1 other)

  -- a name that is the same is found
  pub stands : (m : Entries) (i : ℕ) (d : Entry) → i < length m → IsNotBefore m name i → bytes_eq name (get_or m i d).0 ≡ true → StandsFirstAt m name i
  stands [] i d within before same = absurd (omega (arith, within))
  stands (e ∷ m) zero d within before same = same
  stands (e ∷ m) (suc i) d within before same = (before.0, stands m i d (omega (arith, within)) before.1 same)

  -- a name that isn't among all isn't there
  pub lacks_all : (m : Entries) (i : ℕ) → length m ≤ i → IsNotBefore m name i → Lacks m name
  lacks_all [] i all before = tt
  lacks_all (e ∷ m) zero all before = absurd (omega (arith, all))
  lacks_all (e ∷ m) (suc i) all before = (before.0, lacks_all m i (omega (arith, all)) before.1)

  -- the index of a name as an `IndexMap` gives it
  pub stands-from : (m : Entries) (i : ℕ) → i < length m → bytes_eq name (get_or (keys m) i []) ≡ true → ((k : ℕ) → k < i → bytes_eq name (get_or (keys m) k []) ≡ false) → StandsFirstAt m name i
  stands-from [] i within here before = absurd (omega (arith, within))
  stands-from (e ∷ m) zero within here before = here
  stands-from (e ∷ m) (suc i) within here before = (before 0 (omega arith), stands-from m i (omega (arith, within)) here (λ k h. before (suc k) (omega (arith, h))))

  pub lacks-from : (m : Entries) → false ≡ is_some (lookup (bytes_eq name) m) → Lacks m name
  lacks-from [] absent = tt
  lacks-from (e ∷ m) absent =
      (elim (bytes_eq name e.0) as (λ b. bytes_eq name e.0 ≡ b → false ≡ is_some (cond b (Some e.1) (lookup (bytes_eq name) m)) → (bytes_eq name e.0 ≡ false) × Lacks m name)
      [ true ↦ (λ h a. let no : false ≡ true = a in cc) | false ↦ (λ h a. (h, lacks-from m a)) ]) refl absent

  pub stands-position : (m : Entries) (r : Option ℕ) → r ≡ position (bytes_eq name) (keys m) → IfSome r (StandsFirstAt m name)
  stands-position m None is = tt
  stands-position m (Some i) is =
      let at = position-Some (bytes_eq name) (keys m) i [] (sym is) in
      let first : Entry → List ℕ = λ e. e.0 in
      stands-from m i (omega (arith, at.0, length-map m first)) at.1 at.2

  pub lacks-position : (m : Entries) (r : Option ℕ) → is_some r ≡ is_some (lookup (bytes_eq name) m) → IfNone r (Lacks m name)
  lacks-position m None absent = lacks-from m absent
  lacks-position m (Some i) there = tt

  pub lookup-lacks : (m : Entries) → Lacks m name → lookup (bytes_eq name) m ≡ None
  lookup-lacks [] none = refl
  lookup-lacks (e ∷ m) none = ap (λ b. cond b (Some e.1) (lookup (bytes_eq name) m)) none.0 ∙ lookup-lacks m none.1

  pub lookup-stands : (m : Entries) (i : ℕ) (d : Entry) → StandsFirstAt m name i → lookup (bytes_eq name) m ≡ Some (get_or m i d).1
  lookup-stands [] i d at = absurd at
  lookup-stands (e ∷ m) zero d at = ap (λ b. cond b (Some e.1) (lookup (bytes_eq name) m)) at
  lookup-stands (e ∷ m) (suc i) d at = ap (λ b. cond b (Some e.1) (lookup (bytes_eq name) m)) at.0 ∙ lookup-stands m i d at.1

  pub get_all-lacks : (m : Entries) → Lacks m name → get_all m name ≡ []
  get_all-lacks [] none = refl
  get_all-lacks (e ∷ m) none = ap (λ b. if b then e.1 else get_all m name) none.0 ∙ get_all-lacks m none.1

  pub get_all-stands : (m : Entries) (i : ℕ) (d : Entry) → StandsFirstAt m name i → get_all m name ≡ (get_or m i d).1
  get_all-stands [] i d at = absurd at
  get_all-stands (e ∷ m) zero d at = ap (λ b. if b then e.1 else get_all m name) at
  get_all-stands (e ∷ m) (suc i) d at = ap (λ b. if b then e.1 else get_all m name) at.0 ∙ get_all-stands m i d at.1

  pub contains_key-lacks : (m : Entries) → Lacks m name → contains_key m name ≡ false
  contains_key-lacks [] none = refl
  contains_key-lacks (e ∷ m) none = ap (λ b. b || contains_key m name) none.0 ∙ contains_key-lacks m none.1

  pub remove-lacks : (m : Entries) → Lacks m name → remove m name ≡ m
  remove-lacks [] none = refl
  remove-lacks (e ∷ m) none = ap (λ b. if b then m else e ∷ remove m name) none.0 ∙ ap (λ n. e ∷ n) (remove-lacks m none.1)

  pub remove-stands : (m : Entries) (i : ℕ) → StandsFirstAt m name i → remove m name ≡ take i m ++ drop (suc i) m
  remove-stands [] i at = absurd at
  remove-stands (e ∷ m) zero at = ap (λ b. if b then m else e ∷ remove m name) at
  remove-stands (e ∷ m) (suc i) at = ap (λ b. if b then m else e ∷ remove m name) at.0 ∙ ap (λ n. e ∷ n) (remove-stands m i at.1)

  module _ (value : FieldValue) where
    pub append-lacks : (m : Entries) → Lacks m name → append m name value ≡ m ++ (name, value ∷ []) ∷ []
    append-lacks [] none = refl
    append-lacks (e ∷ m) none =
        ap (λ b. if b then (e.0, e.1 ++ value ∷ []) ∷ m else e ∷ append m name value) none.0 ∙ ap (λ n. e ∷ n) (append-lacks m none.1)

    pub append-stands : (m : Entries) (i : ℕ) (d : Entry) → StandsFirstAt m name i → append m name value ≡ slice_set m i ((get_or m i d).0, (get_or m i d).1 ++ value ∷ [])
    append-stands [] i d at = absurd at
    append-stands (e ∷ m) zero d at = ap (λ b. if b then (e.0, e.1 ++ value ∷ []) ∷ m else e ∷ append m name value) at
    append-stands (e ∷ m) (suc i) d at =
        ap (λ b. if b then (e.0, e.1 ++ value ∷ []) ∷ m else e ∷ append m name value) at.0 ∙ ap (λ n. e ∷ n) (append-stands m i d at.1)

    pub insert-lacks : (m : Entries) → Lacks m name → insert m name value ≡ m ++ (name, value ∷ []) ∷ []
    insert-lacks [] none = refl
    insert-lacks (e ∷ m) none =
        ap (λ b. if b then (e.0, value ∷ []) ∷ m else e ∷ insert m name value) none.0 ∙ ap (λ n. e ∷ n) (insert-lacks m none.1)

    pub insert-stands : (m : Entries) (i : ℕ) → StandsFirstAt m name i → insert m name value ≡ slice_set m i (name, value ∷ [])
    insert-stands [] i at = absurd at
    insert-stands (e ∷ m) zero at =
        ap (λ b. if b then (e.0, value ∷ []) ∷ m else e ∷ insert m name value) at ∙ ap (λ n. (n, value ∷ []) ∷ m) (sym (same_bytes name e.0 at))
    insert-stands (e ∷ m) (suc i) at =
        ap (λ b. if b then (e.0, value ∷ []) ∷ m else e ∷ insert m name value) at.0 ∙ ap (λ n. e ∷ n) (insert-stands m i at.1)

-- the values of the entry at an index
pub values_of-at : (m : Entries) (i : ℕ) (d : Entry) → i < length m → slice_get (values_of m) i ≡ Some (get_or m i d).1
values_of-at [] i d within = absurd (omega (arith, within))
values_of-at (e ∷ m) zero d within = refl
values_of-at (e ∷ m) (suc i) d within = values_of-at m i d (omega (arith, within))

-- other values in the entry at an index
pub set_value_at-entry : (m : Entries) (i : ℕ) (e : Entry) (w : List FieldValue) → slice_get m i ≡ Some e → slice_set m i (e.0, w) ≡ set_value_at m i w
set_value_at-entry [] i e w at = cc
set_value_at-entry (x ∷ m) zero e w at = let same : x ≡ e = cc in ap (λ y. (y.0, w) ∷ m) (sym same)
set_value_at-entry (x ∷ m) (suc i) e w at = ap (λ n. x ∷ n) (set_value_at-entry m i e w at)

pub set_value_at-past : (m : Entries) (i : ℕ) (w : List FieldValue) → slice_get m i ≡ None → m ≡ set_value_at m i w
set_value_at-past [] i w past = refl
set_value_at-past (x ∷ m) zero w past = cc
set_value_at-past (x ∷ m) (suc i) w past = ap (λ n. x ∷ n) (set_value_at-past m i w past)

-- an entry in its own place changes nothing
pub set_same : (m : Entries) (i : ℕ) (d : Entry) → slice_set m i (get_or m i d) ≡ m
set_same [] i d = refl
set_same (e ∷ m) zero d = refl
set_same (e ∷ m) (suc i) d = ap (λ n. e ∷ n) (set_same m i d)

-- what holds where nothing was found
pub where_none : {A : Type 0} (P : Type 0) (r : Option A) → is_some r ≡ false → IfNone r P → P
where_none P None h p = p
where_none P (Some x) h p = cc

-- a reference is there where what it points to is
pub is_some-copied : {T : Type 0} (found : Option (Bor T)) → is_some found ≡ is_some (option_copied found)
is_some-copied None = refl
is_some-copied (Some x) = refl
