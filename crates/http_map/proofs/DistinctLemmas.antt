-- No edit puts a name twice into a map.
use Rattle.std.proofs.Common.{◌≡◌, ℕ, zero, suc, ◌+◌, ◌<◌, Bool, true, false, if◌then◌else◌, List, [], ◌∷◌, ◌++◌, take, length, bytes_eq, get_or, refl, sym, ap, ◌∙◌, subst, arith, add-one}
use Rattle.std.specs.Prelude.{Result, Ok, Err, OnOk, OnErr}
use Rattle.std.specs.List.{IsDistinct, AllByRecursion}
use Rattle.indexmap.specs.IndexMap.{insert_entry}
use Rattle.indexmap.specs.Layout.{set_value_at}
use Rattle.http_header.specs.FieldValue.{FieldValue}
use Rattle.http_map.specs.HeaderMap.{Entry, Entries, keys, get_all, insert, append, remove, filled_first}
use Rattle.http_map.specs.Lines.{Lacks}
use Rattle.http_map.specs.Retain.{Retains}
use Rattle.http_map.proofs.CallerLemmas.{same_bytes}
use Rattle.http_map.proofs.LineLemmas.{apart_turned, get_all-lacks}

-- what holds of all names still does after an edit
module _ (P : List ℕ → Type 0) (name : List ℕ) where
  module _ (value : FieldValue) where
    pub all-append : (m : Entries) → P name → AllByRecursion P (keys m) → AllByRecursion P (keys (append m name value))
    all-append [] is all = (is, tt)
    all-append (e ∷ m) is all =
        elim (bytes_eq name e.0) as (λ b. AllByRecursion P (keys (if b then (e.0, e.1 ++ value ∷ []) ∷ m else e ∷ append m name value)))
        [ true ↦ all | false ↦ (all.0, all-append m is all.1) ]

    pub all-insert : (m : Entries) → P name → AllByRecursion P (keys m) → AllByRecursion P (keys (insert m name value))
    all-insert [] is all = (is, tt)
    all-insert (e ∷ m) is all =
        elim (bytes_eq name e.0) as (λ b. AllByRecursion P (keys (if b then (e.0, value ∷ []) ∷ m else e ∷ insert m name value)))
        [ true ↦ all | false ↦ (all.0, all-insert m is all.1) ]

  pub all-remove : (m : Entries) → AllByRecursion P (keys m) → AllByRecursion P (keys (remove m name))
  all-remove [] all = tt
  all-remove (e ∷ m) all =
      elim (bytes_eq name e.0) as (λ b. AllByRecursion P (keys (if b then m else e ∷ remove m name)))
      [ true ↦ all.1 | false ↦ (all.0, all-remove m all.1) ]

all-filled_first : (P : List ℕ → Type 0) (name : List ℕ) (vs : List FieldValue) (m : Entries) → P name → AllByRecursion P (keys m) → AllByRecursion P (keys (filled_first name vs m))
all-filled_first P name [] m is all = all
all-filled_first P name (v ∷ vs) m is all = (is, all)

pub all-Retains : (P : List ℕ → Type 0) (answers : List ℕ → FieldValue → Bool → Type 0) (m kept : Entries) → Retains answers m kept → AllByRecursion P (keys m) → AllByRecursion P (keys kept)
all-Retains P answers [] kept h all = rw h tt
all-Retains P answers (e ∷ m) kept h all = rw h.4 (all-filled_first P e.0 h.0 h.1 all.0 (all-Retains P answers m h.1 h.3 all.1))

all-at : (P : List ℕ → Type 0) (m : Entries) (i : ℕ) (d : Entry) → i < length m → AllByRecursion P (keys m) → P (get_or m i d).0
all-at P [] i d within all = absurd (omega (arith, within))
all-at P (e ∷ m) zero d within all = all.0
all-at P (e ∷ m) (suc i) d within all = all-at P m i d (omega (arith, within)) all.1

lacks-all : (name : List ℕ) (m : Entries) → AllByRecursion (λ y. bytes_eq name y ≡ false) (keys m) → Lacks m name
lacks-all name [] all = tt
lacks-all name (e ∷ m) all = (all.0, lacks-all name m all.1)

pub IsDistinct-none : IsDistinct bytes_eq (keys [])
unfolding IsDistinct
IsDistinct-none = tt

module _ (name : List ℕ) (value : FieldValue) where
  pub IsDistinct-append : (m : Entries) → IsDistinct bytes_eq (keys m) → IsDistinct bytes_eq (keys (append m name value))
  unfolding IsDistinct
  IsDistinct-append [] d = (tt, tt)
  IsDistinct-append (e ∷ m) d =
      (elim (bytes_eq name e.0) as (λ b. bytes_eq name e.0 ≡ b → IsDistinct bytes_eq (keys (if b then (e.0, e.1 ++ value ∷ []) ∷ m else e ∷ append m name value)))
      [ true ↦ (λ h. d) | false ↦ (λ h. (all-append (λ y. bytes_eq e.0 y ≡ false) name value m (apart_turned name e.0 h) d.0, IsDistinct-append m d.1)) ]) refl

  pub IsDistinct-insert : (m : Entries) → IsDistinct bytes_eq (keys m) → IsDistinct bytes_eq (keys (insert m name value))
  unfolding IsDistinct
  IsDistinct-insert [] d = (tt, tt)
  IsDistinct-insert (e ∷ m) d =
      (elim (bytes_eq name e.0) as (λ b. bytes_eq name e.0 ≡ b → IsDistinct bytes_eq (keys (if b then (e.0, value ∷ []) ∷ m else e ∷ insert m name value)))
      [ true ↦ (λ h. d) | false ↦ (λ h. (all-insert (λ y. bytes_eq e.0 y ≡ false) name value m (apart_turned name e.0 h) d.0, IsDistinct-insert m d.1)) ]) refl

module _ (name : List ℕ) where
  pub IsDistinct-remove : (m : Entries) → IsDistinct bytes_eq (keys m) → IsDistinct bytes_eq (keys (remove m name))
  unfolding IsDistinct
  IsDistinct-remove [] d = tt
  IsDistinct-remove (e ∷ m) d =
      elim (bytes_eq name e.0) as (λ b. IsDistinct bytes_eq (keys (if b then m else e ∷ remove m name)))
      [ true ↦ d.1 | false ↦ (all-remove (λ y. bytes_eq e.0 y ≡ false) name m d.0, IsDistinct-remove m d.1) ]

  -- a name that went has no values
  pub get_all-removed : (m : Entries) → IsDistinct bytes_eq (keys m) → get_all (remove m name) name ≡ []
  unfolding IsDistinct
  get_all-removed [] d = refl
  get_all-removed (e ∷ m) d =
      (elim (bytes_eq name e.0) as (λ b. bytes_eq name e.0 ≡ b → get_all (if b then m else e ∷ remove m name) name ≡ []) [
        | true ↦ (λ h. get_all-lacks name m (lacks-all name m (subst (λ n. AllByRecursion (λ y. bytes_eq n y ≡ false) (keys m)) (sym (same_bytes name e.0 h)) d.0)))
        | false ↦ (λ h. ap (λ b. if b then e.1 else get_all (remove m name) name) h ∙ get_all-removed m d.1)
      ]) refl

-- values that are left stand under their name alone
distinct_first : (name : List ℕ) (vs : List FieldValue) (m : Entries) → AllByRecursion (λ y. bytes_eq name y ≡ false) (keys m) → IsDistinct bytes_eq (keys m) → IsDistinct bytes_eq (keys (filled_first name vs m))
unfolding IsDistinct
distinct_first name [] m all d = d
distinct_first name (v ∷ vs) m all d = (all, d)

pub IsDistinct-Retains : (answers : List ℕ → FieldValue → Bool → Type 0) (m kept : Entries) → Retains answers m kept → IsDistinct bytes_eq (keys m) → IsDistinct bytes_eq (keys kept)
unfolding IsDistinct
IsDistinct-Retains answers [] kept h d = rw h tt
IsDistinct-Retains answers (e ∷ m) kept h d =
    rw h.4 (distinct_first e.0 h.0 h.1 (all-Retains (λ y. bytes_eq e.0 y ≡ false) answers m h.1 h.3 d.0) (IsDistinct-Retains answers m h.1 h.3 d.1))

-- other values leave the names
pub keys-set_value_at : (m : Entries) (i : ℕ) (w : List FieldValue) → keys (set_value_at m i w) ≡ keys m
keys-set_value_at [] i w = refl
keys-set_value_at (e ∷ m) zero w = refl
keys-set_value_at (e ∷ m) (suc i) w = ap (λ ks. e.0 ∷ ks) (keys-set_value_at m i w)

-- a name that follows others goes last in the `IndexMap` of these
next_entry : (m : Entries) (i : ℕ) (d : Entry) → i < length m → IsDistinct bytes_eq (keys m) → insert_entry bytes_eq (take i m) (get_or m i d).0 (get_or m i d).1 ≡ take (suc i) m
unfolding IsDistinct
next_entry [] i d within apart = absurd (omega (arith, within))
next_entry (e ∷ m) zero d within apart = refl
next_entry (e ∷ m) (suc i) d within apart =
    let other = apart_turned e.0 (get_or m i d).0 (all-at (λ y. bytes_eq e.0 y ≡ false) m i d (omega (arith, within)) apart.0) in
    ap (λ b. if b then (e.0, (get_or m i d).1) ∷ take i m else e ∷ insert_entry bytes_eq (take i m) (get_or m i d).0 (get_or m i d).1) other ∙ ap (λ n. e ∷ n) (next_entry m i d (omega (arith, within)) apart.1)

pub insert_entry-next : (m : Entries) (i : ℕ) (d : Entry) → i < length m → IsDistinct bytes_eq (keys m) → insert_entry bytes_eq (take i m) (get_or m i d).0 (get_or m i d).1 ≡ take (i + 1) m
insert_entry-next m i d within apart = rw add-one (next_entry m i d within apart)

-- an edit that may want memory, and then changes nothing
pub IsDistinct-after : {A E : Type 0} (r : Result A E) (edited old new : Entries) → OnOk r (new ≡ edited) → OnErr r (new ≡ old) → IsDistinct bytes_eq (keys edited) → IsDistinct bytes_eq (keys old) → IsDistinct bytes_eq (keys new)
IsDistinct-after (Ok x) edited old new ok err after before = rw ok after
IsDistinct-after (Err e) edited old new ok err after before = rw err before
