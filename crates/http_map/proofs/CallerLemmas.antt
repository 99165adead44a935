-- What a caller cites of a map's list: what a look-up finds after an edit, and what a map's names and counts are.
use Rattle.std.proofs.Common.{◌≡◌, ◌≢◌, ℕ, ◌<◌, Bool, true, false, if◌then◌else◌, List, [], ◌∷◌, ◌++◌, ◌||◌, length, All, bytes_eq, is_some, slice_get, None, Option, Some, IsNone, option_copied, Bor, refl, sym, ap, ◌∙◌, arith}
use Rattle.std.proofs.lemmas.Slice.Eq.{bytes_eq-Decides}
use Rattle.http_header.proofs.TokenLemmas.{IsFieldName-from_lowercase}
use Rattle.http_header.specs.Token.{lowercase}
use Rattle.http_header.specs.FieldName.{IsFieldName}
use Rattle.http_header.specs.FieldValue.{FieldValue}
use Rattle.http_map.specs.HeaderMap.{Entry, Entries, IsEntry, contains_key, get, get_all, insert, append, remove}
use Rattle.http_map.proofs.MapLemmas.{first_entry, later_entries}

pub same_bytes : (a b : List ℕ) → bytes_eq a b ≡ true → a ≡ b
same_bytes a b h = (bytes_eq-Decides a b).0 h

pub bytes_eq-itself : (a : List ℕ) → bytes_eq a a ≡ true
bytes_eq-itself a = (bytes_eq-Decides a a).1 refl

pub bytes_eq-other : (a b : List ℕ) → a ≢ b → bytes_eq a b ≡ false
bytes_eq-other a b apart =
    (elim (bytes_eq a b) as (λ t. bytes_eq a b ≡ t → t ≡ false) [ true ↦ (λ h. absurd (apart (same_bytes a b h))) | false ↦ (λ h. refl) ]) refl

-- the head of the list holds the name
here : {A : Type 0} (name : List ℕ) (e : Entry) (a b : A) → bytes_eq name e.0 ≡ true → (if bytes_eq name e.0 then a else b) ≡ a
here name e a b h = ap (λ t. if t then a else b) h

-- and so not another
not_here : {A : Type 0} (name other : List ℕ) (e : Entry) (a b : A) → other ≢ name → bytes_eq name e.0 ≡ true → (if bytes_eq other e.0 then a else b) ≡ b
not_here name other e a b apart h =
    ap (λ t. if t then a else b) (bytes_eq-other other e.0 (λ is. apart (is ∙ sym (same_bytes name e.0 h))))

module _ (name : List ℕ) (value : FieldValue) where
  -- the values of an appended name are the old ones and then the new
  pub get_all-append_same : (m : Entries) → get_all (append m name value) name ≡ get_all m name ++ value ∷ []
  get_all-append_same [] = ap (λ t. if t then value ∷ [] else []) (bytes_eq-itself name)
  get_all-append_same (e ∷ m) =
      (elim (bytes_eq name e.0) as (λ b. bytes_eq name e.0 ≡ b → get_all (if b then (e.0, e.1 ++ value ∷ []) ∷ m else e ∷ append m name value) name ≡ (if b then e.1 else get_all m name) ++ value ∷ [])
      [ true ↦ (λ h. ap (λ t. if t then e.1 ++ value ∷ [] else get_all m name) h) | false ↦ (λ h. ap (λ t. if t then e.1 else get_all (append m name value) name) h ∙ get_all-append_same m) ]) refl

  -- an inserted name has the new value alone
  pub get_all-insert_same : (m : Entries) → get_all (insert m name value) name ≡ value ∷ []
  get_all-insert_same [] = ap (λ t. if t then value ∷ [] else []) (bytes_eq-itself name)
  get_all-insert_same (e ∷ m) =
      (elim (bytes_eq name e.0) as (λ b. bytes_eq name e.0 ≡ b → get_all (if b then (e.0, value ∷ []) ∷ m else e ∷ insert m name value) name ≡ value ∷ [])
      [ true ↦ (λ h. ap (λ t. if t then value ∷ [] else get_all m name) h) | false ↦ (λ h. ap (λ t. if t then e.1 else get_all (insert m name value) name) h ∙ get_all-insert_same m) ]) refl

  module _ (other : List ℕ) (apart : other ≢ name) where
    -- other names keep their values
    pub get_all-append_other : (m : Entries) → get_all (append m name value) other ≡ get_all m other
    get_all-append_other [] = ap (λ t. if t then value ∷ [] else []) (bytes_eq-other other name apart)
    get_all-append_other (e ∷ m) =
        (elim (bytes_eq name e.0) as (λ b. bytes_eq name e.0 ≡ b → get_all (if b then (e.0, e.1 ++ value ∷ []) ∷ m else e ∷ append m name value) other ≡ (if bytes_eq other e.0 then e.1 else get_all m other)) [
          | true ↦ (λ h. not_here name other e (e.1 ++ value ∷ []) (get_all m other) apart h ∙ sym (not_here name other e e.1 (get_all m other) apart h))
          | false ↦ (λ h. ap (λ r. if bytes_eq other e.0 then e.1 else r) (get_all-append_other m))
        ]) refl

    pub get_all-insert_other : (m : Entries) → get_all (insert m name value) other ≡ get_all m other
    get_all-insert_other [] = ap (λ t. if t then value ∷ [] else []) (bytes_eq-other other name apart)
    get_all-insert_other (e ∷ m) =
        (elim (bytes_eq name e.0) as (λ b. bytes_eq name e.0 ≡ b → get_all (if b then (e.0, value ∷ []) ∷ m else e ∷ insert m name value) other ≡ (if bytes_eq other e.0 then e.1 else get_all m other)) [
          | true ↦ (λ h. not_here name other e (value ∷ []) (get_all m other) apart h ∙ sym (not_here name other e e.1 (get_all m other) apart h))
          | false ↦ (λ h. ap (λ r. if bytes_eq other e.0 then e.1 else r) (get_all-insert_other m))
        ]) refl

  -- the map has an appended name, and those that it had
  pub contains_key-append : (m : Entries) (other : List ℕ) → contains_key (append m name value) other ≡ (bytes_eq other name || contains_key m other)
  contains_key-append [] other = refl
  contains_key-append (e ∷ m) other =
      (elim (bytes_eq name e.0) as (λ b. bytes_eq name e.0 ≡ b → contains_key (if b then (e.0, e.1 ++ value ∷ []) ∷ m else e ∷ append m name value) other ≡ (bytes_eq other name || (bytes_eq other e.0 || contains_key m other))) [
        | true ↦ (λ h. or_twice (bytes_eq other e.0) (contains_key m other) ∙ ap (λ n. bytes_eq other n || (bytes_eq other e.0 || contains_key m other)) (sym (same_bytes name e.0 h)))
        | false ↦ (λ h. ap (λ t. bytes_eq other e.0 || t) (contains_key-append m other) ∙ or_swap (bytes_eq other e.0) (bytes_eq other name) (contains_key m other))
      ]) refl
    where
      or_twice : (a b : Bool) → (a || b) ≡ (a || (a || b))
      or_twice true b = refl
      or_twice false b = refl

      or_swap : (a b c : Bool) → (a || (b || c)) ≡ (b || (a || c))
      or_swap true true c = refl
      or_swap true false c = refl
      or_swap false true c = refl
      or_swap false false c = refl

module _ (name other : List ℕ) (apart : other ≢ name) where
  -- a removal leaves the values of other names
  pub get_all-remove_other : (m : Entries) → get_all (remove m name) other ≡ get_all m other
  get_all-remove_other [] = refl
  get_all-remove_other (e ∷ m) =
      (elim (bytes_eq name e.0) as (λ b. bytes_eq name e.0 ≡ b → get_all (if b then m else e ∷ remove m name) other ≡ (if bytes_eq other e.0 then e.1 else get_all m other)) [
        | true ↦ (λ h. sym (not_here name other e e.1 (get_all m other) apart h))
        | false ↦ (λ h. ap (λ r. if bytes_eq other e.0 then e.1 else r) (get_all-remove_other m))
      ]) refl

-- a text that is no name is none of a map's names, in any case
pub get_all-no_name : (m : Entries) (text : List ℕ) → All IsEntry m → (IsFieldName text → ⊥) → get_all m (lowercase text) ≡ []
get_all-no_name [] text all none = refl
get_all-no_name (e ∷ m) text all none =
    (elim (bytes_eq (lowercase text) e.0) as (λ b. bytes_eq (lowercase text) e.0 ≡ b → (if b then e.1 else get_all m (lowercase text)) ≡ []) [
      | true ↦ (λ h. absurd (none (IsFieldName-from_lowercase text (rw (same_bytes (lowercase text) e.0 h) (first_entry e m all).named.0))))
      | false ↦ (λ h. get_all-no_name m text (later_entries e m all) none)
    ]) refl

pub remove-no_name : (m : Entries) (text : List ℕ) → All IsEntry m → (IsFieldName text → ⊥) → remove m (lowercase text) ≡ m
remove-no_name [] text all none = refl
remove-no_name (e ∷ m) text all none =
    (elim (bytes_eq (lowercase text) e.0) as (λ b. bytes_eq (lowercase text) e.0 ≡ b → (if b then m else e ∷ remove m (lowercase text)) ≡ e ∷ m) [
      | true ↦ (λ h. absurd (none (IsFieldName-from_lowercase text (rw (same_bytes (lowercase text) e.0 h) (first_entry e m all).named.0))))
      | false ↦ (λ h. ap (λ n. e ∷ n) (remove-no_name m text (later_entries e m all) none))
    ]) refl

pub get-no_name : (m : Entries) (text : List ℕ) → All IsEntry m → (IsFieldName text → ⊥) → get m (lowercase text) ≡ None
get-no_name m text all none = ap (λ vs. slice_get vs 0) (get_all-no_name m text all none)

-- a reference is there where what it points to is
pub IsNone-option_copied : {T : Type 0} (found : Option (Bor T)) → option_copied found ≡ None → IsNone found
IsNone-option_copied None nothing = refl
IsNone-option_copied (Some x) nothing = cc

pub contains_key-no_name : (m : Entries) (text : List ℕ) → All IsEntry m → (IsFieldName text → ⊥) → contains_key m (lowercase text) ≡ false
contains_key-no_name [] text all none = refl
contains_key-no_name (e ∷ m) text all none =
    (elim (bytes_eq (lowercase text) e.0) as (λ b. bytes_eq (lowercase text) e.0 ≡ b → (b || contains_key m (lowercase text)) ≡ false) [
      | true ↦ (λ h. absurd (none (IsFieldName-from_lowercase text (rw (same_bytes (lowercase text) e.0 h) (first_entry e m all).named.0))))
      | false ↦ (λ h. contains_key-no_name m text (later_entries e m all) none)
    ]) refl

-- a name of the map has a first value, and no other name has
pub contains_key-get : (m : Entries) (name : List ℕ) → All IsEntry m → contains_key m name ≡ is_some (get m name)
contains_key-get [] name all = refl
contains_key-get (e ∷ m) name all =
    elim (bytes_eq name e.0) as (λ b. (b || contains_key m name) ≡ is_some (slice_get (if b then e.1 else get_all m name) 0))
    [ true ↦ some_first e.1 (first_entry e m all).filled | false ↦ contains_key-get m name (later_entries e m all) ]
  where
    some_first : (vs : List FieldValue) → 0 < length vs → true ≡ is_some (slice_get vs 0)
    some_first [] some = absurd (omega (arith, some))
    some_first (v ∷ vs) some = refl
