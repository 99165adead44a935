-- A request says the upgrade of the head that it says by itself.
use Rattle.std.proofs.Common.{◌≡◌, ℕ, Bool, true, false, List, [], ◌∷◌, ◌++◌, map, filter, bytes_eq, if◌then◌else◌, refl, sym, ap, ◌∙◌, subst}
use Rattle.std.proofs.lemmas.List.{append-nil}
use Rattle.std.specs.Prelude.{flat_map}
use Rattle.std.specs.List.{AllByRecursion, IsDistinct}
use Rattle.http_header.specs.FieldValue.{FieldValue}
use Rattle.http_map.specs.HeaderMap.{Entries, keys, get_all, IsHeaderMap}
use Rattle.http_map.proofs.CallerLemmas.{same_bytes, bytes_eq-itself}
use Rattle.http_types.specs.declared.requests.head.RequestHead.{RequestHead}
use Rattle.model_h1.specs.Request.{Header}
use Rattle.model_h1.specs.LengthTable.{values_of}
use Rattle.ws_session.specs.Upgrade.{SaysUpgrade, value_bytes, lines_of, head_said}

-- the lines of an entry are of its name, and stand in front of the others
entry_values : (name : List ℕ) (key : List ℕ) (values : List FieldValue) (rest : List Header) (b : Bool) → bytes_eq key name ≡ b
    → values_of name (lines_of (key, values) ++ rest) ≡ (if b then value_bytes values else []) ++ values_of name rest
entry_values name key [] rest true e = refl
entry_values name key [] rest false e = refl
entry_values name key (v ∷ values) rest true e =
    let line : Header = record { name = key; value = v.bytes } in
    let more = filter (λ (h : Header). bytes_eq h.name name) (lines_of (key, values) ++ rest) in
    ap (λ (b : Bool). map (λ (h : Header). h.value) (if b then line ∷ more else more)) e
    ∙ ap (λ (vs : List (List ℕ)). v.bytes ∷ vs) (entry_values name key values rest true e)
entry_values name key (v ∷ values) rest false e =
    let line : Header = record { name = key; value = v.bytes } in
    let more = filter (λ (h : Header). bytes_eq h.name name) (lines_of (key, values) ++ rest) in
    ap (λ (b : Bool). map (λ (h : Header). h.value) (if b then line ∷ more else more)) e
    ∙ entry_values name key values rest false e

-- names are compared both ways alike
eq_turned : (a b : List ℕ) (t : Bool) → bytes_eq a b ≡ t → bytes_eq b a ≡ t
eq_turned a b true e = subst (λ (n : List ℕ). bytes_eq n a ≡ true) (same_bytes a b e) (bytes_eq-itself a)
eq_turned a b false e = go (bytes_eq b a) refl
  where
    go : (t : Bool) → bytes_eq b a ≡ t → t ≡ false
    go true is = sym (subst (λ (n : List ℕ). bytes_eq a n ≡ true) (sym (same_bytes b a is)) (bytes_eq-itself a)) ∙ e
    go false is = refl

-- a name that no entry has, has no line
no_values : (name : List ℕ) (m : Entries) → AllByRecursion (λ (key : List ℕ). bytes_eq name key ≡ false) (keys m) → values_of name (flat_map lines_of m) ≡ []
no_values name [] apart = refl
no_values name (e ∷ m) apart =
    entry_values name e.0 e.1 (flat_map lines_of m) false (eq_turned name e.0 false apart.0) ∙ no_values name m apart.1

-- the lines of a map have the values that it has
map_values : (name : List ℕ) (m : Entries) → IsDistinct bytes_eq (keys m) → value_bytes (get_all m name) ≡ values_of name (flat_map lines_of m)
unfolding IsDistinct
map_values name [] distinct = refl
map_values name (e ∷ m) distinct = go (map_values name m distinct.1) (bytes_eq name e.0) refl
  where
    go : value_bytes (get_all m name) ≡ values_of name (flat_map lines_of m)
        → (b : Bool) → bytes_eq name e.0 ≡ b → value_bytes (get_all (e ∷ m) name) ≡ values_of name (flat_map lines_of (e ∷ m))
    go behind true is =
        let same : e.0 ≡ name = sym (same_bytes name e.0 is) in
        let others : values_of name (flat_map lines_of m) ≡ []
        = no_values name m (subst (λ (n : List ℕ). AllByRecursion (λ (key : List ℕ). bytes_eq n key ≡ false) (keys m)) same distinct.0) in
        ap (λ (b : Bool). value_bytes (if b then e.1 else get_all m name)) is
        ∙ sym (entry_values name e.0 e.1 (flat_map lines_of m) true (eq_turned name e.0 true is)
        ∙ ap (λ (vs : List (List ℕ)). value_bytes e.1 ++ vs) others ∙ append-nil (value_bytes e.1))
    go behind false is =
        ap (λ (b : Bool). value_bytes (if b then e.1 else get_all m name)) is ∙ behind
        ∙ sym (entry_values name e.0 e.1 (flat_map lines_of m) false (eq_turned name e.0 false is))

-- so it says their upgrade
pub says_own : (request : RequestHead) → IsHeaderMap request.headers → SaysUpgrade request (head_said request)
says_own request valid = record { method = refl; values = λ name. map_values name request.headers valid.distinct }
