-- The room of a target is the path of its parts.
use Rattle.std.proofs.Common.{◌≡◌, ◌<◌, ℕ, zero, suc, ◌+◌, ◌⊎◌, Bool, true, false, List, [], ◌∷◌, ◌++◌, length, Option, Some, None, refl, sym, ap, ◌∙◌, subst, inl, inr, ◌==◌, if◌then◌else◌, arith, append_assoc}
use Rattle.std.specs.Prelude.{not, ◌||◌, bytes_eq, codes, take, slice_index}
use Rattle.std.specs.List.{AllByRecursion}
use Rattle.std.proofs.lemmas.Bool.{cases_Bool, eqb-true, eq-eqb}
use Rattle.std.proofs.lemmas.List.{length-take}
use Rattle.std.proofs.lemmas.List.Elements.{recursion_from_All}
use Rattle.std.proofs.lemmas.Slice.Eq.{bytes_eq-Decides}
use Rattle.http_uri.specs.ByteClasses.{is_authority_byte, is_scheme_byte, is_delimiter, slash, question_mark, hash_sign, colon, asterisk}
use Rattle.http_uri.specs.Grammar.{IsAuthority, IsTail, StartsOrigin, IsUriText, without_fragment, path_of}
use Rattle.model_rooms.specs.Room.{behind_scheme, behind_authority, parts_path, room_of}

-- ---- bytes

-- a byte of a class is none that the class lacks
outside : (test : ℕ → Bool) (lacks b : ℕ) → test lacks ≡ false → test b ≡ true → (b == lacks) ≡ false
outside test lacks b lacking passes = elim (cases_Bool (b == lacks)) [
  | inl same ↦ absurd (let at : test lacks ≡ true = subst (λ (n : ℕ). test n ≡ true) (eqb-true b lacks same) passes in let bad : false ≡ true = sym lacking ∙ at in cc)
  | inr other ↦ other
]

no_delimiter : (b : ℕ) → is_authority_byte b ≡ true → is_delimiter b ≡ false
no_delimiter b h =
    rw (outside is_authority_byte slash b refl h, outside is_authority_byte question_mark b refl h, outside is_authority_byte hash_sign b refl h) refl

abbrev AreAuthority : List ℕ → Type 0
AreAuthority text = AllByRecursion (λ b. is_authority_byte b ≡ true) text

all_of : (text : List ℕ) → ((i : ℕ) → i < length text → is_authority_byte (slice_index text i) ≡ true) → AreAuthority text
all_of [] h = tt
all_of (b ∷ bytes) h = (h zero (omega arith), all_of bytes (λ i below. h (suc i) (omega arith)))

authority_bytes : (text : List ℕ) → IsAuthority text → AreAuthority text
authority_bytes text a = all_of text (λ i below. (a.bytes i below).byte)

-- ---- what stands behind `://`

second_differs : (b c : ℕ) (more : List ℕ) → (c == slash) ≡ false → bytes_eq (take 3 (b ∷ c ∷ more)) (codes "://") ≡ false
second_differs b c more e = elim (cases_Bool (bytes_eq (take 3 (b ∷ c ∷ more)) (codes "://"))) [
  | inl same ↦
      absurd
      (let all : b ∷ c ∷ take 1 more ≡ 58 ∷ 47 ∷ 47 ∷ [] = (bytes_eq-Decides (take 3 (b ∷ c ∷ more)) (codes "://")).0 same in
      let at : c ≡ slash = cc in
      let bad : true ≡ false = sym (eq-eqb c slash at) ∙ e in cc)
  | inr other ↦ other
]

one_differs : (b : ℕ) → bytes_eq (take 3 (b ∷ [])) (codes "://") ≡ false
one_differs b = elim (cases_Bool (bytes_eq (take 3 (b ∷ [])) (codes "://"))) [
  | inl same ↦
      absurd
      (let all : b ∷ [] ≡ 58 ∷ 47 ∷ 47 ∷ [] = (bytes_eq-Decides (take 3 (b ∷ [])) (codes "://")).0 same in cc)
  | inr other ↦ other
]

first_differs : (b : ℕ) (more : List ℕ) → (b == colon) ≡ false → bytes_eq (take 3 (b ∷ more)) (codes "://") ≡ false
first_differs b more e = elim (cases_Bool (bytes_eq (take 3 (b ∷ more)) (codes "://"))) [
  | inl same ↦
      absurd
      (let all : b ∷ take 2 more ≡ 58 ∷ 47 ∷ 47 ∷ [] = (bytes_eq-Decides (take 3 (b ∷ more)) (codes "://")).0 same in
      let at : b ≡ colon = cc in
      let bad : true ≡ false = sym (eq-eqb b colon at) ∙ e in cc)
  | inr other ↦ other
]

no_scheme : (text : List ℕ) → AreAuthority text → behind_scheme text ≡ None
no_scheme [] h = refl
no_scheme (b ∷ []) h = rw (one_differs b) refl
no_scheme (b ∷ c ∷ more) h = rw (second_differs b c more (outside is_authority_byte slash c refl h.1.0)) (no_scheme (c ∷ more) h.1)

behind_name : (name rest : List ℕ) → AllByRecursion (λ b. is_scheme_byte b ≡ true) name → behind_scheme (name ++ (codes "://" ++ rest)) ≡ Some rest
behind_name [] rest h = refl
behind_name (n ∷ ns) rest h = rw (first_differs n (ns ++ (codes "://" ++ rest)) (outside is_scheme_byte colon n refl h.0)) (behind_name ns rest h.1)

-- ---- what stands behind an authority

abbrev BeginsAfter : List ℕ → Type 0
BeginsAfter tail = (tail ≡ []) ⊎ (is_delimiter (slice_index tail 0) ≡ true)

behind_tail : (tail : List ℕ) → BeginsAfter tail → behind_authority tail ≡ tail
behind_tail [] h = refl
behind_tail (t ∷ ts) (inl e) = cc
behind_tail (t ∷ ts) (inr d) = rw d refl

behind_host : (authority tail : List ℕ) → AreAuthority authority → BeginsAfter tail → behind_authority (authority ++ tail) ≡ tail
behind_host [] tail h t = behind_tail tail t
behind_host (b ∷ bytes) tail h t = rw (no_delimiter b h.0) (behind_host bytes tail h.1 t)

-- ---- the forms

not_empty : (n b : ℕ) (bytes : List ℕ) → (length (take (1 + n) (b ∷ bytes)) == 0) ≡ false
not_empty n b bytes = elim (cases_Bool (length (take (1 + n) (b ∷ bytes)) == 0)) [
  | inl none ↦ absurd (omega (arith, eqb-true (length (take (1 + n) (b ∷ bytes))) 0 none, length-take (1 + n) (b ∷ bytes)))
  | inr some ↦ some
]

origin_path : (text : List ℕ) → StartsOrigin text → room_of text ≡ parts_path None (without_fragment text)
origin_path text (inl star) = subst (λ (t : List ℕ). room_of t ≡ parts_path None (without_fragment t)) (sym star) refl
origin_path [] (inr e) = absurd (omega arith)
origin_path (b ∷ bytes) (inr e) =
    subst (λ (v : ℕ). room_of (v ∷ bytes) ≡ parts_path None (without_fragment (v ∷ bytes))) (sym e) (rw (not_empty _ slash bytes) refl)

authority_path : (text : List ℕ) → 0 < length text → AreAuthority text → (text ≡ codes "*" → ⊥) → room_of text ≡ []
authority_path [] some h ne = absurd (omega arith)
authority_path (b ∷ bytes) some h ne = elim (cases_Bool (bytes_eq (b ∷ bytes) (codes "*"))) [
  | inl same ↦ absurd (ne ((bytes_eq-Decides (b ∷ bytes) (codes "*")).0 same))
  | inr other ↦ rw (outside is_authority_byte slash b refl h.0, other, no_scheme (b ∷ bytes) h) refl
]

starts_no_path : (name rest : List ℕ) → AllByRecursion (λ b. is_scheme_byte b ≡ true) name
    → ((slice_index (name ++ (codes "://" ++ rest)) 0 == slash) || bytes_eq (name ++ (codes "://" ++ rest)) (codes "*")) ≡ false
starts_no_path [] rest h = refl
starts_no_path (n ∷ ns) rest h = elim (cases_Bool (bytes_eq ((n ∷ ns) ++ (codes "://" ++ rest)) (codes "*"))) [
  | inl same ↦
      absurd
      (let all : n ∷ (ns ++ (codes "://" ++ rest)) ≡ 42 ∷ [] = (bytes_eq-Decides ((n ∷ ns) ++ (codes "://" ++ rest)) (codes "*")).0 same in
      let at : n ≡ asterisk = cc in
      let bad : true ≡ false = sym (eq-eqb n asterisk at) ∙ outside is_scheme_byte asterisk n refl h.0 in cc)
  | inr other ↦ rw (outside is_scheme_byte slash n refl h.0, other) refl
]

absolute_room : (name authority tail kept : List ℕ) → AllByRecursion (λ b. is_scheme_byte b ≡ true) name → AreAuthority authority → IsTail tail kept
    → room_of (name ++ (codes "://" ++ (authority ++ tail))) ≡ path_of kept
absolute_room name authority tail kept n a (inl (e, k)) =
    rw (starts_no_path name (authority ++ tail) n, behind_name name (authority ++ tail) n, behind_host authority tail a (inl e), e, k) refl
absolute_room name authority tail kept n a (inr t) =
    rw (starts_no_path name (authority ++ tail) n, behind_name name (authority ++ tail) n, behind_host authority tail a (inr t.0)) (ap path_of (sym t.2))

with_scheme : (kept scheme : List ℕ) → path_of kept ≡ parts_path (Some scheme) kept
with_scheme kept scheme = elim (length kept == 0) as (λ v. path_of kept ≡ (if not v || true then path_of kept else [])) [ true ↦ refl | false ↦ refl ]

pub room_is_path : (text : List ℕ) (scheme authority : Option (List ℕ)) (kept : List ℕ) → IsUriText text scheme authority kept
    → room_of text ≡ parts_path scheme kept
room_is_path text None None kept x =
    subst (λ (k : List ℕ). room_of text ≡ parts_path None k) (sym x.1.1) (origin_path text x.1.0.0)
room_is_path text None (Some authority) kept x =
    subst (λ (k : List ℕ). room_of text ≡ parts_path None k) (sym x.1.3)
    (authority_path text x.1.0.nonempty (authority_bytes text x.1.0) x.1.1)
room_is_path text (Some scheme) None kept x = absurd x.1
room_is_path text (Some scheme) (Some authority) kept x =
    let form = x.1 in
    let spelled : text ≡ form.name ++ (codes "://" ++ (authority ++ form.tail)) =
    form.spelled ∙ append_assoc (form.name ++ codes "://") authority form.tail ∙ append_assoc form.name (codes "://") (authority ++ form.tail) in
    ap room_of spelled
    ∙ absolute_room form.name authority form.tail kept (recursion_from_All _ form.name form.is_scheme.0) (authority_bytes authority form.is_authority) form.is_tail
    ∙ with_scheme kept scheme
