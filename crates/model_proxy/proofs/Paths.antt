-- A target that begins with `/` is one without its fragment too.
use Rattle.std.proofs.Common.{◌≡◌, ℕ, suc, ◌+◌, ◌<◌, ◌≤◌, Bool, true, false, not, cond, List, [], ◌∷◌, ◌++◌, length, take, codes, refl, sym, ap, ◌∙◌, subst, inr, arith, append_assoc, Option, Some, None, IsTrue}
use Rattle.std.specs.Prelude.{nat_eq, IsUtf8, ◌==◌, ◌&&◌}
use Rattle.std.specs.List.{AllByRecursion, starts_with, prefix_len}
use Rattle.std.proofs.lemmas.Bool.{false≢true, eqb-true}
use Rattle.std.proofs.lemmas.List.Elements.{recursion_from_All, All-take}
use Rattle.httparse.specs.Grammar.{AllPass, is_uri_byte}
use Rattle.http_uri.specs.ByteClasses.{index_of, is_scheme_byte, is_authority_byte, hash_sign}
use Rattle.http_uri.specs.Grammar.{IsPathAndQuery, IsPathInput, IsUriText, without_fragment}
use Rattle.model_h1.specs.RequestHead.{IsTarget}

-- ---- the text before a fragment

take_more_by : (n m b : ℕ) (bytes : List ℕ) → m ≡ suc n → take m (b ∷ bytes) ≡ b ∷ take n bytes
take_more_by n m b bytes e = ap (λ k. take k (b ∷ bytes)) e

-- a first byte that begins no fragment stays
pub cut_cons : (b : ℕ) (bytes : List ℕ) → (b == hash_sign) ≡ false → without_fragment (b ∷ bytes) ≡ b ∷ without_fragment bytes
cut_cons b bytes other = by_test (b == hash_sign) other
  where
    by_test : (t : Bool) → t ≡ false → take (cond (not t) (1 + prefix_len (λ c. not (c == hash_sign)) bytes) 0) (b ∷ bytes) ≡ b ∷ without_fragment bytes
    by_test true e = absurd (false≢true (sym e))
    by_test false e = take_more_by (index_of hash_sign bytes) (1 + index_of hash_sign bytes) b bytes (omega arith)

pub cut_hash : (b : ℕ) (bytes : List ℕ) → (b == hash_sign) ≡ true → without_fragment (b ∷ bytes) ≡ []
cut_hash b bytes is = by_test (b == hash_sign) is
  where
    by_test : (t : Bool) → t ≡ true → take (cond (not t) (1 + prefix_len (λ c. not (c == hash_sign)) bytes) 0) (b ∷ bytes) ≡ []
    by_test true e = refl
    by_test false e = absurd (false≢true e)

-- what holds of texts and of each cut of them, byte by byte
pub cut_again : (text : List ℕ) → without_fragment (without_fragment text) ≡ without_fragment text
cut_again [] = refl
cut_again (b ∷ bytes) = by_test (b == hash_sign) refl (cut_again bytes)
  where
    by_test : (t : Bool) → (b == hash_sign) ≡ t → without_fragment (without_fragment bytes) ≡ without_fragment bytes
        → without_fragment (without_fragment (b ∷ bytes)) ≡ without_fragment (b ∷ bytes)
    by_test true is again = ap without_fragment (cut_hash b bytes is) ∙ sym (cut_hash b bytes is)
    by_test false other again =
        ap without_fragment (cut_cons b bytes other) ∙ cut_cons b (without_fragment bytes) other ∙ ap (λ t. b ∷ t) again ∙ sym (cut_cons b bytes other)

pub cut_short : (text : List ℕ) → length (without_fragment text) ≤ length text
cut_short [] = omega arith
cut_short (b ∷ bytes) = by_test (b == hash_sign) refl (cut_short bytes)
  where
    by_test : (t : Bool) → (b == hash_sign) ≡ t → length (without_fragment bytes) ≤ length bytes → length (without_fragment (b ∷ bytes)) ≤ length (b ∷ bytes)
    by_test true is short = omega (arith, ap length (cut_hash b bytes is))
    by_test false other short = omega (arith, ap length (cut_cons b bytes other), short)

-- ---- targets

-- what stands behind the first `/`
pub record Slashed (text : List ℕ) : Type 0 where
  pub rest : List ℕ
  pub is : text ≡ 47 ∷ rest

pub slashed : (text : List ℕ) → starts_with nat_eq text (codes "/") ≡ true → Slashed text
slashed [] e = absurd (false≢true e)
slashed (b ∷ bytes) e = by_test (nat_eq 47 b) refl
  where
    by_test : (t : Bool) → nat_eq 47 b ≡ t → Slashed (b ∷ bytes)
    by_test true is = record { rest = bytes; is = ap (λ c. c ∷ bytes) (sym (eqb-true 47 b is)) }
    by_test false other = absurd (false≢true (sym (ap (λ t. t && true) other) ∙ e))

first_byte : (a b : ℕ) (x y : List ℕ) → a ∷ x ≡ b ∷ y → a ≡ b
first_byte a b x y e = cc

-- a scheme doesn't begin so
no_scheme : (name others rest : List ℕ) → AllByRecursion (λ b. is_scheme_byte b ≡ true) name → 47 ∷ rest ≡ name ++ 58 ∷ others → ⊥
no_scheme [] others rest all e = omega (arith, first_byte 47 58 rest others e)
no_scheme (n ∷ ns) others rest all e =
    let same : n ≡ 47 = sym (first_byte 47 n rest (ns ++ 58 ∷ others) e) in
    let bad : is_scheme_byte 47 ≡ true = subst (λ b. is_scheme_byte b ≡ true) same all.0 in
    false≢true bad

-- nor has it an authority
pub no_parts : (scheme authority : Option (List ℕ)) (kept rest : List ℕ) → IsUriText (47 ∷ rest) scheme authority kept
    → (scheme ≡ None) × (authority ≡ None) × (kept ≡ without_fragment (47 ∷ rest)) × IsPathInput (47 ∷ rest)
no_parts None None kept rest x = (refl, refl, x.1.1, x.1.0.1)
no_parts None (Some authority) kept rest x =
    let byte : is_authority_byte 47 ≡ true = (x.1.0.bytes 0 (omega arith)).byte in
    absurd (false≢true byte)
no_parts (Some scheme) None kept rest x = absurd x.1
no_parts (Some scheme) (Some authority) kept rest x =
    let form = x.1 in
    let spelled : 47 ∷ rest ≡ form.name ++ (codes "://" ++ (authority ++ form.tail)) =
    form.spelled ∙ append_assoc (form.name ++ codes "://") authority form.tail ∙ append_assoc form.name (codes "://") (authority ++ form.tail) in
    absurd (no_scheme form.name (codes "//" ++ (authority ++ form.tail)) rest (recursion_from_All _ form.name form.is_scheme.0) spelled)

-- so such a target is a path
path_input : (scheme authority : Option (List ℕ)) (kept rest : List ℕ) → IsUriText (47 ∷ rest) scheme authority kept → IsPathInput (47 ∷ rest)
path_input scheme authority kept rest x = (no_parts scheme authority kept rest x).3

-- and without its fragment it is one too
pub cut_path : (rest : List ℕ) → length (47 ∷ rest) ≤ 65534 → IsPathInput (47 ∷ rest) → IsTarget (47 ∷ without_fragment rest)
cut_path rest short input =
    let k = without_fragment rest in
    let same : without_fragment (47 ∷ rest) ≡ 47 ∷ k = cut_cons 47 rest refl in
    let again : without_fragment (47 ∷ k) ≡ 47 ∷ k = cut_cons 47 k refl ∙ ap (λ t. 47 ∷ t) (cut_again rest) in
    let less : length (47 ∷ k) ≤ 65534 = omega (arith, short, cut_short rest) in
    let kept : IsPathAndQuery (without_fragment (47 ∷ k)) = subst IsPathAndQuery (same ∙ sym again) input.kept in
    (None, None, without_fragment (47 ∷ k), (less, ((inr refl, record { start = inr refl; short = less; kept = kept }), refl)))

pub target_cut : (text : List ℕ) → starts_with nat_eq text (codes "/") ≡ true → IsTarget text → IsTarget (without_fragment text)
target_cut text begins x =
    let s = slashed text begins in
    let y : IsTarget (47 ∷ s.rest) = subst IsTarget s.is x in
    let cut : IsTarget (47 ∷ without_fragment s.rest) = cut_path s.rest y.3.0 (path_input y.0 y.1 y.2 s.rest y.3) in
    subst IsTarget (sym (ap without_fragment s.is ∙ cut_cons 47 s.rest refl)) cut

-- it has a byte, and is UTF-8
pub some_cut : (text : List ℕ) → starts_with nat_eq text (codes "/") ≡ true → 0 < length (without_fragment text)
some_cut text begins =
    let s = slashed text begins in
    omega (arith, ap length (ap without_fragment s.is ∙ cut_cons 47 s.rest refl))

pub utf8_cut : (text : List ℕ) → starts_with nat_eq text (codes "/") ≡ true → IsTarget text → IsUtf8 (without_fragment text)
utf8_cut text begins x =
    let s = slashed text begins in
    let y : IsTarget (47 ∷ s.rest) = subst IsTarget s.is x in
    subst (λ (t : List ℕ). IsUtf8 (without_fragment t)) (sym s.is) (path_input y.0 y.1 y.2 s.rest y.3).kept.utf8

pub visible_cut : (text : List ℕ) → AllPass is_uri_byte text → AllPass is_uri_byte (without_fragment text)
visible_cut text all = All-take (λ b. IsTrue (is_uri_byte b)) (index_of hash_sign text) text all
