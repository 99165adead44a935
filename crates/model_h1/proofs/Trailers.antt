-- The text of a trailer section tells its trailers: a name has no colon, and a value no CR.
use Rattle.std.proofs.Common.{◌≡◌, ℕ, Bool, true, false, List, [], ◌∷◌, ◌++◌, refl, sym, ap, ◌∙◌}
use Rattle.std.specs.List.{list_all, AllByRecursion}
use Rattle.std.proofs.lemmas.Bool.{and_parts, true≢false}
use Rattle.std.proofs.lemmas.List.{append_assoc}
use Rattle.httparse.specs.Grammar.{is_value_byte, is_token_byte}
use Rattle.httparse.specs.Ascii.{colon, carriage_return}
use Rattle.model_h1.specs.ChunkedText.{Trailer, IsTrailer, trailer_text, section_text}

-- a byte that a test refuses is none of those that pass
not_refused : (p : ℕ → Bool) (c b : ℕ) → p c ≡ false → p b ≡ true → b ≡ c → ⊥
not_refused p c b refused passes e = true≢false (sym passes ∙ ap p e ∙ refused)

-- equal texts have equal first bytes
first_same : (x y : ℕ) (xs ys : List ℕ) → x ∷ xs ≡ y ∷ ys → x ≡ y
first_same x y xs ys e = cc

-- a name holds no colon
colon_is_no_token : is_token_byte colon ≡ false
unfolding is_token_byte
colon_is_no_token = refl

-- the bytes up to the first that a test refuses
first_refused : (p : ℕ → Bool) (c : ℕ) (xs ys u v : List ℕ) → p c ≡ false → list_all p xs ≡ true → list_all p ys ≡ true → xs ++ c ∷ u ≡ ys ++ c ∷ v
    → (xs ≡ ys) × (u ≡ v)
first_refused p c [] [] u v refused all_xs all_ys e = (refl, cc)
first_refused p c [] (y ∷ ys) u v refused all_xs all_ys e =
    absurd (not_refused p c y refused (and_parts _ _ all_ys).0 (cc))
first_refused p c (x ∷ xs) [] u v refused all_xs all_ys e =
    absurd (not_refused p c x refused (and_parts _ _ all_xs).0 (cc))
first_refused p c (x ∷ xs) (y ∷ ys) u v refused all_xs all_ys e =
    let rest : xs ++ c ∷ u ≡ ys ++ c ∷ v = cc in
    let same = first_refused p c xs ys u v refused (and_parts _ _ all_xs).1 (and_parts _ _ all_ys).1 rest in
    let head = first_same x y (xs ++ c ∷ u) (ys ++ c ∷ v) e in
    (λ i. head i ∷ same.0 i, same.1)

-- a trailer line and what follows it, as a name, a colon, a value, CR and the rest
line_parts : (t : Trailer) (rest : List ℕ) → trailer_text t ++ rest ≡ t.name ++ (colon ∷ (t.value ++ (13 ∷ (10 ∷ rest))))
line_parts t rest = simp append_assoc

-- the first trailer and what follows it are told
first_trailer : (a b : Trailer) (u v : List ℕ) → IsTrailer a → IsTrailer b → trailer_text a ++ u ≡ trailer_text b ++ v → (a ≡ b) × (u ≡ v)
first_trailer a b u v x y e =
    let parts = sym (line_parts a u) ∙ e ∙ line_parts b v in
    let names = first_refused is_token_byte colon a.name b.name _ _ colon_is_no_token x.1 y.1 parts in
    let values = first_refused is_value_byte carriage_return a.value b.value _ _ refl x.2 y.2 names.1 in
    let rests = values.1 in
    (λ i. record { name = names.0 i; value = values.0 i }, cc)

-- a text with a byte in it isn't empty
not_nil : (xs : List ℕ) (c : ℕ) (ys : List ℕ) → [] ≡ xs ++ c ∷ ys → ⊥
not_nil [] c ys e = cc
not_nil (x ∷ xs) c ys e = cc

-- a trailer line is no empty text
line_not_nil : (t : Trailer) (rest : List ℕ) → [] ≡ trailer_text t ++ rest → ⊥
line_not_nil t rest e = not_nil t.name _ _ (e ∙ line_parts t rest)

-- a section's text tells its trailers
pub section_tells : (a b : List Trailer) → AllByRecursion IsTrailer a → AllByRecursion IsTrailer b → section_text a ≡ section_text b → a ≡ b
section_tells [] [] x y e = refl
section_tells [] (t ∷ b) x y e = absurd (line_not_nil t (section_text b) e)
section_tells (t ∷ a) [] x y e = absurd (line_not_nil t (section_text a) (sym e))
section_tells (t ∷ a) (u ∷ b) x y e =
    let first = first_trailer t u (section_text a) (section_text b) x.0 y.0 e in
    let rest = section_tells a b x.1 y.1 first.1 in
    λ i. first.0 i ∷ rest i
