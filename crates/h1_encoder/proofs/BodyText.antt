-- The text of a body that is encoded piece by piece.
use Rattle.std.proofs.Common.{◌≡◌, ℕ, zero, suc, ◌+◌, ◌-◌, ◌<◌, ◌≤◌, true, false, List, [], ◌∷◌, ◌++◌, length, take, inl, inr, refl, sym, ap, ◌∙◌, arith, append_assoc}
use Rattle.std.specs.Prelude.{flat_map}
use Rattle.std.proofs.Math.Seq.{take-append-add}
use Rattle.std.proofs.lemmas.Bool.{ne_eqb}
use Rattle.std.proofs.lemmas.Bool.Decides.{leb_tells}
use Rattle.std.proofs.lemmas.List.{take_all, take-append-le, append-nil}
use Rattle.model_h1.specs.AnswerText.{chunk_text, last_chunk}
use Rattle.h1_encoder.specs.Encoding.{Encoding, as_it_is, in_chunks, of_length, behind, encoded_all}
use Rattle.h1_encoder.specs.Pieces.{AreFilled, written, joined}

take_none : (ys : List ℕ) → take 0 ys ≡ []
take_none [] = refl
take_none (y ∷ ys) = refl

-- the first bytes of two lists
take_both : (n : ℕ) (xs ys : List ℕ) → take n (xs ++ ys) ≡ take n xs ++ take (n - length xs) ys
take_both n xs ys = elim (leb_tells n (length xs)) [ inl within ↦ short within.1 | inr past ↦ long past.1 ]
  where
    short : n ≤ length xs → take n (xs ++ ys) ≡ take n xs ++ take (n - length xs) ys
    short within =
        let none : n - length xs ≡ 0 = omega (arith, within) in
        take-append-le n xs ys within ∙ sym (append-nil (take n xs)) ∙ ap (λ (l : List ℕ). take n xs ++ l) (sym (take_none ys))
        ∙ ap (λ m. take n xs ++ take m ys) (sym none)

    long : length xs < n → take n (xs ++ ys) ≡ take n xs ++ take (n - length xs) ys
    long past =
        let all : length xs + (n - length xs) ≡ n = omega (arith, past) in
        ap (λ m. take m (xs ++ ys)) (sym all) ∙ take-append-add xs ys (n - length xs)
        ∙ ap (λ (l : List ℕ). l ++ take (n - length xs) ys) (sym (take_all n xs (omega (arith, past))))

-- behind the last chunk nothing is written
nothing_more : (pieces : List (List ℕ)) → encoded_all (in_chunks true) pieces ≡ []
nothing_more [] = refl
nothing_more (p ∷ pieces) = nothing_more pieces

-- a piece with bytes leaves a body in chunks open
stays_open : (b : ℕ) (bytes : List ℕ) → behind (in_chunks false) (b ∷ bytes) ≡ in_chunks false
stays_open b bytes = ap in_chunks (ne_eqb (length (b ∷ bytes)) 0 (λ none. absurd (omega (arith, none))))

pub chunks_all : (pieces : List (List ℕ)) → AreFilled pieces → encoded_all (in_chunks false) pieces ≡ written pieces
chunks_all [] filled = refl
chunks_all ([] ∷ pieces) filled = absurd (omega (arith, filled.0))
chunks_all ((b ∷ bytes) ∷ pieces) filled =
    ap (λ (e : Encoding). chunk_text (b ∷ bytes) ++ encoded_all e pieces) (stays_open b bytes)
    ∙ ap (λ (l : List ℕ). chunk_text (b ∷ bytes) ++ l) (chunks_all pieces filled.1)
    ∙ sym (append_assoc (chunk_text (b ∷ bytes)) (flat_map chunk_text pieces) last_chunk)

pub chunks_up_to : (pieces later : List (List ℕ)) → AreFilled pieces → encoded_all (in_chunks false) (pieces ++ [] ∷ later) ≡ written pieces
chunks_up_to [] later filled = ap (λ (l : List ℕ). last_chunk ++ l) (nothing_more later)
chunks_up_to ([] ∷ pieces) later filled = absurd (omega (arith, filled.0))
chunks_up_to ((b ∷ bytes) ∷ pieces) later filled =
    ap (λ (e : Encoding). chunk_text (b ∷ bytes) ++ encoded_all e (pieces ++ [] ∷ later)) (stays_open b bytes)
    ∙ ap (λ (l : List ℕ). chunk_text (b ∷ bytes) ++ l) (chunks_up_to pieces later filled.1)
    ∙ sym (append_assoc (chunk_text (b ∷ bytes)) (flat_map chunk_text pieces) last_chunk)

take_nil : (n : ℕ) → [] ≡ take n (joined [])
take_nil zero = refl
take_nil (suc n) = refl

pub length_all : (n : ℕ) (pieces : List (List ℕ)) → encoded_all (of_length n) pieces ≡ take n (joined pieces)
length_all n [] = take_nil n
length_all n (p ∷ pieces) =
    ap (λ (l : List ℕ). take n p ++ l) (length_all (n - length p) pieces) ∙ sym (take_both n p (joined pieces))

pub raw_all : (pieces : List (List ℕ)) → encoded_all as_it_is pieces ≡ joined pieces
raw_all [] = refl
raw_all (p ∷ pieces) = ap (λ (l : List ℕ). p ++ l) (raw_all pieces)
