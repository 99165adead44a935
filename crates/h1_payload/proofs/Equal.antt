-- Decoders that are equal are one.
use Rattle.std.proofs.Common.{◌≡◌, ℕ, zero, suc, Bool, true, false, List, [], ◌∷◌, refl, sym, ap, ◌∙◌, subst, nat_eq, ◌↔◌}
use Rattle.std.specs.Cmp.Lexicographic.{pointwise, bytes_decides}
use Rattle.std.proofs.lemmas.Bool.{and_parts, and_from}
use Rattle.model_h1.specs.Place.{line_start, in_name, in_value, line_cr, in_size, in_blanks, in_extension, size_cr, in_bytes, bytes_end, bytes_cr, in_section, end_cr, done, broken}
use Rattle.model_state.specs.Kept.{Rest, no_rest, raw_rest, fixed_rest, chunks_rest, frames_rest}
use Rattle.h1_payload.specs.Decoding.{Decoding}
use Rattle.h1_payload.specs.Rests.{section_of}
use Rattle.h1_payload.specs.Sameness.{flag, rest_numbers, are_equal}

abbrev test_of : ℕ → Bool
test_of zero = false
test_of (suc n) = true

-- what has these numbers and this text
abbrev later : ℕ → ℕ → ℕ → List ℕ → Rest
later zero n m text = chunks_rest (in_section line_start n m) text
later (suc zero) n m text = chunks_rest (in_section in_name n m) text
later (suc (suc zero)) n m text = chunks_rest (in_section in_value n m) text
later (suc (suc (suc zero))) n m text = chunks_rest (in_section line_cr n m) text
later (suc (suc (suc (suc zero)))) n m text = chunks_rest end_cr text
later (suc (suc (suc (suc (suc zero))))) n m text = chunks_rest done text
later (suc (suc (suc (suc (suc (suc zero)))))) n m text = chunks_rest broken text
later (suc (suc (suc (suc (suc (suc (suc zero))))))) n m text = no_rest
later (suc (suc (suc (suc (suc (suc (suc (suc zero)))))))) n m text = raw_rest
later (suc (suc (suc (suc (suc (suc (suc (suc (suc zero))))))))) n m text = fixed_rest n
later other n m text = frames_rest (test_of n) m

abbrev rest_from : List ℕ → List ℕ → Rest
rest_from [] text = no_rest
rest_from (kind ∷ []) text = no_rest
rest_from (kind ∷ n ∷ []) text = no_rest
rest_from (zero ∷ n ∷ m ∷ more) text = chunks_rest (in_size n) text
rest_from (suc zero ∷ n ∷ m ∷ more) text = chunks_rest (in_blanks n) text
rest_from (suc (suc zero) ∷ n ∷ m ∷ more) text = chunks_rest (in_extension n) text
rest_from (suc (suc (suc zero)) ∷ n ∷ m ∷ more) text = chunks_rest (size_cr n) text
rest_from (suc (suc (suc (suc zero))) ∷ n ∷ m ∷ more) text = chunks_rest (in_bytes n) text
rest_from (suc (suc (suc (suc (suc zero)))) ∷ n ∷ m ∷ more) text = chunks_rest bytes_end text
rest_from (suc (suc (suc (suc (suc (suc zero))))) ∷ n ∷ m ∷ more) text = chunks_rest bytes_cr text
rest_from (suc (suc (suc (suc (suc (suc (suc kind)))))) ∷ n ∷ m ∷ more) text = later kind n m text

-- the numbers and the text say what is left
said : (rest : Rest) → rest_from (rest_numbers rest) (section_of rest) ≡ rest
said no_rest = refl
said raw_rest = refl
said (fixed_rest n) = refl
said (chunks_rest (in_size n) section) = refl
said (chunks_rest (in_blanks n) section) = refl
said (chunks_rest (in_extension n) section) = refl
said (chunks_rest (size_cr n) section) = refl
said (chunks_rest (in_bytes n) section) = refl
said (chunks_rest bytes_end section) = refl
said (chunks_rest bytes_cr section) = refl
said (chunks_rest (in_section line_start lines room) section) = refl
said (chunks_rest (in_section in_name lines room) section) = refl
said (chunks_rest (in_section in_value lines room) section) = refl
said (chunks_rest (in_section line_cr lines room) section) = refl
said (chunks_rest end_cr section) = refl
said (chunks_rest done section) = refl
said (chunks_rest broken section) = refl
said (frames_rest true limit) = refl
said (frames_rest false limit) = refl

flag_said : (b : Bool) → test_of (flag b) ≡ b
flag_said true = refl
flag_said false = refl

abbrev head_of : List ℕ → ℕ
head_of [] = 0
head_of (x ∷ xs) = x

abbrev tail_of : List ℕ → List ℕ
tail_of [] = []
tail_of (x ∷ xs) = xs

same_decoding : (a b : Decoding) → flag a.is_broken ∷ rest_numbers a.rest ≡ flag b.is_broken ∷ rest_numbers b.rest → section_of a.rest ≡ section_of b.rest
    → a ≡ b
same_decoding a b numbers text =
    let flags : a.is_broken ≡ b.is_broken = sym (flag_said a.is_broken) ∙ ap (λ l. test_of (head_of l)) numbers ∙ flag_said b.is_broken in
    let rests : a.rest ≡ b.rest =
    sym (said a.rest) ∙ (λ i. rest_from (tail_of (numbers i)) (text i)) ∙ said b.rest in
    λ i. record { rest = rests i; is_broken = flags i }

-- the test says it
pub are_one : (a b : Decoding) → (are_equal a b ≡ true) ↔ (a ≡ b)
are_one a b = (
  λ e.
      let parts = and_parts (pointwise nat_eq (flag a.is_broken ∷ rest_numbers a.rest) (flag b.is_broken ∷ rest_numbers b.rest))
      (pointwise nat_eq (section_of a.rest) (section_of b.rest)) e in
      same_decoding a b ((bytes_decides (flag a.is_broken ∷ rest_numbers a.rest) (flag b.is_broken ∷ rest_numbers b.rest)).0 parts.0)
      ((bytes_decides (section_of a.rest) (section_of b.rest)).0 parts.1),
  λ e. subst (λ (d : Decoding). are_equal a d ≡ true) e
      (and_from (pointwise nat_eq (flag a.is_broken ∷ rest_numbers a.rest) (flag a.is_broken ∷ rest_numbers a.rest))
      (pointwise nat_eq (section_of a.rest) (section_of a.rest))
      ((bytes_decides (flag a.is_broken ∷ rest_numbers a.rest) (flag a.is_broken ∷ rest_numbers a.rest)).1 refl)
      ((bytes_decides (section_of a.rest) (section_of a.rest)).1 refl)),
)
