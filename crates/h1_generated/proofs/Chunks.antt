-- A body of one chunk is pulled whole, and then its end.
use Rattle.std.proofs.Common.{◌≡◌, ℕ, ◌+◌, ◌-◌, ◌*◌, ◌^◌, ◌<◌, ◌≤◌, true, List, [], ◌∷◌, ◌++◌, length, take, drop, codes, refl, sym, ap, ◌∙◌, subst, arith, lit<, lit≤, length-append, lt-ltb}
use Rattle.std.specs.Prelude.{zero, suc, nat_le}
use Rattle.std.specs.Char.{digit_value}
use Rattle.std.specs.Fmt.{digits}
use Rattle.std.specs.Str.Parse.{AllDigits, digits_value_after}
use Rattle.std.proofs.Math.Seq.{take-append_seam}
use Rattle.std.proofs.lemmas.Bool.{agree_below_at, cond-true, ne_eqb, leb-true}
use Rattle.std.proofs.lemmas.Fmt.{digits_is_IsNumeral}
use Rattle.std.proofs.lemmas.List.{drop_at, length-replicate}
use Rattle.model_h1.specs.Place.{start, in_size, in_bytes, bytes_end}
use Rattle.model_h1.specs.TakeNext.{chunk, ended, nothing_noted, take_next}
use Rattle.h1_generated.specs.Generated.{letters, one_chunk}

-- a number grows by the digits that follow it
grows : (size : ℕ) (ds : List ℕ) → size ≤ digits_value_after 16 size ds
grows size [] = omega arith
grows size (c ∷ cs) = omega (arith, grows (size * 16 + digit_value c) cs)

-- digits are read into a size that fits
digits_taken : (size : ℕ) (ds rest : List ℕ) → AllDigits 16 ds → digits_value_after 16 size ds < 2 ^ 64
    → take_next (in_size size) (ds ++ rest) ≡ take_next (in_size (digits_value_after 16 size ds)) rest
unfolding take_next
digits_taken size [] rest all fits = refl
digits_taken size (c ∷ cs) rest all fits =
    let next = size * 16 + digit_value c in
    let below : next < 2 ^ 64 = omega (arith, grows next cs, fits) in
    let digit = lt-ltb (digit_value c) 16 all.0 in
    let room = lt-ltb next (2 ^ 64) below in
    rw (digit, room) (digits_taken next cs rest all.1 fits)

-- behind the size line come the bytes of the chunk
line_taken : (n : ℕ) (b : ℕ) (rest : List ℕ) → 0 < n
    → take_next (in_size n) (codes "\r\n" ++ (b ∷ rest)) ≡ take_next (in_bytes (n - 1)) (b ∷ rest)
unfolding take_next
line_taken n b rest some = rw (ne_eqb n 0 (omega arith)) refl

-- all of them, where all are there
bytes_taken : (b : ℕ) (bytes rest : List ℕ) → 0 < length rest
    → take_next (in_bytes (length bytes)) (b ∷ bytes ++ rest) ≡ record { trailers = []; next = chunk (b ∷ bytes) bytes_end rest }
unfolding take_next
bytes_taken b bytes rest some =
    let all = b ∷ (bytes ++ rest) in
    let n : length bytes + 1 ≡ length (b ∷ bytes) = omega arith in
    let less = lt-ltb (length bytes) (length all) (omega (arith, length-append bytes rest)) in
    let given : take (length bytes + 1) all ≡ b ∷ bytes = ap (λ k. take k all) n ∙ take-append_seam (b ∷ bytes) rest in
    let behind : drop (length bytes + 1) all ≡ rest = ap (λ k. drop k all) n ∙ drop_at (b ∷ bytes) rest (length (b ∷ bytes)) refl in
    ap nothing_noted (cond-true _ (chunk (take (length bytes + 1) all) bytes_end (drop (length bytes + 1) all)) (chunk all (in_bytes (length bytes - length all)) []) less
    ∙ (λ i. chunk (given i) bytes_end (behind i)))

-- the first pull of a body of one chunk
chunk_taken : (b : ℕ) (bytes : List ℕ) → length (b ∷ bytes) < 2 ^ 64
    → take_next start (one_chunk (b ∷ bytes)) ≡ record { trailers = []; next = chunk (b ∷ bytes) bytes_end (codes "\r\n0\r\n\r\n") }
chunk_taken b bytes fits =
    let n = length (b ∷ bytes) in
    let rest = codes "\r\n0\r\n\r\n" in
    let numeral = digits_is_IsNumeral 16 true (lit≤ tt) (lit≤ tt) n (omega (arith, fits)) in
    let one_less : n - 1 ≡ length bytes = omega arith in
    let below : digits_value_after 16 0 (digits 16 true n) < 2 ^ 64 = subst (λ k. k < 2 ^ 64) (sym numeral.1) fits in
    digits_taken 0 (digits 16 true n) (codes "\r\n" ++ (b ∷ bytes ++ rest)) numeral.0.1 below
    ∙ ap (λ size. take_next (in_size size) (codes "\r\n" ++ (b ∷ bytes ++ rest))) numeral.1
    ∙ line_taken n b (bytes ++ rest) (omega arith)
    ∙ ap (λ more. take_next (in_bytes more) (b ∷ bytes ++ rest)) one_less
    ∙ bytes_taken b bytes rest (lit< tt)

-- the same of letters
pub letters_taken : (n : ℕ) → 0 < n → n < 2 ^ 64
    → take_next start (one_chunk (letters n)) ≡ record { trailers = []; next = chunk (letters n) bytes_end (codes "\r\n0\r\n\r\n") }
letters_taken zero some fits = absurd (omega (arith, some))
letters_taken (suc m) some fits = chunk_taken 97 (letters m) (omega (arith, fits, length-replicate {A = ℕ} m 97))

-- the body's end
pub end_taken : take_next bytes_end (codes "\r\n0\r\n\r\n") ≡ record { trailers = []; next = ended [] }
unfolding take_next
end_taken = refl

-- sizes up to 1000 have three digits at most
pub short_size : (n : ℕ) → n < 1001 → length (digits 16 true n) ≤ 3
unfolding digits
short_size n less = leb-true (length (digits 16 true n)) 3 (agree_below_at (λ n. nat_le (length (digits 16 true n)) 3) (λ _. true) 1001 n refl less)
