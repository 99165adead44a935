-- The text of a length with the bit of the mask.
use Rattle.std.proofs.Common.{◌≡◌, ℕ, ◌+◌, ◌<◌, ◌≤◌, Bool, false, cond, [], ◌∷◌, nat_lt, ap, arith, le-ltb}
use Rattle.std.proofs.lemmas.Bool.{lt-ltb}
use Rattle.std.specs.Int.{w16, w64, to_be_bytes}
use Rattle.model_h1.specs.FrameText.{length_field}
use Rattle.ws_frames.specs.Written.{masked_field}

-- below 126
pub short_masked : (n : ℕ) → n < 126 → masked_field (length_field n) ≡ (128 + n) ∷ []
short_masked n small = ap (λ (b : Bool). masked_field (cond b (n ∷ []) (cond (nat_lt n 65536) (126 ∷ to_be_bytes w16 n) (127 ∷ to_be_bytes w64 n)))) (lt-ltb n 126 small)

-- below 2 ^ 16
pub middle_masked : (n : ℕ) → 126 ≤ n → n < 65536 → masked_field (length_field n) ≡ 254 ∷ to_be_bytes w16 n
middle_masked n large small =
    let a = le-ltb n 126 large in
    let b = lt-ltb n 65536 small in
    λ i. masked_field (cond (a i) (n ∷ []) (cond (b i) (126 ∷ to_be_bytes w16 n) (127 ∷ to_be_bytes w64 n)))

-- and all others
pub long_masked : (n : ℕ) → 65536 ≤ n → masked_field (length_field n) ≡ 255 ∷ to_be_bytes w64 n
long_masked n large =
    let a : nat_lt n 126 ≡ false = le-ltb n 126 (omega arith) in
    let b = le-ltb n 65536 large in
    λ i. masked_field (cond (a i) (n ∷ []) (cond (b i) (126 ∷ to_be_bytes w16 n) (127 ∷ to_be_bytes w64 n)))
