-- The payload of a Close.
use Rattle.std.proofs.Common.{◌≡◌, ℕ, ◌+◌, ◌*◌, ◌<◌, ◌≤◌, Bool, true, false, cond, ◌&&◌, List, [], ◌∷◌, length, drop, get_or, nat_eq, Some, Ok, Err, refl, sym, ap, ◌∙◌, arith}
use Rattle.std.proofs.lemmas.Bool.{eqb-true}
use Rattle.std.specs.Str.{IsUtf8, is_utf8}
use Rattle.std.proofs.lemmas.Str.{IsUtf8-from_is_utf8, is_utf8-from_IsUtf8}
use Rattle.model_h1.specs.Frame as frames
use Rattle.model_h1.specs.FrameText.{is_close_code, description_of, close_frame}
use Rattle.ws_frames.specs.declared.proto.CloseCode.{CloseCode}
use Rattle.ws_frames.specs.Protocol.{close_number, close_code}
use Rattle.ws_frames.specs.Close.{reason_frame}

-- a payload of two bytes and more
pub close_of_two : (payload : List ℕ) → 2 ≤ length payload → close_frame payload ≡ reason_frame (get_or payload 0 0 * 256 + get_or payload 1 0) (drop 2 payload)
close_of_two [] long = absurd (omega arith)
close_of_two (a ∷ []) long = absurd (omega arith)
close_of_two (a ∷ b ∷ text) long =
    let e : (0 * 256 + a) * 256 + b ≡ a * 256 + b = omega arith in
    ap (λ (n : ℕ). reason_frame n text) e

-- a payload of one byte
pub close_of_one : (payload : List ℕ) → 1 ≤ length payload → length payload < 2 → close_frame payload ≡ Err (frames.invalid_length 1)
close_of_one [] long short = absurd (omega arith)
close_of_one (a ∷ []) long short = refl
close_of_one (a ∷ b ∷ text) long short = absurd (omega arith)

-- a code that may not be sent
pub bad_code : (number : ℕ) (text : List ℕ) → is_close_code number ≡ false → reason_frame number text ≡ Err frames.bad_op_code
bad_code number text bad = ap (λ (b : Bool). cond (b && is_utf8 text)
    (Ok (frames.close (Some (record { code = number; description = description_of text })))) (Err frames.bad_op_code)) bad

-- a text that is no UTF-8
pub bad_text : (number : ℕ) (text : List ℕ) → is_close_code number ≡ true → ¬ (IsUtf8 text) → reason_frame number text ≡ Err frames.bad_op_code
bad_text number text good bad = go (is_utf8 text) refl
  where
    go : (t : Bool) → is_utf8 text ≡ t → reason_frame number text ≡ Err frames.bad_op_code
    go true e = absurd (bad (IsUtf8-from_is_utf8 text e))
    go false e = λ i. cond (good i && e i) (Ok (frames.close (Some (record { code = number; description = description_of text })))) (Err frames.bad_op_code)

-- a code that may be sent, and a text
pub good_reason : (number : ℕ) (text : List ℕ) → is_close_code number ≡ true → IsUtf8 text
    → reason_frame number text ≡ Ok (frames.close (Some (record { code = number; description = description_of text })))
good_reason number text good utf8 =
    let e = is_utf8-from_IsUtf8 text utf8 in
    λ i. cond (good i && e i) (Ok (frames.close (Some (record { code = number; description = description_of text })))) (Err frames.bad_op_code)

-- on both sides of a test whether n is k, the number of the code is n
one_number : (n k : ℕ) (x y : CloseCode) → close_number x ≡ k → close_number y ≡ n → close_number (cond (nat_eq n k) x y) ≡ n
one_number n k x y same other = go (nat_eq n k) refl
  where
    go : (t : Bool) → nat_eq n k ≡ t → close_number (cond t x y) ≡ n
    go true e = same ∙ sym (eqb-true n k e)
    go false e = other

-- a close code has the number that it was made of
pub number_of_code : (n : ℕ) → close_number (close_code n) ≡ n
number_of_code n =
    one_number n 1000 _ _ refl (one_number n 1001 _ _ refl (one_number n 1002 _ _ refl (one_number n 1003 _ _ refl
    (one_number n 1006 _ _ refl (one_number n 1007 _ _ refl (one_number n 1008 _ _ refl (one_number n 1009 _ _ refl
    (one_number n 1010 _ _ refl (one_number n 1011 _ _ refl (one_number n 1012 _ _ refl (one_number n 1013 _ _ refl
    (one_number n 1015 _ _ refl refl))))))))))))
