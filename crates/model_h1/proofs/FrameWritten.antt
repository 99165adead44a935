-- A frame that is written is read back, and a mask put on twice is none.
use Rattle.std.proofs.Common.{◌≡◌, ℕ, zero, suc, ◌+◌, ◌*◌, ◌/◌, ◌%◌, ◌^◌, ◌<◌, ◌≤◌, inl, inr, Bool, true, false, cond, not, ◌&&◌, List, [], ◌∷◌, ◌++◌, length, take, drop, get_or, fold, nat_le, ◌==◌, Option, Some, None, Ok, Err, refl, sym, ap, ◌∙◌, subst, arith, append_assoc, length-append, le-ltb, pow-suc, mul_comm}
use Rattle.std.proofs.Math.Seq.{take-append_seam, drop-append_seam}
use Rattle.std.proofs.Math.Nat.{pow-le-pow_right, mod-eq_of_lt}
use Rattle.std.proofs.Math.Arith.{mod-mul}
use Rattle.std.proofs.lemmas.Bool.{cond-true, cond-false, lt-ltb, lt-leb, cases_lt, ne_eqb}
use Rattle.std.proofs.lemmas.Bool.Decides.{nat_tests}
use Rattle.std.specs.Int.Bits.{bit_xor, xor_assoc, xor_self, xor_zero_r}
use Rattle.std.specs.Int.{byte_at, bytes_high_first}
use Rattle.std.specs.Option.{option_or, unwrap_or}
use Rattle.std.specs.Str.{is_utf8, chars}
use Rattle.model_h1.specs.Frame.{CloseReason, Frame, text, binary, first_text, first_binary, continuation, last, ping, pong, close, unmasked_frame, bad_op_code, overflow, invalid_reserved_bits}
use Rattle.model_h1.specs.FrameText.{Reader, JudgesSize, at_length, when_whole, FrameStart, frame_start, start_error, opcode_of, opcode_error, big_endian, length_bytes, payload_length_of, FrameHeader, unmask, judged_frame, is_close_code, description_of, close_payload, close_frame, starting, going_on, partial, whole, breaks, unless_broken, front_of_judged, overflows_at_length, front_of_header, front_of_start, front_frame, length_field, frame_text}
use Rattle.model_h1.specs.Limits.{MAX_FRAME}
use Rattle.model_h1.specs.Laws.WrittenFrame.{KeepsRules, is_close_text}

-- ---- masks

-- byte by byte, a mask put on twice is none
pub masked_twice : (mask : List ℕ) (k : ℕ) (bytes : List ℕ) → unmask mask k (unmask mask k bytes) ≡ bytes
unfolding unmask
masked_twice mask k [] = refl
masked_twice mask k (b ∷ bytes) =
    let m = get_or mask (k % 4) 0 in
    let here : bit_xor (bit_xor b m) m ≡ b = xor_assoc b m m ∙ ap (bit_xor b) (xor_self m) ∙ xor_zero_r b in
    let others = masked_twice mask (k + 1) bytes in
    λ i. here i ∷ others i

-- ---- numbers in network order

-- one more byte in front of the lowest k
one_byte_more : (k n high : ℕ) → (high * 256 + byte_at k n) * 256 ^ k + n % 256 ^ k ≡ high * 256 ^ suc k + n % 256 ^ suc k
one_byte_more zero n high = omega arith
one_byte_more (suc k) n high =
    let unit = 256 ^ suc k in
    let wider : 256 ^ suc (suc k) ≡ 256 * unit = pow-suc 256 (suc k) ∙ mul_comm unit 256 in
    let some : 0 < unit = pow-le-pow_right {n = 256} (omega arith) {i = 0} {j = suc k} (omega arith) in
    rw (wider, mod-mul n {m = 256} {c = unit} (omega arith) some) (omega arith)

-- the lowest k bytes spell what is left of the number
spelled_behind : (k n high : ℕ) → fold (λ m b. m * 256 + b) high (bytes_high_first k n) ≡ high * 256 ^ k + n % 256 ^ k
spelled_behind zero n high = omega arith
spelled_behind (suc k) n high = spelled_behind k n (high * 256 + byte_at k n) ∙ one_byte_more k n high

-- as many bytes as a number needs spell it
spelled : (k n : ℕ) → n < 256 ^ k → big_endian (bytes_high_first k n) ≡ n
spelled k n small = spelled_behind k n 0 ∙ ap (λ m. 0 * 256 ^ k + m) (mod-eq_of_lt small) ∙ omega arith

-- ---- a header without a mask

-- the first two bytes of a frame that is written
abbrev plain_start : ℕ → ℕ → FrameStart
plain_start first short = record {
  is_final = nat_le 128 first;
  reserved_bits = first / 16 % 8;
  opcode = opcode_of (first % 16);
  is_masked = false;
  short_length = short;
}

-- a first byte that may be written: no reserved bits, and a known opcode
record IsPlain (first : ℕ) : Type 0 where
  bits : (first / 16 % 8 == 0) ≡ true
  known : opcode_error (opcode_of (first % 16)) ≡ None

-- it breaks no rule of a reader without masks
no_start_error : (reader : Reader) (first short : ℕ) → reader.wants_mask ≡ false → IsPlain first
    → start_error reader (plain_start first short) ≡ None
no_start_error reader first short no_mask plain =
    let bits = plain.bits in
    let known = plain.known in
    λ i. cond (not (bits i)) (Some invalid_reserved_bits) (option_or (cond (no_mask i) (Some unmasked_frame) None) (known i))

-- where the length is within the limit, it is not refused
not_refused : (w : JudgesSize) (reader : Reader) (header : FrameHeader) → header.payload_length ≤ reader.max_payload
    → header.header_length + header.payload_length ≤ MAX_FRAME → overflows_at_length w reader header ≡ false
not_refused at_length reader header within below = le-ltb reader.max_payload header.payload_length within
not_refused when_whole reader header within below = le-ltb MAX_FRAME (header.header_length + header.payload_length) below

-- a payload behind its header is the frame's
plain_body : (reader : Reader) (u : Bool) (first short head : ℕ) (payload more : List ℕ) → length payload ≤ reader.max_payload
    → head + length payload ≤ MAX_FRAME
    → front_of_header reader u (record { start = plain_start first short; header_length = head; payload_length = length payload }) (payload ++ more)
    ≡ front_of_judged (head + length payload) (judged_frame u (plain_start first short) payload)
plain_body reader u first short head payload more within below =
    let n = length payload in
    let header : FrameHeader = record { start = plain_start first short; header_length = head; payload_length = n } in
    let read = λ (t : List ℕ). front_of_judged (head + n) (judged_frame u (plain_start first short) t) in
    let there = le-ltb (length (payload ++ more)) (0 + n) (omega (arith, length-append payload more)) in
    cond-false _ (breaks overflow) _ (not_refused reader.judges_size reader header within below)
    ∙ cond-false _ partial _ there
    ∙ cond-false _ (breaks overflow) _ (le-ltb reader.max_payload n within)
    ∙ ap read (take-append_seam payload more)

-- a frame whose first two bytes and length are written
plain_front : (reader : Reader) (u : Bool) (first second short : ℕ) (field payload more : List ℕ) → reader.wants_mask ≡ false → IsPlain first
    → frame_start first second ≡ plain_start first short → length_bytes (plain_start first short) ≡ length field
    → payload_length_of (plain_start first short) (field ++ (payload ++ more)) ≡ length payload → length payload ≤ reader.max_payload
    → 2 + length field + length payload ≤ MAX_FRAME
    → front_frame reader u (first ∷ second ∷ (field ++ (payload ++ more)))
    ≡ front_of_judged (2 + length field + length payload) (judged_frame u (plain_start first short) payload)
unfolding front_frame
plain_front reader u first second short field payload more no_mask plain starts width size within below =
    let s = plain_start first short in
    let rest = payload ++ more in
    let front = λ (t : FrameStart). unless_broken (start_error reader t) (front_of_start reader u t (field ++ rest)) in
    let there = le-ltb (length (field ++ rest)) (length_bytes s) (omega (arith, length-append field rest)) in
    let behind : drop (length_bytes s) (field ++ rest) ≡ rest = ap (λ k. drop k (field ++ rest)) width ∙ drop-append_seam field rest in
    ap front starts
    ∙ ap (λ e. unless_broken e (front_of_start reader u s (field ++ rest))) (no_start_error reader first short no_mask plain)
    ∙ cond-false _ partial _ there
    ∙ (λ i. front_of_header reader u (record { start = s; header_length = 2 + width i + 0; payload_length = size i }) (behind i))
    ∙ plain_body reader u first short (2 + length field + 0) payload more within (omega arith)
    ∙ ap (λ k. front_of_judged (k + length payload) (judged_frame u s payload)) (omega arith)

-- ---- the three forms of a length

-- the front of a frame that is written, with its length in this field
abbrev IsReadBehind : Reader → Bool → ℕ → List ℕ → List ℕ → List ℕ → Type 0
IsReadBehind reader u first payload more field =
    (short : ℕ) × (front_frame reader u ((first ∷ field ++ payload) ++ more)
    ≡ front_of_judged (length (first ∷ field ++ payload)) (judged_frame u (plain_start first short) payload))

-- where the header is written, the frame is read behind it
read_behind : (reader : Reader) (u : Bool) (first second short : ℕ) (field payload more : List ℕ) → reader.wants_mask ≡ false → IsPlain first
    → frame_start first second ≡ plain_start first short → length_bytes (plain_start first short) ≡ length field
    → payload_length_of (plain_start first short) (field ++ (payload ++ more)) ≡ length payload → length payload ≤ reader.max_payload
    → 2 + length field + length payload ≤ MAX_FRAME → IsReadBehind reader u first payload more (second ∷ field)
read_behind reader u first second short field payload more no_mask plain starts width size within below =
    let count : 2 + length field + length payload ≡ length (first ∷ second ∷ field ++ payload) = omega (arith, length-append field payload) in (
      short,
      ap (λ t. front_frame reader u (first ∷ second ∷ t)) (append_assoc field payload more)
          ∙ plain_front reader u first second short field payload more no_mask plain starts width size within below
          ∙ ap (λ k. front_of_judged k (judged_frame u (plain_start first short) payload)) count,
    )

-- a length below 126 stands in the second byte
short_form : (reader : Reader) (u : Bool) (first : ℕ) (payload more : List ℕ) → reader.wants_mask ≡ false → IsPlain first
    → length payload < 126 → length payload ≤ reader.max_payload → IsReadBehind reader u first payload more (length payload ∷ [])
short_form reader u first payload more no_mask plain small within =
    let n = length payload in
    let mask : nat_le 128 n ≡ false = lt-leb 128 n (omega arith) in
    let rest : n % 128 ≡ n = omega arith in
    let starts : frame_start first n ≡ plain_start first n = λ i. record {
      is_final = nat_le 128 first;
      reserved_bits = first / 16 % 8;
      opcode = opcode_of (first % 16);
      is_masked = mask i;
      short_length = rest i;
    } in
    let width : length_bytes (plain_start first n) ≡ 0 =
    cond-false _ 2 _ (ne_eqb n 126 (λ e. omega arith)) ∙ cond-false _ 8 0 (ne_eqb n 127 (λ e. omega arith)) in
    let size : payload_length_of (plain_start first n) (payload ++ more) ≡ n =
    ap (λ k. cond (k == 0) n (big_endian (take k (payload ++ more)))) width in
    read_behind reader u first n n [] payload more no_mask plain starts width size within (omega arith)

-- one below 65,536 stands in two further bytes
middle_form : (reader : Reader) (u : Bool) (first : ℕ) (payload more : List ℕ) → reader.wants_mask ≡ false → IsPlain first
    → length payload < 65536 → length payload ≤ reader.max_payload
    → IsReadBehind reader u first payload more (126 ∷ bytes_high_first 2 (length payload))
middle_form reader u first payload more no_mask plain small within =
    let n = length payload in
    read_behind reader u first 126 126 (bytes_high_first 2 n) payload more no_mask plain refl refl (spelled 2 n small) within (omega arith)

-- and any other in eight
long_form : (reader : Reader) (u : Bool) (first : ℕ) (payload more : List ℕ) → reader.wants_mask ≡ false → IsPlain first
    → length payload < 2 ^ 63 → length payload ≤ reader.max_payload
    → IsReadBehind reader u first payload more (127 ∷ bytes_high_first 8 (length payload))
long_form reader u first payload more no_mask plain small within =
    let n = length payload in
    read_behind reader u first 127 127 (bytes_high_first 8 n) payload more no_mask plain refl refl (spelled 8 n (omega arith)) within (omega arith)

-- a frame that is written is read up to the rules of a whole one
printed_front : (reader : Reader) (u : Bool) (first : ℕ) (payload more : List ℕ) → reader.wants_mask ≡ false → IsPlain first
    → length payload < 2 ^ 63 → length payload ≤ reader.max_payload → IsReadBehind reader u first payload more (length_field (length payload))
printed_front reader u first payload more no_mask plain small within =
    let n = length payload in
    let Read = λ (field : List ℕ). IsReadBehind reader u first payload more field in
    elim (cases_lt n 126) [
      | inl h ↦ subst Read (sym (cond-true _ _ _ (lt-ltb n 126 h))) (short_form reader u first payload more no_mask plain h within)
      | inr h ↦ subst Read (sym (cond-false _ _ _ (le-ltb n 126 h))) (elim (cases_lt n 65536) [
        | inl m ↦ subst Read (sym (cond-true _ _ _ (lt-ltb n 65536 m))) (middle_form reader u first payload more no_mask plain m within)
        | inr m ↦ subst Read (sym (cond-false _ _ _ (le-ltb n 65536 m))) (long_form reader u first payload more no_mask plain small within)
      ])
    ]

-- ---- the rules of a whole frame

-- the two parts of a test
first_holds : (a b : Bool) → (a && b) ≡ true → a ≡ true
first_holds true b h = refl
first_holds false b h = h

-- of two conditions that hold the second does
second_holds : (a b : Bool) → (a && b) ≡ true → b ≡ true
second_holds true b h = h
second_holds false b h = cc

-- a code that may be sent fits in two bytes
code_is_small : (code : ℕ) → is_close_code code ≡ true → code < 65536
code_is_small code h = grind (arith, nat_tests)

-- the text of a reason is read back
close_text_back : (d : Option (List ℕ)) → is_close_text d ≡ true
    → (is_utf8 (unwrap_or d []) ≡ true) × (description_of (unwrap_or d []) ≡ d)
unfolding is_utf8 chars
close_text_back None h = (refl, refl)
close_text_back (Some []) h = cc
close_text_back (Some (b ∷ bytes)) h = (second_holds _ _ h, refl)

-- and so is the reason
close_back : (reason : CloseReason) → (is_close_code reason.code && is_close_text reason.description) ≡ true
    → close_frame (close_payload (Some reason)) ≡ Ok (close (Some reason))
close_back reason h =
    let may = first_holds _ _ h in
    let described = close_text_back reason.description (second_holds (is_close_code reason.code) _ h) in
    let utf8 = described.0 in
    let description = described.1 in
    let code = spelled 2 reason.code (code_is_small reason.code may) in
    (λ i. cond (is_close_code (code i) && utf8 i) (Ok (close (Some (record { code = code i; description = description i })))) (Err bad_op_code))
    ∙ (λ i. cond (may i && true) (Ok (close (Some reason))) (Err bad_op_code))

-- a frame that starts a message, where none is under way
starting_back : (u : Bool) (f : Frame) → not u ≡ true → starting u f ≡ Ok f
starting_back true f h = cc
starting_back false f h = refl

-- one that goes on, where one is
going_on_back : (u : Bool) (f : Frame) → u ≡ true → going_on u f ≡ Ok f
going_on_back true f h = refl
going_on_back false f h = cc

-- a frame that is written is read back, if its first byte and its payload say what it is
printed_back : (reader : Reader) (u : Bool) (first : ℕ) (payload more : List ℕ) (f : Frame) → reader.wants_mask ≡ false → IsPlain first
    → length payload < 2 ^ 63 → length payload ≤ reader.max_payload → ((short : ℕ) → judged_frame u (plain_start first short) payload ≡ Ok f)
    → front_frame reader u ((first ∷ length_field (length payload) ++ payload) ++ more)
    ≡ whole f (length (first ∷ length_field (length payload) ++ payload))
printed_back reader u first payload more f no_mask plain small within judged =
    let front = printed_front reader u first payload more no_mask plain small within in
    front.1 ∙ ap (front_of_judged (length (first ∷ length_field (length payload) ++ payload))) (judged front.0)

-- a frame that keeps the rules is read back
pub read_back : (reader : Reader) (u : Bool) (f : Frame) (more : List ℕ) → reader.wants_mask ≡ false → KeepsRules reader u f
    → front_frame reader u (frame_text f ++ more) ≡ whole f (length (frame_text f))
unfolding frame_text
read_back reader u (text payload) more no_mask keeps =
    printed_back reader u 129 payload more (text payload) no_mask (record { bits = refl; known = refl })
    keeps.size keeps.limit (λ short. starting_back u (text payload) keeps.place)
read_back reader u (binary payload) more no_mask keeps =
    printed_back reader u 130 payload more (binary payload) no_mask (record { bits = refl; known = refl })
    keeps.size keeps.limit (λ short. starting_back u (binary payload) keeps.place)
read_back reader u (first_text payload) more no_mask keeps =
    printed_back reader u 1 payload more (first_text payload) no_mask (record { bits = refl; known = refl })
    keeps.size keeps.limit (λ short. starting_back u (first_text payload) keeps.place)
read_back reader u (first_binary payload) more no_mask keeps =
    printed_back reader u 2 payload more (first_binary payload) no_mask (record { bits = refl; known = refl })
    keeps.size keeps.limit (λ short. starting_back u (first_binary payload) keeps.place)
read_back reader u (continuation payload) more no_mask keeps =
    printed_back reader u 0 payload more (continuation payload) no_mask (record { bits = refl; known = refl })
    keeps.size keeps.limit (λ short. going_on_back u (continuation payload) keeps.place)
read_back reader u (last payload) more no_mask keeps =
    printed_back reader u 128 payload more (last payload) no_mask (record { bits = refl; known = refl })
    keeps.size keeps.limit (λ short. going_on_back u (last payload) keeps.place)
read_back reader u (ping payload) more no_mask keeps =
    printed_back reader u 137 payload more (ping payload) no_mask (record { bits = refl; known = refl })
    keeps.size keeps.limit (λ short. cond-false _ _ (Ok (ping payload)) (le-ltb 125 (length payload) (keeps.control refl)))
read_back reader u (pong payload) more no_mask keeps =
    printed_back reader u 138 payload more (pong payload) no_mask (record { bits = refl; known = refl })
    keeps.size keeps.limit (λ short. cond-false _ _ (Ok (pong payload)) (le-ltb 125 (length payload) (keeps.control refl)))
read_back reader u (close None) more no_mask keeps =
    printed_back reader u 136 [] more (close None) no_mask (record { bits = refl; known = refl })
    keeps.size keeps.limit (λ short. refl)
read_back reader u (close (Some reason)) more no_mask keeps =
    printed_back reader u 136 (close_payload (Some reason)) more (close (Some reason)) no_mask (record { bits = refl; known = refl })
    keeps.size keeps.limit (λ short. cond-false _ _ (close_frame (close_payload (Some reason))) (le-ltb 125 (length (close_payload (Some reason))) (keeps.control refl))
    ∙ close_back reason keeps.reason)
