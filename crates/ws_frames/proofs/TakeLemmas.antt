-- A payload whose mask was taken off where it lies, and put on again.
use Rattle.std.proofs.Common.{◌≡◌, ℕ, ◌+◌, ◌-◌, ◌≤◌, Bool, true, false, List, ◌++◌, length, take, drop, refl, sym, ap, ◌∙◌, arith, length-append, length-drop, drop-drop}
use Rattle.std.proofs.lemmas.List.{length-take-le, take-append-drop, drop-take}
use Rattle.std.proofs.Math.Seq.{take-append_seam, drop-append_seam}
use Rattle.model_h1.specs.FrameText.{unmask}
use Rattle.model_h1.proofs.FrameWritten.{masked_twice}
use Rattle.ws_frames.specs.Header.{payload_at}
use Rattle.ws_frames.specs.Codec.{with_payload}
use Rattle.ws_frames.proofs.MaskLemmas.{length_unmask}

-- a payload has its length
pub payload_long : (server : Bool) (from n : ℕ) (bytes : List ℕ) → from + n ≤ length bytes → length (payload_at server from n bytes) ≡ n
payload_long true from n bytes within =
    length_unmask (take 4 (drop (from - 4) bytes)) 0 (take n (drop from bytes)) ∙ length-take-le n (drop from bytes) (omega (arith, length-drop from bytes))
payload_long false from n bytes within = length-take-le n (drop from bytes) (omega (arith, length-drop from bytes))

-- the front stays
pub front_kept : (from n : ℕ) (payload bytes : List ℕ) → from + n ≤ length bytes → take from (with_payload from payload n bytes) ≡ take from bytes
front_kept from n payload bytes within =
    let long : length (take from bytes) ≡ from = length-take-le from bytes (omega arith) in
    ap (λ (k : ℕ). take k (take from bytes ++ (payload ++ drop (from + n) bytes))) (sym long) ∙ take-append_seam (take from bytes) (payload ++ drop (from + n) bytes)

-- behind it stands the payload
pub payload_put : (from n : ℕ) (payload bytes : List ℕ) → from + n ≤ length bytes
    → drop from (with_payload from payload n bytes) ≡ payload ++ drop (from + n) bytes
payload_put from n payload bytes within =
    let long : length (take from bytes) ≡ from = length-take-le from bytes (omega arith) in
    ap (λ (k : ℕ). drop k (take from bytes ++ (payload ++ drop (from + n) bytes))) (sym long) ∙ drop-append_seam (take from bytes) (payload ++ drop (from + n) bytes)

-- of its length
pub payload_there : (from n : ℕ) (payload bytes : List ℕ) → from + n ≤ length bytes → length payload ≡ n
    → take n (drop from (with_payload from payload n bytes)) ≡ payload
payload_there from n payload bytes within long =
    ap (take n) (payload_put from n payload bytes within)
    ∙ ap (λ (k : ℕ). take k (payload ++ drop (from + n) bytes)) (sym long) ∙ take-append_seam payload (drop (from + n) bytes)

-- and the rest stays
pub rest_kept : (from n : ℕ) (payload bytes : List ℕ) → from + n ≤ length bytes → length payload ≡ n
    → drop (from + n) (with_payload from payload n bytes) ≡ drop (from + n) bytes
rest_kept from n payload bytes within long =
    sym (drop-drop n from (with_payload from payload n bytes)) ∙ ap (drop n) (payload_put from n payload bytes within)
    ∙ ap (λ (k : ℕ). drop k (payload ++ drop (from + n) bytes)) (sym long) ∙ drop-append_seam payload (drop (from + n) bytes)

-- there are as many bytes
pub length_kept : (from n : ℕ) (payload bytes : List ℕ) → from + n ≤ length bytes → length payload ≡ n
    → length (with_payload from payload n bytes) ≡ length bytes
length_kept from n payload bytes within long =
    omega (
      arith,
      length-append (take from bytes) (payload ++ drop (from + n) bytes),
      length-append payload (drop (from + n) bytes),
      length-take-le from bytes (omega arith),
      length-drop (from + n) bytes,
      long,
    )

-- the bytes in their parts
pub parts_join : (from n : ℕ) (bytes : List ℕ) → with_payload from (take n (drop from bytes)) n bytes ≡ bytes
parts_join from n bytes =
    let rest : take n (drop from bytes) ++ drop (from + n) bytes ≡ drop from bytes
    = ap (λ (t : List ℕ). take n (drop from bytes) ++ t) (sym (drop-drop n from bytes)) ∙ take-append-drop n (drop from bytes) in
    ap (λ (t : List ℕ). take from bytes ++ t) rest ∙ take-append-drop from bytes

-- the mask is the last four bytes of the front
mask_in_front : (from : ℕ) (bytes : List ℕ) → 4 ≤ from → take 4 (drop (from - 4) bytes) ≡ drop (from - 4) (take from bytes)
mask_in_front from bytes four =
    let e : (from - 4) + 4 ≡ from = omega arith in
    sym (drop-take (from - 4) 4 bytes) ∙ ap (λ (k : ℕ). drop (from - 4) (take k bytes)) e

-- the payload of bytes whose mask was taken off: it is put on again
payload_back : (server : Bool) (from n : ℕ) (bytes : List ℕ) → from + n ≤ length bytes → (server ≡ true → 4 ≤ from)
    → payload_at server from n (with_payload from (payload_at server from n bytes) n bytes) ≡ take n (drop from bytes)
payload_back true from n bytes within masked =
    let mask = take 4 (drop (from - 4) bytes) in
    let payload = payload_at true from n bytes in
    let new = with_payload from payload n bytes in
    let four : 4 ≤ from = masked refl in
    let same : take 4 (drop (from - 4) new) ≡ mask
    = mask_in_front from new four ∙ ap (drop (from - 4)) (front_kept from n payload bytes within) ∙ sym (mask_in_front from bytes four) in
    ap (λ (m : List ℕ). unmask m 0 (take n (drop from new))) same
    ∙ ap (unmask mask 0) (payload_there from n payload bytes within (payload_long true from n bytes within))
    ∙ masked_twice mask 0 (take n (drop from bytes))
payload_back false from n bytes within masked =
    payload_there from n (take n (drop from bytes)) bytes within (payload_long false from n bytes within)

-- a mask that was taken off and put on again leaves the bytes as they were
pub toggled_twice : (server : Bool) (from n : ℕ) (bytes new last : List ℕ) → from + n ≤ length bytes → (server ≡ true → 4 ≤ from)
    → new ≡ with_payload from (payload_at server from n bytes) n bytes → last ≡ with_payload from (payload_at server from n new) n new → last ≡ bytes
toggled_twice server from n bytes new last within masked once twice =
    let payload = payload_at server from n bytes in
    let put = with_payload from payload n bytes in
    let long = payload_long server from n bytes within in
    let front = front_kept from n payload bytes within in
    let behind = rest_kept from n payload bytes within long in
    let back = payload_back server from n bytes within masked in
    twice ∙ ap (λ (t : List ℕ). with_payload from (payload_at server from n t) n t) once
    ∙ (λ i. front i ++ (back i ++ behind i)) ∙ parts_join from n bytes

-- the part of the bytes that the payload takes
pub payload_shown : (server : Bool) (from n len : ℕ) (bytes new shown : List ℕ) → from + n ≤ length bytes → len ≡ from + n
    → new ≡ with_payload from (payload_at server from n bytes) n bytes → shown ≡ new → take (len - from) (drop from shown) ≡ payload_at server from n bytes
payload_shown server from n len bytes new shown within is put same =
    let left : len - from ≡ n = omega (arith, is) in
    ap (λ (k : ℕ). take k (drop from shown)) left ∙ ap (λ (t : List ℕ). take n (drop from t)) (same ∙ put)
    ∙ payload_there from n (payload_at server from n bytes) bytes within (payload_long server from n bytes within)

-- what lies behind the frame
pub rest_shown : (server : Bool) (from n len : ℕ) (bytes new : List ℕ) → from + n ≤ length bytes → len ≡ from + n
    → new ≡ with_payload from (payload_at server from n bytes) n bytes → drop len new ≡ drop (from + n) bytes
rest_shown server from n len bytes new within is put =
    ap (λ (k : ℕ). drop k new) is ∙ ap (drop (from + n)) put
    ∙ rest_kept from n (payload_at server from n bytes) bytes within (payload_long server from n bytes within)

-- the payload at the end of the frame
pub payload_frozen : (server : Bool) (from n len : ℕ) (bytes new : List ℕ) → from + n ≤ length bytes → len ≡ from + n
    → new ≡ with_payload from (payload_at server from n bytes) n bytes → drop from (take len new) ≡ payload_at server from n bytes
payload_frozen server from n len bytes new within is put =
    ap (λ (k : ℕ). drop from (take k new)) is ∙ drop-take from n new ∙ ap (λ (t : List ℕ). take n (drop from t)) put
    ∙ payload_there from n (payload_at server from n bytes) bytes within (payload_long server from n bytes within)
