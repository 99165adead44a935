-- What is read of a header is what the definitions say of it.
use Rattle.std.proofs.Common.{◌≡◌, ℕ, ◌+◌, ◌≤◌, Bool, true, false, cond, not, List, [], ◌∷◌, length, drop, get_or, nat_lt, nat_eq, ◌/◌, ◌%◌, Option, Some, None, Result, Ok, Err, refl, ap, subst, arith}
use Rattle.std.specs.Option.{option_or}
use Rattle.model_h1.specs.Frame as frames
use Rattle.model_h1.specs.Frame.{unmasked_frame, masked_frame, invalid_reserved_bits, overflow, invalid_length}
use Rattle.model_h1.specs.FrameText.{Reader, Opcode, opcode_error, FrameStart, frame_start, start_error, length_bytes, mask_bytes, FrameHeader, frame_header}
use Rattle.ws_frames.specs.declared.proto.OpCode.{OpCode}
use Rattle.ws_frames.specs.declared.error.ProtocolError.{ProtocolError}
use Rattle.ws_frames.specs.declared.frame.header.Header.{Header}
use Rattle.ws_frames.specs.Protocol.{code_of}
use Rattle.ws_frames.specs.Refusal.{refusal}
use Rattle.ws_frames.specs.Parsed.{late_reader, HeadFront, short, broken, known, head_behind, head_front}
use Rattle.ws_frames.specs.Header.{start_read, length_there, header_kept, head_read, IsReadable}

-- one pair
same_pair : (p q : ℕ × ℕ) → Some p ≡ Some q → p ≡ q
same_pair p q e = cc

-- a header that was read, by its parts
abbrev pub kept_as : Bool → OpCode → ℕ → ℕ → Result (Option Header) ProtocolError
kept_as finished op header_len payload_len =
    Ok (Some (record { finished = finished; op = op; header_len = header_len; payload_len = payload_len }))

-- a length that is there
abbrev pub found : ℕ → ℕ → Option (ℕ × ℕ)
found k n = Some (k, n)

-- the header by its first two bytes and the others
pub head_at : (reader : Reader) (src : List ℕ) → 2 ≤ length src → head_front reader src
    ≡ head_behind (start_error reader (frame_start (get_or src 0 0) (get_or src 1 0))) (frame_start (get_or src 0 0) (get_or src 1 0)) (drop 2 src)
head_at reader [] long = absurd (omega arith)
head_at reader (a ∷ []) long = absurd (omega arith)
head_at reader (a ∷ b ∷ more) long = refl

-- a rule that the first two bytes break is the error of the header
pub error_read : (e : Option frames.ProtocolError) (start : FrameStart) (more : List ℕ) (op : Opcode) (x : ProtocolError)
    → Err x ≡ start_read e op → Err x ≡ head_read (head_behind e start more)
error_read (Some y) start more op x is = cc
error_read None start more op x is = cc

-- how many bytes the mask takes
abbrev pub mask_len : Bool → ℕ
mask_len m = cond m 4 0

-- where the length isn't there, there is no header yet
pub none_read : (e : Option frames.ProtocolError) (start : FrameStart) (more : List ℕ) (op : Opcode) (x : OpCode)
    → Ok x ≡ start_read e op → None ≡ length_there start more → Ok None ≡ head_read (head_behind e start more)
none_read (Some y) start more op x is none = cc
none_read None start more op x is none = go (nat_lt (length more) (length_bytes start)) none
  where
    go : (t : Bool) → None ≡ cond t None (found (length_bytes start) (frame_header start more).payload_length)
        → Ok None ≡ head_read (cond t short (known (frame_header start more)))
    go true n = refl
    go false n = cc

-- where it is there, so is the header
pub some_read : (e : Option frames.ProtocolError) (start : FrameStart) (more : List ℕ) (x : OpCode) (k n : ℕ)
    → Ok x ≡ start_read e start.opcode → found k n ≡ length_there start more
    → kept_as start.is_final x (2 + k + mask_bytes start) n ≡ head_read (head_behind e start more)
some_read (Some y) start more x k n is there = cc
some_read None start more x k n is there = go (nat_lt (length more) (length_bytes start)) there
  where
    go : (t : Bool) → found k n ≡ cond t None (found (length_bytes start) (frame_header start more).payload_length)
        → kept_as start.is_final x (2 + k + mask_bytes start) n ≡ head_read (cond t short (known (frame_header start more)))
    go true s = cc
    go false s =
        let op : x ≡ code_of start.opcode = cc in
        let pair = same_pair (k, n) (length_bytes start, (frame_header start more).payload_length) s in
        let bytes : k ≡ length_bytes start = ap (λ (p : ℕ × ℕ). p.0) pair in
        let payload : n ≡ (frame_header start more).payload_length = ap (λ (p : ℕ × ℕ). p.1) pair in
        λ i. kept_as start.is_final (op i) (2 + bytes i + mask_bytes start) (payload i)

-- a header that was read is the one at the front
pub known_of_read : (front : HeadFront) (h : Header) → Ok (Some h) ≡ head_read front → (m : FrameHeader) × (front ≡ known m) × (h ≡ header_kept m)
known_of_read short h is = cc
known_of_read (broken e) h is = cc
known_of_read (known m) h is =
    let same : h ≡ header_kept m = cc in
    (m, refl, same)

-- no header yet
pub short_of_read : (front : HeadFront) → Ok None ≡ head_read front → front ≡ short
short_of_read short is = refl
short_of_read (broken e) is = cc
short_of_read (known m) is = cc

-- a broken rule
pub broken_of_read : (front : HeadFront) (x : ProtocolError) → Err x ≡ head_read front → (e : frames.ProtocolError) × (front ≡ broken e) × (x ≡ refusal e)
broken_of_read short x is = cc
broken_of_read (broken e) x is =
    let same : x ≡ refusal e = cc in
    (e, refl, same)
broken_of_read (known m) x is = cc

-- where the first two bytes break no rule, the mask is as the reader wants it, and the opcode has a meaning
no_error : (bits server masked : Bool) (other : Option frames.ProtocolError)
    → cond bits (Some invalid_reserved_bits) (option_or (cond server (cond masked None (Some unmasked_frame)) (cond masked (Some masked_frame) None)) other) ≡ None
    → (masked ≡ server) × (other ≡ None)
no_error true server masked other e = cc
no_error false true true other e = (refl, e)
no_error false true false other e = cc
no_error false false true other e = cc
no_error false false false other e = (refl, e)

-- a header that is known is readable
pub known_is_readable : (server : Bool) (max : ℕ) (bytes : List ℕ) (m : FrameHeader) → head_front (late_reader server max) bytes ≡ known m → IsReadable server m
known_is_readable server max [] m is = cc
known_is_readable server max (a ∷ []) m is = cc
known_is_readable server max (a ∷ b ∷ more) m is = go (start_error (late_reader server max) (frame_start a b)) refl is
  where
    start : FrameStart
    start = frame_start a b

    test : start_error (late_reader server max) start ≡ None → (t : Bool) → cond t short (known (frame_header start more)) ≡ known m → IsReadable server m
    test none true e = cc
    test none false e =
        let same : frame_header start more ≡ m = cc in
        let both = no_error (not (nat_eq (a / 16 % 8) 0)) server start.is_masked (opcode_error start.opcode) none in
        subst (IsReadable server) same (record { masked = both.0; opcode = both.1; lens = refl })

    go : (e : Option frames.ProtocolError) → start_error (late_reader server max) start ≡ e → head_behind e start more ≡ known m → IsReadable server m
    go (Some x) is e = cc
    go None is e = test is (nat_lt (length more) (length_bytes start)) e
