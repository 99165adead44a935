-- What is found of a frame whose header is known is what the definitions say is taken.
use Rattle.std.proofs.Common.{◌⊎◌, inl, inr, ◌≡◌, ℕ, ◌+◌, ◌-◌, ◌<◌, ◌≤◌, Bool, true, false, cond, ◌&&◌, List, [], length, take, drop, nat_lt, ◌≢◌, None, refl, sym, ap, ◌∙◌, arith, drop-drop, le-ltb}
use Rattle.std.proofs.lemmas.Bool.{lt-ltb}
use Rattle.model_h1.specs.Frame.{overflow, invalid_length}
use Rattle.model_h1.specs.FrameText.{Opcode, opcode_error, continuation_opcode, text_opcode, binary_opcode, close_opcode, ping_opcode, pong_opcode, unknown_opcode, length_bytes, mask_bytes, FrameHeader, unmask, payload_of, is_control}
use Rattle.model_h1.specs.Limits.{MAX_FRAME, MAX_CONTROL_PAYLOAD}
use Rattle.model_h1.specs.Laws.FrameSize.{frame_length}
use Rattle.ws_frames.specs.declared.proto.OpCode.{OpCode}
use Rattle.ws_frames.specs.declared.proto.OpCode.TheVariants as codes
use Rattle.ws_frames.specs.declared.error.ProtocolError.TheVariants as errors
use Rattle.ws_frames.specs.Protocol.{code_of, opcode_written}
use Rattle.ws_frames.specs.Parsed.{waits, refuses, takes, parsed_long, parsed_body, parsed_header}
use Rattle.ws_frames.proofs.OpcodeLemmas.{opcode_back}
use Rattle.ws_frames.proofs.HeaderLemmas.{mask_len}
use Rattle.ws_frames.specs.Header.{payload_at, IsReadable, LiesAt, RefusedAt}

-- a frame that is there, and may be whole
pub there_parsed : (max : ℕ) (header : FrameHeader) (bytes : List ℕ) → frame_length header ≤ MAX_FRAME → frame_length header ≤ length bytes
    → parsed_header max header bytes ≡ cond (nat_lt max header.payload_length) (refuses overflow (frame_length header)) (parsed_body header (drop (2 + length_bytes header.start) bytes))
there_parsed max header bytes may there =
    let never : nat_lt MAX_FRAME (frame_length header) ≡ false = le-ltb MAX_FRAME (frame_length header) may in
    let enough : nat_lt (length bytes) (frame_length header) ≡ false = le-ltb (length bytes) (frame_length header) there in
    λ i. cond (never i) (refuses overflow 0) (cond (enough i) waits
    (cond (nat_lt max header.payload_length) (refuses overflow (frame_length header)) (parsed_body header (drop (2 + length_bytes header.start) bytes))))

-- above the limit
pub wide_parsed : (max : ℕ) (header : FrameHeader) (bytes : List ℕ) → frame_length header ≤ MAX_FRAME → frame_length header ≤ length bytes
    → max < header.payload_length → RefusedAt errors.Overflow (frame_length header) bytes (parsed_header max header bytes)
wide_parsed max header bytes may there wide =
    let above = lt-ltb max header.payload_length wide in
    record {
      rule = overflow;
      refused = there_parsed max header bytes may there
          ∙ ap (λ (t : Bool). cond t (refuses overflow (frame_length header)) (parsed_body header (drop (2 + length_bytes header.start) bytes))) above;
      named = refl;
      within = there;
    }

-- within the limit
pub body_parsed : (max : ℕ) (header : FrameHeader) (bytes : List ℕ) → frame_length header ≤ MAX_FRAME → frame_length header ≤ length bytes
    → header.payload_length ≤ max → parsed_header max header bytes ≡ parsed_body header (drop (2 + length_bytes header.start) bytes)
body_parsed max header bytes may there small =
    let below = le-ltb max header.payload_length small in
    there_parsed max header bytes may there
    ∙ ap (λ (t : Bool). cond t (refuses overflow (frame_length header)) (parsed_body header (drop (2 + length_bytes header.start) bytes))) below

-- the opcode is the one whose code is kept
pub opcode_is : (server : Bool) (header : FrameHeader) (code : OpCode) → IsReadable server header → code_of header.start.opcode ≡ code
    → header.start.opcode ≡ opcode_written code
opcode_is server header code readable is = sym (opcode_back header.start.opcode readable.opcode) ∙ ap opcode_written is

-- a control frame with too much payload
long_found : (max : ℕ) (header : FrameHeader) (bytes : List ℕ)
    → frame_length header ≤ MAX_FRAME → frame_length header ≤ length bytes → header.payload_length ≤ max → MAX_CONTROL_PAYLOAD < header.payload_length
    → (op : Opcode) → header.start.opcode ≡ op → is_control op ≡ true
    → parsed_header max header bytes ≡ parsed_long op header.payload_length (frame_length header)
long_found max header bytes may there small long op is control =
    let body = drop (2 + length_bytes header.start) bytes in
    let above = lt-ltb MAX_CONTROL_PAYLOAD header.payload_length long in
    let so = ap is_control is ∙ control in
    body_parsed max header bytes may there small
    ∙ (λ i. cond (so i && above i) (parsed_long header.start.opcode header.payload_length (frame_length header))
    (takes header.start.is_final header.start.opcode (payload_of header body) (frame_length header)))
    ∙ ap (λ (o : Opcode). parsed_long o header.payload_length (frame_length header)) is

-- no payload is taken
no_payload : (server : Bool) (k : ℕ) (bytes : List ℕ) → payload_at server k 0 bytes ≡ []
unfolding unmask
no_payload true k bytes = refl
no_payload false k bytes = refl

-- a long Close is taken without payload
pub long_close_lies : (server : Bool) (max : ℕ) (header : FrameHeader) (bytes : List ℕ)
    → frame_length header ≤ MAX_FRAME → frame_length header ≤ length bytes → header.payload_length ≤ max → MAX_CONTROL_PAYLOAD < header.payload_length
    → header.start.opcode ≡ close_opcode
    → LiesAt server true codes.Close (frame_length header) 0 bytes (parsed_header max header bytes)
long_close_lies server max header bytes may there small long is =
    let len = frame_length header in
    let as_long : len ≡ len + 0 = omega arith in
    let none = sym (no_payload server len bytes) in
    record {
      taken = long_found max header bytes may there small long close_opcode is refl ∙ (λ i. takes true close_opcode (none i) (as_long i));
      within = omega (arith, there);
      masked = λ _. omega (arith, long);
      meaning = λ e. cc;
    }

-- a Ping or a Pong that is too long is refused
pub long_refused : (server : Bool) (max : ℕ) (header : FrameHeader) (bytes : List ℕ) → IsReadable server header
    → frame_length header ≤ MAX_FRAME → frame_length header ≤ length bytes → header.payload_length ≤ max → MAX_CONTROL_PAYLOAD < header.payload_length
    → (code : OpCode) → code ≡ code_of header.start.opcode → (code ≡ codes.Ping) ⊎ (code ≡ codes.Pong)
    → RefusedAt (errors.InvalidLength header.payload_length) (frame_length header) bytes (parsed_header max header bytes)
long_refused server max header bytes readable may there small long code is which = which_one which
  where
    refused : (op : Opcode) → header.start.opcode ≡ op → is_control op ≡ true
        → parsed_long op header.payload_length (frame_length header) ≡ refuses (invalid_length header.payload_length) (frame_length header)
        → RefusedAt (errors.InvalidLength header.payload_length) (frame_length header) bytes (parsed_header max header bytes)
    refused op same control so = record {
      rule = invalid_length header.payload_length;
      refused = long_found max header bytes may there small long op same control ∙ so;
      named = refl;
      within = there;
    }

    which_one : (code ≡ codes.Ping) ⊎ (code ≡ codes.Pong)
        → RefusedAt (errors.InvalidLength header.payload_length) (frame_length header) bytes (parsed_header max header bytes)
    which_one (inl e) = refused ping_opcode (opcode_is server header codes.Ping readable (sym is ∙ e)) refl refl
    which_one (inr e) = refused pong_opcode (opcode_is server header codes.Pong readable (sym is ∙ e)) refl refl

-- an opcode that breaks no rule has a meaning
has_meaning : (op : Opcode) → opcode_error op ≡ None → code_of op ≢ codes.Bad
has_meaning continuation_opcode none = λ e. cc
has_meaning text_opcode none = λ e. cc
has_meaning binary_opcode none = λ e. cc
has_meaning close_opcode none = λ e. cc
has_meaning ping_opcode none = λ e. cc
has_meaning pong_opcode none = λ e. cc
has_meaning (unknown_opcode n) none = λ e. cc

-- the payload is where it is looked for
payload_found : (server : Bool) (header : FrameHeader) (bytes : List ℕ) → IsReadable server header
    → payload_of header (drop (2 + length_bytes header.start) bytes) ≡ payload_at server header.header_length header.payload_length bytes
payload_found server header bytes readable = go server header.start.is_masked readable.masked readable.lens
  where
    k : ℕ
    k = 2 + length_bytes header.start

    n : ℕ
    n = header.payload_length

    go : (server masked : Bool) → masked ≡ server → header.header_length ≡ k + cond masked 4 0
        → cond masked (unmask (take 4 (drop k bytes)) 0 (take n (drop 4 (drop k bytes)))) (take n (drop k bytes)) ≡ payload_at server header.header_length n bytes
    go true true e lens =
        let at : k ≡ header.header_length - 4 = omega (arith, lens) in
        let behind : k + 4 ≡ header.header_length = omega (arith, lens) in
        let past : drop 4 (drop k bytes) ≡ drop header.header_length bytes = drop-drop 4 k bytes ∙ ap (λ (j : ℕ). drop j bytes) behind in
        λ i. unmask (take 4 (drop (at i) bytes)) 0 (take n (past i))
    go false false e lens =
        let behind : k ≡ header.header_length = omega (arith, lens) in
        ap (λ (j : ℕ). take n (drop j bytes)) behind
    go true false e lens = cc
    go false true e lens = cc

-- a frame that is taken as it stands
pub plain_lies : (server : Bool) (max : ℕ) (header : FrameHeader) (bytes : List ℕ) → IsReadable server header
    → frame_length header ≤ MAX_FRAME → frame_length header ≤ length bytes → header.payload_length ≤ max
    → (is_control header.start.opcode && nat_lt MAX_CONTROL_PAYLOAD header.payload_length) ≡ false
    → LiesAt server header.start.is_final (code_of header.start.opcode) header.header_length header.payload_length bytes (parsed_header max header bytes)
plain_lies server max header bytes readable may there small plain =
    let body = drop (2 + length_bytes header.start) bytes in
    let op = sym (opcode_back header.start.opcode readable.opcode) in
    let payload = payload_found server header bytes readable in
    let mask : mask_bytes header.start ≡ cond server 4 0 = ap mask_len readable.masked in
    let lens = readable.lens in
    record {
      taken = body_parsed max header bytes may there small
          ∙ ap (λ (t : Bool). cond t (parsed_long header.start.opcode header.payload_length (frame_length header))
          (takes header.start.is_final header.start.opcode (payload_of header body) (frame_length header))) plain
          ∙ (λ i. takes header.start.is_final (op i) (payload i) (frame_length header));
      within = there;
      masked = λ (e : server ≡ true).
          let four : cond server 4 0 ≡ 4 = ap (λ (m : Bool). mask_len m) e in
          omega (arith, lens, mask, four);
      meaning = has_meaning header.start.opcode readable.opcode;
    }

-- an opcode of no control frame
pub no_control : (op : Opcode) → code_of op ≢ codes.Close → code_of op ≢ codes.Ping → code_of op ≢ codes.Pong → is_control op ≡ false
no_control continuation_opcode a b c = refl
no_control text_opcode a b c = refl
no_control binary_opcode a b c = refl
no_control close_opcode a b c = absurd (a refl)
no_control ping_opcode a b c = absurd (b refl)
no_control pong_opcode a b c = absurd (c refl)
no_control (unknown_opcode n) a b c = refl

-- a payload that any frame may have is not too long for a control frame
pub short_control : (op : Opcode) (n : ℕ) → n ≤ MAX_CONTROL_PAYLOAD → (is_control op && nat_lt MAX_CONTROL_PAYLOAD n) ≡ false
short_control op n small = go (is_control op)
  where
    go : (b : Bool) → (b && nat_lt MAX_CONTROL_PAYLOAD n) ≡ false
    go true = le-ltb MAX_CONTROL_PAYLOAD n small
    go false = refl
