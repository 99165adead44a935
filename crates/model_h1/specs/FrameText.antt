-- The frames of a byte list, and the first rule that it breaks (RFC 6455, sections 5.2 to 5.5 and 7.4).
use Rattle.std.specs.Prelude.{◌≡◌, ℕ, ◌+◌, ◌*◌, ◌/◌, ◌%◌, Bool, true, false, not, ◌&&◌, ◌||◌, List, [], ◌∷◌, ◌++◌, length, take, drop, slice_index, fold, bit_xor, nat_lt, nat_le, ◌==◌, if◌then◌else◌, Option, Some, None, unwrap_or, Result, Ok, Err}
use Rattle.std.specs.Int.{w16, w64, to_be_bytes}
use Rattle.std.specs.Option.{option_or}
use Rattle.std.specs.Str.{is_utf8}
use Rattle.model_h1.specs.Frame.{CloseReason, Frame, ProtocolError}
use Rattle.model_h1.specs.Frame as frames
use Rattle.model_h1.specs.Limits.{MAX_CONTROL_PAYLOAD, MAX_FRAME}

-- ---- who reads

-- where a frame that is too long is refused: as soon as its length has come, or once the frame is whole
pub data JudgesSize : Type 0 where
  at_length when_whole : JudgesSize

-- Who reads: a server wants a mask on each frame, a client none (section 5.1); and the most bytes of a payload, and where more are refused.
pub record Reader : Type 0 where
  pub wants_mask : Bool
  pub max_payload : ℕ
  pub judges_size : JudgesSize

-- ---- the first two bytes

-- what a frame is (section 5.2)
pub data Opcode : Type 0 where
  continuation_opcode text_opcode binary_opcode close_opcode ping_opcode pong_opcode : Opcode
  unknown_opcode : ℕ → Opcode

-- the opcode that a number stands for (section 5.2)
abbrev pub opcode_of : ℕ → Opcode
opcode_of number =
    if number == 0 then continuation_opcode
    else (if number == 1 then text_opcode
    else (if number == 2 then binary_opcode
    else (if number == 8 then close_opcode
    else (if number == 9 then ping_opcode
    else (if number == 10 then pong_opcode
    else unknown_opcode number)))))

-- the number that stands for an opcode (section 5.2)
abbrev pub opcode_number : Opcode → ℕ
opcode_number continuation_opcode = 0
opcode_number text_opcode = 1
opcode_number binary_opcode = 2
opcode_number close_opcode = 8
opcode_number ping_opcode = 9
opcode_number pong_opcode = 10
opcode_number (unknown_opcode number) = number

-- The first two bytes (section 5.2): FIN, RSV1 to RSV3, opcode, MASK, and the length, where 126 and 127 stand for longer forms.
pub record FrameStart : Type 0 where
  pub is_final : Bool
  pub reserved_bits : ℕ
  pub opcode : Opcode
  pub is_masked : Bool
  pub short_length : ℕ

-- the two bytes, part by part, from the highest bit on (section 5.2)
abbrev pub frame_start : ℕ → ℕ → FrameStart
frame_start first second = record {
  is_final = nat_le 128 first;
  reserved_bits = first / 16 % 8;
  opcode = opcode_of (first % 16);
  is_masked = nat_le 128 second;
  short_length = second % 128;
}

-- a server refuses a frame without a mask, and a client one with a mask (section 5.1)
abbrev pub mask_error : Reader → FrameStart → Option ProtocolError
mask_error reader start =
    if reader.wants_mask then (if start.is_masked then None else Some frames.unmasked_frame)
    else (if start.is_masked then Some frames.masked_frame else None)

-- an unknown opcode is refused (section 5.2)
abbrev pub opcode_error : Opcode → Option ProtocolError
opcode_error (unknown_opcode number) = Some (frames.invalid_opcode number)
opcode_error _ = None

-- the first rule that the first two bytes break: no reserved bit is set without an extension, the mask, the opcode (section 5.2)
abbrev pub start_error : Reader → FrameStart → Option ProtocolError
start_error reader start =
    if not (start.reserved_bits == 0) then Some frames.invalid_reserved_bits
    else option_or (mask_error reader start) (opcode_error start.opcode)

-- ---- the length and the mask

-- the number that bytes in network order spell (section 5.2)
abbrev pub big_endian : List ℕ → ℕ
big_endian bytes = fold (λ n b. n * 256 + b) 0 bytes

-- how many further bytes hold the length (section 5.2)
abbrev pub length_bytes : FrameStart → ℕ
length_bytes start = if start.short_length == 126 then 2 else (if start.short_length == 127 then 8 else 0)

-- the payload's length, in a longer form than needed too; behind the first two bytes stand these (section 5.2)
abbrev pub payload_length_of : FrameStart → List ℕ → ℕ
payload_length_of start more =
    if length_bytes start == 0 then start.short_length else big_endian (take (length_bytes start) more)

-- how many bytes the mask takes (section 5.2)
abbrev pub mask_bytes : FrameStart → ℕ
mask_bytes start = if start.is_masked then 4 else 0

-- what stands in front of a payload: the first two bytes, how many bytes it all has, and the payload's length (section 5.2)
pub record FrameHeader : Type 0 where
  pub start : FrameStart
  pub header_length : ℕ
  pub payload_length : ℕ

-- the header that begins so: two bytes, those of the length and the mask; behind the first two stand these (section 5.2)
abbrev pub frame_header : FrameStart → List ℕ → FrameHeader
frame_header start more = record {
  start = start;
  header_length = 2 + length_bytes start + mask_bytes start;
  payload_length = payload_length_of start more;
}

-- bytes of a payload under the mask, from the byte with this number on (section 5.3)
unfoldable pub unmask : List ℕ → ℕ → List ℕ → List ℕ
unmask mask k [] = []
unmask mask k (b ∷ bytes) = bit_xor b (slice_index mask (k % 4)) ∷ unmask mask (k + 1) bytes

-- the payload, from the bytes behind the length: the mask, if there is one, and what it hides (section 5.3)
abbrev pub payload_of : FrameHeader → List ℕ → List ℕ
payload_of header body =
    if header.start.is_masked then unmask (take 4 body) 0 (take header.payload_length (drop 4 body))
    else take header.payload_length body

-- ---- the rules of a whole frame

-- the codes that a Close may carry (section 7.4)
abbrev pub is_close_code : ℕ → Bool
is_close_code code =
    (nat_le 1000 code && nat_le code 1003) || (nat_le 1007 code && nat_le code 1014) || (nat_le 3000 code && nat_le code 4999)

-- the text behind a code, if there is one (section 5.5.1)
abbrev pub description_of : List ℕ → Option (List ℕ)
description_of [] = None
description_of (b ∷ bytes) = Some (b ∷ bytes)

-- a Close by its payload: nothing, or a code of two bytes and a text (section 5.5.1)
abbrev pub close_frame : List ℕ → Result Frame ProtocolError
close_frame [] = Ok (frames.close None)
close_frame (b ∷ []) = Err (frames.invalid_length 1)
close_frame (b ∷ c ∷ text) =
    if is_close_code (big_endian (b ∷ c ∷ [])) && is_utf8 text
    then Ok (frames.close (Some (record { code = big_endian (b ∷ c ∷ []); description = description_of text })))
    else Err frames.bad_op_code

-- a frame that starts a message may not stand inside one (section 5.4)
abbrev pub starting : Bool → Frame → Result Frame ProtocolError
starting under_way frame = if under_way then Err frames.continuation_started else Ok frame

-- and one that goes on must (section 5.4)
abbrev pub going_on : Bool → Frame → Result Frame ProtocolError
going_on under_way frame = if under_way then Ok frame else Err frames.continuation_not_started

-- a frame that isn't the last of its message: control frames are in one piece (sections 5.4 and 5.5)
abbrev pub unfinished_frame : Bool → Opcode → List ℕ → Result Frame ProtocolError
unfinished_frame under_way continuation_opcode payload = going_on under_way (frames.continuation payload)
unfinished_frame under_way text_opcode payload = starting under_way (frames.first_text payload)
unfinished_frame under_way binary_opcode payload = starting under_way (frames.first_binary payload)
unfinished_frame under_way opcode payload = Err (frames.continuation_fragment (opcode_number opcode))

-- a frame that is the last of its message, or all of it (sections 5.4 to 5.6)
abbrev pub finished_frame : Bool → Opcode → List ℕ → Result Frame ProtocolError
finished_frame under_way continuation_opcode payload = going_on under_way (frames.last payload)
finished_frame under_way text_opcode payload = starting under_way (frames.text payload)
finished_frame under_way binary_opcode payload = starting under_way (frames.binary payload)
finished_frame under_way close_opcode payload = close_frame payload
finished_frame under_way ping_opcode payload = Ok (frames.ping payload)
finished_frame under_way pong_opcode payload = Ok (frames.pong payload)
finished_frame under_way (unknown_opcode number) payload = Err (frames.invalid_opcode number)

-- close, ping and pong (section 5.5)
abbrev pub is_control : Opcode → Bool
is_control close_opcode = true
is_control ping_opcode = true
is_control pong_opcode = true
is_control _ = false

-- a control frame with more payload than these have: it is refused, but a Close counts as one without payload (section 5.5)
abbrev pub long_control_frame : Opcode → ℕ → Result Frame ProtocolError
long_control_frame close_opcode payload_length = Ok (frames.close None)
long_control_frame opcode payload_length = Err (frames.invalid_length payload_length)

-- a whole frame: the length of control frames is judged first, then the fragments, then the payload of a Close (sections 5.4 and 5.5)
abbrev pub judged_frame : Bool → FrameStart → List ℕ → Result Frame ProtocolError
judged_frame under_way start payload =
    if is_control start.opcode && nat_lt MAX_CONTROL_PAYLOAD (length payload) then long_control_frame start.opcode (length payload)
    else (if start.is_final then finished_frame under_way start.opcode payload
    else unfinished_frame under_way start.opcode payload)

-- ---- the front of a byte list

-- what stands at the front: no whole frame yet, a frame of so many bytes, or a broken rule
pub data Front : Type 0 where
  partial : Front
  whole : Frame → ℕ → Front
  breaks : ProtocolError → Front

-- a rule that is broken already goes first
abbrev pub unless_broken : Option ProtocolError → Front → Front
unless_broken (Some e) front = breaks e
unless_broken None front = front

-- a frame of so many bytes, or the rule that it breaks
abbrev pub front_of_judged : ℕ → Result Frame ProtocolError → Front
front_of_judged len (Ok frame) = whole frame len
front_of_judged len (Err e) = breaks e

-- header and payload pass the most, so the frame can never be whole
abbrev pub is_never_whole : FrameHeader → Bool
is_never_whole header = nat_lt MAX_FRAME (header.header_length + header.payload_length)

-- the frame is refused as soon as its length has come: for its size, where that is judged there, else if it can never be whole
abbrev pub overflows_at_length : JudgesSize → Reader → FrameHeader → Bool
overflows_at_length at_length reader header = nat_lt reader.max_payload header.payload_length
overflows_at_length when_whole reader header = is_never_whole header

-- a frame that isn't refused at its length: behind that stand its mask and its payload, as far as they are there
abbrev pub front_of_body : Reader → Bool → FrameHeader → List ℕ → Front
front_of_body reader under_way header body =
    if nat_lt (length body) (mask_bytes header.start + header.payload_length) then partial
    else (if nat_lt reader.max_payload header.payload_length then breaks frames.overflow
    else front_of_judged (header.header_length + header.payload_length) (judged_frame under_way header.start (payload_of header body)))

-- a frame whose length is there; behind it stand these bytes
abbrev pub front_of_header : Reader → Bool → FrameHeader → List ℕ → Front
front_of_header reader under_way header body =
    if overflows_at_length reader.judges_size reader header then breaks frames.overflow
    else front_of_body reader under_way header body

-- a frame whose first two bytes break no rule; behind them stand these bytes
abbrev pub front_of_start : Reader → Bool → FrameStart → List ℕ → Front
front_of_start reader under_way start more =
    if nat_lt (length more) (length_bytes start) then partial
    else front_of_header reader under_way (frame_header start more) (drop (length_bytes start) more)

-- the frame at the front: its first two bytes are judged once these are there, the size as the reader says, and the rest once it is whole
unfoldable pub front_frame : Reader → Bool → List ℕ → Front
front_frame reader under_way [] = partial
front_frame reader under_way (first ∷ []) = partial
front_frame reader under_way (first ∷ second ∷ more) =
    unless_broken (start_error reader (frame_start first second)) (front_of_start reader under_way (frame_start first second) more)

-- ---- the frames of a byte list

-- a message in fragments is under way behind this frame (section 5.4)
abbrev pub is_under_way : Bool → Frame → Bool
is_under_way before (frames.first_text _) = true
is_under_way before (frames.first_binary _) = true
is_under_way before (frames.last _) = false
is_under_way before _ = before

-- a frame, and the place behind it
pub record PlacedFrame : Type 0 where
  pub frame : Frame
  pub end : ℕ

-- the bytes at the front are no whole frame, and break this rule or none
abbrev pub StopsWith : Front → Option ProtocolError → Type 0
StopsWith partial fail = fail ≡ None
StopsWith (whole frame len) fail = ⊥
StopsWith (breaks e) fail = fail ≡ Some e

-- from this place on the bytes are these frames; behind them stands no further whole frame, and the rest breaks the rule fail, or none
abbrev pub ReadsFrames : Reader → Bool → ℕ → List ℕ → List PlacedFrame → Option ProtocolError → Type 0
ReadsFrames reader under_way place bytes [] fail = StopsWith (front_frame reader under_way (drop place bytes)) fail
ReadsFrames reader under_way place bytes (f ∷ fs) fail =
    (len : ℕ) × (front_frame reader under_way (drop place bytes) ≡ whole f.frame len) × (f.end ≡ place + len)
    × ReadsFrames reader (is_under_way under_way f.frame) f.end bytes fs fail

-- ---- frames that are written, without a mask; a code is below 2 ^ 16, a length below 2 ^ 64

-- the first byte of a frame: the bit of the last one of its message, and the opcode (section 5.2)
abbrev pub first_byte : Bool → Opcode → ℕ
first_byte is_final opcode = (if is_final then 128 else 0) + opcode_number opcode

-- the shortest form of a length (section 5.2)
abbrev pub length_field : ℕ → List ℕ
length_field n =
    if nat_lt n 126 then n ∷ []
    else (if nat_lt n 65536 then 126 ∷ to_be_bytes w16 n else 127 ∷ to_be_bytes w64 n)

-- a frame's first byte, its length and its payload (section 5.2)
abbrev pub print_frame : Bool → Opcode → List ℕ → List ℕ
print_frame is_final opcode payload = first_byte is_final opcode ∷ length_field (length payload) ++ payload

-- a code in two bytes, and the text (section 5.5.1)
abbrev pub close_payload : Option CloseReason → List ℕ
close_payload None = []
close_payload (Some reason) = to_be_bytes w16 reason.code ++ unwrap_or reason.description []

-- the bytes of a frame that is sent (sections 5.2 and 5.4)
unfoldable pub frame_text : Frame → List ℕ
frame_text (frames.text payload) = print_frame true text_opcode payload
frame_text (frames.binary payload) = print_frame true binary_opcode payload
frame_text (frames.first_text payload) = print_frame false text_opcode payload
frame_text (frames.first_binary payload) = print_frame false binary_opcode payload
frame_text (frames.continuation payload) = print_frame false continuation_opcode payload
frame_text (frames.last payload) = print_frame true continuation_opcode payload
frame_text (frames.ping payload) = print_frame true ping_opcode payload
frame_text (frames.pong payload) = print_frame true pong_opcode payload
frame_text (frames.close reason) = print_frame true close_opcode (close_payload reason)

-- the rule that a message to be sent breaks: a whole one may stand between fragments, a first one not
abbrev pub send_error : Bool → frames.Message → Option ProtocolError
send_error under_way (frames.frame (frames.first_text _)) = if under_way then Some frames.continuation_started else None
send_error under_way (frames.frame (frames.first_binary _)) = if under_way then Some frames.continuation_started else None
send_error under_way (frames.frame (frames.continuation _)) = if under_way then None else Some frames.continuation_not_started
send_error under_way (frames.frame (frames.last _)) = if under_way then None else Some frames.continuation_not_started
send_error under_way _ = None
