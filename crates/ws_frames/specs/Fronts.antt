-- A frame at the front of bytes that stay where they are until it is taken, its size judged as soon as its length is there.
use Rattle.std.specs.Prelude.{◌≡◌, ℕ, ◌+◌, Bool, true, false, List, length, drop, nat_lt, if◌then◌else◌, Option, Some, None, Result, Ok, Err}
use Rattle.model_h1.specs.Frame.{overflow}
use Rattle.model_h1.specs.FrameText.{Reader, at_length, length_bytes, FrameHeader, Front, partial, whole, breaks, front_frame, is_under_way}
use Rattle.model_h1.specs.Laws.FrameSize.{frame_length}
use Rattle.ws_frames.specs.declared.error.ProtocolError.{ProtocolError}
use Rattle.ws_frames.specs.declared.error.ProtocolError.TheVariants as errors
use Rattle.ws_frames.specs.declared.message.Frame.{Frame}
use Rattle.ws_frames.specs.declared.frame.header.Header.{Header}
use Rattle.ws_frames.specs.declared.frame.header.Found.{Found}
use Rattle.ws_frames.specs.Codec.{frame_says}
use Rattle.ws_frames.specs.Header.{header_kept, IsReadable, FoundSays}
use Rattle.ws_frames.specs.Parsed.{late_reader, HeadFront, short, broken, known, head_front, Parsed, waits, refuses, parsed_body}
use Rattle.ws_frames.specs.Refusal.{refusal}

-- who reads: a server or a client, and the most bytes of a payload, which is judged as soon as its length is there
abbrev pub early_reader : Bool → ℕ → Reader
early_reader server limit = record { wants_mask = server; max_payload = limit; judges_size = at_length }

-- no frame is whole yet, and no rule broken
abbrev pub is_partial : Front → Bool
is_partial partial = true
is_partial (whole frame len) = false
is_partial (breaks rule) = false

-- a frame whose header is known: one above the limit is refused at once
abbrev pub early_header : ℕ → FrameHeader → List ℕ → Parsed
early_header limit header bytes =
    if nat_lt limit header.payload_length then refuses overflow 0
    else (if nat_lt (length bytes) (frame_length header) then waits
    else parsed_body header (drop (2 + length_bytes header.start) bytes))

-- by what stands in front of the payload
abbrev pub early_head : ℕ → HeadFront → List ℕ → Parsed
early_head limit short bytes = waits
early_head limit (broken e) bytes = refuses e 0
early_head limit (known header) bytes = early_header limit header bytes

-- what is taken from the front of the bytes
unfoldable pub early : Bool → ℕ → List ℕ → Parsed
early server limit bytes = early_head limit (head_front (late_reader server limit) bytes) bytes

-- what was found of a frame with this header says what is taken
abbrev pub EarlySays : Bool → ℕ → List ℕ → Header → Found → Type 0
EarlySays server limit bytes kept answer =
    (header : FrameHeader) → kept ≡ header_kept header → IsReadable server header
    → FoundSays server bytes answer (early_header limit header bytes)

-- An error by what stands at the front: there was no memory for a frame, or the rule that is broken.
abbrev pub IsFrontError : Front → ProtocolError → Type 0
IsFrontError partial e = ⊥
IsFrontError (whole frame len) e = e ≡ errors.NoMemory
IsFrontError (breaks rule) e = e ≡ refusal rule

-- a frame at the front is taken once it is whole, and else the bytes stay
abbrev pub FrontTaken : Bool → ℕ → Bool → List ℕ → Result (Option (Frame × Bool)) ProtocolError → List ℕ → Type 0
FrontTaken server limit under_way bytes (Ok None) rest =
    (front_frame (early_reader server limit) under_way bytes ≡ partial) × (rest ≡ bytes)
FrontTaken server limit under_way bytes (Ok (Some p)) rest =
    (len : ℕ) × (front_frame (early_reader server limit) under_way bytes ≡ whole (frame_says p.0) len) × (rest ≡ drop len bytes)
    × (p.1 ≡ is_under_way under_way (frame_says p.0))
FrontTaken server limit under_way bytes (Err e) rest =
    IsFrontError (front_frame (early_reader server limit) under_way bytes) e × (rest ≡ bytes)
