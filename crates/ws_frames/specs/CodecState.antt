-- The state of a codec, and what it reads.
use Rattle.std.specs.Prelude.{◌≡◌, ℕ, Bool, List, drop, Option, Some, None, Result, Ok, Err}
use Rattle.model_h1.specs.Frame as model
use Rattle.model_h1.specs.FrameText.{Front, front_frame, partial, whole, breaks, is_under_way}
use Rattle.ws_frames.specs.declared.error.ProtocolError.{ProtocolError}
use Rattle.ws_frames.specs.declared.error.ProtocolError.TheVariants as errors
use Rattle.ws_frames.specs.declared.message.Frame.{Frame}
use Rattle.ws_frames.specs.declared.codec.Codec.{Codec}
use Rattle.ws_frames.specs.Refusal.{refusal, error_of}
use Rattle.ws_frames.specs.Parsed.{late_reader, Parsed, waits, refuses, takes, parsed}
use Rattle.ws_frames.specs.Codec.{frame_says}

-- it reads as a server
abbrev pub codec_server : {R : Type 0} → Codec R → Bool
codec_server codec = codec.server

-- the most bytes of a payload
abbrev pub codec_limit : {R : Type 0} → Codec R → ℕ
codec_limit codec = codec.max_size

-- a message that is received is under way
abbrev pub codec_reading : {R : Type 0} → Codec R → Bool
codec_reading codec = codec.reading

-- a message that is sent is under way
abbrev pub codec_sending : {R : Type 0} → Codec R → Bool
codec_sending codec = codec.sending

-- where its masks come from
abbrev pub codec_words : {R : Type 0} → Codec R → R
codec_words codec = codec.words

-- the codec, with a message received under way or not
abbrev pub with_reading : {R : Type 0} → Bool → Codec R → Codec R
with_reading reading codec = record codec { reading = reading }

-- the codec, with another limit
abbrev pub with_limit : {R : Type 0} → ℕ → Codec R → Codec R
with_limit max_size codec = record codec { max_size = max_size }

-- how many bytes a frame or a broken rule costs
abbrev pub cost : Parsed → ℕ
cost waits = 0
cost (refuses e dropped) = dropped
cost (takes is_final opcode payload len) = len

-- An error by what stands at the front: none is answered where no frame is whole and no rule broken; a frame for which
-- there was no memory stays; and a broken rule costs so many bytes.
abbrev pub Failed : Front → ProtocolError → ℕ → List ℕ → List ℕ → Type 0
Failed partial e n bytes rest = ⊥
Failed (whole frame len) e n bytes rest = (e ≡ errors.NoMemory) × (rest ≡ bytes)
Failed (breaks rule) e n bytes rest = (e ≡ refusal rule) × (rest ≡ drop n bytes)

-- a frame at the front is given once it is whole, and a broken rule costs the frame that breaks it, if that is there
abbrev pub Decoded : Bool → ℕ → Bool → List ℕ → Result (Option Frame) ProtocolError → Bool → List ℕ → Type 0
Decoded server max_size under_way bytes (Ok None) after rest =
    (front_frame (late_reader server max_size) under_way bytes ≡ partial) × (rest ≡ bytes) × (after ≡ under_way)
Decoded server max_size under_way bytes (Ok (Some frame)) after rest =
    (len : ℕ) × (front_frame (late_reader server max_size) under_way bytes ≡ whole (frame_says frame) len)
    × (rest ≡ drop len bytes) × (after ≡ is_under_way under_way (frame_says frame))
Decoded server max_size under_way bytes (Err e) after rest =
    (after ≡ under_way)
    × Failed (front_frame (late_reader server max_size) under_way bytes) e (cost (parsed server max_size bytes)) bytes rest

-- a frame that was found, which is taken or stays for an error
abbrev pub JudgedTaken : Bool → Result model.Frame model.ProtocolError → ℕ → List ℕ → Result (Frame × Bool) ProtocolError → List ℕ → Type 0
JudgedTaken under_way judged len old (Ok p) new =
    (judged ≡ Ok (frame_says p.0)) × (new ≡ drop len old) × (p.1 ≡ is_under_way under_way (frame_says p.0))
JudgedTaken under_way judged len old (Err e) new = (e ≡ error_of judged) × (new ≡ old)
