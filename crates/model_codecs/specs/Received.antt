-- Bytes that come in pieces, and the frames that are given of them.
use Rattle.std.specs.Prelude.{◌≡◌, ⊤, ℕ, List, [], ◌∷◌, ◌++◌, Option, Some, None, Result, Ok, IfErr}
use Rattle.model_h1.specs.Frame as model
use Rattle.model_h1.specs.Handed.{Begins}
use Rattle.ws_frames.specs.declared.codec.Codec.{Codec}
use Rattle.ws_frames.specs.declared.error.ProtocolError.{ProtocolError}
use Rattle.ws_frames.specs.declared.error.ProtocolError.TheVariants.{NoMemory}
use Rattle.ws_frames.specs.declared.message.Frame.{Frame}
use Rattle.ws_frames.specs.Codec.{frame_says}
use Rattle.ws_frames.specs.CodecState.{codec_server, codec_limit, codec_reading, with_reading, Decoded}
use Rattle.ws_session.specs.Session.{SessionParts, with_unread, NextSays}

-- What is done at the end that reads: bytes come, as many as there are, or the next frame is asked for and this is answered.
pub data Act : Type 0 where
  comes : List ℕ → Act
  asked : Result (Option Frame) ProtocolError → Act

-- all bytes that came
abbrev pub bytes_came : List Act → List ℕ
bytes_came [] = []
bytes_came (comes bytes ∷ acts) = bytes ++ bytes_came acts
bytes_came (asked answer ∷ acts) = bytes_came acts

-- the frames that were given, in their order
abbrev pub frames_given : List Act → List model.Frame
frames_given [] = []
frames_given (asked (Ok (Some frame)) ∷ acts) = frame_says frame ∷ frames_given acts
frames_given (act ∷ acts) = frames_given acts

-- no error was answered but that memory ran out
abbrev pub HaveNoFault : List Act → Type 0
HaveNoFault [] = ⊤
HaveNoFault (comes bytes ∷ acts) = HaveNoFault acts
HaveNoFault (asked answer ∷ acts) = IfErr answer (λ e. e ≡ NoMemory) × HaveNoFault acts

-- what was done last is to ask for a frame, and there was none
abbrev pub EndsWaiting : List Act → Type 0
EndsWaiting [] = ⊥
EndsWaiting (asked (Ok None) ∷ []) = ⊤
EndsWaiting (act ∷ []) = ⊥
EndsWaiting (act ∷ second ∷ acts) = EndsWaiting (second ∷ acts)

-- ---- a codec and a session

-- Each answer is one of the codec's `decode`, from the bytes that the one before it left and those that came since.
abbrev pub IsDecoding : {R : Type 0} → Codec R → List ℕ → List Act → Type 0
IsDecoding codec left [] = ⊤
IsDecoding codec left (comes bytes ∷ acts) = IsDecoding codec (left ++ bytes) acts
IsDecoding {R} codec left (asked answer ∷ acts) =
    (next : Codec R) × (rest : List ℕ)
    × Decoded (codec_server codec) (codec_limit codec) (codec_reading codec) left answer (codec_reading next) rest
    × (next ≡ with_reading (codec_reading next) codec) × IsDecoding next rest acts

-- Bytes are pushed to a session, and each answer is one of its `next`.
abbrev pub IsReading : SessionParts → List Act → Type 0
IsReading session [] = ⊤
IsReading session (comes bytes ∷ acts) = IsReading (with_unread (session.unread ++ bytes) session) acts
IsReading session (asked answer ∷ acts) = (next : SessionParts) × NextSays session answer next × IsReading next acts

-- ---- against what was sent

-- What was given are the frames that were sent, the first of them, each as it was and in their order, and no rule is broken.
-- Where all bytes came and there is no further frame, they are all.
pub record AreReceived (sent : List model.Frame) (acts : List Act) (more : List ℕ) : Type 0 where
  pub first : Begins (frames_given acts) sent
  pub no_fault : HaveNoFault acts
  pub all : more ≡ [] → EndsWaiting acts → frames_given acts ≡ sent
