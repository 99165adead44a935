-- What bytes say to a codec, and the text that one writes.
use Rattle.std.specs.Prelude.{◌≡◌, ℕ, List, [], ◌∷◌, Option, Some, None, IsSome}
use Rattle.std.proofs.Common.{refl, sym, subst, ◌∙◌}
use Rattle.std.proofs.lemmas.Bool.{false≢true}
use Rattle.rand_core.specs.Stream.{Stream}
use Rattle.model_h1.specs.Frame as model
use Rattle.model_h1.specs.FrameText.{front_frame, send_error}
use Rattle.ws_frames.specs.declared.error.ProtocolError.{ProtocolError}
use Rattle.ws_frames.specs.declared.message.Frame.{Frame}
use Rattle.ws_frames.specs.declared.message.Message.{Message}
use Rattle.ws_frames.specs.declared.codec.Codec.{Codec}
use Rattle.ws_frames.specs.Parsed.{late_reader, parsed}
use Rattle.ws_frames.specs.Refusal.{refusal}
use Rattle.ws_frames.specs.FramePieces.{AreFrames}
use Rattle.ws_frames.specs.Codec.{frame_says}
use Rattle.ws_frames.specs.CodecState.{codec_server, codec_limit, codec_reading, codec_sending, codec_words, cost, Failed}
use Rattle.ws_frames.specs.Sent.{message_says, message_written, mask_drawn, sending_after, words_after, with_sending}

-- frames, and the rule that what stands behind them breaks, or none
pub record Frames : Type 0 where
  pub frames : List model.Frame
  pub fail : Option model.ProtocolError

-- from where the codec stands the bytes are these frames
abbrev pub Reads : {R : Type 0} → Codec R → List ℕ → Frames → Type 0
Reads codec bytes said =
    AreFrames (late_reader (codec_server codec) (codec_limit codec)) (codec_reading codec) bytes said.frames said.fail

-- a frame in front of what is said
abbrev pub given : Frame → Frames → Frames
given frame said = record said { frames = frame_says frame ∷ said.frames }

-- no frame yet, and no broken rule
abbrev pub no_frames : Frames
no_frames = record { frames = []; fail = None }

-- no frame, and the rule that the error names is broken
abbrev pub Breaks : ProtocolError → Frames → Type 0
Breaks error said = (rule : model.ProtocolError) × (said.frames ≡ []) × (said.fail ≡ Some rule) × (error ≡ refusal rule)

-- after an error the codec is as before; a frame that breaks a rule is dropped, if it is whole, and nothing else
abbrev pub LeftAfter : {R : Type 0} → ProtocolError → Codec R → List ℕ → Codec R → List ℕ → Type 0
LeftAfter error old bytes new rest =
    (new ≡ old)
    × Failed (front_frame (late_reader (codec_server old) (codec_limit old)) (codec_reading old) bytes) error
    (cost (parsed (codec_server old) (codec_limit old) bytes)) bytes rest

-- from where the codec stands a message may be sent, has this text, and leaves the codec so
abbrev pub Writes : {R : Type 0} → (R → Stream) → Codec R → Message → List ℕ → Codec R → Type 0
Writes stream old message text new =
    (send_error (codec_sending old) (message_says message) ≡ None)
    × (text ≡ message_written (mask_drawn (codec_server old) (stream (codec_words old))) (message_says message))
    × (codec_sending new ≡ sending_after (codec_sending old) (message_says message))
    × (stream (codec_words new) ≡ words_after (codec_server old) (message_says message) (stream (codec_words old)))
    × (new ≡ with_sending (codec_words new) (codec_sending new) old)

-- from where the codec stands a rule forbids the message, and the error names it
abbrev pub Forbids : {R : Type 0} → ProtocolError → Codec R → Message → Type 0
Forbids error codec message =
    (rule : model.ProtocolError) × (send_error (codec_sending codec) (message_says message) ≡ Some rule) × (error ≡ refusal rule)

-- what is forbidden has no text
pub forbidden_has_no_text : {R : Type 0} (stream : R → Stream) (old new : Codec R) (message : Message) (text : List ℕ) (error : ProtocolError)
    → Forbids error old message → ¬ (Writes stream old message text new)
forbidden_has_no_text stream old new message text error forbids wrote =
    false≢true (subst (λ (o : Option model.ProtocolError). IsSome o) (sym forbids.1 ∙ wrote.0) refl)
