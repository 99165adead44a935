-- Messages that a client sends, and the frames that they are.
use Rattle.std.specs.Prelude.{◌≡◌, ℕ, List, [], ◌∷◌, ◌++◌}
use Rattle.rand_core.specs.Stream.{Stream}
use Rattle.model_h1.specs.Frame as model
use Rattle.ws_frames.specs.declared.codec.Codec.{Codec}
use Rattle.ws_frames.specs.declared.message.Message.{Message}
use Rattle.ws_frames.specs.Framing.{Writes}
use Rattle.ws_frames.specs.Sent.{message_says}

-- the frame that is sent, or none where nothing is
abbrev pub frame_in : model.Message → List model.Frame
frame_in (model.frame f) = f ∷ []
frame_in model.nop = []

-- the frames of messages, one after another
abbrev pub frames_sent : List Message → List model.Frame
frames_sent [] = []
frames_sent (m ∷ ms) = frame_in (message_says m) ++ frames_sent ms

-- From where the codec stands the messages are written one after another. This is the text of them all, and the codec after
-- the last.
abbrev pub AreWritten : {R : Type 0} → (R → Stream) → Codec R → List Message → List ℕ → Codec R → Type 0
AreWritten stream old [] text new = (text ≡ []) × (new ≡ old)
AreWritten {R} stream old (m ∷ ms) text new =
    (next : Codec R) × (first others : List ℕ) × Writes stream old m first next × AreWritten stream next ms others new
    × (text ≡ first ++ others)
