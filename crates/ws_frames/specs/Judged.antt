-- A frame that was taken, judged by its place among fragments, and a Close by its payload.
use Rattle.std.specs.Prelude.{ℕ, Bool, List, if◌then◌else◌, Result}
use Rattle.model_h1.specs.Frame as model
use Rattle.model_h1.specs.FrameText.{Opcode, finished_frame, unfinished_frame}

-- the frame with a payload, the last one of its message or not
abbrev pub judged_taken : Bool → Bool → Opcode → List ℕ → Result model.Frame model.ProtocolError
judged_taken under_way is_final opcode payload =
    if is_final then finished_frame under_way opcode payload else unfinished_frame under_way opcode payload
