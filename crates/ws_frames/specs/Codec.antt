-- What a codec reads.
use Rattle.std.specs.Prelude.{◌≡◌, ℕ, ◌+◌, Bool, true, false, List, ◌++◌, take, drop, if◌then◌else◌, Option, Some, None, option_map, Result, Ok, Err}
use Rattle.model_h1.specs.Frame as model
use Rattle.model_h1.specs.FrameText.{close_frame, Opcode, continuation_opcode, text_opcode, binary_opcode, close_opcode, ping_opcode, pong_opcode, unknown_opcode, opcode_of, opcode_number}
use Rattle.ws_frames.specs.Protocol.{code_of}
use Rattle.ws_frames.specs.declared.error.ProtocolError.{ProtocolError}
use Rattle.ws_frames.specs.declared.error.ProtocolError.TheVariants as errors
use Rattle.ws_frames.specs.declared.message.Item.{Item}
use Rattle.ws_frames.specs.declared.message.Item.TheVariants as items
use Rattle.ws_frames.specs.declared.message.Frame.{Frame}
use Rattle.ws_frames.specs.declared.message.Frame.TheVariants as frames
use Rattle.ws_frames.specs.declared.kind.Kind.{Kind}
use Rattle.ws_frames.specs.declared.kind.Kind.TheVariants as kinds
use Rattle.ws_frames.specs.Refusal.{error_of}
use Rattle.ws_frames.specs.Close.{reason_says, HasName}

-- a fragment
abbrev pub item_says : Item → model.Frame
item_says (items.FirstText payload) = model.first_text payload
item_says (items.FirstBinary payload) = model.first_binary payload
item_says (items.Continue payload) = model.continuation payload
item_says (items.Last payload) = model.last payload

-- a frame
abbrev pub frame_says : Frame → model.Frame
frame_says (frames.Text payload) = model.text payload
frame_says (frames.Binary payload) = model.binary payload
frame_says (frames.Continuation item) = item_says item
frame_says (frames.Ping payload) = model.ping payload
frame_says (frames.Pong payload) = model.pong payload
frame_says (frames.Close reason) = model.close (option_map reason_says reason)

-- a Close has the code that its number names
abbrev pub IsNamed : Frame → Type 0
IsNamed (frames.Close reason) = HasName reason
IsNamed _ = Unit {0}

-- the same of a frame that may be there
abbrev pub IsNamedIfThere : Option Frame → Type 0
IsNamedIfThere None = Unit {0}
IsNamedIfThere (Some frame) = IsNamed frame

-- and of one that was taken, beside whether a message is under way behind it
abbrev pub IsTakenNamed : Option (Frame × Bool) → Type 0
IsTakenNamed None = Unit {0}
IsTakenNamed (Some p) = IsNamed p.0

-- the frame of a kind with this payload
abbrev pub kind_frame : Kind → List ℕ → Result model.Frame model.ProtocolError
kind_frame kinds.Text payload = Ok (model.text payload)
kind_frame kinds.Binary payload = Ok (model.binary payload)
kind_frame kinds.FirstText payload = Ok (model.first_text payload)
kind_frame kinds.FirstBinary payload = Ok (model.first_binary payload)
kind_frame kinds.Continue payload = Ok (model.continuation payload)
kind_frame kinds.Last payload = Ok (model.last payload)
kind_frame kinds.Ping payload = Ok (model.ping payload)
kind_frame kinds.Pong payload = Ok (model.pong payload)
kind_frame kinds.Close payload = close_frame payload

-- a message is under way behind a frame of this kind
abbrev pub kind_goes_on : Bool → Kind → Bool
kind_goes_on before kinds.FirstText = true
kind_goes_on before kinds.FirstBinary = true
kind_goes_on before kinds.Last = false
kind_goes_on before _ = before

-- the kind of a frame where a message is under way or not, the last one of its message or not
abbrev pub kind_judged : Bool → Bool → Opcode → Result Kind ProtocolError
kind_judged under_way true continuation_opcode = if under_way then Ok kinds.Last else Err errors.ContinuationNotStarted
kind_judged under_way true text_opcode = if under_way then Err errors.ContinuationStarted else Ok kinds.Text
kind_judged under_way true binary_opcode = if under_way then Err errors.ContinuationStarted else Ok kinds.Binary
kind_judged under_way true close_opcode = Ok kinds.Close
kind_judged under_way true ping_opcode = Ok kinds.Ping
kind_judged under_way true pong_opcode = Ok kinds.Pong
kind_judged under_way true (unknown_opcode number) = Err (errors.InvalidOpcode number)
kind_judged under_way false continuation_opcode = if under_way then Ok kinds.Continue else Err errors.ContinuationNotStarted
kind_judged under_way false text_opcode = if under_way then Err errors.ContinuationStarted else Ok kinds.FirstText
kind_judged under_way false binary_opcode = if under_way then Err errors.ContinuationStarted else Ok kinds.FirstBinary
kind_judged under_way false opcode = Err (errors.ContinuationFragment (code_of (opcode_of (opcode_number opcode))))

-- the bytes with this payload in the place of as many
abbrev pub with_payload : ℕ → List ℕ → ℕ → List ℕ → List ℕ
with_payload from payload len bytes = take from bytes ++ (payload ++ drop (from + len) bytes)

-- the frame that was taken, its payload read by what is judged of it; after an error the bytes are as they were
abbrev pub TakenFrame : Result Frame ProtocolError → Result model.Frame model.ProtocolError → ℕ → List ℕ → List ℕ → Type 0
TakenFrame (Ok frame) judged len old new = (judged ≡ Ok (frame_says frame)) × (new ≡ drop len old)
TakenFrame (Err e) judged len old new = (e ≡ error_of judged) × (new ≡ old)
