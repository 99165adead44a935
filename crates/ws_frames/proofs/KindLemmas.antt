-- The kind of a frame says what it is.
use Rattle.std.proofs.Common.{◌≡◌, ◌≢◌, ℕ, Bool, true, false, List, Result, Ok, Err, refl}
use Rattle.ws_frames.specs.declared.error.ProtocolError.{ProtocolError}
use Rattle.ws_frames.specs.declared.error.ProtocolError.TheVariants as errors
use Rattle.ws_frames.specs.declared.kind.Kind.{Kind}
use Rattle.ws_frames.specs.Refusal.{refusal}
use Rattle.model_h1.specs.Frame as frames
use Rattle.model_h1.specs.FrameText.{Opcode, continuation_opcode, text_opcode, binary_opcode, close_opcode, ping_opcode, pong_opcode, unknown_opcode}
use Rattle.ws_frames.specs.Judged.{judged_taken}
use Rattle.ws_frames.specs.Codec.{kind_judged, kind_frame}

-- an error for a broken rule
abbrev pub ErrorSays : ProtocolError → Result frames.Frame frames.ProtocolError → Type 0
ErrorSays e what = (rule : frames.ProtocolError) × (what ≡ Err rule) × (e ≡ refusal rule)

-- the kind says what a frame with any payload is, or which rule it breaks
abbrev pub KindSays : Result Kind ProtocolError → (List ℕ → Result frames.Frame frames.ProtocolError) → Type 0
KindSays (Ok kind) judged = (payload : List ℕ) → judged payload ≡ kind_frame kind payload
KindSays (Err e) judged = (payload : List ℕ) → ErrorSays e (judged payload)

-- for each opcode, the last frame of a message or not, inside one or not
pub kind_says : (u fin : Bool) (op : Opcode) → KindSays (kind_judged u fin op) (judged_taken u fin op)
kind_says true true continuation_opcode = λ payload. refl
kind_says false true continuation_opcode = λ payload. (frames.continuation_not_started, refl, refl)
kind_says true true text_opcode = λ payload. (frames.continuation_started, refl, refl)
kind_says false true text_opcode = λ payload. refl
kind_says true true binary_opcode = λ payload. (frames.continuation_started, refl, refl)
kind_says false true binary_opcode = λ payload. refl
kind_says u true close_opcode = λ payload. refl
kind_says u true ping_opcode = λ payload. refl
kind_says u true pong_opcode = λ payload. refl
kind_says u true (unknown_opcode n) = λ payload. (frames.invalid_opcode n, refl, refl)
kind_says true false continuation_opcode = λ payload. refl
kind_says false false continuation_opcode = λ payload. (frames.continuation_not_started, refl, refl)
kind_says true false text_opcode = λ payload. (frames.continuation_started, refl, refl)
kind_says false false text_opcode = λ payload. refl
kind_says true false binary_opcode = λ payload. (frames.continuation_started, refl, refl)
kind_says false false binary_opcode = λ payload. refl
kind_says u false close_opcode = λ payload. (frames.continuation_fragment 8, refl, refl)
kind_says u false ping_opcode = λ payload. (frames.continuation_fragment 9, refl, refl)
kind_says u false pong_opcode = λ payload. (frames.continuation_fragment 10, refl, refl)
kind_says u false (unknown_opcode n) = λ payload. (frames.continuation_fragment n, refl, refl)

-- a broken rule is no want of memory
pub not_memory : (rule : frames.ProtocolError) → refusal rule ≢ errors.NoMemory
not_memory frames.unmasked_frame = λ e. cc
not_memory frames.masked_frame = λ e. cc
not_memory frames.invalid_reserved_bits = λ e. cc
not_memory frames.bad_op_code = λ e. cc
not_memory frames.overflow = λ e. cc
not_memory frames.continuation_not_started = λ e. cc
not_memory frames.continuation_started = λ e. cc
not_memory (frames.invalid_opcode n) = λ e. cc
not_memory (frames.invalid_length n) = λ e. cc
not_memory (frames.continuation_fragment n) = λ e. cc
