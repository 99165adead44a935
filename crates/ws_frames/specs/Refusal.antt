-- What the errors of reading say.
use Rattle.std.specs.Prelude.{Option, Some, None, Result, Ok, Err}
use Rattle.model_h1.specs.Frame as model
use Rattle.model_h1.specs.FrameText.{opcode_of}
use Rattle.ws_frames.specs.declared.error.ProtocolError.{ProtocolError}
use Rattle.ws_frames.specs.declared.error.ProtocolError.TheVariants as errors
use Rattle.ws_frames.specs.Protocol.{code_of}

-- the error for a broken rule
abbrev pub refusal : model.ProtocolError → ProtocolError
refusal model.unmasked_frame = errors.UnmaskedFrame
refusal model.masked_frame = errors.MaskedFrame
refusal model.invalid_reserved_bits = errors.InvalidReservedBits
refusal model.bad_op_code = errors.BadOpCode
refusal model.overflow = errors.Overflow
refusal model.continuation_not_started = errors.ContinuationNotStarted
refusal model.continuation_started = errors.ContinuationStarted
refusal (model.invalid_opcode number) = errors.InvalidOpcode number
refusal (model.invalid_length n) = errors.InvalidLength n
refusal (model.continuation_fragment number) = errors.ContinuationFragment (code_of (opcode_of number))

-- the error where this rule refuses something, and where none does: then there was no memory
abbrev pub error_for : Option model.ProtocolError → ProtocolError
error_for (Some rule) = refusal rule
error_for None = errors.NoMemory

-- the same of a frame that is one, or breaks a rule
abbrev pub error_of : Result model.Frame model.ProtocolError → ProtocolError
error_of (Err rule) = refusal rule
error_of (Ok frame) = errors.NoMemory
