-- No rule that forbids a message is a transport's fault.
use Rattle.std.proofs.Common.{◌≡◌}
use Rattle.model_h1.specs.Frame as model
use Rattle.ws_frames.specs.Refusal.{refusal}
use Rattle.ws_frames.specs.declared.error.ProtocolError.{ProtocolError}
use Rattle.ws_frames.specs.declared.error.ProtocolError.TheVariants as errors

pub no_transport : (e : ProtocolError) (rule : model.ProtocolError) → e ≡ errors.Io → e ≡ refusal rule → ⊥
no_transport e model.unmasked_frame a b = cc
no_transport e model.masked_frame a b = cc
no_transport e model.invalid_reserved_bits a b = cc
no_transport e model.bad_op_code a b = cc
no_transport e model.overflow a b = cc
no_transport e model.continuation_not_started a b = cc
no_transport e model.continuation_started a b = cc
no_transport e (model.invalid_opcode n) a b = cc
no_transport e (model.invalid_length n) a b = cc
no_transport e (model.continuation_fragment n) a b = cc

pub no_lack : (e : ProtocolError) → e ≡ errors.Io → e ≡ errors.NoMemory → ⊥
no_lack e a b = cc
