-- The names of the codes of Close frames.
use Rattle.std.proofs.Common.{◌≡◌, Option, None, Some, sym, subst}
use Rattle.model_h1.specs.Event as on
use Rattle.ws_frames.specs.declared.message.Frame.{Frame}
use Rattle.ws_frames.specs.declared.message.Frame.TheVariants as frames
use Rattle.ws_frames.specs.declared.proto.CloseCode.{CloseCode}
use Rattle.ws_frames.specs.declared.proto.CloseReason.{CloseReason}
use Rattle.ws_frames.specs.Close.{HasName}
use Rattle.ws_frames.specs.Codec.{IsNamed}
use Rattle.ws_frames.specs.Copies.{IsFrameCopy, code_given, frame_code}
use Rattle.ws_frames.specs.Protocol.{close_code, close_number}
use Rattle.h1_connection.specs.Frames.{SaysFrame, IsPulledNamed}
use Rattle.h1_connection.specs.declared.connection.frames.PulledFrame.{PulledFrame}
use Rattle.h1_connection.specs.declared.connection.frames.PulledFrame.TheVariants as pulled

-- of what a pull gives
pub says_named : (answer : PulledFrame) (out : on.Outcome) → SaysFrame answer out → IsPulledNamed answer
says_named (pulled.Frame given) out says = says.1
says_named (pulled.Protocol error) out says = tt
says_named pulled.Pending out says = tt

reason_named : (copy : Option CloseReason) (frame : Frame) → code_given copy ≡ frame_code frame → IsNamed frame → HasName copy
reason_named None frame is named = tt
reason_named (Some x) (frames.Close (Some y)) is named =
    subst (λ (code : CloseCode). code ≡ close_code (close_number code)) (sym (cc is)) named
reason_named (Some x) (frames.Close None) is named = absurd (cc is)
reason_named (Some x) (frames.Text payload) is named = absurd (cc is)
reason_named (Some x) (frames.Binary payload) is named = absurd (cc is)
reason_named (Some x) (frames.Continuation item) is named = absurd (cc is)
reason_named (Some x) (frames.Ping payload) is named = absurd (cc is)
reason_named (Some x) (frames.Pong payload) is named = absurd (cc is)

-- of a copy
pub copy_named : (copy frame : Frame) → IsFrameCopy copy frame → IsNamed frame → IsNamed copy
copy_named (frames.Close reason) frame is named = reason_named reason frame is.1 named
copy_named (frames.Text payload) frame is named = tt
copy_named (frames.Binary payload) frame is named = tt
copy_named (frames.Continuation item) frame is named = tt
copy_named (frames.Ping payload) frame is named = tt
copy_named (frames.Pong payload) frame is named = tt
