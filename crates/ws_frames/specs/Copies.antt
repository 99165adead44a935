-- The names of close codes, which frames that say the same may differ in.
use Rattle.std.specs.Prelude.{◌≡◌, Option, None, option_map}
use Rattle.ws_frames.specs.declared.proto.CloseCode.{CloseCode}
use Rattle.ws_frames.specs.declared.proto.CloseReason.{CloseReason}
use Rattle.ws_frames.specs.declared.message.Frame.{Frame}
use Rattle.ws_frames.specs.declared.message.Frame.TheVariants as frames
use Rattle.ws_frames.specs.declared.message.Message.{Message}
use Rattle.ws_frames.specs.declared.message.Message.TheVariants as messages
use Rattle.ws_frames.specs.Close.{reason_says}
use Rattle.ws_frames.specs.Codec.{frame_says}
use Rattle.ws_frames.specs.Sent.{message_says}

-- the code of a reason, if there is one
abbrev pub code_given : Option CloseReason → Option CloseCode
code_given reason = option_map (λ (r : CloseReason). r.code) reason

-- the code of a frame
abbrev pub frame_code : Frame → Option CloseCode
frame_code (frames.Close reason) = code_given reason
frame_code _ = None

-- the code of a message
abbrev pub message_code : Message → Option CloseCode
message_code (messages.Close reason) = code_given reason
message_code _ = None

-- a copy says the same, by the same code
abbrev pub IsReasonCopy : Option CloseReason → Option CloseReason → Type 0
IsReasonCopy copy reason = (option_map reason_says copy ≡ option_map reason_says reason) × (code_given copy ≡ code_given reason)

abbrev pub IsFrameCopy : Frame → Frame → Type 0
IsFrameCopy copy frame = (frame_says copy ≡ frame_says frame) × (frame_code copy ≡ frame_code frame)

abbrev pub IsMessageCopy : Message → Message → Type 0
IsMessageCopy copy message = (message_says copy ≡ message_says message) × (message_code copy ≡ message_code message)
