-- What a codec writes.
use Rattle.std.specs.Prelude.{ℕ, Bool, true, false, List, [], string_bytes, if◌then◌else◌, Option, Some, None, option_map}
use Rattle.std.specs.Int.{w32, to_le_bytes}
use Rattle.rand_core.specs.Stream.{Stream, next_u32}
use Rattle.model_h1.specs.Frame as model
use Rattle.model_h1.specs.FrameText.{continuation_opcode, text_opcode, binary_opcode, close_opcode, ping_opcode, pong_opcode, close_payload, is_under_way}
use Rattle.ws_frames.specs.declared.message.Message.{Message}
use Rattle.ws_frames.specs.declared.message.Message.TheVariants as messages
use Rattle.ws_frames.specs.declared.codec.Codec.{Codec}
use Rattle.ws_frames.specs.Close.{reason_says}
use Rattle.ws_frames.specs.Codec.{item_says}
use Rattle.ws_frames.specs.Written.{written}

-- what a message says
abbrev pub message_says : Message → model.Message
message_says (messages.Text text) = model.frame (model.text (string_bytes text))
message_says (messages.Binary payload) = model.frame (model.binary payload)
message_says (messages.Continuation item) = model.frame (item_says item)
message_says (messages.Ping payload) = model.frame (model.ping payload)
message_says (messages.Pong payload) = model.frame (model.pong payload)
message_says (messages.Close reason) = model.frame (model.close (option_map reason_says reason))
message_says messages.Nop = model.nop

-- the text of a frame under a mask, or without one
abbrev pub frame_written : Option (List ℕ) → model.Frame → List ℕ
frame_written mask (model.text payload) = written mask true text_opcode payload
frame_written mask (model.binary payload) = written mask true binary_opcode payload
frame_written mask (model.first_text payload) = written mask false text_opcode payload
frame_written mask (model.first_binary payload) = written mask false binary_opcode payload
frame_written mask (model.continuation payload) = written mask false continuation_opcode payload
frame_written mask (model.last payload) = written mask true continuation_opcode payload
frame_written mask (model.ping payload) = written mask true ping_opcode payload
frame_written mask (model.pong payload) = written mask true pong_opcode payload
frame_written mask (model.close reason) = written mask true close_opcode (close_payload reason)

-- the text of what is sent
abbrev pub message_written : Option (List ℕ) → model.Message → List ℕ
message_written mask (model.frame f) = frame_written mask f
message_written mask model.nop = []

-- a message that is sent is under way behind this one
abbrev pub sending_after : Bool → model.Message → Bool
sending_after before (model.frame f) = is_under_way before f
sending_after before model.nop = before

-- the mask of a frame: a server puts none
abbrev pub mask_drawn : Bool → Stream → Option (List ℕ)
mask_drawn server stream = if server then None else Some (to_le_bytes w32 (next_u32 stream).0)

-- the words that are left
abbrev pub words_left : Bool → Stream → Stream
words_left server stream = if server then stream else (next_u32 stream).1

-- the words that are left behind a message: nothing takes none
abbrev pub words_after : Bool → model.Message → Stream → Stream
words_after server (model.frame f) stream = words_left server stream
words_after server model.nop stream = stream

-- the codec with other words
abbrev pub with_words : {R : Type 0} → R → Codec R → Codec R
with_words words codec = record codec { words = words }

-- and with a message that is sent under way or not
abbrev pub with_sending : {R : Type 0} → R → Bool → Codec R → Codec R
with_sending words sending codec = record codec { words = words; sending = sending }
