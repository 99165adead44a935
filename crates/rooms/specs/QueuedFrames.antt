-- What a line says: the frame that it sends.
use Rattle.std.specs.Prelude.{◌≡◌, List, Option, Some, None}
use Rattle.model_h1.specs.Frame as model
use Rattle.model_rooms.specs.Member.{Effect, says}

-- the frame of a message; of nothing there is no line
abbrev pub frame_in : model.Message → model.Frame
frame_in (model.frame f) = f
frame_in model.nop = model.close None

-- the message sends a frame
abbrev pub SendsFrame : model.Message → Type 0
SendsFrame message = message ≡ model.frame (frame_in message)

-- the frames that an effect says, if it does
abbrev pub said_of : Effect → Option (List model.Frame)
said_of (says fs) = Some fs
said_of _ = None
