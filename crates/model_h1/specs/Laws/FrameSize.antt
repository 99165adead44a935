-- Where the size of a frame is judged: the header at the front, for readers that differ in this alone.
use Rattle.std.specs.Prelude.{ℕ, ◌+◌, List, [], ◌∷◌, length, nat_lt, if◌then◌else◌, Option, Some, None}
use Rattle.model_h1.specs.Frame.{ProtocolError}
use Rattle.model_h1.specs.FrameText.{Reader, JudgesSize, FrameStart, frame_start, start_error, length_bytes, FrameHeader, frame_header}

-- the reader, with sizes judged there
abbrev pub judging : JudgesSize → Reader → Reader
judging judges_size reader = record reader { judges_size = judges_size }

-- the header, if no rule is broken yet and the length is there
abbrev pub header_behind : Option ProtocolError → FrameStart → List ℕ → Option FrameHeader
header_behind (Some e) start more = None
header_behind None start more = if nat_lt (length more) (length_bytes start) then None else Some (frame_header start more)

-- the header at the front of the bytes
abbrev pub front_header : Reader → List ℕ → Option FrameHeader
front_header reader [] = None
front_header reader (first ∷ []) = None
front_header reader (first ∷ second ∷ more) =
    header_behind (start_error reader (frame_start first second)) (frame_start first second) more

-- how many bytes the whole frame has
abbrev pub frame_length : FrameHeader → ℕ
frame_length header = header.header_length + header.payload_length
