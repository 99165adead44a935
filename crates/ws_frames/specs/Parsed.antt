-- A frame at the front of bytes, before its place among fragments and the payload of a Close are judged.
use Rattle.std.specs.Prelude.{ℕ, ◌+◌, Bool, true, ◌&&◌, List, [], ◌∷◌, length, drop, nat_lt, if◌then◌else◌, Option, Some, None}
use Rattle.model_h1.specs.Frame as model
use Rattle.model_h1.specs.Frame.{overflow, invalid_length}
use Rattle.model_h1.specs.FrameText.{Reader, when_whole, Opcode, close_opcode, FrameStart, frame_start, start_error, length_bytes, FrameHeader, frame_header, payload_of, is_control, is_never_whole}
use Rattle.model_h1.specs.Limits.{MAX_CONTROL_PAYLOAD}
use Rattle.model_h1.specs.Laws.FrameSize.{frame_length}

-- who reads: a server or a client, and the most bytes of a payload, which is judged once the frame is whole
abbrev pub late_reader : Bool → ℕ → Reader
late_reader server max_size = record { wants_mask = server; max_payload = max_size; judges_size = when_whole }

-- what stands in front of a payload: too few bytes, a broken rule, or a header
pub data HeadFront : Type 0 where
  short : HeadFront
  broken : model.ProtocolError → HeadFront
  known : FrameHeader → HeadFront

-- behind the first two bytes, and the rule that they break, if any, stand these
abbrev pub head_behind : Option model.ProtocolError → FrameStart → List ℕ → HeadFront
head_behind (Some e) start more = broken e
head_behind None start more = if nat_lt (length more) (length_bytes start) then short else known (frame_header start more)

-- the header at the front of the bytes
abbrev pub head_front : Reader → List ℕ → HeadFront
head_front reader [] = short
head_front reader (first ∷ []) = short
head_front reader (first ∷ second ∷ more) = head_behind (start_error reader (frame_start first second)) (frame_start first second) more

-- what is taken: nothing yet; nothing, for a broken rule, where so many bytes go; or the last frame of a message or not,
-- with its opcode, its payload, and the number of its bytes
pub data Parsed : Type 0 where
  waits : Parsed
  refuses : model.ProtocolError → ℕ → Parsed
  takes : Bool → Opcode → List ℕ → ℕ → Parsed

-- a control frame with too much payload is refused, and a Close is read as a whole one without payload
abbrev pub parsed_long : Opcode → ℕ → ℕ → Parsed
parsed_long close_opcode payload_length len = takes true close_opcode [] len
parsed_long opcode payload_length len = refuses (invalid_length payload_length) len

-- a frame that is there and is not too long; behind its length stand these bytes
abbrev pub parsed_body : FrameHeader → List ℕ → Parsed
parsed_body header body =
    if is_control header.start.opcode && nat_lt MAX_CONTROL_PAYLOAD header.payload_length
    then parsed_long header.start.opcode header.payload_length (frame_length header)
    else takes header.start.is_final header.start.opcode (payload_of header body) (frame_length header)

-- a frame whose header is known: one that can never be whole is refused at once, one above the limit once it is whole
abbrev pub parsed_header : ℕ → FrameHeader → List ℕ → Parsed
parsed_header max_size header bytes =
    if is_never_whole header then refuses overflow 0
    else (if nat_lt (length bytes) (frame_length header) then waits
    else (if nat_lt max_size header.payload_length then refuses overflow (frame_length header)
    else parsed_body header (drop (2 + length_bytes header.start) bytes)))

-- by what stands in front of the payload
abbrev pub parsed_head : ℕ → HeadFront → List ℕ → Parsed
parsed_head max_size short bytes = waits
parsed_head max_size (broken e) bytes = refuses e 0
parsed_head max_size (known header) bytes = parsed_header max_size header bytes

-- what is taken from the front of the bytes
unfoldable pub parsed : Bool → ℕ → List ℕ → Parsed
parsed server max_size bytes = parsed_head max_size (head_front (late_reader server max_size) bytes) bytes
