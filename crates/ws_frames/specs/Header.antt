-- What the functions that read a frame's header answer.
use Rattle.std.specs.Prelude.{◌≡◌, ◌≢◌, ℕ, ◌+◌, ◌-◌, ◌*◌, ◌≤◌, Bool, true, List, length, take, drop, nat_lt, slice_index, if◌then◌else◌, Option, Some, None, Result, Ok, Err}
use Rattle.model_h1.specs.Frame as model
use Rattle.model_h1.specs.FrameText.{Opcode, opcode_error, FrameStart, FrameHeader, length_bytes, mask_bytes, payload_length_of, unmask}
use Rattle.ws_frames.specs.declared.error.ProtocolError.{ProtocolError}
use Rattle.ws_frames.specs.declared.proto.OpCode.{OpCode}
use Rattle.ws_frames.specs.declared.proto.OpCode.TheVariants as codes
use Rattle.ws_frames.specs.declared.frame.header.Header.{Header}
use Rattle.ws_frames.specs.declared.frame.header.Found.{Found}
use Rattle.ws_frames.specs.declared.frame.header.Found.TheVariants as found
use Rattle.ws_frames.specs.Protocol.{code_of, opcode_written}
use Rattle.ws_frames.specs.Refusal.{refusal}
use Rattle.ws_frames.specs.Parsed.{HeadFront, short, broken, known, Parsed, waits, refuses, takes, parsed_header}

-- the opcode, or the error for the rule that the first two bytes break
abbrev pub start_read : Option model.ProtocolError → Opcode → Result OpCode ProtocolError
start_read (Some e) opcode = Err (refusal e)
start_read None opcode = Ok (code_of opcode)

-- how many bytes hold the length, and the payload's length, once these are there
abbrev pub length_there : FrameStart → List ℕ → Option (ℕ × ℕ)
length_there start more =
    if nat_lt (length more) (length_bytes start) then None else Some (length_bytes start, payload_length_of start more)

-- the parts of a header that are kept
abbrev pub header_kept : FrameHeader → Header
header_kept header = record {
  finished = header.start.is_final;
  op = code_of header.start.opcode;
  header_len = header.header_length;
  payload_len = header.payload_length;
}

-- what is read of what stands in front of a payload
abbrev pub head_read : HeadFront → Result (Option Header) ProtocolError
head_read short = Ok None
head_read (broken e) = Err (refusal e)
head_read (known header) = Ok (Some (header_kept header))

-- the length that is declared
abbrev pub declared : HeadFront → Result (Option ℕ) ProtocolError
declared short = Ok None
declared (broken e) = Err (refusal e)
declared (known header) = Ok (Some header.payload_length)

-- the payload behind a header of so many bytes, the last four of which are the mask where a server reads
abbrev pub payload_at : Bool → ℕ → ℕ → List ℕ → List ℕ
payload_at server header_len payload_len bytes =
    if server then unmask (take 4 (drop (header_len - 4) bytes)) 0 (take payload_len (drop header_len bytes))
    else take payload_len (drop header_len bytes)

-- what is known of a header whose first two bytes broke no rule
pub record IsReadable (server : Bool) (header : FrameHeader) : Type 0 where
  pub masked : header.start.is_masked ≡ server
  pub opcode : opcode_error header.start.opcode ≡ None
  pub lens : header.header_length ≡ 2 + length_bytes header.start + mask_bytes header.start

-- a frame lies there, of this payload and an opcode that has a meaning
pub record LiesAt (server finished : Bool) (op : OpCode) (header_len payload_len : ℕ) (bytes : List ℕ) (what : Parsed) : Type 0 where
  pub taken : what ≡ takes finished (opcode_written op) (payload_at server header_len payload_len bytes) (header_len + payload_len)
  pub within : header_len + payload_len ≤ length bytes
  pub masked : server ≡ true → 4 ≤ header_len
  pub meaning : op ≢ codes.Bad

-- a refusal of these bytes
pub record RefusedAt (e : ProtocolError) (dropped : ℕ) (bytes : List ℕ) (what : Parsed) : Type 0 where
  pub rule : model.ProtocolError
  pub refused : what ≡ refuses rule dropped
  pub named : e ≡ refusal rule
  pub within : dropped ≤ length bytes

-- what was found says what is taken from the front of the bytes
abbrev pub FoundSays : Bool → List ℕ → Found → Parsed → Type 0
FoundSays server bytes found.Waits what = what ≡ waits
FoundSays server bytes (found.Refuses e dropped) what = RefusedAt e dropped bytes what
FoundSays server bytes (found.Takes finished op header_len payload_len) what = LiesAt server finished op header_len payload_len bytes what

-- the number that four bytes spell in network order
abbrev pub spelled_at : List ℕ → ℕ → ℕ
spelled_at bytes at =
    ((slice_index bytes at * 256 + slice_index bytes (at + 1)) * 256 + slice_index bytes (at + 2)) * 256 + slice_index bytes (at + 3)

-- what was found of a frame with this header says what is taken
abbrev pub HeaderSays : Bool → ℕ → List ℕ → Header → Found → Type 0
HeaderSays server max_size bytes kept answer =
    (header : FrameHeader) → kept ≡ header_kept header → IsReadable server header
    → FoundSays server bytes answer (parsed_header max_size header bytes)
