-- What is kept of a head's lines while they are read, against the lines themselves.
use Rattle.std.specs.Prelude.{◌≡◌, ℕ, Bool, true, false, ◌&&◌, ◌==◌, List, [], ◌∷◌, codes, bytes_eq, Option, Some, None, option_map, is_none, if◌then◌else◌}
use Rattle.httparse.specs.Grammar.{trim_ows}
use Rattle.http_types.specs.declared.message.ConnectionType.{ConnectionType}
use Rattle.http_types.specs.declared.message.ConnectionType.TheVariants.{Close}
use Rattle.http_types.specs.declared.message.Flags.{Flags}
use Rattle.http_types.specs.Flags.{no_flags, with_type}
use Rattle.h1_decoder.specs.HeadItem.{connection_type_of}
use Rattle.h1_decoder.specs.declared.framing.Framing.{Framing}
use Rattle.h1_decoder.specs.declared.framing.Lengths.{Lengths}
use Rattle.h1_decoder.specs.declared.framing.Lengths.TheVariants as lengths
use Rattle.h1_decoder.specs.declared.framing.Codings.{Codings}
use Rattle.h1_decoder.specs.declared.framing.Codings.TheVariants as codings
use Rattle.h1_decoder.specs.declared.framing.Subject.{Subject}
use Rattle.h1_decoder.specs.declared.framing.Subject.TheVariants.{Length, Coding, Connection, Upgrade, Expect}
use Rattle.model_h1.specs.LengthTable.{values_of, length_value, says, asks_websocket, asked_type, expects_continue, plain_body}
use Rattle.model_h1.specs.Request.{Header, BodyKind, no_body, chunked_body, raw_body}
use Rattle.model_client.specs.AnswerTable.{has_no_content, stated_body}

-- what one Content-Length line states
abbrev pub stated_by : Option ℕ → Lengths
stated_by None = lengths.Refused
stated_by (Some n) = lengths.Length n

-- what the Content-Length lines with these values state
abbrev pub stated : List (List ℕ) → Lengths
stated [] = lengths.Absent
stated (value ∷ []) = stated_by (length_value (trim_ows value))
stated (value ∷ second ∷ more) = lengths.Refused

-- what one Transfer-Encoding line says
abbrev pub coded_by : Bool → Bool → Codings
coded_by chunked identity = if chunked then codings.Chunked else (if identity then codings.Identity else codings.Refused)

-- what the Transfer-Encoding lines with these values say
abbrev pub coded : List (List ℕ) → Codings
coded [] = codings.Absent
coded (value ∷ []) = coded_by (says value (codes "chunked")) (says value (codes "identity"))
coded (value ∷ second ∷ more) = codings.Refused

-- what is kept is what the lines say
pub record TellsLines (kept : Framing) (headers : List Header) : Type 0 where
  pub length_lines : kept.lengths ≡ stated (values_of (codes "content-length") headers)
  pub coding_lines : kept.codings ≡ coded (values_of (codes "transfer-encoding") headers)
  pub connection_lines : kept.connection ≡ option_map connection_type_of (asked_type headers)
  pub upgrade_lines : kept.websocket ≡ asks_websocket headers
  pub expect_lines : kept.expects ≡ expects_continue headers

-- what a line with this name, in lower case, is on
unfoldable pub subject_of : List ℕ → Option Subject
subject_of name =
    if bytes_eq name (codes "content-length") then Some Length
    else if bytes_eq name (codes "transfer-encoding") then Some Coding
    else if bytes_eq name (codes "connection") then Some Connection
    else if bytes_eq name (codes "upgrade") then Some Upgrade
    else if bytes_eq name (codes "expect") then Some Expect
    else None

-- the number that is stated, if there is one
abbrev pub length_of : Lengths → Option ℕ
length_of lengths.Absent = None
length_of (lengths.Length n) = Some n
length_of lengths.Refused = None

-- the body of a request without chunks that asks for no WebSocket: an HTTP/1.0 POST needs a length
abbrev pub kind_of_length : Option ℕ → ℕ → List ℕ → Option BodyKind
kind_of_length None minor method = if (minor == 0) && bytes_eq method (codes "POST") then None else Some (plain_body method 0)
kind_of_length (Some n) minor method = Some (plain_body method n)

-- the body of a request whose lengths aren't refused, by its codings
abbrev pub kind_of_coding : Codings → Bool → Option ℕ → ℕ → List ℕ → Option BodyKind
kind_of_coding codings.Refused websocket length minor method = None
kind_of_coding codings.Identity websocket length minor method = None
kind_of_coding codings.Chunked websocket length minor method = if (minor == 1) && is_none length then Some chunked_body else None
kind_of_coding codings.Absent websocket length minor method = if websocket then Some raw_body else kind_of_length length minor method

-- the body of a request, by what is kept of its lines
abbrev pub kind_by : Lengths → Codings → Bool → ℕ → List ℕ → Option BodyKind
kind_by lengths.Refused codings websocket minor method = None
kind_by lengths codings websocket minor method = kind_of_coding codings websocket (length_of lengths) minor method

abbrev pub kind_of_lines : Framing → ℕ → List ℕ → Option BodyKind
kind_of_lines kept minor method = kind_by kept.lengths kept.codings kept.websocket minor method

-- the marks that ask for a type, if one is named, and for leave to send the body
abbrev pub flags_by : Option ConnectionType → Bool → Flags
flags_by None expects = record no_flags { expect = expects }
flags_by (Some type) expects = record (with_type no_flags type) { expect = expects }

-- ---- answers

-- whether the body of an answer comes in chunks, or none where its codings are refused: HTTP/1.0 passes over them
abbrev pub chunks_of : Codings → Option Bool
chunks_of codings.Absent = Some false
chunks_of codings.Identity = Some false
chunks_of codings.Chunked = Some true
chunks_of codings.Refused = None

abbrev pub chunks_by : ℕ → Codings → Option Bool
chunks_by minor codings = if minor == 1 then chunks_of codings else Some false

-- where the body of an answer ends whose lines aren't refused
abbrev pub kind_of_answer : ℕ → Bool → Option ℕ → BodyKind
kind_of_answer status in_chunks length =
    if has_no_content status then no_body
    else (if status == 101 then raw_body else (if in_chunks then chunked_body else stated_body length))

-- the body of an answer, by what is kept of its lines
abbrev pub answer_kind_by : Lengths → Codings → ℕ → ℕ → Option BodyKind
answer_kind_by lengths.Refused codings minor status = None
answer_kind_by lengths codings minor status =
    option_map (λ in_chunks. kind_of_answer status in_chunks (length_of lengths)) (chunks_by minor codings)

abbrev pub answer_kind_of : Framing → ℕ → ℕ → Option BodyKind
answer_kind_of kept minor status = answer_kind_by kept.lengths kept.codings minor status

-- the marks of the type that was asked for, and of Close
abbrev pub answer_flags_by : Option ConnectionType → Bool → Flags
answer_flags_by None closes = if closes then with_type no_flags Close else no_flags
answer_flags_by (Some type) closes = if closes then with_type (with_type no_flags type) Close else with_type no_flags type
