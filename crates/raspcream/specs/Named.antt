-- The heads and the messages that C names.
use Rattle.std.specs.Prelude.{◌≡◌, ◌⊎◌, ◌<◌, ℕ, ◌/◌, ◌%◌, ◌==◌, List, false, None, map, if◌then◌else◌, IsUtf8}
use Rattle.http.specs.declared.version.Version.{Version}
use Rattle.http.specs.declared.version.TheConstants.Version.{HTTP_10, HTTP_11}
use Rattle.http_header.specs.Token.{IsToken}
use Rattle.http_uri.specs.declared.uri.Uri.{Uri}
use Rattle.http_uri.specs.Uri.{Spells}
use Rattle.http_framing.specs.HeaderLines.{Line, line_header, header_map}
use Rattle.http_types.specs.Flags.{no_flags, with_type}
use Rattle.http_types.specs.declared.message.ConnectionType.TheVariants.{Close, KeepAlive, Upgrade}
use Rattle.http_types.specs.declared.message.Flags.{Flags}
use Rattle.h1_encoder.specs.Meaning.{headers_of}
use Rattle.h1_encoder.specs.RequestMeaning.{target_of}
use Rattle.model_h1.specs.Answer.{AnswerHead}
use Rattle.model_h1.specs.Request as model
use Rattle.model_client.specs.ClientEvent.{ClientRequest}
use Rattle.raspcream.specs.Packed.{IsPair, Packs, AreNoLines}

-- ---- what becomes of the connection

-- the marks behind those that a head has: 1 closes, 2 keeps it alive, 3 upgrades
abbrev pub flags_with : ℕ → Flags → Flags
flags_with keep flags =
    if keep == 1 then with_type flags Close
    else (if keep == 2 then with_type flags KeepAlive else (if keep == 3 then with_type flags Upgrade else flags))

-- what that asks of the connection, and without a mark what the version does
abbrev pub type_said : ℕ → ℕ → model.ConnectionType
type_said keep older =
    if keep == 1 then model.close
    else (if keep == 2 then model.keep_alive
    else (if keep == 3 then model.upgrade else (if older == 1 then model.close else model.keep_alive)))

abbrev pub version_said : ℕ → Version
version_said older = if older == 1 then HTTP_10 else HTTP_11

-- ---- heads

-- An answer's head: its status in the lowest ten bits of the argument, and in two bits above them what becomes of the
-- connection.
pub record NamesAnswer (arg : ℕ) (packed : List ℕ) (head : AnswerHead) : Type 0 where
  pub status : head.status ≡ arg % 1024
  pub closes : head.closes ≡ (flags_with ((arg / 1024) % 4) no_flags).close
  pub keeps_alive : head.keeps_alive ≡ (flags_with ((arg / 1024) % 4) no_flags).keep_alive
  pub upgrades : head.upgrades ≡ (flags_with ((arg / 1024) % 4) no_flags).upgrade
  pub reason : head.reason ≡ None
  pub chunked : head.no_chunking ≡ false
  pub plain : head.in_camel_case ≡ false
  pub lines : List Line
  pub packs : Packs packed lines
  pub headers : head.headers ≡ headers_of (header_map (map line_header lines))

-- no answer has such a status, or the text isn't lines
abbrev pub IsNoAnswer : ℕ → List ℕ → Type 0
IsNoAnswer arg packed = ((arg % 1024 < 100) ⊎ (999 < arg % 1024)) ⊎ AreNoLines packed

-- A request's: the first pair is its method and its target, the others are lines. The lowest bit of the argument says that
-- it is of HTTP/1.0, and two bits above the lowest ten what becomes of the connection.
pub record NamesRequest (arg : ℕ) (packed : List ℕ) (request : ClientRequest) : Type 0 where
  pub method : List ℕ
  pub target : List ℕ
  pub rest : List ℕ
  pub pair : IsPair packed method target rest
  pub uri : Uri
  pub spells : Spells target uri
  pub lines : List Line
  pub packs : Packs rest lines
  pub method_is : request.head.method ≡ method
  pub target_is : request.head.target ≡ target_of uri
  pub minor : request.head.minor ≡ (if (arg % 2) == 1 then 0 else 1)
  pub plain : request.head.in_camel_case ≡ false
  pub headers : request.head.headers ≡ headers_of (header_map (map line_header lines))
  pub connection : request.connection ≡ type_said ((arg / 1024) % 4) (arg % 2)

-- the text is a method, a target and lines
pub record IsRequestText (packed : List ℕ) : Type 0 where
  pub method : List ℕ
  pub target : List ℕ
  pub rest : List ℕ
  pub pair : IsPair packed method target rest
  pub token : IsToken method
  pub uri : Uri
  pub spells : Spells target uri
  pub lines : List Line
  pub packs : Packs rest lines

-- ---- messages

-- bytes without a rule of their own: of an opcode but those of a whole text and of a Close
abbrev pub IsPlainOpcode : ℕ → Type 0
IsPlainOpcode opcode =
    (opcode ≡ 0) ⊎ ((opcode ≡ 2) ⊎ ((opcode ≡ 9) ⊎ ((opcode ≡ 10) ⊎ ((opcode ≡ 16) ⊎ ((opcode ≡ 17) ⊎ (opcode ≡ 18))))))

-- a Close without a reason, or one with a code of 16 bits and a text
abbrev pub IsCloseText : ℕ → List ℕ → Type 0
IsCloseText code input = (code ≡ 0) ⊎ ((code < 65536) × IsUtf8 input)

abbrev pub IsSendable : ℕ → ℕ → List ℕ → Type 0
IsSendable opcode code input =
    ((opcode ≡ 1) × IsUtf8 input) ⊎ (((opcode ≡ 8) × IsCloseText code input) ⊎ IsPlainOpcode opcode)
