-- What is answered where messages follow one another.
use Rattle.std.specs.Prelude.{◌≡◌, ⊤, ℕ, Bool, true, List, [], ◌++◌, Option, Some, None, Result, Ok, Err, IfOk, IfErr, IfSome, OnOk, unwrap_or, ◌<◌, length}
use Rattle.http_framing.specs.AnyPieces.{GoesOn, OnlySays, in_front}
use Rattle.http_map.specs.HeaderMap.{Entries}
use Rattle.http_types.specs.declared.error.ParseError.{ParseError}
use Rattle.http_types.specs.declared.error.ParseError.TheVariants as errors
use Rattle.h1_payload.specs.Decoding.{Decoding, Payload}
use Rattle.h1_payload.specs.Decoding as bodies
use Rattle.h1_payload.specs.declared.item.DecodeError.{DecodeError}
use Rattle.h1_payload.specs.declared.item.DecodeError.TheVariants.{Invalid, NoMemory}
use Rattle.h1_codec.specs.Kind.{Kind}
use Rattle.h1_decoder.specs.Refusal.{UnlessNoMemory, fault_of}
use Rattle.h1_codec.specs.Heads.{Search, HasSeen, IsNextItem, IsWaiting, RefusesNext, refused, Stops}
use Rattle.h1_codec.specs.declared.payload_type.PayloadType.{PayloadType}
use Rattle.h1_codec.specs.declared.framed_message.Message.{Message}
use Rattle.h1_codec.specs.declared.framed_message.Message.TheVariants.{Item, Chunk}
use Rattle.h1_codec.specs.declared.server_piece.Piece.{Piece}
use Rattle.h1_codec.specs.declared.server_piece.Piece.TheVariants.{Bytes, End}
use Rattle.h1_codec.specs.FramedMessages.{Messages, given, nothing, Breaks, body_of, Standing, Reads, Looked}

-- an open body that broke is broken for good, and else all stays
abbrev pub StaysAfter : Option Decoding → ParseError → Standing → Standing → Type 0
StaysAfter (Some d) errors.Chunk old new = (broken : Decoding) × (broken.is_broken ≡ true) × (new ≡ record old { body = Some broken })
StaysAfter body error old new = new ≡ old

-- After an error the bytes stay. All else stays too, but for a body that broke: it is broken for good.
abbrev pub LeftAfter : ParseError → Standing → List ℕ → Standing → List ℕ → Type 0
LeftAfter error old bytes new rest = (rest ≡ bytes) × StaysAfter old.body error old new

-- a chunk has one byte at least
abbrev pub HasBytes : {I : Type 0} → Option (Message I) → Type 0
HasBytes (Some (Chunk (Some b))) = 0 < length b
HasBytes answer = ⊤

-- after a body's end no body is open
abbrev pub HasEnded : {I : Type 0} → Option (Message I) → Standing → Type 0
HasEnded (Some (Chunk None)) new = new.body ≡ None
HasEnded answer new = ⊤

-- a head is the next one of the bytes, and its body is then open
abbrev pub IsHead : {I : Type 0} → Kind I → Bool → Standing → List ℕ → Option (Message I) → Standing → List ℕ → Type 0
IsHead k is_bare old bytes (Some (Item i)) new rest =
    Looked old bytes → (kind : PayloadType) × (new.body ≡ body_of is_bare kind) × IsNextItem k old.search.limit bytes rest (i, kind)
IsHead k is_bare old bytes answer new rest = ⊤

-- where no body is open, the error names why the next head is refused
abbrev pub IsCauseAt : {I : Type 0} → Kind I → Standing → List ℕ → ParseError → Type 0
IsCauseAt k old bytes error = old.body ≡ None → Looked old bytes → UnlessNoMemory error (RefusesNext k error old.search.limit bytes)

-- the trailers that an end brings are those that the bytes say of the body; any other item takes them away
abbrev pub HasTrailers : {I : Type 0} → Standing → List ℕ → Option Entries → Option (Message I) → Option Entries → Type 0
HasTrailers old bytes before None now = now ≡ before
HasTrailers old bytes before (Some (Item i)) now = now ≡ None
HasTrailers old bytes before (Some (Chunk (Some b))) now = now ≡ None
HasTrailers old bytes before (Some (Chunk None)) now =
    IfSome now (λ entries. 0 < length entries)
    × ((d : Decoding) (z : List ℕ) (p : Payload) → old.body ≡ Some d → bodies.Reads d (bytes ++ z) p → unwrap_or now [] ≡ p.trailers)

-- all that is promised of an answer
pub record IsNexted {I : Type 0} (k : Kind I) (is_bare : Bool) (old : Standing) (bytes : List ℕ) (before : Option Entries)
    (result : Result (Option (Message I)) ParseError) (new : Standing) (rest : List ℕ) (now : Option Entries) : Type 0 where
  pub goes_on : IfOk result (λ answer. GoesOn (Reads k is_bare) given old bytes (in_front (Reads k is_bare) given answer) new rest)
  pub waiting : result ≡ Ok None → Looked old bytes → OnlySays (Reads k is_bare) old bytes (λ (said : Messages I). said ≡ nothing)
  pub refusing : IfErr result (λ e. ¬ (e ≡ errors.NoMemory) → Looked old bytes → OnlySays (Reads k is_bare) old bytes (Breaks e))
  pub lacking : IfErr result (λ e. e ≡ errors.NoMemory → (new ≡ old) × (rest ≡ bytes))
  pub left : IfErr result (λ e. LeftAfter e old bytes new rest)
  pub cause : IfErr result (IsCauseAt k old bytes)
  pub item : IfOk result (λ answer. IsHead k is_bare old bytes answer new rest)
  pub some : IfOk result HasBytes
  pub ended : IfOk result (λ answer. HasEnded answer new)
  pub looked : OnOk result (Looked old bytes → (more : List ℕ) → Looked new (rest ++ more))
  pub trailers : IfOk result (λ answer. HasTrailers old bytes before answer now)
  pub kept : IfErr result (λ e. now ≡ before)
  pub limit : new.search.limit ≡ old.search.limit

-- a piece of the open body as a message's item, and what is then open
abbrev pub IsNoted : {I : Type 0} → Result (Option Piece) DecodeError → Option Decoding → Option Entries
    → Result (Option (Message I)) ParseError → Option Decoding → Option Entries → Type 0
IsNoted (Ok (Some (Bytes b))) body before result after now = (result ≡ Ok (Some (Chunk (Some b)))) × (after ≡ body) × (now ≡ None)
IsNoted (Ok (Some (End trailers))) body before result after now = (result ≡ Ok (Some (Chunk None))) × (after ≡ None) × (now ≡ trailers)
IsNoted (Ok None) body before result after now = (result ≡ Ok None) × (after ≡ body) × (now ≡ before)
IsNoted (Err Invalid) body before result after now = (result ≡ Err errors.Chunk) × (after ≡ body) × (now ≡ before)
IsNoted (Err NoMemory) body before result after now = (result ≡ Err errors.NoMemory) × (after ≡ body) × (now ≡ before)

-- a head as an item of a message
abbrev pub as_message : {I : Type 0} → Result (Option I) ParseError → Result (Option (Message I)) ParseError
as_message (Ok (Some item)) = Ok (Some (Item item))
as_message (Ok None) = Ok None
as_message (Err e) = Err e

-- the next head with its body, none yet, or why it is refused
abbrev pub IsHeadGiven : {I : Type 0} → Kind I → Bool → Search → List ℕ → Result (Option I) ParseError → Search → Option Decoding → List ℕ → Type 0
IsHeadGiven k is_bare old bytes (Ok (Some item)) new body rest =
    (kind : PayloadType) × (body ≡ body_of is_bare kind) × (HasSeen old bytes → IsNextItem k old.limit bytes rest (item, kind))
    × ((b : List ℕ) → HasSeen new b)
IsHeadGiven k is_bare old bytes (Ok None) new body rest =
    (HasSeen old bytes → IsWaiting old.limit bytes) × (HasSeen old bytes → (more : List ℕ) → HasSeen new (bytes ++ more)) × (rest ≡ bytes)
IsHeadGiven k is_bare old bytes (Err e) new body rest =
    (HasSeen old bytes → UnlessNoMemory e (RefusesNext k e old.limit bytes))
    × (HasSeen old bytes → UnlessNoMemory e (Stops k old.limit bytes (refused (fault_of e)))) × (new ≡ old) × (rest ≡ bytes)

-- trailers go with a head, and else all that is beside it stays
abbrev pub IsHeadBeside : {I : Type 0} → Result (Option I) ParseError → Option Decoding → Option Entries → Option Decoding → Option Entries → Type 0
IsHeadBeside (Ok (Some item)) was before body now = now ≡ None
IsHeadBeside (Ok None) was before body now = (body ≡ was) × (now ≡ before)
IsHeadBeside (Err e) was before body now = (body ≡ was) × (now ≡ before)
