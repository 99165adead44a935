-- The parse of all bytes taken: messages one after another, each a head and its body (RFC 7230, section 3).
use Rattle.std.specs.Prelude.{◌≡◌, ℕ, ◌+◌, Bool, true, false, List, [], ◌∷◌, length, drop, map, nat_lt, nat_le, if◌then◌else◌, Option, Some, None, slice_range, MatchOption}
use Rattle.model_h1.specs.HeadPiece.{IsHeadPiece, HasNoHeadPiece}
use Rattle.model_h1.specs.Request.{Header, BodyKind, no_body, fixed_body, chunked_body, raw_body, Reading, head_is, faulty}
use Rattle.model_h1.specs.RequestHead.{IsReadingWithin}
use Rattle.httparse.specs.Grammar.{trim_ows}
use Rattle.http_header.specs.Token.{lowercase}
use Rattle.model_h1.specs.ChunkedText.{Trailer}
use Rattle.model_h1.specs.Runs.{Run}
use Rattle.model_h1.specs.Chunked.{Chunked, whole, unfinished, not_chunked, IsChunked}
use Rattle.model_h1.specs.Frame.{ProtocolError}
use Rattle.model_h1.specs.FrameText.{Reader, at_length, PlacedFrame, ReadsFrames}

-- All bytes taken, whether the input has ended, and how many bytes a connection may hold. On a connection
-- that speaks WebSocket, how many bytes a frame's payload may have.
pub record Input : Type 0 where
  pub bytes : List ℕ
  pub upgraded : Option ℕ
  pub ended : Bool
  pub hold_size : ℕ

-- How a body stops: it has ended at a place, with trailers if it has some; it may go on; it breaks the
-- grammar of chunks; or the input ended inside it.
pub data Stop : Type 0 where
  ended_at : ℕ → List Header → Stop
  still_open broken cut : Stop

-- what follows a head: nothing behind a faulty one, the places of the body's bytes, or frames
pub data Body : Type 0 where
  no_content : Body
  content : List Run → Stop → Body
  frames : List PlacedFrame → Option ProtocolError → Body

-- the place behind the head's piece is body_start
pub record Message : Type 0 where
  pub reading : Reading
  pub body_start : ℕ
  pub body : Body

-- the bytes of the run, if there are some
abbrev pub run_between : ℕ → ℕ → List Run
run_between start end = if nat_lt start end then record { start = start; end = end } ∷ [] else []

-- what an unfinished body is where the input has ended
abbrev pub open_or_cut : Bool → Stop
open_or_cut ended = if ended then cut else still_open

-- n bytes, or as many of them as are there
abbrev pub fixed_content : Input → ℕ → ℕ → Body
fixed_content i place n =
    if nat_le (place + n) (length i.bytes) then content (run_between place (place + n)) (ended_at (place + n) [])
    else content (run_between place (length i.bytes)) (open_or_cut i.ended)

-- all bytes from the place on
abbrev pub raw_content : Input → ℕ → Body
raw_content i place =
    content (run_between place (length i.bytes)) (if i.ended then ended_at (length i.bytes) [] else still_open)

-- the runs of a body that begins at the place
abbrev pub shifted : ℕ → List Run → List Run
shifted place runs = map (λ r. record { start = place + r.start; end = place + r.end }) runs

-- a trailer line as a header: its name in lower case, and its value without the white space around it
abbrev pub trailer_header : Trailer → Header
trailer_header t = record { name = lowercase t.name; value = trim_ows t.value }

-- how a body in chunks stops
abbrev pub chunked_stop : Input → ℕ → Chunked → Stop
chunked_stop i place (whole k trailers) = ended_at (place + k) (map trailer_header trailers)
chunked_stop i place unfinished = open_or_cut i.ended
chunked_stop i place not_chunked = broken

-- a connection is a server
abbrev pub connection_reader : ℕ → Reader
connection_reader limit = record { wants_mask = true; max_payload = limit; judges_size = at_length }

-- the body of this kind that begins at the place; once upgraded, a raw body is frames
abbrev pub IsBodyOf : Input → BodyKind → ℕ → Body → Type 0
IsBodyOf i no_body place body = body ≡ content [] (ended_at place [])
IsBodyOf i (fixed_body n) place body = body ≡ fixed_content i place n
IsBodyOf i chunked_body place body =
    (chunked : Chunked) × (runs : List Run) × IsChunked (drop place i.bytes) chunked runs
    × (body ≡ content (shifted place runs) (chunked_stop i place chunked))
IsBodyOf i raw_body place body = IsRawBody i i.upgraded place body
  where
    IsRawBody : Input → Option ℕ → ℕ → Body → Type 0
    IsRawBody i None place body = body ≡ raw_content i place
    IsRawBody i (Some limit) place body =
        (placed : List PlacedFrame) × (fail : Option ProtocolError)
        × ReadsFrames (connection_reader limit) false place i.bytes placed fail × (body ≡ frames placed fail)

-- a head that was refused has no body
abbrev pub IsBodyAfter : Input → Reading → ℕ → Body → Type 0
IsBodyAfter i (faulty fault) place body = body ≡ no_content
IsBodyAfter i (head_is h) place body = IsBodyOf i h.body place body

-- where the next message starts: only behind a body that has ended
abbrev pub next_start : Body → Option ℕ
next_start (content runs (ended_at place trailers)) = Some place
next_start _ = None

abbrev pub runs_of : Body → List Run
runs_of (content runs stop) = runs
runs_of _ = []

abbrev pub frames_of : Body → List PlacedFrame
frames_of (frames placed fail) = placed
frames_of _ = []

abbrev pub fail_of : Body → Option ProtocolError
fail_of (frames placed fail) = fail
fail_of _ = None

-- the message at the place
pub record IsMessageAt (i : Input) (place : ℕ) (m : Message) : Type 0 where
  pub start : ℕ
  pub end : ℕ
  pub piece : IsHeadPiece (drop place i.bytes) start end
  pub body_start : m.body_start ≡ place + end
  pub reading : IsReadingWithin i.hold_size (slice_range (drop place i.bytes) start end) m.reading
  pub body : IsBodyAfter i m.reading m.body_start m.body

-- the messages from the place on, as far as the bytes reach
abbrev pub AreMessages : Input → ℕ → List Message → Type 0
AreMessages i place [] = HasNoHeadPiece (drop place i.bytes)
AreMessages i place (m ∷ ms) = IsMessageAt i place m × MatchOption (next_start m.body) (ms ≡ []) (λ next. AreMessages i next ms)

-- the messages of all bytes
abbrev pub IsParse : Input → List Message → Type 0
IsParse i messages = AreMessages i 0 messages
