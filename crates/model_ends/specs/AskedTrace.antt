-- The requests that a client sent, by all that happened to it, and what a server hands out of them.
use Rattle.std.specs.Prelude.{◌≡◌, ℕ, ◌<◌, ◌≤◌, ◌^◌, Bool, true, false, List, [], ◌∷◌, ◌++◌, length, map, take, flat_map, nat_le, if◌then◌else◌, ⊤}
use Rattle.std.specs.List.{AllByRecursion}
use Rattle.model_h1.specs.Request.{head_is}
use Rattle.model_h1.specs.Answer.{BodySize, size_of, Shape, shape_length, shape_chunked}
use Rattle.model_h1.specs.AnswerText.{chunk_text, last_chunk}
use Rattle.model_h1.specs.Limits.{MAX_HEADER_LINES}
use Rattle.model_h1.specs.Handed.{item_bytes, Handed}
use Rattle.model_client.specs.RequestText.{asked_shape, IsPlainRequest, joined, RequestGiven, given_request_text, given_request_lines, fits}
use Rattle.model_client.specs.ClientEvent as on
use Rattle.model_client.specs.ClientEvent.{ClientRequest, ClientEvent}
use Rattle.model_client.specs.ClientTrace.{Happened, now_of}
use Rattle.model_ends.specs.PlainExchange.{carried_by}
use Rattle.model_ends.specs.SentRequest.{sent_request}
use Rattle.model_ends.specs.HandedBody.{IsHandedBody}

-- a request with the pieces of its body that came, and whether its body was ended
pub record AskedRequest : Type 0 where
  pub given : RequestGiven
  pub is_ended : Bool

-- a request that was just asked, at a moment
abbrev pub newly_asked : ClientRequest → BodySize → ℕ → AskedRequest
newly_asked r size now = record {
  given = record { head = r.head; size = size; kind = r.connection; moment = now; pieces = [] };
  is_ended = false;
}

abbrev pub with_piece : List ℕ → AskedRequest → AskedRequest
with_piece bytes a = record a { given = record a.given { pieces = a.given.pieces ++ bytes ∷ [] } }

-- what is done with the newest
abbrev pub of_newest : (AskedRequest → AskedRequest) → List AskedRequest → List AskedRequest
of_newest change [] = []
of_newest change (a ∷ before) = change a ∷ before

-- the requests after an event
abbrev pub asked_behind : ClientEvent → ℕ → List AskedRequest → List AskedRequest
asked_behind (on.ask r size) now before = newly_asked r size now ∷ before
asked_behind (on.chunk bytes) now before = of_newest (with_piece bytes) before
asked_behind on.body_end now before = of_newest (λ a. record a { is_ended = true }) before
asked_behind _ now before = before

-- the requests of all that happened, the newest first
unfoldable pub requests_asked : List Happened → List AskedRequest
requests_asked [] = []
requests_asked (s ∷ before) = asked_behind s.event (now_of before) (requests_asked before)

-- ---- what was sent of them

-- all of a body of this shape came: the bytes of its length, or its end
abbrev pub is_all : Shape → AskedRequest → Bool
is_all (shape_length n) a = nat_le n (length (joined a.given.pieces))
is_all shape_chunked a = a.is_ended
is_all _ a = true

-- all of the request was sent, or it is still under way
abbrev pub is_all_asked : AskedRequest → Bool
is_all_asked a = is_all (asked_shape a.given.size) a

-- the bytes that its body carries so far
abbrev pub carried_so_far : AskedRequest → List ℕ
carried_so_far a = carried_by (asked_shape a.given.size) a.given.pieces

-- the text of its body so far
abbrev pub body_so_far : Shape → AskedRequest → List ℕ
body_so_far (shape_length n) a = take n (joined a.given.pieces)
body_so_far shape_chunked a = flat_map chunk_text a.given.pieces ++ (if a.is_ended then last_chunk else [])
body_so_far _ a = []

-- The request is plain: so is its head, which has at most 96 lines and no more bytes than a server holds, a stated length is
-- below 2 ^ 64, its pieces have no more bytes than that together, and each has fewer than 2 ^ 64. Its body may still be
-- under way.
pub record IsPlainAsked (hold_size : ℕ) (a : AskedRequest) : Type 0 where
  pub head : IsPlainRequest a.given.head (asked_shape a.given.size) a.given.size a.given.kind a.given.moment
  pub fits : fits a.given.size
  pub within : (n : ℕ) → a.given.size ≡ size_of n → length (joined a.given.pieces) ≤ n
  pub short : AllByRecursion (λ (piece : List ℕ). length piece < 2 ^ 64) a.given.pieces
  pub few : length (given_request_lines a.given) ≤ MAX_HEADER_LINES
  pub held : length (given_request_text a.given) ≤ hold_size

-- ---- what a server hands out of them

-- a request is handed out as it was sent: its head, and its body as far as it came
pub record IsServedOut (has_ended : Bool) (h : Handed) (a : AskedRequest) : Type 0 where
  pub reading : h.reading ≡ head_is (sent_request a.given).says
  pub body : IsHandedBody has_ended (is_all_asked a) (carried_so_far a) h.items

-- so are the first of them, in their order
abbrev pub AreServedOut : Bool → List Handed → List AskedRequest → Type 0
AreServedOut has_ended [] rs = ⊤
AreServedOut has_ended (h ∷ hs) [] = ⊥
AreServedOut has_ended (h ∷ hs) (r ∷ rs) = IsServedOut has_ended h r × AreServedOut has_ended hs rs

-- The newest request that was handed out is the last that was asked, and its end wasn't sent yet; all bytes of its body that
-- were are handed out.
pub record IsAllServed (hs : List Handed) (rs : List AskedRequest) : Type 0 where
  pub newest : Handed
  pub older : List Handed
  pub handed_are : hs ≡ newest ∷ older
  pub last : AskedRequest
  pub before : List AskedRequest
  pub asked_are : rs ≡ last ∷ before
  pub as_many : length before ≡ length older
  pub pieces : List (List ℕ)
  pub items : newest.items ≡ map item_bytes pieces
  pub all : joined pieces ≡ carried_so_far last
  pub part : is_all_asked last ≡ false
