-- The answer that a forwarder reads from a server, and what it replies to its client (RFC 7230, sections 3.3.3, 5.7 and 6).
use Rattle.std.specs.Prelude.{◌≡◌, ℕ, ◌-◌, Bool, true, false, ◌||◌, List, [], ◌∷◌, ◌++◌, length, codes, nat_le, ◌==◌, if◌then◌else◌, Option, Some, None, unwrap_or}
use Rattle.std.specs.Str.{is_utf8}
use Rattle.model_h1.specs.Runs.{run_bytes}
use Rattle.model_h1.specs.Request.{Header, ConnectionType, close, BodyKind, fixed_body, chunked_body, raw_body}
use Rattle.model_h1.specs.LengthTable.{values_of, stated_length}
use Rattle.model_h1.specs.Answer.{AnswerHead, BodySize, size_none, size_of, size_stream}
use Rattle.model_h1.specs.AnswerText.{by_name}
use Rattle.model_h1.specs.Parse.{Body, content, Stop, ended_at, still_open, broken, cut, next_start}
use Rattle.model_client.specs.AnswerReading.{Answer, AnswerReading, answer_is, refused}
use Rattle.model_client.specs.AnswerParse.{Received, AnswerMessage, is_interim, AreAnswersIn}
use Rattle.model_client.specs.WrittenHead.{line_of}
use Rattle.model_proxy.specs.Edge.{via}
use Rattle.model_proxy.specs.HopNames.{hop_names, connection_words, is_among, without}

-- ---- what is read

-- The answer isn't whole yet; it is, and ends at this place; or it can't become one.
pub data Fate : Type 0 where
  unfinished bad : Fate
  whole_at : ℕ → Fate

-- the head of the answer, if one was read; the bytes of its body that came; and what becomes of it
pub record Found : Type 0 where
  pub response : Option Answer
  pub bytes : List ℕ
  pub fate : Fate

-- no head will come: the input has ended, or as many bytes came as may be held
abbrev pub is_given_up : Received → ℕ → Option ℕ → Bool
is_given_up r place None = r.ended
is_given_up r place (Some size) = r.ended || nat_le size (length r.bytes - place)

-- no head is whole yet
abbrev pub found_nothing : Received → ℕ → Found
found_nothing r place =
    record { response = None; bytes = []; fate = if is_given_up r place r.hold_size then bad else unfinished }

-- a head that a forwarder doesn't pass on
abbrev pub found_bad : Found
found_bad = record { response = None; bytes = []; fate = bad }

-- a body that ends too early is as bad as a broken one
abbrev pub fate_of : Stop → Fate
fate_of (ended_at place trailers) = whole_at place
fate_of still_open = unfinished
fate_of broken = bad
fate_of cut = bad

-- a head and what came of its body
abbrev pub found_body : Received → Answer → Body → Found
found_body r a (content runs stop) = record { response = Some a; bytes = run_bytes r.bytes runs; fate = fate_of stop }
found_body r a _ = found_bad

-- The answer of a head, with what its body says, or with what is found behind it where it is an interim one: that is passed over. A
-- 101 and a head that only the second reading takes are bad, and so is one that is refused.
abbrev pub found_by : Received → AnswerReading → Body → Found → Found
found_by r (refused fault) body later = found_bad
found_by r (answer_is a) body later =
    if a.is_lax || (a.status == 101) then found_bad else (if is_interim a.status then later else found_body r a body)

-- the answer, of all heads from the place on
abbrev pub found_from : Received → ℕ → List AnswerMessage → Found
found_from r place [] = found_nothing r place
found_from r place (m ∷ ms) = found_by r m.reading m.body (found_from r (unwrap_or (next_start m.body) place) ms)

-- what was received since the request of this method was sent is this answer
abbrev pub IsAnswer : Received → List ℕ → Found → Type 0
IsAnswer r method found = (ms : List AnswerMessage) × AreAnswersIn is_interim r (method ∷ []) ms × (found ≡ found_from r 0 ms)

-- the server closes its connection after this answer: by its type, or by a word of any Connection line
abbrev pub says_close : Answer → Bool
says_close a = is_close a.connection || is_among (codes "close") (connection_words a.headers)
  where
    is_close : ConnectionType → Bool
    is_close close = true
    is_close _ = false

-- ---- what is replied

-- The lines that are passed on, and behind them who passes the answer on, name by name, as they are written; a 304 has no body, and may tell the
-- length of one (section 3.3.2).
abbrev pub reply_lines : ℕ → ℕ → List Header → List Header
reply_lines minor status headers =
    by_name (without (hop_names headers ++ (if status == 304 then [] else codes "content-length" ∷ [])) headers
    ++ line_of (codes "via") (via minor) ∷ [])

-- the reason is the answer's own, empty where it had none; text that isn't UTF-8 is left out
abbrev pub reply_reason : List ℕ → List ℕ
reply_reason reason = if is_utf8 reason then reason else []

-- the head that the client gets
abbrev pub reply_head : Answer → AnswerHead
reply_head a = record {
  status = a.status;
  reason = Some (reply_reason a.reason);
  closes = false;
  keeps_alive = false;
  upgrades = false;
  no_chunking = false;
  in_camel_case = false;
  headers = reply_lines a.minor a.status a.headers;
}

-- the size of a reply without a length: by the status alone, or not known
abbrev pub open_size : ℕ → BodyKind → BodySize
open_size status chunked_body = size_stream
open_size status raw_body = size_stream
open_size status _ = if (status == 204) || (status == 304) then size_none else size_of 0

-- an answer to HEAD may state the length of what isn't sent
abbrev pub head_size : Option ℕ → ℕ → BodyKind → BodySize
head_size (Some n) status kind = size_of n
head_size None status kind = open_size status kind

-- how large the reply is, to HEAD or to another method
abbrev pub reply_size : Bool → Answer → BodySize
reply_size is_head a = size_by a.body
  where
    size_by : BodyKind → BodySize
    size_by (fixed_body n) = size_of n
    size_by kind =
        if is_head then head_size (stated_length (values_of (codes "content-length") a.headers)) a.status kind
        else open_size a.status kind

-- a reply of the forwarder's own is empty, and nobody passed it on
abbrev pub own_head : ℕ → AnswerHead
own_head status = record {
  status = status;
  reason = None;
  closes = false;
  keeps_alive = false;
  upgrades = false;
  no_chunking = false;
  in_camel_case = false;
  headers = [];
}

-- that of a head that is refused closes the connection
abbrev pub refusal_head : AnswerHead
refusal_head = record {
  status = 400;
  reason = None;
  closes = true;
  keeps_alive = false;
  upgrades = false;
  no_chunking = false;
  in_camel_case = false;
  headers = [];
}
