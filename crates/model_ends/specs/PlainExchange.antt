-- Exchanges in which two ends agree: plain requests, and answers that say where they end (RFC 7230, section 3.3.3).
use Rattle.std.specs.Prelude.{◌≡◌, ◌⊎◌, ℕ, ◌<◌, ◌≤◌, ◌^◌, Bool, true, false, ◌||◌, List, [], length, take, codes, bytes_eq, nat_le, if◌then◌else◌, ⊤}
use Rattle.std.specs.List.{AllByRecursion}
use Rattle.model_h1.specs.Request.{Header, Head, Fault}
use Rattle.model_h1.specs.Limits.{MAX_HEADER_LINES}
use Rattle.model_h1.specs.Setting.{Setting}
use Rattle.model_h1.specs.Answer.{asked_of, size_none, size_of, Shape, shape_none, shape_length, shape_chunked, shape_raw, shape_of, type_of, is_bodiless, is_raw}
use Rattle.model_h1.specs.Text.{answer_head_text}
use Rattle.model_h1.specs.Event as on
use Rattle.model_h1.specs.End as ends
use Rattle.model_h1.specs.Sums.{Step}
use Rattle.model_h1.specs.Trace.{IsTrace}
use Rattle.model_h1.specs.Laws.Exchanges.{AnswerGiven, Reply, answer_given, session, Exchange, exchanges}
use Rattle.model_client.specs.AnswerTable.{is_answer_refused}
use Rattle.model_client.specs.WrittenHead.{written_lines, written_reason, IsReadBack}
use Rattle.model_client.specs.RequestText.{joined}

-- how the body of an answer to this request goes out
abbrev pub given_shape : Head → AnswerGiven → Shape
given_shape h a = shape_of (asked_of h) a.answered.head a.answered.size

-- the lines of its head
abbrev pub given_lines : Setting → Head → AnswerGiven → List Header
given_lines setting h a =
    written_lines h.minor a.answered.head (given_shape h a) a.answered.size
    (type_of setting a.answered.drained (asked_of h) a.answered.head a.answered.size) a.moment

-- the text of its head
abbrev pub given_head_text : Setting → Head → AnswerGiven → List ℕ
given_head_text setting h a = answer_head_text setting a.answered.drained (asked_of h) a.answered.head a.answered.size a.moment

-- the bytes that a body of this shape carries
abbrev pub carried_by : Shape → List (List ℕ) → List ℕ
carried_by (shape_length n) pieces = take n (joined pieces)
carried_by shape_chunked pieces = joined pieces
carried_by _ pieces = []

-- the bytes that the answer carries: none after HEAD
abbrev pub carried : Head → AnswerGiven → List ℕ
carried h a = if bytes_eq h.method (codes "HEAD") then [] else carried_by (given_shape h a) a.pieces

-- all of a body of this shape came: the bytes of its length, or its end
abbrev pub is_full : Shape → AnswerGiven → Bool
is_full shape_none a = true
is_full (shape_length n) a = nat_le n (length (joined a.pieces))
is_full shape_chunked a = a.is_ended
is_full shape_raw a = false

-- all of the answer came: after HEAD its head is all
abbrev pub is_complete : Head → AnswerGiven → Bool
is_complete h a = bytes_eq h.method (codes "HEAD") || is_full (given_shape h a) a

-- The answer says where it ends: it is no interim one, a 304 keeps no framing line of its own that a client refuses, it has a size unless it has
-- no body, no body goes to the end of the input, a stated length is below 2 ^ 64, and each piece has fewer than 2 ^ 64
-- bytes. Its head is read back as it is written, with at most 96 lines. Its body may still be under way.
pub record IsSelfFramed (setting : Setting) (h : Head) (a : AnswerGiven) : Type 0 where
  pub status : 200 ≤ a.answered.head.status
  pub unrefused : a.answered.head.status ≡ 304 → is_answer_refused h.minor a.answered.head.headers ≡ false
  pub shape : is_raw (given_shape h a) ≡ false
  pub size : a.answered.size ≡ size_none → (is_bodiless a.answered.head.status ≡ true) ⊎ (bytes_eq h.method (codes "HEAD") ≡ true)
  pub fits : (n : ℕ) → a.answered.size ≡ size_of n → n < 2 ^ 64
  pub short : AllByRecursion (λ (piece : List ℕ). length piece < 2 ^ 64) a.pieces
  pub back : IsReadBack (given_head_text setting h a) h.minor a.answered.head.status (written_reason a.answered.head) (given_lines setting h a)
  pub few : length (given_lines setting h a) ≤ MAX_HEADER_LINES

-- an answer, where the request got one, says where it ends; a WebSocket is none
abbrev pub IsFramedReply : Setting → Head → Reply → Type 0
IsFramedReply setting h (answer_given a) = IsSelfFramed setting h a
IsFramedReply setting h (session s) = ⊥
IsFramedReply setting h _ = ⊤

-- a request of HTTP/1.0 or HTTP/1.1, which got no answer yet or such an answer
pub record IsPlain (setting : Setting) (e : Exchange) : Type 0 where
  pub version : e.head.minor ≤ 1
  pub reply : IsFramedReply setting e.head e.reply

-- ---- traces

-- no head was refused, and no request was given up as too slow
pub record IsUnrefused (trace : List Step) : Type 0 where
  pub no_fault : AllByRecursion (λ s. (f : Fault) → ¬ (s.outcome ≡ on.fault f)) trace
  pub in_time : AllByRecursion (λ s. ¬ (s.outcome ≡ on.expired ends.slow_request)) trace

-- no client got a 100 Continue
abbrev pub HasNoContinue : List Step → Type 0
HasNoContinue trace = AllByRecursion (λ s. ¬ (s.event ≡ on.send_continue)) trace

-- a trace that nothing interrupts, whose exchanges are plain
pub record IsPlainTrace (setting : Setting) (trace : List Step) : Type 0 where
  pub traced : IsTrace setting trace
  pub unrefused : IsUnrefused trace
  pub plain : AllByRecursion (IsPlain setting) (exchanges trace)
