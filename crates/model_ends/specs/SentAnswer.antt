-- Answers that were sent one after another, and what a client reads of them.
use Rattle.std.specs.Prelude.{◌≡◌, ◌⊎◌, ℕ, ◌+◌, ◌<◌, ◌≤◌, Bool, true, false, ◌&&◌, codes, nat_le, if◌then◌else◌, List, [], ◌∷◌, ◌++◌, length, map, reverse, flat_map, Option, Some, None, ⊤}
use Rattle.std.specs.List.{AllByRecursion}
use Rattle.model_h1.specs.ChunkedText.{Segment, IsSegment, segment_text, ChunkedText, IsChunkedText, chunked_text, content}
use Rattle.model_h1.specs.Runs.{Run, run_bytes}
use Rattle.model_h1.specs.Limits.{MAX_HEADER_LINES}
use Rattle.model_h1.specs.AnswerText.{interim_text}
use Rattle.model_h1.specs.Request.{Head, BodyKind, keep_alive, no_body, fixed_body, chunked_body, raw_body}
use Rattle.model_h1.specs.Setting.{Setting}
use Rattle.model_h1.specs.Answer.{asked_of}
use Rattle.model_h1.specs.Sums.{Step}
use Rattle.model_h1.specs.Parse.{content as body_content, Stop, ended_at, open_or_cut}
use Rattle.model_h1.specs.Handed.{Begins}
use Rattle.model_h1.specs.Laws.Exchanges.{AnswerGiven, Reply, answer_given, Exchange, body_text, exchanges}
use Rattle.model_client.specs.AnswerTable.{answer_kind, answer_body, answer_connection, body_to}
use Rattle.model_client.specs.AnswerReading.{Answer, answer_is}
use Rattle.model_client.specs.AnswerParse.{Received, AnswerMessage, left_waiting}
use Rattle.model_client.specs.WrittenHead.{written_reason, IsReadBack}
use Rattle.model_ends.specs.PlainExchange.{given_shape, given_lines, given_head_text, carried, is_complete, HasNoContinue}

-- ---- texts of bodies

-- the text of a body of this kind, and the bytes that it carries: a body in chunks has no trailers, and none is raw
abbrev pub IsBodyText : BodyKind → List ℕ → List ℕ → Type 0
IsBodyText no_body text bytes = (text ≡ []) × (bytes ≡ [])
IsBodyText (fixed_body n) text bytes = (length text ≡ n) × (bytes ≡ text)
IsBodyText chunked_body text bytes =
    (t : ChunkedText) × IsChunkedText t × (chunked_text t ≡ text) × (content t ≡ bytes) × (t.trailers ≡ [])
IsBodyText raw_body text bytes = ⊥

-- the beginning of such a text, which lacks bytes of the length, or the last chunk, and the bytes that it carries
abbrev pub IsBodyFront : BodyKind → List ℕ → List ℕ → Type 0
IsBodyFront (fixed_body n) text bytes = (length text < n) × (bytes ≡ text)
IsBodyFront chunked_body text bytes =
    (segments : List Segment) × AllByRecursion IsSegment segments × (flat_map segment_text segments ≡ text)
    × (flat_map (λ s. s.bytes) segments ≡ bytes)
IsBodyFront kind text bytes = ⊥

-- one or the other, by whether it is whole
abbrev pub IsBodySent : Bool → BodyKind → List ℕ → List ℕ → Type 0
IsBodySent true kind text bytes = IsBodyText kind text bytes
IsBodySent false kind text bytes = IsBodyFront kind text bytes

-- ---- answers

-- An answer as it was sent: the method of its request, the texts of its head and of its body, whether the body is whole
-- or still under way, what the head says, and the bytes that the body carries.
pub record SentAnswer : Type 0 where
  pub method : List ℕ
  pub head : List ℕ
  pub body : List ℕ
  pub is_whole : Bool
  pub answer : Answer
  pub bytes : List ℕ

-- the head is read back, within 96 lines, and its lines frame the body that was written
pub record IsSent (s : SentAnswer) : Type 0 where
  pub back : IsReadBack s.head s.answer.minor s.answer.status s.answer.reason s.answer.headers
  pub strict : s.answer.is_lax ≡ false
  pub status : 100 ≤ s.answer.status
  pub few : length s.answer.headers ≤ MAX_HEADER_LINES
  pub framed : answer_kind s.answer.minor s.answer.status s.answer.headers ≡ Some s.answer.body
  pub connection : s.answer.connection ≡ answer_connection s.answer.minor s.answer.status s.answer.headers s.answer.body
  pub body : IsBodySent s.is_whole (body_to s.method s.answer.body) s.body s.bytes

-- so is each, and only the last may be under way
abbrev pub AreSent : List SentAnswer → Type 0
AreSent [] = ⊤
AreSent (s ∷ ss) = IsSent s × (s.is_whole ≡ false → ss ≡ []) × AreSent ss

-- all texts, one after another
abbrev pub sent_text : List SentAnswer → List ℕ
sent_text [] = []
sent_text (s ∷ ss) = s.head ++ (s.body ++ sent_text ss)

-- a client that may hold so many bytes, if there is such a limit, can hold each head
abbrev pub AreHeld : Option ℕ → List SentAnswer → Type 0
AreHeld None ss = ⊤
AreHeld (Some size) ss = AllByRecursion (λ s. length s.head ≤ size) ss

-- ---- what is read

-- how a body stops that ends at this place, or is under way: then it is open, or cut where the input has ended
abbrev pub stop_of : Bool → Bool → ℕ → Stop
stop_of true ended end = ended_at end []
stop_of false ended end = open_or_cut ended

-- The answer that stands at the place is read as it was sent: its head, all bytes of its body, and where that ends,
-- without trailers. One that is under way is never read as whole.
pub record IsReadAs (r : Received) (place : ℕ) (m : AnswerMessage) (s : SentAnswer) : Type 0 where
  pub head : m.reading ≡ answer_is s.answer
  pub start : m.body_start ≡ place + length s.head
  pub runs : List Run
  pub body : m.body ≡ body_content runs (stop_of s.is_whole r.ended (place + length s.head + length s.body))
  pub carried : run_bytes r.bytes runs ≡ s.bytes

-- so are all from the place on: each begins where the one before it ends, and the last ends where the bytes end
abbrev pub AreReadAs : Received → ℕ → List AnswerMessage → List SentAnswer → Type 0
AreReadAs r place [] [] = place ≡ length r.bytes
AreReadAs r place (m ∷ ms) (s ∷ ss) = IsReadAs r place m s × AreReadAs r (place + length s.head + length s.body) ms ss
AreReadAs r place ms ss = ⊥

-- the answer that stands at the place is whole, and all its bytes came
abbrev pub all_came : Received → ℕ → SentAnswer → Bool
all_came r place s = s.is_whole && nat_le (place + length s.head + length s.body) (length r.bytes)

-- The answer that stands at the place, of which the first bytes came, and its whole head among them, is read as far as it
-- came: its head, and its end where all of it came. Else it is open, or cut where the input has ended, and the bytes of its
-- body are a beginning of those that it carries.
pub record IsBegunAs (r : Received) (place : ℕ) (m : AnswerMessage) (s : SentAnswer) : Type 0 where
  pub head : m.reading ≡ answer_is s.answer
  pub start : m.body_start ≡ place + length s.head
  pub within : m.body_start ≤ length r.bytes
  pub runs : List Run
  pub body : m.body ≡ body_content runs (stop_of (all_came r place s) r.ended (place + length s.head + length s.body))
  pub begins : Begins (run_bytes r.bytes runs) s.bytes
  pub carried : all_came r place s ≡ true → run_bytes r.bytes runs ≡ s.bytes

-- So are those to these methods: as many as were asked for, and have a whole head.
abbrev pub AreBegunAs : (ℕ → Bool) → Received → ℕ → List (List ℕ) → List AnswerMessage → List SentAnswer → Type 0
AreBegunAs waits r place [] ms ss = ms ≡ []
AreBegunAs waits r place (method ∷ methods) [] [] = ⊤
AreBegunAs waits r place (method ∷ methods) [] (s ∷ ss) = length r.bytes < place + length s.head
AreBegunAs waits r place (method ∷ methods) (m ∷ ms) [] = ⊥
AreBegunAs waits r place (method ∷ methods) (m ∷ ms) (s ∷ ss) =
    IsBegunAs r place m s
    × AreBegunAs waits r (place + length s.head + length s.body) (left_waiting waits m.reading method methods) ms ss

-- ---- which answers count

-- a request may wait on after a status below 200 alone
abbrev pub CountsAnswers : (ℕ → Bool) → Type 0
CountsAnswers waits = (status : ℕ) → 200 ≤ status → waits status ≡ false

-- A client that lets its requests wait on after these statuses, of which none is from 200 on: after a 100 it does, unless
-- no client of the trace got one.
pub record IsWaiting (waits : ℕ → Bool) (trace : List Step) : Type 0 where
  pub counts : CountsAnswers waits
  pub goes_on : (waits 100 ≡ true) ⊎ HasNoContinue trace

-- each answer is to the first of the methods that wait when it comes
abbrev pub AreTo : (ℕ → Bool) → List (List ℕ) → List SentAnswer → Type 0
AreTo waits methods [] = ⊤
AreTo waits methods (s ∷ ss) =
    (more : List (List ℕ)) × (methods ≡ s.method ∷ more) × AreTo waits (if waits s.answer.status then s.method ∷ more else more) ss

-- ---- the answers of a trace

-- an answer to this request, as a connection of this setting sends it
abbrev pub sent_answer : Setting → Head → AnswerGiven → SentAnswer
sent_answer setting h a =
    let lines = given_lines setting h a in
    let status = a.answered.head.status in
    let kind = answer_body h.minor status lines in record {
      method = h.method;
      head = given_head_text setting h a;
      body = body_text (asked_of h) (given_shape h a) a;
      is_whole = is_complete h a;
      answer = record {
        minor = h.minor;
        status = status;
        reason = written_reason a.answered.head;
        headers = lines;
        body = kind;
        connection = answer_connection h.minor status lines kind;
        is_lax = false;
      };
      bytes = carried h a;
    }

-- the answer of an exchange, if it has one
abbrev pub sent_by : Setting → Exchange → List SentAnswer
sent_by setting e = by_reply e.reply
  where
    by_reply : Reply → List SentAnswer
    by_reply (answer_given a) = sent_answer setting e.head a ∷ []
    by_reply _ = []

-- the answer that lets a client go on (RFC 7231, section 6.2.1), to a request of this method
abbrev pub interim_sent : List ℕ → SentAnswer
interim_sent method = record {
  method = method;
  head = interim_text;
  body = [];
  is_whole = true;
  answer = record {
    minor = 1;
    status = 100;
    reason = codes "Continue";
    headers = [];
    body = no_body;
    connection = keep_alive;
    is_lax = false;
  };
  bytes = [];
}

-- what an exchange sends: the interim answer, where its client was to go on, and then the answer
abbrev pub sent_to : Setting → Exchange → List SentAnswer
sent_to setting e = (if e.was_told then interim_sent e.head.method ∷ [] else []) ++ sent_by setting e

-- what the exchanges of a trace send, in their order
abbrev pub answers_sent : Setting → List Step → List SentAnswer
answers_sent setting trace = flat_map (sent_to setting) (reverse (exchanges trace))

-- the methods of the requests of a trace, in their order
abbrev pub methods_asked : List Step → List (List ℕ)
methods_asked trace = map (λ e. e.head.method) (reverse (exchanges trace))
