-- Where a server has taken all that was sent, and its pull is told that nothing has come yet, all bytes of the body that were
-- sent so far are handed out, and its end wasn't sent.
use Rattle.std.proofs.Common.{◌≡◌, ℕ, zero, suc, ◌+◌, ◌-◌, ◌<◌, ◌≤◌, Bool, true, false, List, [], ◌∷◌, ◌++◌, length, drop, map, reverse, Option, Some, None, refl, sym, ap, ap₂, ◌∙◌, subst, subst₂, arith, append-nil, length-append, length-drop, le-leb, take_all, inl, inr}
use Rattle.std.specs.Prelude.{IsTrue, ◌||◌, slice_get, flat_map, if◌then◌else◌}
use Rattle.std.specs.List.{AllByRecursion}
use Rattle.std.proofs.lemmas.Bool.{true≢false, cases_Bool, cases_lt}
use Rattle.std.proofs.lemmas.Option.{none-some, same_Some}
use Rattle.std.proofs.lemmas.List.{append_cancel_right, drop-drop, drop_at, length-map, length-reverse}
use Rattle.model_h1.specs.Answer.{Shape, shape_none, shape_length, shape_chunked, shape_raw}
use Rattle.model_h1.specs.AnswerText.{chunk_text, last_chunk}
use Rattle.model_h1.specs.Place.{start}
use Rattle.model_h1.specs.Reading.{Reading as ReadBody, read}
use Rattle.model_h1.specs.Request.{Header, Head, BodyKind, no_body, fixed_body, chunked_body, raw_body, Reading}
use Rattle.model_h1.specs.Runs.{Run, run_bytes}
use Rattle.model_h1.specs.Setting.{Setting}
use Rattle.model_h1.specs.Parse.{Input, Message, Body, no_content, content, frames, Stop, ended_at, still_open, broken, cut, next_start, runs_of, IsBodyOf, IsBodyAfter, IsParse}
use Rattle.model_h1.specs.Event.{Outcome}
use Rattle.model_h1.specs.Event as on
use Rattle.model_h1.specs.Sums.{Step, taken}
use Rattle.model_h1.specs.Handed.{Item, item_bytes, Handed, HandedOut, handed_out, AreItemsOf}
use Rattle.model_h1.specs.Past.{ParsedStep, steps, input_of, parse_of, given_bytes}
use Rattle.model_h1.specs.Allowed.{has_body_left, is_allowed}
use Rattle.model_h1.specs.OutcomeTable.{run_left, gave_trailers, ended_outcome, stop_outcome, run_outcome, body_outcome, pull_outcome, outcome_of}
use Rattle.model_h1.specs.Trace.{IsAllowed, IsOutcome}
use Rattle.model_h1.proofs.Agreement.{runs_read}
use Rattle.model_h1.proofs.BodyGrowth.{fixed_part}
use Rattle.model_h1.proofs.HandedCounts.{Counts}
use Rattle.model_h1.proofs.HandedItems.{items_len, last_len}
use Rattle.model_h1.proofs.HandedParsed.{sound}
use Rattle.model_h1.proofs.HandedRuns.{given_all, left_all}
use Rattle.model_h1.proofs.HandedSteps.{only, Running, nothing, running, failed}
use Rattle.model_h1.proofs.HandedTrace.{told_closes, closing_case}
use Rattle.model_h1.proofs.PastLemmas.{Legal, legal_of, allowed_behind}
use Rattle.model_h1.proofs.RunLemmas.{IsOrdered, run_bytes_shifted, run_bytes_between}
use Rattle.model_h1.proofs.StepLemmas.{allowed_open, parsed}
use Rattle.model_h1.proofs.TraceGrowth.{IsParsed, message_at, current_at}
use Rattle.model_client.specs.RequestText.{RequestGiven, asked_shape, kind_of_shape, given_request_text, joined}
use Rattle.model_client.specs.ClientKept.{ClientKept}
use Rattle.model_client.specs.ClientTrace.{Happened, text_of}
use Rattle.model_ends.specs.PlainExchange.{carried_by}
use Rattle.model_ends.specs.SentAnswer.{IsBodyFront, stop_of}
use Rattle.model_ends.specs.SentRequest.{SentRequest, sent_request, asked_text, has_come, IsBegunServed, AreBegunServed}
use Rattle.model_ends.specs.AskedTrace.{AskedRequest, requests_asked, is_all, is_all_asked, carried_so_far, body_so_far, IsPlainAsked, IsAllServed}
use Rattle.model_ends.specs.Connected.{AreConnected, ArePlain}
use Rattle.model_ends.proofs.AskedTexts.{text_so_far, texts, OthersWhole, asked_text_of}
use Rattle.model_ends.proofs.BegunRequests.{begun_served}
use Rattle.model_ends.proofs.Completions.{padding, completed, completions, newest_text, newest_head, newest_fits, turned, given_of, newest_begins, plain_completions}
use Rattle.model_ends.proofs.GivenRequests.{each_asked}
use Rattle.model_ends.proofs.Rests.{segments_read}
use Rattle.model_ends.proofs.Served.{next_text}
use Rattle.model_ends.proofs.WrittenPieces.{AreShort, written_front}

-- ---- what is pending

never_ended : (given : Bool) (lines : List Header) → ended_outcome given lines ≡ on.pending → ⊥
never_ended given [] e = cc
never_ended true (line ∷ more) e = cc
never_ended false (line ∷ more) e = cc

open_stop : (given : Bool) (stop : Stop) → stop_outcome given stop ≡ on.pending → stop ≡ still_open
open_stop given (ended_at place lines) e = absurd (never_ended given lines e)
open_stop given broken e = absurd (cc e)
open_stop given cut e = absurd (cc e)
open_stop given still_open e = refl

-- all bytes were given of a body that a pull tells to be pending, and it may go on
open_content : (trace : List Step) (runs : List Run) (stop : Stop) → run_outcome trace stop (run_left (given_bytes trace) runs) ≡ on.pending
    → (run_left (given_bytes trace) runs ≡ None) × (stop ≡ still_open)
open_content trace runs stop e = by_left (run_left (given_bytes trace) runs) refl e
  where
    by_left : (left : Option Run) → run_left (given_bytes trace) runs ≡ left → run_outcome trace stop left ≡ on.pending
        → (run_left (given_bytes trace) runs ≡ None) × (stop ≡ still_open)
    by_left (Some r) is e = absurd (cc e)
    by_left None is e = (is, open_stop (gave_trailers trace) stop e)

open_body : (trace : List Step) (b : Body) → body_outcome trace b ≡ on.pending → next_start b ≡ None
open_body trace no_content e = refl
open_body trace (content runs stop) e = ap (λ (s : Stop). next_start (content runs s)) (open_content trace runs stop e).1
open_body trace (frames placed fail) e = refl

-- a pull that is allowed finds a message that was handed out
record Found (past : List ParsedStep) : Type 0 where
  pub h : Handed
  pub hs : List Handed
  pub handed : handed_out (steps past) ≡ only (h ∷ hs)
  pub goes : Running (taken (steps past)) (parse_of past) (steps past) h hs
  pub waits : body_outcome (steps past) goes.message.body ≡ on.pending

found : (setting : Setting) (past : List ParsedStep) → Legal setting past → IsTrue (is_allowed setting past on.pull)
    → on.pending ≡ outcome_of setting past on.pull → Found past
unfolding outcome_of
found setting past legal allowed waits =
    elim (sound setting past legal) [
      | nothing none ↦
          let test = allowed_open setting past on.pull refl allowed in
          let shut = ap₂ (λ (u : Bool) (r : Option Head). u || has_body_left (steps past) r) none.upgraded none.asked in
          absurd (true≢false (sym test ∙ shut))
      | running h hs handed r ↦ record {
        h = h;
        hs = hs;
        handed = handed;
        goes = r;
        waits = sym (waits ∙ ap (pull_outcome (steps past)) (current_at past (length hs) r.count ∙ r.there));
      }
      | failed prefix fault ↦
          absurd (true≢false (closing_case setting past on.pull on.pending (told_closes setting past fault) allowed waits).other.pull)
    ]

no_items : (a b : List Item) → [] ≡ a ++ b → a ≡ []
no_items [] b is = refl
no_items (x ∷ a) b is = cc

-- the pieces that were handed out are all bytes of the body
all_given : (trace : List Step) (from : ℕ) (runs : List Run) (items : List Item) → IsOrdered from (length (taken trace)) runs
    → (x : AreItemsOf (taken trace) (content runs still_open) items) → Counts trace items → run_left (given_bytes trace) runs ≡ None
    → (items ≡ map item_bytes x.pieces) × (joined x.pieces ≡ run_bytes (taken trace) runs)
all_given trace from runs items ordered x c none =
    let last : x.last ≡ [] = no_items x.last x.follow.0 x.follow.1 in
    let nil : items_len x.last ≡ 0 = ap items_len last in
    let len : length (joined x.pieces) ≡ given_bytes trace = omega (arith, c.bytes, last_len items x.pieces x.last x.are, nil) in (
      x.are ∙ ap (λ (l : List Item). map item_bytes x.pieces ++ l) last ∙ append-nil (map item_bytes x.pieces),
      given_all (joined x.pieces) (run_bytes (taken trace) runs) (given_bytes trace) x.begins len
          (left_all (taken trace) from (length (taken trace)) (given_bytes trace) runs (omega arith) ordered none),
    )

-- ---- the request that it is

module _ (i : Input) (more : List ℕ) (some : 0 < i.hold_size) (s : SentRequest) (lacks : length more ≤ length s.body) where
  last_long : (front : List SentRequest) → length s.body ≤ length (asked_text (front ++ s ∷ []))
  last_long [] = omega (arith, length-append s.head (s.body ++ []), length-append s.body [])
  last_long (t ∷ front) =
      let rest = asked_text (front ++ s ∷ []) in omega (arith, last_long front, length-append t.head (t.body ++ rest), length-append t.body rest)

  -- the message is the last request, as far as it came
  record IsLast (k n : ℕ) (m : Message) : Type 0 where
    pub place : ℕ
    pub within : place ≤ length i.bytes
    pub begun : IsBegunServed i place m s
    pub text : drop place i.bytes ++ more ≡ s.head ++ (s.body ++ [])
    pub behind : k ≡ n

  has_ended_there : (place : ℕ) (t : SentRequest) (m : Message) → IsBegunServed i place m t → has_come i place t ≡ true → next_start m.body ≡ None → ⊥
  has_ended_there place t m b came goes =
      let end = place + length t.head + length t.body in
      none-some end (sym goes ∙ ap next_start b.body ∙ ap (λ (c : Bool). next_start (content b.runs (stop_of c i.ended end))) came)

  all_came : (place : ℕ) (t : SentRequest) (front : List SentRequest) → place ≤ length i.bytes
      → drop place i.bytes ++ more ≡ asked_text (t ∷ front ++ s ∷ []) → place + length t.head + length t.body ≤ length i.bytes
  all_came place t front within text =
      let rest = asked_text (front ++ s ∷ []) in
      omega (
        arith,
        within,
        lacks,
        last_long front,
        ap length text,
        length-append (drop place i.bytes) more,
        length-drop place i.bytes,
        length-append t.head (t.body ++ rest),
        length-append t.body rest,
      )

  last_found : (place : ℕ) (ms : List Message) (front : List SentRequest) (k : ℕ) (m : Message) → place ≤ length i.bytes
      → drop place i.bytes ++ more ≡ asked_text (front ++ s ∷ []) → AreBegunServed i place ms (front ++ s ∷ []) → slice_get ms k ≡ Some m
      → next_start m.body ≡ None → IsLast k (length front) m
  last_found place [] front k m within text x there goes = absurd (none-some m there)
  last_found place (n ∷ ms) [] zero m within text x there goes = record {
    place = place;
    within = within;
    begun = subst (λ (n : Message). IsBegunServed i place n s) (same_Some n m there) x.0;
    text = text;
    behind = refl;
  }
  last_found place (n ∷ []) [] (suc k) m within text x there goes = absurd (none-some m there)
  last_found place (n ∷ n' ∷ ms) [] (suc k) m within text x there goes = absurd x.1
  last_found place (n ∷ ms) (t ∷ front) zero m within text x there goes =
      let came = le-leb (place + length t.head + length t.body) (length i.bytes) (all_came place t front within text) in
      absurd (has_ended_there place t m (subst (λ (n : Message). IsBegunServed i place n t) (same_Some n m there) x.0) came goes)
  last_found place (n ∷ ms) (t ∷ front) (suc k) m within text x there goes =
      let end = place + length t.head + length t.body in
      let here = all_came place t front within text in
      let rest = next_text i more some place t (front ++ s ∷ []) text (le-leb end (length i.bytes) here) in
      let l = last_found end ms front k m here rest x.1 there goes in
      record { place = l.place; within = l.within; begun = l.begun; text = l.text; behind = ap suc l.behind }

-- ---- the bytes of its body

-- what a body under way has in all bytes that came
front_bytes : (i : Input) (place : ℕ) (kind : BodyKind) (runs : List Run) (stop : Stop) (text carried : List ℕ) → place ≤ length i.bytes
    → drop place i.bytes ≡ text → IsBodyFront kind text carried → IsBodyOf i kind place (content runs stop) → run_bytes i.bytes runs ≡ carried
front_bytes i place no_body runs stop text carried within here front is = absurd front
front_bytes i place raw_body runs stop text carried within here front is = absurd front
front_bytes i place (fixed_body n) runs stop text carried within here (short, same) is =
    let size = length-drop place i.bytes in
    let part = fixed_part i.bytes i.upgraded i.ended i.hold_size place n (omega (arith, short, ap length here, size, within)) in
    ap (run_bytes i.bytes) (ap runs_of (is ∙ part)) ∙ run_bytes_between i.bytes place (length i.bytes)
    ∙ take_all (length i.bytes - place) (drop place i.bytes) (omega (arith, size)) ∙ here ∙ sym same
front_bytes i place chunked_body runs stop text carried within here (segments, each, spelled, carries) (c, runs', x, is) =
    ap (run_bytes i.bytes) (ap runs_of is) ∙ run_bytes_shifted i.bytes place runs' ∙ sym (runs_read (drop place i.bytes) c runs' x)
    ∙ ap (λ (l : List ℕ). (read start l).body) (here ∙ sym spelled) ∙ ap (λ (r : ReadBody). r.body) (segments_read segments each) ∙ carries

-- the body of a request under way
front_of : (s : Shape) (a : AskedRequest) → AreShort a.given.pieces → is_all s a ≡ false
    → IsBodyFront (kind_of_shape s) (body_so_far s a) (carried_by s a.given.pieces)
front_of shape_none a short part = absurd (true≢false part)
front_of shape_raw a short part = absurd (true≢false part)
front_of (shape_length n) a short part =
    let bytes = joined a.given.pieces in
    elim (cases_lt (length bytes) n) [
      | inl few ↦ (omega (arith, few, ap length (take_all n bytes (omega (arith, few)))), refl)
      | inr full ↦ absurd (true≢false (sym (le-leb n (length bytes) full) ∙ part))
    ]
front_of shape_chunked a short part =
    let text = flat_map chunk_text a.given.pieces in
    let w = written_front a.given.pieces short in (
      w.0,
      w.1,
      w.2 ∙ sym (append-nil text) ∙ ap (λ (t : Bool). text ++ (if t then last_chunk else [])) (sym part),
      w.3,
    )

newest_kind : (pad : ℕ) (a : AskedRequest) → (sent_request (completed pad a)).says.body ≡ kind_of_shape (asked_shape a.given.size)
newest_kind pad a = by_test (is_all_asked a)
  where
    by_test : (t : Bool)
        → (sent_request (if t then a.given else record a.given { pieces = a.given.pieces ++ padding pad a ∷ [] })).says.body
        ≡ kind_of_shape (asked_shape a.given.size)
    by_test true = refl
    by_test false = refl

-- ---- all of it

sent_last : (gs : List RequestGiven) (g : RequestGiven) → map sent_request (gs ++ g ∷ []) ≡ map sent_request gs ++ sent_request g ∷ []
sent_last [] g = refl
sent_last (x ∷ gs) g = ap (λ (l : List SentRequest). sent_request x ∷ l) (sent_last gs g)

never_open : (came ended : Bool) (end : ℕ) → stop_of came ended end ≡ still_open → came ≡ false
never_open true ended end e = absurd (cc e)
never_open false ended end e = refl

none_asked : (i : Input) (ms : List Message) (k : ℕ) (m : Message) → AreBegunServed i 0 ms [] → slice_get ms k ≡ Some m → ⊥
none_asked i [] k m x there = none-some m there
none_asked i (n ∷ ms) k m x there = x

module _ (server : Setting) (past : List ParsedStep) (legal : Legal server past) (some : 0 < server.hold_size) (f : Found past) where
  abbrev trace : List Step
  trace = steps past

  abbrev i : Input
  i = input_of server trace

  abbrev m : Message
  m = f.goes.message

  -- one under way, of which all that was sent came
  module _ (a : AskedRequest) (n : ℕ) (plain : IsPlainAsked server.hold_size a)
      (l : IsLast i (newest_text 0 a).0 some (sent_request (completed 0 a)) (newest_fits 0 a) (length f.hs) n m) where
    abbrev s : SentRequest
    s = sent_request (completed 0 a)

    opened : (run_left (given_bytes trace) l.begun.runs ≡ None) × (stop_of (has_come i l.place s) i.ended (l.place + length s.head + length s.body) ≡ still_open)
    opened = open_content trace l.begun.runs _ (ap (body_outcome trace) (sym l.begun.body) ∙ f.waits)

    body_is : m.body ≡ content l.begun.runs still_open
    body_is = l.begun.body ∙ ap (content l.begun.runs) opened.1

    part : is_all_asked a ≡ false
    part =
        elim (cases_Bool (is_all_asked a)) [
          | inl whole ↦
              let all = (newest_text 0 a).2 whole in
              let end = l.place + length s.head + length s.body in
              let there : end ≤ length i.bytes =
              omega (
                arith,
                l.within,
                ap length all,
                ap length l.text,
                length-append (drop l.place i.bytes) (newest_text 0 a).0,
                length-drop l.place i.bytes,
                length-append s.head (s.body ++ []),
                length-append s.body [],
              ) in
              let come = never_open (has_come i l.place s) i.ended end opened.1 in
              absurd (true≢false (sym (le-leb end (length i.bytes) there) ∙ come))
          | inr lacks ↦ lacks
        ]

    text : drop l.place i.bytes ≡ text_so_far a
    text =
        append_cancel_right (drop l.place i.bytes) (text_so_far a) (newest_text 0 a).0
        (l.text ∙ ap (λ (b : List ℕ). s.head ++ b) (append-nil s.body) ∙ sym (newest_text 0 a).1)

    body_text : drop m.body_start i.bytes ≡ body_so_far (asked_shape a.given.size) a
    body_text =
        let head = given_request_text a.given in
        ap (λ (k : ℕ). drop k i.bytes) l.begun.start ∙ sym (drop-drop (length s.head) l.place i.bytes) ∙ ap (drop (length s.head)) text
        ∙ drop_at head (body_so_far (asked_shape a.given.size) a) (length s.head) (sym (ap length (newest_head 0 a)))

    parse_is : IsParse i (parse_of past)
    parse_is = parsed server past legal

    at_message : IsParsed i m
    at_message = message_at i 0 (parse_of past) (length f.hs) m parse_is (omega arith) f.goes.there

    carries : run_bytes i.bytes l.begun.runs ≡ carried_so_far a
    carries =
        let shape = asked_shape a.given.size in
        let mine : IsBodyOf i s.says.body m.body_start (content l.begun.runs still_open) =
        subst₂ (λ (r : Reading) (b : Body). IsBodyAfter i r m.body_start b) l.begun.head body_is at_message.body in
        front_bytes i m.body_start (kind_of_shape shape) l.begun.runs still_open (body_so_far shape a) (carried_so_far a) l.begun.within body_text
        (front_of shape a plain.short part) (subst (λ (k : BodyKind). IsBodyOf i k m.body_start (content l.begun.runs still_open)) (newest_kind 0 a) mine)

    is_served : (before : List AskedRequest) → length before ≡ n → IsAllServed (handed_out trace).messages (a ∷ before)
    is_served before many =
        let x = subst (λ (b : Body). AreItemsOf (taken trace) b f.h.items) body_is f.goes.agrees.items in
        let ordered : IsOrdered m.body_start (length (taken trace)) l.begun.runs =
        subst (λ (b : Body). IsOrdered m.body_start (length (taken trace)) (runs_of b)) body_is at_message.lies.runs in
        let g = all_given trace m.body_start l.begun.runs f.h.items ordered x f.goes.counts opened.0 in
        record {
          newest = f.h;
          older = f.hs;
          handed_are = ap (λ (o : HandedOut). o.messages) f.handed;
          last = a;
          before = before;
          asked_are = refl;
          as_many = many ∙ sym l.behind;
          pieces = x.pieces;
          items = g.0;
          all = g.1 ∙ carries;
          part = part;
        }

  of_all : (rs : List AskedRequest) → AllByRecursion (IsPlainAsked server.hold_size) rs → OthersWhole rs → taken trace ≡ texts rs
      → IsAllServed (handed_out trace).messages rs
  of_all [] plain others came =
      let begun = begun_served i [] [] (parse_of past) (append-nil (taken trace) ∙ came) tt (parsed server past legal) in
      absurd (none_asked i (parse_of past) (length f.hs) m begun f.goes.there)
  of_all (a ∷ before) plain others came =
      let rs = a ∷ before in
      let more = (newest_text 0 a).0 in
      let gs = reverse (completions 0 rs) in
      let front = map sent_request (reverse (given_of before)) in
      let s = sent_request (completed 0 a) in
      let order : map sent_request gs ≡ front ++ s ∷ [] =
      ap (map sent_request) (turned (completed 0 a) (given_of before)) ∙ sent_last (reverse (given_of before)) (completed 0 a) in
      let is : taken trace ++ more ≡ asked_text (map sent_request gs) = ap (λ (l : List ℕ). l ++ more) came ∙ newest_begins 0 a before others in
      let begun = begun_served i more (map sent_request gs) (parse_of past) is (each_asked server.hold_size gs (plain_completions 0 server.hold_size rs plain others))
      (parsed server past legal) in
      let l = last_found i more some s (newest_fits 0 a) 0 (parse_of past) front (length f.hs) m (omega arith) (is ∙ ap asked_text order)
      (subst (AreBegunServed i 0 (parse_of past)) order begun) f.goes.there (open_body trace m.body f.waits) in
      is_served a (length front) plain.0 l before
      (omega (
        arith,
        length-map (reverse (given_of before)) sent_request,
        length-reverse (given_of before),
        length-map before (λ (r : AskedRequest). r.given),
      ))

-- ---- both

pub all_is_served : (client server : Setting) (asked : List Happened) (k : ClientKept) (trace : List Step) → AreConnected client server asked k trace
    → ArePlain client server asked trace → taken trace ≡ text_of asked → IsAllowed server trace on.pull → IsOutcome server trace on.pull on.pending
    → IsAllServed (handed_out trace).messages (requests_asked asked)
all_is_served client server asked k trace c plain all allowed (past, of, waits) =
    let t = asked_text_of client asked k c.client_ran in
    let legal = legal_of server trace past c.server_ran of in
    let f = found server past legal (allowed_behind server trace on.pull past allowed of) waits in
    subst (λ (t : List Step). IsAllServed (handed_out t).messages (requests_asked asked)) of.same
    (of_all server past legal plain.server_holds f (requests_asked asked) plain.requests t.others (ap taken of.same ∙ all ∙ t.text_is))
