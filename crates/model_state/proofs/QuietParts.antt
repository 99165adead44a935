-- What every part that is kept is behind a quiet step: one that takes no bytes, hands out nothing of a message, is no
-- pull, and leaves the input's end and the protocol.
use Rattle.std.proofs.Common.{◌≡◌, ℕ, ◌+◌, ◌-◌, Bool, false, List, [], ◌∷◌, ◌++◌, length, drop, slice_range, Option, Some, None, refl, sym, ap, ◌∙◌, arith, append-nil}
use Rattle.std.specs.Prelude.{◌&&◌, ◌||◌, ◌==◌, if◌then◌else◌, unwrap_or, slice_get}
use Rattle.std.specs.List.{list_any}
use Rattle.std.specs.Option.{option_or}
use Rattle.std.proofs.lemmas.Bool.{true≢false}
use Rattle.model_h1.specs.Place.{start, after}
use Rattle.model_h1.specs.Reading.{read}
use Rattle.model_h1.specs.Request.{BodyKind, no_body, fixed_body, chunked_body, raw_body, Head}
use Rattle.model_h1.specs.Setting.{Setting}
use Rattle.model_h1.specs.Parse.{Message, next_start}
use Rattle.model_h1.specs.End as ends
use Rattle.model_h1.specs.End.{End}
use Rattle.model_h1.specs.Event.{Event, Outcome}
use Rattle.model_h1.specs.Event as on
use Rattle.model_h1.specs.Sums.{Step, taken, is_drain, is_drop, is_pull, is_continue, is_body_end, is_body_error, has_ended, is_draining, accepted, tick_of, first_tick, last_tick, head_of, request, since_head, answered_by, answered as answer_of, completes, came_since_head, is_complete, was_pulled, was_dropped, had_continue, completed_at, chunk_len, answer_len, is_sending, received_behind, is_receiving}
use Rattle.model_h1.specs.Past.{ParsedStep, steps, parse_of, current, step_frames, message_passed, passed}
use Rattle.model_h1.specs.Text.{buffered}
use Rattle.model_h1.specs.Closing.{end_where, told_end, told, is_short, body_end_of}
use Rattle.model_h1.specs.Allowed.{is_over_by}
use Rattle.model_h1.proofs.PastLemmas.{Legal}
use Rattle.model_h1.proofs.StepLemmas.{Quiet, taken-cons, accepted-cons, head_count-more, complete-more, same_input, same_parse, parsed}
use Rattle.model_h1.proofs.CarriedLemmas.{passed_none, passed_some}
use Rattle.model_h1.proofs.PulledLemmas.{Idle, idle_pulled}
use Rattle.model_h1.proofs.HandedTrace.{request-more}
use Rattle.model_state.specs.Kept.{Rest, no_rest, raw_rest, chunks_rest, frames_rest, Exchange, Clock, Kept}
use Rattle.model_state.specs.KeptOf.{is_passed, fixed_left, rest_of, raw_left, reply_of, tells_done, exchange_with, exchange_of, clock_of, kept_of}
use Rattle.model_state.proofs.Changes.{bare}
use Rattle.model_state.proofs.Current.{Current, NoCurrent}
use Rattle.model_state.proofs.StepSums.{told-cons, first_tick-cons, last_tick-cons, completed_at-more, is_receiving-cons, answered-more, answer_len-more, came-more, any-more}

-- ---- what is left of a body, by its parts

-- what is left of a raw body
abbrev raw_by : ℕ → Bool → Message → Option ℕ → Rest
raw_by place receiving m (Some limit) = frames_rest receiving limit
raw_by place receiving m None = if is_passed place m then no_rest else raw_rest

-- by how far the bytes are passed, the bytes, whether the answer is complete, the limit of frames, and whether one is
-- under way
abbrev pub rest_by : ℕ → List ℕ → Bool → Option ℕ → Bool → Message → BodyKind → Rest
rest_by place bytes complete limit receiving m no_body = no_rest
rest_by place bytes complete limit receiving m (fixed_body n) = fixed_left (m.body_start + n) place
rest_by place bytes complete limit receiving m chunked_body =
    let front = slice_range bytes m.body_start place in
    if is_passed place m then no_rest else chunks_rest (after start front) (if complete then [] else (read start front).trailers)
rest_by place bytes complete limit receiving m raw_body = raw_by place receiving m limit

-- the parts of a raw body
raw_parts : (past : List ParsedStep) (m : Message) (limit : Option ℕ)
    → raw_left past m limit ≡ raw_by (passed past) (is_receiving (steps past)) m limit
raw_parts past m (Some limit) = refl
raw_parts past m None = refl

-- what is left of a body is so by its parts
pub rest_parts : (past : List ParsedStep) (m : Message) (kind : BodyKind)
    → rest_of past m kind
    ≡ rest_by (passed past) (taken (steps past)) (is_complete (steps past)) (accepted (steps past)) (is_receiving (steps past)) m kind
rest_parts past m no_body = refl
rest_parts past m (fixed_body n) = refl
rest_parts past m chunked_body = refl
rest_parts past m raw_body = raw_parts past m (accepted (steps past))

-- ---- the messages

-- the bytes taken
pub taken-quiet : (x : ParsedStep) (before : List ParsedStep) → Quiet before x.step → taken (x.step ∷ steps before) ≡ taken (steps before)
taken-quiet x before q = taken-cons x.step (steps before) ∙ ap (λ t. taken (steps before) ++ t) q.taken ∙ append-nil (taken (steps before))

-- the limit of frames
pub accepted-quiet : (x : ParsedStep) (before : List ParsedStep) → Quiet before x.step → accepted (x.step ∷ steps before) ≡ accepted (steps before)
accepted-quiet x before q = accepted-cons x.step (steps before) ∙ ap (λ o. option_or o (accepted (steps before))) q.accepted

-- the input's end
pub ended-quiet : (x : ParsedStep) (before : List ParsedStep) → Quiet before x.step → has_ended (x.step ∷ steps before) ≡ has_ended (steps before)
ended-quiet x before q = ap (λ b. b || has_ended (steps before)) q.eof

-- whether the answer is complete
pub complete-quiet : (x : ParsedStep) (before : List ParsedStep) → Quiet before x.step → completes x.step.event ≡ false
    → is_complete (x.step ∷ steps before) ≡ is_complete (steps before)
complete-quiet x before q incomplete =
    complete-more x.step (steps before) q.head ∙ ap (λ b. b || is_complete (steps before)) incomplete

-- the parse
pub parse-quiet : (setting : Setting) (x : ParsedStep) (before : List ParsedStep) → Legal setting (x ∷ before) → Quiet before x.step
    → x.parse ≡ parse_of before
parse-quiet setting x before l q =
    same_parse setting x before (same_input setting x.step (steps before) q.taken q.eof q.accepted) l.0 (parsed setting before l.3)

-- the messages that were and will be handed out
pub current-quiet : (setting : Setting) (x : ParsedStep) (before : List ParsedStep) → Legal setting (x ∷ before) → Quiet before x.step
    → current (x ∷ before) ≡ current before
current-quiet setting x before l q =
    let count = head_count-more x.step (steps before) q.head in
    let parse = parse-quiet setting x before l q in
    λ i. if count i == 0 then None else slice_get (parse i) (count i - 1)

-- what is passed of the current message, where the step completes no answer
message-quiet : (x : ParsedStep) (before : List ParsedStep) (m : Message) → Quiet before x.step → completes x.step.event ≡ false
    → message_passed (x ∷ before) m ≡ message_passed before m
message-quiet x before m q incomplete =
    let taken = taken-quiet x before q in
    let complete = complete-quiet x before q incomplete in
    let idle : Idle x.step = record { pull = q.pull; head = q.head; bytes = q.bytes; frames = q.frames } in
    let pulled = idle_pulled m x.step (steps before) idle in
    λ i. if complete i then unwrap_or (next_start m.body) (length (taken i)) else pulled i

-- what is passed, by the current message
passed_by : (setting : Setting) (x : ParsedStep) (before : List ParsedStep) (o : Option Message) → current before ≡ o → Legal setting (x ∷ before)
    → Quiet before x.step → completes x.step.event ≡ false → passed (x ∷ before) ≡ passed before
passed_by setting x before None e l q incomplete =
    passed_none (x ∷ before) (current-quiet setting x before l q ∙ e) ∙ sym (passed_none before e)
passed_by setting x before (Some m) e l q incomplete =
    passed_some (x ∷ before) m (current-quiet setting x before l q ∙ e) ∙ message-quiet x before m q incomplete ∙ sym (passed_some before m e)

-- what is passed
pub passed-quiet : (setting : Setting) (x : ParsedStep) (before : List ParsedStep) → Legal setting (x ∷ before) → Quiet before x.step
    → completes x.step.event ≡ false → passed (x ∷ before) ≡ passed before
passed-quiet setting x before l q incomplete = passed_by setting x before (current before) refl l q incomplete

-- ---- the last request

-- no frame is handed out, so that a message in fragments stays under way
unreceived : (before : Bool) (o : Outcome) → step_frames o ≡ 0 → received_behind before o ≡ before
unreceived before (on.frame f) none = absurd (omega (arith, none))
unreceived before _ none = refl

-- which the past says too
pub receiving-quiet : (x : ParsedStep) (before : List ParsedStep) → Quiet before x.step
    → is_receiving (x.step ∷ steps before) ≡ is_receiving (steps before)
receiving-quiet x before q = is_receiving-cons x.step (steps before) ∙ unreceived (is_receiving (steps before)) x.step.outcome q.frames

-- what is left of its body
pub rest-quiet : (setting : Setting) (x : ParsedStep) (before : List ParsedStep) (m : Message) (kind : BodyKind) → Legal setting (x ∷ before)
    → Quiet before x.step → completes x.step.event ≡ false → rest_of (x ∷ before) m kind ≡ rest_of before m kind
rest-quiet setting x before m kind l q incomplete =
    let place = passed-quiet setting x before l q incomplete in
    let bytes = taken-quiet x before q in
    let complete = complete-quiet x before q incomplete in
    let limit = accepted-quiet x before q in
    let receiving = receiving-quiet x before q in
    rest_parts (x ∷ before) m kind ∙ (λ i. rest_by (place i) (bytes i) (complete i) (limit i) (receiving i) m kind) ∙ sym (rest_parts before m kind)

-- a pull alone tells a body's end
pub undone : (e : Event) (o : Outcome) → is_pull e ≡ false → tells_done e o ≡ false
undone on.pull o no_pull = absurd (true≢false no_pull)
undone _ o no_pull = refl

-- the exchange behind the step, but for what is left of the body and the answer
abbrev pub with_step : Setting → List ParsedStep → ParsedStep → Message → Head → Exchange
with_step setting before x m h =
    record (exchange_with setting before m h) {
      rest = rest_of (x ∷ before) m h.body;
      reply = reply_of setting (x.step ∷ steps before) h (answer_of (x.step ∷ steps before));
      was_dropped = is_drop x.step.event || was_dropped (steps before);
      had_continue = is_continue x.step.event || had_continue (steps before);
    }

-- the last request behind the step
pub exchange-quiet : (setting : Setting) (x : ParsedStep) (before : List ParsedStep) (m : Message) (h : Head) → Legal setting (x ∷ before)
    → Quiet before x.step → Current setting before m h
    → exchange_of setting (x ∷ before) (current (x ∷ before)) (request (x.step ∷ steps before)) ≡ Some (with_step setting before x m h)
exchange-quiet setting x before m h l q c =
    let message = current-quiet setting x before l q ∙ c.current_is in
    let head = request-more x.step (steps before) q.head ∙ c.request_is in
    let pulled : was_pulled (x.step ∷ steps before) ≡ was_pulled (steps before) =
    came-more is_pull x.step (steps before) q.head ∙ ap (λ b. b || was_pulled (steps before)) q.pull in
    let dropped = came-more is_drop x.step (steps before) q.head in
    let told = came-more is_continue x.step (steps before) q.head in
    let done : list_any (λ s. tells_done s.event s.outcome) (since_head (x.step ∷ steps before)) ≡ list_any (λ s. tells_done s.event s.outcome) (since_head (steps before)) =
    any-more tells_done x.step (steps before) q.head
    ∙ ap (λ b. b || list_any (λ s. tells_done s.event s.outcome) (since_head (steps before))) (undone x.step.event x.step.outcome q.pull) in
    (λ i. exchange_of setting (x ∷ before) (message i) (head i))
    ∙ (λ i. Some (record (exchange_with setting (x ∷ before) m h) {
      was_pulled = pulled i;
      was_dropped = dropped i;
      had_continue = told i;
      body_is_done = done i;
    }))

-- where no head was handed out there is none
pub exchange-none : (setting : Setting) (x : ParsedStep) (before : List ParsedStep) → Legal setting (x ∷ before) → Quiet before x.step
    → NoCurrent before
    → exchange_of setting (x ∷ before) (current (x ∷ before)) (request (x.step ∷ steps before)) ≡ None
exchange-none setting x before l q c =
    let message = current-quiet setting x before l q ∙ c.current_is in
    ap (λ o. exchange_of setting (x ∷ before) o (request (x.step ∷ steps before))) message

-- ---- all parts

-- two states with the same parts
pub same_bare : (a b : Kept) → a.unread ≡ b.unread → a.has_ended ≡ b.has_ended → a.is_draining ≡ b.is_draining → a.is_over ≡ b.is_over
    → a.exchange ≡ b.exchange → a.buffered ≡ b.buffered → a.is_sending ≡ b.is_sending → a.clock ≡ b.clock → a.failed ≡ b.failed → bare a ≡ bare b
same_bare a b unread ended draining over exchange buffer sending clock told =
    λ i. record {
      unread = unread i;
      is_coming = false;
      has_ended = ended i;
      is_draining = draining i;
      is_over = over i;
      exchange = exchange i;
      buffered = buffer i;
      is_sending = sending i;
      clock = clock i;
      failed = told i;
      closing_since = None;
    }

-- the parts that the step leaves, with those that it may change
abbrev pub kept_behind : Setting → List ParsedStep → ParsedStep → Option Exchange → List ℕ → Bool → Clock → Option End → Kept
kept_behind setting before x exchange buffer sending clock told =
    let k = kept_of setting before in
    record k {
      is_draining = is_drain x.step.event || k.is_draining;
      is_over = is_over_by x.step.outcome || k.is_over;
      exchange = exchange;
      buffered = buffer;
      is_sending = sending;
      clock = clock;
      failed = told;
    }

-- the clock, where no answer is completed and no tick comes
pub clock-ticked : (s : Step) (before : List Step) → completes s.event ≡ false
    → clock_of (s ∷ before)
    ≡ record { first = option_or (first_tick before) (tick_of s.event); last = option_or (tick_of s.event) (last_tick before); completed = completed_at before }
clock-ticked s before incomplete =
    let first = first_tick-cons s before in
    let last = last_tick-cons s before in
    let completed = completed_at-more s before incomplete in
    λ i. record { first = first i; last = last i; completed = completed i }

-- an option, or none
pub option_or-none : {A : Type 0} (o : Option A) → option_or o None ≡ o
option_or-none None = refl
option_or-none (Some a) = refl

-- and where no tick comes either
pub clock-quiet : (s : Step) (before : List Step) → completes s.event ≡ false → tick_of s.event ≡ None → clock_of (s ∷ before) ≡ clock_of before
clock-quiet s before incomplete untimed =
    let first = ap (option_or (first_tick before)) untimed ∙ option_or-none (first_tick before) in
    let last = ap (λ o. option_or o (last_tick before)) untimed in
    clock-ticked s before incomplete ∙ (λ i. record { first = first i; last = last i; completed = completed_at before })

-- the state behind a quiet step that completes no answer
pub kept-quiet : (setting : Setting) (x : ParsedStep) (before : List ParsedStep) (exchange : Option Exchange) (buffer : List ℕ) (sending : Bool) (clock : Clock)
    (end : Option End)
    → Legal setting (x ∷ before) → Quiet before x.step → completes x.step.event ≡ false
    → exchange_of setting (x ∷ before) (current (x ∷ before)) (request (x.step ∷ steps before)) ≡ exchange
    → buffered setting (x.step ∷ steps before) ≡ buffer → is_sending (x.step ∷ steps before) ≡ sending → clock_of (x.step ∷ steps before) ≡ clock
    → option_or (told (x.step ∷ steps before)) (body_end_of (x.step ∷ steps before)) ≡ end
    → bare (kept_behind setting before x exchange buffer sending clock end) ≡ bare (kept_of setting (x ∷ before))
kept-quiet setting x before exchange buffer sending clock end l q incomplete exchange_is buffer_is sending_is clock_is end_is =
    let place = passed-quiet setting x before l q incomplete in
    let bytes = taken-quiet x before q in
    let unread : drop (passed (x ∷ before)) (taken (x.step ∷ steps before)) ≡ drop (passed before) (taken (steps before)) =
    λ i. drop (place i) (bytes i) in
    same_bare (kept_behind setting before x exchange buffer sending clock end) (kept_of setting (x ∷ before))
    (sym unread) (sym (ended-quiet x before q)) refl refl
    (sym exchange_is) (sym buffer_is) (sym sending_is) (sym clock_is) (sym end_is)

-- ---- the end that was told

-- the body that was ended is too short
abbrev pub is_cut_short : List Step → Bool
is_cut_short trace = came_since_head is_body_end trace && is_short (request trace) (answer_of trace) (answer_len trace)

-- it stays where nothing of an answer is handed in
pub short-stays : (s : Step) (before : List Step) → head_of s.outcome ≡ None → is_body_end s.event ≡ false
    → answered_by s.event (is_draining before) ≡ None → chunk_len s.event ≡ 0 → is_cut_short (s ∷ before) ≡ is_cut_short before
short-stays s before none no_end unanswered no_chunk =
    let came : came_since_head is_body_end (s ∷ before) ≡ came_since_head is_body_end before =
    came-more is_body_end s before none ∙ ap (λ b. b || came_since_head is_body_end before) no_end in
    let request = request-more s before none in
    let answer : answer_of (s ∷ before) ≡ answer_of before = answered-more s before none ∙ ap (λ o. option_or o (answer_of before)) unanswered in
    let len : answer_len (s ∷ before) ≡ answer_len before = answer_len-more s before none ∙ omega (arith, no_chunk) in
    λ i. came i && is_short (request i) (answer i) (len i)

-- and where no body has ended
pub short-open : (s : Step) (before : List Step) → head_of s.outcome ≡ None → is_body_end s.event ≡ false
    → came_since_head is_body_end before ≡ false → is_cut_short (s ∷ before) ≡ is_cut_short before
short-open s before none no_end unended =
    let came : came_since_head is_body_end (s ∷ before) ≡ false =
    came-more is_body_end s before none ∙ (λ i. no_end i || unended i) in
    ap (λ b. b && is_short (request (s ∷ before)) (answer_of (s ∷ before)) (answer_len (s ∷ before))) came
    ∙ sym (ap (λ b. b && is_short (request before) (answer_of before) (answer_len before)) unended)

-- the end that the answer's body brings stays
pub body_end-stays : (s : Step) (before : List Step) → is_body_error s.event ≡ false → is_cut_short (s ∷ before) ≡ is_cut_short before
    → body_end_of (s ∷ before) ≡ body_end_of before
body_end-stays s before no_error short =
    let failed : list_any (λ t. is_body_error t.event) (s ∷ before) ≡ list_any (λ t. is_body_error t.event) before =
    ap (λ b. b || list_any (λ t. is_body_error t.event) before) no_error in
    λ i. option_or (end_where (failed i) ends.body) (end_where (short i) ends.body_short)

-- the end that was told stays
pub told-stays : (s : Step) (before : List Step) → told_end s.outcome ≡ None → is_body_error s.event ≡ false
    → is_cut_short (s ∷ before) ≡ is_cut_short before
    → option_or (told (s ∷ before)) (body_end_of (s ∷ before)) ≡ option_or (told before) (body_end_of before)
told-stays s before none no_error short =
    let told_same : told (s ∷ before) ≡ told before = told-cons s before ∙ ap (λ o. option_or o (told before)) none in
    λ i. option_or (told_same i) (body_end-stays s before no_error short i)

-- a fault, an expiry or a broken rule is told
pub told-now : (s : Step) (before : List Step) (end : End) → told_end s.outcome ≡ Some end
    → option_or (told (s ∷ before)) (body_end_of (s ∷ before)) ≡ Some end
told-now s before end some =
    ap (λ o. option_or o (body_end_of (s ∷ before))) (told-cons s before ∙ ap (λ o. option_or o (told before)) some)
