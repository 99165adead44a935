-- A connection that closes does little more, and keeps its reason.
use Rattle.std.proofs.Common.{◌≡◌, Bool, true, false, cond, List, [], ◌∷◌, length, drop, Option, Some, None, refl, sym, ap, ◌∙◌, subst, arith}
use Rattle.std.specs.Prelude.{IsTrue, is_some, is_none, slice_get, unwrap_or, nat_lt, not, ◌&&◌, ◌||◌, ◌-◌, ◌==◌, if◌then◌else◌}
use Rattle.std.specs.List.{list_any}
use Rattle.std.specs.Option.{option_or}
use Rattle.std.proofs.lemmas.Bool.{cond-false, cond_both, and_parts, false≢true}
use Rattle.model_h1.specs.Setting.{Setting}
use Rattle.model_h1.specs.Parse.{Message, frames_of, fail_of}
use Rattle.model_h1.specs.End as ends
use Rattle.model_h1.specs.End.{End}
use Rattle.model_h1.specs.Event.{Event, Outcome}
use Rattle.model_h1.specs.Event as on
use Rattle.model_h1.specs.Sums.{Step, step_taken, is_eof, is_drain, is_drop, is_body_end, is_body_error, accepted_limit, has_ended, is_draining, accepted, first_tick, head_of, request, answered_by, answered, completes, came_since_head, is_complete, was_dropped, is_open, chunk_len, answer_len}
use Rattle.model_h1.specs.Past.{ParsedStep, steps, parse_of, head_count, current, upcoming, step_frames, given_frames, has_chunks}
use Rattle.model_h1.specs.Closing.{reasons_of, end_by, end_where, told_end, told, is_short, body_end_of, asked_by, unread_end, unread_by, answered_end, has_more_frames, is_exhausted, closing}
use Rattle.model_h1.specs.Allowed.{is_allowed_closing, is_allowed}
use Rattle.model_h1.specs.OutcomeTable.{next_outcome, tick_outcome, is_abandoned, outcome_of}
use Rattle.model_h1.specs.Trace.{IsPastOf, IsTrace}
use Rattle.model_h1.proofs.PastLemmas.{Legal, legal_of, past_of_unique}
use Rattle.model_h1.proofs.StepLemmas.{accepted-cons, since_head-more, head_count-more, given_frames-more, parsed, same_input, same_parse}

-- ---- what a connection that closes does

-- what is allowed while the connection closes
closed_test : (closes closed opened : Bool) → cond closes closed opened ≡ true → closes ≡ true → closed ≡ true
closed_test true closed opened x e = x
closed_test false closed opened x e = absurd (false≢true e)

-- what is allowed once the connection closes is allowed then by the events alone
pub allowed_closing : (setting : Setting) (past : List ParsedStep) (e : Event) (end : End) → closing setting past ≡ Some end
    → IsTrue (is_allowed setting past e) → is_allowed_closing (steps past) e ≡ true
unfolding is_allowed
allowed_closing setting past e end closes x = closed_test (is_some (closing setting past)) _ _ (and_parts _ _ x).1 (ap is_some closes)

-- an event that isn't allowed while the connection closes comes while it doesn't
pub running : (setting : Setting) (past : List ParsedStep) (e : Event) → is_allowed_closing (steps past) e ≡ false
    → IsTrue (is_allowed setting past e)
    → closing setting past ≡ None
running setting past e shut ok = go (closing setting past) refl
  where
    go : (end : Option End) → closing setting past ≡ end → end ≡ None
    go None same = refl
    go (Some end) same = absurd (false≢true (sym shut ∙ allowed_closing setting past e end same ok))

-- The event says nothing of the input, of an answer or of a body, and doesn't upgrade.
record IsStill (e : Event) : Type 0 where
  pub takes : (o : Outcome) → step_taken e o ≡ []
  pub accepts : (o : Outcome) → accepted_limit e o ≡ None
  pub answers : (drained : Bool) → answered_by e drained ≡ None
  pub eof : is_eof e ≡ false
  pub drain : is_drain e ≡ false
  pub drop : is_drop e ≡ false
  pub body_end : is_body_end e ≡ false
  pub body_error : is_body_error e ≡ false
  pub completes : completes e ≡ false
  pub chunk : chunk_len e ≡ 0

-- the outcome is no head and no frame, and tells no end
abbrev IsPlain : Outcome → Type 0
IsPlain o = (head_of o ≡ None) × (told_end o ≡ None) × (step_frames o ≡ 0)

-- such are the events that are allowed then
still : (trace : List Step) (e : Event) → is_allowed_closing trace e ≡ true → IsStill e
still trace (on.write n) x = record {
  takes = λ o. refl;
  accepts = λ o. refl;
  answers = λ d. refl;
  eof = refl;
  drain = refl;
  drop = refl;
  body_end = refl;
  body_error = refl;
  completes = refl;
  chunk = refl;
}
still trace on.next x = record {
  takes = λ o. refl;
  accepts = λ o. refl;
  answers = λ d. refl;
  eof = refl;
  drain = refl;
  drop = refl;
  body_end = refl;
  body_error = refl;
  completes = refl;
  chunk = refl;
}
still trace (on.tick ms) x = record {
  takes = λ o. refl;
  accepts = λ o. refl;
  answers = λ d. refl;
  eof = refl;
  drain = refl;
  drop = refl;
  body_end = refl;
  body_error = refl;
  completes = refl;
  chunk = refl;
}
still trace _ x = absurd (false≢true x)

-- and their outcomes
plain : (setting : Setting) (past : List ParsedStep) (e : Event) (end : End) → closing setting past ≡ Some end
    → is_allowed_closing (steps past) e ≡ true → IsPlain (outcome_of setting past e)
unfolding outcome_of
plain setting past (on.write n) end closes x = (refl, refl, refl)
plain setting past on.next end closes x = subst (λ c. IsPlain (next_outcome setting past c)) (sym closes) (refl, refl, refl)
plain setting past (on.tick ms) end closes x =
    let first = unwrap_or (first_tick (steps past)) ms in
    subst (λ c. IsPlain (tick_outcome setting past c first ms)) (sym closes)
    (cond_both (is_abandoned setting past first ms) on.abandoned on.done IsPlain (λ _. (refl, refl, refl)) (λ _. (refl, refl, refl)))
plain setting past _ end closes x = absurd (false≢true x)

-- ---- what such a step leaves

-- A step that changes nothing that a reason to close depends on.
record Leaves (s : Step) (before : List Step) : Type 0 where
  pub told : told (s ∷ before) ≡ told before
  pub failed : list_any (λ t. is_body_error t.event) (s ∷ before) ≡ list_any (λ t. is_body_error t.event) before
  pub ended : came_since_head is_body_end (s ∷ before) ≡ came_since_head is_body_end before
  pub dropped : was_dropped (s ∷ before) ≡ was_dropped before
  pub complete : is_complete (s ∷ before) ≡ is_complete before
  pub request : request (s ∷ before) ≡ request before
  pub answered : answered (s ∷ before) ≡ answered before
  pub len : answer_len (s ∷ before) ≡ answer_len before
  pub accepted : accepted (s ∷ before) ≡ accepted before
  pub input_ended : has_ended (s ∷ before) ≡ has_ended before
  pub draining : is_draining (s ∷ before) ≡ is_draining before
  pub count : head_count (s ∷ before) ≡ head_count before
  pub frames : given_frames (s ∷ before) ≡ given_frames before

-- what came since the head, behind an event of another kind
pub since_still : (kind : Event → Bool) (s : Step) (before : List Step) → head_of s.outcome ≡ None → kind s.event ≡ false
    → came_since_head kind (s ∷ before) ≡ came_since_head kind before
since_still kind s before none other =
    ap (list_any (λ t. kind t.event)) (since_head-more s before none) ∙ ap (λ b. b || came_since_head kind before) other

-- the reason that was told
told_still : (s : Step) (before : List Step) → told_end s.outcome ≡ None → told (s ∷ before) ≡ told before
unfolding told
told_still s before none = ap (λ o. option_or o (told before)) none

-- the last request
request_still : (s : Step) (before : List Step) → head_of s.outcome ≡ None → request (s ∷ before) ≡ request before
unfolding request
request_still s before none = ap (λ o. option_or o (request before)) none

-- its answer
pub answered_still : (s : Step) (before : List Step) → head_of s.outcome ≡ None → ((drained : Bool) → answered_by s.event drained ≡ None)
    → answered (s ∷ before) ≡ answered before
unfolding answered
answered_still s before none other =
    cond-false _ _ _ (ap is_some none) ∙ ap (λ o. option_or o (answered before)) (other (is_draining before))

-- and the length of its body
pub len_still : (s : Step) (before : List Step) → head_of s.outcome ≡ None → chunk_len s.event ≡ 0 → answer_len (s ∷ before) ≡ answer_len before
unfolding answer_len
len_still s before none other = cond-false _ _ _ (ap is_some none) ∙ omega (arith, other)

-- a step of a connection that closes
leaves : (s : Step) (before : List Step) → IsStill s.event → IsPlain s.outcome → Leaves s before
leaves s before e o = record {
  told = told_still s before o.1;
  failed = ap (λ b. b || list_any (λ t. is_body_error t.event) before) e.body_error;
  ended = since_still is_body_end s before o.0 e.body_end;
  dropped = since_still is_drop s before o.0 e.drop;
  complete = since_still completes s before o.0 e.completes;
  request = request_still s before o.0;
  answered = answered_still s before o.0 e.answers;
  len = len_still s before o.0 e.chunk;
  accepted = accepted-cons s before ∙ ap (λ a. option_or a (accepted before)) (e.accepts s.outcome);
  input_ended = ap (λ b. b || has_ended before) e.eof;
  draining = ap (λ b. b || is_draining before) e.drain;
  count = head_count-more s before o.0;
  frames = omega (arith, given_frames-more s before o.0, o.2);
}

-- ---- the reason

-- the answer's body
body_same : (s : Step) (before : List Step) → Leaves s before → body_end_of (s ∷ before) ≡ body_end_of before
body_same s before x = λ i.
    option_or (end_where (x.failed i) ends.body)
    (end_where (x.ended i && is_short (x.request i) (x.answered i) (x.len i)) ends.body_short)

-- the current message and the one behind it
current_same : (x : ParsedStep) (before : List ParsedStep) → x.parse ≡ parse_of before
    → head_count (x.step ∷ steps before) ≡ head_count (steps before)
    → (current (x ∷ before) ≡ current before) × (upcoming (x ∷ before) ≡ upcoming before)
current_same x before parse count = (
  (λ i. if count i == 0 then None else slice_get (parse i) (count i - 1)),
  (λ i. slice_get (parse i) (count i)),
)

-- a body that isn't read to its end
unread_same : (s : Step) (before : List Step) (m : Option Message) → Leaves s before → unread_by (s ∷ before) m ≡ unread_by before m
unread_same s before None l = refl
unread_same s before (Some m) l = ap (λ dropped. unread_end m.body (has_chunks m.reading && dropped)) l.dropped

-- a complete answer
answered_same : (setting : Setting) (x : ParsedStep) (before : List ParsedStep) → Leaves x.step (steps before) → current (x ∷ before) ≡ current before
    → answered_end setting (x ∷ before) ≡ answered_end setting before
answered_same setting x before l now =
    let unread = unread_same x.step (steps before) (current (x ∷ before)) l ∙ ap (unread_by (steps before)) now in
    λ i. if l.complete i then option_or (asked_by setting (l.request i) (l.answered i)) (unread i) else None

-- whether the last request is open
open_same : (s : Step) (before : List Step) → Leaves s before → is_open (s ∷ before) ≡ is_open before
open_same s before l = λ i. is_some (l.request i) && (is_some (l.accepted i) || not (l.complete i))

-- the frames that are left
frames_same : (s : Step) (before : List Step) (m : Option Message) → Leaves s before → has_more_frames (s ∷ before) m ≡ has_more_frames before m
frames_same s before None l = refl
frames_same s before (Some m) l = ap (λ given. nat_lt given (length (frames_of m.body)) || is_some (fail_of m.body)) l.frames

-- why the connection closes
closing_same : (setting : Setting) (x : ParsedStep) (before : List ParsedStep) → Leaves x.step (steps before) → x.parse ≡ parse_of before
    → closing setting (x ∷ before) ≡ closing setting before
unfolding closing
closing_same setting x before l parse =
    let messages = current_same x before parse l.count in
    let body = body_same x.step (steps before) l in
    let answer = answered_same setting x before l messages.0 in
    let opened = open_same x.step (steps before) l in
    let more = frames_same x.step (steps before) (current (x ∷ before)) l ∙ ap (has_more_frames (steps before)) messages.0 in
    let same : reasons_of setting (x ∷ before) ≡ reasons_of setting before =
    λ i. record {
      answered_end = answer i;
      is_draining = l.draining i;
      is_open = opened i;
      is_upgraded = is_some (l.accepted i);
      has_ended = l.input_ended i;
      is_exhausted = if is_some (l.accepted i) then not (more i) else not (opened i) && is_none (messages.1 i);
    } in
    λ i. option_or (l.told i) (option_or (body i) (end_by setting (same i)))

-- ---- every past

-- behind a legal past
pub reason_stays : (setting : Setting) (x : ParsedStep) (before : List ParsedStep) (end : End) → Legal setting (x ∷ before)
    → closing setting before ≡ Some end → closing setting (x ∷ before) ≡ Some end
reason_stays setting x before end legal closes =
    let allowed = allowed_closing setting before x.step.event end closes legal.1 in
    let e = still (steps before) x.step.event allowed in
    let o = subst IsPlain (sym legal.2) (plain setting before x.step.event end closes allowed) in
    let same = same_input setting x.step (steps before) (e.takes x.step.outcome) e.eof (e.accepts x.step.outcome) in
    let parse = same_parse setting x before same legal.0 (parsed setting before legal.3) in
    closing_same setting x before (leaves x.step (steps before) e o) parse ∙ closes

-- behind a trace
pub reason_kept : (setting : Setting) (s : Step) (before : List Step) (p q : List ParsedStep) (end : End) → IsTrace setting (s ∷ before)
    → IsPastOf setting before p → IsPastOf setting (s ∷ before) q → closing setting p ≡ Some end → closing setting q ≡ Some end
reason_kept setting s before p [] end t x y closes = absurd (omega (arith, ap length y.same))
reason_kept setting s before p (m ∷ after) end t x y closes =
    let earlier : IsPastOf setting before after =
    record { same = ap (drop 1) y.same; right = y.right.1 } in
    let same = past_of_unique setting before p after x earlier in
    reason_stays setting m after end (legal_of setting (s ∷ before) (m ∷ after) t y) (sym (ap (closing setting) same) ∙ closes)
