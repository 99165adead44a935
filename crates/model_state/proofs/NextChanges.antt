-- What a call for the next head changes.
use Rattle.std.proofs.Common.{◌≡◌, ℕ, Bool, true, false, List, [], ◌∷◌, ◌++◌, length, drop, slice_range, Option, Some, None, refl, sym, ap, ◌∙◌, subst, inl, inr, append-nil, length-drop}
use Rattle.std.specs.Prelude.{◌&&◌, ◌||◌, ◌==◌, not, is_some, IsTrue, if◌then◌else◌}
use Rattle.std.specs.Option.{option_or}
use Rattle.std.proofs.lemmas.Bool.{cond-true, cond-false, cases_Bool, true≢false, and_parts, not-true}
use Rattle.model_h1.specs.Request.{Fault, too_large, Reading, head_is, faulty}
use Rattle.model_h1.specs.RequestHead.{IsReadingWithin}
use Rattle.model_h1.specs.Setting.{Setting}
use Rattle.model_h1.specs.Parse.{Message}
use Rattle.model_h1.specs.End.{End}
use Rattle.model_h1.specs.Event.{Event, Outcome}
use Rattle.model_h1.specs.Event as on
use Rattle.model_h1.specs.Sums.{Step, step_written, taken, is_open, now}
use Rattle.model_h1.specs.Past.{ParsedStep, steps, upcoming, passed, held}
use Rattle.model_h1.specs.Text.{step_text, buffered, fault_answer}
use Rattle.model_h1.specs.Closing.{fault_end, told_end, closing}
use Rattle.model_h1.specs.Allowed.{is_over_by, is_over, is_allowed}
use Rattle.model_h1.specs.OutcomeTable.{head_outcome, upcoming_outcome, next_outcome, outcome_of}
use Rattle.model_h1.proofs.PastLemmas.{Legal}
use Rattle.model_state.specs.Kept.{Kept}
use Rattle.model_state.specs.Local.{closing_by}
use Rattle.model_state.specs.Kept.{Change}
use Rattle.model_state.specs.Change.{behind_head, without_head, IsUpcoming, IsNext}
use Rattle.model_state.specs.KeptOf.{kept_of}
use Rattle.model_state.proofs.Changes.{Changes}
use Rattle.model_state.proofs.Kernel.{closing_of}
use Rattle.model_state.proofs.StepSums.{buffered-more}
use Rattle.model_state.proofs.QuietParts.{passed-quiet}
use Rattle.model_state.proofs.CalmSteps.{calm_next, taken-calm, calm_parts}
use Rattle.model_state.proofs.StillSteps.{IsStill, still_quiet, exchange_still}
use Rattle.model_state.proofs.NextHeads.{next_at, head_changes}
use Rattle.model_state.proofs.StepForms.{at_event}

-- a call for the next head, with its outcome
abbrev next_of : Outcome → List Message → ParsedStep
next_of o parse = record { step = record { event = on.next; outcome = o }; parse = parse }

-- its outcome
next_answers : (setting : Setting) (past : List ParsedStep) → outcome_of setting past on.next ≡ next_outcome setting past (closing setting past)
unfolding outcome_of
next_answers setting past = refl

-- ---- nothing is handed out

-- the outcome leaves all but what is told, what is written, and whether all is over
record IsMild (o : Outcome) : Type 0 where
  pub still : IsStill (record { event = on.next; outcome = o })
  pub written : step_written o ≡ []

-- that the connection closes
mild_closed : (end : End) → IsMild (on.closed end)
mild_closed end = record {
  still = record { calm = calm_next; pull = refl; accepts = refl; head = refl; bytes = refl; frames = refl };
  written = refl;
}

-- a fault
mild_fault : (f : Fault) → IsMild (on.fault f)
mild_fault f = record {
  still = record { calm = calm_next; pull = refl; accepts = refl; head = refl; bytes = refl; frames = refl };
  written = refl;
}

-- and that nothing is there yet
mild_pending : IsMild on.pending
mild_pending = record {
  still = record { calm = calm_next; pull = refl; accepts = refl; head = refl; bytes = refl; frames = refl };
  written = refl;
}

-- what such a step changes
mild_changes : (setting : Setting) (before : List ParsedStep) (o : Outcome) (parse : List Message) (over : Bool) (text : List ℕ) (end : Option End)
    → Legal setting (next_of o parse ∷ before) → IsMild o
    → IsNext setting (kept_of setting before) (closing_by setting (kept_of setting before))
    (record { outcome = o; kept = record (kept_of setting before) { is_over = over; buffered = text; failed = end } })
    → over ≡ (is_over_by o || is_over (steps before)) → text ≡ buffered setting (steps before) ++ step_text setting (steps before) on.next o
    → end ≡ option_or (told_end o) (kept_of setting before).failed
    → Changes setting before (next_of o parse)
mild_changes setting before o parse over text end l w is f h k =
    let t = steps before in
    let x = next_of o parse in
    let place = passed-quiet setting x before l (still_quiet before x.step w.still) refl in
    let bytes = taken-calm x.step t calm_next in
    record {
      change = record { outcome = o; kept = record (kept_of setting before) { is_over = over; buffered = text; failed = end } };
      changes = is;
      answers = refl;
      parts = calm_parts setting before x (kept_of setting before).unread over (kept_of setting before).exchange text end calm_next w.still.head
          (λ i. drop (sym place i) (sym bytes i)) f (exchange_still setting before x l w.still)
          (h ∙ sym (buffered-more setting x.step before l.3 w.written)) k;
      since = refl;
    }

-- the text of a step: of the end
closed_text : (setting : Setting) (t : List Step) (end : End) → step_text setting t on.next (on.closed end) ≡ []
unfolding step_text
closed_text setting t end = refl

-- of a fault
fault_text : (setting : Setting) (t : List Step) (f : Fault) → step_text setting t on.next (on.fault f) ≡ fault_answer f (now t)
unfolding step_text
fault_text setting t f = refl

-- of nothing
pending_text : (setting : Setting) (t : List Step) → step_text setting t on.next on.pending ≡ []
unfolding step_text
pending_text setting t = refl

-- the connection closes
closed_changes : (setting : Setting) (before : List ParsedStep) (parse : List Message) (end : End)
    → Legal setting (next_of (on.closed end) parse ∷ before)
    → closing setting before ≡ Some end → Changes setting before (next_of (on.closed end) parse)
closed_changes setting before parse end l e =
    let t = steps before in
    let k = kept_of setting before in
    let c : Change = record { outcome = on.closed end; kept = record k { is_over = true } } in
    let is : IsNext setting k (Some end) c = refl in
    mild_changes setting before (on.closed end) parse true k.buffered k.failed l (mild_closed end)
    (subst (λ closes. IsNext setting k closes c) (sym (closing_of setting before l.3 ∙ e)) is) refl
    (sym (ap (λ b. k.buffered ++ b) (closed_text setting t end) ∙ append-nil k.buffered)) refl

-- while it is open
open_is : (setting : Setting) (before : List ParsedStep) (c : Change) (coming : Bool) → Legal setting before → closing setting before ≡ None
    → (kept_of setting before).is_coming ≡ coming → IsUpcoming setting (kept_of setting before) coming c
    → IsNext setting (kept_of setting before) (closing_by setting (kept_of setting before)) c
open_is setting before c coming l e comes is =
    let k = kept_of setting before in
    let here : IsNext setting k None c = subst (λ b. IsUpcoming setting k b c) (sym comes) is in
    subst (λ closes. IsNext setting k closes c) (sym (closing_of setting before l ∙ e)) here

-- a fault is told
fault_changes : (setting : Setting) (before : List ParsedStep) (parse : List Message) (f : Fault) (end : ℕ)
    → Legal setting (next_of (on.fault f) parse ∷ before)
    → IsNext setting (kept_of setting before) (closing_by setting (kept_of setting before)) (behind_head (kept_of setting before) end (faulty f))
    → Changes setting before (next_of (on.fault f) parse)
fault_changes setting before parse f end l is =
    let t = steps before in
    let k = kept_of setting before in
    mild_changes setting before (on.fault f) parse k.is_over (k.buffered ++ fault_answer f (now t)) (Some (fault_end f)) l (mild_fault f) is refl
    (sym (ap (λ b. k.buffered ++ b) (fault_text setting t f))) refl

-- how many bytes are held
held_len : (setting : Setting) (past : List ParsedStep) → length (kept_of setting past).unread ≡ held past
held_len setting past = length-drop (passed past) (taken (steps past))

-- no head is there yet, or there can't be one
without_changes : (setting : Setting) (before : List ParsedStep) (parse : List Message) (o : Outcome) → Legal setting (next_of o parse ∷ before)
    → closing setting before ≡ None → (kept_of setting before).is_coming ≡ false → o ≡ upcoming_outcome setting before None
    → Changes setting before (next_of o parse)
without_changes setting before parse o l e comes is =
    let t = steps before in
    let k = kept_of setting before in
    let len = ap (λ n. n == setting.hold_size) (held_len setting before) in
    let P : Outcome → Type 0 = λ v. Legal setting (next_of v parse ∷ before) → Changes setting before (next_of v parse) in
    elim (cases_Bool (held before == setting.hold_size)) [
      | inl full ↦
          let same : o ≡ on.fault too_large = is ∙ cond-true _ _ _ full in
          let change : behind_head k 0 (faulty too_large) ≡ without_head setting k = sym (cond-true _ _ _ (len ∙ full)) in
          subst P (sym same) (λ l'. fault_changes setting before parse too_large 0 l' (open_is setting before _ false l.3 e comes change)) l
      | inr room ↦
          let same : o ≡ on.pending = is ∙ cond-false _ _ _ room in
          let c : Change = record { outcome = on.pending; kept = k } in
          let change : c ≡ without_head setting k = sym (cond-false _ _ _ (len ∙ room)) in
          subst P (sym same)
          (λ l'. mild_changes setting before on.pending parse k.is_over k.buffered k.failed l' mild_pending (open_is setting before c false l.3 e comes change) refl
          (sym (ap (λ b. k.buffered ++ b) (pending_text setting t) ∙ append-nil k.buffered)) refl) l
    ]

-- ---- a message is to come

-- by what its head is read as
coming_changes : (setting : Setting) (before : List ParsedStep) (parse : List Message) (o : Outcome) (m : Message) (r : Reading)
    → Legal setting (next_of o parse ∷ before)
    → closing setting before ≡ None → is_open (steps before) ≡ false → upcoming before ≡ Some m → m.reading ≡ r → o ≡ head_outcome r
    → Changes setting before (next_of o parse)
coming_changes setting before parse o m r l e shut up read is = by_reading r read is
  where
    k : Kept
    k = kept_of setting before

    comes : k.is_coming ≡ true
    comes = λ i. not (shut i) && is_some (up i)

    by_reading : (r : Reading) → m.reading ≡ r → o ≡ head_outcome r → Changes setting before (next_of o parse)
    by_reading (head_is h) read is =
        let P : Outcome → Type 0 = λ v. Legal setting (next_of v parse ∷ before) → Changes setting before (next_of v parse) in
        subst P (sym is)
        (λ l'. head_changes setting before parse m h (record { legal = l'; shut = shut; open_yet = e; upcoming_is = up; reading = read })
        (λ c y. open_is setting before c true l.3 e comes y)) l
    by_reading (faulty f) read is =
        let P : Outcome → Type 0 = λ v. Legal setting (next_of v parse ∷ before) → Changes setting before (next_of v parse) in
        let at = next_at setting before m l.3 shut up in
        let reads = subst (λ v. IsReadingWithin setting.hold_size (slice_range k.unread at.start at.end) v) read at.reading in
        subst P (sym is)
        (λ l'. fault_changes setting before parse f at.end l'
        (open_is setting before _ true l.3 e comes (at.start, at.end, faulty f, at.piece, reads, refl))) l

-- ---- all of it

-- while the connection doesn't close, the next head is called for where no request is open
running_test : (closes closed opened : Bool) → (if closes then closed else opened) ≡ true → closes ≡ false → opened ≡ true
running_test true closed opened x e = absurd (true≢false e)
running_test false closed opened x e = x

-- so of a legal call
shut_next : (setting : Setting) (past : List ParsedStep) → IsTrue (is_allowed setting past on.next) → closing setting past ≡ None
    → is_open (steps past) ≡ false
unfolding is_allowed
shut_next setting past ok e =
    not-true (is_open (steps past)) (running_test (is_some (closing setting past)) true (not (is_open (steps past))) (and_parts _ _ ok).1 (ap is_some e))

-- by whether the connection closes, and by the message that is to come
next_by : (setting : Setting) (before : List ParsedStep) (parse : List Message) (o : Outcome) (end : Option End) (m : Option Message)
    → Legal setting (next_of o parse ∷ before) → closing setting before ≡ end → upcoming before ≡ m → o ≡ next_outcome setting before end
    → Changes setting before (next_of o parse)
next_by setting before parse o (Some end) m l e up is =
    let P : Outcome → Type 0 = λ v. Legal setting (next_of v parse ∷ before) → Changes setting before (next_of v parse) in
    subst P (sym is) (λ l'. closed_changes setting before parse end l' e) l
next_by setting before parse o None None l e up is =
    without_changes setting before parse o l e (coming_none (is_open (steps before)) ∙ refl) (is ∙ ap (upcoming_outcome setting before) up)
  where
    coming_none : (b : Bool) → (not b && is_some (upcoming before)) ≡ false
    coming_none true = refl
    coming_none false = ap is_some up
next_by setting before parse o None (Some m) l e up is =
    coming_changes setting before parse o m m.reading l e (shut_next setting before l.1 e) up refl (is ∙ ap (upcoming_outcome setting before) up)

-- with its outcome
next_of_changes : (setting : Setting) (before : List ParsedStep) (o : Outcome) (parse : List Message) → Legal setting (next_of o parse ∷ before)
    → Changes setting before (next_of o parse)
next_of_changes setting before o parse l =
    next_by setting before parse o (closing setting before) (upcoming before) l refl refl (l.2 ∙ next_answers setting before)

-- the next request is asked for
pub next_changes : (setting : Setting) (before : List ParsedStep) (x : ParsedStep) → Legal setting (x ∷ before) → x.step.event ≡ on.next
    → Changes setting before x
next_changes setting before x l e = at_event setting before x on.next l e (next_of_changes setting before)
