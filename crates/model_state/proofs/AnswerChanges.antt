-- An answer that is handed in: it is complete at once, or its body is to be sent.
use Rattle.std.proofs.Common.{◌≡◌, ◌-◌, true, List, [], ◌∷◌, ◌++◌, Option, Some, None, refl, sym, ap, ◌∙◌, inl, inr, arith}
use Rattle.std.specs.Prelude.{◌||◌, not, is_some, IsTrue}
use Rattle.std.proofs.lemmas.Bool.{cases_Bool, cond-true, cond-false, and_parts, false≢true}
use Rattle.model_h1.specs.Request.{Head}
use Rattle.model_h1.specs.Setting.{Setting}
use Rattle.model_h1.specs.Answer.{AnswerHead, BodySize, is_at_once, asked_of, shape_of, type_of}
use Rattle.model_h1.specs.Parse.{Message}
use Rattle.model_h1.specs.Event.{Event}
use Rattle.model_h1.specs.Event as on
use Rattle.model_h1.specs.Sums.{Step, head_of, request, Answered, answered_by, answered as answer_of, is_answering, is_complete, is_draining, now, chunk_len, answer_len}
use Rattle.model_h1.specs.Past.{ParsedStep, steps}
use Rattle.model_h1.specs.Text.{answer_head_text, answer_text, step_text, buffered}
use Rattle.model_h1.specs.Allowed.{is_allowed, waits_for_answer, has_room}
use Rattle.model_h1.specs.OutcomeTable.{outcome_of}
use Rattle.model_h1.proofs.PastLemmas.{Legal}
use Rattle.model_h1.proofs.StepLemmas.{Quiet, allowed_open, complete-more}
use Rattle.model_state.specs.Kept.{sending, answered}
use Rattle.model_state.specs.Reply.{stated, completing, answering}
use Rattle.model_state.specs.KeptOf.{reply_of, exchange_with, kept_of}
use Rattle.model_state.specs.Change.{doing, doing_with}
use Rattle.model_state.proofs.Changes.{Changes}
use Rattle.model_h1.proofs.HeldLemmas.{not_upgraded}
use Rattle.model_state.proofs.Current.{Current, current_of}
use Rattle.model_state.proofs.StepSums.{answered-more, answer_len-more, is_sending-cons, buffered-more}
use Rattle.model_state.proofs.QuietParts.{complete-quiet, rest-quiet, exchange-quiet, clock-quiet, kept-quiet, short-open, told-stays}
use Rattle.model_state.proofs.StepForms.{made, at_step, kept_current, both_none, open_request, open_incomplete, no_request, unended}
use Rattle.model_state.proofs.ExchangeChanges.{reply-sending}
use Rattle.model_state.proofs.CompleteParts.{Completes, kept-completes, completing_since}

-- ---- how much was sent of an answer that isn't there

-- before all steps
answer_len-nil : answer_len [] ≡ 0
unfolding answer_len
answer_len-nil = refl

-- behind a head
answer_len-head : (s : Step) (before : List Step) (h : Head) → head_of s.outcome ≡ Some h → answer_len (s ∷ before) ≡ 0
unfolding answer_len
answer_len-head s before h some = cond-true _ _ _ (ap is_some some)

-- no piece is handed in where there is no answer
no_piece : (setting : Setting) (before : List ParsedStep) (e : Event) → IsTrue (is_allowed setting before e) → answer_of (steps before) ≡ None
    → chunk_len e ≡ 0
no_piece setting before (on.chunk bytes) ok none =
    let t = steps before in
    let out = (and_parts (is_answering t) (has_room setting t) (allowed_open setting before (on.chunk bytes) refl ok)).0 in
    absurd (false≢true (sym (ap is_some none) ∙ (and_parts (is_some (answer_of t)) (not (is_complete t)) out).0))
no_piece setting before _ ok none = refl

-- by whether the step hands out a head
still_unsent : (setting : Setting) (before : List ParsedStep) (x : ParsedStep) (o : Option Head) → Legal setting (x ∷ before)
    → head_of x.step.outcome ≡ o
    → answer_of (x.step ∷ steps before) ≡ None → (answer_of (steps before) ≡ None → answer_len (steps before) ≡ 0)
    → answer_len (x.step ∷ steps before) ≡ 0
still_unsent setting before x (Some h) l e none old = answer_len-head x.step (steps before) h e
still_unsent setting before x None l e none old =
    let parts = both_none (answered_by x.step.event (is_draining (steps before))) (answer_of (steps before)) (sym (answered-more x.step (steps before) e) ∙ none) in
    let piece = no_piece setting before x.step.event l.1 parts.1 in
    omega (arith, answer_len-more x.step (steps before) e, old parts.1)

-- so that nothing is sent of one
pub unanswered_len : (setting : Setting) (past : List ParsedStep) → Legal setting past → answer_of (steps past) ≡ None → answer_len (steps past) ≡ 0
unanswered_len setting [] l none = answer_len-nil
unanswered_len setting (x ∷ before) l none =
    still_unsent setting before x (head_of x.step.outcome) l refl none (unanswered_len setting before l.3)

-- ---- an answer

-- its outcome
answer_done : (setting : Setting) (before : List ParsedStep) (head : AnswerHead) (size : BodySize)
    → outcome_of setting before (on.answer head size) ≡ on.done
unfolding outcome_of
answer_done setting before head size = refl

-- its text
answer_text_is : (setting : Setting) (before : List Step) (head : AnswerHead) (size : BodySize)
    → step_text setting before (on.answer head size) on.done ≡ answer_text setting before head size (request before)
unfolding step_text
answer_text_is setting before head size = refl

-- the last request, of which the answer is handed in
answer_known : (setting : Setting) (before : List ParsedStep) (head : AnswerHead) (size : BodySize) (parse : List Message) (m : Message) (h : Head)
    → Legal setting (made (on.answer head size) on.done parse ∷ before) → Current setting before m h → waits_for_answer (steps before) ≡ true
    → Changes setting before (made (on.answer head size) on.done parse)
answer_known setting before head size parse m h l c ok =
    let t = steps before in
    let x = made (on.answer head size) on.done parse in
    let k = kept_of setting before in
    let old = exchange_with setting before m h in
    let a : Answered = record { head = head; size = size; drained = is_draining t } in
    let kind = type_of setting (is_draining t) (asked_of h) head size in
    let shape = shape_of (asked_of h) head size in
    let text = k.buffered ++ answer_head_text setting (is_draining t) (asked_of h) head size (now t) in
    let next = record k { buffered = text; exchange = Some old } in
    let act = answering setting head size in
    let q : Quiet before x.step = record { taken = refl; eof = refl; accepted = refl; pull = refl; head = refl; bytes = refl; frames = refl } in
    let incomplete = open_incomplete t ok in
    let answer : answer_of (x.step ∷ t) ≡ Some a = answered-more x.step t refl in
    let buffer : buffered setting (x.step ∷ t) ≡ text =
    buffered-more setting x.step before l.3 refl
    ∙ ap (λ l. k.buffered ++ l) (answer_text_is setting t head size ∙ ap (answer_text setting t head size) c.request_is) in
    let end = told-stays x.step t refl refl (short-open x.step t refl refl (unended t incomplete)) in
    let at_first = completing kind old next in
    let later = record next { exchange = Some (record old { reply = sending shape kind (stated shape) }) } in
    elim (cases_Bool (is_at_once size)) [
      | inl once ↦
          let s : Completes before x =
          record { quiet = q; completes = once; tick = refl; drain = refl; drop = refl; send_continue = refl; over = refl } in
          let complete : is_complete (x.step ∷ t) ≡ true = complete-more x.step t refl ∙ ap (λ b. b || is_complete t) once in
          let reply : reply_of setting (x.step ∷ t) h (answer_of (x.step ∷ t)) ≡ answered kind =
          ap (reply_of setting (x.step ∷ t) h) answer
          ∙ cond-true (is_complete (x.step ∷ t)) (answered kind) (sending shape kind (stated shape - answer_len (x.step ∷ t))) complete in
          record {
            change = doing at_first;
            changes = ap doing (sym (cond-true (is_at_once size) at_first later once))
                ∙ ap (doing_with act) (sym (kept_current setting before m h c));
            answers = refl;
            parts = kept-completes setting x before m h kind old.reply text k.failed l s c incomplete (not_upgraded t ok) reply buffer (is_sending-cons x.step t) end;
            since = completing_since kind old next;
          }
      | inr streams ↦
          let rest = rest-quiet setting x before m h.body l q streams in
          let none = unanswered_len setting before l.3 (open_request t ok).1 in
          let whole : stated shape - answer_len (x.step ∷ t) ≡ stated shape = omega (arith, answer_len-more x.step t refl) in
          let reply = reply-sending setting (x.step ∷ t) h a answer (complete-quiet x before q streams ∙ incomplete)
          ∙ ap (sending shape kind) whole in
          let exchange = exchange-quiet setting x before m h l q c ∙ (λ i. Some (record old { rest = rest i; reply = reply i })) in
          record {
            change = doing later;
            changes = ap doing (sym (cond-false (is_at_once size) at_first later streams))
                ∙ ap (doing_with act) (sym (kept_current setting before m h c));
            answers = refl;
            parts = kept-quiet setting x before (Some (record old { reply = sending shape kind (stated shape) })) text k.is_sending k.clock k.failed l q streams exchange
                buffer (is_sending-cons x.step t) (clock-quiet x.step t streams refl) end;
            since = refl;
          }
    ]

-- its step
answer_made : (setting : Setting) (before : List ParsedStep) (head : AnswerHead) (size : BodySize) (parse : List Message)
    → Legal setting (made (on.answer head size) on.done parse ∷ before) → Changes setting before (made (on.answer head size) on.done parse)
answer_made setting before head size parse l =
    let ok = allowed_open setting before (on.answer head size) refl l.1 in
    elim (current_of setting before l.3) [
      | inl none ↦ absurd (no_request (steps before) none.request_is (open_request (steps before) ok).0)
      | inr (m, h, c) ↦ answer_known setting before head size parse m h l c ok
    ]

-- what it changes
pub answer_changes : (setting : Setting) (before : List ParsedStep) (x : ParsedStep) (head : AnswerHead) (size : BodySize)
    → Legal setting (x ∷ before)
    → x.step.event ≡ on.answer head size → Changes setting before x
answer_changes setting before x head size l e =
    at_step setting before x (on.answer head size) on.done l e (answer_done setting before head size) (answer_made setting before head size)
