-- The events that change the last request and complete no answer: a drop, telling a client to go on, a piece of a body.
use Rattle.std.proofs.Common.{◌≡◌, ℕ, ◌-◌, true, false, List, [], ◌∷◌, ◌++◌, length, Option, Some, None, refl, sym, ap, ◌∙◌, inl, inr, arith}
use Rattle.std.specs.Prelude.{◌&&◌, not, is_some}
use Rattle.std.proofs.lemmas.Bool.{and_parts, cond-false, not-true, false≢true}
use Rattle.model_h1.specs.Request.{Head}
use Rattle.model_h1.specs.Setting.{Setting}
use Rattle.model_h1.specs.Answer.{Asked, asked_of, Shape, shape_none, shape_chunked, shape_raw, shape_length, shape_of, type_of}
use Rattle.model_h1.specs.AnswerText.{sent_piece, interim_text}
use Rattle.model_h1.specs.Parse.{Message}
use Rattle.model_h1.specs.Event as on
use Rattle.model_h1.specs.Sums.{Step, request, Answered, answered as answer_of, is_answering, is_complete, is_upgraded, had_continue, answer_len}
use Rattle.model_h1.specs.Past.{ParsedStep, steps}
use Rattle.model_h1.specs.Text.{chunk_sent, step_text}
use Rattle.model_h1.specs.Allowed.{has_body_left, waits_for_answer, request_expects, has_room}
use Rattle.model_h1.specs.OutcomeTable.{outcome_of}
use Rattle.model_h1.proofs.PastLemmas.{Legal}
use Rattle.model_h1.proofs.StepLemmas.{Quiet, allowed_open}
use Rattle.model_state.specs.Kept.{sending, answered, Exchange, Kept}
use Rattle.model_state.specs.Reply.{stated, piece_sent, sending_piece}
use Rattle.model_state.specs.KeptOf.{reply_of, exchange_with, kept_of}
use Rattle.model_state.specs.Change.{doing_with}
use Rattle.model_state.proofs.Changes.{Changes}
use Rattle.model_state.proofs.Current.{Current, current_of}
use Rattle.model_state.proofs.Parts.{none_answered}
use Rattle.model_state.proofs.StepSums.{answered-more, answer_len-more, is_sending-cons, buffered-more}
use Rattle.model_state.proofs.QuietParts.{complete-quiet, rest-quiet, exchange-quiet, clock-quiet, kept-quiet, short-stays, short-open, told-stays}
use Rattle.model_state.proofs.StepForms.{made, at_step, with_exchange, kept_current, open_request, no_request, unended}
use Rattle.model_state.proofs.QuietChanges.{reply-stays, buffered-quiet}

-- ---- a drop

-- its outcome
drop_done : (setting : Setting) (before : List ParsedStep) → outcome_of setting before on.drop_body ≡ on.done
unfolding outcome_of
drop_done setting before = refl

-- it writes nothing
drop_silent : (setting : Setting) (before : List Step) → step_text setting before on.drop_body on.done ≡ []
unfolding step_text
drop_silent setting before = refl

-- its step
drop_made : (setting : Setting) (before : List ParsedStep) (parse : List Message) → Legal setting (made on.drop_body on.done parse ∷ before)
    → Changes setting before (made on.drop_body on.done parse)
drop_made setting before parse l = elim (current_of setting before l.3) [
  | inl none ↦
      let t = steps before in
      let left = (and_parts (not (is_upgraded t)) (has_body_left t (request t)) (allowed_open setting before on.drop_body refl l.1)).1 in
      absurd (false≢true (sym (ap (has_body_left t) none.request_is) ∙ left))
  | inr (m, h, c) ↦
      let t = steps before in
      let x = made on.drop_body on.done parse in
      let k = kept_of setting before in
      let old = exchange_with setting before m h in
      let act : Exchange → Kept → Kept = λ x k. record k { exchange = Some (record x { was_dropped = true }) } in
      let q : Quiet before x.step = record { taken = refl; eof = refl; accepted = refl; pull = refl; head = refl; bytes = refl; frames = refl } in
      let rest = rest-quiet setting x before m h.body l q refl in
      let reply = reply-stays setting x before h q refl refl refl in
      let exchange = exchange-quiet setting x before m h l q c ∙ (λ i. Some (record old { rest = rest i; reply = reply i; was_dropped = true })) in
      record {
        change = doing_with act (with_exchange k (Some old));
        changes = ap (doing_with act) (sym (kept_current setting before m h c));
        answers = refl;
        parts = kept-quiet setting x before (Some (record old { was_dropped = true })) k.buffered k.is_sending k.clock k.failed l q refl exchange
            (buffered-quiet setting x.step before l.3 refl (drop_silent setting t)) (is_sending-cons x.step t) (clock-quiet x.step t refl refl)
            (told-stays x.step t refl refl (short-stays x.step t refl refl refl refl));
        since = refl;
      }
]

-- what it changes
pub drop_changes : (setting : Setting) (before : List ParsedStep) (x : ParsedStep) → Legal setting (x ∷ before) → x.step.event ≡ on.drop_body
    → Changes setting before x
drop_changes setting before x l e = at_step setting before x on.drop_body on.done l e (drop_done setting before) (drop_made setting before)

-- ---- telling a client to go on

-- its outcome
continue_done : (setting : Setting) (before : List ParsedStep) → outcome_of setting before on.send_continue ≡ on.done
unfolding outcome_of
continue_done setting before = refl

-- its text
continue_text : (setting : Setting) (before : List Step) → step_text setting before on.send_continue on.done ≡ interim_text
unfolding step_text
continue_text setting before = refl

-- its step
continue_made : (setting : Setting) (before : List ParsedStep) (parse : List Message) → Legal setting (made on.send_continue on.done parse ∷ before)
    → Changes setting before (made on.send_continue on.done parse)
continue_made setting before parse l = elim (current_of setting before l.3) [
  | inl none ↦
      let t = steps before in
      let ok = allowed_open setting before on.send_continue refl l.1 in
      let waits = (and_parts (waits_for_answer t) (request_expects (request t) && not (had_continue t)) ok).0 in
      absurd (no_request t none.request_is (open_request t waits).0)
  | inr (m, h, c) ↦
      let t = steps before in
      let x = made on.send_continue on.done parse in
      let k = kept_of setting before in
      let old = exchange_with setting before m h in
      let act : Exchange → Kept → Kept = λ x k. record k { buffered = k.buffered ++ interim_text; exchange = Some (record x { had_continue = true }) } in
      let q : Quiet before x.step = record { taken = refl; eof = refl; accepted = refl; pull = refl; head = refl; bytes = refl; frames = refl } in
      let rest = rest-quiet setting x before m h.body l q refl in
      let reply = reply-stays setting x before h q refl refl refl in
      let exchange = exchange-quiet setting x before m h l q c
      ∙ (λ i. Some (record old { rest = rest i; reply = reply i; had_continue = true })) in
      record {
        change = doing_with act (with_exchange k (Some old));
        changes = ap (doing_with act) (sym (kept_current setting before m h c));
        answers = refl;
        parts = kept-quiet setting x before (Some (record old { had_continue = true })) (k.buffered ++ interim_text) k.is_sending k.clock k.failed l q refl exchange
            (buffered-more setting x.step before l.3 refl ∙ ap (λ l. k.buffered ++ l) (continue_text setting t)) (is_sending-cons x.step t)
            (clock-quiet x.step t refl refl) (told-stays x.step t refl refl (short-stays x.step t refl refl refl refl));
        since = refl;
      }
]

-- what it changes
pub continue_changes : (setting : Setting) (before : List ParsedStep) (x : ParsedStep) → Legal setting (x ∷ before) → x.step.event ≡ on.send_continue
    → Changes setting before x
continue_changes setting before x l e = at_step setting before x on.send_continue on.done l e (continue_done setting before) (continue_made setting before)

-- ---- a body that is going out

-- an answer that is handed in and isn't complete
pub going_out : (trace : List Step) → is_answering trace ≡ true → ((a : Answered) × (answer_of trace ≡ Some a)) × (is_complete trace ≡ false)
going_out trace x =
    let parts = and_parts (is_some (answer_of trace)) (not (is_complete trace)) x in
    (some_is (answer_of trace) parts.0, not-true (is_complete trace) parts.1)
  where
    some_is : (o : Option Answered) → is_some o ≡ true → (a : Answered) × (o ≡ Some a)
    some_is None e = absurd (false≢true e)
    some_is (Some a) e = (a, refl)

-- its shape, and what becomes of the connection behind it
abbrev pub shape_by : Head → Answered → Shape
shape_by h a = shape_of (asked_of h) a.head a.size

-- the last request with such an answer
abbrev pub with_reply : Setting → List ParsedStep → Message → Head → Answered → ℕ → Exchange
with_reply setting past m h a missing =
    record (exchange_with setting past m h) { reply = sending (shape_by h a) (type_of setting a.drained (asked_of h) a.head a.size) missing }

-- as it is kept
pub reply-sending : (setting : Setting) (trace : List Step) (h : Head) (a : Answered) → answer_of trace ≡ Some a → is_complete trace ≡ false
    → reply_of setting trace h (answer_of trace)
    ≡ sending (shape_by h a) (type_of setting a.drained (asked_of h) a.head a.size) (stated (shape_by h a) - answer_len trace)
reply-sending setting trace h a e incomplete =
    ap (reply_of setting trace h) e
    ∙ cond-false (is_complete trace) (answered (type_of setting a.drained (asked_of h) a.head a.size))
    (sending (shape_by h a) (type_of setting a.drained (asked_of h) a.head a.size) (stated (shape_by h a) - answer_len trace)) incomplete

-- the state with such a request
pub kept_sending : (setting : Setting) (past : List ParsedStep) (m : Message) (h : Head) (a : Answered) → Current setting past m h
    → answer_of (steps past) ≡ Some a → is_complete (steps past) ≡ false
    → kept_of setting past
    ≡ with_exchange (kept_of setting past) (Some (with_reply setting past m h a (stated (shape_by h a) - answer_len (steps past))))
kept_sending setting past m h a c e incomplete =
    let reply = reply-sending setting (steps past) h a e incomplete in
    kept_current setting past m h c ∙ (λ i. with_exchange (kept_of setting past) (Some (record (exchange_with setting past m h) { reply = reply i })))

-- ---- a piece of a body

-- its outcome
chunk_done : (setting : Setting) (before : List ParsedStep) (bytes : List ℕ) → outcome_of setting before (on.chunk bytes) ≡ on.done
unfolding outcome_of
chunk_done setting before bytes = refl

-- its text
chunk_text_is : (setting : Setting) (before : List Step) (bytes : List ℕ)
    → step_text setting before (on.chunk bytes) on.done ≡ chunk_sent (answer_len before) bytes (request before) (answer_of before)
unfolding step_text
chunk_text_is setting before bytes = refl

-- a piece goes out in both alike
piece_same : (asked : Asked) (shape : Shape) (len : ℕ) (bytes : List ℕ)
    → sent_piece asked shape len bytes ≡ piece_sent asked shape (stated shape - len) bytes
piece_same asked shape_none len bytes = refl
piece_same asked shape_chunked len bytes = refl
piece_same asked shape_raw len bytes = refl
piece_same asked (shape_length n) len bytes = refl

-- its step
chunk_made : (setting : Setting) (before : List ParsedStep) (bytes : List ℕ) (parse : List Message)
    → Legal setting (made (on.chunk bytes) on.done parse ∷ before)
    → Changes setting before (made (on.chunk bytes) on.done parse)
chunk_made setting before bytes parse l =
    let t = steps before in
    let x = made (on.chunk bytes) on.done parse in
    let ok = (and_parts (is_answering t) (has_room setting t) (allowed_open setting before (on.chunk bytes) refl l.1)).0 in
    let out = going_out t ok in
    elim (current_of setting before l.3) [
      | inl none ↦ absurd (false≢true (sym (none_answered setting before l.3 none) ∙ ap is_some out.0.1))
      | inr (m, h, c) ↦
          let k = kept_of setting before in
          let a = out.0.0 in
          let shape = shape_by h a in
          let kind = type_of setting a.drained (asked_of h) a.head a.size in
          let missing = stated shape - answer_len t in
          let old = with_reply setting before m h a missing in
          let new = record old { reply = sending shape kind (missing - length bytes) } in
          let text = k.buffered ++ piece_sent (asked_of h) shape missing bytes in
          let q : Quiet before x.step = record { taken = refl; eof = refl; accepted = refl; pull = refl; head = refl; bytes = refl; frames = refl } in
          let rest = rest-quiet setting x before m h.body l q refl in
          let answer : answer_of (x.step ∷ t) ≡ Some a = answered-more x.step t refl ∙ out.0.1 in
          let less : stated shape - answer_len (x.step ∷ t) ≡ missing - length bytes = omega (arith, answer_len-more x.step t refl) in
          let reply = reply-sending setting (x.step ∷ t) h a answer (complete-quiet x before q refl ∙ out.1) ∙ ap (sending shape kind) less in
          let exchange = exchange-quiet setting x before m h l q c ∙ (λ i. Some (record old { rest = rest i; reply = reply i })) in
          let request_is = c.request_is in
          let answer_is = out.0.1 in
          let sent : step_text setting t (on.chunk bytes) on.done ≡ piece_sent (asked_of h) shape missing bytes =
          chunk_text_is setting t bytes ∙ (λ i. chunk_sent (answer_len t) bytes (request_is i) (answer_is i))
          ∙ piece_same (asked_of h) shape (answer_len t) bytes in
          record {
            change = doing_with (sending_piece bytes) (with_exchange k (Some old));
            changes = ap (doing_with (sending_piece bytes)) (sym (kept_sending setting before m h a c out.0.1 out.1));
            answers = refl;
            parts = kept-quiet setting x before (Some new) text k.is_sending k.clock k.failed l q refl exchange
                (buffered-more setting x.step before l.3 refl ∙ ap (λ l. k.buffered ++ l) sent) (is_sending-cons x.step t)
                (clock-quiet x.step t refl refl) (told-stays x.step t refl refl (short-open x.step t refl refl (unended t out.1)));
            since = refl;
          }
    ]

-- what it changes
pub chunk_changes : (setting : Setting) (before : List ParsedStep) (x : ParsedStep) (bytes : List ℕ) → Legal setting (x ∷ before)
    → x.step.event ≡ on.chunk bytes
    → Changes setting before x
chunk_changes setting before x bytes l e = at_step setting before x (on.chunk bytes) on.done l e (chunk_done setting before bytes) (chunk_made setting before bytes)
