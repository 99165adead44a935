-- The events that leave the last request alone: drain, the body's failure, writing, and messages that are sent.
use Rattle.std.proofs.Common.{◌≡◌, ℕ, Bool, true, false, List, [], ◌∷◌, ◌++◌, take, drop, Option, Some, None, refl, sym, ap, ◌∙◌, append-nil, inl, inr, arith}
use Rattle.std.specs.Prelude.{◌||◌, ◌-◌, if◌then◌else◌}
use Rattle.std.specs.Option.{option_or}
use Rattle.model_h1.specs.Request.{Head}
use Rattle.model_h1.specs.Setting.{Setting}
use Rattle.model_h1.specs.Answer.{asked_of, shape_of, type_of}
use Rattle.model_h1.specs.Parse as parsed
use Rattle.model_h1.specs.Frame.{Message, ProtocolError}
use Rattle.model_h1.specs.Frame as frames
use Rattle.model_h1.specs.FrameText.{send_error}
use Rattle.model_h1.specs.End as ends
use Rattle.model_h1.specs.Event.{Event}
use Rattle.model_h1.specs.Event as on
use Rattle.model_h1.specs.Sums.{Step, step_written, is_drop, is_continue, is_body_end, is_body_error, is_draining, request, Answered, answered_by, answered as answer_of, completes, is_complete, was_dropped, had_continue, chunk_len, answer_len, under_way_behind, is_sending}
use Rattle.model_h1.specs.Past.{ParsedStep, steps, current}
use Rattle.model_h1.specs.Text.{step_text, message_text, buffered}
use Rattle.model_h1.specs.Closing.{told_end, told, body_end_of}
use Rattle.model_h1.specs.OutcomeTable.{send_outcome, outcome_of}
use Rattle.model_h1.proofs.PastLemmas.{Legal}
use Rattle.model_h1.proofs.StepLemmas.{Quiet}
use Rattle.model_h1.proofs.ClosingLemmas.{running}
use Rattle.model_state.specs.Kept.{sending, answered}
use Rattle.model_state.specs.Reply.{stated}
use Rattle.model_state.specs.KeptOf.{reply_of, exchange_with, exchange_of, kept_of}
use Rattle.model_state.specs.Change.{doing, sending_message}
use Rattle.model_state.proofs.Changes.{Changes}
use Rattle.model_state.proofs.Current.{current_of}
use Rattle.model_state.proofs.StepSums.{told-cons, answered-more, answer_len-more, is_sending-cons, buffered-more, buffered-write}
use Rattle.model_state.proofs.QuietParts.{complete-quiet, rest-quiet, exchange-quiet, exchange-none, clock-quiet, kept-quiet, short-stays, told-stays, told-now}
use Rattle.model_state.proofs.StepForms.{made, at_step, untold}

-- ---- events that are no part of an answer

-- The event is no answer and no part of one, completes none, and neither drops a body nor tells a client to go on.
pub record IsApart (e : Event) : Type 0 where
  pub answers : (drained : Bool) → answered_by e drained ≡ None
  pub chunk : chunk_len e ≡ 0
  pub completes : completes e ≡ false
  pub body_end : is_body_end e ≡ false
  pub drop : is_drop e ≡ false
  pub send_continue : is_continue e ≡ false

-- the answer as it is kept, by how far it is
reply_by : (setting : Setting) (s : Step) (before : List Step) (h : Head) (a : Option Answered) → is_complete (s ∷ before) ≡ is_complete before
    → answer_len (s ∷ before) ≡ answer_len before → reply_of setting (s ∷ before) h a ≡ reply_of setting before h a
reply_by setting s before h None complete len = refl
reply_by setting s before h (Some a) complete len =
    let kind = type_of setting a.drained (asked_of h) a.head a.size in
    let shape = shape_of (asked_of h) a.head a.size in
    λ i. if complete i then answered kind else sending shape kind (stated shape - len i)

-- the answer stays
pub reply-stays : (setting : Setting) (x : ParsedStep) (before : List ParsedStep) (h : Head) → Quiet before x.step → completes x.step.event ≡ false
    → answered_by x.step.event (is_draining (steps before)) ≡ None → chunk_len x.step.event ≡ 0
    → reply_of setting (x.step ∷ steps before) h (answer_of (x.step ∷ steps before)) ≡ reply_of setting (steps before) h (answer_of (steps before))
reply-stays setting x before h q incomplete no_answer no_chunk =
    let t = steps before in
    let len : answer_len (x.step ∷ t) ≡ answer_len t = answer_len-more x.step t q.head ∙ omega (arith, no_chunk) in
    let answer : answer_of (x.step ∷ t) ≡ answer_of t = answered-more x.step t q.head ∙ ap (λ o. option_or o (answer_of t)) no_answer in
    ap (reply_of setting (x.step ∷ t) h) answer ∙ reply_by setting x.step t h (answer_of t) (complete-quiet x before q incomplete) len

-- and with it the last request
pub exchange-apart : (setting : Setting) (x : ParsedStep) (before : List ParsedStep) → Legal setting (x ∷ before) → Quiet before x.step
    → IsApart x.step.event
    → exchange_of setting (x ∷ before) (current (x ∷ before)) (request (x.step ∷ steps before)) ≡ (kept_of setting before).exchange
exchange-apart setting x before l q a = elim (current_of setting before l.3) [
  | inl none ↦ exchange-none setting x before l q none ∙ sym (ap (λ o. exchange_of setting before o (request (steps before))) none.current_is)
  | inr (m, h, c) ↦
      let t = steps before in
      let rest = rest-quiet setting x before m h.body l q a.completes in
      let reply = reply-stays setting x before h q a.completes (a.answers (is_draining t)) a.chunk in
      let dropped = ap (λ b. b || was_dropped t) a.drop in
      let told = ap (λ b. b || had_continue t) a.send_continue in
      exchange-quiet setting x before m h l q c
      ∙ (λ i. Some (record (exchange_with setting before m h) {
        rest = rest i;
        reply = reply i;
        was_dropped = dropped i;
        had_continue = told i;
      }))
      ∙ sym (λ i. exchange_of setting before (c.current_is i) (c.request_is i))
]

-- the end that was told stays
pub told-apart : (x : ParsedStep) (before : List ParsedStep) → Quiet before x.step → IsApart x.step.event → told_end x.step.outcome ≡ None
    → is_body_error x.step.event ≡ false
    → option_or (told (x.step ∷ steps before)) (body_end_of (x.step ∷ steps before)) ≡ option_or (told (steps before)) (body_end_of (steps before))
told-apart x before q a none no_error =
    told-stays x.step (steps before) none no_error
    (short-stays x.step (steps before) q.head a.body_end (a.answers (is_draining (steps before))) a.chunk)

-- a step that adds no text
pub buffered-quiet : (setting : Setting) (s : Step) (before : List ParsedStep) → Legal setting before → step_written s.outcome ≡ []
    → step_text setting (steps before) s.event s.outcome ≡ [] → buffered setting (s ∷ steps before) ≡ buffered setting (steps before)
buffered-quiet setting s before l none silent =
    buffered-more setting s before l none ∙ ap (λ l. buffered setting (steps before) ++ l) silent ∙ append-nil (buffered setting (steps before))

-- ---- drain

-- its outcome
drain_done : (setting : Setting) (before : List ParsedStep) → outcome_of setting before on.drain ≡ on.done
unfolding outcome_of
drain_done setting before = refl

-- it writes nothing
drain_silent : (setting : Setting) (before : List Step) → step_text setting before on.drain on.done ≡ []
unfolding step_text
drain_silent setting before = refl

-- its step
drain_made : (setting : Setting) (before : List ParsedStep) (parse : List parsed.Message) → Legal setting (made on.drain on.done parse ∷ before)
    → Changes setting before (made on.drain on.done parse)
drain_made setting before parse l =
    let x = made on.drain on.done parse in
    let k = kept_of setting before in
    let q : Quiet before x.step = record { taken = refl; eof = refl; accepted = refl; pull = refl; head = refl; bytes = refl; frames = refl } in
    let a : IsApart on.drain = record { answers = λ d. refl; chunk = refl; completes = refl; body_end = refl; drop = refl; send_continue = refl } in
    record {
      change = doing (record k { is_draining = true });
      changes = refl;
      answers = refl;
      parts = kept-quiet setting x before k.exchange k.buffered k.is_sending k.clock k.failed l q refl (exchange-apart setting x before l q a)
          (buffered-quiet setting x.step before l.3 refl (drain_silent setting (steps before))) (is_sending-cons x.step (steps before))
          (clock-quiet x.step (steps before) refl refl) (told-apart x before q a refl refl);
      since = refl;
    }

-- what it changes
pub drain_changes : (setting : Setting) (before : List ParsedStep) (x : ParsedStep) → Legal setting (x ∷ before) → x.step.event ≡ on.drain
    → Changes setting before x
drain_changes setting before x l e = at_step setting before x on.drain on.done l e (drain_done setting before) (drain_made setting before)

-- ---- the body's failure

-- its outcome
error_done : (setting : Setting) (before : List ParsedStep) → outcome_of setting before on.body_error ≡ on.done
unfolding outcome_of
error_done setting before = refl

-- it writes nothing
error_silent : (setting : Setting) (before : List Step) → step_text setting before on.body_error on.done ≡ []
unfolding step_text
error_silent setting before = refl

-- its step
error_made : (setting : Setting) (before : List ParsedStep) (parse : List parsed.Message) → Legal setting (made on.body_error on.done parse ∷ before)
    → Changes setting before (made on.body_error on.done parse)
error_made setting before parse l =
    let x = made on.body_error on.done parse in
    let t = steps before in
    let k = kept_of setting before in
    let q : Quiet before x.step = record { taken = refl; eof = refl; accepted = refl; pull = refl; head = refl; bytes = refl; frames = refl } in
    let a : IsApart on.body_error = record { answers = λ d. refl; chunk = refl; completes = refl; body_end = refl; drop = refl; send_continue = refl } in
    let none = (untold setting before (running setting before on.body_error refl l.1)).0 in
    let end : option_or (told (x.step ∷ t)) (body_end_of (x.step ∷ t)) ≡ Some ends.body =
    ap (λ o. option_or o (body_end_of (x.step ∷ t))) (told-cons x.step t ∙ none) in
    record {
      change = doing (record k { failed = Some ends.body });
      changes = refl;
      answers = refl;
      parts = kept-quiet setting x before k.exchange k.buffered k.is_sending k.clock (Some ends.body) l q refl (exchange-apart setting x before l q a)
          (buffered-quiet setting x.step before l.3 refl (error_silent setting t)) (is_sending-cons x.step t) (clock-quiet x.step t refl refl) end;
      since = refl;
    }

-- what it changes
pub body_error_changes : (setting : Setting) (before : List ParsedStep) (x : ParsedStep) → Legal setting (x ∷ before) → x.step.event ≡ on.body_error
    → Changes setting before x
body_error_changes setting before x l e = at_step setting before x on.body_error on.done l e (error_done setting before) (error_made setting before)

-- ---- writing

-- its outcome
write_gives : (setting : Setting) (before : List ParsedStep) (n : ℕ)
    → outcome_of setting before (on.write n) ≡ on.gave (take n (buffered setting (steps before)))
unfolding outcome_of
write_gives setting before n = refl

-- it adds nothing to the text
write_silent : (setting : Setting) (before : List Step) (n : ℕ) (bytes : List ℕ) → step_text setting before (on.write n) (on.gave bytes) ≡ []
unfolding step_text
write_silent setting before n bytes = refl

-- its step
write_made : (setting : Setting) (before : List ParsedStep) (n : ℕ) (parse : List parsed.Message)
    → Legal setting (made (on.write n) (on.gave (take n (buffered setting (steps before)))) parse ∷ before)
    → Changes setting before (made (on.write n) (on.gave (take n (buffered setting (steps before)))) parse)
write_made setting before n parse l =
    let t = steps before in
    let given = take n (buffered setting t) in
    let x = made (on.write n) (on.gave given) parse in
    let k = kept_of setting before in
    let q : Quiet before x.step = record { taken = refl; eof = refl; accepted = refl; pull = refl; head = refl; bytes = refl; frames = refl } in
    let a : IsApart (on.write n) = record { answers = λ d. refl; chunk = refl; completes = refl; body_end = refl; drop = refl; send_continue = refl } in
    record {
      change = record { outcome = on.gave (take n k.buffered); kept = record k { buffered = drop n k.buffered } };
      changes = refl;
      answers = refl;
      parts = kept-quiet setting x before k.exchange (drop n k.buffered) k.is_sending k.clock k.failed l q refl (exchange-apart setting x before l q a)
          (buffered-write setting x.step n before l.3 refl (write_silent setting t n given)) (is_sending-cons x.step t)
          (clock-quiet x.step t refl refl) (told-apart x before q a refl refl);
      since = refl;
    }

-- what it changes
pub write_changes : (setting : Setting) (before : List ParsedStep) (x : ParsedStep) (n : ℕ) → Legal setting (x ∷ before) → x.step.event ≡ on.write n
    → Changes setting before x
write_changes setting before x n l e = at_step setting before x (on.write n) _ l e (write_gives setting before n) (write_made setting before n)

-- ---- sending

-- its outcome
send_gives : (setting : Setting) (before : List ParsedStep) (m : Message)
    → outcome_of setting before (on.send m) ≡ send_outcome (send_error (is_sending (steps before)) m)
unfolding outcome_of
send_gives setting before m = refl

-- a message that breaks a rule isn't written
send_failed : (setting : Setting) (before : List Step) (m : Message) (error : ProtocolError)
    → step_text setting before (on.send m) (on.protocol error) ≡ []
unfolding step_text
send_failed setting before m error = refl

-- any other one is
send_sent : (setting : Setting) (before : List Step) (m : Message) → step_text setting before (on.send m) on.done ≡ message_text m
unfolding step_text
send_sent setting before m = refl

-- a message that isn't sent leaves what is under way
failed_under_way : (before : Bool) (m : Message) (error : ProtocolError) → under_way_behind before (on.send m) (on.protocol error) ≡ before
failed_under_way before (frames.frame f) error = refl
failed_under_way before frames.nop error = refl

-- it has no part in an answer
send_apart : (m : Message) → IsApart (on.send m)
send_apart m = record { answers = λ d. refl; chunk = refl; completes = refl; body_end = refl; drop = refl; send_continue = refl }

-- by the rule that the message would break
send_made : (setting : Setting) (before : List ParsedStep) (m : Message) (error : Option ProtocolError) (parse : List parsed.Message)
    → send_error (is_sending (steps before)) m ≡ error → Legal setting (made (on.send m) (send_outcome error) parse ∷ before)
    → Changes setting before (made (on.send m) (send_outcome error) parse)
send_made setting before m (Some error) parse e l =
    let t = steps before in
    let x = made (on.send m) (on.protocol error) parse in
    let k = kept_of setting before in
    let q : Quiet before x.step = record { taken = refl; eof = refl; accepted = refl; pull = refl; head = refl; bytes = refl; frames = refl } in
    record {
      change = record { outcome = on.protocol error; kept = record k { failed = Some ends.protocol } };
      changes = ap (sending_message m k) (sym e);
      answers = refl;
      parts = kept-quiet setting x before k.exchange k.buffered k.is_sending k.clock (Some ends.protocol) l q refl
          (exchange-apart setting x before l q (send_apart m))
          (buffered-quiet setting x.step before l.3 refl (send_failed setting t m error))
          (is_sending-cons x.step t ∙ failed_under_way (is_sending t) m error)
          (clock-quiet x.step t refl refl) (told-now x.step t ends.protocol refl);
      since = refl;
    }
send_made setting before m None parse e l =
    let t = steps before in
    let x = made (on.send m) on.done parse in
    let k = kept_of setting before in
    let q : Quiet before x.step = record { taken = refl; eof = refl; accepted = refl; pull = refl; head = refl; bytes = refl; frames = refl } in
    let text = k.buffered ++ message_text m in
    let sent = under_way_behind k.is_sending (on.send m) on.done in
    record {
      change = doing (record k { buffered = text; is_sending = sent });
      changes = ap (sending_message m k) (sym e);
      answers = refl;
      parts = kept-quiet setting x before k.exchange text sent k.clock k.failed l q refl (exchange-apart setting x before l q (send_apart m))
          (buffered-more setting x.step before l.3 refl ∙ ap (λ l. k.buffered ++ l) (send_sent setting t m)) (is_sending-cons x.step t)
          (clock-quiet x.step t refl refl) (told-apart x before q (send_apart m) refl refl);
      since = refl;
    }

-- what it changes
pub send_changes : (setting : Setting) (before : List ParsedStep) (x : ParsedStep) (m : Message) → Legal setting (x ∷ before)
    → x.step.event ≡ on.send m
    → Changes setting before x
send_changes setting before x m l e =
    at_step setting before x (on.send m) _ l e (send_gives setting before m)
    (λ parse. send_made setting before m (send_error (is_sending (steps before)) m) parse refl)
