-- A run keeps frames and answers in order.
use Rattle.std.proofs.Common.{◌≡◌, ◌+◌, ℕ, Bool, length, Option, List, [], ◌∷◌, ◌++◌, Result, Ok, Err, refl, sym, ap, ◌∙◌, subst, append_assoc, append-nil, arith, length-append}
use Rattle.futures.specs.declared.task.Poll.{Poll}
use Rattle.futures.specs.declared.task.Poll.TheVariants.{Ready, Pending}
use Rattle.http_types.specs.Request.{RequestParts}
use Rattle.http_types.specs.declared.error.Error.{Error}
use Rattle.http_bodies.specs.Told.{Grows}
use Rattle.http_bodies.proofs.Histories.{grown, grown-none}
use Rattle.http_services.specs.Serving.{given}
use Rattle.http_transport.specs.Wiring.{Wiring}
use Rattle.ws_frames.specs.declared.message.Message.{Message}
use Rattle.h1_traced.specs.Traced.{TracedView}
use Rattle.ws_service.specs.declared.dispatcher.serve_frames.Given.{Given}
use Rattle.ws_service.specs.declared.dispatcher.serve_frames.Given.TheVariants.{Frame, Nothing, Other}
use Rattle.ws_service.specs.View.{View, Upgrading, Stage, free, waiting, calling, sending, view_begun}
use Rattle.ws_service.specs.Steps.{Step, IsStep, IsRun, stage_given, stage_answered, ticked, drained, written, read, told_end, shut, closed, ready, called, answered, pulled, sent, failed, unsent, failed_write, failed_read, asked_to_drain}
use Rattle.ws_service.specs.Order.{waits_in, unsent_in, calls_in, step_frames, step_calls, step_answers, step_messages, step_sent, frames, calls, answers, messages, sends, KeepsOrder, StartsWith, AllAnswered}

-- what one step keeps
record Keeps (v : View) (d : Step) (w : View) : Type 0 where
  waits : waits_in v.stage ++ step_frames d ≡ step_calls d ++ waits_in w.stage
  each : calls_in v.stage + length (step_calls d) ≡ length (step_answers d) + calls_in w.stage
  sent_so : unsent_in v.stage ++ step_messages d ≡ step_sent d ++ unsent_in w.stage
  called_so : Grows v.service.called w.service.called (step_calls d)
  answered_so : Grows v.service.answered w.service.answered (step_answers d)

same_told : {A : Type 0} (a b : Option (List A)) → b ≡ a → Grows a b []
same_told a b is = is ∙ grown-none a

-- from this stage to that
by_stage : (v w : View) (d : Step) (before after : Stage) → v.stage ≡ before → w.stage ≡ after
    → waits_in before ++ step_frames d ≡ step_calls d ++ waits_in after
    → calls_in before + length (step_calls d) ≡ length (step_answers d) + calls_in after
    → unsent_in before ++ step_messages d ≡ step_sent d ++ unsent_in after
    → Grows v.service.called w.service.called (step_calls d) → Grows v.service.answered w.service.answered (step_answers d) → Keeps v d w
by_stage v w d before after was now waits each sent_so called_so answered_so = record {
  waits = ap (λ s. waits_in s ++ step_frames d) was ∙ waits ∙ ap (λ s. step_calls d ++ waits_in s) (sym now);
  each = ap (λ s. calls_in s + length (step_calls d)) was ∙ each ∙ ap (λ s. length (step_answers d) + calls_in s) (sym now);
  sent_so = ap (λ s. unsent_in s ++ step_messages d) was ∙ sent_so ∙ ap (λ s. step_sent d ++ unsent_in s) (sym now);
  called_so = called_so;
  answered_so = answered_so;
}

-- the service stays as it is
none_called : (v w : View) → w.service ≡ v.service → Grows v.service.called w.service.called []
none_called v w is = same_told v.service.called w.service.called (ap (λ (s : Upgrading). s.called) is)

none_answered : (v w : View) → w.service ≡ v.service → Grows v.service.answered w.service.answered []
none_answered v w is = same_told v.service.answered w.service.answered (ap (λ (s : Upgrading). s.answered) is)

-- no call was begun, and none answered
same_calls : {A B : Type 0} (n : ℕ) (a : List A) (b : List B) → a ≡ [] → b ≡ [] → n + length a ≡ length b + n
same_calls n a b is so = omega (arith, ap length is, ap length so)

-- and so does all that waits
apart : (v w : View) (d : Step) → step_frames d ≡ [] → step_calls d ≡ [] → step_messages d ≡ [] → step_sent d ≡ [] → step_answers d ≡ []
    → w.stage ≡ v.stage → w.service ≡ v.service → Keeps v d w
apart v w d a b c e f stage service =
    by_stage v w d v.stage v.stage refl stage
    (ap (λ l. waits_in v.stage ++ l) a ∙ append-nil (waits_in v.stage) ∙ ap (λ l. l ++ waits_in v.stage) (sym b))
    (same_calls (calls_in v.stage) (step_calls d) (step_answers d) b f)
    (ap (λ l. unsent_in v.stage ++ l) c ∙ append-nil (unsent_in v.stage) ∙ ap (λ l. l ++ unsent_in v.stage) (sym e))
    (subst (λ l. Grows v.service.called w.service.called l) (sym b) (none_called v w service))
    (subst (λ l. Grows v.service.answered w.service.answered l) (sym f) (none_answered v w service))

polled : (v w : View) (answer : Poll (Result Message Error)) → v.stage ≡ calling → w.stage ≡ stage_answered answer
    → Grows v.service.called w.service.called [] → Grows v.service.answered w.service.answered (given answer) → Keeps v (answered answer) w
polled v w (Ready (Ok message)) was now calls_so answers_so = by_stage v w (answered (Ready (Ok message))) calling (sending message) was now refl refl refl calls_so answers_so
polled v w (Ready (Err e)) was now calls_so answers_so = by_stage v w (answered (Ready (Err e))) calling free was now refl refl refl calls_so answers_so
polled v w Pending was now calls_so answers_so = by_stage v w (answered Pending) calling calling was now refl refl refl calls_so answers_so

came : (v w : View) (got : Given) → v.stage ≡ free → w.stage ≡ stage_given got → w.service ≡ v.service → Keeps v (pulled got) w
came v w (Frame frame) was now service = by_stage v w (pulled (Frame frame)) free (stage_given (Frame frame)) was now refl refl refl (none_called v w service) (none_answered v w service)
came v w Nothing was now service = by_stage v w (pulled Nothing) free free was now refl refl refl (none_called v w service) (none_answered v w service)
came v w Other was now service = by_stage v w (pulled Other) free free was now refl refl refl (none_called v w service) (none_answered v w service)

step_keeps : (v w : View) (d : Step) → IsStep v d w → Keeps v d w
step_keeps v w (ticked moment expiry) is = apart v w _ refl refl refl refl refl (ap (λ (x : View). x.stage) is.1) (ap (λ (x : View). x.service) is.1)
step_keeps v w drained is = apart v w _ refl refl refl refl refl (ap (λ (x : View). x.stage) is.1) (ap (λ (x : View). x.service) is.1)
step_keeps v w (written answer) is = apart v w _ refl refl refl refl refl (ap (λ (x : View). x.stage) is.3) (ap (λ (x : View). x.service) is.3)
step_keeps v w (read bytes answer) is = apart v w _ refl refl refl refl refl (ap (λ (x : View). x.stage) is.4) (ap (λ (x : View). x.service) is.4)
step_keeps v w told_end is = apart v w _ refl refl refl refl refl (ap (λ (x : View). x.stage) is.5) (ap (λ (x : View). x.service) is.5)
step_keeps v w (shut answer) is = apart v w _ refl refl refl refl refl (ap (λ (x : View). x.stage) is.2) (ap (λ (x : View). x.service) is.2)
step_keeps v w (closed end) is = apart v w _ refl refl refl refl refl (ap (λ (x : View). x.stage) is.4) (ap (λ (x : View). x.service) is.4)
step_keeps v w (ready answer) is =
    by_stage v w (ready answer) v.stage v.stage refl (ap (λ (x : View). x.stage) is.4) (append-nil (waits_in v.stage)) (omega arith) (append-nil (unsent_in v.stage))
    (same_told v.service.called w.service.called is.3.called) (same_told v.service.answered w.service.answered is.3.answered)
step_keeps v w (called item) is =
    by_stage v w (called item) (waiting item) calling is.1 (ap (λ (x : View). x.stage) is.3) refl refl refl
    (subst (λ c. Grows c w.service.called (item ∷ [])) is.2.is_ready.called is.2.begun.called)
    (same_told v.service.answered w.service.answered (is.2.begun.answered ∙ is.2.is_ready.answered))
step_keeps v w (answered answer) is =
    polled v w answer is.1 (ap (λ (x : View). x.stage) is.3) (same_told v.service.called w.service.called is.2.called) is.2.answered
step_keeps v w (pulled got) is = came v w got is.1 (ap (λ (x : View). x.stage) is.4) (ap (λ (x : View). x.service) is.4)
step_keeps v w (sent message) is =
    by_stage v w (sent message) (sending message) free is.1 (ap (λ (x : View). x.stage) is.4) refl refl refl
    (none_called v w (ap (λ (x : View). x.service) is.4)) (none_answered v w (ap (λ (x : View). x.service) is.4))
step_keeps v w (failed event) is = apart v w _ refl refl refl refl refl (ap (λ (x : View). x.stage) is.2) (ap (λ (x : View). x.service) is.2)
step_keeps v w (unsent message) is =
    by_stage v w (unsent message) (sending message) free is.1 (ap (λ (x : View). x.stage) is.4) refl refl refl
    (none_called v w (ap (λ (x : View). x.service) is.4)) (none_answered v w (ap (λ (x : View). x.service) is.4))
step_keeps v w (failed_write count) is = apart v w _ refl refl refl refl refl (ap (λ (x : View). x.stage) is.3) (ap (λ (x : View). x.service) is.3)
step_keeps v w (failed_read bytes) is = apart v w _ refl refl refl refl refl (ap (λ (x : View). x.stage) is.4) (ap (λ (x : View). x.service) is.4)
step_keeps v w asked_to_drain is = apart v w _ refl refl refl refl refl (ap (λ (x : View). x.stage) is) (ap (λ (x : View). x.service) is)

-- what came in first goes out first
queued : {A : Type 0} (a b c in_first in_rest out_first out_rest : List A) → a ++ in_first ≡ out_first ++ b → b ++ in_rest ≡ out_rest ++ c
    → a ++ (in_first ++ in_rest) ≡ (out_first ++ out_rest) ++ c
queued a b c in_first in_rest out_first out_rest first then =
    sym (append_assoc a in_first in_rest) ∙ ap (λ l. l ++ in_rest) first ∙ append_assoc out_first b in_rest ∙ ap (λ l. out_first ++ l) then
    ∙ sym (append_assoc out_first out_rest c)

more_calls : {A B : Type 0} (p q r : ℕ) (a b : List A) (c e : List B) → p + length a ≡ length c + q → q + length b ≡ length e + r → p + length (a ++ b) ≡ length (c ++ e) + r
more_calls p q r a b c e x y = omega (arith, x, y, length-append a b, length-append c e)

pub run_keeps : (v w : View) (steps : List Step) → IsRun v steps w → KeepsOrder v steps w
run_keeps v w [] is = record {
  waits = append-nil (waits_in v.stage) ∙ ap (λ (x : View). waits_in x.stage) (sym is);
  each = omega (arith, ap (λ (x : View). calls_in x.stage) is);
  sent_so = append-nil (unsent_in v.stage) ∙ ap (λ (x : View). unsent_in x.stage) (sym is);
  called_so = none_called v w (ap (λ (x : View). x.service) is);
  answered_so = none_answered v w (ap (λ (x : View). x.service) is);
}
run_keeps v w (d ∷ steps) is =
    let u = is.0 in
    let first = step_keeps v u d is.1 in
    let then = run_keeps u w steps is.2 in
    record {
      waits = queued (waits_in v.stage) (waits_in u.stage) (waits_in w.stage) (step_frames d) (frames steps) (step_calls d) (calls steps) first.waits then.waits;
      each = more_calls (calls_in v.stage) (calls_in u.stage) (calls_in w.stage) (step_calls d) (calls steps) (step_answers d) (answers steps) first.each then.each;
      sent_so = queued (unsent_in v.stage) (unsent_in u.stage) (unsent_in w.stage) (step_messages d) (messages steps) (step_sent d) (sends steps) first.sent_so then.sent_so;
      called_so = grown (step_calls d) (calls steps) _ _ _ first.called_so then.called_so;
      answered_so = grown (step_answers d) (answers steps) _ _ _ first.answered_so then.answered_so;
    }

pub run_starts : (request : RequestParts Unit Unit) (traced : TracedView) (listening : Bool) (transport : Wiring) (service : Upgrading) (w : View) (steps : List Step)
    → IsRun (view_begun request traced listening transport service) steps w → StartsWith request steps w
run_starts request traced listening transport service w steps is =
    let k = run_keeps (view_begun request traced listening transport service) w steps is in
    record { waits = k.waits; sent_so = k.sent_so }

plus_none : (m n : ℕ) → 0 + m ≡ n + 0 → m ≡ n
plus_none m n is = omega (arith, is)

-- where the end of the input is told nothing is left
pub all_answered : (request : RequestParts Unit Unit) (traced : TracedView) (listening : Bool) (transport : Wiring) (service : Upgrading) (v w : View) (steps : List Step)
    → IsRun (view_begun request traced listening transport service) steps v → IsStep v told_end w → AllAnswered request steps
all_answered request traced listening transport service v w steps run is =
    let k = run_keeps (view_begun request traced listening transport service) v steps run in
    record {
      called_so = k.waits ∙ ap (λ s. calls steps ++ waits_in s) is.1 ∙ append-nil (calls steps);
      each = plus_none (length (calls steps)) (length (answers steps)) (k.each ∙ ap (λ s. length (answers steps) + calls_in s) is.1);
      sent_so = k.sent_so ∙ ap (λ s. sends steps ++ unsent_in s) is.1 ∙ append-nil (sends steps);
    }
