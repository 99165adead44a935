-- A run keeps requests and answers in order.
use Rattle.std.proofs.Common.{◌≡◌, ◌+◌, ℕ, zero, suc, Option, Some, None, List, [], ◌∷◌, ◌++◌, length, option_to_list, Result, Ok, Err, refl, sym, ap, ◌∙◌, subst, append_assoc, append-nil, arith}
use Rattle.std.proofs.lemmas.List.{length-append}
use Rattle.futures.specs.declared.task.Poll.{Poll}
use Rattle.futures.specs.declared.task.Poll.TheVariants.{Ready, Pending}
use Rattle.http_framing.specs.declared.body.size.BodySize.{BodySize}
use Rattle.http_framing.specs.declared.body.size.BodySize.TheVariants.{None as NoBody, Sized, Stream}
use Rattle.http_bodies.specs.Giving.{Giving, Piece}
use Rattle.http_bodies.specs.Told.{Grows}
use Rattle.http_bodies.proofs.Histories.{grown, grown-none}
use Rattle.http_services.specs.Lent.{Took}
use Rattle.http_services.specs.Serving.{Serving}
use Rattle.h1_connection.specs.declared.connection.heads.NextHead.{NextHead}
use Rattle.http_transport.specs.Peer.{PeerAddress}
use Rattle.h1_dispatcher.specs.View.{View, Asking, Answer, Stage, free, waiting, calling, replying, sending}
use Rattle.h1_dispatcher.specs.Steps.{Step, IsStep, IsRun, request_at, stage_at, stage_asked, stage_answered, stage_replied, stage_sent, ticked, drained, written, read, shut, next, closed, continued, ready, called, answered, pulled, paused, dropped, replied, sent, failed, failed_write, failed_read, failed_fed, failed_sent, asked_to_drain, asked_to_hold, declined, let_on, turned_away, refused}
use Rattle.h1_dispatcher.specs.Order.{waits_in, reply_in, calls_in, step_requests, step_calls, step_left, step_answers, step_results, step_replies, requests, calls, left, answers, results, replies, KeepsOrder}
use Rattle.h1_dispatcher.proofs.Results.{same_results, step_results_grow}

-- what one step keeps
record Keeps (v : View) (d : Step) (w : View) : Type 0 where
  waits : waits_in v.stage ++ step_requests d ≡ step_left d ++ waits_in w.stage
  each : calls_in v.stage + length (step_left d) ≡ length (step_answers d) + calls_in w.stage
  replied_so : reply_in v.stage ++ step_answers d ≡ step_replies d ++ reply_in w.stage
  called_so : Grows v.service.called w.service.called (step_calls d)

same_calls : (v w : View) → w.service ≡ v.service → Grows v.service.called w.service.called []
same_calls v w is = ap (λ (s : Serving Asking Answer Answer). s.called) is ∙ grown-none v.service.called

told : (v w : View) → w.service.called ≡ v.service.called → Grows v.service.called w.service.called []
told v w is = is ∙ grown-none v.service.called

-- from this stage to that
by_stage : (v w : View) (d : Step) (before after : Stage) → v.stage ≡ before → w.stage ≡ after
    → waits_in before ++ step_requests d ≡ step_left d ++ waits_in after
    → calls_in before + length (step_left d) ≡ length (step_answers d) + calls_in after
    → reply_in before ++ step_answers d ≡ step_replies d ++ reply_in after
    → Grows v.service.called w.service.called (step_calls d) → Keeps v d w
by_stage v w d before after was now waits each replies_so calls_so = record {
  waits = ap (λ s. waits_in s ++ step_requests d) was ∙ waits ∙ ap (λ s. step_left d ++ waits_in s) (sym now);
  each = ap (λ s. calls_in s + length (step_left d)) was ∙ each ∙ ap (λ s. length (step_answers d) + calls_in s) (sym now);
  replied_so = ap (λ s. reply_in s ++ step_answers d) was ∙ replies_so ∙ ap (λ s. step_replies d ++ reply_in s) (sym now);
  called_so = calls_so;
}

no_more : (a b : ℕ) → b ≡ 0 → a + b ≡ 0 + a
no_more a b none = omega (arith, none)

-- the last request stays as far as it is, and nothing is asked or answered
apart : (v w : View) (d : Step) → step_left d ≡ [] → step_requests d ≡ [] → step_answers d ≡ [] → step_replies d ≡ [] → step_calls d ≡ []
    → w.stage ≡ v.stage → w.service ≡ v.service → Keeps v d w
apart v w d a b c e f stage service =
    by_stage v w d v.stage v.stage refl stage
    (ap (λ l. waits_in v.stage ++ l) b ∙ append-nil (waits_in v.stage) ∙ ap (λ l. l ++ waits_in v.stage) (sym a))
    (ap (λ l. calls_in v.stage + length l) a ∙ no_more (calls_in v.stage) 0 refl ∙ ap (λ l. length l + calls_in v.stage) (sym c))
    (ap (λ l. reply_in v.stage ++ l) c ∙ append-nil (reply_in v.stage) ∙ ap (λ l. l ++ reply_in v.stage) (sym e))
    (subst (λ l. Grows v.service.called w.service.called l) (sym f) (same_calls v w service))

-- a request waits, where one came
waits_now : (request : Option Asking) → option_to_list request ≡ waits_in (stage_at request)
waits_now None = refl
waits_now (Some request) = refl

calls_none : (request : Option Asking) → 0 ≡ 0 + calls_in (stage_at request)
calls_none None = refl
calls_none (Some request) = refl

reply_none : (request : Option Asking) → [] ≡ reply_in (stage_at request)
reply_none None = refl
reply_none (Some request) = refl

handed : (v w : View) (peer : PeerAddress) (head : NextHead) → v.stage ≡ free → w.stage ≡ stage_at (request_at peer head) → w.service ≡ v.service → Keeps v (next peer head) w
handed v w peer head was now service =
    by_stage v w (next peer head) free (stage_at (request_at peer head)) was now (waits_now (request_at peer head)) (calls_none (request_at peer head)) (reply_none (request_at peer head)) (same_calls v w service)

asked : (v w : View) (request : Asking) (answer : Poll (Result Unit Answer)) → v.stage ≡ waiting request → w.stage ≡ stage_asked request answer
    → Grows v.service.called w.service.called [] → Keeps v (ready request answer) w
asked v w request (Ready (Ok x)) was now calls_so = by_stage v w (ready request (Ready (Ok x))) (waiting request) (waiting request) was now refl refl refl calls_so
asked v w request (Ready (Err e)) was now calls_so = by_stage v w (ready request (Ready (Err e))) (waiting request) (replying e) was now refl refl refl calls_so
asked v w request Pending was now calls_so = by_stage v w (ready request Pending) (waiting request) (waiting request) was now refl refl refl calls_so

polled : (v w : View) (took more : Option Took) (answer : Poll (Result Answer Answer)) → v.stage ≡ calling took → w.stage ≡ stage_answered more answer
    → Grows v.service.called w.service.called [] → Keeps v (answered answer) w
polled v w took more (Ready (Ok x)) was now calls_so = by_stage v w (answered (Ready (Ok x))) (calling took) (replying x) was now refl refl refl calls_so
polled v w took more (Ready (Err e)) was now calls_so = by_stage v w (answered (Ready (Err e))) (calling took) (replying e) was now refl refl refl calls_so
polled v w took more Pending was now calls_so = by_stage v w (answered Pending) (calling took) (calling more) was now refl refl refl calls_so

-- an answer was handed on, and its body goes out where it has one
handed_on : (v w : View) (answer : Answer) (body : Giving) (size : BodySize) → v.stage ≡ replying answer → w.stage ≡ stage_replied body size → w.service ≡ v.service → Keeps v (replied answer) w
handed_on v w answer body NoBody was now service = by_stage v w (replied answer) (replying answer) free was now refl refl refl (same_calls v w service)
handed_on v w answer body (Sized zero) was now service = by_stage v w (replied answer) (replying answer) free was now refl refl refl (same_calls v w service)
handed_on v w answer body (Sized (suc n)) was now service = by_stage v w (replied answer) (replying answer) (sending body) was now refl refl refl (same_calls v w service)
handed_on v w answer body Stream was now service = by_stage v w (replied answer) (replying answer) (sending body) was now refl refl refl (same_calls v w service)

-- the body goes on, or is done with
sends : (v w : View) (piece : Piece) (body left : Giving) → v.stage ≡ sending body → w.stage ≡ stage_sent left piece → w.service ≡ v.service → Keeps v (sent piece) w
sends v w (Ready None) body left was now service = by_stage v w (sent (Ready None)) (sending body) free was now refl refl refl (same_calls v w service)
sends v w (Ready (Some piece)) body left was now service = by_stage v w (sent (Ready (Some piece))) (sending body) (sending left) was now refl refl refl (same_calls v w service)
sends v w Pending body left was now service = by_stage v w (sent Pending) (sending body) (sending left) was now refl refl refl (same_calls v w service)

step_keeps : (v w : View) (d : Step) → IsStep v d w → Keeps v d w
step_keeps v w (ticked moment expiry) is = apart v w _ refl refl refl refl refl (ap (λ (x : View). x.stage) is.1) (ap (λ (x : View). x.service) is.1)
step_keeps v w drained is = apart v w _ refl refl refl refl refl (ap (λ (x : View). x.stage) is.1) (ap (λ (x : View). x.service) is.1)
step_keeps v w (written answer) is = apart v w _ refl refl refl refl refl (ap (λ (x : View). x.stage) is.4) (ap (λ (x : View). x.service) is.4)
step_keeps v w (read came answer) is = apart v w _ refl refl refl refl refl (ap (λ (x : View). x.stage) is.4) (ap (λ (x : View). x.service) is.4)
step_keeps v w (shut answer) is = apart v w _ refl refl refl refl refl (ap (λ (x : View). x.stage) is.2) (ap (λ (x : View). x.service) is.2)
step_keeps v w (next peer head) is = handed v w peer head is.1 (ap (λ (x : View). x.stage) is.4) (ap (λ (x : View). x.service) is.4)
step_keeps v w (closed end) is = apart v w _ refl refl refl refl refl (ap (λ (x : View). x.stage) is.4) (ap (λ (x : View). x.service) is.4)
step_keeps v w continued is = apart v w _ refl refl refl refl refl (ap (λ (x : View). x.stage) is.3) (ap (λ (x : View). x.service) is.3)
step_keeps v w (ready request answer) is = asked v w request answer is.0.1 (ap (λ (x : View). x.stage) is.3) (told v w is.2.called)
step_keeps v w (called request) is = by_stage v w (called request) (waiting request) (calling is.2.0) is.0.1 (ap (λ (x : View). x.stage) is.2.2) refl refl refl (subst (λ c. Grows c w.service.called (request ∷ [])) is.1.is_ready.called is.1.begun.called)
step_keeps v w (answered answer) is = polled v w is.took is.more answer is.calls (ap (λ (x : View). x.stage) is.same) (told v w is.says.called)
step_keeps v w (pulled piece) is = apart v w _ refl refl refl refl refl (ap (λ (x : View). x.stage) is.2) (ap (λ (x : View). x.service) is.2)
step_keeps v w paused is = apart v w _ refl refl refl refl refl (ap (λ (x : View). x.stage) is.4) (ap (λ (x : View). x.service) is.4)
step_keeps v w dropped is = apart v w _ refl refl refl refl refl (ap (λ (x : View). x.stage) is.3) (ap (λ (x : View). x.service) is.3)
step_keeps v w (replied answer) is = handed_on v w answer answer.body answer.body.size is.1 (ap (λ (x : View). x.stage) is.3) (ap (λ (x : View). x.service) is.3)
step_keeps v w (sent piece) is = sends v w piece is.1.body is.0 is.1.goes_out (ap (λ (x : View). x.stage) is.3) (ap (λ (x : View). x.service) is.3)
step_keeps v w (failed event) is = apart v w _ refl refl refl refl refl (ap (λ (x : View). x.stage) is.2) (ap (λ (x : View). x.service) is.2)
step_keeps v w (failed_write count) is = apart v w _ refl refl refl refl refl (ap (λ (x : View). x.stage) is.4) (ap (λ (x : View). x.service) is.4)
step_keeps v w (failed_read came event) is = apart v w _ refl refl refl refl refl (ap (λ (x : View). x.stage) is.4) (ap (λ (x : View). x.service) is.4)
step_keeps v w (failed_fed bytes) is = apart v w _ refl refl refl refl refl (ap (λ (x : View). x.stage) is.2) (ap (λ (x : View). x.service) is.2)
step_keeps v w (failed_sent piece) is =
    by_stage v w (failed_sent piece) (sending is.1.body) (sending is.0) is.1.goes_out (ap (λ (x : View). x.stage) is.3) refl refl refl (same_calls v w (ap (λ (x : View). x.service) is.3))
step_keeps v w asked_to_drain is = apart v w _ refl refl refl refl refl (ap (λ (x : View). x.stage) is) (ap (λ (x : View). x.service) is)
step_keeps v w (asked_to_hold upgrades expects) is = apart v w _ refl refl refl refl refl (ap (λ (x : View). x.stage) is) (ap (λ (x : View). x.service) is)
step_keeps v w declined is = apart v w _ refl refl refl refl refl (ap (λ (x : View). x.stage) is) (ap (λ (x : View). x.service) is)
step_keeps v w let_on is = apart v w _ refl refl refl refl refl (ap (λ (x : View). x.stage) is) (ap (λ (x : View). x.service) is)
step_keeps v w (turned_away request answer) is = by_stage v w (turned_away request answer) (waiting request) (replying answer) is.1 (ap (λ (x : View). x.stage) is.2) refl refl refl (same_calls v w (ap (λ (x : View). x.service) is.2))
step_keeps v w (refused limit error) is = apart v w _ refl refl refl refl refl (ap (λ (x : View). x.stage) is.2) (ap (λ (x : View). x.service) is.2)

-- what came in front goes out in front
queued : {A : Type 0} (a b c in_first in_rest out_first out_rest : List A) → a ++ in_first ≡ out_first ++ b → b ++ in_rest ≡ out_rest ++ c
    → a ++ (in_first ++ in_rest) ≡ (out_first ++ out_rest) ++ c
queued a b c in_first in_rest out_first out_rest first then =
    sym (append_assoc a in_first in_rest) ∙ ap (λ l. l ++ in_rest) first ∙ append_assoc out_first b in_rest ∙ ap (λ l. out_first ++ l) then
    ∙ sym (append_assoc out_first out_rest c)

counted : {A B : Type 0} (a b c : ℕ) (in_first in_rest : List A) (out_first out_rest : List B)
    → a + length in_first ≡ length out_first + b → b + length in_rest ≡ length out_rest + c
    → a + length (in_first ++ in_rest) ≡ length (out_first ++ out_rest) + c
counted a b c in_first in_rest out_first out_rest first then =
    omega (arith, length-append in_first in_rest, length-append out_first out_rest, first, then)

keeps_on : (v u w : View) (d : Step) (steps : List Step) → Keeps v d u → Grows v.service.answered u.service.answered (step_results d) → KeepsOrder u steps w
    → KeepsOrder v (d ∷ steps) w
keeps_on v u w d steps first given then = record {
  waits = queued (waits_in v.stage) (waits_in u.stage) (waits_in w.stage) (step_requests d) (requests steps) (step_left d) (left steps) first.waits then.waits;
  each = counted (calls_in v.stage) (calls_in u.stage) (calls_in w.stage) (step_left d) (left steps) (step_answers d) (answers steps) first.each then.each;
  replied = queued (reply_in v.stage) (reply_in u.stage) (reply_in w.stage) (step_answers d) (answers steps) (step_replies d) (replies steps) first.replied_so then.replied;
  called = grown (step_calls d) (calls steps) _ _ _ first.called_so then.called;
  answered = grown (step_results d) (results steps) _ _ _ given then.answered;
}

none_left : (v w : View) → w ≡ v → KeepsOrder v [] w
none_left v w is = record {
  waits = append-nil (waits_in v.stage) ∙ ap (λ (x : View). waits_in x.stage) (sym is);
  each = no_more (calls_in v.stage) 0 refl ∙ ap (λ (x : View). 0 + calls_in x.stage) (sym is);
  replied = append-nil (reply_in v.stage) ∙ ap (λ (x : View). reply_in x.stage) (sym is);
  called = same_calls v w (ap (λ (x : View). x.service) is);
  answered = same_results v w (ap (λ (x : View). x.service) is);
}

pub run_keeps : (v w : View) (steps : List Step) → IsRun v steps w → KeepsOrder v steps w
run_keeps v w [] is = none_left v w is
run_keeps v w (d ∷ steps) is = keeps_on v is.0 w d steps (step_keeps v is.0 d is.1) (step_results_grow v is.0 d is.1) (run_keeps is.0 w steps is.2)
