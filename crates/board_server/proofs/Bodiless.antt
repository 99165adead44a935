-- A service whose answers have no body: what a run hands on of answers is their heads.
use Rattle.std.proofs.Common.{◌≡◌, Option, Some, None, List, [], ◌∷◌, ◌++◌, map, Result, Ok, Err, refl, sym, ap, ◌∙◌, subst}
use Rattle.std.specs.Prelude.{⊤}
use Rattle.std.specs.List.{AllByRecursion}
use Rattle.std.proofs.lemmas.List.{map-append}
use Rattle.futures.specs.declared.task.Poll.{Poll}
use Rattle.futures.specs.declared.task.Poll.TheVariants.{Ready, Pending}
use Rattle.http_framing.specs.declared.body.size.BodySize.{BodySize}
use Rattle.http_framing.specs.declared.body.size.BodySize.TheVariants.{Sized}
use Rattle.http_bodies.specs.Giving.{Giving}
use Rattle.http_services.specs.Lent.{Took}
use Rattle.h1_encoder.specs.Meaning.{answer_of, size_of}
use Rattle.model_h1.specs.Event as on
use Rattle.h1_dispatcher.specs.View.{View, Asking, Answer, Stage, free, waiting, calling, replying, sending}
use Rattle.h1_dispatcher.specs.Steps.{Step, IsStep, IsRun, request_at, stage_at, stage_asked, stage_answered, stage_replied, ticked, drained, written, read, shut, next, closed, continued, ready, called, answered, pulled, paused, dropped, replied, sent, failed, failed_write, failed_read, failed_fed, failed_sent, asked_to_drain, asked_to_hold, declined, let_on, turned_away, refused as upgrade_refused}
use Rattle.h1_dispatcher.specs.Order.{refusals, given, step_answers, step_replies, answers, replies}
use Rattle.h1_dispatcher.specs.Traces.{step_hands, hands}

-- it states that it has no byte
abbrev pub IsBodiless : Answer → Type 0
IsBodiless answer = answer.body.size ≡ Sized 0

-- no body goes out, and the answer that waits has none
abbrev pub StageIsBodiless : Stage → Type 0
StageIsBodiless free = ⊤
StageIsBodiless (waiting request) = ⊤
StageIsBodiless (calling took) = ⊤
StageIsBodiless (replying answer) = IsBodiless answer
StageIsBodiless (sending body) = ⊥

-- the event by which it is handed on
abbrev pub hand_of : Answer → on.Event
hand_of answer = on.answer (answer_of answer.head) (size_of answer.body.size)

record Hands (d : Step) (w : View) : Type 0 where
  only : step_hands d ≡ map hand_of (step_replies d)
  bodiless : StageIsBodiless w.stage

from_stage : (s t : Stage) → t ≡ s → StageIsBodiless s → StageIsBodiless t
from_stage s t is b = subst (λ (x : Stage). StageIsBodiless x) (sym is) b

-- the stage stays, and no answer is handed on
same : (v w : View) (d : Step) → step_hands d ≡ [] → step_replies d ≡ [] → w.stage ≡ v.stage → StageIsBodiless v.stage → Hands d w
same v w d hands_none replies_none stage b =
    record { only = hands_none ∙ sym (ap (λ l. map hand_of l) replies_none); bodiless = from_stage v.stage w.stage stage b }

at_head : (request : Option Asking) → StageIsBodiless (stage_at request)
at_head None = tt
at_head (Some request) = tt

at_ready : (request : Asking) (answer : Poll (Result Unit Answer)) → AllByRecursion IsBodiless (refusals answer) → StageIsBodiless (stage_asked request answer)
at_ready request (Ready (Ok x)) all = tt
at_ready request (Ready (Err e)) all = all.0
at_ready request Pending all = tt

at_answer : (took : Option Took) (answer : Poll (Result Answer Answer)) → AllByRecursion IsBodiless (given answer) → StageIsBodiless (stage_answered took answer)
at_answer took (Ready (Ok x)) all = all.0
at_answer took (Ready (Err e)) all = all.0
at_answer took Pending all = tt

at_reply : (body : Giving) (size : BodySize) → size ≡ Sized 0 → StageIsBodiless (stage_replied body size)
at_reply body size is = subst (λ (s : BodySize). StageIsBodiless (stage_replied body s)) (sym is) tt

step_hands_on : (v w : View) (d : Step) → IsStep v d w → StageIsBodiless v.stage → AllByRecursion IsBodiless (step_answers d) → Hands d w
step_hands_on v w (ticked moment expiry) is b all = same v w _ refl refl (ap (λ (x : View). x.stage) is.1) b
step_hands_on v w drained is b all = same v w _ refl refl (ap (λ (x : View). x.stage) is.1) b
step_hands_on v w (written answer) is b all = same v w _ refl refl (ap (λ (x : View). x.stage) is.4) b
step_hands_on v w (read came answer) is b all = same v w _ refl refl (ap (λ (x : View). x.stage) is.4) b
step_hands_on v w (shut answer) is b all = same v w _ refl refl (ap (λ (x : View). x.stage) is.2) b
step_hands_on v w (next peer head) is b all =
    record { only = refl; bodiless = from_stage (stage_at (request_at peer head)) w.stage (ap (λ (x : View). x.stage) is.4) (at_head (request_at peer head)) }
step_hands_on v w (closed end) is b all = same v w _ refl refl (ap (λ (x : View). x.stage) is.4) b
step_hands_on v w continued is b all = same v w _ refl refl (ap (λ (x : View). x.stage) is.3) b
step_hands_on v w (ready request answer) is b all =
    record { only = refl; bodiless = from_stage (stage_asked request answer) w.stage (ap (λ (x : View). x.stage) is.3) (at_ready request answer all) }
step_hands_on v w (called request) is b all =
    record { only = refl; bodiless = from_stage (calling is.2.0) w.stage (ap (λ (x : View). x.stage) is.2.2) tt }
step_hands_on v w (answered answer) is b all =
    record { only = refl; bodiless = from_stage (stage_answered is.more answer) w.stage (ap (λ (x : View). x.stage) is.same) (at_answer is.more answer all) }
step_hands_on v w (pulled piece) is b all = same v w _ refl refl (ap (λ (x : View). x.stage) is.2) b
step_hands_on v w paused is b all = same v w _ refl refl (ap (λ (x : View). x.stage) is.4) b
step_hands_on v w dropped is b all = same v w _ refl refl (ap (λ (x : View). x.stage) is.3) b
step_hands_on v w (replied answer) is b all = record {
  only = refl;
  bodiless =
      from_stage (stage_replied answer.body answer.body.size) w.stage (ap (λ (x : View). x.stage) is.3)
      (at_reply answer.body answer.body.size (subst (λ (x : Stage). StageIsBodiless x) is.1 b));
}
step_hands_on v w (sent piece) is b all = absurd (subst (λ (x : Stage). StageIsBodiless x) is.1.goes_out b)
step_hands_on v w (failed event) is b all = same v w _ refl refl (ap (λ (x : View). x.stage) is.2) b
step_hands_on v w (failed_write count) is b all = same v w _ refl refl (ap (λ (x : View). x.stage) is.4) b
step_hands_on v w (failed_read came event) is b all = same v w _ refl refl (ap (λ (x : View). x.stage) is.4) b
step_hands_on v w (failed_fed bytes) is b all = same v w _ refl refl (ap (λ (x : View). x.stage) is.2) b
step_hands_on v w (failed_sent piece) is b all = absurd (subst (λ (x : Stage). StageIsBodiless x) is.1.goes_out b)
step_hands_on v w asked_to_drain is b all = same v w _ refl refl (ap (λ (x : View). x.stage) is) b
step_hands_on v w (asked_to_hold upgrades expects) is b all = same v w _ refl refl (ap (λ (x : View). x.stage) is) b
step_hands_on v w declined is b all = same v w _ refl refl (ap (λ (x : View). x.stage) is) b
step_hands_on v w let_on is b all = same v w _ refl refl (ap (λ (x : View). x.stage) is) b
step_hands_on v w (turned_away request answer) is b all =
    record { only = refl; bodiless = from_stage (replying answer) w.stage (ap (λ (x : View). x.stage) is.2) all.0 }
step_hands_on v w (upgrade_refused limit error) is b all = same v w _ refl refl (ap (λ (x : View). x.stage) is.2) b

all_front : (xs ys : List Answer) → AllByRecursion IsBodiless (xs ++ ys) → AllByRecursion IsBodiless xs
all_front [] ys all = tt
all_front (x ∷ xs) ys all = (all.0, all_front xs ys all.1)

all_back : (xs ys : List Answer) → AllByRecursion IsBodiless (xs ++ ys) → AllByRecursion IsBodiless ys
all_back [] ys all = all
all_back (x ∷ xs) ys all = all_back xs ys all.1

pub run_hands_on : (v w : View) (steps : List Step) → IsRun v steps w → StageIsBodiless v.stage → AllByRecursion IsBodiless (answers steps) → hands steps ≡ map hand_of (replies steps)
run_hands_on v w [] is b all = refl
run_hands_on v w (d ∷ steps) is b all =
    let first = step_hands_on v is.0 d is.1 b (all_front (step_answers d) (answers steps) all) in
    ap (λ l. l ++ hands steps) first.only
    ∙ ap (λ l. map hand_of (step_replies d) ++ l) (run_hands_on is.0 w steps is.2 first.bodiless (all_back (step_answers d) (answers steps) all))
    ∙ sym (map-append hand_of (step_replies d) (replies steps))
