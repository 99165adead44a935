-- No step leaves an answer of the service at hand but the one that brings it.
use Rattle.std.proofs.Common.{◌≡◌, zero, suc, false, Option, Some, None, List, [], ◌∷◌, Result, refl, ap, ◌∙◌}
use Rattle.std.specs.Prelude.{⊤}
use Rattle.std.specs.List.{AllByRecursion}
use Rattle.futures.specs.declared.task.Poll.{Poll}
use Rattle.futures.specs.declared.task.Poll.TheVariants.{Ready, Pending}
use Rattle.http_framing.specs.declared.body.size.BodySize.{BodySize}
use Rattle.http_framing.specs.declared.body.size.BodySize.TheVariants.{None as NoBody, Sized, Stream}
use Rattle.http_bodies.specs.Giving.{Giving, Piece}
use Rattle.http_services.specs.Lent.{Took}
use Rattle.h1_dispatcher.specs.View.{View, Asking, Answer, Stage, is_replying}
use Rattle.h1_dispatcher.specs.Steps.{Step, IsStep, IsRun, stage_at, stage_asked, stage_answered, stage_replied, stage_sent, request_at, ticked, drained, written, read, shut, next, closed, continued, ready, called, answered, pulled, paused, dropped, replied, sent, failed, failed_write, failed_read, failed_fed, failed_sent, asked_to_drain, asked_to_hold, declined, let_on, turned_away, refused}
use Rattle.h1_dispatcher.specs.Replies.{HasNoReply}
use Rattle.h1_dispatcher.specs.Polls.{IsPending, Continues}

-- it brings no answer
abbrev pub BringsNone : Step → Type 0
BringsNone (ready request answer) = IsPending answer
BringsNone (answered answer) = IsPending answer
BringsNone (turned_away request answer) = ⊥
BringsNone d = ⊤

-- and a turn goes on after it
abbrev pub Quiet : Step → Type 0
Quiet (ready request answer) = IsPending answer
Quiet (answered answer) = IsPending answer
Quiet d = Continues d

abbrev pub AllQuiet : List Step → Type 0
AllQuiet steps = AllByRecursion Quiet steps

pub quiet_goes : (d : Step) → Quiet d → Continues d
quiet_goes (ticked moment expiry) is = is
quiet_goes drained is = is
quiet_goes (written answer) is = is
quiet_goes (read came answer) is = is
quiet_goes (shut answer) is = is
quiet_goes (next peer head) is = is
quiet_goes (closed end) is = is
quiet_goes continued is = is
quiet_goes (ready request answer) is = tt
quiet_goes (called request) is = is
quiet_goes (answered answer) is = tt
quiet_goes (pulled piece) is = is
quiet_goes paused is = is
quiet_goes dropped is = is
quiet_goes (replied answer) is = is
quiet_goes (sent piece) is = is
quiet_goes (failed event) is = is
quiet_goes (failed_write count) is = is
quiet_goes (failed_read came event) is = is
quiet_goes (failed_fed bytes) is = is
quiet_goes (failed_sent piece) is = is
quiet_goes asked_to_drain is = is
quiet_goes (asked_to_hold upgrades expects) is = is
quiet_goes declined is = is
quiet_goes let_on is = is
quiet_goes (turned_away request answer) is = is
quiet_goes (refused limit error) is = is

pub quiet_brings : (d : Step) → Quiet d → BringsNone d
quiet_brings (ticked moment expiry) is = tt
quiet_brings drained is = tt
quiet_brings (written answer) is = tt
quiet_brings (read came answer) is = tt
quiet_brings (shut answer) is = tt
quiet_brings (next peer head) is = tt
quiet_brings (closed end) is = tt
quiet_brings continued is = tt
quiet_brings (ready request answer) is = is
quiet_brings (called request) is = tt
quiet_brings (answered answer) is = is
quiet_brings (pulled piece) is = tt
quiet_brings paused is = tt
quiet_brings dropped is = tt
quiet_brings (replied answer) is = tt
quiet_brings (sent piece) is = tt
quiet_brings (failed event) is = tt
quiet_brings (failed_write count) is = tt
quiet_brings (failed_read came event) is = tt
quiet_brings (failed_fed bytes) is = tt
quiet_brings (failed_sent piece) is = tt
quiet_brings asked_to_drain is = tt
quiet_brings (asked_to_hold upgrades expects) is = tt
quiet_brings declined is = tt
quiet_brings let_on is = tt
quiet_brings (turned_away request answer) is = absurd is
quiet_brings (refused limit error) is = tt

-- ---- the stages that a step leaves

at_head : (request : Option Asking) → is_replying (stage_at request) ≡ false
at_head None = refl
at_head (Some request) = refl

at_asked : (request : Asking) (answer : Poll (Result Unit Answer)) → IsPending answer → is_replying (stage_asked request answer) ≡ false
at_asked request (Ready x) is = absurd is
at_asked request Pending is = refl

at_answered : (took : Option Took) (answer : Poll (Result Answer Answer)) → IsPending answer → is_replying (stage_answered took answer) ≡ false
at_answered took (Ready x) is = absurd is
at_answered took Pending is = refl

at_replied : (body : Giving) (size : BodySize) → is_replying (stage_replied body size) ≡ false
at_replied body NoBody = refl
at_replied body (Sized zero) = refl
at_replied body (Sized (suc n)) = refl
at_replied body Stream = refl

at_sent : (left : Giving) (piece : Piece) → is_replying (stage_sent left piece) ≡ false
at_sent left (Ready None) = refl
at_sent left (Ready (Some piece)) = refl
at_sent left Pending = refl

-- the stage is this one
now : (v w : View) (stage : Stage) → w.stage ≡ stage → is_replying stage ≡ false → HasNoReply w
now v w stage is none = ap is_replying is ∙ none

pub step_hands : (v w : View) (d : Step) → BringsNone d → IsStep v d w → HasNoReply v → HasNoReply w
step_hands v w (ticked moment expiry) brings is none = now v w v.stage (ap (λ (x : View). x.stage) is.1) none
step_hands v w drained brings is none = now v w v.stage (ap (λ (x : View). x.stage) is.1) none
step_hands v w (written answer) brings is none = now v w v.stage (ap (λ (x : View). x.stage) is.4) none
step_hands v w (read came answer) brings is none = now v w v.stage (ap (λ (x : View). x.stage) is.4) none
step_hands v w (shut answer) brings is none = now v w v.stage (ap (λ (x : View). x.stage) is.2) none
step_hands v w (next peer head) brings is none = now v w _ (ap (λ (x : View). x.stage) is.4) (at_head (request_at peer head))
step_hands v w (closed end) brings is none = now v w v.stage (ap (λ (x : View). x.stage) is.4) none
step_hands v w continued brings is none = now v w v.stage (ap (λ (x : View). x.stage) is.3) none
step_hands v w (ready request answer) brings is none = now v w _ (ap (λ (x : View). x.stage) is.3) (at_asked request answer brings)
step_hands v w (called request) brings is none = now v w _ (ap (λ (x : View). x.stage) is.2.2) refl
step_hands v w (answered answer) brings is none = now v w _ (ap (λ (x : View). x.stage) is.same) (at_answered is.more answer brings)
step_hands v w (pulled piece) brings is none = now v w v.stage (ap (λ (x : View). x.stage) is.2) none
step_hands v w paused brings is none = now v w v.stage (ap (λ (x : View). x.stage) is.4) none
step_hands v w dropped brings is none = now v w v.stage (ap (λ (x : View). x.stage) is.3) none
step_hands v w (replied answer) brings is none = now v w _ (ap (λ (x : View). x.stage) is.3) (at_replied answer.body answer.body.size)
step_hands v w (sent piece) brings is none = now v w _ (ap (λ (x : View). x.stage) is.3) (at_sent is.0 piece)
step_hands v w (failed event) brings is none = now v w v.stage (ap (λ (x : View). x.stage) is.2) none
step_hands v w (failed_write count) brings is none = now v w v.stage (ap (λ (x : View). x.stage) is.4) none
step_hands v w (failed_read came event) brings is none = now v w v.stage (ap (λ (x : View). x.stage) is.4) none
step_hands v w (failed_fed bytes) brings is none = now v w v.stage (ap (λ (x : View). x.stage) is.2) none
step_hands v w (failed_sent piece) brings is none = now v w _ (ap (λ (x : View). x.stage) is.3) refl
step_hands v w asked_to_drain brings is none = now v w v.stage (ap (λ (x : View). x.stage) is) none
step_hands v w (asked_to_hold upgrades expects) brings is none = now v w v.stage (ap (λ (x : View). x.stage) is) none
step_hands v w declined brings is none = now v w v.stage (ap (λ (x : View). x.stage) is) none
step_hands v w let_on brings is none = now v w v.stage (ap (λ (x : View). x.stage) is) none
step_hands v w (turned_away request answer) brings is none = absurd brings
step_hands v w (refused limit error) brings is none = now v w v.stage (ap (λ (x : View). x.stage) is.2) none

pub run_hands : (v w : View) (steps : List Step) → AllQuiet steps → IsRun v steps w → HasNoReply v → HasNoReply w
run_hands v w [] all is none = ap (λ (x : View). is_replying x.stage) is ∙ none
run_hands v w (d ∷ steps) all is none = run_hands is.0 w steps all.1 is.2 (step_hands v is.0 d (quiet_brings d all.0) is.1 none)
