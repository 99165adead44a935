-- Where nobody listens, memory runs out only where it is taken.
use Rattle.std.proofs.Common.{◌≡◌, ℕ, false, List, [], ◌∷◌, Some, None, Result, Ok, Err, inl, inr, ap, ◌∙◌}
use Rattle.futures.specs.declared.task.Poll.{Poll}
use Rattle.futures.specs.declared.task.Poll.TheVariants.{Ready, Pending}
use Rattle.http_config.specs.declared.Failed.{Failed}
use Rattle.http_bodies.specs.Giving.{Piece}
use Rattle.http_bodies.specs.declared.body.fault.BodyFault.TheVariants.{Body, NoMemory}
use Rattle.h1_traced.specs.Traced.{TracedView}
use Rattle.h1_dispatcher.specs.View.{View}
use Rattle.h1_dispatcher.specs.Steps.{Step, Wrote, Took, Sent, Lacked, IsStep, IsRun, ticked, drained, written, read, shut, next, closed, continued, ready, called, answered, pulled, paused, dropped, replied, sent, failed, failed_write, failed_read, failed_fed, failed_sent, asked_to_drain, asked_to_hold, declined, let_on, turned_away, refused}
use Rattle.h1_dispatcher.specs.Traces.{IsNoted, AllNoted}
use Rattle.h1_dispatcher.specs.Memory.{PieceTakes, TakesMemory}

-- ---- whether somebody listens stays

wrote_listens : (old new : TracedView) (answer : Poll (Result ℕ Failed)) → Wrote old new answer → new.listens ≡ old.listens
wrote_listens old new (Ready (Ok n)) wrote = wrote.1.listens
wrote_listens old new (Ready (Err e)) same = ap (λ (l : TracedView). l.listens) same
wrote_listens old new Pending same = ap (λ (l : TracedView). l.listens) same

took_listens : (old new : TracedView) (came : List ℕ) (answer : Poll (Result ℕ Failed)) → Took old new came answer → new.listens ≡ old.listens
took_listens old new came (Ready (Ok n)) (inl end) = end.1.listens
took_listens old new came (Ready (Ok n)) (inr some) = some.1.1.listens
took_listens old new came (Ready (Err e)) same = ap (λ (l : TracedView). l.listens) same
took_listens old new came Pending same = ap (λ (l : TracedView). l.listens) same

sent_listens : (old new : TracedView) (piece : Piece) → Sent old new piece → new.listens ≡ old.listens
sent_listens old new (Ready (Some (Ok bytes))) goes = goes.listens
sent_listens old new (Ready (Some (Err (Body n)))) goes = goes.listens
sent_listens old new (Ready (Some (Err NoMemory))) goes = absurd goes
sent_listens old new (Ready None) goes = goes.listens
sent_listens old new Pending same = ap (λ (l : TracedView). l.listens) same

step_listens : (v w : View) (d : Step) → IsNoted d → IsStep v d w → w.traced.listens ≡ v.traced.listens
step_listens v w (ticked moment expiry) noted is = is.0.listens
step_listens v w drained noted is = is.0.listens
step_listens v w (written answer) noted is = wrote_listens v.traced w.traced answer is.3
step_listens v w (read came answer) noted is = took_listens v.traced w.traced came answer is.3
step_listens v w (shut answer) noted is = ap (λ (y : View). y.traced.listens) is.2
step_listens v w (next peer head) noted is = is.3.listens
step_listens v w (closed end) noted is = is.3.1.listens
step_listens v w continued noted is = is.2.listens
step_listens v w (ready request answer) noted is = ap (λ (y : View). y.traced.listens) is.3
step_listens v w (called request) noted is = ap (λ (y : View). y.traced.listens) is.2.2
step_listens v w (answered answer) noted is = ap (λ (y : View). y.traced.listens) is.same
step_listens v w (pulled given) noted is = is.1.listens
step_listens v w paused noted is = ap (λ (y : View). y.traced.listens) is.4
step_listens v w dropped noted is = is.2.listens
step_listens v w (replied answer) noted is = is.2.listens
step_listens v w (sent piece) noted is = sent_listens v.traced w.traced piece is.2
step_listens v w (failed event) noted is = absurd noted
step_listens v w (failed_write count) noted is = absurd noted
step_listens v w (failed_read came event) noted is = absurd noted
step_listens v w (failed_fed bytes) noted is = absurd noted
step_listens v w (failed_sent piece) noted is = absurd noted
step_listens v w asked_to_drain noted is = ap (λ (y : View). y.traced.listens) is
step_listens v w (asked_to_hold upgrades expects) noted is = ap (λ (y : View). y.traced.listens) is
step_listens v w declined noted is = ap (λ (y : View). y.traced.listens) is
step_listens v w let_on noted is = ap (λ (y : View). y.traced.listens) is
step_listens v w (turned_away request answer) noted is = ap (λ (y : View). y.traced.listens) is.2
step_listens v w (refused limit error) noted is = is.1.listens

pub run_listens : (v w : View) (steps : List Step) → AllNoted steps → IsRun v steps w → w.traced.listens ≡ v.traced.listens
run_listens v w [] noted is = ap (λ (y : View). y.traced.listens) is
run_listens v w (d ∷ steps) noted is = run_listens is.0 w steps noted.1 is.2 ∙ step_listens v is.0 d noted.0 is.1

-- ---- where memory ran out

piece_takes : (v w : View) (piece : Piece) → v.traced.listens ≡ false → Lacked v.traced w.traced piece → PieceTakes v piece
piece_takes v w (Ready (Some (Ok bytes))) unheard lacked = lacked.memory unheard
piece_takes v w (Ready (Some (Err (Body n)))) unheard lacked = lacked.memory unheard tt
piece_takes v w (Ready (Some (Err NoMemory))) unheard lacked = tt
piece_takes v w (Ready None) unheard lacked = lacked.memory unheard
piece_takes v w Pending unheard lacked = lacked

step_takes : (v w : View) (d : Step) → v.traced.listens ≡ false → IsStep v d w → TakesMemory v d
step_takes v w (failed event) unheard is = is.1.memory unheard
step_takes v w (failed_write count) unheard is = is.5 unheard
step_takes v w (failed_read came event) unheard is = is.3.memory unheard
step_takes v w (failed_sent piece) unheard is = piece_takes v w piece unheard is.2
step_takes v w (failed_fed bytes) unheard is = tt
step_takes v w (ticked moment expiry) unheard is = tt
step_takes v w drained unheard is = tt
step_takes v w (written answer) unheard is = tt
step_takes v w (read came answer) unheard is = tt
step_takes v w (shut answer) unheard is = tt
step_takes v w (next peer head) unheard is = tt
step_takes v w (closed end) unheard is = tt
step_takes v w continued unheard is = tt
step_takes v w (ready request answer) unheard is = tt
step_takes v w (called request) unheard is = tt
step_takes v w (answered answer) unheard is = tt
step_takes v w (pulled given) unheard is = tt
step_takes v w paused unheard is = tt
step_takes v w dropped unheard is = tt
step_takes v w (replied answer) unheard is = tt
step_takes v w (sent piece) unheard is = tt
step_takes v w asked_to_drain unheard is = tt
step_takes v w (asked_to_hold upgrades expects) unheard is = tt
step_takes v w declined unheard is = tt
step_takes v w let_on unheard is = tt
step_takes v w (turned_away request answer) unheard is = tt
step_takes v w (refused limit error) unheard is = tt

pub run_takes : (v u w : View) (steps : List Step) (step : Step) → v.traced.listens ≡ false → AllNoted steps → IsRun v steps u → IsStep u step w → TakesMemory u step
run_takes v u w steps step unheard noted run is = step_takes u w step (run_listens v u steps noted run ∙ unheard) is
