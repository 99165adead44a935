-- Each result of a poll has its cause.
use Rattle.std.proofs.Common.{◌≡◌, ◌≤◌, ℕ, true, Option, Some, None, List, [], ◌∷◌, ◌++◌, Result, Ok, Err, inl, inr, refl, sym, ap, ◌∙◌, subst, arith}
use Rattle.std.specs.Prelude.{⊤}
use Rattle.futures.specs.declared.task.Poll.{Poll}
use Rattle.futures.specs.declared.task.Poll.TheVariants.{Ready, Pending}
use Rattle.futures.specs.declared.task.context.Context.{Context}
use Rattle.http_bodies.specs.Told.{Caused}
use Rattle.http_bodies.proofs.Histories.{rose_since}
use Rattle.http_types.specs.declared.error.DispatchError.{DispatchError}
use Rattle.http_types.specs.declared.error.DispatchError.TheVariants as error
use Rattle.h1_connection.specs.declared.event.End.{End}
use Rattle.h1_connection.specs.declared.event.End.TheVariants as ends
use Rattle.h1_dispatcher.specs.declared.dispatcher.Ending.{Ending}
use Rattle.h1_dispatcher.specs.declared.dispatcher.Ending.TheVariants.{Closed, Abandoned, Broken}
use Rattle.h1_dispatcher.specs.View.{View, is_broken}
use Rattle.h1_dispatcher.specs.Steps.{Step, IsStep, IsRun, ticked, drained, written, read, shut, next, closed, continued, ready, called, answered, pulled, paused, dropped, replied, sent, failed, failed_write, failed_read, failed_fed, failed_sent, asked_to_drain, asked_to_hold, declined, let_on, turned_away, refused}
use Rattle.h1_dispatcher.specs.Polls.{EndsWith, IsShut, IsIo, Ended, result_of, Ticks, Drains, IsBegun, BeginFails, PollRuns, PollSays}
use Rattle.h1_dispatcher.specs.Causes.{HasClosed, HasCause}

-- ---- the transport's count never falls

caused : {A E : Type 0} (before now : ℕ) (answer : Poll (Result A E)) → Caused before now answer → before ≤ now
caused before now (Ready (Ok x)) is = is
caused before now (Ready (Err e)) is = is.0
caused before now Pending is = is

same_count : (m n : ℕ) → n ≡ m → m ≤ n
same_count m n is = omega (arith, is)

abbrev Counts : View → View → Type 0
Counts v w = v.transport.faults ≤ w.transport.faults

stays : (v w : View) → w.transport.faults ≡ v.transport.faults → Counts v w
stays v w is = same_count v.transport.faults w.transport.faults is

step_counts : (v w : View) (d : Step) → IsStep v d w → Counts v w
step_counts v w (ticked moment expiry) is = stays v w (ap (λ (x : View). x.transport.faults) is.1)
step_counts v w drained is = stays v w (ap (λ (x : View). x.transport.faults) is.1)
step_counts v w (written answer) is = caused v.transport.faults w.transport.faults answer is.2.faults
step_counts v w (read came answer) is = caused v.transport.faults w.transport.faults answer is.2.4.faults
step_counts v w (shut answer) is = caused v.transport.faults w.transport.faults answer is.1.faults
step_counts v w (next peer head) is = stays v w (ap (λ (x : View). x.transport.faults) is.4)
step_counts v w (closed end) is = stays v w (ap (λ (x : View). x.transport.faults) is.4)
step_counts v w continued is = stays v w (ap (λ (x : View). x.transport.faults) is.3)
step_counts v w (ready request answer) is = stays v w (ap (λ (x : View). x.transport.faults) is.3)
step_counts v w (called request) is = stays v w (ap (λ (x : View). x.transport.faults) is.2.2)
step_counts v w (answered answer) is = stays v w (ap (λ (x : View). x.transport.faults) is.same)
step_counts v w (pulled piece) is = stays v w (ap (λ (x : View). x.transport.faults) is.2)
step_counts v w paused is = stays v w (ap (λ (x : View). x.transport.faults) is.4)
step_counts v w dropped is = stays v w (ap (λ (x : View). x.transport.faults) is.3)
step_counts v w (replied answer) is = stays v w (ap (λ (x : View). x.transport.faults) is.3)
step_counts v w (sent piece) is = stays v w (ap (λ (x : View). x.transport.faults) is.3)
step_counts v w (failed event) is = stays v w (ap (λ (x : View). x.transport.faults) is.2)
step_counts v w (failed_write count) is = is.2.faults
step_counts v w (failed_read came event) is = is.2.5.faults
step_counts v w (failed_fed bytes) is = stays v w (ap (λ (x : View). x.transport.faults) is.2)
step_counts v w (failed_sent piece) is = stays v w (ap (λ (x : View). x.transport.faults) is.3)
step_counts v w asked_to_drain is = stays v w (ap (λ (x : View). x.transport.faults) is)
step_counts v w (asked_to_hold upgrades expects) is = stays v w (ap (λ (x : View). x.transport.faults) is)
step_counts v w declined is = stays v w (ap (λ (x : View). x.transport.faults) is)
step_counts v w let_on is = stays v w (ap (λ (x : View). x.transport.faults) is)
step_counts v w (turned_away request answer) is = stays v w (ap (λ (x : View). x.transport.faults) is.2)
step_counts v w (refused limit error) is = stays v w (ap (λ (x : View). x.transport.faults) is.2)

more_counts : (v u w : View) → Counts v u → Counts u w → Counts v w
more_counts v u w first then = omega (arith, first, then)

run_counts : (v w : View) (steps : List Step) → IsRun v steps w → Counts v w
run_counts v w [] is = stays v w (ap (λ (x : View). x.transport.faults) is)
run_counts v w (d ∷ steps) is = more_counts v is.0 w (step_counts v is.0 d is.1) (run_counts is.0 w steps is.2)

-- ---- the last step

-- from the view before it
record Last (v : View) (d : Step) (w : View) : Type 0 where
  before : View
  counts : Counts v before
  step : IsStep before d w

last_of : (v w : View) (front : List Step) (d : Step) → IsRun v (front ++ d ∷ []) w → Last v d w
last_of v w [] d is = record { before = v; counts = stays v v refl; step = subst (λ x. IsStep v d x) (sym is.2) is.1 }
last_of v w (c ∷ front) d is =
    let l = last_of is.0 w front d is.2 in
    record { before = l.before; counts = more_counts v is.0 l.before (step_counts v is.0 c is.1) l.counts; step = l.step }

ends_last : (v w : View) (steps : List Step) (d : Step) → IsRun v steps w → EndsWith steps d → Last v d w
ends_last v w steps d run ends = last_of v w ends.0 d (subst (λ l. IsRun v l w) ends.1 run)

-- ---- causes

end_has : (v w : View) (end : End) → HasClosed w end → HasCause v w (result_of end)
end_has v w ends.Malformed closed_so = closed_so
end_has v w ends.TooLarge closed_so = closed_so
end_has v w ends.SlowRequestTimeout closed_so = closed_so
end_has v w ends.Body closed_so = inl closed_so
end_has v w ends.BodyShort closed_so = inr closed_so
end_has v w ends.KeepAliveExpired closed_so = (ends.KeepAliveExpired, refl, closed_so)
end_has v w ends.Protocol closed_so = (ends.Protocol, refl, closed_so)
end_has v w ends.Asked closed_so = (ends.Asked, refl, closed_so)
end_has v w ends.BrokenBody closed_so = (ends.BrokenBody, refl, closed_so)
end_has v w ends.UnreadBody closed_so = (ends.UnreadBody, refl, closed_so)
end_has v w ends.Drained closed_so = (ends.Drained, refl, closed_so)
end_has v w ends.HalfClosed closed_so = (ends.HalfClosed, refl, closed_so)
end_has v w ends.InputEnded closed_so = (ends.InputEnded, refl, closed_so)

shut_has : (v u w : View) (steps : List Step) (result : Result Unit DispatchError) → IsRun u steps w → IsShut w steps result → HasCause v w result
shut_has v u w steps result run is =
    let l = ends_last u w steps (shut (Ready (Ok tt))) run is.0 in
    subst (λ r. HasCause v w r) is.1.2 (end_has v w is.1.0 (record { ended = is.1.1; shut = l.step.1.shuts_so refl }))

io_has : (v u w : View) (steps : List Step) → Counts v u → IsRun u steps w → IsIo steps → HasCause v w (Err error.Io)
io_has v u w steps before run (failure, inl wrote) =
    let l = ends_last u w steps (written (Ready (Err failure))) run wrote in
    rose_since v.transport.faults l.before.transport.faults w.transport.faults (more_counts v u l.before before l.counts) l.step.2.faults.1
io_has v u w steps before run (failure, inr (inl reads)) =
    let l = ends_last u w steps (read reads.0 (Ready (Err failure))) run reads.1 in
    rose_since v.transport.faults l.before.transport.faults w.transport.faults (more_counts v u l.before before l.counts) l.step.2.4.faults.1
io_has v u w steps before run (failure, inr (inr shuts)) =
    let l = ends_last u w steps (shut (Ready (Err failure))) run shuts in
    rose_since v.transport.faults l.before.transport.faults w.transport.faults (more_counts v u l.before before l.counts) l.step.1.faults.1

ended_has : (v u w : View) (steps : List Step) (result : Result Unit DispatchError) → Counts v u → IsRun u steps w → Ended w steps result → HasCause v w result
ended_has v u w steps (Ok x) before run is = shut_has v u w steps (Ok tt) run is
ended_has v u w steps (Err error.Io) before run is = io_has v u w steps before run is
ended_has v u w steps (Err error.NoMemory) before run is = is.0
ended_has v u w steps (Err error.DisconnectTimeout) before run is = is.1
ended_has v u w steps (Err error.Body) before run is = shut_has v u w steps (Err error.Body) run is
ended_has v u w steps (Err error.SlowRequestTimeout) before run is = shut_has v u w steps (Err error.SlowRequestTimeout) run is
ended_has v u w steps (Err (error.Parse e)) before run is = shut_has v u w steps (Err (error.Parse e)) run is
ended_has v u w steps (Err error.Service) before run is = absurd is
ended_has v u w steps (Err error.Upgrade) before run is = absurd is
ended_has v u w steps (Err error.H2) before run is = absurd is
ended_has v u w steps (Err error.HandlerDroppedPayload) before run is = absurd is
ended_has v u w steps (Err error.InternalError) before run is = absurd is

-- ---- a poll

ticks_count : (v w : View) (moment : ℕ) → Ticks v moment w → Counts v w
ticks_count v w moment (inl is) = stays v w (ap (λ (x : View). x.transport.faults) is.1)
ticks_count v w moment (inr is) = step_counts v w (ticked moment is.1.0) is.1.1

drains_count : (v w : View) → Drains v w → Counts v w
drains_count v w (inl is) = stays v w (ap (λ (x : View). x.transport.faults) is.1)
drains_count v w (inr is) = step_counts v w drained is.2

begun_count : (v w : View) (moment : ℕ) → IsBegun v moment w → Counts v w
begun_count v w moment is = more_counts v is.between w (ticks_count v is.between moment is.ticks) (drains_count is.between w is.drains)

broken_so : (e : Option Ending) → is_broken e ≡ true → e ≡ Some Broken
broken_so None is = absurd (cc is)
broken_so (Some (Closed end)) is = absurd (cc is)
broken_so (Some Abandoned) is = absurd (cc is)
broken_so (Some Broken) is = refl

fails_broken : (v w : View) (moment : ℕ) → BeginFails v moment w → w.ending ≡ Some Broken
fails_broken v w moment (inl is) = ap (λ (x : View). x.ending) is.2
fails_broken v w moment (inr is) = ap (λ (x : View). x.ending) is.2.2

-- where memory ran out
abbrev IfReady : View → View → Poll (Result Unit DispatchError) → Type 0
IfReady v w (Ready result) = HasCause v w result
IfReady v w Pending = ⊤

runs_has : (v w : View) (cx : Context) (moment : ℕ) (result : Result Unit DispatchError) → PollRuns v w cx moment (Ready result) → HasCause v w result
runs_has v w cx moment result (inl fails) = subst (λ r. IfReady v w r) (sym fails.0) (fails_broken v w moment fails.1)
runs_has v w cx moment result (inr turns) =
    ended_has v turns.0 w turns.2.steps result (begun_count v turns.0 moment turns.1) turns.2.run turns.2.ended

pub poll_has : (v w : View) (cx : Context) (moment : ℕ) (result : Result Unit DispatchError) → PollSays v w cx moment (Ready result) → HasCause v w result
poll_has v w cx moment result (inl broken) =
    subst (λ r. IfReady v w r) (sym broken.2) (ap (λ (x : View). x.ending) broken.1 ∙ broken_so v.ending broken.0)
poll_has v w cx moment result (inr runs) = runs_has v w cx moment result runs.1
