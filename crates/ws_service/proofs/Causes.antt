-- Each result of a poll has its cause, and a poll is one run.
use Rattle.std.proofs.Common.{◌≡◌, ◌≤◌, ◌*◌, ◌⊎◌, ℕ, true, false, Option, Some, None, List, [], ◌∷◌, ◌++◌, Result, Ok, Err, inl, inr, refl, sym, ap, ◌∙◌, subst, arith}
use Rattle.std.specs.Prelude.{⊤}
use Rattle.futures.specs.declared.task.Poll.{Poll}
use Rattle.futures.specs.declared.task.Poll.TheVariants.{Ready, Pending}
use Rattle.futures.specs.declared.task.context.Context.{Context}
use Rattle.http_config.specs.Causes.{Rose}
use Rattle.http_types.specs.declared.error.Error.{Error}
use Rattle.http_bodies.specs.Told.{Caused}
use Rattle.http_bodies.proofs.Histories.{rose_since}
use Rattle.http_transport.specs.Wiring.{Wiring}
use Rattle.model_h1.specs.Event as on
use Rattle.ws_service.specs.declared.error.UpgradeError.{UpgradeError}
use Rattle.ws_service.specs.declared.error.UpgradeError.TheVariants as error
use Rattle.ws_service.specs.declared.dispatcher.Ending.{Ending}
use Rattle.ws_service.specs.declared.dispatcher.Ending.TheVariants.{Closed, Abandoned, Broken}
use Rattle.ws_service.specs.View.{View, Upgrading, is_broken, closes}
use Rattle.ws_service.specs.Steps.{Step, IsStep, IsRun, ticked, drained, written, read, told_end, shut, closed, ready, called, answered, pulled, sent, failed, unsent, failed_write, failed_read, asked_to_drain}
use Rattle.ws_service.specs.Traces.{IsNoted, AllNoted}
use Rattle.ws_service.specs.Polls.{Continues, AllContinue, EndsWith, FailsTransport, FailsService, Ended, Progress, IsReadIdle, ReadsNothing, IsIdle, IsHeld, Writes, IsStuck, Ticks, Drains, IsBegun, BeginFails, TurnsSay, PollRuns, PollSays}
use Rattle.ws_service.specs.Causes.{HasCause, IsOneRun}
use Rattle.ws_service.proofs.Runs.{one, run_on}

-- ---- no count of failures falls

record Counts (v w : View) : Type 0 where
  transport : v.transport.faults ≤ w.transport.faults
  service : v.service.faults ≤ w.service.faults

caused : {A E : Type 0} (before now : ℕ) (answer : Poll (Result A E)) → Caused before now answer → before ≤ now
caused before now (Ready (Ok x)) is = is
caused before now (Ready (Err e)) is = is.0
caused before now Pending is = is

same_count : (m n : ℕ) → n ≡ m → m ≤ n
same_count m n is = omega (arith, is)

-- the service stays, or the transport
transport_counts : (v w : View) → v.transport.faults ≤ w.transport.faults → w.service ≡ v.service → Counts v w
transport_counts v w is service = record { transport = is; service = same_count v.service.faults w.service.faults (ap (λ (s : Upgrading). s.faults) service) }

service_counts : (v w : View) → v.service.faults ≤ w.service.faults → w.transport ≡ v.transport → Counts v w
service_counts v w is transport = record { transport = same_count v.transport.faults w.transport.faults (ap (λ (t : Wiring). t.faults) transport); service = is }

stays : (v w : View) → w.transport ≡ v.transport → w.service ≡ v.service → Counts v w
stays v w transport service = transport_counts v w (same_count v.transport.faults w.transport.faults (ap (λ (t : Wiring). t.faults) transport)) service

step_counts : (v w : View) (d : Step) → IsStep v d w → Counts v w
step_counts v w (ticked moment expiry) is = stays v w (ap (λ (x : View). x.transport) is.1) (ap (λ (x : View). x.service) is.1)
step_counts v w drained is = stays v w (ap (λ (x : View). x.transport) is.1) (ap (λ (x : View). x.service) is.1)
step_counts v w (written answer) is = transport_counts v w (caused v.transport.faults w.transport.faults answer is.1.2.faults) (ap (λ (x : View). x.service) is.3)
step_counts v w (read came answer) is = transport_counts v w (caused v.transport.faults w.transport.faults answer is.2.4.faults) (ap (λ (x : View). x.service) is.4)
step_counts v w told_end is = stays v w (ap (λ (x : View). x.transport) is.5) (ap (λ (x : View). x.service) is.5)
step_counts v w (shut answer) is = transport_counts v w (caused v.transport.faults w.transport.faults answer is.1.faults) (ap (λ (x : View). x.service) is.2)
step_counts v w (closed end) is = stays v w (ap (λ (x : View). x.transport) is.4) (ap (λ (x : View). x.service) is.4)
step_counts v w (ready answer) is = service_counts v w (caused v.service.faults w.service.faults answer is.3.cause) (ap (λ (x : View). x.transport) is.4)
step_counts v w (called item) is =
    service_counts v w
    (omega (arith, is.2.is_ready.cause, is.2.begun.faults)) (ap (λ (x : View). x.transport) is.3)
step_counts v w (answered answer) is = service_counts v w (caused v.service.faults w.service.faults answer is.2.cause) (ap (λ (x : View). x.transport) is.3)
step_counts v w (pulled given) is = stays v w (ap (λ (x : View). x.transport) is.4) (ap (λ (x : View). x.service) is.4)
step_counts v w (sent message) is = stays v w (ap (λ (x : View). x.transport) is.4) (ap (λ (x : View). x.service) is.4)
step_counts v w (failed event) is = stays v w (ap (λ (x : View). x.transport) is.2) (ap (λ (x : View). x.service) is.2)
step_counts v w (unsent message) is = stays v w (ap (λ (x : View). x.transport) is.4) (ap (λ (x : View). x.service) is.4)
step_counts v w (failed_write count) is = transport_counts v w is.1.2.faults (ap (λ (x : View). x.service) is.3)
step_counts v w (failed_read came) is = transport_counts v w is.2.5.faults (ap (λ (x : View). x.service) is.4)
step_counts v w asked_to_drain is = stays v w (ap (λ (x : View). x.transport) is) (ap (λ (x : View). x.service) is)

more_counts : (v u w : View) → Counts v u → Counts u w → Counts v w
more_counts v u w first then = record { transport = omega (arith, first.transport, then.transport); service = omega (arith, first.service, then.service) }

run_counts : (v w : View) (steps : List Step) → IsRun v steps w → Counts v w
run_counts v w [] is = stays v w (ap (λ (x : View). x.transport) is) (ap (λ (x : View). x.service) is)
run_counts v w (d ∷ steps) is = more_counts v is.0 w (step_counts v is.0 d is.1) (run_counts is.0 w steps is.2)

-- ---- the last step

-- from the view before it
record Last (v : View) (d : Step) (w : View) : Type 0 where
  before : View
  counts : Counts v before
  step : IsStep before d w

last_of : (v w : View) (front : List Step) (d : Step) → IsRun v (front ++ d ∷ []) w → Last v d w
last_of v w [] d is = record { before = v; counts = stays v v refl refl; step = subst (λ x. IsStep v d x) (sym is.2) is.1 }
last_of v w (c ∷ front) d is =
    let l = last_of is.0 w front d is.2 in
    record { before = l.before; counts = more_counts v is.0 l.before (step_counts v is.0 c is.1) l.counts; step = l.step }

ends_last : (v w : View) (steps : List Step) (d : Step) → IsRun v steps w → EndsWith steps d → Last v d w
ends_last v w steps d run ends = last_of v w ends.0 d (subst (λ l. IsRun v l w) ends.1 run)

-- ---- causes

transport_has : (v u w : View) (steps : List Step) → Counts v u → IsRun u steps w → FailsTransport steps → Rose v.transport.faults w.transport.faults
transport_has v u w steps before run (failure, inl writes) =
    let l = ends_last u w steps (written (Ready (Err failure))) run writes in
    rose_since v.transport.faults l.before.transport.faults w.transport.faults (more_counts v u l.before before l.counts).transport l.step.1.2.faults.1
transport_has v u w steps before run (failure, inr (inl reads)) =
    let l = ends_last u w steps (read reads.0 (Ready (Err failure))) run reads.1 in
    rose_since v.transport.faults l.before.transport.faults w.transport.faults (more_counts v u l.before before l.counts).transport l.step.2.4.faults.1
transport_has v u w steps before run (failure, inr (inr shuts)) =
    let l = ends_last u w steps (shut (Ready (Err failure))) run shuts in
    rose_since v.transport.faults l.before.transport.faults w.transport.faults (more_counts v u l.before before l.counts).transport l.step.1.faults.1

service_has : (v u w : View) (e : Error) (steps : List Step) → Counts v u → IsRun u steps w → FailsService e steps → Rose v.service.faults w.service.faults
service_has v u w e steps before run (inl is) =
    let l = ends_last u w steps (ready (Ready (Err e))) run is in
    rose_since v.service.faults l.before.service.faults w.service.faults (more_counts v u l.before before l.counts).service l.step.3.cause.1
service_has v u w e steps before run (inr is) =
    let l = ends_last u w steps (answered (Ready (Err e))) run is in
    rose_since v.service.faults l.before.service.faults w.service.faults (more_counts v u l.before before l.counts).service l.step.2.cause.1

ended_has : (v u w : View) (steps : List Step) (result : Result Unit UpgradeError) → Counts v u → IsRun u steps w → Ended w steps result → HasCause v w result
ended_has v u w steps (Ok x) before run is = (is.1, (ends_last u w steps (shut (Ready (Ok tt))) run is.0).step.1.shuts_so refl)
ended_has v u w steps (Err error.Io) before run is = transport_has v u w steps before run is
ended_has v u w steps (Err (error.Upgrade e)) before run is = service_has v u w e steps before run is
ended_has v u w steps (Err error.DisconnectTimeout) before run is = is.1
ended_has v u w steps (Err error.NoMemory) before run is = is.0
ended_has v u w steps (Err error.NotUpgraded) before run is = (is.1, is.2)

-- ---- a poll

noted_on : (s t : List Step) → AllNoted s → AllNoted t → AllNoted (s ++ t)
noted_on [] t first then = then
noted_on (d ∷ s) t first then = (first.0, noted_on s t first.1 then)

pub begun_run : (v w : View) (moment : ℕ) → IsBegun v moment w → (steps : List Step) × IsRun v steps w × AllNoted steps
begun_run v w moment is = drains (ticks is.ticks) is.drains
  where
    ticks : Ticks v moment is.between → (steps : List Step) × IsRun v steps is.between × AllNoted steps
    ticks (inl so) = ([], so.1, tt)
    ticks (inr so) = (ticked moment so.1.0 ∷ [], one v is.between (ticked moment so.1.0) so.1.1, (tt, tt))

    drains : (steps : List Step) × IsRun v steps is.between × AllNoted steps → Drains is.between w → (steps : List Step) × IsRun v steps w × AllNoted steps
    drains first (inl so) = (first.0, subst (λ x. IsRun v first.0 x) (sym so.1) first.1, first.2)
    drains first (inr so) = (first.0 ++ drained ∷ [], run_on v is.between w first.0 (drained ∷ []) first.1 (one is.between w drained so.2), noted_on first.0 (drained ∷ []) first.2 (tt, tt))

broken_so : (e : Option Ending) → is_broken e ≡ true → e ≡ Some Broken
broken_so None is = absurd (cc is)
broken_so (Some (Closed end)) is = absurd (cc is)
broken_so (Some Abandoned) is = absurd (cc is)
broken_so (Some Broken) is = refl

fails_broken : (v w : View) (moment : ℕ) → BeginFails v moment w → w.ending ≡ Some Broken
fails_broken v w moment (inl is) = ap (λ (x : View). x.ending) is.2
fails_broken v w moment (inr is) = ap (λ (x : View). x.ending) is.2.2

abbrev IfReady : View → View → Poll (Result Unit UpgradeError) → Type 0
IfReady v w (Ready result) = HasCause v w result
IfReady v w Pending = ⊤

runs_has : (v w : View) (cx : Context) (moment : ℕ) (result : Result Unit UpgradeError) → PollRuns v w cx moment (Ready result) → HasCause v w result
runs_has v w cx moment result (inl fails) = subst (λ r. IfReady v w r) (sym fails.0) (fails_broken v w moment fails.1)
runs_has v w cx moment result (inr turns) =
    let b = begun_run v turns.0 moment turns.1 in
    ended_has v turns.0 w turns.2.steps result (run_counts v turns.0 b.0 b.1) turns.2.run turns.2.ended

pub poll_has : (v w : View) (cx : Context) (moment : ℕ) (result : Result Unit UpgradeError) → PollSays v w cx moment (Ready result) → HasCause v w result
poll_has v w cx moment result (inl is) = subst (λ r. IfReady v w r) (sym is.2) (ap (λ (x : View). x.ending) is.1 ∙ broken_so v.ending is.0)
poll_has v w cx moment result (inr is) = runs_has v w cx moment result is.1

-- ---- one run

goes_noted : (d : Step) → Continues d → IsNoted d
goes_noted (ticked moment expiry) goes = tt
goes_noted drained goes = tt
goes_noted (written answer) goes = tt
goes_noted (read came answer) goes = tt
goes_noted told_end goes = tt
goes_noted (shut answer) goes = tt
goes_noted (closed end) goes = tt
goes_noted (ready answer) goes = tt
goes_noted (called item) goes = tt
goes_noted (answered answer) goes = tt
goes_noted (pulled given) goes = tt
goes_noted (sent message) goes = tt
goes_noted (failed event) goes = absurd goes
goes_noted (unsent message) goes = absurd goes
goes_noted (failed_write count) goes = absurd goes
goes_noted (failed_read came) goes = absurd goes
goes_noted asked_to_drain goes = tt

pub go_noted : (steps : List Step) → AllContinue steps → AllNoted steps
go_noted [] all = tt
go_noted (d ∷ steps) all = (goes_noted d all.0, go_noted steps all.1)

-- a run all of which was noted
record Noted (v w : View) : Type 0 where
  steps : List Step
  run : IsRun v steps w
  all : AllNoted steps

noted_then : (v u w : View) → Noted v u → Noted u w → Noted v w
noted_then v u w a b =
    record { steps = a.steps ++ b.steps; run = run_on v u w a.steps b.steps a.run b.run; all = noted_on a.steps b.steps a.all b.all }

none_noted : (v w : View) → w ≡ v → Noted v w
none_noted v w is = record { steps = []; run = is; all = tt }

read_noted : (v w : View) → IsReadIdle v w → Noted v w
read_noted v w is = record { steps = is.reading; run = is.reads; all = by is.reading is.no_input }
  where
    by : (reading : List Step) → ReadsNothing v reading → AllNoted reading
    by reading (inl so) = subst (λ l. AllNoted l) (sym so) (tt, tt)
    by reading (inr so) = subst (λ l. AllNoted l) (sym so.0) tt

idle_noted : (v w : View) → IsIdle 3 v w → Noted v w
idle_noted v w is = noted_then v is.between w (record { steps = is.served; run = is.serves; all = go_noted is.served is.go_on }) (read_noted is.between w is.input)

stuck_noted : (v w : View) → IsStuck v w → Noted v w
stuck_noted v w (inl is) = noted_then v is.after w (record { steps = is.writing; run = is.writes; all = by is.writing is.no_output }) (after is.waits)
  where
    by : (writing : List Step) → Writes v writing → AllNoted writing
    by writing (inl so) = subst (λ l. AllNoted l) (sym so) (tt, tt)
    by writing (inr so) = subst (λ l. AllNoted l) (sym so.0) tt

    after : IsHeld is.after w ⊎ ((closes is.after ≡ false) × IsIdle 3 is.after w) → Noted is.after w
    after (inl held) = none_noted is.after w held.stays
    after (inr idle) = idle_noted is.after w idle.1
stuck_noted v w (inr is) = record { steps = shut Pending ∷ []; run = is.shuts; all = (tt, tt) }

goes_noted_run : (v w : View) (n most : ℕ) → Progress v w n most → Noted v w
goes_noted_run v w n most is = record { steps = is.steps; run = is.run; all = go_noted is.steps is.go_on }

-- it ended, and memory ran out only where it answered so
last_noted : (steps : List Step) (d : Step) → IsNoted d → EndsWith steps d → AllNoted steps
last_noted steps d noted ends = subst (λ l. AllNoted l) (sym ends.1) (noted_on ends.0 (d ∷ []) (go_noted ends.0 ends.2) (noted, tt))

transport_noted : (steps : List Step) → FailsTransport steps → AllNoted steps
transport_noted steps (failure, inl writes) = last_noted steps _ tt writes
transport_noted steps (failure, inr (inl reads)) = last_noted steps _ tt reads.1
transport_noted steps (failure, inr (inr shuts)) = last_noted steps _ tt shuts

service_noted : (e : Error) (steps : List Step) → FailsService e steps → AllNoted steps
service_noted e steps (inl is) = last_noted steps _ tt is
service_noted e steps (inr is) = last_noted steps _ tt is

ended_noted : (w : View) (steps : List Step) (result : Result Unit UpgradeError) → Ended w steps result → (Ready result ≡ Ready (Err error.NoMemory)) ⊎ AllNoted steps
ended_noted w steps (Ok x) is = inr (last_noted steps _ tt is.0)
ended_noted w steps (Err error.Io) is = inr (transport_noted steps is)
ended_noted w steps (Err (error.Upgrade e)) is = inr (service_noted e steps is)
ended_noted w steps (Err error.DisconnectTimeout) is = inr (go_noted steps is.0)
ended_noted w steps (Err error.NoMemory) is = inl refl
ended_noted w steps (Err error.NotUpgraded) is = inr (go_noted steps is.0)

-- what was noted before stays so
after_noted : (s t : List Step) (result : Poll (Result Unit UpgradeError)) → AllNoted s → (result ≡ Ready (Err error.NoMemory)) ⊎ AllNoted t
    → (result ≡ Ready (Err error.NoMemory)) ⊎ AllNoted (s ++ t)
after_noted s t result first (inl lacks) = inl lacks
after_noted s t result first (inr then) = inr (noted_on s t first then)

ran : (v u w : View) (result : Poll (Result Unit UpgradeError)) → Noted v u → Noted u w → IsOneRun v w result
ran v u w result a b = let c = noted_then v u w a b in record { steps = c.steps; run = c.run; noted = inr c.all }

turns_ran : (v u w : View) (cx : Context) (result : Poll (Result Unit UpgradeError)) → Noted v u → TurnsSay u w cx result → IsOneRun v w result
turns_ran v u w cx (Ready result) a is = record {
  steps = a.steps ++ is.steps;
  run = run_on v u w a.steps is.steps a.run is.run;
  noted = after_noted a.steps is.steps (Ready result) a.all (ended_noted w is.steps result is.ended);
}
turns_ran v u w cx Pending a (inl waits) =
    ran v u w Pending a (noted_then u waits.last w (goes_noted_run u waits.last waits.turns (4 * waits.turns) waits.goes) (stuck_noted waits.last w waits.stuck))
turns_ran v u w cx Pending a (inr spent) = ran v u w Pending a (goes_noted_run u w 64 (4 * 64) spent.goes)

fails_ran : (v w : View) (moment : ℕ) (result : Poll (Result Unit UpgradeError)) → result ≡ Ready (Err error.NoMemory) → BeginFails v moment w → IsOneRun v w result
fails_ran v w moment result lacks (inl is) = record { steps = failed (on.tick moment) ∷ []; run = one v w (failed (on.tick moment)) is; noted = inl lacks }
fails_ran v w moment result lacks (inr (u, inl stays_so, is)) =
    record { steps = failed on.drain ∷ []; run = one v w (failed on.drain) (subst (λ x. IsStep x (failed on.drain) w) stays_so.1 is); noted = inl lacks }
fails_ran v w moment result lacks (inr (u, inr came, is)) =
    record { steps = ticked moment came.1.0 ∷ failed on.drain ∷ []; run = (u, came.1.1, (w, is, refl)); noted = inl lacks }

pub poll_ran : (v w : View) (cx : Context) (moment : ℕ) (result : Poll (Result Unit UpgradeError)) → PollSays v w cx moment result → IsOneRun v w result
poll_ran v w cx moment result (inl is) = record { steps = []; run = is.1; noted = inr tt }
poll_ran v w cx moment result (inr (on_so, inl fails)) = fails_ran v w moment result fails.0 fails.1
poll_ran v w cx moment result (inr (on_so, inr turns)) =
    let b = begun_run v turns.0 moment turns.1 in
    turns_ran v turns.0 w cx result (record { steps = b.0; run = b.1; all = b.2 }) turns.2
