-- Runs of steps one after the other, and how they end.
use Rattle.std.proofs.Common.{◌≡◌, ◌≤◌, ◌+◌, ℕ, List, [], ◌∷◌, ◌++◌, Some, Result, Ok, Err, inl, inr, refl, ap, subst, arith}
use Rattle.std.proofs.lemmas.List.{length-append}
use Rattle.http_types.specs.declared.error.DispatchError.{DispatchError}
use Rattle.http_types.specs.declared.error.DispatchError.TheVariants as error
use Rattle.h1_dispatcher.specs.declared.dispatcher.Ending.TheVariants.{Broken}
use Rattle.h1_dispatcher.specs.View.{View}
use Rattle.h1_dispatcher.specs.Steps.{Step, IsStep, IsRun, ticked, drained, written, read, shut, next, closed, continued, ready, called, answered, pulled, paused, dropped, replied, sent, failed, failed_write, failed_read, failed_fed, failed_sent, asked_to_drain, asked_to_hold, declined, let_on, turned_away, refused}
use Rattle.h1_dispatcher.specs.Replies.{HandsOn}
use Rattle.h1_dispatcher.specs.Traces.{IsNoted, AllNoted}
use Rattle.h1_dispatcher.specs.Polls.{Continues, AllContinue, EndsWith, IsShut, IsIo, IsOutOfMemory, Ended, counts, progress, GoesOn, Ends}
use Rattle.h1_dispatcher.proofs.Traces.{run_follows}
use Rattle.h1_dispatcher.proofs.Replies.{BringsNone, Quiet, quiet_goes, quiet_brings, step_hands}

-- the run of one step
pub one : (v w : View) (d : Step) → IsStep v d w → IsRun v (d ∷ []) w
one v w d is = (w, is, refl)

-- one run after another
pub run_on : (v u w : View) (s t : List Step) → IsRun v s u → IsRun u t w → IsRun v (s ++ t) w
run_on v u w [] t first then = subst (λ x. IsRun x t w) first then
run_on v u w (d ∷ s) t first then = (first.0, first.1, run_on first.0 u w s t first.2 then)

pub all_on : (s t : List Step) → AllContinue s → AllContinue t → AllContinue (s ++ t)
all_on [] t first then = then
all_on (d ∷ s) t first then = (first.0, all_on s t first.1 then)

pub progress_on : (s t : List Step) → progress (s ++ t) ≡ progress s + progress t
progress_on [] t = omega arith
progress_on (d ∷ s) t = omega (arith, progress_on s t)

-- ---- how a run ends

same_last : (d last : Step) (s before : List Step) → s ≡ before ++ last ∷ [] → d ∷ s ≡ d ∷ before ++ last ∷ []
same_last d last s before is = ap (λ l. d ∷ l) is

ends_on : (d last : Step) (s : List Step) → Continues d → EndsWith s last → EndsWith (d ∷ s) last
ends_on d last s goes is = (d ∷ is.0, same_last d last s is.0 is.1, (goes, is.2))

shut_on : (w : View) (d : Step) (s : List Step) (result : Result Unit DispatchError) → Continues d → IsShut w s result → IsShut w (d ∷ s) result
shut_on w d s result goes is = (ends_on d _ s goes is.0, is.1)

io_on : (d : Step) (s : List Step) → Continues d → IsIo s → IsIo (d ∷ s)
io_on d s goes (failure, inl wrote) = (failure, inl (ends_on d _ s goes wrote))
io_on d s goes (failure, inr (inl reads)) = (failure, inr (inl (reads.0, ends_on d _ s goes reads.1)))
io_on d s goes (failure, inr (inr shuts)) = (failure, inr (inr (ends_on d _ s goes shuts)))

memory_on : (d : Step) (s : List Step) → Continues d → IsOutOfMemory s → IsOutOfMemory (d ∷ s)
memory_on d s goes (inl is) = inl (is.0, is.1, ends_on d _ s goes is.2)
memory_on d s goes (inr (inl is)) = inr (inl (is.0, ends_on d _ s goes is.1))
memory_on d s goes (inr (inr (inl is))) = inr (inr (inl (is.0, is.1, ends_on d _ s goes is.2)))
memory_on d s goes (inr (inr (inr (inl is)))) = inr (inr (inr (inl (is.0, ends_on d _ s goes is.1))))
memory_on d s goes (inr (inr (inr (inr is)))) = inr (inr (inr (inr (is.0, ends_on d _ s goes is.1))))

pub ended_on : (w : View) (d : Step) (s : List Step) (result : Result Unit DispatchError) → Continues d → Ended w s result → Ended w (d ∷ s) result
ended_on w d s (Ok x) goes is = shut_on w d s (Ok tt) goes is
ended_on w d s (Err error.Io) goes is = io_on d s goes is
ended_on w d s (Err error.NoMemory) goes (broken, inl out) = (broken, inl (memory_on d s goes out))
ended_on w d s (Err error.NoMemory) goes (broken, inr all) = (broken, inr (goes, all))
ended_on w d s (Err error.DisconnectTimeout) goes is = ((goes, is.0), is.1)
ended_on w d s (Err error.Body) goes is = shut_on w d s (Err error.Body) goes is
ended_on w d s (Err error.SlowRequestTimeout) goes is = shut_on w d s (Err error.SlowRequestTimeout) goes is
ended_on w d s (Err (error.Parse e)) goes is = shut_on w d s (Err (error.Parse e)) goes is
ended_on w d s (Err error.Service) goes is = absurd is
ended_on w d s (Err error.Upgrade) goes is = absurd is
ended_on w d s (Err error.H2) goes is = absurd is
ended_on w d s (Err error.HandlerDroppedPayload) goes is = absurd is
ended_on w d s (Err error.InternalError) goes is = absurd is

ended_all : (w : View) (s t : List Step) (result : Result Unit DispatchError) → AllContinue s → Ended w t result → Ended w (s ++ t) result
ended_all w [] t result goes is = is
ended_all w (d ∷ s) t result goes is = ended_on w d (s ++ t) result goes.0 (ended_all w s t result goes.1 is)

-- ---- steps that were noted

pub goes_noted : (d : Step) → Continues d → IsNoted d
goes_noted (ticked moment expiry) goes = tt
goes_noted drained goes = tt
goes_noted (written answer) goes = tt
goes_noted (read came answer) goes = tt
goes_noted (shut answer) goes = tt
goes_noted (next peer head) goes = tt
goes_noted (closed end) goes = tt
goes_noted continued goes = tt
goes_noted (ready request answer) goes = tt
goes_noted (called request) goes = tt
goes_noted (answered answer) goes = tt
goes_noted (pulled piece) goes = tt
goes_noted paused goes = tt
goes_noted dropped goes = tt
goes_noted (replied answer) goes = tt
goes_noted (sent piece) goes = tt
goes_noted (failed event) goes = absurd goes
goes_noted (failed_write count) goes = absurd goes
goes_noted (failed_read came event) goes = absurd goes
goes_noted (failed_fed bytes) goes = absurd goes
goes_noted (failed_sent piece) goes = absurd goes
goes_noted asked_to_drain goes = tt
goes_noted (asked_to_hold upgrades expects) goes = tt
goes_noted declined goes = tt
goes_noted let_on goes = tt
goes_noted (turned_away request answer) goes = tt
goes_noted (refused limit error) goes = tt

pub all_noted : (steps : List Step) → AllContinue steps → AllNoted steps
all_noted [] all = tt
all_noted (d ∷ steps) all = (goes_noted d all.0, all_noted steps all.1)

-- after steps after each of which a turn goes on the traced connection stands still, so that no answer of the service is left by two runs
pub hands_on : (v u w : View) (steps : List Step) → AllContinue steps → IsRun v steps u → HandsOn v u → HandsOn u w → HandsOn v w
hands_on v u w steps goes run first then = λ trace stands none. then _ (run_follows v u steps (all_noted steps goes) run trace stands).stands (first trace stands none)

-- ---- by one step, and by more

pub goes_by : (most : ℕ) → 1 ≤ most → (v w : View) (d : Step) (n : ℕ) → IsStep v d w → Quiet d → n ≤ counts d → GoesOn v w n most
goes_by most fits v w d n is goes enough = record {
  steps = d ∷ [];
  run = one v w d is;
  go_on = (quiet_goes d goes, tt);
  enough = omega (arith, enough);
  few = omega (arith, fits);
  handed = λ trace stands none. step_hands v w d (quiet_brings d goes) is none;
}

pub ends_by : (most : ℕ) → 1 ≤ most → (v w : View) (d : Step) (result : Result Unit DispatchError) → IsStep v d w → Ended w (d ∷ []) result → BringsNone d → Ends v w most result
ends_by most fits v w d result is ended none =
    record { steps = d ∷ []; run = one v w d is; ended = ended; few = omega (arith, fits); handed = λ trace stands was. inr (step_hands v w d none is was) }

pub goes_none : (v : View) (most : ℕ) → GoesOn v v 0 most
goes_none v most = record { steps = []; run = refl; go_on = tt; enough = omega arith; few = omega arith; handed = λ trace stands none. none }

pub goes_after : (v u w : View) (m n k : ℕ) → k ≤ m + n → (x y most : ℕ) → x + y ≤ most → GoesOn v u m x → GoesOn u w n y → GoesOn v w k most
goes_after v u w m n k enough x y most fits a b = record {
  steps = a.steps ++ b.steps;
  run = run_on v u w a.steps b.steps a.run b.run;
  go_on = all_on a.steps b.steps a.go_on b.go_on;
  enough = omega (arith, progress_on a.steps b.steps, a.enough, b.enough, enough);
  few = omega (arith, length-append a.steps b.steps, a.few, b.few, fits);
  handed = hands_on v u w a.steps a.go_on a.run a.handed b.handed;
}

pub ends_after : (v u w : View) (m : ℕ) (result : Result Unit DispatchError) (x y most : ℕ) → x + y ≤ most → GoesOn v u m x → Ends u w y result → Ends v w most result
ends_after v u w m result x y most fits a b = record {
  steps = a.steps ++ b.steps;
  run = run_on v u w a.steps b.steps a.run b.run;
  ended = ended_all w a.steps b.steps result a.go_on b.ended;
  few = omega (arith, length-append a.steps b.steps, a.few, b.few, fits);
  handed = λ trace stands none. b.handed _ (run_follows v u a.steps (all_noted a.steps a.go_on) a.run trace stands).stands (a.handed trace stands none);
}

-- no more steps than so many are no more than that many
pub more_goes : (v w : View) (n x most : ℕ) → x ≤ most → GoesOn v w n x → GoesOn v w n most
more_goes v w n x most fits g = record { steps = g.steps; run = g.run; go_on = g.go_on; enough = g.enough; few = omega (arith, g.few, fits); handed = g.handed }

pub more_ends : (v w : View) (result : Result Unit DispatchError) (x most : ℕ) → x ≤ most → Ends v w x result → Ends v w most result
more_ends v w result x most fits e = record { steps = e.steps; run = e.run; ended = e.ended; few = omega (arith, e.few, fits); handed = e.handed }

-- memory ran out for this event
pub lacks : (most : ℕ) → 1 ≤ most → (v w : View) (d : Step) → w.ending ≡ Some Broken → IsStep v d w → IsOutOfMemory (d ∷ []) → Ends v w most (Err error.NoMemory)
lacks most fits v w d broken is out =
    record { steps = d ∷ []; run = one v w d is; ended = (broken, inl out); few = omega (arith, fits); handed = λ trace stands none. inl refl }

-- and where it ran out before
pub stays_broken : (v : View) → v.ending ≡ Some Broken → Ends v v 5 (Err error.NoMemory)
stays_broken v broken = record { steps = []; run = refl; ended = (broken, inr tt); few = omega arith; handed = λ trace stands none. inl refl }
