-- Runs of steps one after the other, and how they end.
use Rattle.std.proofs.Common.{◌≡◌, ◌≤◌, ◌+◌, ℕ, List, [], ◌∷◌, ◌++◌, Some, None, Result, Ok, Err, inl, inr, refl, ap, subst, arith, length-append}
use Rattle.http_types.specs.declared.error.Error.{Error}
use Rattle.ws_service.specs.declared.error.UpgradeError.{UpgradeError}
use Rattle.ws_service.specs.declared.error.UpgradeError.TheVariants as error
use Rattle.ws_service.specs.declared.dispatcher.Ending.TheVariants.{Abandoned, Broken}
use Rattle.ws_service.specs.View.{View, IsForeign}
use Rattle.ws_service.specs.Steps.{Step, IsStep, IsRun}
use Rattle.ws_service.specs.Polls.{Continues, AllContinue, EndsWith, FailsTransport, FailsService, LacksMemory, Ended, counts, progress, Progress, Ends}

-- the run of one step
pub one : (v w : View) (d : Step) → IsStep v d w → IsRun v (d ∷ []) w
one v w d is = (w, is, refl)

-- one run after another
pub run_on : (v u w : View) (s t : List Step) → IsRun v s u → IsRun u t w → IsRun v (s ++ t) w
run_on v u w [] t first then = subst (λ x. IsRun x t w) first then
run_on v u w (d ∷ s) t first then = (first.0, first.1, run_on first.0 u w s t first.2 then)

pub all_on : (s t : List Step) → AllContinue s → AllContinue t → AllContinue (s ++ t)
all_on [] t first then = then
all_on (d ∷ s) t first then = (first.0, all_on s t first.1 then)

pub progress_on : (s t : List Step) → progress (s ++ t) ≡ progress s + progress t
progress_on [] t = omega arith
progress_on (d ∷ s) t = omega (arith, progress_on s t)

-- ---- how a run ends

ends_on : (d last : Step) (s : List Step) → Continues d → EndsWith s last → EndsWith (d ∷ s) last
ends_on d last s goes is = (d ∷ is.0, ap (λ l. d ∷ l) is.1, (goes, is.2))

transport_on : (d : Step) (s : List Step) → Continues d → FailsTransport s → FailsTransport (d ∷ s)
transport_on d s goes (failure, inl writes) = (failure, inl (ends_on d _ s goes writes))
transport_on d s goes (failure, inr (inl reads)) = (failure, inr (inl (reads.0, ends_on d _ s goes reads.1)))
transport_on d s goes (failure, inr (inr shuts)) = (failure, inr (inr (ends_on d _ s goes shuts)))

service_on : (e : Error) (d : Step) (s : List Step) → Continues d → FailsService e s → FailsService e (d ∷ s)
service_on e d s goes (inl is) = inl (ends_on d _ s goes is)
service_on e d s goes (inr is) = inr (ends_on d _ s goes is)

memory_on : (d : Step) (s : List Step) → Continues d → LacksMemory s → LacksMemory (d ∷ s)
memory_on d s goes (inl is) = inl (is.0, is.1, ends_on d _ s goes is.2)
memory_on d s goes (inr (inl is)) = inr (inl (is.0, ends_on d _ s goes is.1))
memory_on d s goes (inr (inr (inl is))) = inr (inr (inl (is.0, ends_on d _ s goes is.1)))
memory_on d s goes (inr (inr (inr is))) = inr (inr (inr (is.0, ends_on d _ s goes is.1)))

ended_on : (w : View) (d : Step) (s : List Step) (result : Result Unit UpgradeError) → Continues d → Ended w s result → Ended w (d ∷ s) result
ended_on w d s (Ok x) goes is = (ends_on d _ s goes is.0, is.1)
ended_on w d s (Err error.Io) goes is = transport_on d s goes is
ended_on w d s (Err (error.Upgrade e)) goes is = service_on e d s goes is
ended_on w d s (Err error.DisconnectTimeout) goes is = ((goes, is.0), is.1)
ended_on w d s (Err error.NoMemory) goes (broken, inl out) = (broken, inl (memory_on d s goes out))
ended_on w d s (Err error.NoMemory) goes (broken, inr all) = (broken, inr (goes, all))
ended_on w d s (Err error.NotUpgraded) goes is = ((goes, is.0), is.1, is.2)

ended_all : (w : View) (s t : List Step) (result : Result Unit UpgradeError) → AllContinue s → Ended w t result → Ended w (s ++ t) result
ended_all w [] t result goes is = is
ended_all w (d ∷ s) t result goes is = ended_on w d (s ++ t) result goes.0 (ended_all w s t result goes.1 is)

-- ---- by one step, and by more

pub goes_by : (most : ℕ) → 1 ≤ most → (v w : View) (d : Step) (n : ℕ) → IsStep v d w → Continues d → n ≤ counts d → Progress v w n most
goes_by most fits v w d n is goes enough =
    record { steps = d ∷ []; run = one v w d is; go_on = (goes, tt); enough = omega (arith, enough); few = omega (arith, fits) }

pub goes_none : (v : View) (most : ℕ) → Progress v v 0 most
goes_none v most = record { steps = []; run = refl; go_on = tt; enough = omega arith; few = omega arith }

pub goes_after : (v u w : View) (m n k : ℕ) → k ≤ m + n → (x y most : ℕ) → x + y ≤ most → Progress v u m x → Progress u w n y → Progress v w k most
goes_after v u w m n k enough x y most fits a b = record {
  steps = a.steps ++ b.steps;
  run = run_on v u w a.steps b.steps a.run b.run;
  go_on = all_on a.steps b.steps a.go_on b.go_on;
  enough = omega (arith, progress_on a.steps b.steps, a.enough, b.enough, enough);
  few = omega (arith, length-append a.steps b.steps, a.few, b.few, fits);
}

-- it ends in this step
pub ends_by : (most : ℕ) → 1 ≤ most → (v w : View) (d : Step) (result : Result Unit UpgradeError) → IsStep v d w → Ended w (d ∷ []) result → Ends v w most result
ends_by most fits v w d result is ended = record { steps = d ∷ []; run = one v w d is; ended = ended; few = omega (arith, fits) }

pub ends_after : (v u w : View) (m : ℕ) (result : Result Unit UpgradeError) (x y most : ℕ) → x + y ≤ most → Progress v u m x → Ends u w y result → Ends v w most result
ends_after v u w m result x y most fits a b = record {
  steps = a.steps ++ b.steps;
  run = run_on v u w a.steps b.steps a.run b.run;
  ended = ended_all w a.steps b.steps result a.go_on b.ended;
  few = omega (arith, length-append a.steps b.steps, a.few, b.few, fits);
}

-- no more steps than so many are no more than that many
pub more_goes : (v w : View) (n x most : ℕ) → x ≤ most → Progress v w n x → Progress v w n most
more_goes v w n x most fits g = record { steps = g.steps; run = g.run; go_on = g.go_on; enough = g.enough; few = omega (arith, g.few, fits) }

pub more_ends : (v w : View) (result : Result Unit UpgradeError) (x most : ℕ) → x ≤ most → Ends v w x result → Ends v w most result
more_ends v w result x most fits e = record { steps = e.steps; run = e.run; ended = e.ended; few = omega (arith, e.few, fits) }

-- memory ran out in this step
pub lacks : (most : ℕ) → 1 ≤ most → (v w : View) (d : Step) → w.ending ≡ Some Broken → IsStep v d w → LacksMemory (d ∷ []) → Ends v w most (Err error.NoMemory)
lacks most fits v w d broken is out = ends_by most fits v w d (Err error.NoMemory) is (broken, inl out)

-- and where it ran out before, or the peer took too long
pub stays_broken : (v : View) → v.ending ≡ Some Broken → Ends v v 4 (Err error.NoMemory)
stays_broken v broken = record { steps = []; run = refl; ended = (broken, inr tt); few = omega arith }

pub stays_abandoned : (v : View) → v.ending ≡ Some Abandoned → Ends v v 4 (Err error.DisconnectTimeout)
stays_abandoned v abandoned = record { steps = []; run = refl; ended = (tt, abandoned); few = omega arith }

-- and where the connection wasn't upgraded
pub stays_foreign : (v : View) → v.ending ≡ None → IsForeign v → Ends v v 3 (Err error.NotUpgraded)
stays_foreign v running foreign = record { steps = []; run = refl; ended = (tt, running, foreign); few = omega arith }
