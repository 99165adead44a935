-- The polls of a connection as one run of steps, which ends early only where memory runs out.
use Rattle.std.proofs.Common.{◌≡◌, ◌⊎◌, ℕ, Bool, List, [], ◌∷◌, ◌++◌, Result, Ok, Err, inl, inr, refl, sym, subst}
use Rattle.std.specs.List.{AllByRecursion}
use Rattle.futures.specs.declared.task.Poll.{Poll}
use Rattle.futures.specs.declared.task.Poll.TheVariants.{Ready, Pending}
use Rattle.futures.specs.declared.task.context.Context.{Context}
use Rattle.http_types.specs.declared.error.DispatchError.{DispatchError}
use Rattle.http_types.specs.declared.error.DispatchError.TheVariants as error
use Rattle.model_h1.specs.Event as on
use Rattle.h1_dispatcher.specs.View.{View}
use Rattle.h1_dispatcher.specs.Steps.{Step, IsStep, IsRun, ticked, drained, written, read, shut, next, closed, continued, ready, called, answered, pulled, paused, dropped, replied, sent, failed, failed_write, failed_read, failed_fed, failed_sent, asked_to_drain, asked_to_hold, declined, let_on, turned_away, refused as upgrade_refused}
use Rattle.h1_dispatcher.specs.Traces.{IsNoted, AllNoted}
use Rattle.h1_dispatcher.specs.Polls.{Continues, AllContinue, EndsWith, IsOutOfMemory, Ticks, Drains, IsBegun, BeginFails, PollRuns, PollSays}
use Rattle.h1_dispatcher.specs.Acts.{Act, polled, asked, AllHaveMemory}
use Rattle.h1_dispatcher.specs.Upgrades.{DecidesNone}
use Rattle.h1_dispatcher.proofs.Undecided.{all_undecided, undecided_on}
use Rattle.h1_dispatcher.proofs.Runs.{one, run_on}
use Rattle.h1_dispatcher.proofs.Acts.{acts_run}
use Rattle.board_server.specs.declared.error.ServeError.{ServeError}
use Rattle.board_server.specs.declared.error.ServeError.TheVariants.{Dispatch, Budget, NoMemory}
use Rattle.board_server.specs.Serves.{IsWait, AreWaits, EndsAt, Ends}
use Rattle.board_server.specs.Told.{HadMemory}

-- ---- steps that were noted

goes_noted : (d : Step) → Continues d → IsNoted d
goes_noted (ticked moment expiry) goes = tt
goes_noted drained goes = tt
goes_noted (written answer) goes = tt
goes_noted (read came answer) goes = tt
goes_noted (shut answer) goes = tt
goes_noted (next peer head) goes = tt
goes_noted (closed end) goes = tt
goes_noted continued goes = tt
goes_noted (ready request answer) goes = tt
goes_noted (called request) goes = tt
goes_noted (answered answer) goes = tt
goes_noted (pulled piece) goes = tt
goes_noted paused goes = tt
goes_noted dropped goes = tt
goes_noted (replied answer) goes = tt
goes_noted (sent piece) goes = tt
goes_noted (failed event) goes = absurd goes
goes_noted (failed_write count) goes = absurd goes
goes_noted (failed_read came event) goes = absurd goes
goes_noted (failed_fed bytes) goes = absurd goes
goes_noted (failed_sent piece) goes = absurd goes
goes_noted asked_to_drain goes = tt
goes_noted (asked_to_hold upgrades expects) goes = absurd goes
goes_noted declined goes = absurd goes
goes_noted let_on goes = absurd goes
goes_noted (turned_away request answer) goes = absurd goes
goes_noted (upgrade_refused limit error) goes = absurd goes

all_noted : (steps : List Step) → AllContinue steps → AllNoted steps
all_noted [] all = tt
all_noted (d ∷ steps) all = (goes_noted d all.0, all_noted steps all.1)

noted_on : (s t : List Step) → AllNoted s → AllNoted t → AllNoted (s ++ t)
noted_on [] t first then = then
noted_on (d ∷ s) t first then = (first.0, noted_on s t first.1 then)

-- ---- a run, and maybe a step after it in which memory ran out, but not where P holds

pub record Ran (P : Type 0) (v w : View) : Type 0 where
  pub steps : List Step
  pub between : View
  pub run : IsRun v steps between
  pub noted : AllNoted steps
  pub undecided : AllByRecursion DecidesNone steps
  pub end : (w ≡ between) ⊎ ((d : Step) × (¬ IsNoted d) × IsStep between d w)
  pub whole : P → w ≡ between

-- nothing was done
stays : (P : Type 0) (v w : View) → w ≡ v → Ran P v w
stays P v w is = record { steps = []; between = v; run = refl; noted = tt; undecided = tt; end = inl is; whole = λ p. is }

whole_ran : (P : Type 0) (v w : View) (steps : List Step) → IsRun v steps w → AllNoted steps → AllByRecursion DecidesNone steps → Ran P v w
whole_ran P v w steps run noted none = record { steps = steps; between = w; run = run; noted = noted; undecided = none; end = inl refl; whole = λ p. refl }

lacks_ran : (P : Type 0) (v u w : View) (steps : List Step) (d : Step) → (P → ⊥) → IsRun v steps u → AllNoted steps → AllByRecursion DecidesNone steps → ¬ IsNoted d → IsStep u d w → Ran P v w
lacks_ran P v u w steps d never run noted none lacks is =
    record { steps = steps; between = u; run = run; noted = noted; undecided = none; end = inr (d, lacks, is); whole = λ p. absurd (never p) }

front_ran : (P : Type 0) (v u w : View) (steps : List Step) → IsRun v steps u → AllNoted steps → AllByRecursion DecidesNone steps → Ran P u w → Ran P v w
front_ran P v u w steps run noted none then = record {
  steps = steps ++ then.steps;
  between = then.between;
  run = run_on v u then.between steps then.steps run then.run;
  noted = noted_on steps then.steps noted then.noted;
  undecided = undecided_on steps then.steps none then.undecided;
  end = then.end;
  whole = then.whole;
}

-- ---- the moment and the drain

record Fore (v w : View) : Type 0 where
  steps : List Step
  run : IsRun v steps w
  noted : AllNoted steps
  undecided : AllByRecursion DecidesNone steps

ticks_fore : (v w : View) (moment : ℕ) → Ticks v moment w → Fore v w
ticks_fore v w moment (inl is) = record { steps = []; run = is.1; noted = tt; undecided = tt }
ticks_fore v w moment (inr is) = record { steps = ticked moment is.1.0 ∷ []; run = one v w (ticked moment is.1.0) is.1.1; noted = (tt, tt); undecided = (tt, tt) }

drains_fore : (v w : View) → Drains v w → Fore v w
drains_fore v w (inl is) = record { steps = []; run = is.1; noted = tt; undecided = tt }
drains_fore v w (inr is) = record { steps = drained ∷ []; run = one v w drained is.2; noted = (tt, tt); undecided = (tt, tt) }

begun_fore : (v w : View) (moment : ℕ) → IsBegun v moment w → Fore v w
begun_fore v w moment begun =
    let a = ticks_fore v begun.between moment begun.ticks in
    let b = drains_fore begun.between w begun.drains in
    record {
      steps = a.steps ++ b.steps;
      run = run_on v begun.between w a.steps b.steps a.run b.run;
      noted = noted_on a.steps b.steps a.noted b.noted;
      undecided = undecided_on a.steps b.steps a.undecided b.undecided;
    }

-- ---- a poll in which memory ran out

cut : (v w : View) (front : List Step) (d : Step) → IsRun v (front ++ d ∷ []) w → (u : View) × IsRun v front u × IsStep u d w
cut v w [] d is = (v, refl, subst (λ x. IsStep v d x) (sym is.2) is.1)
cut v w (c ∷ front) d is = let r = cut is.0 w front d is.2 in (r.0, (is.0, is.1, r.1), r.2)

ends_lack : (P : Type 0) (v w : View) (steps : List Step) (d : Step) → (P → ⊥) → ¬ IsNoted d → IsRun v steps w → EndsWith steps d → Ran P v w
ends_lack P v w steps d never lacks run ends =
    let r = cut v w ends.0 d (subst (λ l. IsRun v l w) ends.1 run) in
    lacks_ran P v r.0 w ends.0 d never r.1 (all_noted ends.0 ends.2) (all_undecided ends.0 ends.2) lacks r.2

out_ran : (P : Type 0) (v w : View) (steps : List Step) → (P → ⊥) → IsRun v steps w → IsOutOfMemory steps → Ran P v w
out_ran P v w steps never run (inl is) = ends_lack P v w steps (failed is.0) never (λ n. n) run is.2
out_ran P v w steps never run (inr (inl is)) = ends_lack P v w steps (failed_write is.0) never (λ n. n) run is.1
out_ran P v w steps never run (inr (inr (inl is))) = ends_lack P v w steps (failed_read is.0 is.1) never (λ n. n) run is.2
out_ran P v w steps never run (inr (inr (inr (inl is)))) = ends_lack P v w steps (failed_fed is.0) never (λ n. n) run is.1
out_ran P v w steps never run (inr (inr (inr (inr is)))) = ends_lack P v w steps (failed_sent is.0) never (λ n. n) run is.1

ended_ran : (P : Type 0) (v w : View) (steps : List Step) → (P → ⊥) → IsRun v steps w → IsOutOfMemory steps ⊎ AllContinue steps → Ran P v w
ended_ran P v w steps never run (inl out) = out_ran P v w steps never run out
ended_ran P v w steps never run (inr all) = whole_ran P v w steps run (all_noted steps all) (all_undecided steps all)

fails_ran : (P : Type 0) (v w : View) (moment : ℕ) → (P → ⊥) → BeginFails v moment w → Ran P v w
fails_ran P v w moment never (inl is) = lacks_ran P v v w [] (failed (on.tick moment)) never refl tt tt (λ n. n) is
fails_ran P v w moment never (inr is) =
    let a = ticks_fore v is.0 moment is.1 in
    lacks_ran P v is.0 w a.steps (failed on.drain) never a.run a.noted a.undecided (λ n. n) is.2

lost_runs : (P : Type 0) (v w : View) (cx : Context) (moment : ℕ) → (P → ⊥) → PollRuns v w cx moment (Ready (Err error.NoMemory)) → Ran P v w
lost_runs P v w cx moment never (inl fails) = fails_ran P v w moment never fails.1
lost_runs P v w cx moment never (inr turns) =
    let a = begun_fore v turns.0 moment turns.1 in
    front_ran P v turns.0 w a.steps a.run a.noted a.undecided (ended_ran P turns.0 w turns.2.steps never turns.2.run turns.2.ended.1)

lost_ran : (P : Type 0) (v w : View) (cx : Context) (moment : ℕ) → (P → ⊥) → PollSays v w cx moment (Ready (Err error.NoMemory)) → Ran P v w
lost_ran P v w cx moment never (inl broken) = stays P v w broken.1
lost_ran P v w cx moment never (inr runs) = lost_runs P v w cx moment never runs.1

-- ---- any poll

kept_ran : (P : Type 0) (v w : View) (cx : Context) (moment : ℕ) (answer : Poll (Result Unit DispatchError)) → ¬ (answer ≡ Ready (Err error.NoMemory)) → PollSays v w cx moment answer → Ran P v w
kept_ran P v w cx moment answer enough says =
    let r = acts_run v w (polled moment cx answer ∷ []) (w, says, refl) in
    whole_ran P v w r.steps r.run (r.noted (enough, tt)) r.undecided

poll_ran : (P : Type 0) (v w : View) (cx : Context) (moment : ℕ) (answer : Poll (Result Unit DispatchError)) → (answer ≡ Ready (Err error.NoMemory) → P → ⊥) → PollSays v w cx moment answer → Ran P v w
poll_ran P v w cx moment Pending lost says = kept_ran P v w cx moment Pending (λ is. absurd (cc is)) says
poll_ran P v w cx moment (Ready (Ok x)) lost says = kept_ran P v w cx moment (Ready (Ok x)) (λ is. absurd (cc is)) says
poll_ran P v w cx moment (Ready (Err error.NoMemory)) lost says = lost_ran P v w cx moment (λ p. lost refl p) says
poll_ran P v w cx moment (Ready (Err error.Io)) lost says = kept_ran P v w cx moment (Ready (Err error.Io)) (λ is. absurd (cc is)) says
poll_ran P v w cx moment (Ready (Err error.DisconnectTimeout)) lost says = kept_ran P v w cx moment (Ready (Err error.DisconnectTimeout)) (λ is. absurd (cc is)) says
poll_ran P v w cx moment (Ready (Err error.Body)) lost says = kept_ran P v w cx moment (Ready (Err error.Body)) (λ is. absurd (cc is)) says
poll_ran P v w cx moment (Ready (Err error.SlowRequestTimeout)) lost says = kept_ran P v w cx moment (Ready (Err error.SlowRequestTimeout)) (λ is. absurd (cc is)) says
poll_ran P v w cx moment (Ready (Err (error.Parse e))) lost says = kept_ran P v w cx moment (Ready (Err (error.Parse e))) (λ is. absurd (cc is)) says
poll_ran P v w cx moment (Ready (Err error.Service)) lost says = kept_ran P v w cx moment (Ready (Err error.Service)) (λ is. absurd (cc is)) says
poll_ran P v w cx moment (Ready (Err error.Upgrade)) lost says = kept_ran P v w cx moment (Ready (Err error.Upgrade)) (λ is. absurd (cc is)) says
poll_ran P v w cx moment (Ready (Err error.H2)) lost says = kept_ran P v w cx moment (Ready (Err error.H2)) (λ is. absurd (cc is)) says
poll_ran P v w cx moment (Ready (Err error.HandlerDroppedPayload)) lost says = kept_ran P v w cx moment (Ready (Err error.HandlerDroppedPayload)) (λ is. absurd (cc is)) says
poll_ran P v w cx moment (Ready (Err error.InternalError)) lost says = kept_ran P v w cx moment (Ready (Err error.InternalError)) (λ is. absurd (cc is)) says

-- ---- all polls

pub waits_have : (may_give : ℕ → Bool) (acts : List Act) → AllByRecursion (IsWait may_give) acts → AllHaveMemory acts
waits_have may_give [] all = tt
waits_have may_give (polled moment cx Pending ∷ acts) all = ((λ is. absurd (cc is)), waits_have may_give acts all.1)
waits_have may_give (polled moment cx (Ready r) ∷ acts) all = absurd all.0
waits_have may_give (asked ∷ acts) all = absurd all.0

waits_ran : (P : Type 0) (may_give : ℕ → Bool) (v w : View) (count : ℕ) → AreWaits may_give v count w → Ran P v w
waits_ran P may_give v w count waits =
    let r = acts_run v w waits.acts waits.say in
    whole_ran P v w r.steps r.run (r.noted (waits_have may_give waits.acts waits.each)) r.undecided

at_ran : (P : Type 0) (polls : ℕ) (may_give : ℕ → Bool) (v w : View) (answer : Poll (Result Unit DispatchError)) → (answer ≡ Ready (Err error.NoMemory) → P → ⊥)
    → EndsAt may_give polls v w answer → Ran P v w
at_ran P polls may_give v w answer lost ends =
    let r = acts_run v ends.between ends.waits.acts ends.waits.say in
    front_ran P v ends.between w r.steps r.run (r.noted (waits_have may_give ends.waits.acts ends.waits.each)) r.undecided
    (poll_ran P ends.between w ends.last.cx ends.last.moment answer lost ends.last.says)

pub same_error : (e : DispatchError) (r : Poll (Result Unit DispatchError)) → r ≡ Ready (Err e) → r ≡ Ready (Err error.NoMemory) → e ≡ error.NoMemory
same_error e r a b = cc (a, b)

pub ends_ran : (polls : ℕ) (may_give : ℕ → Bool) (v w : View) (end : Result Unit ServeError) → Ends polls may_give v w end → Ran (HadMemory end) v w
ends_ran polls may_give v w (Ok x) ends = at_ran (HadMemory (Ok x)) polls may_give v w (Ready (Ok tt)) (λ is p. absurd (cc is)) ends.0
ends_ran polls may_give v w (Err (Dispatch e)) ends =
    at_ran (HadMemory (Err (Dispatch e))) polls may_give v w (Ready (Err e))
    (λ is p. subst (λ (x : DispatchError). HadMemory (Err (Dispatch x))) (same_error e (Ready (Err e)) refl is) p) ends.0
ends_ran polls may_give v w (Err Budget) ends = waits_ran (HadMemory (Err Budget)) may_give v w polls ends.0
ends_ran polls may_give v w (Err NoMemory) (inl is) = stays (HadMemory (Err NoMemory)) v w is
ends_ran polls may_give v w (Err NoMemory) (inr is) = at_ran (HadMemory (Err NoMemory)) polls may_give v w is.0 (λ e p. p) is.1
