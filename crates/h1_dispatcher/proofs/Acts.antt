-- Polls, and what is asked between them, are one run of steps.
use Rattle.std.proofs.Common.{◌≡◌, ◌⊎◌, ◌∙◌, ℕ, Bool, true, false, List, [], ◌∷◌, ◌++◌, Result, Ok, Err, inl, inr, refl, ap, sym, subst}
use Rattle.futures.specs.declared.task.Poll.{Poll}
use Rattle.futures.specs.declared.task.Poll.TheVariants.{Ready, Pending}
use Rattle.futures.specs.declared.task.context.Context.{Context}
use Rattle.http_types.specs.declared.error.DispatchError.{DispatchError}
use Rattle.http_types.specs.declared.error.DispatchError.TheVariants as error
use Rattle.model_h1.specs.Event as on
use Rattle.h1_dispatcher.specs.View.{View, Asking, Stage, free, waiting, calling, replying, sending, is_sending, is_replying, closes, has_write_room, asks_next, allows_answer, is_held, allows_chunk}
use Rattle.h1_dispatcher.specs.Steps.{Step, IsStep, IsRun, ticked, drained, shut, failed, asked_to_drain}
use Rattle.h1_dispatcher.specs.Traces.{IsNoted, AllNoted}
use Rattle.h1_dispatcher.specs.Polls.{EndsWith, IsShut, IsIo, IsStuck, IsHeld, IsIdle, ReadsNothing, Feeds, Writes, Serves, Sends, Asks, Awaits, Looks, Ended, GoesOn, Ticks, Drains, IsBegun, BeginFails, TurnsSay, PollRuns, PollSays}
use Rattle.h1_dispatcher.specs.Acts.{Act, polled, asked, ActSays, ActsSay, HasMemory, AreOneRun}
use Rattle.h1_dispatcher.specs.Replies.{HasNoReply, HandsOn}
use Rattle.h1_dispatcher.proofs.Traces.{run_follows}
use Rattle.h1_dispatcher.proofs.Replies.{BringsNone, AllQuiet, quiet_goes, step_hands, run_hands}
use Rattle.h1_dispatcher.proofs.Runs.{one, run_on, goes_noted, all_noted}
use Rattle.h1_dispatcher.proofs.Undecided.{goes_undecided, all_undecided, undecided_on, ended_undecided}
use Rattle.h1_dispatcher.specs.Upgrades.{DecidesNone}
use Rattle.std.specs.List.{AllByRecursion}

-- ---- steps that were noted

noted_on : (s t : List Step) → AllNoted s → AllNoted t → AllNoted (s ++ t)
noted_on [] t first then = then
noted_on (d ∷ s) t first then = (first.0, noted_on s t first.1 then)

last_noted : (steps : List Step) (last : Step) → EndsWith steps last → IsNoted last → AllNoted steps
last_noted steps last is noted = subst (λ l. AllNoted l) (sym is.1) (noted_on is.0 (last ∷ []) (all_noted is.0 is.2) (noted, tt))

shut_noted : (w : View) (steps : List Step) (result : Result Unit DispatchError) → IsShut w steps result → AllNoted steps
shut_noted w steps result is = last_noted steps _ is.0 tt

io_noted : (steps : List Step) → IsIo steps → AllNoted steps
io_noted steps (failure, inl wrote) = last_noted steps _ wrote tt
io_noted steps (failure, inr (inl reads)) = last_noted steps _ reads.1 tt
io_noted steps (failure, inr (inr shuts)) = last_noted steps _ shuts tt

ended_noted : (w : View) (steps : List Step) (result : Result Unit DispatchError) → ¬ (result ≡ Err error.NoMemory) → Ended w steps result → AllNoted steps
ended_noted w steps (Ok x) enough is = shut_noted w steps (Ok tt) is
ended_noted w steps (Err error.Io) enough is = io_noted steps is
ended_noted w steps (Err error.NoMemory) enough is = absurd (enough refl)
ended_noted w steps (Err error.DisconnectTimeout) enough is = all_noted steps is.0
ended_noted w steps (Err error.Body) enough is = shut_noted w steps (Err error.Body) is
ended_noted w steps (Err error.SlowRequestTimeout) enough is = shut_noted w steps (Err error.SlowRequestTimeout) is
ended_noted w steps (Err (error.Parse e)) enough is = shut_noted w steps (Err (error.Parse e)) is
ended_noted w steps (Err error.Service) enough is = absurd is
ended_noted w steps (Err error.Upgrade) enough is = absurd is
ended_noted w steps (Err error.H2) enough is = absurd is
ended_noted w steps (Err error.HandlerDroppedPayload) enough is = absurd is
ended_noted w steps (Err error.InternalError) enough is = absurd is

quiet_noted : (steps : List Step) → AllQuiet steps → AllNoted steps
quiet_noted [] all = tt
quiet_noted (d ∷ steps) all = (goes_noted d (quiet_goes d all.0), quiet_noted steps all.1)

quiet_undecided : (steps : List Step) → AllQuiet steps → AllByRecursion DecidesNone steps
quiet_undecided [] all = tt
quiet_undecided (d ∷ steps) all = (goes_undecided d (quiet_goes d all.0), quiet_undecided steps all.1)

awaits_quiet : (v : View) (sends allows : Bool) (served : List Step) → Serves v sends allows served → AllQuiet served
awaits_quiet v true allows served body = by_room (allows_chunk v) body
  where
    by_room : (may : Bool) → Sends may served → AllQuiet served
    by_room true is = subst (λ l. AllQuiet l) (sym is) (tt, tt)
    by_room false is = subst (λ l. AllQuiet l) (sym is) tt
awaits_quiet v false true served waits = by_stage v.stage (is_held v) (has_write_room v) waits
  where
    by_asks : (request : Asking) (held room : Bool) → Asks held room request served → AllQuiet served
    by_asks request true room is = subst (λ l. AllQuiet l) (sym is) tt
    by_asks request false true (inl is) = subst (λ l. AllQuiet l) (sym is) (tt, tt)
    by_asks request false true (inr is) = subst (λ l. AllQuiet l) (sym is) (tt, (tt, tt))
    by_asks request false false is = subst (λ l. AllQuiet l) (sym is) tt

    by_stage : (s : Stage) (held room : Bool) → Awaits s held room served → AllQuiet served
    by_stage free held room is = subst (λ l. AllQuiet l) (sym is) tt
    by_stage (waiting request) held room is = by_asks request held room is
    by_stage (calling took) held room is = subst (λ l. AllQuiet l) (sym is) (tt, tt)
    by_stage (replying answer) held room is = absurd is
    by_stage (sending body) held room is = absurd is
awaits_quiet v false false served looks = by_looks (asks_next v) v.stage looks
  where
    by_looks : (may : Bool) (s : Stage) → Looks v may s served → AllQuiet served
    by_looks true free (inl is) = subst (λ l. AllQuiet l) (sym is) (tt, tt)
    by_looks true free (inr is) = subst (λ l. AllQuiet l) (sym is.0) tt
    by_looks true (waiting request) is = subst (λ l. AllQuiet l) (sym is) tt
    by_looks true (calling took) is = subst (λ l. AllQuiet l) (sym is) tt
    by_looks true (replying answer) is = subst (λ l. AllQuiet l) (sym is) tt
    by_looks true (sending body) is = subst (λ l. AllQuiet l) (sym is) tt
    by_looks false s is = subst (λ l. AllQuiet l) (sym is) tt

feeds_quiet : (u : View) (feeding : List Step) → Feeds u feeding → AllQuiet feeding
feeds_quiet u feeding (inl is) = subst (λ l. AllQuiet l) (sym is) (tt, tt)
feeds_quiet u feeding (inr (inl is)) = subst (λ l. AllQuiet l) (sym is) (tt, tt)
feeds_quiet u feeding (inr (inr is)) = subst (λ l. AllQuiet l) (sym is.0) tt

reads_quiet : (x : View) (reading : List Step) → ReadsNothing x reading → AllQuiet reading
reads_quiet x reading (inl is) = subst (λ l. AllQuiet l) (sym is) (tt, tt)
reads_quiet x reading (inr is) = subst (λ l. AllQuiet l) (sym is.0) tt

writes_quiet : (v : View) (writing : List Step) → Writes v writing → AllQuiet writing
writes_quiet v writing (inl is) = subst (λ l. AllQuiet l) (sym is) (tt, tt)
writes_quiet v writing (inr is) = subst (λ l. AllQuiet l) (sym is.0) tt

-- ---- runs, all of whose steps were noted where P holds, and which then leave no answer at hand

record Runs (P : Type 0) (v w : View) : Type 0 where
  steps : List Step
  run : IsRun v steps w
  noted : P → AllNoted steps
  handed : P → HandsOn v w
  undecided : AllByRecursion DecidesNone steps

stays : {P : Type 0} (v w : View) → w ≡ v → Runs P v w
stays v w is = record { steps = []; run = is; noted = λ p. tt; handed = λ p trace stands none. ap (λ (x : View). is_replying x.stage) is ∙ none; undecided = tt }

by_one : {P : Type 0} (v w : View) (d : Step) → IsStep v d w → (P → IsNoted d) → BringsNone d → DecidesNone d → Runs P v w
by_one v w d is noted brings decides =
    record { steps = d ∷ []; run = one v w d is; noted = λ p. (noted p, tt); handed = λ p trace stands none. step_hands v w d brings is none; undecided = (decides, tt) }

then_on : {P : Type 0} (v u w : View) → Runs P v u → Runs P u w → Runs P v w
then_on v u w a b = record {
  steps = a.steps ++ b.steps;
  run = run_on v u w a.steps b.steps a.run b.run;
  noted = λ p. noted_on a.steps b.steps (a.noted p) (b.noted p);
  handed = λ p trace stands none. b.handed p _ (run_follows v u a.steps (a.noted p) a.run trace stands).stands (a.handed p trace stands none);
  undecided = undecided_on a.steps b.steps a.undecided b.undecided;
}

-- by steps that bring no answer
by_quiet : {P : Type 0} (v w : View) (steps : List Step) → AllQuiet steps → IsRun v steps w → Runs P v w
by_quiet v w steps all run = record { steps = steps; run = run; noted = λ p. quiet_noted steps all; handed = λ p trace stands none. run_hands v w steps all run none; undecided = quiet_undecided steps all }

goes_run : {P : Type 0} (v w : View) (n most : ℕ) → GoesOn v w n most → Runs P v w
goes_run v w n most goes = record { steps = goes.steps; run = goes.run; noted = λ p. all_noted goes.steps goes.go_on; handed = λ p. goes.handed; undecided = all_undecided goes.steps goes.go_on }

idle_run : {P : Type 0} (v w : View) → IsIdle v w → Runs P v w
idle_run v w idle =
    then_on v idle.between w (by_quiet v idle.between idle.served (awaits_quiet v (is_sending v.stage) (allows_answer v) idle.served idle.waits) idle.serves)
    (then_on idle.between idle.fed w (by_quiet idle.between idle.fed idle.feeding (feeds_quiet idle.between idle.feeding idle.no_body) idle.feeds)
    (by_quiet idle.fed w idle.reading (reads_quiet idle.fed idle.reading idle.no_input) idle.reads))

waits_run : {P : Type 0} (v w : View) → IsHeld v w ⊎ ((closes v ≡ false) × IsIdle v w) → Runs P v w
waits_run v w (inl held) = stays v w held.stays
waits_run v w (inr idle) = idle_run v w idle.1

stuck_run : {P : Type 0} (v w : View) → IsStuck v w → Runs P v w
stuck_run v w (inl stuck) =
    then_on v stuck.after w (by_quiet v stuck.after stuck.writing (writes_quiet v stuck.writing stuck.no_output) stuck.writes)
    (waits_run stuck.after w stuck.waits)
stuck_run v w (inr shutting) = by_quiet v w (shut Pending ∷ []) (tt, tt) shutting.shuts

ticks_run : {P : Type 0} (v w : View) (moment : ℕ) → Ticks v moment w → Runs P v w
ticks_run v w moment (inl is) = stays v w is.1
ticks_run v w moment (inr is) = by_one v w (ticked moment is.1.0) is.1.1 (λ p. tt) tt tt

drains_run : {P : Type 0} (v w : View) → Drains v w → Runs P v w
drains_run v w (inl is) = stays v w is.1
drains_run v w (inr is) = by_one v w drained is.2 (λ p. tt) tt tt

fails_run : {P : Type 0} (v w : View) (moment : ℕ) → (P → ⊥) → BeginFails v moment w → Runs P v w
fails_run v w moment never (inl is) = by_one v w (failed (on.tick moment)) is (λ p. absurd (never p)) tt tt
fails_run v w moment never (inr is) = then_on v is.0 w (ticks_run v is.0 moment is.1) (by_one is.0 w (failed on.drain) is.2 (λ p. absurd (never p)) tt tt)

begun_run : {P : Type 0} (v w : View) (moment : ℕ) → IsBegun v moment w → Runs P v w
begun_run v w moment begun = then_on v begun.between w (ticks_run v begun.between moment begun.ticks) (drains_run begun.between w begun.drains)

abbrev Enough : Poll (Result Unit DispatchError) → Type 0
Enough result = ¬ (result ≡ Ready (Err error.NoMemory))

-- an answer is left only where memory ran out
handed_by : (w : View) (result : Result Unit DispatchError) → Enough (Ready result) → (result ≡ Err error.NoMemory) ⊎ HasNoReply w → HasNoReply w
handed_by w result enough (inl is) = absurd (enough (ap Ready is))
handed_by w result enough (inr none) = none

turns_run : (v w : View) (cx : Context) (result : Poll (Result Unit DispatchError)) → TurnsSay v w cx result → Runs (Enough result) v w
turns_run v w cx (Ready result) ends = record {
  steps = ends.steps;
  run = ends.run;
  noted = λ enough. ended_noted w ends.steps result (λ is. enough (ap Ready is)) ends.ended;
  handed = λ enough trace stands none. handed_by w result enough (ends.handed trace stands none);
  undecided = ended_undecided w ends.steps result ends.ended;
}
turns_run v w cx Pending (inl waits) = then_on v waits.last w (goes_run v waits.last _ _ waits.goes) (stuck_run waits.last w waits.stuck)
turns_run v w cx Pending (inr spent) = goes_run v w _ _ spent.goes

begins_run : (v w : View) (cx : Context) (moment : ℕ) (result : Poll (Result Unit DispatchError)) → PollRuns v w cx moment result → Runs (Enough result) v w
begins_run v w cx moment result (inl fails) = fails_run v w moment (λ enough. enough fails.0) fails.1
begins_run v w cx moment result (inr turns) = then_on v turns.0 w (begun_run v turns.0 moment turns.1) (turns_run turns.0 w cx result turns.2)

poll_run : (v w : View) (cx : Context) (moment : ℕ) (result : Poll (Result Unit DispatchError)) → PollSays v w cx moment result → Runs (Enough result) v w
poll_run v w cx moment result (inl broken) = stays v w broken.1
poll_run v w cx moment result (inr runs) = begins_run v w cx moment result runs.1

act_run : (v w : View) (act : Act) → ActSays v act w → Runs (HasMemory act) v w
act_run v w (polled moment cx result) says = poll_run v w cx moment result says
act_run v w asked says = by_one v w asked_to_drain says (λ p. tt) tt tt

pub acts_run : (v w : View) (acts : List Act) → ActsSay v acts w → AreOneRun v acts w
acts_run v w [] is = record { steps = []; run = is; noted = λ p. tt; handed = λ p trace stands none. ap (λ (x : View). is_replying x.stage) is ∙ none; undecided = tt }
acts_run v w (act ∷ acts) is =
    let a = act_run v is.0 act is.1 in
    let b = acts_run is.0 w acts is.2 in
    record {
      steps = a.steps ++ b.steps;
      run = run_on v is.0 w a.steps b.steps a.run b.run;
      noted = λ all. noted_on a.steps b.steps (a.noted all.0) (b.noted all.1);
      handed = λ all trace stands none. b.handed all.1 _ (run_follows v is.0 a.steps (a.noted all.0) a.run trace stands).stands (a.handed all.0 trace stands none);
      undecided = undecided_on a.steps b.steps a.undecided b.undecided;
    }
