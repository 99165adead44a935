-- What the transport shows of how a connection ended.
use Rattle.std.proofs.Common.{◌≡◌, ◌≤◌, ℕ, Bool, true, Result, Ok, Err, inl, inr}
use Rattle.std.specs.Prelude.{is_some}
use Rattle.futures.specs.declared.task.Poll.TheVariants.{Ready}
use Rattle.futures.specs.declared.task.Poll.{Poll}
use Rattle.http_types.specs.declared.error.DispatchError.{DispatchError}
use Rattle.http_types.specs.declared.error.DispatchError.TheVariants as error
use Rattle.http_types.specs.declared.error.ParseError.TheVariants as parse
use Rattle.http_bodies.proofs.Histories.{rose_since}
use Rattle.h1_dispatcher.specs.View.{View}
use Rattle.h1_dispatcher.specs.Causes.{HasCause}
use Rattle.h1_dispatcher.proofs.Acts.{acts_run}
use Rattle.h1_dispatcher.proofs.Causes.{poll_has}
use Rattle.board_server.specs.declared.error.ServeError.{ServeError}
use Rattle.board_server.specs.declared.error.ServeError.TheVariants.{Dispatch, Budget, NoMemory}
use Rattle.board_server.specs.Serves.{EndsAt, Ends}
use Rattle.board_server.specs.Told.{Shows}
use Rattle.board_server.proofs.PolledRuns.{waits_have}
use Rattle.board_server.proofs.Steps.{run_kept}

-- the cause of the last poll's answer
at_end : (polls : ℕ) (may_give : ℕ → Bool) (v w : View) (result : Result Unit DispatchError) (ends : EndsAt may_give polls v w (Ready result)) → HasCause ends.between w result
at_end polls may_give v w result ends = poll_has ends.between w ends.last.cx ends.last.moment result ends.last.says

-- the transport's count before the last poll
at_last : (polls : ℕ) (may_give : ℕ → Bool) (v w : View) (answer : Poll (Result Unit DispatchError)) (ends : EndsAt may_give polls v w answer) → is_some v.service.called ≡ true
    → v.transport.faults ≤ ends.between.transport.faults
at_last polls may_give v w answer ends known =
    let r = acts_run v ends.between ends.waits.acts ends.waits.say in
    let k = run_kept v ends.between r.steps (r.noted (waits_have may_give ends.waits.acts ends.waits.each)) r.undecided r.run known in
    k.counts

by_cause : (v u w : View) (e : DispatchError) → v.transport.faults ≤ u.transport.faults → HasCause u w (Err e) → Shows v.transport w.transport (Err (Dispatch e))
by_cause v u w error.Io before has = rose_since v.transport.faults u.transport.faults w.transport.faults before has
by_cause v u w error.NoMemory before has = tt
by_cause v u w error.DisconnectTimeout before has = tt
by_cause v u w error.SlowRequestTimeout before has = has.shut
by_cause v u w error.Body before (inl has) = has.shut
by_cause v u w error.Body before (inr has) = has.shut
by_cause v u w (error.Parse parse.Header) before has = has.shut
by_cause v u w (error.Parse parse.TooLarge) before has = has.shut
by_cause v u w (error.Parse e) before has = absurd has
by_cause v u w error.Service before has = absurd has
by_cause v u w error.Upgrade before has = absurd has
by_cause v u w error.H2 before has = absurd has
by_cause v u w error.HandlerDroppedPayload before has = absurd has
by_cause v u w error.InternalError before has = absurd has

pub shows_end : (polls : ℕ) (may_give : ℕ → Bool) (v w : View) (end : Result Unit ServeError) → Ends polls may_give v w end → is_some v.service.called ≡ true → Shows v.transport w.transport end
shows_end polls may_give v w (Ok x) ends known = let has = at_end polls may_give v w (Ok tt) ends.0 in has.2.shut
shows_end polls may_give v w (Err (Dispatch e)) ends known =
    by_cause v ends.0.between w e (at_last polls may_give v w (Ready (Err e)) ends.0 known) (at_end polls may_give v w (Err e) ends.0)
shows_end polls may_give v w (Err Budget) ends known = tt
shows_end polls may_give v w (Err NoMemory) ends known = tt
