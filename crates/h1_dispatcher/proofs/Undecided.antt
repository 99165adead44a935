-- In the steps of a poll nothing is decided about requests that are held back.
use Rattle.std.proofs.Common.{◌⊎◌, List, [], ◌∷◌, ◌++◌, Result, Ok, Err, inl, inr, sym, subst}
use Rattle.std.specs.List.{AllByRecursion}
use Rattle.http_types.specs.declared.error.DispatchError.{DispatchError}
use Rattle.http_types.specs.declared.error.DispatchError.TheVariants as error
use Rattle.h1_dispatcher.specs.View.{View}
use Rattle.h1_dispatcher.specs.Steps.{Step, ticked, drained, written, read, shut, next, closed, continued, ready, called, answered, pulled, paused, dropped, replied, sent, failed, failed_write, failed_read, failed_fed, failed_sent, asked_to_drain, asked_to_hold, declined, let_on, turned_away, refused}
use Rattle.h1_dispatcher.specs.Polls.{Continues, AllContinue, EndsWith, IsIo, IsOutOfMemory, Ended}
use Rattle.h1_dispatcher.specs.Upgrades.{DecidesNone}

pub goes_undecided : (d : Step) → Continues d → DecidesNone d
goes_undecided (ticked moment expiry) goes = tt
goes_undecided drained goes = tt
goes_undecided (written answer) goes = tt
goes_undecided (read came answer) goes = tt
goes_undecided (shut answer) goes = tt
goes_undecided (next peer head) goes = tt
goes_undecided (closed end) goes = tt
goes_undecided continued goes = tt
goes_undecided (ready request answer) goes = tt
goes_undecided (called request) goes = tt
goes_undecided (answered answer) goes = tt
goes_undecided (pulled piece) goes = tt
goes_undecided paused goes = tt
goes_undecided dropped goes = tt
goes_undecided (replied answer) goes = tt
goes_undecided (sent piece) goes = tt
goes_undecided (failed event) goes = tt
goes_undecided (failed_write count) goes = tt
goes_undecided (failed_read came event) goes = tt
goes_undecided (failed_fed bytes) goes = tt
goes_undecided (failed_sent piece) goes = tt
goes_undecided asked_to_drain goes = tt
goes_undecided (asked_to_hold upgrades expects) goes = absurd goes
goes_undecided declined goes = absurd goes
goes_undecided let_on goes = absurd goes
goes_undecided (turned_away request answer) goes = absurd goes
goes_undecided (refused limit error) goes = absurd goes

pub all_undecided : (steps : List Step) → AllContinue steps → AllByRecursion DecidesNone steps
all_undecided [] all = tt
all_undecided (d ∷ steps) all = (goes_undecided d all.0, all_undecided steps all.1)

pub undecided_on : (s t : List Step) → AllByRecursion DecidesNone s → AllByRecursion DecidesNone t → AllByRecursion DecidesNone (s ++ t)
undecided_on [] t first then = then
undecided_on (d ∷ s) t first then = (first.0, undecided_on s t first.1 then)

last_undecided : (steps : List Step) (last : Step) → EndsWith steps last → DecidesNone last → AllByRecursion DecidesNone steps
last_undecided steps last is none =
    subst (λ l. AllByRecursion DecidesNone l) (sym is.1) (undecided_on is.0 (last ∷ []) (all_undecided is.0 is.2) (none, tt))

io_undecided : (steps : List Step) → IsIo steps → AllByRecursion DecidesNone steps
io_undecided steps (failure, inl wrote) = last_undecided steps _ wrote tt
io_undecided steps (failure, inr (inl reads)) = last_undecided steps _ reads.1 tt
io_undecided steps (failure, inr (inr shuts)) = last_undecided steps _ shuts tt

out_undecided : (steps : List Step) → IsOutOfMemory steps → AllByRecursion DecidesNone steps
out_undecided steps (inl is) = last_undecided steps _ is.2 tt
out_undecided steps (inr (inl is)) = last_undecided steps _ is.1 tt
out_undecided steps (inr (inr (inl is))) = last_undecided steps _ is.2 tt
out_undecided steps (inr (inr (inr (inl is)))) = last_undecided steps _ is.1 tt
out_undecided steps (inr (inr (inr (inr is)))) = last_undecided steps _ is.1 tt

lost_undecided : (steps : List Step) → IsOutOfMemory steps ⊎ AllContinue steps → AllByRecursion DecidesNone steps
lost_undecided steps (inl out) = out_undecided steps out
lost_undecided steps (inr all) = all_undecided steps all

pub ended_undecided : (w : View) (steps : List Step) (result : Result Unit DispatchError) → Ended w steps result → AllByRecursion DecidesNone steps
ended_undecided w steps (Ok x) is = last_undecided steps _ is.0 tt
ended_undecided w steps (Err error.Io) is = io_undecided steps is
ended_undecided w steps (Err error.NoMemory) is = lost_undecided steps is.1
ended_undecided w steps (Err error.DisconnectTimeout) is = all_undecided steps is.0
ended_undecided w steps (Err error.Body) is = last_undecided steps _ is.0 tt
ended_undecided w steps (Err error.SlowRequestTimeout) is = last_undecided steps _ is.0 tt
ended_undecided w steps (Err (error.Parse e)) is = last_undecided steps _ is.0 tt
ended_undecided w steps (Err error.Service) is = absurd is
ended_undecided w steps (Err error.Upgrade) is = absurd is
ended_undecided w steps (Err error.H2) is = absurd is
ended_undecided w steps (Err error.HandlerDroppedPayload) is = absurd is
ended_undecided w steps (Err error.InternalError) is = absurd is
