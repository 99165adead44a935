-- What was pending in a part of a poll was pending in the poll.
use Rattle.std.proofs.Common.{◌≡◌, ℕ, Bool, true, false, Option, Some, None, List, [], ◌∷◌, ◌++◌, Result, Ok, Err, inl, inr, sym, ap, ◌∙◌, ◌⊎◌, append_assoc}
use Rattle.futures.specs.declared.task.Poll.TheVariants.{Pending}
use Rattle.http_bodies.proofs.Histories.{rose_since}
use Rattle.futures.specs.declared.task.context.Context.{Context}
use Rattle.ws_dispatcher.specs.View.{View, IsSent}
use Rattle.ws_dispatcher.specs.Steps.{Step, flushed}
use Rattle.ws_dispatcher.specs.Polls.{AllContinue, FlushWaits, ReadWaits, NeedsOf, IsStuck, EndsWith, FlushFailed, Ended}
use Rattle.ws_dispatcher.specs.declared.error.DispatcherError.{DispatcherError}
use Rattle.ws_dispatcher.specs.declared.error.DispatcherError.TheVariants.{Service, Encoder, Decoder}
use Rattle.ws_dispatcher.proofs.Runs.{Later}

pub go_on : {Q I E : Type 0} (s t : List (Step Q I E)) → AllContinue s → AllContinue t → AllContinue (s ++ t)
go_on [] t first then = then
go_on (d ∷ s) t first then = (first.0, go_on s t first.1 then)

pub ends_behind : {Q I E : Type 0} (s t last : List (Step Q I E)) → AllContinue s → EndsWith t last → EndsWith (s ++ t) last
ends_behind s t last goes_on is =
    (s ++ is.0, ap (λ l. s ++ l) is.1 ∙ sym (append_assoc s is.0 last), go_on s is.0 goes_on is.2)

module _ {U Q I E : Type 0} (v u w : View U Q I E) (s t : List (Step Q I E)) (later : Later v u) (goes_on : AllContinue s) where
  flush_behind : (cx : Context) (gave : List ℕ) → FlushWaits u w cx gave → FlushWaits v w cx gave
  flush_behind cx gave (inl (inl rose)) = inl (inl (rose_since v.transport.write_waits u.transport.write_waits w.transport.write_waits later.writes rose))
  flush_behind cx gave (inl (inr rose)) = inl (inr (rose_since v.transport.flush_waits u.transport.flush_waits w.transport.flush_waits later.flushes rose))
  flush_behind cx gave (inr spent) = inr spent

  read_behind : (cx : Context) (came : List ℕ) → ReadWaits u w cx came → ReadWaits v w cx came
  read_behind cx came (inl rose) = inl (rose_since v.transport.read_waits u.transport.read_waits w.transport.read_waits later.reads rose)
  read_behind cx came (inr spent) = inr spent

  pub needs_behind : (cx : Context) (last : List (Step Q I E)) (calling : Bool) (waiting : Option Q) (ended : Bool)
      → NeedsOf calling waiting ended u w cx last → NeedsOf calling waiting ended v w cx last
  needs_behind cx last true waiting ended is = (is.0, rose_since v.service.call_waits u.service.call_waits w.service.call_waits later.calls is.1)
  needs_behind cx last false (Some item) ended is = (is.0, rose_since v.service.ready_waits u.service.ready_waits w.service.ready_waits later.readies is.1)
  needs_behind cx last false None false is = (is.0, is.1, read_behind cx is.0 is.2)
  needs_behind cx last false None true is = is

  unsent_behind : (cx : Context) (flush : List (Step Q I E))
      → ((flush ≡ []) × IsSent w) ⊎ ((gave : List ℕ) × (flush ≡ flushed gave Pending ∷ []) × FlushWaits u w cx gave)
      → ((flush ≡ []) × IsSent w) ⊎ ((gave : List ℕ) × (flush ≡ flushed gave Pending ∷ []) × FlushWaits v w cx gave)
  unsent_behind cx flush (inl none) = inl none
  unsent_behind cx flush (inr waits) = inr (waits.0, waits.1, flush_behind cx waits.0 waits.2)

  pub stuck_behind : (cx : Context) → IsStuck u w cx t → IsStuck v w cx (s ++ t)
  stuck_behind cx (inl is) =
      inl (record {
        flush = is.flush;
        need = is.need;
        last = ends_behind s t (is.flush ++ is.need) goes_on is.last;
        writing = unsent_behind cx is.flush is.writing;
        queue = is.queue;
        needs = needs_behind cx is.need w.calling w.waiting w.ended is.needs;
      })
  stuck_behind cx (inr is) =
      inr (record { ending = is.ending; gave = is.gave; last = ends_behind s t _ goes_on is.last; writing = flush_behind cx is.gave is.writing })

  failed_behind : (last : List (Step Q I E)) → FlushFailed u w t last → FlushFailed v w (s ++ t) last
  failed_behind last is =
      (is.0, is.1, ends_behind s t _ goes_on is.2, rose_since v.transport.faults u.transport.faults w.transport.faults later.faults is.3)

  pub ended_behind : (result : Result Unit (DispatcherError E)) → Ended u w t result → Ended v w (s ++ t) result
  ended_behind (Ok x) is = (go_on s t goes_on is.0, is.1, is.2, is.3)
  ended_behind (Err (Service e)) (inl sent) = inl (ends_behind s t _ goes_on sent.0, sent.1)
  ended_behind (Err (Service e)) (inr flush) = inr (failed_behind _ flush)
  ended_behind (Err (Encoder e)) (none, inl unwritten) = (none, inl (unwritten.0, ends_behind s t _ goes_on unwritten.1))
  ended_behind (Err (Encoder e)) (none, inr (inl io)) = (none, inr (inl (io.0, failed_behind [] io.1)))
  ended_behind (Err (Encoder e)) (none, inr (inr no_memory)) = (none, inr (inr (no_memory.0, go_on s t goes_on no_memory.1, no_memory.2)))
  ended_behind (Err (Decoder e)) is = (is.0, is.1, ends_behind s t _ goes_on is.2, is.3)
