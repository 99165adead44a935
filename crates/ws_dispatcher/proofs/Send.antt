-- Steps of a turn that writes and sends.
use Rattle.std.proofs.Common.{◌≡◌, ◌≤◌, ◌<◌, ◌⊎◌, ◌++◌, ℕ, Bool, true, false, Some, None, List, [], ◌∷◌, length, Result, Ok, Err, inl, inr, refl, sym, ap, ◌∙◌, subst, arith}
use Rattle.std.proofs.Math.Nat.{lt_of_not-le}
use Rattle.std.specs.Prelude.{IsTrue, ◌↔◌}
use Rattle.futures.specs.declared.task.Poll.{Poll}
use Rattle.futures.specs.Task.{Lasting, Holds, Keeps}
use Rattle.futures.specs.declared.task.Poll.TheVariants.{Ready, Pending}
use Rattle.futures.specs.declared.task.context.Context.{Context}
use Rattle.http_bodies.proofs.Histories.{rose_still}
use Rattle.http_config.specs.Causes.{Rose}
use Rattle.http_config.specs.declared.failed.Failed as config
use Rattle.http_transport.specs.Flushes.{Gave, Flushes}
use Rattle.ws_frames.specs.declared.error.ProtocolError.{ProtocolError}
use Rattle.ws_frames.specs.declared.error.ProtocolError.TheVariants as protocol
use Rattle.ws_dispatcher.specs.View.{View, IsSent, HasToSend, IsSettled}
use Rattle.ws_dispatcher.specs.Steps.{IsOpen, is_unflushed, wrote, unwritten, closed, failed, flushed, told}
use Rattle.ws_dispatcher.specs.Polls.{AskedAgain, IsFlushGood, gives, FlushWaits, IsEnding, TurnSays, ServeSays, EndSays}
use Rattle.ws_dispatcher.specs.declared.inner.queue.Message.TheVariants.{Item, Close}
use Rattle.ws_dispatcher.specs.declared.inner.dispatcher.Turn.{Turn}
use Rattle.ws_dispatcher.specs.declared.inner.dispatcher.Turn.TheVariants.{Counted, Idle, Over}
use Rattle.ws_dispatcher.specs.declared.error.DispatcherError.TheVariants.{Service, Encoder}
use Rattle.ws_dispatcher.proofs.Runs.{Later, step_later, run_later}
use Rattle.ws_dispatcher.proofs.Waits.{needs_behind, ended_behind}

asked_again : (cx : Context) → cx.is_woken ≡ true → AskedAgain cx
unfolding Holds
asked_again cx is source = inl is

waits_of : {A B C : Type 0} (cx : Context) → (A ⊎ B) ⊎ (C × (cx.is_woken ≡ true)) → (A ⊎ B) ⊎ (C × AskedAgain cx)
waits_of cx (inl is) = inl is
waits_of cx (inr is) = inr (is.0, asked_again cx is.1)

-- ---- what a test says

-- the buffer isn't full
pub room_left : {n : ℕ} → (IsTrue false ↔ (8192 ≤ n)) → n < 8192
room_left both =
    lt_of_not-le
    (λ full.
    let never : IsTrue false = both.1 full in
    cc never)

-- something is to be sent
unsent_so : (unsent : List ℕ) (flushing : Bool) → (unsent ≡ [] → flushing ≡ false → ⊥) → (0 < length unsent) ⊎ (flushing ≡ true)
unsent_so (b ∷ unsent) flushing not = inl (omega arith)
unsent_so [] true not = inr refl
unsent_so [] false not = absurd (not refl refl)

pub to_send : {U Q I E : Type 0} (v : View U Q I E) → (IsTrue false ↔ IsSent v) → HasToSend v
to_send v both =
    unsent_so v.unsent v.flushing
    (λ none done.
    let never : IsTrue false = both.1 (record { unsent = none; flushed = done }) in
    cc never)

-- A flush that is pending, after which more can be buffered, gave some bytes.
pub gave_some : {U Q I E : Type 0} (v u : View U Q I E) (gave : List ℕ) → IsSettled v → (IsTrue false ↔ IsSettled u) → u.queue ≡ v.queue → v.unsent ≡ gave ++ u.unsent
    → 1 ≤ gives Pending gave
gave_some v u (b ∷ gave) settled both queue front = omega arith
gave_some v u [] (inl none) both queue front =
    let never : IsTrue false = both.1 (inl (queue ∙ none)) in
    absurd (cc never)
gave_some v u [] (inr full) both queue front =
    let never : IsTrue false = both.1 (inr (subst (λ l. 8192 ≤ length l) front full)) in
    absurd (cc never)

-- ---- the end

module _ {U Q I E R : Type 0} (reads : U → List ℕ → R → Type 0) (given : Q → R → R) (nothing : R)
    (breaks : ProtocolError → R → Type 0) (lacks : ProtocolError → Type 0) (seen : U → List ℕ → Type 0)
    (leaves : ProtocolError → U → List ℕ → U → List ℕ → Type 0) (writes : U → I → List ℕ → U → Type 0) (unwritten_so : ProtocolError → U → I → U → Type 0) (v w : View U Q I E) where
  pub told_sent : (error : E) → v.failing ≡ Some error → IsSent v → w ≡ record v { failing = None }
      → EndSays reads given nothing breaks lacks seen leaves writes unwritten_so v w (Err (Service error))
  told_sent error fails sent is = (
    told error ∷ [],
    (w, (fails, is), refl),
    inl (([], refl, tt), record { unsent = ap (λ x. x.unsent) is ∙ sent.unsent; flushed = ap (λ x. x.flushing) is ∙ sent.flushed }),
    omega arith,
  )

  pub closed_sent : v.closing ≡ true → v.failing ≡ None → IsSent v → w ≡ v → EndSays reads given nothing breaks lacks seen leaves writes unwritten_so v w (Ok tt)
  closed_sent closes none sent is = (
    [],
    is,
    (
      tt,
      record { unsent = ap (λ x. x.unsent) is ∙ sent.unsent; flushed = ap (λ x. x.flushing) is ∙ sent.flushed },
      ap (λ x. x.failing) is ∙ none,
      inl (ap (λ x. x.closing) is ∙ closes),
    ),
    omega arith,
  )

module _ {U Q I E R : Type 0} (reads : U → List ℕ → R → Type 0) (given : Q → R → R) (nothing : R)
    (breaks : ProtocolError → R → Type 0) (lacks : ProtocolError → Type 0) (seen : U → List ℕ → Type 0)
    (leaves : ProtocolError → U → List ℕ → U → List ℕ → Type 0) (writes : U → I → List ℕ → U → Type 0) (unwritten_so : ProtocolError → U → I → U → Type 0) (v w : View U Q I E) (cx : Context) where
  pub flush_counted : (answer : Poll (Result Unit config.Failed)) → IsFlushGood answer → HasToSend v → (says : Flushes v.transport w.transport cx.is_woken v.unsent w.unsent answer)
      → 1 ≤ gives answer says.0 → w ≡ record v { transport = w.transport; unsent = w.unsent; flushing = is_unflushed answer } → TurnSays reads given nothing breaks lacks seen leaves writes unwritten_so v w cx Counted
  flush_counted answer good some says moved is = (
    flushed says.0 answer ∷ [],
    (w, ((cx.is_woken, says.1), is, some), refl),
    ((good, tt), omega (arith, moved), omega arith, inr (inr ([], says.0, answer, [], refl, tt))),
  )

  pub flush_failed : (x : config.Failed) → w.failing ≡ None → HasToSend v → Flushes v.transport w.transport cx.is_woken v.unsent w.unsent (Ready (Err x))
      → w ≡ record v { transport = w.transport; unsent = w.unsent; flushing = true } → TurnSays reads given nothing breaks lacks seen leaves writes unwritten_so v w cx (Over (Err (Encoder protocol.Io)))
  flush_failed x none some says is = (
    flushed says.0 (Ready (Err x)) ∷ [],
    (w, ((cx.is_woken, says.1), is, some), refl),
    ((none, inr (inl (refl, (says.0, x, ([], refl, tt), says.1.answers)))), omega arith),
  )

  pub flush_idle : IsEnding w → HasToSend v → Flushes {E = config.Failed} v.transport w.transport cx.is_woken v.unsent w.unsent Pending
      → w ≡ record v { transport = w.transport; unsent = w.unsent; flushing = true } → TurnSays reads given nothing breaks lacks seen leaves writes unwritten_so v w cx Idle
  flush_idle ending some says is = (
    flushed says.0 Pending ∷ [],
    (w, ((cx.is_woken, says.1), is, some), refl),
    ((tt, tt), inr (record { ending = ending; gave = says.0; last = ([], refl, tt); writing = waits_of cx says.1.answers }), omega arith),
  )

  pub wrote_counted : (message : I) (text : List ℕ) → IsOpen v → v.queue ≡ Ok (Item message) ∷ w.queue → writes v.codec message text w.codec
      → w ≡ record v { codec = w.codec; unsent = v.unsent ++ text; queue = w.queue } → length v.unsent < 8192
      → TurnSays reads given nothing breaks lacks seen leaves writes unwritten_so v w cx Counted
  wrote_counted message text so queue writes is room = (wrote message text ∷ [], (w, (so, queue, writes, is, room), refl), ((tt, tt), omega arith, omega arith, inr (inl (tt, tt))))

  pub unwritten_over : (message : I) (error : ProtocolError) → IsOpen v → v.queue ≡ Ok (Item message) ∷ w.queue
      → w ≡ record v { codec = w.codec; queue = w.queue } → unwritten_so error v.codec message w.codec → length v.unsent < 8192
      → TurnSays reads given nothing breaks lacks seen leaves writes unwritten_so v w cx (Over (Err (Encoder error)))
  unwritten_over message error so queue is why room =
      (unwritten message error ∷ [], (w, (so, queue, is, why, room), refl), ((ap (λ x. x.failing) is ∙ so.no_error, inl (message, ([], refl, tt))), omega arith))

  pub closed_counted : IsOpen v → v.queue ≡ Ok Close ∷ w.queue → w ≡ record v { queue = w.queue; closing = true } → length v.unsent < 8192
      → TurnSays reads given nothing breaks lacks seen leaves writes unwritten_so v w cx Counted
  closed_counted so queue is room = (closed ∷ [], (w, (so, queue, is, room), refl), ((tt, tt), omega arith, omega arith, inr (inl (tt, tt))))

  pub failed_counted : (error : E) → IsOpen v → v.queue ≡ Err error ∷ w.queue → w ≡ record v { queue = w.queue; failing = Some error } → length v.unsent < 8192
      → TurnSays reads given nothing breaks lacks seen leaves writes unwritten_so v w cx Counted
  failed_counted error so queue is room = (failed error ∷ [], (w, (so, queue, is, room), refl), ((tt, tt), omega arith, omega arith, inr (inl (tt, tt))))

  still_settled : w.queue ≡ v.queue → w.unsent ≡ v.unsent → IsSettled v → IsSettled w
  still_settled queue unsent (inl none) = inl (queue ∙ none)
  still_settled queue unsent (inr full) = inr (subst (λ l. 8192 ≤ length l) (sym unsent) full)

  -- a turn that only serves, since all is sent
  pub served : (turn : Turn E) → IsSettled v → IsSent v → ServeSays reads given nothing breaks lacks seen leaves writes unwritten_so v w cx turn
      → TurnSays reads given nothing breaks lacks seen leaves writes unwritten_so v w cx turn
  served Counted settled sent says = (says.0, says.1, (says.2.0, says.2.1, omega (arith, says.2.2), inl sent))
  served (Over result) settled sent says = (says.0, says.1, (says.2.0, omega (arith, says.2.1)))
  served Idle settled sent says = (
    says.0,
    says.1,
    (
      says.2.0,
      inl (record {
        flush = [];
        need = says.0;
        last = ([], refl, tt);
        writing = inl (refl, record { unsent = says.2.3 ∙ sent.unsent; flushed = says.2.4 ∙ sent.flushed });
        queue = still_settled says.2.2 says.2.3 settled;
        needs = says.2.1;
      }),
      omega (arith, says.2.5),
    ),
  )

module _ {U Q I E R : Type 0} (reads : U → List ℕ → R → Type 0) (given : Q → R → R) (nothing : R)
    (breaks : ProtocolError → R → Type 0) (lacks : ProtocolError → Type 0) (seen : U → List ℕ → Type 0)
    (leaves : ProtocolError → U → List ℕ → U → List ℕ → Type 0) (writes : U → I → List ℕ → U → Type 0) (unwritten_so : ProtocolError → U → I → U → Type 0) (v u w : View U Q I E) (cx : Context) where
  -- a flush failed, and then the error was told
  pub flush_told : (x : config.Failed) (error : E) → HasToSend v → Flushes v.transport u.transport cx.is_woken v.unsent u.unsent (Ready (Err x))
      → u ≡ record v { transport = u.transport; unsent = u.unsent; flushing = true } → u.failing ≡ Some error → w ≡ record u { failing = None }
      → TurnSays reads given nothing breaks lacks seen leaves writes unwritten_so v w cx (Over (Err (Service error)))
  flush_told x error some says is fails then = (
    flushed says.0 (Ready (Err x)) ∷ told error ∷ [],
    (u, ((cx.is_woken, says.1), is, some), (w, (fails, then), refl)),
    (inr (says.0, x, ([], refl, tt), subst (λ y. Rose v.transport.faults y.faults) (sym (ap (λ y. y.transport) then)) says.1.answers), omega arith),
  )

  waiting_still : (last : Context) (gave : List ℕ) → Later u w → Keeps cx last → FlushWaits v u cx gave → FlushWaits v w last gave
  waiting_still last gave later kept (inl (inl rose)) = inl (inl (rose_still v.transport.write_waits u.transport.write_waits w.transport.write_waits rose later.writes))
  waiting_still last gave later kept (inl (inr rose)) = inl (inr (rose_still v.transport.flush_waits u.transport.flush_waits w.transport.flush_waits rose later.flushes))
  waiting_still last gave later kept (inr spent) = inr (spent.0, λ source. kept (Lasting.hears source) (spent.1 source))

  later_by : (gave : List ℕ) → HasToSend v → Gave {E = config.Failed} v.transport u.transport cx.is_woken v.unsent gave u.unsent Pending
      → u ≡ record v { transport = u.transport; unsent = u.unsent; flushing = true } → Later v u
  later_by gave some gave_so is = step_later reads given nothing breaks lacks seen leaves writes unwritten_so v u (flushed gave Pending) ((cx.is_woken, gave_so), is, some)

  -- a flush that was pending, and then a turn that serves
  pub flush_served : (turn : Turn E) (last : Context) → Keeps cx last → HasToSend v → Flushes {E = config.Failed} v.transport u.transport cx.is_woken v.unsent u.unsent Pending
      → u ≡ record v { transport = u.transport; unsent = u.unsent; flushing = true } → IsSettled u → ServeSays reads given nothing breaks lacks seen leaves writes unwritten_so u w last turn
      → TurnSays reads given nothing breaks lacks seen leaves writes unwritten_so v w last turn
  flush_served Counted last kept some flushes is settled says = (
    flushed flushes.0 Pending ∷ says.0,
    (u, ((cx.is_woken, flushes.1), is, some), says.1),
    ((tt, says.2.0), omega (arith, says.2.1), omega (arith, says.2.2), inr (inr ([], flushes.0, Pending, says.0, refl, tt))),
  )
  flush_served (Over result) last kept some flushes is settled says = (
    flushed flushes.0 Pending ∷ says.0,
    (u, ((cx.is_woken, flushes.1), is, some), says.1),
    (ended_behind v u w (flushed flushes.0 Pending ∷ []) says.0 (later_by flushes.0 some flushes.1 is) (tt, tt) result says.2.0, omega (arith, says.2.1)),
  )
  flush_served Idle last kept some flushes is settled says = (
    flushed flushes.0 Pending ∷ says.0,
    (u, ((cx.is_woken, flushes.1), is, some), says.1),
    (
      (tt, says.2.0),
      inl (record {
        flush = flushed flushes.0 Pending ∷ [];
        need = says.0;
        last = ([], refl, tt);
        writing = inr (
          flushes.0,
          refl,
          waiting_still last flushes.0 (run_later reads given nothing breaks lacks seen leaves writes unwritten_so u w says.0 says.1) kept (waits_of cx flushes.1.answers),
        );
        queue = still_settled reads given nothing breaks lacks seen leaves writes unwritten_so u w last says.2.2 says.2.3 settled;
        needs = needs_behind v u w (flushed flushes.0 Pending ∷ []) says.0 (later_by flushes.0 some flushes.1 is) (tt, tt) last says.0 w.calling w.waiting w.ended says.2.1;
      }),
      omega (arith, says.2.5),
    ),
  )
