-- A turn behind those before it.
use Rattle.std.proofs.Common.{◌≡◌, ◌≤◌, ◌<◌, ◌+◌, ◌*◌, ◌++◌, ◌∷◌, ℕ, true, List, [], length, Result, inl, inr, sym, subst, arith, length-append}
use Rattle.futures.specs.declared.task.Poll.{Poll}
use Rattle.futures.specs.declared.task.Poll.TheVariants.{Ready, Pending}
use Rattle.futures.specs.declared.task.context.Context.{Context}
use Rattle.ws_frames.specs.declared.error.ProtocolError.{ProtocolError}
use Rattle.ws_dispatcher.specs.View.{View}
use Rattle.ws_dispatcher.specs.Steps.{Step, IsRun}
use Rattle.ws_dispatcher.specs.Polls.{AllContinue, progress, AreFew, SendsFirst, TurnSays, PollSays}
use Rattle.ws_dispatcher.specs.declared.error.DispatcherError.{DispatcherError}
use Rattle.ws_dispatcher.specs.declared.inner.dispatcher.Turn.TheVariants.{Counted, Idle, Over}
use Rattle.ws_dispatcher.proofs.Runs.{run_on, run_later}
use Rattle.ws_dispatcher.proofs.Waits.{go_on, stuck_behind, ended_behind}
use Rattle.ws_dispatcher.proofs.First.{first_on}

progress_on : {Q I E : Type 0} (s t : List (Step Q I E)) → progress (s ++ t) ≡ progress s + progress t
progress_on [] t = omega arith
progress_on (d ∷ s) t = omega (arith, progress_on s t)

-- so many turns, of at most two steps each and each with progress, and another one
few_then : {Q I E : Type 0} (s t : List (Step Q I E)) (n : ℕ) → n < 64 → n ≤ progress s → length s ≤ 2 * n → length t ≤ 2 → AreFew (s ++ t)
few_then s t n below moved fits short =
    record { most = omega (arith, length-append s t, below, fits, short); busy = omega (arith, length-append s t, progress_on s t, moved, fits, short) }

few_all : {Q I E : Type 0} (s : List (Step Q I E)) (n : ℕ) → n ≡ 64 → n ≤ progress s → length s ≤ 2 * n → AreFew s
few_all s n is moved fits = record { most = omega (arith, is, fits); busy = omega (arith, moved, fits) }

module _ {U Q I E R : Type 0} (reads : U → List ℕ → R → Type 0) (given : Q → R → R) (nothing : R)
    (breaks : ProtocolError → R → Type 0) (lacks : ProtocolError → Type 0) (seen : U → List ℕ → Type 0)
    (leaves : ProtocolError → U → List ℕ → U → List ℕ → Type 0) (writes : U → I → List ℕ → U → Type 0) (unwritten_so : ProtocolError → U → I → U → Type 0) (v u w : View U Q I E) (steps : List (Step Q I E))
    (run : IsRun reads given nothing breaks lacks seen leaves writes unwritten_so v steps u) (goes_on : AllContinue steps) where
  pub poll_idle : (cx : Context) (n : ℕ) → n < 64 → n ≤ progress steps → length steps ≤ 2 * n → TurnSays reads given nothing breaks lacks seen leaves writes unwritten_so u w cx Idle
      → PollSays reads given nothing breaks lacks seen leaves writes unwritten_so v w cx Pending
  poll_idle cx n below moved fits says = (
    steps ++ says.0,
    run_on reads given nothing breaks lacks seen leaves writes unwritten_so v u w steps says.0 run says.1,
    (
      go_on steps says.0 goes_on says.2.0,
      few_then steps says.0 n below moved fits says.2.2,
      inl (stuck_behind v u w steps says.0 (run_later reads given nothing breaks lacks seen leaves writes unwritten_so v u steps run) goes_on cx says.2.1),
    ),
  )

  pub poll_over : (cx : Context) (n : ℕ) (result : Result Unit (DispatcherError E)) → n < 64 → n ≤ progress steps → length steps ≤ 2 * n
      → TurnSays reads given nothing breaks lacks seen leaves writes unwritten_so u w cx (Over result) → PollSays reads given nothing breaks lacks seen leaves writes unwritten_so v w cx (Ready result)
  poll_over cx n result below moved fits says = (
    steps ++ says.0,
    run_on reads given nothing breaks lacks seen leaves writes unwritten_so v u w steps says.0 run says.1,
    (
      ended_behind v u w steps says.0 (run_later reads given nothing breaks lacks seen leaves writes unwritten_so v u steps run) goes_on result says.2.0,
      few_then steps says.0 n below moved fits says.2.1,
    ),
  )

  pub poll_counted : (cx : Context) (turn : ℕ) → turn ≤ progress steps → length steps ≤ 2 * turn → SendsFirst v steps → TurnSays reads given nothing breaks lacks seen leaves writes unwritten_so u w cx Counted
      → (all : List (Step Q I E)) × IsRun reads given nothing breaks lacks seen leaves writes unwritten_so v all w × AllContinue all × (turn + 1 ≤ progress all)
      × (length all ≤ 2 * (turn + 1)) × SendsFirst v all
  poll_counted cx turn moved fits first says = (
    steps ++ says.0,
    run_on reads given nothing breaks lacks seen leaves writes unwritten_so v u w steps says.0 run says.1,
    go_on steps says.0 goes_on says.2.0,
    omega (arith, progress_on steps says.0, moved, says.2.1),
    omega (arith, length-append steps says.0, fits, says.2.2),
    first_on reads given nothing breaks lacks seen leaves writes unwritten_so v u steps says.0 run first says.2.3,
  )

  -- all turns are spent
  pub poll_spent : (cx : Context) (n : ℕ) (result : Poll (Result Unit (DispatcherError E))) → n ≡ 64 → n ≤ progress steps → length steps ≤ 2 * n → SendsFirst v steps
      → cx.is_woken ≡ true → result ≡ Pending → PollSays reads given nothing breaks lacks seen leaves writes unwritten_so v u cx result
  poll_spent cx n result is moved fits first woken pending =
      subst (λ r. PollSays reads given nothing breaks lacks seen leaves writes unwritten_so v u cx r) (sym pending)
      (steps, run, (goes_on, few_all steps n is moved fits, inr (omega (arith, is, moved), woken, first)))
