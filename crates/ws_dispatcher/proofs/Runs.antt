-- Runs of steps one after the other, and what never falls over them.
use Rattle.std.proofs.Common.{◌≡◌, ◌≤◌, ℕ, List, [], ◌∷◌, ◌++◌, refl, sym, ap, ◌∙◌, subst, arith}
use Rattle.futures.specs.declared.task.Poll.{Poll}
use Rattle.futures.specs.declared.task.Poll.TheVariants.{Ready, Pending}
use Rattle.http_bodies.specs.Told.{Waits}
use Rattle.ws_frames.specs.declared.error.ProtocolError.{ProtocolError}
use Rattle.ws_dispatcher.specs.View.{View}
use Rattle.ws_dispatcher.specs.Steps.{Step, IsStep, IsRun, read, ready, called, answered, wrote, unwritten, closed, failed, flushed, told}

-- no count falls
pub record Later {U Q I E : Type 0} (v w : View U Q I E) : Type 0 where
  pub reads : v.transport.read_waits ≤ w.transport.read_waits
  pub writes : v.transport.write_waits ≤ w.transport.write_waits
  pub flushes : v.transport.flush_waits ≤ w.transport.flush_waits
  pub faults : v.transport.faults ≤ w.transport.faults
  pub readies : v.service.ready_waits ≤ w.service.ready_waits
  pub calls : v.service.call_waits ≤ w.service.call_waits

same : (m n : ℕ) → n ≡ m → m ≤ n
same m n is = omega (arith, is)

pub later-refl : {U Q I E : Type 0} (v : View U Q I E) → Later v v
later-refl v = record {
  reads = same _ _ refl;
  writes = same _ _ refl;
  flushes = same _ _ refl;
  faults = same _ _ refl;
  readies = same _ _ refl;
  calls = same _ _ refl;
}

trans : (a b c : ℕ) → a ≤ b → b ≤ c → a ≤ c
trans a b c x y = omega (arith, x, y)

pub later-trans : {U Q I E : Type 0} (v u w : View U Q I E) → Later v u → Later u w → Later v w
later-trans v u w x y = record {
  reads = trans v.transport.read_waits u.transport.read_waits w.transport.read_waits x.reads y.reads;
  writes = trans v.transport.write_waits u.transport.write_waits w.transport.write_waits x.writes y.writes;
  flushes = trans v.transport.flush_waits u.transport.flush_waits w.transport.flush_waits x.flushes y.flushes;
  faults = trans v.transport.faults u.transport.faults w.transport.faults x.faults y.faults;
  readies = trans v.service.ready_waits u.service.ready_waits w.service.ready_waits x.readies y.readies;
  calls = trans v.service.call_waits u.service.call_waits w.service.call_waits x.calls y.calls;
}

-- the transport stays as it is, and no count of the service falls
serving : {U Q I E : Type 0} (v w : View U Q I E) → w.transport ≡ v.transport → v.service.ready_waits ≤ w.service.ready_waits → v.service.call_waits ≤ w.service.call_waits → Later v w
serving v w is readies calls = record {
  reads = same v.transport.read_waits w.transport.read_waits (ap (λ x. x.read_waits) is);
  writes = same v.transport.write_waits w.transport.write_waits (ap (λ x. x.write_waits) is);
  flushes = same v.transport.flush_waits w.transport.flush_waits (ap (λ x. x.flush_waits) is);
  faults = same v.transport.faults w.transport.faults (ap (λ x. x.faults) is);
  readies = readies;
  calls = calls;
}

still : {U Q I E : Type 0} (v w : View U Q I E) → w.transport ≡ v.transport → w.service ≡ v.service → Later v w
still v w transport service =
    serving v w transport (same v.service.ready_waits w.service.ready_waits (ap (λ x. x.ready_waits) service))
    (same v.service.call_waits w.service.call_waits (ap (λ x. x.call_waits) service))

waited : {A : Type 0} (before now : ℕ) (result : Poll A) → Waits before now result → before ≤ now
waited before now (Ready x) is = same before now is
waited before now Pending is = is.0

module _ {U Q I E R : Type 0} (reads : U → List ℕ → R → Type 0) (given : Q → R → R) (nothing : R)
    (breaks : ProtocolError → R → Type 0) (lacks : ProtocolError → Type 0) (seen : U → List ℕ → Type 0)
    (leaves : ProtocolError → U → List ℕ → U → List ℕ → Type 0) (writes : U → I → List ℕ → U → Type 0) (unwritten_so : ProtocolError → U → I → U → Type 0) where
  pub step_later : (v w : View U Q I E) (d : Step Q I E) → IsStep reads given nothing breaks lacks seen leaves writes unwritten_so v d w → Later v w
  step_later v w (read came answer) is =
      let items = is.4.1 in
      let service : w.service ≡ v.service = ap (λ x. x.service) is.5 in
      record {
        reads = items.waits;
        writes = same v.transport.write_waits w.transport.write_waits items.others.writes;
        flushes = same v.transport.flush_waits w.transport.flush_waits items.others.flushes;
        faults = items.faults;
        readies = same v.service.ready_waits w.service.ready_waits (ap (λ x. x.ready_waits) service);
        calls = same v.service.call_waits w.service.call_waits (ap (λ x. x.call_waits) service);
      }
  step_later v w (ready answer) is =
      serving v w (ap (λ x. x.transport) is.3) (waited v.service.ready_waits w.service.ready_waits answer is.2.ready_waits)
      (same v.service.call_waits w.service.call_waits is.2.call_waits)
  step_later v w (called item) is =
      serving v w (ap (λ x. x.transport) is.4) (same v.service.ready_waits w.service.ready_waits (is.3.begun.ready_waits ∙ is.3.is_ready.ready_waits))
      (same v.service.call_waits w.service.call_waits (is.3.begun.call_waits ∙ is.3.is_ready.call_waits))
  step_later v w (answered answer) is =
      serving v w (ap (λ x. x.transport) is.3) (same v.service.ready_waits w.service.ready_waits is.2.ready_waits)
      (waited v.service.call_waits w.service.call_waits answer is.2.call_waits)
  step_later v w (wrote message text) is = still v w (ap (λ x. x.transport) is.3) (ap (λ x. x.service) is.3)
  step_later v w (unwritten message error) is = still v w (ap (λ x. x.transport) is.2) (ap (λ x. x.service) is.2)
  step_later v w closed is = still v w (ap (λ x. x.transport) is.2) (ap (λ x. x.service) is.2)
  step_later v w (failed error) is = still v w (ap (λ x. x.transport) is.2) (ap (λ x. x.service) is.2)
  step_later v w (flushed gave answer) is =
      let gives = is.0.1 in
      let service : w.service ≡ v.service = ap (λ x. x.service) is.1 in
      record {
        reads = same v.transport.read_waits w.transport.read_waits gives.others.reads;
        writes = gives.writes;
        flushes = gives.flushes;
        faults = gives.faults;
        readies = same v.service.ready_waits w.service.ready_waits (ap (λ x. x.ready_waits) service);
        calls = same v.service.call_waits w.service.call_waits (ap (λ x. x.call_waits) service);
      }
  step_later v w (told error) is = still v w (ap (λ x. x.transport) is.1) (ap (λ x. x.service) is.1)

  pub run_later : (v w : View U Q I E) (steps : List (Step Q I E)) → IsRun reads given nothing breaks lacks seen leaves writes unwritten_so v steps w → Later v w
  run_later v w [] is = subst (λ x. Later v x) (sym is) (later-refl v)
  run_later v w (d ∷ steps) is = later-trans v is.0 w (step_later v is.0 d is.1) (run_later is.0 w steps is.2)

  -- one run behind another
  pub run_on : (v u w : View U Q I E) (s t : List (Step Q I E)) → IsRun reads given nothing breaks lacks seen leaves writes unwritten_so v s u
      → IsRun reads given nothing breaks lacks seen leaves writes unwritten_so u t w → IsRun reads given nothing breaks lacks seen leaves writes unwritten_so v (s ++ t) w
  run_on v u w [] t first then = subst (λ x. IsRun reads given nothing breaks lacks seen leaves writes unwritten_so x t w) first then
  run_on v u w (d ∷ s) t first then = (first.0, first.1, run_on first.0 u w s t first.2 then)
