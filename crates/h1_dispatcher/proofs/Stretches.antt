-- A write of the first bytes that lie together is one of all that waits.
use Rattle.std.proofs.Common.{◌≡◌, ℕ, ◌<◌, ◌≤◌, List, [], ◌∷◌, ◌++◌, length, take, Result, Ok, Err, refl, sym, ap, ◌∙◌, subst, arith, length-append}
use Rattle.std.proofs.lemmas.List.{take-append-le}
use Rattle.futures.specs.declared.task.Poll.{Poll}
use Rattle.futures.specs.declared.task.Poll.TheVariants.{Ready, Pending}
use Rattle.http_bodies.specs.Told.{Grows}
use Rattle.http_transport.specs.Wiring.{Wiring, WriteSays}

offered_some : (front all : List ℕ) → (length front ≡ 0 → length all ≡ 0) → 0 < length all → 0 < length front
offered_some [] all some waits =
    absurd
    (let none : length all ≡ 0 = some refl in
    omega arith)
offered_some (b ∷ front) all some waits = omega arith

pub all_offered : {E : Type 0} (old new : Wiring) (r : Poll (Result ℕ E)) (front all : List ℕ) → ((rest : List ℕ) × (front ++ rest ≡ all))
    → (length front ≡ 0 → length all ≡ 0) → WriteSays old new r front → WriteSays old new r all
all_offered old new (Ready (Ok n)) front all first some says =
    let size : length front ≤ length all = omega (arith, ap length first.1, length-append front first.0) in
    let same : take n front ≡ take n all = sym (take-append-le n front first.0 says.bound) ∙ ap (take n) first.1 in
    record {
      bound = omega (arith, says.bound, size);
      progress = λ waits. says.progress (offered_some front all some waits);
      sent = subst (λ (l : List ℕ). Grows old.sent new.sent l) same says.sent;
      received = says.received;
      ended = says.ended;
      shut = says.shut;
      faults = says.faults;
      reads = says.reads;
      writes = says.writes;
      flushes = says.flushes;
      shuts = says.shuts;
    }
all_offered old new (Ready (Err e)) front all first some says =
    record {
      bound = tt;
      progress = tt;
      sent = says.sent;
      received = says.received;
      ended = says.ended;
      shut = says.shut;
      faults = says.faults;
      reads = says.reads;
      writes = says.writes;
      flushes = says.flushes;
      shuts = says.shuts;
    }
all_offered old new Pending front all first some says =
    record {
      bound = tt;
      progress = tt;
      sent = says.sent;
      received = says.received;
      ended = says.ended;
      shut = says.shut;
      faults = says.faults;
      reads = says.reads;
      writes = says.writes;
      flushes = says.flushes;
      shuts = says.shuts;
    }
