-- A turn of the writing of what is buffered.
use Rattle.std.proofs.Common.{◌≡◌, ◌≤◌, ◌<◌, ℕ, ◌+◌, Bool, true, List, [], ◌++◌, length, take, drop, inl, inr, refl, sym, ap, ◌∙◌, append_assoc, append-nil, length-append, subst, arith}
use Rattle.std.proofs.lemmas.List.{take-append-drop, length-take}
use Rattle.std.specs.Prelude.{Option, Result, Ok, Err}
use Rattle.futures.specs.declared.task.Poll.{Poll}
use Rattle.futures.specs.declared.task.Poll.TheVariants.{Ready, Pending}
use Rattle.http_bodies.specs.Told.{Grows, Waits, Caused}
use Rattle.http_bodies.proofs.Histories.{grown, grown-none, rose_since}
use Rattle.http_transport.specs.Wiring.{Wiring, WriteSays, FlushSays}
use Rattle.http_transport.specs.Flushes.{FlushAnswers, OnlyWrote, Flushes}

pub wrote-refl : (w : Wiring) → OnlyWrote w w
wrote-refl w = record { received = refl; ended = refl; shut = refl; reads = refl; shuts = refl }

pub wrote-trans : (a b c : Wiring) → OnlyWrote a b → OnlyWrote b c → OnlyWrote a c
wrote-trans a b c x y = record {
  received = y.received ∙ x.received;
  ended = y.ended ∙ x.ended;
  shut = y.shut ∙ x.shut;
  reads = y.reads ∙ x.reads;
  shuts = y.shuts ∙ x.shuts;
}

by_write : {E : Type 0} (a b : Wiring) (result : Poll (Result ℕ E)) (buf : List ℕ) → WriteSays a b result buf → OnlyWrote a b
by_write a b result buf says = record {
  received = says.received;
  ended = says.ended;
  shut = says.shut;
  reads = says.reads;
  shuts = says.shuts;
}

by_flush : {E : Type 0} (a b : Wiring) (result : Poll (Result Unit E)) → FlushSays a b result → OnlyWrote a b
by_flush a b result says = record {
  received = says.received;
  ended = says.ended;
  shut = says.shut;
  reads = says.reads;
  shuts = says.shuts;
}

-- a history that grew, and then by nothing
and_no_more : (old mid new : Option (List ℕ)) (gave : List ℕ) → Grows old mid gave → Grows mid new [] → Grows old new gave
and_no_more old mid new gave first then = subst (λ l. Grows old new l) (append-nil gave) (grown gave [] old mid new first then)

-- what the transport took is the front
flushed : (before gave left after : List ℕ) (n : ℕ) → before ≡ gave ++ left → after ≡ drop n left → before ≡ (gave ++ take n left) ++ after
flushed before gave left after n is then =
    is ∙ ap (λ l. gave ++ l) (sym (take-append-drop n left)) ∙ sym (append_assoc gave (take n left) (drop n left))
    ∙ ap (λ l. (gave ++ take n left) ++ l) (sym then)

took_some : (n k : ℕ) (gave left : List ℕ) → n ≤ length gave → 0 < k → k ≤ length left → n + 1 ≤ length (gave ++ take k left)
took_some n k gave left first some fits = rw (length-append, length-take) (omega (arith, first, some, fits))

-- where the writing stands before a turn
pub record Sent (old now : Wiring) (before : List ℕ) (turn : ℕ) (gave left : List ℕ) : Type 0 where
  pub front : before ≡ gave ++ left
  pub sent : Grows old.sent now.sent gave
  pub others : OnlyWrote old now
  pub faults : old.faults ≤ now.faults
  pub writes : now.write_waits ≡ old.write_waits
  pub flushes : now.flush_waits ≡ old.flush_waits
  pub some : turn ≤ length gave

-- before the first
pub not_yet : (w : Wiring) (before : List ℕ) → Sent w w before 0 [] before
not_yet w before = record {
  front = refl;
  sent = grown-none w.sent;
  others = wrote-refl w;
  faults = omega arith;
  writes = refl;
  flushes = refl;
  some = omega arith;
}

module _ {E : Type 0} (old now new : Wiring) (before : List ℕ) (turn : ℕ) (gave left : List ℕ) (sent : Sent old now before turn gave left) where
  -- bytes were taken
  pub more_sent : (n : ℕ) (after : List ℕ) → WriteSays {E = E} now new (Ready (Ok n)) left → 0 < length left → after ≡ drop n left
      → Sent old new before (turn + 1) (gave ++ take n left) after
  more_sent n after says some is = record {
    front = flushed before gave left after n sent.front is;
    sent = grown gave (take n left) old.sent now.sent new.sent sent.sent says.sent;
    others = wrote-trans old now new sent.others (by_write now new (Ready (Ok n)) left says);
    faults = omega (arith, sent.faults, says.faults);
    writes = says.writes ∙ sent.writes;
    flushes = says.flushes ∙ sent.flushes;
    some = took_some turn n gave left sent.some (says.progress some) says.bound;
  }

  -- the transport failed
  pub fault_says : (woken : Bool) (e : E) → WriteSays {E = E} now new (Ready (Err e)) left → Flushes {E = E} old new woken before left (Ready (Err e))
  fault_says woken e says = (
    gave,
    record {
      front = sent.front;
      sent = and_no_more old.sent now.sent new.sent gave sent.sent says.sent;
      others = wrote-trans old now new sent.others (by_write now new (Ready (Err e)) left says);
      faults = omega (arith, sent.faults, says.faults.0);
      writes = omega (arith, says.writes, sent.writes);
      flushes = omega (arith, says.flushes, sent.flushes);
      answers = rose_since old.faults now.faults new.faults sent.faults says.faults.1;
    },
  )

  -- the transport was pending
  pub pending_says : (woken : Bool) → WriteSays {E = E} now new Pending left → Flushes {E = E} old new woken before left Pending
  pending_says woken says = (
    gave,
    record {
      front = sent.front;
      sent = and_no_more old.sent now.sent new.sent gave sent.sent says.sent;
      others = wrote-trans old now new sent.others (by_write now new Pending left says);
      faults = omega (arith, sent.faults, says.faults);
      writes = omega (arith, says.writes.0, sent.writes);
      flushes = omega (arith, says.flushes, sent.flushes);
      answers = inl (inl (rose_since old.write_waits now.write_waits new.write_waits (omega (arith, sent.writes)) says.writes.1));
    },
  )

  -- all was taken, and the transport was flushed
  pub flush_says : (woken : Bool) (result : Poll (Result Unit E)) → FlushSays {E = E} now new result → left ≡ []
      → Flushes {E = E} old new woken before [] result
  flush_says woken result says empty = (
    gave,
    record {
      front = sent.front ∙ ap (λ l. gave ++ l) empty;
      sent = says.sent ∙ sent.sent;
      others = wrote-trans old now new sent.others (by_flush now new result says);
      faults = omega (arith, sent.faults, not_less result says.faults);
      writes = omega (arith, says.writes, sent.writes);
      flushes = omega (arith, sent.flushes, no_fewer result says.flushes);
      answers = answers_by result says.faults says.flushes;
    },
  )
    where
      not_less : (r : Poll (Result Unit E)) → Caused now.faults new.faults r → now.faults ≤ new.faults
      not_less (Ready (Ok x)) c = c
      not_less (Ready (Err e)) c = c.0
      not_less Pending c = c

      no_fewer : (r : Poll (Result Unit E)) → Waits now.flush_waits new.flush_waits r → now.flush_waits ≤ new.flush_waits
      no_fewer (Ready x) w = omega (arith, w)
      no_fewer Pending w = w.0

      answers_by : (r : Poll (Result Unit E)) → Caused now.faults new.faults r → Waits now.flush_waits new.flush_waits r
          → FlushAnswers {E = E} old new woken gave [] r
      answers_by (Ready (Ok x)) c w = refl
      answers_by (Ready (Err e)) c w = rose_since old.faults now.faults new.faults sent.faults c.1
      answers_by Pending c w = inl (inr (rose_since old.flush_waits now.flush_waits new.flush_waits (omega (arith, sent.flushes)) w.1))

-- the turns were spent
pub spent_says : {E : Type 0} (old now : Wiring) (before gave left : List ℕ) (woken : Bool) → Sent old now before 64 gave left → woken ≡ true
    → Flushes {E = E} old now woken before left Pending
spent_says old now before gave left woken sent awake = (
  gave,
  record {
    front = sent.front;
    sent = sent.sent;
    others = sent.others;
    faults = sent.faults;
    writes = omega (arith, sent.writes);
    flushes = omega (arith, sent.flushes);
    answers = inr (sent.some, awake);
  },
)
