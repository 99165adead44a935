-- A turn of the reading of items.
use Rattle.std.proofs.Common.{◌≡◌, ◌≤◌, ◌<◌, ℕ, ◌+◌, Bool, true, List, [], ◌∷◌, ◌++◌, length, inl, inr, refl, sym, ap, ◌∙◌, subst, append_assoc, length-append, append-nil, arith}
use Rattle.std.specs.Prelude.{Some, None, Ok, Err}
use Rattle.futures.specs.declared.task.Poll.TheVariants.{Ready, Pending}
use Rattle.http_framing.specs.AnyPieces.{GoesOn, OnlySays}
use Rattle.http_bodies.specs.Told.{Grows}
use Rattle.http_bodies.proofs.Histories.{grown, grown-none, rose_since}
use Rattle.http_transport.specs.Wiring.{Wiring}
use Rattle.http_transport.specs.Items.{OnlyRead, ReadBy, Passed, Waiting, ItemSays}
use Rattle.http_transport.specs.declared.framed.error.FramedError.{FramedError}
use Rattle.http_transport.specs.declared.framed.error.FramedError.TheVariants.{Codec, Io, NoMemory}

-- what a read leaves stays over another one
pub only_read-trans : (a b c : Wiring) → OnlyRead a b → OnlyRead b c → OnlyRead a c
only_read-trans a b c x y =
    record {
      sent = y.sent ∙ x.sent;
      ended = λ ended. y.ended (x.ended ended);
      shut = y.shut ∙ x.shut;
      writes = y.writes ∙ x.writes;
      flushes = y.flushes ∙ x.flushes;
      shuts = y.shuts ∙ x.shuts;
    }

pub only_read-refl : (a : Wiring) → OnlyRead a a
only_read-refl a = record { sent = refl; ended = λ ended. ended; shut = refl; writes = refl; flushes = refl; shuts = refl }

longer : (n : ℕ) (a b : List ℕ) → n ≤ length a → 0 < length b → n + 1 ≤ length (a ++ b)
longer n a b first then = rw length-append (omega (arith, first, then))

nothing_more : (u more after : List ℕ) → after ≡ u ++ more → more ≡ [] → after ≡ u
nothing_more u more after is none = is ∙ ap (λ l. u ++ l) none ∙ append-nil u

no_bytes : (xs : List ℕ) → 0 ≡ length xs → xs ≡ []
no_bytes [] e = refl
no_bytes (x ∷ xs) e = absurd (omega (arith, e))

module _ {D I R E : Type 0} (reads : D → List ℕ → R → Type 0) (given : I → R → R) (nothing : R) (breaks : E → R → Type 0)
    (lacks : E → Type 0) (seen : D → List ℕ → Type 0) (leaves : E → D → List ℕ → D → List ℕ → Type 0) where
  -- where the reading stands before a turn
  pub record Turned (old now : Wiring) (d : D) (bytes : List ℕ) (turn : ℕ) (came : List ℕ) (at : D) (left : List ℕ) : Type 0 where
    pub received : Grows old.received now.received came
    pub others : OnlyRead old now
    pub faults : old.faults ≤ now.faults
    pub waits : now.read_waits ≡ old.read_waits
    pub some : turn ≤ length came
    pub passed : Passed reads given nothing breaks lacks seen leaves d bytes came at left

  -- before the first
  pub not_yet : (w : Wiring) (d : D) (bytes : List ℕ) → Turned w w d bytes 0 [] d bytes
  not_yet w d bytes =
      record {
        received = grown-none w.received;
        others = only_read-refl w;
        faults = omega arith;
        waits = refl;
        some = omega arith;
        passed = record {
          goes_on = λ z r y. subst (λ l. reads d (l ++ z) r) (sym (append-nil bytes)) y;
          seen_on = λ s. s;
        };
      }

  -- an answer of the codec
  module _ (old now : Wiring) (d : D) (bytes : List ℕ) (turn : ℕ) (came : List ℕ) (at : D) (left : List ℕ)
      (turned : Turned old now d bytes turn came at left) (woken : Bool) where
    -- an item
    pub item_says : (item : I) (after : D) (rest : List ℕ) → GoesOn reads given at left (given item) after rest
        → (seen at left → (more : List ℕ) → seen after (rest ++ more))
        → ItemSays reads given nothing breaks lacks seen leaves old now woken d bytes after rest (Ready (Some (Ok item)))
    item_says item after rest goes still = (
      came,
      record {
        received = turned.received;
        others = turned.others;
        faults = turned.faults;
        waits = omega (arith, turned.waits);
        answers = (
          λ z r y. turned.passed.goes_on z (given item r) (goes z r y),
          λ s. subst (λ l. seen after l) (append-nil rest) (still (turned.passed.seen_on s) []),
        );
      },
    )

    -- a refusal
    pub refusal_says : (e : E) (after : D) (rest : List ℕ) → (¬ (lacks e) → seen at left → OnlySays reads at left (breaks e))
        → (lacks e → (after ≡ at) × (rest ≡ left)) → leaves e at left after rest
        → ItemSays reads given nothing breaks lacks seen leaves old now woken d bytes after rest (Ready (Some (Err (Codec e))))
    refusal_says e after rest refused lacking so = (
      came,
      record {
        received = turned.received;
        others = turned.others;
        faults = turned.faults;
        waits = omega (arith, turned.waits);
        answers = record {
          before = at;
          left = left;
          passed = turned.passed;
          refused = λ known s. refused known (turned.passed.seen_on s);
          lacking = lacking;
          leaves_so = so;
        };
      },
    )

    -- no item yet, and then a read
    module _ (mid : D) (rest : List ℕ) (goes : GoesOn reads given at left (λ r. r) mid rest)
        (waiting : seen at left → OnlySays reads at left (λ said. said ≡ nothing))
        (still : seen at left → (more : List ℕ) → seen mid (rest ++ more)) where
      -- the codec stands before what is left and what came
      passed_on : (more : List ℕ) → Passed reads given nothing breaks lacks seen leaves d bytes (came ++ more) mid (rest ++ more)
      passed_on more = record {
        goes_on = λ z r y.
            let here : reads mid (rest ++ (more ++ z)) r = subst (λ l. reads mid l r) (append_assoc rest more z) y in
            let there : reads d ((bytes ++ came) ++ (more ++ z)) r = turned.passed.goes_on (more ++ z) r (goes (more ++ z) r here) in
            subst (λ l. reads d l r)
            (append_assoc bytes came (more ++ z) ∙ ap (λ l. bytes ++ l) (sym (append_assoc came more z)) ∙ sym (append_assoc bytes (came ++ more) z))
            there;
        seen_on = λ s. still (turned.passed.seen_on s) more;
      }

      pub passed_to : (more after : List ℕ) → after ≡ rest ++ more
          → Passed reads given nothing breaks lacks seen leaves d bytes (came ++ more) mid after
      passed_to more after is =
          subst (λ l. Passed reads given nothing breaks lacks seen leaves d bytes (came ++ more) mid l) (sym is) (passed_on more)

      -- where nothing came it still waits
      waits_there : Waiting reads given nothing breaks lacks seen leaves d bytes came mid rest
      waits_there = record {
        passed = subst (λ l. Passed reads given nothing breaks lacks seen leaves d bytes l mid rest) (append-nil came)
            (passed_to [] rest (sym (append-nil rest)));
        nothing_yet = λ s said y. waiting (turned.passed.seen_on s) said
            (subst (λ l. reads at l said) (append-nil left) (goes [] said (subst (λ l. reads mid l said) (sym (append-nil rest)) y)));
      }

      pub waits_still : (more after : List ℕ) → after ≡ rest ++ more → more ≡ []
          → Waiting reads given nothing breaks lacks seen leaves d bytes (came ++ more) mid after
      waits_still more after is none =
          let same : after ≡ rest = nothing_more rest more after is none in
          let came_is : came ++ more ≡ came = ap (λ l. came ++ l) none ∙ append-nil came in
          subst (λ l. Waiting reads given nothing breaks lacks seen leaves d bytes l mid after) (sym came_is)
          (subst (λ l. Waiting reads given nothing breaks lacks seen leaves d bytes came mid l) (sym same) waits_there)

      -- bytes came
      pub more_read : (new : Wiring) (more after : List ℕ) (count : ℕ) → ReadBy {E = E} now new rest more after (Ready (Ok count)) → 0 < count
          → Turned old new d bytes (turn + 1) (came ++ more) mid after
      more_read new more after count by some = record {
        received = grown came more old.received now.received new.received turned.received by.received;
        others = only_read-trans old now new turned.others by.others;
        faults = omega (arith, turned.faults, by.counts.2);
        waits = by.counts.3 ∙ turned.waits;
        some = longer turn came more turned.some (omega (arith, by.counts.0, some));
        passed = passed_to more after by.behind;
      }

      -- the input ended
      pub end_says : (new : Wiring) (more after : List ℕ) → ReadBy {E = E} now new rest more after (Ready (Ok 0))
          → ItemSays reads given nothing breaks lacks seen leaves old new woken d bytes mid after (Ready None)
      end_says new more after by = (
        came ++ more,
        record {
          received = grown came more old.received now.received new.received turned.received by.received;
          others = only_read-trans old now new turned.others by.others;
          faults = omega (arith, turned.faults, by.counts.2);
          waits = omega (arith, by.counts.3, turned.waits);
          answers = (waits_still more after by.behind (no_bytes more by.counts.0), by.counts.1 refl);
        },
      )

      -- the transport failed, or there was no memory to read
      pub fault_says : (new : Wiring) (more after : List ℕ) (e : FramedError E) → ReadBy {E = E} now new rest more after (Ready (Err e))
          → ItemSays reads given nothing breaks lacks seen leaves old new woken d bytes mid after (Ready (Some (Err e)))
      fault_says new more after (Codec e) by = absurd by.counts
      fault_says new more after Io by = (
        came ++ more,
        record {
          received = grown came more old.received now.received new.received turned.received by.received;
          others = only_read-trans old now new turned.others by.others;
          faults = omega (arith, turned.faults, by.counts.1);
          waits = omega (arith, by.counts.3, turned.waits);
          answers = (waits_still more after by.behind by.counts.0, rose_since old.faults now.faults new.faults turned.faults by.counts.2);
        },
      )
      fault_says new more after NoMemory by = (
        came ++ more,
        record {
          received = grown came more old.received now.received new.received turned.received by.received;
          others = only_read-trans old now new turned.others by.others;
          faults = omega (arith, turned.faults, ap (λ w. w.faults) by.counts.1);
          waits = omega (arith, turned.waits, ap (λ w. w.read_waits) by.counts.1);
          answers = waits_still more after by.behind by.counts.0;
        },
      )

      -- the transport was pending
      pub pending_says : (new : Wiring) (more after : List ℕ) → ReadBy {E = E} now new rest more after Pending
          → ItemSays reads given nothing breaks lacks seen leaves old new woken d bytes mid after Pending
      pending_says new more after by = (
        came ++ more,
        record {
          received = grown came more old.received now.received new.received turned.received by.received;
          others = only_read-trans old now new turned.others by.others;
          faults = omega (arith, turned.faults, by.counts.1);
          waits = omega (arith, turned.waits, by.counts.2);
          answers = inl (
            waits_still more after by.behind by.counts.0,
            rose_since old.read_waits now.read_waits new.read_waits (omega (arith, turned.waits)) by.counts.3,
          );
        },
      )

  -- the turns were spent
  pub spent_says : (old now : Wiring) (d : D) (bytes came : List ℕ) (at : D) (left : List ℕ) (woken : Bool) → Turned old now d bytes 64 came at left
      → woken ≡ true → ItemSays reads given nothing breaks lacks seen leaves old now woken d bytes at left Pending
  spent_says old now d bytes came at left woken turned awake = (
    came,
    record {
      received = turned.received;
      others = turned.others;
      faults = turned.faults;
      waits = omega (arith, turned.waits);
      answers = inr (turned.passed, turned.some, awake);
    },
  )
