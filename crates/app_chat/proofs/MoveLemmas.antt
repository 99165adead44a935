-- What a hub does for one connection, one step after another.
use Rattle.std.proofs.Common.{◌≡◌, ℕ, ◌==◌, Bool, false, List, [], ◌∷◌, ◌++◌, Some, refl, sym, ap, ◌∙◌, subst, append_assoc, append-nil}
use Rattle.std.proofs.lemmas.Bool.{eq-eqb}
use Rattle.model_h1.specs.Event as on
use Rattle.model_h1.specs.Sums.{Step, step_taken, step_written, taken, written}
use Rattle.model_rooms.specs.Hub.{HubEvent, core, move_by, core_of}
use Rattle.model_rooms.specs.Seen.{Seen}
use Rattle.model_rooms.specs.Trace.{core_trace}
use Rattle.rooms.specs.Hub.{HubState, HubStands}
use Rattle.app_chat.specs.Moves.{MovesAfter, Moves}

-- ---- one step

taken_behind : (e : on.Event) (o : on.Outcome) (t : List Step) → taken (record { event = e; outcome = o } ∷ t) ≡ taken t ++ step_taken e o
unfolding taken
taken_behind e o t = refl

written_behind : (e : on.Event) (o : on.Outcome) (t : List Step) → written (record { event = e; outcome = o } ∷ t) ≡ written t ++ step_written o
unfolding written
written_behind e o t = refl

-- a step of one connection is in its trace, and in no other
own_trace : (i : ℕ) (event : HubEvent) (e : on.Event) (o : on.Outcome) (closes : Bool) (seen : List Seen)
    → move_by event (core e o) ≡ Some (record { number = i; step = record { event = e; outcome = o } })
    → core_trace i (record { step = record { event = event; outcome = core e o }; closes = closes } ∷ seen)
    ≡ record { event = e; outcome = o } ∷ core_trace i seen
unfolding core_of
own_trace i event e o closes seen is = rw (is, eq-eqb i i refl) refl

other_trace : (i j : ℕ) (event : HubEvent) (e : on.Event) (o : on.Outcome) (closes : Bool) (seen : List Seen)
    → move_by event (core e o) ≡ Some (record { number = i; step = record { event = e; outcome = o } }) → (j == i) ≡ false
    → core_trace j (record { step = record { event = event; outcome = core e o }; closes = closes } ∷ seen) ≡ core_trace j seen
unfolding core_of
other_trace i j event e o closes seen is other = rw (is, other) refl

pub moves_one : (i : ℕ) (event : HubEvent) (e : on.Event) (o : on.Outcome) (closes : Bool) (came went : List ℕ) (after : HubState) (seen : List Seen)
    → move_by event (core e o) ≡ Some (record { number = i; step = record { event = e; outcome = o } })
    → HubStands after (record { step = record { event = event; outcome = core e o }; closes = closes } ∷ seen)
    → step_taken e o ≡ came → step_written o ≡ went → MovesAfter i came went after seen
moves_one i event e o closes came went after seen is stands takes gives =
    let own = own_trace i event e o closes seen is in
    record {
      more = record { step = record { event = event; outcome = core e o }; closes = closes } ∷ [];
      stands = stands;
      took = ap (λ (t : List Step). taken t) own ∙ taken_behind e o (core_trace i seen) ∙ ap (λ (l : List ℕ). taken (core_trace i seen) ++ l) takes;
      gave = ap (λ (t : List Step). written t) own ∙ written_behind e o (core_trace i seen) ∙ ap (λ (l : List ℕ). written (core_trace i seen) ++ l) gives;
      alone = λ j other. other_trace i j event e o closes seen is other;
    }

-- ---- none, and two

pub moves_none : (i : ℕ) (hub : HubState) → Moves i hub [] [] hub
moves_none i hub = record {
  goes = λ seen x. record {
    more = [];
    stands = x;
    took = sym (append-nil (taken (core_trace i seen)));
    gave = sym (append-nil (written (core_trace i seen)));
    alone = λ j other. refl;
  };
}

pub moves_equal : (i : ℕ) (hub after : HubState) → after ≡ hub → Moves i hub [] [] after
moves_equal i hub after same = subst (λ (h : HubState). Moves i hub [] [] h) (sym same) (moves_none i hub)

pub moves_then : (i : ℕ) (a b c : HubState) (came went more_came more_went : List ℕ) → Moves i a came went b → Moves i b more_came more_went c
    → Moves i a (came ++ more_came) (went ++ more_went) c
moves_then i a b c came went more_came more_went first second = record {
  goes = λ seen x.
      let f = first.goes seen x in
      let s = second.goes (f.more ++ seen) f.stands in
      let same : (s.more ++ f.more) ++ seen ≡ s.more ++ (f.more ++ seen) = append_assoc s.more f.more seen in
      record {
        more = s.more ++ f.more;
        stands = subst (λ (l : List Seen). HubStands c l) (sym same) s.stands;
        took =
            ap (λ (l : List Seen). taken (core_trace i l)) same ∙ s.took ∙ ap (λ (l : List ℕ). l ++ more_came) f.took
            ∙ append_assoc (taken (core_trace i seen)) came more_came;
        gave =
            ap (λ (l : List Seen). written (core_trace i l)) same ∙ s.gave ∙ ap (λ (l : List ℕ). l ++ more_went) f.gave
            ∙ append_assoc (written (core_trace i seen)) went more_went;
        alone = λ j other. ap (λ (l : List Seen). core_trace j l) same ∙ s.alone j other ∙ f.alone j other;
      };
}

pub quiet_then : (i : ℕ) (a b c : HubState) → Moves i a [] [] b → Moves i b [] [] c → Moves i a [] [] c
quiet_then i a b c first second = moves_then i a b c [] [] [] [] first second
