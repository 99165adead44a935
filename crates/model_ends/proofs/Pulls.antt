-- What a pull hands out of an answer's body is what was sent of it.
use Rattle.std.proofs.Common.{◌≡◌, ℕ, ◌<◌, Bool, false, List, [], ◌∷◌, ◌++◌, length, map, Option, Some, None, is_some, refl, sym, ap, ap₂, ◌∙◌, subst, inl, inr, append-nil, append_assoc}
use Rattle.std.specs.List.{AllByRecursion}
use Rattle.std.specs.Option.{option_or}
use Rattle.std.proofs.lemmas.Bool.{false≢true}
use Rattle.model_h1.specs.Event.{Outcome, incomplete}
use Rattle.model_h1.specs.Event as server
use Rattle.model_h1.specs.Handed.{Item, item_bytes, item_end, item_fault}
use Rattle.model_state.specs.Kept.{Rest}
use Rattle.model_state.specs.Pull.{Pulled, IsPull}
use Rattle.model_client.specs.RequestText.{joined}
use Rattle.model_client.specs.ClientEvent.{ClientEnd, broken_answer}
use Rattle.model_client.specs.ClientKept.{Waiting, ReadingBody, ClientKept, is_free_of}
use Rattle.model_client.specs.ClientStep.{outcome_of, end_of, pulled_from}
use Rattle.model_ends.specs.SentAnswer.{SentAnswer, sent_text}
use Rattle.model_client.specs.ReadOut.{ReadAnswer, ReadOut, reading_out}
use Rattle.model_ends.proofs.Rests.{RestSays, Gives, some_bytes, nothing_yet, its_end, cut_off, pull_gives}
use Rattle.model_ends.proofs.Holds.{faulty_some, IsGiving, IsBusyWith, IsBusy, Holds}

-- one more piece
pub joined_more : (pieces : List (List ℕ)) (given : List ℕ) → joined (pieces ++ given ∷ []) ≡ joined pieces ++ given
joined_more [] given = append-nil given
joined_more (p ∷ pieces) given = ap (λ (l : List ℕ). p ++ l) (joined_more pieces given) ∙ sym (append_assoc p (joined pieces) given)

pub some_more : (pieces : List (List ℕ)) (given : List ℕ) → AllByRecursion (λ (piece : List ℕ). 0 < length piece) pieces → 0 < length given
    → AllByRecursion (λ (piece : List ℕ). 0 < length piece) (pieces ++ given ∷ [])
some_more [] given all some = (some, tt)
some_more (p ∷ pieces) given all some = (all.0, some_more pieces given all.1 some)

pub items_more : (pieces : List (List ℕ)) (given : List ℕ) → map item_bytes pieces ++ item_bytes given ∷ [] ≡ map item_bytes (pieces ++ given ∷ [])
items_more [] given = refl
items_more (p ∷ pieces) given = ap (λ (l : List Item). item_bytes p ∷ l) (items_more pieces given)

module _ (size : ℕ) (ss : List SentAnswer) where
  -- the same of all that was handed out, for some answers that are done and some that are to come
  abbrev pub HoldsFor : ReadOut → ClientKept → List ℕ → List Waiting → Type 0
  HoldsFor out k future asked = (done : List SentAnswer) × (rest : List SentAnswer) × Holds size ss out.stray out.answers done rest k future asked

  abbrev kept_with : ReadingBody → ClientKept → Outcome → Rest → List ℕ → Bool → ClientKept
  kept_with body k o rest unread is_done =
      record k { unread = unread; reading = Some (record body { rest = rest; is_done = is_done }); failed = option_or k.failed (end_of o) }

  module _ (stray : List Item) (outs : List ReadAnswer) (ds rest : List SentAnswer) (k : ClientKept) (future : List ℕ) (asked : List Waiting) (a : ReadAnswer)
      (s : SentAnswer) (body : ReadingBody) (fine : k.failed ≡ None) (kept : body.was_dropped ≡ false)
      (h : Holds size ss stray (a ∷ outs) (s ∷ ds) rest k future asked) (b : IsBusyWith k future asked rest a s) (same : b.body ≡ body) (p : Pulled) where
    abbrev out : ReadOut
    out = record { stray = stray; answers = a ∷ outs }

    giving : IsGiving false a.items b.left s.bytes
    giving = subst (λ (t : Bool). IsGiving t a.items b.left s.bytes) (ap (λ (x : ReadingBody). x.was_dropped) same ∙ kept) b.giving

    not_failed : (o : Outcome) → end_of o ≡ None → option_or k.failed (end_of o) ≡ None
    not_failed o none = ap₂ (λ (f e : Option ClientEnd). option_or f e) fine none

    by_gives : Gives k.has_ended future b.left s.is_whole (sent_text rest) p
        → HoldsFor (reading_out (outcome_of p.outcome) out) (kept_with body k p.outcome p.rest p.unread p.is_done) future asked
    by_gives (some_bytes given left' is some left says going) =
        let g = giving in
        let pieces = g.0 ++ given ∷ [] in
        let items : a.items ++ item_bytes given ∷ [] ≡ map item_bytes pieces = ap (λ (l : List Item). l ++ item_bytes given ∷ []) g.1 ∙ items_more g.0 given in
        let all : joined pieces ++ left' ≡ s.bytes =
        ap (λ (l : List ℕ). l ++ left') (joined_more g.0 given) ∙ append_assoc (joined g.0) given left' ∙ ap (λ (l : List ℕ). joined g.0 ++ l) (sym left) ∙ g.3 in
        let each = some_more g.0 given g.2 some in
        subst (λ (o : Outcome). HoldsFor (reading_out (outcome_of o) out) (kept_with body k o p.rest p.unread p.is_done) future asked) (sym is) (
          s ∷ ds,
          rest,
          record {
            none = h.none;
            are = h.are;
            so = (
              record {
                reading = h.so.0.reading;
                body = record { pieces = pieces; last = []; are = items ∙ sym (append-nil (map item_bytes pieces)); some = each; begins = (left', sym all); stops = tt };
              },
              h.so.1,
            );
            sent = h.sent;
            held = h.held;
            state = inr (
              not_failed (server.bytes given) refl,
              inr (record {
                body = record body { rest = p.rest; is_done = p.is_done };
                is = refl;
                goes_on = going;
                left = left';
                says = says;
                giving = subst (λ (t : Bool). IsGiving t (a.items ++ item_bytes given ∷ []) left' s.bytes) (sym kept) (pieces, items, each, all);
                to = b.to;
              }),
            );
          },
        )
    by_gives (nothing_yet is says going) =
        let g = giving in
        subst (λ (o : Outcome). HoldsFor (reading_out (outcome_of o) out) (kept_with body k o p.rest p.unread p.is_done) future asked) (sym is) (
          s ∷ ds,
          rest,
          record {
            none = h.none;
            are = h.are;
            so = h.so;
            sent = h.sent;
            held = h.held;
            state = inr (
              not_failed server.pending refl,
              inr (record {
                body = record body { rest = p.rest; is_done = p.is_done };
                is = refl;
                goes_on = going;
                left = b.left;
                says = says;
                giving = subst (λ (t : Bool). IsGiving t a.items b.left s.bytes) (sym kept) g;
                to = b.to;
              }),
            );
          },
        )
    by_gives (its_end is none whole behind over) =
        let g = giving in
        let all : joined g.0 ≡ s.bytes = sym (append-nil (joined g.0)) ∙ ap (λ (l : List ℕ). joined g.0 ++ l) (sym none) ∙ g.3 in
        subst (λ (o : Outcome). HoldsFor (reading_out (outcome_of o) out) (kept_with body k o p.rest p.unread p.is_done) future asked) (sym is) (
          s ∷ ds,
          rest,
          record {
            none = h.none;
            are = h.are;
            so = (
              record {
                reading = h.so.0.reading;
                body = record {
                  pieces = g.0;
                  last = item_end ∷ [];
                  are = ap (λ (l : List Item). l ++ item_end ∷ []) g.1;
                  some = g.2;
                  begins = ([], sym all ∙ sym (append-nil (joined g.0)));
                  stops = (whole, all);
                };
              },
              h.so.1,
            );
            sent = h.sent;
            held = h.held;
            state = inr (not_failed server.body_ended refl, inl (record { free = over; text = behind; to = b.to }));
          },
        )
    by_gives (cut_off is ended over) =
        let g = giving in
        subst (λ (o : Outcome). HoldsFor (reading_out (outcome_of o) out) (kept_with body k o p.rest p.unread p.is_done) future asked) (sym is) (
          s ∷ ds,
          rest,
          record {
            none = h.none;
            are = h.are;
            so = (
              record {
                reading = h.so.0.reading;
                body = record {
                  pieces = g.0;
                  last = item_fault incomplete ∷ [];
                  are = ap (λ (l : List Item). l ++ item_fault incomplete ∷ []) g.1;
                  some = g.2;
                  begins = (b.left, sym g.3);
                  stops = ended;
                };
              },
              h.so.1,
            );
            sent = h.sent;
            held = h.held;
            state = inl (inr (ap (λ (f : Option ClientEnd). option_or f (Some broken_answer)) fine, ended));
          },
        )

  -- a pull of the body that is being read
  pull_busy : (stray : List Item) (outs : List ReadAnswer) (ds rest : List SentAnswer) (k : ClientKept) (future : List ℕ) (asked : List Waiting)
      (body : ReadingBody) → k.reading ≡ Some body → body.was_dropped ≡ false → k.failed ≡ None → (p : Pulled) → IsPull k.has_ended body.rest k.unread p
      → Holds size ss stray outs ds rest k future asked → IsBusy k future asked rest outs ds
      → HoldsFor (reading_out (outcome_of p.outcome) (record { stray = stray; answers = outs })) (pulled_from body p k) future asked
  pull_busy stray [] ds rest k future asked body is kept fine p pull h b = absurd b
  pull_busy stray (a ∷ outs) [] rest k future asked body is kept fine p pull h b = absurd b
  pull_busy stray (a ∷ outs) (s ∷ ds) rest k future asked body is kept fine p pull h b =
      let named : ◌≡◌ {A = Option ReadingBody} (Some b.body) (Some body) = sym b.is ∙ is in
      let same : b.body ≡ body = cc named in
      let says = subst (λ (x : ReadingBody). RestSays x.rest (k.unread ++ future) b.left s.is_whole (sent_text rest)) same b.says in
      by_gives stray outs ds rest k future asked a s body fine kept h b same p
      (pull_gives k.has_ended body.rest k.unread future b.left s.is_whole (sent_text rest) p says pull)

  pub pull_holds : (stray : List Item) (outs : List ReadAnswer) (ds rest : List SentAnswer) (k : ClientKept) (future : List ℕ) (asked : List Waiting)
      (body : ReadingBody) → k.reading ≡ Some body → body.was_dropped ≡ false → body.is_done ≡ false → k.failed ≡ None → (p : Pulled)
      → IsPull k.has_ended body.rest k.unread p → Holds size ss stray outs ds rest k future asked
      → HoldsFor (reading_out (outcome_of p.outcome) (record { stray = stray; answers = outs })) (pulled_from body p k) future asked
  pull_holds stray outs ds rest k future asked body is kept going fine p pull h = elim h.state [
    | inl failed ↦ absurd (false≢true (sym (ap is_some fine) ∙ faulty_some k.failed k.has_ended failed))
    | inr (_, x) ↦ elim x [
      | inl f ↦ absurd (false≢true (sym going ∙ ap is_free_of (sym is) ∙ f.free))
      | inr b ↦ pull_busy stray outs ds rest k future asked body is kept fine p pull h b
    ]
  ]
