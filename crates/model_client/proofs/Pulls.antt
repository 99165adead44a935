-- What a pull hands out of an answer's body is that body's.
use Rattle.std.proofs.Common.{◌≡◌, ℕ, ◌<◌, Bool, true, false, List, [], ◌∷◌, ◌++◌, length, map, Option, Some, None, refl, sym, ap, ◌∙◌, subst, append-nil, append_assoc, arith, length-append}
use Rattle.std.specs.List.{AllByRecursion}
use Rattle.std.specs.Option.{option_or}
use Rattle.std.proofs.lemmas.List.{map-append}
use Rattle.model_h1.specs.ChunkedText.{Trailer, IsTrailer, section_text}
use Rattle.model_h1.proofs.Trailers.{section_tells}
use Rattle.model_h1.specs.Event.{Outcome, BodyFault, corrupted, incomplete}
use Rattle.model_h1.specs.Event as server
use Rattle.model_h1.specs.Parse.{Body, trailer_header}
use Rattle.model_h1.specs.Handed.{Item, item_bytes, item_trailers, item_end, item_fault, trailer_items, Begins, last_items, AreItemsOf}
use Rattle.model_h1.proofs.HandedItems.{joined}
use Rattle.model_state.specs.Kept.{Rest}
use Rattle.model_state.specs.Pull.{Pulled, IsPull}
use Rattle.model_client.specs.ClientEvent.{ClientEnd, broken_answer}
use Rattle.model_client.specs.ClientKept.{ReadingBody, ClientKept}
use Rattle.model_client.specs.ClientStep.{outcome_of, end_of, pulled_from}
use Rattle.model_client.specs.ReadOut.{ReadAnswer, ReadOut, reading_out}
use Rattle.model_client.proofs.Told.{stops_before, Told, with_front, told, IsSound, IsMore, fault_stop, Gives, some_bytes, nothing_yet, its_trailers, its_end, its_fault, pull_gives}
use Rattle.model_client.proofs.Bodies.{Stands, StopsSo}
use Rattle.model_client.proofs.Holds.{waiting_methods, IsGiving, last_item, IsLeft, IsInside, IsBusy, IsBody, IsOpen, IsState, Holds, newest_final, body_over}

-- ---- items

some_more : (pieces : List (List ℕ)) (given : List ℕ) → AllByRecursion (λ (piece : List ℕ). 0 < length piece) pieces → 0 < length given
    → AllByRecursion (λ (piece : List ℕ). 0 < length piece) (pieces ++ given ∷ [])
some_more [] given all some = (some, tt)
some_more (p ∷ pieces) given all some = (all.0, some_more pieces given all.1 some)

joined_more : (pieces : List (List ℕ)) (given : List ℕ) → joined (pieces ++ given ∷ []) ≡ joined pieces ++ given
joined_more [] given = append-nil given
joined_more (p ∷ pieces) given = ap (λ (l : List ℕ). p ++ l) (joined_more pieces given) ∙ sym (append_assoc p (joined pieces) given)

none_of : (last : List Item) → (0 < length last → ⊥) → last ≡ []
none_of [] none = refl
none_of (i ∷ is) none = absurd (none (omega arith))

module _ (bytes : List ℕ) (body : Body) (items : List Item) (t : Told) (x : IsGiving bytes body items t) where
  -- a piece
  pub piece_given : (given : List ℕ) (t' : Told) → 0 < length given → t ≡ with_front given t' → IsGiving bytes body (items ++ item_bytes given ∷ []) t'
  piece_given given t' some is =
      let front : t.body ≡ given ++ t'.body = ap (λ (t : Told). t.body) is in
      let none : x.last ≡ [] = none_of x.last (λ has. omega (arith, some, ap length (sym (x.over has) ∙ front), length-append given t'.body)) in
      let pieces = x.pieces ++ given ∷ [] in
      record {
        pieces = pieces;
        last = [];
        are = ap (λ (l : List Item). l ++ item_bytes given ∷ []) (x.are ∙ ap (λ (l : List Item). map item_bytes x.pieces ++ l) none ∙ append-nil (map item_bytes x.pieces))
            ∙ sym (map-append item_bytes x.pieces (given ∷ [])) ∙ sym (append-nil (map item_bytes pieces));
        some = some_more x.pieces given x.some some;
        all = x.all ∙ ap (λ (l : List ℕ). joined x.pieces ++ l) front ∙ sym (append_assoc (joined x.pieces) given t'.body)
            ∙ ap (λ (l : List ℕ). l ++ t'.body) (sym (joined_more x.pieces given));
        over = λ has. absurd (omega (arith, has));
        stops = subst (λ (l : List Item). StopsSo bytes body l t'.stop) none (subst (StopsSo bytes body x.last) (ap (λ (t : Told). t.stop) is) x.stops);
      }

  -- how it ends
  ending : (text behind : List ℕ) → t ≡ record { body = []; stop = stops_before text behind } → StopsSo bytes body x.last (stops_before text behind)
  ending text behind is = subst (StopsSo bytes body x.last) (ap (λ (t : Told). t.stop) is) x.stops

  -- its trailers
  pub trailers_given : (line : Trailer) (lines : List Trailer) (behind : List ℕ) → AllByRecursion IsTrailer (line ∷ lines)
      → t ≡ record { body = []; stop = stops_before (section_text (line ∷ lines)) behind }
      → IsGiving bytes body (items ++ item_trailers (map trailer_header (line ∷ lines)) ∷ []) (record { body = []; stop = stops_before [] behind })
  trailers_given line lines behind each is =
      let stops = ending (section_text (line ∷ lines)) behind is in
      let same : stops.0 ≡ line ∷ lines = section_tells stops.0 (line ∷ lines) stops.1 each stops.2 in
      let item = item_trailers (map trailer_header (line ∷ lines)) in
      let last : last_items body ≡ x.last ++ (item ∷ item_end ∷ []) =
      stops.3 ∙ ap (λ (l : List Trailer). x.last ++ (trailer_items (map trailer_header l) ++ item_end ∷ [])) same in
      record {
        pieces = x.pieces;
        last = x.last ++ item ∷ [];
        are = ap (λ (l : List Item). l ++ item ∷ []) x.are ∙ append_assoc (map item_bytes x.pieces) x.last (item ∷ []);
        some = x.some;
        all = x.all ∙ ap (λ (t : Told). joined x.pieces ++ t.body) is;
        over = λ has. refl;
        stops = ([], tt, refl, last ∙ sym (append_assoc x.last (item ∷ []) (item_end ∷ [])), stops.4);
      }

  -- its end
  pub end_given : (behind : List ℕ) → t ≡ record { body = []; stop = stops_before [] behind }
      → AreItemsOf bytes body (items ++ item_end ∷ []) × Stands bytes body behind
  end_given behind is =
      let stops = ending [] behind is in
      let none : stops.0 ≡ [] = section_tells stops.0 [] stops.1 tt stops.2 in
      let last : last_items body ≡ x.last ++ item_end ∷ [] =
      stops.3 ∙ ap (λ (l : List Trailer). x.last ++ (trailer_items (map trailer_header l) ++ item_end ∷ [])) none in
      (last_item bytes body items t x item_end (ap (λ (t : Told). t.body) is) ([], last ∙ sym (append-nil (x.last ++ item_end ∷ []))), stops.4)

  -- its fault
  pub fault_given : (f : BodyFault) → t ≡ record { body = []; stop = fault_stop f } → AreItemsOf bytes body (items ++ item_fault f ∷ [])
  fault_given f is =
      last_item bytes body items t x (item_fault f) (ap (λ (t : Told). t.body) is)
      (by_fault f (subst (StopsSo bytes body x.last) (ap (λ (t : Told). t.stop) is) x.stops))
    where
      by_fault : (f : BodyFault) → StopsSo bytes body x.last (fault_stop f) → Begins (x.last ++ item_fault f ∷ []) (last_items body)
      by_fault corrupted stops = ([], stops ∙ sym (append-nil (x.last ++ item_fault corrupted ∷ [])))
      by_fault incomplete stops = ([], stops ∙ sym (append-nil (x.last ++ item_fault incomplete ∷ [])))

-- ---- what is kept

module _ (bytes : List ℕ) (e : Bool) (size : ℕ) (methods : List (List ℕ)) where
  abbrev StateBy : Option ClientEnd → List ℕ → List ReadAnswer → List ℕ → List (List ℕ) → Option ReadingBody → Type 0
  StateBy f more outs text waits reading = IsState bytes e size methods f more outs text waits reading

  module _ (stray : List Item) (h : ReadAnswer) (before : List ReadAnswer) (k : ClientKept) (more : List ℕ) (waits : List (List ℕ)) (body : ReadingBody)
      (clean : stray ≡ []) (fine : k.failed ≡ None) (kept : body.was_dropped ≡ false)
      (x : IsInside bytes e size methods h before (k.unread ++ more) waits body) (p : Pulled) where
    abbrev t : Told
    t = told e body.rest (k.unread ++ more)

    giving : IsGiving bytes x.message.body h.items t
    giving = subst (λ (d : Bool). IsLeft d bytes x.message.body h.items t) kept x.left

    -- what was handed out with this outcome, and what is kept
    abbrev AfterPull : Outcome → Bool → Type 0
    AfterPull o done =
        let out : ReadOut = reading_out (outcome_of o) (record { stray = stray; answers = h ∷ before }) in
        (out.stray ≡ []) × StateBy (option_or k.failed (end_of o)) more out.answers (p.unread ++ more) waits (Some (record body { rest = p.rest; is_done = done }))

    -- it is read on
    inside : (items : List Item) → IsSound p.rest → IsGiving bytes x.message.body items (told e p.rest (p.unread ++ more))
        → IsInside bytes e size methods (record h { items = items }) before (p.unread ++ more) waits (record body { rest = p.rest; is_done = false })
    inside items sound giving = record {
      start = x.start;
      method = x.method;
      leads = x.leads;
      message = x.message;
      at = x.at;
      final = x.final;
      reading = x.reading;
      sound = sound;
      left = subst (λ (d : Bool). IsLeft d bytes x.message.body items (told e p.rest (p.unread ++ more))) (sym kept) giving;
    }

    open_on : (items : List Item) → IsSound p.rest → IsGiving bytes x.message.body items (told e p.rest (p.unread ++ more))
        → StateBy (option_or k.failed None) more (record h { items = items } ∷ before) (p.unread ++ more) waits (Some (record body { rest = p.rest; is_done = false }))
    open_on items sound giving =
        subst (λ (f : Option ClientEnd). StateBy (option_or f None) more (record h { items = items } ∷ before) (p.unread ++ more) waits (Some (record body { rest = p.rest; is_done = false })))
        (sym fine) (inside items sound giving)

    over_now : (items : List Item) → AreItemsOf bytes x.message.body items → Stands bytes x.message.body (p.unread ++ more)
        → StateBy (option_or k.failed None) more (record h { items = items } ∷ before) (p.unread ++ more) waits (Some (record body { rest = p.rest; is_done = true }))
    over_now items are stands =
        subst (λ (f : Option ClientEnd). StateBy (option_or f None) more (record h { items = items } ∷ before) (p.unread ++ more) waits (Some (record body { rest = p.rest; is_done = true })))
        (sym fine) (body_over bytes e size methods h before (k.unread ++ more) (p.unread ++ more) waits body items x are stands)

    failed_now : (items : List Item) (done : Bool) → AreItemsOf bytes x.message.body items
        → StateBy (option_or k.failed (Some broken_answer)) more (record h { items = items } ∷ before) (p.unread ++ more) waits (Some (record body { rest = p.rest; is_done = done }))
    failed_now items done are =
        subst (λ (f : Option ClientEnd). StateBy (option_or f (Some broken_answer)) more (record h { items = items } ∷ before) (p.unread ++ more) waits (Some (record body { rest = p.rest; is_done = done })))
        (sym fine) (λ none. newest_final bytes e size methods (record h { items = items }) before x.start x.method waits x.message x.leads x.at x.reading are)

    named : (o : Outcome) (done : Bool) → p.outcome ≡ o → p.is_done ≡ done → AfterPull o done → AfterPull p.outcome p.is_done
    named o done is was after = subst (λ (o : Outcome). AfterPull o p.is_done) (sym is) (subst (AfterPull o) (sym was) after)

    pub by_gives : Gives e more t p → AfterPull p.outcome p.is_done
    by_gives (some_bytes given is some same sound going) =
        named (server.bytes given) false is going
        (clean, open_on (h.items ++ item_bytes given ∷ []) sound (piece_given bytes x.message.body h.items t giving given (told e p.rest (p.unread ++ more)) some same))
    by_gives (nothing_yet is same sound going) =
        named server.pending false is going (clean, open_on h.items sound (subst (IsGiving bytes x.message.body h.items) same giving))
    by_gives (its_trailers line lines is each same none going) =
        let given = trailers_given bytes x.message.body h.items t giving line lines (p.unread ++ more) each same in
        named (server.trailers (map trailer_header (line ∷ lines))) false is going (
          clean,
          open_on (h.items ++ item_trailers (map trailer_header (line ∷ lines)) ∷ []) (subst IsSound (sym none) tt)
              (subst (λ (r : Rest). IsGiving bytes x.message.body (h.items ++ item_trailers (map trailer_header (line ∷ lines)) ∷ []) (told e r (p.unread ++ more))) (sym none) given),
        )
    by_gives (its_end is same over) =
        let given = end_given bytes x.message.body h.items t giving (p.unread ++ more) same in
        named server.body_ended true is over (clean, over_now (h.items ++ item_end ∷ []) given.0 given.1)
    by_gives (its_fault f is same over) =
        named (server.broken_by f) true is over
        (clean, failed_now (h.items ++ item_fault f ∷ []) true (fault_given bytes x.message.body h.items t giving f same))

  pull_busy : (stray : List Item) (outs : List ReadAnswer) (k : ClientKept) (more : List ℕ) (waits : List (List ℕ)) (body : ReadingBody) → stray ≡ []
      → k.failed ≡ None → body.was_dropped ≡ false → IsMore k.has_ended more e → IsBusy bytes e size methods outs (k.unread ++ more) waits body
      → (p : Pulled) → IsPull k.has_ended body.rest k.unread p
      → let out : ReadOut = reading_out (outcome_of p.outcome) (record { stray = stray; answers = outs }) in
      (out.stray ≡ []) × StateBy (option_or k.failed (end_of p.outcome)) more out.answers (p.unread ++ more) waits (Some (record body { rest = p.rest; is_done = p.is_done }))
  pull_busy stray [] k more waits body clean fine kept now x p pull = absurd x
  pull_busy stray (h ∷ before) k more waits body clean fine kept now x p pull =
      by_gives stray h before k more waits body clean fine kept x p (pull_gives k.has_ended body.rest k.unread more e p now x.sound pull)

  pub pull_holds : (out : ReadOut) (k : ClientKept) (more : List ℕ) (extra : List (List ℕ)) (body : ReadingBody) → k.reading ≡ Some body
      → body.is_done ≡ false → body.was_dropped ≡ false → k.failed ≡ None → (p : Pulled) → IsPull k.has_ended body.rest k.unread p
      → Holds bytes e size methods out k more extra → Holds bytes e size methods (reading_out (outcome_of p.outcome) out) (pulled_from body p k) more extra
  pull_holds out k more extra body is going kept fine p pull old now =
      let waits = waiting_methods k.waiting ++ extra in
      let x = old now in
      let state = subst (λ (f : Option ClientEnd). StateBy f more out.answers (k.unread ++ more) waits k.reading) fine x.1 in
      let busy = subst (λ (d : Bool). IsBody bytes e size methods d out.answers (k.unread ++ more) waits body) going
      (subst (IsOpen bytes e size methods out.answers (k.unread ++ more) waits) is state) in
      pull_busy out.stray out.answers k more waits body x.0 fine kept now busy p pull
