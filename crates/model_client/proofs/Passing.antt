-- Bytes that come, the end of the input, and bodies that are dropped.
use Rattle.std.proofs.Common.{◌≡◌, ℕ, Bool, true, false, ◌&&◌, ◌||◌, not, List, [], ◌∷◌, ◌++◌, Option, Some, None, refl, sym, ap, ◌∙◌, subst, append_assoc}
use Rattle.std.specs.Prelude.{if◌then◌else◌}
use Rattle.std.specs.Option.{option_or}
use Rattle.std.proofs.lemmas.Bool.{false≢true}
use Rattle.model_state.specs.Kept.{Rest, no_rest, raw_rest, fixed_rest, chunks_rest, frames_rest, rest_in, is_nothing}
use Rattle.model_state.specs.Body.{Passed, pass_rest}
use Rattle.model_client.specs.ClientEvent.{ClientEnd, broken_answer}
use Rattle.model_client.specs.ClientKept.{ReadingBody, ClientKept}
use Rattle.model_client.specs.ClientStep.{is_broken, passed_body, passing, body_at_end, dropping}
use Rattle.model_client.specs.ReadOut.{ReadAnswer, ReadOut}
use Rattle.model_client.proofs.Told.{told, IsSound, IsMore, behind_of, passing_leaves, rest_in_told, rest_in_sound}
use Rattle.model_client.proofs.Holds.{waiting_methods, IsLeft, giving_dropped, IsInside, IsBusy, IsBody, IsOpen, IsState, Holds, newest_final, body_over}

module _ (bytes : List ℕ) (e : Bool) (size : ℕ) (methods : List (List ℕ)) where
  abbrev StateBy : Option ClientEnd → List ℕ → List ReadAnswer → List ℕ → List (List ℕ) → Option ReadingBody → Type 0
  StateBy f more outs text waits reading = IsState bytes e size methods f more outs text waits reading

  -- the state of what is kept
  abbrev pub StateOf : ReadOut → ClientKept → List ℕ → List (List ℕ) → Type 0
  StateOf out k more extra = StateBy k.failed more out.answers (k.unread ++ more) (waiting_methods k.waiting ++ extra) k.reading

  -- ---- passing

  abbrev is_over : Rest → Bool → Bool
  is_over rest ended = is_nothing rest || is_broken rest || ended

  abbrev is_fault : Rest → Bool → Bool
  is_fault rest ended = is_broken rest || (ended && not (is_nothing rest))

  abbrev faulty : Bool → Option ClientEnd
  faulty t = if t then Some broken_answer else None

  module _ (h : ReadAnswer) (before : List ReadAnswer) (text : List ℕ) (more : List ℕ) (waits : List (List ℕ)) (body : ReadingBody) (p : Passed)
      (x : IsInside bytes e size methods h before text waits body) (dropped : body.was_dropped ≡ true)
      (same : behind_of (told e p.rest (p.unread ++ more)).stop ≡ behind_of (told e body.rest text).stop) (sound : IsSound p.rest) where
    left : IsLeft true bytes x.message.body h.items (told e body.rest text)
    left = subst (λ (d : Bool). IsLeft d bytes x.message.body h.items (told e body.rest text)) dropped x.left

    -- it has ended in front of what is left
    over_now : p.rest ≡ no_rest → (done : Bool) → done ≡ true → IsBody bytes e size methods done (h ∷ before) (p.unread ++ more) waits (record body { rest = p.rest; is_done = done })
    over_now none done is =
        subst (λ (d : Bool). IsBody bytes e size methods d (h ∷ before) (p.unread ++ more) waits (record body { rest = p.rest; is_done = d })) (sym is)
        (body_over bytes e size methods h before text (p.unread ++ more) waits body h.items x left.0
        (left.1 (p.unread ++ more) (sym same ∙ ap (λ (r : Rest). behind_of (told e r (p.unread ++ more)).stop) none)))

    -- it goes on
    goes_on : (done : Bool) → done ≡ false → IsBody bytes e size methods done (h ∷ before) (p.unread ++ more) waits (record body { rest = p.rest; is_done = done })
    goes_on done is =
        subst (λ (d : Bool). IsBody bytes e size methods d (h ∷ before) (p.unread ++ more) waits (record body { rest = p.rest; is_done = d })) (sym is)
        (record {
          start = x.start;
          method = x.method;
          leads = x.leads;
          message = x.message;
          at = x.at;
          final = x.final;
          reading = x.reading;
          sound = sound;
          left = subst (λ (d : Bool). IsLeft d bytes x.message.body h.items (told e p.rest (p.unread ++ more))) (sym dropped)
              (left.0, λ behind is. left.1 behind (sym same ∙ is));
        })

    pub passed_state : (ended : Bool)
        → StateBy (option_or None (faulty (is_fault p.rest ended))) more (h ∷ before) (p.unread ++ more) waits (Some (record body { rest = p.rest; is_done = is_over p.rest ended }))
    passed_state ended = by_fault (is_fault p.rest ended) refl
      where
        nothing_or : (rest : Rest) (ended : Bool) → is_fault rest ended ≡ false → (t : Bool) → is_over rest ended ≡ t
            → (t ≡ true → rest ≡ no_rest)
        nothing_or no_rest ended calm t is over = refl
        nothing_or raw_rest false calm t is over = absurd (false≢true (is ∙ over))
        nothing_or raw_rest true calm t is over = absurd (false≢true (sym calm))
        nothing_or (fixed_rest n) false calm t is over = absurd (false≢true (is ∙ over))
        nothing_or (fixed_rest n) true calm t is over = absurd (false≢true (sym calm))
        nothing_or (frames_rest under_way limit) false calm t is over = absurd (false≢true (is ∙ over))
        nothing_or (frames_rest under_way limit) true calm t is over = absurd (false≢true (sym calm))
        nothing_or (chunks_rest place section) ended calm t is over = by_broken (is_broken (chunks_rest place section)) ended calm (is ∙ over)
          where
            by_broken : (b ended : Bool) → (b || (ended && true)) ≡ false → (b || ended) ≡ true → chunks_rest place section ≡ no_rest
            by_broken true ended calm over = absurd (false≢true (sym calm))
            by_broken false true calm over = absurd (false≢true (sym calm))
            by_broken false false calm over = absurd (false≢true over)

        by_over : (done : Bool) → is_over p.rest ended ≡ done → is_fault p.rest ended ≡ false
            → IsBody bytes e size methods (is_over p.rest ended) (h ∷ before) (p.unread ++ more) waits (record body { rest = p.rest; is_done = is_over p.rest ended })
        by_over true is calm = over_now (nothing_or p.rest ended calm (is_over p.rest ended) refl is) (is_over p.rest ended) is
        by_over false is calm = goes_on (is_over p.rest ended) is

        by_fault : (t : Bool) → is_fault p.rest ended ≡ t
            → StateBy (option_or None (faulty (is_fault p.rest ended))) more (h ∷ before) (p.unread ++ more) waits (Some (record body { rest = p.rest; is_done = is_over p.rest ended }))
        by_fault true is =
            subst (λ (t : Bool). StateBy (option_or None (faulty t)) more (h ∷ before) (p.unread ++ more) waits (Some (record body { rest = p.rest; is_done = is_over p.rest ended })))
            (sym is) (λ none. newest_final bytes e size methods h before x.start x.method waits x.message x.leads x.at x.reading left.0)
        by_fault false is =
            subst (λ (t : Bool). StateBy (option_or None (faulty t)) more (h ∷ before) (p.unread ++ more) waits (Some (record body { rest = p.rest; is_done = is_over p.rest ended })))
            (sym is) (by_over (is_over p.rest ended) refl is)

  -- a body that is dropped is passed
  pass_busy : (outs : List ReadAnswer) (k : ClientKept) (more : List ℕ) (waits : List (List ℕ)) (body : ReadingBody) → k.failed ≡ None
      → body.was_dropped ≡ true → IsMore k.has_ended more e → IsBusy bytes e size methods outs (k.unread ++ more) waits body
      → let p : Passed = pass_rest k.has_ended body.rest k.unread in
      StateBy (option_or k.failed (faulty (is_fault p.rest k.has_ended))) more outs (p.unread ++ more) waits (Some (record body { rest = p.rest; is_done = is_over p.rest k.has_ended }))
  pass_busy [] k more waits body fine dropped now x = absurd x
  pass_busy (h ∷ before) k more waits body fine dropped now x =
      let p : Passed = pass_rest k.has_ended body.rest k.unread in
      let passes = passing_leaves k.has_ended body.rest k.unread more e now x.sound in
      subst (λ (f : Option ClientEnd). StateBy (option_or f (faulty (is_fault p.rest k.has_ended))) more (h ∷ before) (p.unread ++ more) waits (Some (record body { rest = p.rest; is_done = is_over p.rest k.has_ended })))
      (sym fine) (passed_state h before (k.unread ++ more) more waits body p x dropped passes.0 passes.1 k.has_ended)

  -- after a fault it stays so
  failed_state : (out : ReadOut) (k : ClientKept) (more : List ℕ) (extra : List (List ℕ)) (end : ClientEnd) (reading : Option ReadingBody) → k.failed ≡ Some end
      → StateOf out k more extra → StateOf out (passing reading k) more extra
  failed_state out k more extra end None is x = x
  failed_state out k more extra end (Some body) is x = by_test (body.was_dropped && not body.is_done)
    where
      p : Passed
      p = pass_rest k.has_ended body.rest k.unread

      stays : (f : Option ClientEnd) (t : Bool) (text text' : List ℕ) (reading reading' : Option ReadingBody) → f ≡ Some end
          → StateBy f more out.answers text (waiting_methods k.waiting ++ extra) reading
          → StateBy (option_or f (faulty t)) more out.answers text' (waiting_methods k.waiting ++ extra) reading'
      stays None t text text' reading reading' is x = absurd (cc is)
      stays (Some end') t text text' reading reading' is x = x

      by_test : (t : Bool) → StateOf out (if t then passed_body k.has_ended body k p else k) more extra
      by_test true = stays k.failed (is_fault p.rest k.has_ended) (k.unread ++ more) (p.unread ++ more) k.reading (Some (record body { rest = p.rest; is_done = is_over p.rest k.has_ended })) is x
      by_test false = x

  open_passes : (out : ReadOut) (k : ClientKept) (more : List ℕ) (extra : List (List ℕ)) (reading : Option ReadingBody) → k.reading ≡ reading → k.failed ≡ None
      → IsMore k.has_ended more e → StateOf out k more extra → StateOf out (passing reading k) more extra
  open_passes out k more extra None is fine now x = x
  open_passes out k more extra (Some body) is fine now x = by_tests body.was_dropped body.is_done refl refl
    where
      p : Passed
      p = pass_rest k.has_ended body.rest k.unread

      waits : List (List ℕ)
      waits = waiting_methods k.waiting ++ extra

      by_tests : (dropped done : Bool) → body.was_dropped ≡ dropped → body.is_done ≡ done
          → StateOf out (if dropped && not done then passed_body k.has_ended body k p else k) more extra
      by_tests false done was is_done = x
      by_tests true true was is_done = x
      by_tests true false was is_done =
          let state = subst (λ (f : Option ClientEnd). StateBy f more out.answers (k.unread ++ more) waits k.reading) fine x in
          let open_now = subst (IsOpen bytes e size methods out.answers (k.unread ++ more) waits) is state in
          pass_busy out.answers k more waits body fine was now (subst (λ (d : Bool). IsBody bytes e size methods d out.answers (k.unread ++ more) waits body) is_done open_now)

  ended_passes : (k : ClientKept) (reading : Option ReadingBody) → (passing reading k).has_ended ≡ k.has_ended
  ended_passes k None = refl
  ended_passes k (Some body) = by_test (body.was_dropped && not body.is_done)
    where
      by_test : (t : Bool) → (if t then passed_body k.has_ended body k (pass_rest k.has_ended body.rest k.unread) else k).has_ended ≡ k.has_ended
      by_test true = refl
      by_test false = refl

  pub passing_holds : (out : ReadOut) (k : ClientKept) (more : List ℕ) (extra : List (List ℕ)) → Holds bytes e size methods out k more extra
      → Holds bytes e size methods out (passing k.reading k) more extra
  passing_holds out k more extra old now =
      let was = subst (λ (t : Bool). IsMore t more e) (ended_passes k k.reading) now in
      let x = old was in
      (x.0, by_failed k.failed refl was x.1)
    where
      by_failed : (f : Option ClientEnd) → k.failed ≡ f → IsMore k.has_ended more e → StateOf out k more extra → StateOf out (passing k.reading k) more extra
      by_failed None is was x = open_passes out k more extra k.reading refl is was x
      by_failed (Some end) is was x = failed_state out k more extra end k.reading is x

  -- ---- bytes that come

  pub more_holds : (out : ReadOut) (k : ClientKept) (taken more : List ℕ) (extra : List (List ℕ)) → k.has_ended ≡ false
      → Holds bytes e size methods out k (taken ++ more) extra → k.failed ≡ None → Holds bytes e size methods out (record k { unread = k.unread ++ taken }) more extra
  more_holds out k taken more extra open_yet old fine now =
      let x = old (subst (λ (t : Bool). IsMore t (taken ++ more) e) (sym open_yet) tt) in
      let state = subst (λ (f : Option ClientEnd). StateBy f (taken ++ more) out.answers (k.unread ++ (taken ++ more)) (waiting_methods k.waiting ++ extra) k.reading) fine x.1 in (
        x.0,
        subst (λ (f : Option ClientEnd). StateBy f more out.answers ((k.unread ++ taken) ++ more) (waiting_methods k.waiting ++ extra) k.reading) (sym fine)
            (subst (λ (l : List ℕ). IsOpen bytes e size methods out.answers l (waiting_methods k.waiting ++ extra) k.reading) (sym (append_assoc k.unread taken more)) state),
      )

  -- ---- the end of the input

  end_busy : (outs : List ReadAnswer) (unread more : List ℕ) (waits : List (List ℕ)) (body : ReadingBody) → IsMore true more e
      → IsBusy bytes e size methods outs (unread ++ more) waits body
      → IsBusy bytes e size methods outs (unread ++ more) waits (record body { rest = rest_in true unread body.rest })
  end_busy [] unread more waits body now x = absurd x
  end_busy (h ∷ before) unread more waits body now x = record {
    start = x.start;
    method = x.method;
    leads = x.leads;
    message = x.message;
    at = x.at;
    final = x.final;
    reading = x.reading;
    sound = rest_in_sound true unread body.rest x.sound;
    left = subst (IsLeft body.was_dropped bytes x.message.body h.items) (sym (rest_in_told true unread more body.rest e now)) x.left;
  }

  end_body : (done : Bool) (outs : List ReadAnswer) (unread more : List ℕ) (waits : List (List ℕ)) (body : ReadingBody) → IsMore true more e
      → IsBody bytes e size methods done outs (unread ++ more) waits body
      → IsBody bytes e size methods done outs (unread ++ more) waits (record body { rest = rest_in true unread body.rest })
  end_body true outs unread more waits body now x = x
  end_body false outs unread more waits body now x = end_busy outs unread more waits body now x

  end_open : (outs : List ReadAnswer) (unread more : List ℕ) (waits : List (List ℕ)) (reading : Option ReadingBody) → IsMore true more e
      → IsOpen bytes e size methods outs (unread ++ more) waits reading → IsOpen bytes e size methods outs (unread ++ more) waits (body_at_end unread reading)
  end_open outs unread more waits None now x = x
  end_open outs unread more waits (Some body) now x = end_body body.is_done outs unread more waits body now x

  pub end_holds : (out : ReadOut) (k : ClientKept) (more : List ℕ) (extra : List (List ℕ)) → k.has_ended ≡ false → Holds bytes e size methods out k more extra
      → Holds bytes e size methods out (record k { has_ended = true; reading = body_at_end k.unread k.reading }) more extra
  end_holds out k more extra open_yet old now =
      let x = old (subst (λ (t : Bool). IsMore t more e) (sym open_yet) tt) in
      (x.0, by_failed k.failed x.1)
    where
      by_failed : (f : Option ClientEnd) → StateBy f more out.answers (k.unread ++ more) (waiting_methods k.waiting ++ extra) k.reading
          → StateBy f more out.answers (k.unread ++ more) (waiting_methods k.waiting ++ extra) (body_at_end k.unread k.reading)
      by_failed None x = end_open out.answers k.unread more (waiting_methods k.waiting ++ extra) k.reading now x
      by_failed (Some end) x = x

  -- ---- a body that is dropped

  drop_busy : (outs : List ReadAnswer) (text : List ℕ) (waits : List (List ℕ)) (body : ReadingBody) → IsBusy bytes e size methods outs text waits body
      → IsBusy bytes e size methods outs text waits (record body { was_dropped = true })
  drop_busy [] text waits body x = absurd x
  drop_busy (h ∷ before) text waits body x = record {
    start = x.start;
    method = x.method;
    leads = x.leads;
    message = x.message;
    at = x.at;
    final = x.final;
    reading = x.reading;
    sound = x.sound;
    left = giving_dropped body.was_dropped bytes x.message.body h.items (told e body.rest text) x.left;
  }

  drop_body : (done : Bool) (outs : List ReadAnswer) (text : List ℕ) (waits : List (List ℕ)) (body : ReadingBody) → IsBody bytes e size methods done outs text waits body
      → IsBody bytes e size methods done outs text waits (record body { was_dropped = true })
  drop_body true outs text waits body x = x
  drop_body false outs text waits body x = drop_busy outs text waits body x

  pub drop_holds : (out : ReadOut) (k : ClientKept) (more : List ℕ) (extra : List (List ℕ)) (reading : Option ReadingBody) → k.reading ≡ reading
      → Holds bytes e size methods out k more extra → Holds bytes e size methods out (dropping reading k) more extra
  drop_holds out k more extra None is old = old
  drop_holds out k more extra (Some body) is old =
      let dropped : ReadingBody = record body { was_dropped = true } in
      passing_holds out (record k { reading = Some dropped }) more extra
      (λ now. let x = old now in
      (x.0, by_failed k.failed (subst (StateBy k.failed more out.answers (k.unread ++ more) (waiting_methods k.waiting ++ extra)) is x.1)))
    where
      by_failed : (f : Option ClientEnd) → StateBy f more out.answers (k.unread ++ more) (waiting_methods k.waiting ++ extra) (Some body)
          → StateBy f more out.answers (k.unread ++ more) (waiting_methods k.waiting ++ extra) (Some (record body { was_dropped = true }))
      by_failed None x = drop_body body.is_done out.answers (k.unread ++ more) (waiting_methods k.waiting ++ extra) body x
      by_failed (Some end) x = x
