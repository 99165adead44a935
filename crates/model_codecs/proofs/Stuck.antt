-- Where a codec gives nothing any more: behind a body that is broken, and before a head that is refused.
use Rattle.std.proofs.Common.{◌≡◌, ◌⊎◌, inl, inr, ℕ, ◌<◌, ◌≤◌, eqb, Bool, true, false, List, [], ◌∷◌, ◌++◌, length, drop, slice_range, refl, sym, ap, ◌∙◌, subst, arith, append-nil, append_assoc, length-append}
use Rattle.std.proofs.lemmas.Bool.{cond_both, cases_lt, eq-eqb, false≢true}
use Rattle.std.proofs.lemmas.List.{take-append-le, drop-append-le}
use Rattle.std.specs.Prelude.{⊤, Option, Some, None, Result, Ok, Err, IfErr}
use Rattle.http_types.specs.declared.error.ParseError.{ParseError}
use Rattle.http_types.specs.declared.error.ParseError.TheVariants as errors
use Rattle.http_types.specs.declared.error.ParseError.TheVariants.{NoMemory}
use Rattle.model_h1.specs.HeadPiece.{IsHeadPiece, HasNoHeadPiece}
use Rattle.model_h1.specs.Request.{BodyKind, no_body, fixed_body, chunked_body, raw_body, Fault, too_large}
use Rattle.model_h1.specs.Reading.{Ending, goes_on, is_broken, ends_before}
use Rattle.model_h1.proofs.HeadPieceLemmas.{head_piece_unique, head_piece_append, slice_range-append}
use Rattle.model_state.specs.Kept.{Rest, no_rest, fixed_rest}
use Rattle.h1_decoder.specs.Refusal.{UnlessNoMemory, fault_of}
use Rattle.h1_payload.specs.Decoding.{Decoding, reading_of, IsDecodedBy}
use Rattle.h1_payload.specs.declared.item.DecodeError.{DecodeError}
use Rattle.h1_payload.specs.declared.item.DecodeError.TheVariants.{Invalid}
use Rattle.h1_payload.specs.declared.item.PayloadItem.{PayloadItem}
use Rattle.h1_payload.specs.declared.item.PayloadItem.TheVariants as items
use Rattle.h1_codec.specs.Kind.{Reading, says_head, says_fault, Kind, IsOneReading}
use Rattle.h1_codec.specs.Heads.{HasSeen, payload_of, IsNextItem, IsWaiting, IsTooLong, Stop, waits, refused, Stops}
use Rattle.h1_codec.specs.FramedMessages.{Closing, no_end, an_end, a_fault, closing_of, chunk_in_front, end_in_front, Part, no_part, Messages, given, nothing, body_of, After, Standing, Looked}
use Rattle.h1_codec.specs.Steps.{message_of, open_after, IsOpenStep, IsIdleStep, IsStepFrom, IsStep}
use Rattle.h1_codec.specs.declared.framed_message.Message.{Message}
use Rattle.h1_codec.specs.declared.payload_type.PayloadType.{PayloadType}
use Rattle.h1_codec.specs.declared.framed_message.Message.TheVariants.{Item, Chunk}
use Rattle.h1_codec.proofs.GoingOn.{next_append}
use Rattle.h1_codec.proofs.Refusals.{none_too_long, stops_append, one_stop}
use Rattle.model_codecs.specs.Acts.{Act, comes, asked, bytes_came, told, EndsWaiting, HasAnswered, IsRun}
use Rattle.model_codecs.specs.Heard.{part_read, IsHeardPart, AreHeard, all_given, given_closing, IsGivenOf, AreFirstOf, AreAllOf, EndsBroken, HaveCauses}
use Rattle.model_codecs.proofs.Standings.{closes_on, seen_behind, seen_inside, looked_idle, looked_inside, stays_idle, stays_lacking, is_lacking}
use Rattle.model_codecs.proofs.Tells.{IsLeft, BodyTells, gave, waited, has_ended, broke, lacked, end_message, end_open, body_tells}

-- ---- acts

module _ {I : Type 0} where
  pub causes_map : (P Q : ParseError → Type 0) (acts : List (Act I)) → ((e : ParseError) → P e → Q e) → HaveCauses P acts → HaveCauses Q acts
  causes_map P Q [] f x = tt
  causes_map P Q (comes bytes ∷ acts) f x = causes_map P Q acts f x
  causes_map P Q (asked (Ok item) ∷ acts) f x = causes_map P Q acts f x
  causes_map P Q (asked (Err e) ∷ acts) f x = (λ known. f e (x.0 known), causes_map P Q acts f x.1)

  -- an act in front of others
  pub after_item : (item : Message I) (acts : List (Act I)) → EndsWaiting (asked (Ok (Some item)) ∷ acts) → EndsWaiting acts
  after_item item [] waiting = absurd waiting
  after_item item (a ∷ acts) waiting = waiting

  pub after_none : (act : Act I) (acts : List (Act I)) → EndsWaiting (asked (Ok None) ∷ act ∷ acts) → EndsWaiting (act ∷ acts)
  after_none act acts waiting = waiting

  pub after_error : (e : ParseError) (acts : List (Act I)) → EndsWaiting (asked (Err e) ∷ acts) → EndsWaiting acts
  after_error e [] waiting = absurd waiting
  after_error e (a ∷ acts) waiting = waiting

  pub after_bytes : (new : List ℕ) (acts : List (Act I)) → EndsWaiting (comes new ∷ acts) → EndsWaiting acts
  after_bytes new [] waiting = absurd waiting
  after_bytes new (a ∷ acts) waiting = waiting

module _ {I : Type 0} (k : Kind I) (one : IsOneReading k) (is_bare : Bool) (limit : ℕ) where
  abbrev pub H : Type 0
  H = k.Head × Part

  -- what these bytes say
  abbrev pub Says : List ℕ → List H → Option Fault → Type 0
  Says bytes hs stop = AreHeard k is_bare limit bytes hs stop

  -- nothing is given, each error is this one, none is last that says that nothing is there, and all bytes are left
  pub record AreStuck (P : ParseError → Type 0) (acts : List (Act I)) (bytes rest : List ℕ) : Type 0 where
    pub none : told acts nothing ≡ nothing
    pub causes : HaveCauses P acts
    pub never : ¬ (EndsWaiting acts)
    pub left : rest ≡ bytes ++ bytes_came acts

  pub stuck_error : (P : ParseError → Type 0) (e : ParseError) (acts : List (Act I)) → (bytes rest : List ℕ) → UnlessNoMemory e (P e) → AreStuck P acts bytes rest
      → AreStuck P (asked (Err e) ∷ acts) bytes rest
  stuck_error P e acts bytes rest known x =
      record { none = x.none; causes = (known, x.causes); never = λ waiting. x.never (after_error e acts waiting); left = x.left }

  -- ---- behind a broken body

  pub broken_stuck : (acts : List (Act I)) (st : Standing) (d : Decoding) (bytes : List ℕ) (last : Standing) (rest : List ℕ) → st.body ≡ Some d → d.is_broken ≡ true
      → IsRun k is_bare st bytes acts last rest → AreStuck (λ e. e ≡ errors.Chunk) acts bytes rest
  broken_stuck [] st d bytes last rest is wrong run = record { none = refl; causes = tt; never = λ waiting. waiting; left = run.1 ∙ sym (append-nil bytes) }
  broken_stuck (comes new ∷ acts) st d bytes last rest is wrong run =
      let x = broken_stuck acts st d (bytes ++ new) last rest is wrong run in
      record { none = x.none; causes = x.causes; never = λ waiting. x.never (after_bytes new acts waiting); left = x.left ∙ append_assoc bytes new (bytes_came acts) }
  broken_stuck (asked answer ∷ acts) st d bytes last rest is wrong (next, behind, x, run) =
      let step : IsOpenStep d bytes answer next.body behind = subst (λ (b : Option Decoding). IsStepFrom k b st.search bytes answer next.body behind) is x.step in
      let said = subst (λ (b : Bool). IsDecodedBy b d bytes step.0 step.1 behind) wrong step.2 in
      let answer_is : answer ≡ Err errors.Chunk = step.3 ∙ ap message_of said.0 in
      let open_is : next.body ≡ Some d = step.4 ∙ ap (λ (i : Result (Option PayloadItem) DecodeError). open_after i step.1) said.0 ∙ ap Some said.1 in
      subst (λ (a : Result (Option (Message I)) ParseError). AreStuck (λ e. e ≡ errors.Chunk) (asked a ∷ acts) bytes rest) (sym answer_is)
      (stuck_error (λ e. e ≡ errors.Chunk) errors.Chunk acts bytes rest (λ known. refl)
      (subst (λ (l : List ℕ). AreStuck (λ e. e ≡ errors.Chunk) acts l rest) said.2 (broken_stuck acts next d behind last rest open_is wrong run)))

  -- ---- behind a refused head

  -- what is read of the next head is one thing
  pub one_next : (bytes more : List ℕ) (s e s' e' : ℕ) (a b : Reading k.Head) → IsHeadPiece bytes s e → IsHeadPiece (bytes ++ more) s' e'
      → k.reads (slice_range bytes s e) a → k.reads (slice_range (bytes ++ more) s' e') b → (a ≡ b) × (e ≡ e')
  one_next bytes more s e s' e' a b here there of_a of_b =
      let same = head_piece_unique (bytes ++ more) s e s' e' (head_piece_append bytes more s e here) there in
      let longer : k.reads (slice_range (bytes ++ more) s e) a = subst (λ (p : List ℕ). k.reads p a) (sym (slice_range-append bytes more s e here.ordered here.in_range)) of_a in
      let moved : k.reads (slice_range (bytes ++ more) s' e') a =
      subst (λ (n : ℕ). k.reads (slice_range (bytes ++ more) s' n) a) same.1 (subst (λ (n : ℕ). k.reads (slice_range (bytes ++ more) n e) a) same.0 longer) in
      (one (slice_range (bytes ++ more) s' e') a b moved of_b, same.1)

  no_item : (bytes behind : List ℕ) (fault : Fault) (item : I × PayloadType) → Stops k limit bytes (refused fault) → IsNextItem k limit bytes behind item → ⊥
  no_item bytes behind fault item (inl (long, is)) (s, e, next, found, left) = none_too_long limit bytes s e long next
  no_item bytes behind fault item (inr (s, e, next, reading)) (s', e', next', found, left) =
      let there = subst (λ (l : List ℕ). IsHeadPiece l s' e') (sym (append-nil bytes)) next'.piece in
      let said = subst (λ (l : List ℕ). k.reads (slice_range l s' e') (says_head found.head)) (sym (append-nil bytes)) found.reading in
      let same : ◌≡◌ {A = Reading k.Head} (says_fault fault) (says_head found.head) = (one_next bytes [] s e s' e' (says_fault fault) (says_head found.head) next.piece there reading said).0 in
      cc same

  module _ (fault : Fault) where
    pub refused_stuck : (acts : List (Act I)) (st : Standing) (bytes : List ℕ) (last : Standing) (rest : List ℕ) → st.body ≡ None → st.search.limit ≡ limit
        → ((b : List ℕ) → HasSeen st.search (bytes ++ b)) → Stops k limit bytes (refused fault) → IsRun k is_bare st bytes acts last rest
        → AreStuck (λ e. fault_of e ≡ fault) acts bytes rest
    refused_stuck [] st bytes last rest none limit_is seen stops run =
        record { none = refl; causes = tt; never = λ waiting. waiting; left = run.1 ∙ sym (append-nil bytes) }
    refused_stuck (comes new ∷ acts) st bytes last rest none limit_is seen stops run =
        let x = refused_stuck acts st (bytes ++ new) last rest none limit_is (λ b. subst (HasSeen st.search) (sym (append_assoc bytes new b)) (seen (new ++ b)))
        (stops_append k one limit bytes new fault stops) run in
        record { none = x.none; causes = x.causes; never = λ waiting. x.never (after_bytes new acts waiting); left = x.left ∙ append_assoc bytes new (bytes_came acts) }
    refused_stuck (asked answer ∷ acts) st bytes last rest none limit_is seen stops (next, behind, x, run) =
        by_answer (λ again. refused_stuck acts st bytes last rest none limit_is seen stops again) answer x
        (subst (λ (b : Option Decoding). IsStepFrom k b st.search bytes answer next.body behind) none x.step)
      where
        now : HasSeen st.search bytes
        now = subst (HasSeen st.search) (append-nil bytes) (seen [])

        by_answer : (IsRun k is_bare st bytes acts last rest → AreStuck (λ e. fault_of e ≡ fault) acts bytes rest) → (a : Result (Option (Message I)) ParseError) → HasAnswered k is_bare st bytes a next behind → IsIdleStep k st.search bytes a next.body behind
            → AreStuck (λ e. fault_of e ≡ fault) (asked a ∷ acts) bytes rest
        by_answer go (Ok None) y step =
            let waiting : IsWaiting limit bytes = subst (λ (m : ℕ). IsWaiting m bytes) limit_is (step.0 now) in
            let never = (one_stop k one limit bytes fault [] waits stops waiting).1 in
            absurd (cc never)
        by_answer go (Ok (Some (Chunk piece))) y step = absurd step
        by_answer go (Ok (Some (Item i))) y step =
            let found = y.item (looked_idle st.body st.search bytes none seen) in
            absurd (no_item bytes behind fault (i, found.0) stops (subst (λ (l : ℕ). IsNextItem k l bytes behind (i, found.0)) limit_is found.2))
        by_answer go (Err e) y step =
            let same = stays_idle st.body e st next none y.left.1 in
            let stays = y.left.0 in
            let again = go
            (subst (λ (s : Standing). IsRun k is_bare s bytes acts last rest) same (subst (λ (l : List ℕ). IsRun k is_bare next l acts last rest) stays run)) in
            stuck_error (λ x. fault_of x ≡ fault) e acts bytes rest
            (λ known.
            let named = (one_stop k one limit bytes fault [] (refused (fault_of e)) stops (subst (λ (m : ℕ). Stops k m bytes (refused (fault_of e))) limit_is (step now known))).1 in
            cc named)
            again
