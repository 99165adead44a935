-- What a codec gives of messages that were sent one after another.
use Rattle.std.proofs.Common.{◌≡◌, ◌⊎◌, inl, inr, ℕ, ◌<◌, ◌≤◌, zero, suc, Bool, true, false, List, [], ◌∷◌, ◌++◌, length, refl, sym, ap, ◌∙◌, subst, arith, append-nil, append_assoc}
use Rattle.std.proofs.lemmas.Bool.{false≢true}
use Rattle.std.specs.Prelude.{⊤, Option, Some, None, Result, Ok, Err, IfErr}
use Rattle.http_types.specs.declared.error.ParseError.{ParseError}
use Rattle.http_types.specs.declared.error.ParseError.TheVariants.{NoMemory}
use Rattle.model_h1.specs.Request.{BodyKind, no_body, fixed_body, chunked_body, raw_body, has_body}
use Rattle.model_state.specs.Kept.{whole_rest}
use Rattle.model_ends.specs.SentAnswer.{IsBodySent}
use Rattle.h1_payload.specs.Decoding.{Decoding}
use Rattle.h1_payload.specs.declared.item.DecodeError.{DecodeError}
use Rattle.h1_payload.specs.declared.item.PayloadItem.{PayloadItem}
use Rattle.h1_codec.specs.Kind.{Kind, IsOneReading}
use Rattle.h1_codec.specs.Heads.{Search, HasSeen, payload_of, IsNextItem, IsWaiting, waits, refused, Stops}
use Rattle.h1_decoder.specs.Refusal.{fault_of}
use Rattle.h1_codec.specs.ServerAnswers.{StaysAfter}
use Rattle.h1_codec.specs.FramedMessages.{Closing, an_end, chunk_in_front, end_in_front, Part, no_part, Messages, given, nothing, body_of, Standing, HasLooked, Looked}
use Rattle.h1_codec.specs.Steps.{message_of, open_after, IsOpenStep, IsIdleStep, IsStepFrom, IsStep}
use Rattle.h1_codec.specs.declared.framed_message.Message.{Message}
use Rattle.h1_codec.specs.declared.framed_message.Message.TheVariants.{Item, Chunk}
use Rattle.model_ends.proofs.Rests.{RestSays, body_says}
use Rattle.model_codecs.specs.Acts.{Act, comes, asked, bytes_came, told, HaveNoFault, EndsWaiting, HasAnswered, IsRun}
use Rattle.model_codecs.specs.Given.{kind_to, Sent, texts, whole_part, has_part, IsPartGiven, IsBodyGiven, AreBegun, part_if, part_of, AreWhole}
use Rattle.model_codecs.proofs.Bodies.{BodyGives, gave, waited, has_ended, lacked, body_gives}
use Rattle.model_codecs.proofs.Standings.{closes_on, stays_idle, stays_lacking, is_lacking, seen_behind, seen_inside, looked_idle, looked_inside}
use Rattle.model_codecs.proofs.Heads.{IsHeadSent, no_head_in_none, none_refused, head_fine, IsTaken, head_taken, head_there}

-- the head frames the whole body that was written
abbrev pub IsBodyFramed : {I : Type 0} → (k : Kind I) → Bool → Sent k → Type 0
IsBodyFramed k is_bare s = IsBodySent true (kind_to is_bare (k.body s.says)) s.body s.bytes

-- ---- small facts

no_left : (a b : List ℕ) → a ++ b ≡ [] → a ≡ []
no_left [] b is = refl
no_left (x ∷ a) b is = cc

payload_rest : (kind : BodyKind) → has_body kind ≡ true → body_of false (payload_of kind) ≡ Some (record { rest = whole_rest kind; is_broken = false })
payload_rest no_body some = absurd (false≢true some)
payload_rest (fixed_body n) some = refl
payload_rest chunked_body some = refl
payload_rest raw_body some = refl

payload_none : (kind : BodyKind) → has_body kind ≡ false → body_of false (payload_of kind) ≡ None
payload_none no_body none = refl
payload_none (fixed_body n) none = absurd (false≢true (sym none))
payload_none chunked_body none = absurd (false≢true (sym none))
payload_none raw_body none = absurd (false≢true (sym none))

-- what is open behind a head
open_rest : (is_bare : Bool) (kind : BodyKind) → has_body (kind_to is_bare kind) ≡ true
    → body_of is_bare (payload_of kind) ≡ Some (record { rest = whole_rest (kind_to is_bare kind); is_broken = false })
open_rest true kind some = absurd (false≢true some)
open_rest false kind some = payload_rest kind some

open_none : (is_bare : Bool) (kind : BodyKind) → has_body (kind_to is_bare kind) ≡ false → body_of is_bare (payload_of kind) ≡ None
open_none true kind none = refl
open_none false kind none = payload_none kind none

-- a body that isn't there has no text
none_sent : (kind : BodyKind) (text bytes : List ℕ) → has_body kind ≡ false → IsBodySent true kind text bytes → text ≡ []
none_sent no_body text bytes none sent = sent.0
none_sent (fixed_body n) text bytes none sent = absurd (false≢true (sym none))
none_sent chunked_body text bytes none sent = absurd (false≢true (sym none))
none_sent raw_body text bytes none sent = absurd sent

-- what is next: a head of these; or the rest of a body, and then these
pub data Expect {I : Type 0} (k : Kind I) : Type 0 where
  between : List (Sent k) → Expect k
  inside : List ℕ → List (Sent k) → Expect k

module _ {I : Type 0} (k : Kind I) (one : IsOneReading k) (is_bare : Bool) (limit : ℕ) (some : 0 < limit) where
  -- the codec stands there, with these bytes unread and these to come
  abbrev pub Stands : Expect k → Standing → List ℕ → List ℕ → Type 0
  Stands (between ss) st bytes future =
      (st.body ≡ None) × (st.search.limit ≡ limit) × ((b : List ℕ) → HasSeen st.search (bytes ++ b)) × (bytes ++ future ≡ texts k ss)
  Stands (inside left ss) st bytes future =
      (d : Decoding) × (st.body ≡ Some d) × (st.search.limit ≡ limit) × ((b : List ℕ) → HasSeen st.search b) × (d.is_broken ≡ false)
      × RestSays d.rest (bytes ++ future) left true (texts k ss)

  -- the heads are read back, and as many of the bodies as there may be items
  abbrev pub AreGood : ℕ → List (Sent k) → Type 0
  AreGood n [] = ⊤
  AreGood zero (s ∷ ss) = IsHeadSent k limit s × AreGood zero ss
  AreGood (suc n) (s ∷ ss) = IsHeadSent k limit s × IsBodyFramed k is_bare s × AreGood n ss

  abbrev pub IsGood : ℕ → Expect k → Type 0
  IsGood n (between ss) = AreGood n ss
  IsGood n (inside left ss) = AreGood n ss

  -- how many heads are given
  abbrev pub heads_given : List (Act I) → ℕ
  heads_given [] = zero
  heads_given (asked (Ok (Some (Item i))) ∷ acts) = suc (heads_given acts)
  heads_given (act ∷ acts) = heads_given acts

  -- ---- what is given from there

  abbrev pub Begun : List (I × Part) → List (Sent k) → Type 0
  Begun ms ss = AreBegun k is_bare ms ss

  abbrev pub Whole : List (I × Part) → List (Sent k) → Type 0
  Whole ms ss = AreWhole k is_bare ms ss

  abbrev pub GivesFrom : Expect k → Messages I → Type 0
  GivesFrom (between ss) t = (t.part ≡ no_part) × (t.stop ≡ waits) × Begun t.messages ss
  GivesFrom (inside left ss) t = (t.stop ≡ waits) × IsPartGiven k is_bare (λ (ms : List (I × Part)). Begun ms ss) left t.part t.messages

  abbrev pub AllFrom : Expect k → Messages I → List (Sent k) → Type 0
  AllFrom (between ss) t behind = (front : List (Sent k)) × (ss ≡ front ++ behind) × Whole t.messages front
  AllFrom (inside left ss) t behind = (t.part ≡ whole_part left) × ((front : List (Sent k)) × (ss ≡ front ++ behind) × Whole t.messages front)

  -- where the run ends with no body open, what was begun is whole, and these are still to come
  abbrev pub EndsIdle : Expect k → List (Act I) → List ℕ → Standing → List ℕ → Type 0
  EndsIdle e acts more last rest =
      last.body ≡ None → (behind : List (Sent k)) × AllFrom e (told acts nothing) behind × (rest ++ more ≡ texts k behind)
      × ((b : List ℕ) → HasSeen last.search (rest ++ b)) × (last.search.limit ≡ limit)

  pub record Gives (e : Expect k) (acts : List (Act I)) (more : List ℕ) (last : Standing) (rest : List ℕ) : Type 0 where
    pub gives : GivesFrom e (told acts nothing)
    pub fine : HaveNoFault acts
    pub all : more ≡ [] → EndsWaiting acts → AllFrom e (told acts nothing) []
    pub idle : EndsIdle e acts more last rest

  -- ---- the end of a run

  -- nothing more is given
  stops : (e : Expect k) (st : Standing) (bytes more : List ℕ) → Stands e st bytes more → Gives e [] more st bytes
  stops (between ss) st bytes more x = record {
    gives = (refl, refl, tt);
    fine = tt;
    all = λ none waiting. absurd waiting;
    idle = λ none. (ss, ([], refl, tt), x.3, x.2, x.1);
  }
  stops (inside left ss) st bytes more (d, is, limit_is, seen, sound, says) = record {
    gives = (refl, inr (refl, (left, refl), refl));
    fine = tt;
    all = λ none waiting. absurd waiting;
    idle = λ none. let never : ◌≡◌ {A = Option Decoding} None (Some d) = sym none ∙ is in absurd (cc never);
  }

  -- what is asked last, and nothing answered
  waits_last : (e : Expect k) (st : Standing) (bytes more : List ℕ) (last : Standing) (rest : List ℕ)
      → (more ≡ [] → AllFrom e nothing []) → Gives e [] more last rest → Gives e (asked (Ok None) ∷ []) more last rest
  waits_last e st bytes more last rest all x =
      record { gives = x.gives; fine = (tt, tt); all = λ none waiting. all none; idle = x.idle }

  -- what gives nothing, in front of more
  none_in_front : (e : Expect k) (answer : Result (Option (Message I)) ParseError) (act : Act I) (acts : List (Act I)) (more : List ℕ) (last : Standing) (rest : List ℕ)
      → IfErr answer (λ x. x ≡ NoMemory) → told (asked answer ∷ act ∷ acts) nothing ≡ told (act ∷ acts) nothing → Gives e (act ∷ acts) more last rest
      → Gives e (asked answer ∷ act ∷ acts) more last rest
  none_in_front e answer act acts more last rest fine same x = record {
    gives = subst (GivesFrom e) (sym same) x.gives;
    fine = (fine, x.fine);
    all = λ none waiting. subst (λ (t : Messages I). AllFrom e t []) (sym same) (x.all none (further answer waiting));
    idle = λ none.
        let y = x.idle none in
        (y.0, subst (λ (t : Messages I). AllFrom e t y.0) (sym same) y.1, y.2, y.3, y.4);
  }
    where
      further : (answer : Result (Option (Message I)) ParseError) → EndsWaiting (asked answer ∷ act ∷ acts) → EndsWaiting (act ∷ acts)
      further (Ok None) waiting = waiting
      further (Ok (Some item)) waiting = waiting
      further (Err error) waiting = waiting

  -- nothing is answered
  none_answered : (e : Expect k) (st : Standing) (bytes : List ℕ) (acts : List (Act I)) (more : List ℕ) (last : Standing) (rest : List ℕ)
      → (acts ≡ [] → more ≡ [] → AllFrom e nothing []) → Gives e acts more last rest → Gives e (asked (Ok None) ∷ acts) more last rest
  none_answered e st bytes [] more last rest all x = waits_last e st bytes more last rest (all refl) x
  none_answered e st bytes (act ∷ acts) more last rest all x = none_in_front e (Ok None) act acts more last rest tt refl x

  -- memory ran out
  lacks_answered : (e : Expect k) (error : ParseError) (acts : List (Act I)) (more : List ℕ) (last : Standing) (rest : List ℕ) → error ≡ NoMemory
      → Gives e acts more last rest → Gives e (asked (Err error) ∷ acts) more last rest
  lacks_answered e error [] more last rest is x =
      record { gives = x.gives; fine = (is, tt); all = λ none waiting. absurd waiting; idle = x.idle }
  lacks_answered e error (act ∷ acts) more last rest is x = none_in_front e (Err error) act acts more last rest is refl x

  -- bytes come
  came_first : (e : Expect k) (new : List ℕ) (acts : List (Act I)) (more : List ℕ) (last : Standing) (rest : List ℕ) → Gives e acts more last rest
      → Gives e (comes new ∷ acts) more last rest
  came_first e new acts more last rest x =
      record { gives = x.gives; fine = x.fine; all = λ none waiting. x.all none (behind acts waiting); idle = x.idle }
    where
      behind : (acts : List (Act I)) → EndsWaiting (comes new ∷ acts) → EndsWaiting acts
      behind [] waiting = absurd waiting
      behind (a ∷ acts) waiting = waiting

  -- an item, in front of what is given behind it
  after_item : (item : Message I) (acts : List (Act I)) → EndsWaiting (asked (Ok (Some item)) ∷ acts) → EndsWaiting acts
  after_item item [] waiting = absurd waiting
  after_item item (a ∷ acts) waiting = waiting

  -- ---- items

  -- a head that has no body
  bare_given : (s : Sent k) (ss : List (Sent k)) (i : I) (acts : List (Act I)) (more : List ℕ) (last : Standing) (rest : List ℕ)
      → k.says i s.says → has_part k is_bare s ≡ false → Gives (between ss) acts more last rest
      → Gives (between (s ∷ ss)) (asked (Ok (Some (Item i))) ∷ acts) more last rest
  bare_given s ss i acts more last rest says none x =
      let t = told acts nothing in
      let begun : IsBodyGiven k is_bare (has_part k is_bare s) (λ (ms : List (I × Part)). Begun ms ss) s.bytes t.part t.messages =
      subst (λ (b : Bool). IsBodyGiven k is_bare b (λ (ms : List (I × Part)). Begun ms ss) s.bytes t.part t.messages) (sym none) (x.gives.0, x.gives.2) in
      let whole : t.part ≡ part_of k is_bare s = x.gives.0 ∙ sym (ap (λ (b : Bool). part_if b s.bytes) none) in
      record {
        gives = (refl, x.gives.1, (says, begun));
        fine = (tt, x.fine);
        all = λ nothing_more waiting. let y = x.all nothing_more (after_item (Item i) acts waiting) in more_whole [] y whole;
        idle = λ nothing_more. let y = x.idle nothing_more in (y.0, more_whole y.0 y.1 whole, y.2, y.3, y.4);
      }
    where
      more_whole : (behind : List (Sent k)) → AllFrom (between ss) (told acts nothing) behind → (told acts nothing).part ≡ part_of k is_bare s
          → AllFrom (between (s ∷ ss)) (given (Item i) (told acts nothing)) behind
      more_whole behind (front, are, whole) part = (s ∷ front, ap (λ (l : List (Sent k)). s ∷ l) are, (says, part, whole))

  -- a head with a body
  head_given : (s : Sent k) (ss : List (Sent k)) (i : I) (acts : List (Act I)) (more : List ℕ) (last : Standing) (rest : List ℕ)
      → k.says i s.says → has_part k is_bare s ≡ true → Gives (inside s.bytes ss) acts more last rest
      → Gives (between (s ∷ ss)) (asked (Ok (Some (Item i))) ∷ acts) more last rest
  head_given s ss i acts more last rest says has x =
      let t = told acts nothing in
      let begun : IsBodyGiven k is_bare (has_part k is_bare s) (λ (ms : List (I × Part)). Begun ms ss) s.bytes t.part t.messages =
      subst (λ (b : Bool). IsBodyGiven k is_bare b (λ (ms : List (I × Part)). Begun ms ss) s.bytes t.part t.messages) (sym has) x.gives.1 in
      record {
        gives = (refl, x.gives.0, (says, begun));
        fine = (tt, x.fine);
        all = λ nothing_more waiting. more_whole [] (x.all nothing_more (after_item (Item i) acts waiting));
        idle = λ nothing_more. let y = x.idle nothing_more in (y.0, more_whole y.0 y.1, y.2, y.3, y.4);
      }
    where
      more_whole : (behind : List (Sent k)) → AllFrom (inside s.bytes ss) (told acts nothing) behind
          → AllFrom (between (s ∷ ss)) (given (Item i) (told acts nothing)) behind
      more_whole behind (part, (front, are, whole)) =
          (s ∷ front, ap (λ (l : List (Sent k)). s ∷ l) are, (says, part ∙ sym (ap (λ (b : Bool). part_if b s.bytes) has), whole))

  -- bytes of a body
  bytes_given : (b left : List ℕ) (ss : List (Sent k)) (acts : List (Act I)) (more : List ℕ) (last : Standing) (rest : List ℕ) → 0 < length b
      → Gives (inside left ss) acts more last rest → Gives (inside (b ++ left) ss) (asked (Ok (Some (Chunk (Some b)))) ∷ acts) more last rest
  bytes_given b left ss acts more last rest some_b x = record {
    gives = (x.gives.0, part_more (told acts nothing).part (told acts nothing).messages x.gives.1);
    fine = (tt, x.fine);
    all = λ nothing_more waiting. more_whole [] (x.all nothing_more (after_item (Chunk (Some b)) acts waiting));
    idle = λ nothing_more. let y = x.idle nothing_more in (y.0, more_whole y.0 y.1, y.2, y.3, y.4);
  }
    where
      whole_more : (part : Part) → part ≡ whole_part left
          → ◌≡◌ {A = Part} (record { bytes = b ++ part.bytes; closing = chunk_in_front b part.closing }) (whole_part (b ++ left))
      whole_more part is =
          ap (λ (p : Part). record { bytes = b ++ p.bytes; closing = chunk_in_front b p.closing }) is
          ∙ ap (λ (c : Closing). record { bytes = b ++ left; closing = c }) (closes_on b an_end some_b)

      part_more : (part : Part) (ms : List (I × Part)) → IsPartGiven k is_bare (λ (ms : List (I × Part)). Begun ms ss) left part ms
          → IsPartGiven k is_bare (λ (ms : List (I × Part)). Begun ms ss) (b ++ left) (record { bytes = b ++ part.bytes; closing = chunk_in_front b part.closing }) ms
      part_more part ms (inl (is, others)) = inl (whole_more part is, others)
      part_more part ms (inr (goes, (more, begins), none)) =
          inr (closes_on b part.closing some_b ∙ goes, (more, ap (λ (l : List ℕ). b ++ l) begins ∙ sym (append_assoc b part.bytes more)), none)

      more_whole : (behind : List (Sent k)) → AllFrom (inside left ss) (told acts nothing) behind
          → AllFrom (inside (b ++ left) ss) (given (Chunk (Some b)) (told acts nothing)) behind
      more_whole behind (part, others) = (whole_more (told acts nothing).part part, others)

  -- the end of a body
  end_given : (ss : List (Sent k)) (acts : List (Act I)) (more : List ℕ) (last : Standing) (rest : List ℕ) → Gives (between ss) acts more last rest
      → Gives (inside [] ss) (asked (Ok (Some (Chunk None))) ∷ acts) more last rest
  end_given ss acts more last rest x =
      let ends : ◌≡◌ {A = Part} (record { bytes = []; closing = end_in_front (told acts nothing).part.bytes (told acts nothing).part.closing }) (whole_part []) =
      ap (λ (p : Part). record { bytes = []; closing = end_in_front p.bytes p.closing }) x.gives.0 in
      record {
        gives = (x.gives.1, inl (ends, x.gives.2));
        fine = (tt, x.fine);
        all = λ nothing_more waiting. (ends, x.all nothing_more (after_item (Chunk None) acts waiting));
        idle = λ nothing_more. let y = x.idle nothing_more in (y.0, (ends, y.1), y.2, y.3, y.4);
      }

  -- ---- one answer

  -- what is given behind it is given as it was sent, whatever is expected there
  abbrev pub Others : ℕ → List (Act I) → List ℕ → Standing → List ℕ → Type 0
  Others n acts more last rest = (e : Expect k) (st : Standing) (bytes : List ℕ) → IsGood n e → Stands e st bytes (bytes_came acts ++ more)
      → IsRun k is_bare st bytes acts last rest → Gives e acts more last rest

  -- a codec that is as before stands where it stood
  same_stands : (e : Expect k) (old new : Standing) (bytes behind future : List ℕ) → new ≡ old → behind ≡ bytes → Stands e old bytes future → Stands e new behind future
  same_stands e old new bytes behind future same stays x =
      subst (λ (s : Standing). Stands e s behind future) (sym same) (subst (λ (l : List ℕ). Stands e old l future) (sym stays) x)

  -- ---- while no body is open

  module _ (n : ℕ) (acts : List (Act I)) (more : List ℕ) (last : Standing) (rest : List ℕ) (st next : Standing) (bytes behind : List ℕ)
      (none : st.body ≡ None) (limit_is : st.search.limit ≡ limit) (seen : (b : List ℕ) → HasSeen st.search (bytes ++ b)) (run : IsRun k is_bare next behind acts last rest) where
    abbrev future : List ℕ
    future = bytes_came acts ++ more

    idle_step : (answer : Result (Option (Message I)) ParseError) → IsStep k st bytes answer next behind → IsIdleStep k st.search bytes answer next.body behind
    idle_step answer x = subst (λ (b : Option Decoding). IsStepFrom k b st.search bytes answer next.body behind) none x

    -- no item
    idle_none : (ss : List (Sent k)) → AreGood n ss → Others n acts more last rest → bytes ++ future ≡ texts k ss
        → HasAnswered k is_bare st bytes (Ok None) next behind → (IsWaiting limit bytes → future ≡ [] → ss ≡ []) → Gives (between ss) (asked (Ok None) ∷ acts) more last rest
    idle_none ss good go text x nothing_there =
        let step = idle_step (Ok None) x.step in
        let now : HasSeen st.search bytes = subst (HasSeen st.search) (append-nil bytes) (seen []) in
        let waiting : IsWaiting limit bytes = subst (λ (m : ℕ). IsWaiting m bytes) limit_is (step.0 now) in
        let seen' = seen_behind next.body next.search behind step.1 (x.seen (looked_idle st.body st.search bytes none seen)) in
        let there : Stands (between ss) next behind future =
        (step.1, x.limit ∙ limit_is, seen', ap (λ (l : List ℕ). l ++ future) step.2 ∙ text) in
        none_answered (between ss) next behind acts more last rest
        (λ no_acts no_more. ([], nothing_there waiting (ap (λ (l : List (Act I)). bytes_came l ++ more) no_acts ∙ no_more), tt))
        (go (between ss) next behind good there run)

    -- an error
    idle_error : (ss : List (Sent k)) (error : ParseError) → AreGood n ss → Others n acts more last rest → bytes ++ future ≡ texts k ss
        → HasAnswered k is_bare st bytes (Err error) next behind → (Stops k limit bytes (refused (fault_of error)) → ⊥)
        → Gives (between ss) (asked (Err error) ∷ acts) more last rest
    idle_error ss error good go text x fine = elim (is_lacking error) [
      | inl lacks ↦ lacks_answered (between ss) error acts more last rest lacks
          (go (between ss) next behind good
          (same_stands (between ss) st next bytes behind future (stays_idle st.body error st next none x.left.1) x.left.0 (none, limit_is, seen, text)) run)
      | inr known ↦ absurd (fine (subst (λ (m : ℕ). Stops k m bytes (refused (fault_of error))) limit_is (idle_step (Err error) x.step (subst (HasSeen st.search) (append-nil bytes) (seen [])) known)))
    ]

    -- an item is the next head
    module _ (m : ℕ) (s : Sent k) (ss : List (Sent k)) (head : IsHeadSent k limit s) (framed : IsBodyFramed k is_bare s) (good : AreGood m ss)
        (go : Others m acts more last rest) (text : bytes ++ future ≡ texts k (s ∷ ss)) (i : I) (x : HasAnswered k is_bare st bytes (Ok (Some (Item i))) next behind) where
      looked : Looked st bytes
      looked = looked_idle st.body st.search bytes none seen

      item_given : Gives (between (s ∷ ss)) (asked (Ok (Some (Item i))) ∷ acts) more last rest
      item_given =
          let found = x.item looked in
          let taken = head_taken k one limit s head (s.body ++ texts k ss) bytes future behind i found.0 text
          (subst (λ (l : ℕ). IsNextItem k l bytes behind (i, found.0)) limit_is found.2) in
          let opens : next.body ≡ body_of is_bare (payload_of (k.body s.says)) = found.1 ∙ ap (body_of is_bare) taken.payload in
          by_body (has_part k is_bare s) refl taken opens
        where
          by_body : (b : Bool) → has_part k is_bare s ≡ b → IsTaken k one limit s head (s.body ++ texts k ss) i (x.item looked).0 (behind ++ future)
              → next.body ≡ body_of is_bare (payload_of (k.body s.says)) → Gives (between (s ∷ ss)) (asked (Ok (Some (Item i))) ∷ acts) more last rest
          by_body true has taken opens =
              let kind = kind_to is_bare (k.body s.says) in
              let d : Decoding = record { rest = whole_rest kind; is_broken = false } in
              let is : next.body ≡ Some d = opens ∙ open_rest is_bare (k.body s.says) has in
              let says : RestSays (whole_rest kind) (behind ++ future) s.bytes true (texts k ss) =
              subst (λ (l : List ℕ). RestSays (whole_rest kind) l s.bytes true (texts k ss)) (sym taken.behind)
              (body_says kind true s.body s.bytes (texts k ss) has framed (λ nothing_more. absurd (false≢true (sym nothing_more)))) in
              head_given s ss i acts more last rest taken.says has
              (go (inside s.bytes ss) next behind good
              (d, is, x.limit ∙ limit_is, seen_inside next.body d next.search behind is (x.seen looked), refl, says) run)
          by_body false has taken opens =
              let kind = kind_to is_bare (k.body s.says) in
              let is : next.body ≡ None = opens ∙ open_none is_bare (k.body s.says) has in
              let no_text : s.body ≡ [] = none_sent kind s.body s.bytes has framed in
              let left : behind ++ future ≡ texts k ss = taken.behind ∙ ap (λ (l : List ℕ). l ++ texts k ss) no_text in
              bare_given s ss i acts more last rest taken.says has
              (go (between ss) next behind good (is, x.limit ∙ limit_is, seen_behind next.body next.search behind is (x.seen looked), left) run)

  -- ---- while a body is open

  module _ (n : ℕ) (acts : List (Act I)) (more : List ℕ) (last : Standing) (rest : List ℕ) (st next : Standing) (bytes behind : List ℕ) (left : List ℕ) (ss : List (Sent k))
      (good : AreGood n ss) (go : Others n acts more last rest) (d : Decoding) (is : st.body ≡ Some d) (limit_is : st.search.limit ≡ limit)
      (seen : (b : List ℕ) → HasSeen st.search b) (sound : d.is_broken ≡ false)
      (says : RestSays d.rest (bytes ++ (bytes_came acts ++ more)) left true (texts k ss)) (run : IsRun k is_bare next behind acts last rest) where
    abbrev to_come : List ℕ
    to_come = bytes_came acts ++ more

    by_item : (answer : Result (Option (Message I)) ParseError) (item : Result (Option PayloadItem) DecodeError) (new : Decoding)
        → HasAnswered k is_bare st bytes answer next behind → answer ≡ message_of item → next.body ≡ open_after item new
        → BodyGives d bytes to_come left (texts k ss) item new behind → Gives (inside left ss) (asked answer ∷ acts) more last rest
    by_item answer item new x same opens (gave given left' item_is some_bytes cut sound' says') =
        let answer_is : answer ≡ Ok (Some (Chunk (Some given))) = same ∙ ap message_of item_is in
        let open_is : next.body ≡ Some new = opens ∙ ap (λ (y : Result (Option PayloadItem) DecodeError). open_after y new) item_is in
        let x' = subst (λ (a : Result (Option (Message I)) ParseError). HasAnswered k is_bare st bytes a next behind) answer_is x in
        let there : Stands (inside left' ss) next behind to_come =
        (new, open_is, x.limit ∙ limit_is, seen_inside next.body new next.search behind open_is (x'.seen (looked_inside st.body d st.search bytes is seen)), sound', says') in
        subst (λ (a : Result (Option (Message I)) ParseError). Gives (inside left ss) (asked a ∷ acts) more last rest) (sym answer_is)
        (subst (λ (l : List ℕ). Gives (inside l ss) (asked (Ok (Some (Chunk (Some given)))) ∷ acts) more last rest) (sym cut)
        (bytes_given given left' ss acts more last rest some_bytes (go (inside left' ss) next behind good there run)))
    by_item answer item new x same opens (waited item_is sound' says' missing) =
        let answer_is : answer ≡ Ok None = same ∙ ap message_of item_is in
        let open_is : next.body ≡ Some new = opens ∙ ap (λ (y : Result (Option PayloadItem) DecodeError). open_after y new) item_is in
        let x' = subst (λ (a : Result (Option (Message I)) ParseError). HasAnswered k is_bare st bytes a next behind) answer_is x in
        let there : Stands (inside left ss) next behind to_come =
        (new, open_is, x.limit ∙ limit_is, seen_inside next.body new next.search behind open_is (x'.seen (looked_inside st.body d st.search bytes is seen)), sound', says') in
        subst (λ (a : Result (Option (Message I)) ParseError). Gives (inside left ss) (asked a ∷ acts) more last rest) (sym answer_is)
        (none_answered (inside left ss) next behind acts more last rest
        (λ no_acts no_more. absurd (missing (ap (λ (l : List (Act I)). bytes_came l ++ more) no_acts ∙ no_more)))
        (go (inside left ss) next behind good there run))
    by_item answer item new x same opens (has_ended item_is none_left text) =
        let answer_is : answer ≡ Ok (Some (Chunk None)) = same ∙ ap message_of item_is in
        let open_is : next.body ≡ None = opens ∙ ap (λ (y : Result (Option PayloadItem) DecodeError). open_after y new) item_is in
        let x' = subst (λ (a : Result (Option (Message I)) ParseError). HasAnswered k is_bare st bytes a next behind) answer_is x in
        let there : Stands (between ss) next behind to_come =
        (open_is, x.limit ∙ limit_is, seen_behind next.body next.search behind open_is (x'.seen (looked_inside st.body d st.search bytes is seen)), text) in
        subst (λ (a : Result (Option (Message I)) ParseError). Gives (inside left ss) (asked a ∷ acts) more last rest) (sym answer_is)
        (subst (λ (l : List ℕ). Gives (inside l ss) (asked (Ok (Some (Chunk None))) ∷ acts) more last rest) (sym none_left)
        (end_given ss acts more last rest (go (between ss) next behind good there run)))
    by_item answer item new x same opens (lacked item_is kept stays) =
        let answer_is : answer ≡ Err NoMemory = same ∙ ap message_of item_is in
        let x' = subst (λ (a : Result (Option (Message I)) ParseError). HasAnswered k is_bare st bytes a next behind) answer_is x in
        let as_before : next ≡ st = stays_lacking st.body NoMemory st next refl x'.left.1 in
        subst (λ (a : Result (Option (Message I)) ParseError). Gives (inside left ss) (asked a ∷ acts) more last rest) (sym answer_is)
        (lacks_answered (inside left ss) NoMemory acts more last rest refl
        (go (inside left ss) next behind good
        (same_stands (inside left ss) st next bytes behind to_come as_before x'.left.0 (d, is, limit_is, seen, sound, says)) run))

    inside_given : (answer : Result (Option (Message I)) ParseError) → HasAnswered k is_bare st bytes answer next behind
        → Gives (inside left ss) (asked answer ∷ acts) more last rest
    inside_given answer x =
        let step : IsOpenStep d bytes answer next.body behind = subst (λ (b : Option Decoding). IsStepFrom k b st.search bytes answer next.body behind) is x.step in
        by_item answer step.0 step.1 x step.3 step.4 (body_gives d bytes to_come left (texts k ss) step.0 step.1 behind sound says step.2)

  -- ---- any answer

  head_of : (n : ℕ) (s : Sent k) (ss : List (Sent k)) → AreGood n (s ∷ ss) → IsHeadSent k limit s
  head_of zero s ss good = good.0
  head_of (suc n) s ss good = good.0

  fewer : (answer : Result (Option (Message I)) ParseError) (acts : List (Act I)) (n : ℕ) → heads_given (asked answer ∷ acts) ≤ n → heads_given acts ≤ n
  fewer (Ok (Some (Item i))) acts n few = omega (arith, few)
  fewer (Ok (Some (Chunk piece))) acts n few = few
  fewer (Ok None) acts n few = few
  fewer (Err error) acts n few = few

  module _ (acts : List (Act I)) (more : List ℕ) (last : Standing) (rest : List ℕ) (go : (m : ℕ) → heads_given acts ≤ m → Others m acts more last rest)
      (st next : Standing) (bytes behind : List ℕ) (run : IsRun k is_bare next behind acts last rest) where
    between_given : (n : ℕ) (ss : List (Sent k)) (answer : Result (Option (Message I)) ParseError) → heads_given (asked answer ∷ acts) ≤ n → AreGood n ss
        → Stands (between ss) st bytes (bytes_came acts ++ more) → HasAnswered k is_bare st bytes answer next behind
        → Gives (between ss) (asked answer ∷ acts) more last rest
    between_given n [] (Ok None) few good (none, limit_is, seen, text) x =
        idle_none n acts more last rest st next bytes behind none limit_is seen run [] good (go n few) text x (λ waiting no_more. refl)
    between_given n [] (Ok (Some (Item i))) few good (none, limit_is, seen, text) x =
        let found = x.item (looked_idle st.body st.search bytes none seen) in
        absurd (no_head_in_none bytes (no_left bytes (bytes_came acts ++ more) text) found.2.0 found.2.1 found.2.2.piece)
    between_given n ss (Ok (Some (Chunk piece))) few good (none, limit_is, seen, text) x =
        absurd (idle_step n acts more last rest st next bytes behind none limit_is seen run (Ok (Some (Chunk piece))) x.step)
    between_given n [] (Err error) few good (none, limit_is, seen, text) x =
        idle_error n acts more last rest st next bytes behind none limit_is seen run [] error good (go n few) text x
        (none_refused k one limit bytes (fault_of error) some (no_left bytes (bytes_came acts ++ more) text))
    between_given n (s ∷ ss) (Ok None) few good (none, limit_is, seen, text) x =
        idle_none n acts more last rest st next bytes behind none limit_is seen run (s ∷ ss) good (go n few) text x
        (λ waiting no_more. absurd (head_there k one limit s (head_of n s ss good) (s.body ++ texts k ss) bytes (bytes_came acts ++ more) text no_more waiting.0))
    between_given zero (s ∷ ss) (Ok (Some (Item i))) few good stands x = absurd (omega (arith, few))
    between_given (suc m) (s ∷ ss) (Ok (Some (Item i))) few good (none, limit_is, seen, text) x =
        item_given (suc m) acts more last rest st next bytes behind none limit_is seen run m s ss good.0 good.1 good.2 (go m (omega (arith, few))) text i x
    between_given n (s ∷ ss) (Err error) few good (none, limit_is, seen, text) x =
        idle_error n acts more last rest st next bytes behind none limit_is seen run (s ∷ ss) error good (go n few) text x
        (head_fine k one limit s (head_of n s ss good) (s.body ++ texts k ss) bytes (bytes_came acts ++ more) (fault_of error) text)

    answer_given : (n : ℕ) (e : Expect k) (answer : Result (Option (Message I)) ParseError) → heads_given (asked answer ∷ acts) ≤ n → IsGood n e
        → Stands e st bytes (bytes_came acts ++ more) → HasAnswered k is_bare st bytes answer next behind → Gives e (asked answer ∷ acts) more last rest
    answer_given n (between ss) answer few good stands x = between_given n ss answer few good stands x
    answer_given n (inside left ss) answer few good (d, is, limit_is, seen, sound, says) x =
        inside_given n acts more last rest st next bytes behind left ss good (go n (fewer answer acts n few)) d is limit_is seen sound says run answer x

  -- ---- all answers

  pub run_gives : (acts : List (Act I)) (n : ℕ) (e : Expect k) (st : Standing) (bytes more : List ℕ) (last : Standing) (rest : List ℕ) → heads_given acts ≤ n → IsGood n e
      → Stands e st bytes (bytes_came acts ++ more) → IsRun k is_bare st bytes acts last rest → Gives e acts more last rest
  run_gives [] n e st bytes more last rest few good stands (same, stays) =
      subst (λ (s : Standing). Gives e [] more s rest) (sym same) (subst (λ (l : List ℕ). Gives e [] more st l) (sym stays) (stops e st bytes more stands))
  run_gives (comes new ∷ acts) n e st bytes more last rest few good stands run =
      came_first e new acts more last rest
      (run_gives acts n e st (bytes ++ new) more last rest few good (joined e stands) run)
    where
      text_is : (bytes ++ new) ++ (bytes_came acts ++ more) ≡ bytes ++ ((new ++ bytes_came acts) ++ more)
      text_is = append_assoc bytes new (bytes_came acts ++ more) ∙ ap (λ (l : List ℕ). bytes ++ l) (sym (append_assoc new (bytes_came acts) more))

      joined : (e : Expect k) → Stands e st bytes ((new ++ bytes_came acts) ++ more) → Stands e st (bytes ++ new) (bytes_came acts ++ more)
      joined (between ss) (none, limit_is, seen, text) =
          (none, limit_is, λ b. subst (HasSeen st.search) (sym (append_assoc bytes new b)) (seen (new ++ b)), text_is ∙ text)
      joined (inside left ss) (d, is, limit_is, seen, sound, says) =
          (d, is, limit_is, seen, sound, subst (λ (l : List ℕ). RestSays d.rest l left true (texts k ss)) (sym text_is) says)
  run_gives (asked answer ∷ acts) n e st bytes more last rest few good stands (next, behind, x, run) =
      answer_given acts more last rest
      (λ m enough e' st' bytes' good' stands' run'. run_gives acts m e' st' bytes' more last rest enough good' stands' run')
      st next bytes behind run n e answer few good stands x
