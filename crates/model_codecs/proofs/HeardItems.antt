-- What a codec gives, item by item, of what is heard.
use Rattle.std.proofs.Common.{◌≡◌, ◌⊎◌, inl, inr, ℕ, ◌<◌, ◌≤◌, eqb, Bool, true, false, List, [], ◌∷◌, ◌++◌, length, drop, slice_range, refl, sym, ap, ◌∙◌, subst, arith, append-nil, append_assoc, length-append}
use Rattle.std.proofs.lemmas.Bool.{cond_both, cases_lt, eq-eqb, false≢true}
use Rattle.std.proofs.lemmas.List.{take-append-le, drop-append-le}
use Rattle.std.specs.Prelude.{⊤, Option, Some, None, Result, Ok, Err, IfErr}
use Rattle.http_types.specs.declared.error.ParseError.{ParseError}
use Rattle.http_types.specs.declared.error.ParseError.TheVariants as errors
use Rattle.http_types.specs.declared.error.ParseError.TheVariants.{NoMemory}
use Rattle.model_h1.specs.HeadPiece.{IsHeadPiece, HasNoHeadPiece}
use Rattle.model_h1.specs.Request.{BodyKind, no_body, fixed_body, chunked_body, raw_body, Fault, too_large}
use Rattle.model_h1.specs.Reading.{Ending, goes_on, is_broken, ends_before}
use Rattle.model_h1.proofs.HeadPieceLemmas.{head_piece_unique, head_piece_append, slice_range-append}
use Rattle.model_state.specs.Kept.{Rest, no_rest, fixed_rest}
use Rattle.h1_decoder.specs.Refusal.{UnlessNoMemory, fault_of}
use Rattle.h1_payload.specs.Decoding.{Decoding, reading_of, IsDecodedBy}
use Rattle.h1_payload.specs.declared.item.DecodeError.{DecodeError}
use Rattle.h1_payload.specs.declared.item.DecodeError.TheVariants.{Invalid}
use Rattle.h1_payload.specs.declared.item.PayloadItem.{PayloadItem}
use Rattle.h1_payload.specs.declared.item.PayloadItem.TheVariants as items
use Rattle.h1_codec.specs.Kind.{Reading, says_head, says_fault, Kind, IsOneReading}
use Rattle.h1_codec.specs.Heads.{HasSeen, payload_of, IsNextItem, IsWaiting, IsTooLong, Stop, waits, refused, Stops}
use Rattle.h1_codec.specs.FramedMessages.{Closing, no_end, an_end, a_fault, closing_of, chunk_in_front, end_in_front, Part, no_part, Messages, given, nothing, body_of, After, Standing, Looked}
use Rattle.h1_codec.specs.Steps.{message_of, open_after, IsOpenStep, IsIdleStep, IsStepFrom, IsStep}
use Rattle.h1_codec.specs.declared.framed_message.Message.{Message}
use Rattle.h1_codec.specs.declared.payload_type.PayloadType.{PayloadType}
use Rattle.h1_codec.specs.declared.framed_message.Message.TheVariants.{Item, Chunk}
use Rattle.h1_codec.proofs.GoingOn.{next_append}
use Rattle.h1_codec.proofs.Refusals.{none_too_long, stops_append, one_stop}
use Rattle.model_codecs.specs.Acts.{Act, comes, asked, bytes_came, told, EndsWaiting, HasAnswered, IsRun}
use Rattle.model_codecs.specs.Heard.{part_read, IsHeardPart, AreHeard, all_given, given_closing, IsGivenOf, AreFirstOf, AreAllOf, EndsBroken, HaveCauses}
use Rattle.model_codecs.proofs.Standings.{closes_on, seen_behind, seen_inside, looked_idle, looked_inside, stays_idle, stays_lacking, is_lacking}
use Rattle.model_codecs.proofs.Stuck.{causes_map, after_item, after_none, after_error, after_bytes, AreStuck, stuck_error, broken_stuck, one_next, refused_stuck}
use Rattle.model_codecs.proofs.Tells.{IsLeft, BodyTells, gave, waited, has_ended, broke, lacked, end_message, end_open, body_tells}

-- ---- small facts

broken_closes : (e : Ending) → closing_of e ≡ a_fault → e ≡ is_broken
broken_closes goes_on is = cc is
broken_closes is_broken is = refl
broken_closes (ends_before left) is = cc is

-- what is next: a head of what is heard; or the rest of a body, how that ends, and what is heard behind it
pub data Expect (H : Type 0) : Type 0 where
  between : List H → Option Fault → Expect H
  inside : List ℕ → Ending → List H → Option Fault → Expect H

module _ {I : Type 0} (k : Kind I) (one : IsOneReading k) (is_bare : Bool) (limit : ℕ) (rest : List ℕ) where
  abbrev pub H : Type 0
  H = k.Head × Part

  -- what these bytes say
  abbrev pub Says : List ℕ → List H → Option Fault → Type 0
  Says bytes hs stop = AreHeard k is_bare limit bytes hs stop

  -- ---- what is next

  abbrev pub whole : List ℕ → Ending → Part
  whole left ending = record { bytes = left; closing = closing_of ending }

  abbrev pub others_of : Expect H → List H
  others_of (between hs stop) = hs
  others_of (inside left ending hs stop) = hs

  abbrev pub stop_of : Expect H → Option Fault
  stop_of (between hs stop) = stop
  stop_of (inside left ending hs stop) = stop

  -- the codec stands there, with these bytes unread and these to come
  abbrev pub Stands : Expect H → Standing → List ℕ → List ℕ → Type 0
  Stands (between hs stop) st bytes future =
      (st.body ≡ None) × (st.search.limit ≡ limit) × ((b : List ℕ) → HasSeen st.search (bytes ++ b)) × Says (bytes ++ future) hs stop
  Stands (inside left ending hs stop) st bytes future =
      (d : Decoding) × (st.body ≡ Some d) × (st.search.limit ≡ limit) × ((b : List ℕ) → HasSeen st.search b) × (d.is_broken ≡ false) × IsLeft d.rest
      × ((reading_of d.rest (bytes ++ future)).body ≡ left) × ((reading_of d.rest (bytes ++ future)).ending ≡ ending)
      × After ending (λ l. Says l hs stop) ((hs ≡ []) × (stop ≡ None))

  -- ---- what is given from there

  abbrev pub FirstFrom : Expect H → Messages I → Type 0
  FirstFrom (between hs stop) t = (t.part ≡ no_part) × AreFirstOf k is_bare limit t.messages hs
  FirstFrom (inside left ending hs stop) t = IsGivenOf k is_bare limit t.part (whole left ending) (λ ms. AreFirstOf k is_bare limit ms hs) t.messages

  abbrev pub PartFrom : Expect H → Messages I → Type 0
  PartFrom (between hs stop) t = ⊤
  PartFrom (inside left ending hs stop) t = t.part ≡ all_given (whole left ending)

  -- all is given but for this
  abbrev pub AllFrom : Expect H → Messages I → List H → Type 0
  AllFrom e t behind = (front : List H) × PartFrom e t × (others_of e ≡ front ++ behind) × AreAllOf k is_bare limit t.messages front

  abbrev pub BrokenFrom : Expect H → Type 0
  BrokenFrom (between hs stop) = EndsBroken k is_bare limit hs
  BrokenFrom (inside left ending hs stop) = ((hs ≡ []) × (ending ≡ is_broken)) ⊎ EndsBroken k is_bare limit hs

  -- behind all that was given as many bytes as the limit are left, in which no head ends
  abbrev pub LongFrom : Expect H → Messages I → Type 0
  LongFrom e t = (behind : List H) × AllFrom e t behind × IsTooLong limit rest

  abbrev pub CauseFrom : Expect H → Messages I → ParseError → Type 0
  CauseFrom e t error =
      (AllFrom e t [] × (((error ≡ errors.Chunk) × BrokenFrom e) ⊎ (stop_of e ≡ Some (fault_of error)))) ⊎ (LongFrom e t × (fault_of error ≡ too_large))

  pub record Gives (e : Expect H) (acts : List (Act I)) (more : List ℕ) : Type 0 where
    pub stop : (told acts nothing).stop ≡ waits
    pub first : FirstFrom e (told acts nothing)
    pub causes : HaveCauses (CauseFrom e (told acts nothing)) acts
    pub all : more ≡ [] → EndsWaiting acts → AllFrom e (told acts nothing) [] × (stop_of e ≡ None) × ¬ (BrokenFrom e)

  -- ---- where nothing is given

  first_of_none : (e : Expect H) → FirstFrom e nothing
  first_of_none (between hs stop) = (refl, tt)
  first_of_none (inside left ending hs stop) = inr (refl, (left, refl), refl)

  pub no_acts : (e : Expect H) (more : List ℕ) → Gives e [] more
  no_acts e more = record { stop = refl; first = first_of_none e; causes = tt; all = λ none waiting. absurd waiting }

  -- the codec is stuck, and this is why
  pub is_stuck : (e : Expect H) (P : ParseError → Type 0) (acts : List (Act I)) (more bytes : List ℕ) → AreStuck k one is_bare limit P acts bytes rest → ((x : ParseError) → P x → CauseFrom e nothing x) → Gives e acts more
  is_stuck e P acts more bytes x why = record {
    stop = ap (λ (t : Messages I). t.stop) x.none;
    first = subst (FirstFrom e) (sym x.none) (first_of_none e);
    causes = subst (λ (t : Messages I). HaveCauses (CauseFrom e t) acts) (sym x.none) (causes_map P (CauseFrom e nothing) acts why x.causes);
    all = λ none waiting. absurd (x.never waiting);
  }

  -- ---- acts in front

  -- nothing is answered
  pub none_answered : (e : Expect H) (acts : List (Act I)) (more : List ℕ) → (acts ≡ [] → more ≡ [] → AllFrom e nothing [] × (stop_of e ≡ None) × ¬ (BrokenFrom e))
      → Gives e acts more → Gives e (asked (Ok None) ∷ acts) more
  none_answered e [] more all x = record { stop = x.stop; first = x.first; causes = tt; all = λ none waiting. all refl none }
  none_answered e (act ∷ acts) more all x = record { stop = x.stop; first = x.first; causes = x.causes; all = λ none waiting. x.all none (after_none act acts waiting) }

  -- memory ran out
  pub lacks_answered : (e : Expect H) (error : ParseError) (acts : List (Act I)) (more : List ℕ) → error ≡ NoMemory → Gives e acts more → Gives e (asked (Err error) ∷ acts) more
  lacks_answered e error acts more is x =
      record { stop = x.stop; first = x.first; causes = (λ known. absurd (known is), x.causes); all = λ none waiting. x.all none (after_error error acts waiting) }

  -- bytes come
  pub came_first : (e : Expect H) (new : List ℕ) (acts : List (Act I)) (more : List ℕ) → Gives e acts more → Gives e (comes new ∷ acts) more
  came_first e new acts more x =
      record { stop = x.stop; first = x.first; causes = x.causes; all = λ none waiting. x.all none (after_bytes new acts waiting) }

  -- An item, and what is given behind it: where each part of that is one of what is given with the item.
  item_in_front : (old new : Expect H) (item : Message I) (acts : List (Act I)) (more : List ℕ) → stop_of old ≡ stop_of new
      → (FirstFrom new (told acts nothing) → FirstFrom old (given item (told acts nothing)))
      → ((behind : List H) → AllFrom new (told acts nothing) behind → AllFrom old (given item (told acts nothing)) behind)
      → (BrokenFrom new → BrokenFrom old) → (BrokenFrom old → BrokenFrom new) → (given item (told acts nothing)).stop ≡ (told acts nothing).stop
      → Gives new acts more → Gives old (asked (Ok (Some item)) ∷ acts) more
  item_in_front old new item acts more same first all breaks back stays x = record {
    stop = stays ∙ x.stop;
    first = first x.first;
    causes = causes_map (CauseFrom new (told acts nothing)) (CauseFrom old (given item (told acts nothing))) acts why x.causes;
    all = λ none waiting.
        let y = x.all none (after_item item acts waiting) in
        (all [] y.0, same ∙ y.1, λ broken. y.2 (back broken));
  }
    where
      why : (error : ParseError) → CauseFrom new (told acts nothing) error → CauseFrom old (given item (told acts nothing)) error
      why error (inl (given_all, inl (is, broken))) = inl (all [] given_all, inl (is, breaks broken))
      why error (inl (given_all, inr is)) = inl (all [] given_all, inr (same ∙ is))
      why error (inr ((behind, given_all, long), is)) =
          inr ((behind, all behind given_all, long), is)

  -- ---- items

  -- the last of these is broken exactly where the last of those behind the first is
  broken_behind : (h : H) (hs : List H) → EndsBroken k is_bare limit hs → EndsBroken k is_bare limit (h ∷ hs)
  broken_behind h [] broken = absurd broken
  broken_behind h (n ∷ hs) broken = broken

  broken_last : (h : H) (hs : List H) → EndsBroken k is_bare limit (h ∷ hs) → ((hs ≡ []) × (h.1.closing ≡ a_fault)) ⊎ EndsBroken k is_bare limit hs
  broken_last h [] broken = inl (refl, broken)
  broken_last h (n ∷ hs) broken = inr broken

  -- a head that has no body
  pub bare_given : (h : H) (hs : List H) (stop : Option Fault) (i : I) (acts : List (Act I)) (more : List ℕ) → k.says i h.0 → h.1 ≡ no_part
      → Gives (between hs stop) acts more → Gives (between (h ∷ hs) stop) (asked (Ok (Some (Item i))) ∷ acts) more
  bare_given h hs stop i acts more says none x =
      let t = told acts nothing in
      let part : t.part ≡ all_given h.1 = x.first.0 ∙ ap all_given (sym none) in
      item_in_front (between (h ∷ hs) stop) (between hs stop) (Item i) acts more refl
      (λ first. (refl, (says, inl (part, first.1))))
      (λ behind (front, unit, are, all). (h ∷ front, tt, ap (λ (l : List H). h ∷ l) are, (says, part, all)))
      (broken_behind h hs)
      (λ broken. elim (broken_last h hs broken) [
        | inl last ↦ let never : no_end ≡ a_fault = sym (ap (λ (p : Part). p.closing) none) ∙ last.1 in absurd (cc never)
        | inr later ↦ later
      ])
      refl x

  -- a head with a body
  pub head_given : (h : H) (left : List ℕ) (ending : Ending) (hs : List H) (stop : Option Fault) (i : I) (acts : List (Act I)) (more : List ℕ) → k.says i h.0
      → h.1 ≡ whole left ending → Gives (inside left ending hs stop) acts more → Gives (between (h ∷ hs) stop) (asked (Ok (Some (Item i))) ∷ acts) more
  head_given h left ending hs stop i acts more says is x =
      let t = told acts nothing in
      item_in_front (between (h ∷ hs) stop) (inside left ending hs stop) (Item i) acts more refl
      (λ first. (refl, (says, subst (λ (p : Part). IsGivenOf k is_bare limit t.part p (λ ms. AreFirstOf k is_bare limit ms hs) t.messages) (sym is) first)))
      (λ behind (front, part, are, all). (h ∷ front, tt, ap (λ (l : List H). h ∷ l) are, (says, part ∙ ap all_given (sym is), all)))
      (λ broken. breaks broken)
      (λ broken. elim (broken_last h hs broken) [
        | inl last ↦ inl (last.0, broken_closes ending (sym (ap (λ (p : Part). p.closing) is) ∙ last.1))
        | inr later ↦ inr later
      ])
      refl x
    where
      breaks : BrokenFrom (inside left ending hs stop) → EndsBroken k is_bare limit (h ∷ hs)
      breaks (inl (last, wrong)) =
          subst (λ (l : List H). EndsBroken k is_bare limit (h ∷ l)) (sym last) (ap (λ (p : Part). p.closing) is ∙ ap closing_of wrong)
      breaks (inr later) = broken_behind h hs later

  -- bytes of a body
  pub bytes_given : (b left : List ℕ) (ending : Ending) (hs : List H) (stop : Option Fault) (acts : List (Act I)) (more : List ℕ) → 0 < length b
      → Gives (inside left ending hs stop) acts more → Gives (inside (b ++ left) ending hs stop) (asked (Ok (Some (Chunk (Some b)))) ∷ acts) more
  bytes_given b left ending hs stop acts more some x =
      let t = told acts nothing in
      item_in_front (inside (b ++ left) ending hs stop) (inside left ending hs stop) (Chunk (Some b)) acts more refl
      (λ first. first_more t.part first) (λ behind (front, part, are, all). (front, whole_more t.part part, are, all)) (λ broken. broken) (λ broken. broken) refl x
    where
      whole_more : (part : Part) → part ≡ all_given (whole left ending)
          → ◌≡◌ {A = Part} (record { bytes = b ++ part.bytes; closing = chunk_in_front b part.closing }) (all_given (whole (b ++ left) ending))
      whole_more part is =
          ap (λ (p : Part). record { bytes = b ++ p.bytes; closing = chunk_in_front b p.closing }) is
          ∙ ap (λ (c : Closing). record { bytes = b ++ left; closing = c }) (closes_on b (given_closing (closing_of ending)) some)

      first_more : (part : Part) → IsGivenOf k is_bare limit part (whole left ending) (λ ms. AreFirstOf k is_bare limit ms hs) (told acts nothing).messages
          → IsGivenOf k is_bare limit (record { bytes = b ++ part.bytes; closing = chunk_in_front b part.closing }) (whole (b ++ left) ending)
          (λ ms. AreFirstOf k is_bare limit ms hs) (told acts nothing).messages
      first_more part (inl (is, others)) = inl (whole_more part is, others)
      first_more part (inr (goes, (more_bytes, begins), none)) =
          inr (closes_on b part.closing some ∙ goes, (more_bytes, ap (λ (l : List ℕ). b ++ l) begins ∙ sym (append_assoc b part.bytes more_bytes)), none)

  -- the end of a body
  pub end_given : (left : List ℕ) (hs : List H) (stop : Option Fault) (acts : List (Act I)) (more : List ℕ) → Gives (between hs stop) acts more
      → Gives (inside [] (ends_before left) hs stop) (asked (Ok (Some (Chunk None))) ∷ acts) more
  end_given left hs stop acts more x =
      let ends : ◌≡◌ {A = Part} (record { bytes = []; closing = end_in_front (told acts nothing).part.bytes (told acts nothing).part.closing }) (record { bytes = []; closing = an_end }) =
      ap (λ (p : Part). record { bytes = []; closing = end_in_front p.bytes p.closing }) x.first.0 in
      item_in_front (inside [] (ends_before left) hs stop) (between hs stop) (Chunk None) acts more refl
      (λ first. inl (ends, first.1)) (λ behind (front, unit, are, all). (front, ends, are, all)) (λ broken. inr broken)
      (λ broken. elim broken [
        | inl last ↦ let never : ◌≡◌ {A = Ending} (ends_before left) is_broken = last.1 in absurd (cc never)
        | inr later ↦ later
      ])
      refl x
