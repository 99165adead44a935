-- What a codec gives is the beginning of what is heard.
use Rattle.std.proofs.Common.{◌≡◌, ◌⊎◌, inl, inr, ℕ, ◌<◌, ◌≤◌, eqb, Bool, true, false, List, [], ◌∷◌, ◌++◌, length, drop, slice_range, refl, sym, ap, ◌∙◌, subst, arith, append-nil, append_assoc, length-append}
use Rattle.std.proofs.lemmas.Bool.{cond_both, cases_lt, eq-eqb, false≢true}
use Rattle.std.proofs.lemmas.List.{take-append-le, drop-append-le}
use Rattle.std.specs.Prelude.{⊤, Option, Some, None, Result, Ok, Err, IfErr}
use Rattle.http_types.specs.declared.error.ParseError.{ParseError}
use Rattle.http_types.specs.declared.error.ParseError.TheVariants as errors
use Rattle.http_types.specs.declared.error.ParseError.TheVariants.{NoMemory}
use Rattle.model_h1.specs.HeadPiece.{IsHeadPiece, HasNoHeadPiece}
use Rattle.model_h1.specs.Request.{BodyKind, no_body, fixed_body, chunked_body, raw_body, Fault, too_large}
use Rattle.model_h1.specs.Reading.{Ending, goes_on, is_broken, ends_before}
use Rattle.model_h1.proofs.HeadPieceLemmas.{head_piece_unique, head_piece_append, slice_range-append}
use Rattle.model_state.specs.Kept.{Rest, no_rest, fixed_rest}
use Rattle.h1_decoder.specs.Refusal.{UnlessNoMemory, fault_of}
use Rattle.h1_payload.specs.Decoding.{Decoding, reading_of, IsDecodedBy}
use Rattle.h1_payload.specs.declared.item.DecodeError.{DecodeError}
use Rattle.h1_payload.specs.declared.item.DecodeError.TheVariants.{Invalid}
use Rattle.h1_payload.specs.declared.item.PayloadItem.{PayloadItem}
use Rattle.h1_payload.specs.declared.item.PayloadItem.TheVariants as items
use Rattle.h1_codec.specs.Kind.{Reading, says_head, says_fault, Kind, IsOneReading}
use Rattle.h1_codec.specs.Heads.{HasSeen, payload_of, IsNextItem, IsWaiting, IsTooLong, Stop, waits, refused, Stops}
use Rattle.h1_codec.specs.FramedMessages.{Closing, no_end, an_end, a_fault, closing_of, chunk_in_front, end_in_front, Part, no_part, Messages, given, nothing, body_of, After, Standing, Looked}
use Rattle.h1_codec.specs.Steps.{message_of, open_after, IsOpenStep, IsIdleStep, IsStepFrom, IsStep}
use Rattle.h1_codec.specs.declared.framed_message.Message.{Message}
use Rattle.h1_codec.specs.declared.payload_type.PayloadType.{PayloadType}
use Rattle.h1_codec.specs.declared.framed_message.Message.TheVariants.{Item, Chunk}
use Rattle.h1_codec.proofs.GoingOn.{next_append}
use Rattle.h1_codec.proofs.Refusals.{none_too_long, stops_append, one_stop}
use Rattle.model_codecs.specs.Acts.{Act, comes, asked, bytes_came, told, EndsWaiting, HasAnswered, IsRun}
use Rattle.model_codecs.specs.Heard.{part_read, IsHeardPart, AreHeard, all_given, given_closing, IsGivenOf, AreFirstOf, AreAllOf, EndsBroken, HaveCauses}
use Rattle.model_codecs.proofs.Standings.{closes_on, seen_behind, seen_inside, looked_idle, looked_inside, stays_idle, stays_lacking, is_lacking}
use Rattle.model_codecs.proofs.Stuck.{causes_map, after_item, after_none, after_error, after_bytes, AreStuck, stuck_error, broken_stuck, one_next, refused_stuck}
use Rattle.model_codecs.proofs.Tells.{IsLeft, BodyTells, gave, waited, has_ended, broke, lacked, end_message, end_open, body_tells}
use Rattle.model_codecs.proofs.HeardItems as given_items
use Rattle.model_codecs.proofs.HeardItems.{Expect, between, inside}

-- a body of which nothing was read isn't broken, and something is left of it
abbrev IsWholeBody : Option Decoding → Type 0
IsWholeBody None = ⊤
IsWholeBody (Some d) = (d.is_broken ≡ false) × IsLeft d.rest

sound_whole : (is_bare : Bool) (payload : PayloadType) (kind : BodyKind) → payload ≡ payload_of kind → IsWholeBody (body_of is_bare payload)
sound_whole is_bare payload kind is = subst (λ (p : PayloadType). IsWholeBody (body_of is_bare p)) (sym is) (by_kind is_bare kind)
  where
    by_kind : (is_bare : Bool) (kind : BodyKind) → IsWholeBody (body_of is_bare (payload_of kind))
    by_kind true kind = tt
    by_kind false no_body = tt
    by_kind false (fixed_body n) =
        cond_both (eqb n 0) no_rest (fixed_rest n) (λ (r : Rest). (false ≡ false) × IsLeft r) (λ e. (refl, tt))
        (λ e. (refl, some n e))
      where
        some : (m : ℕ) → eqb m 0 ≡ false → 0 < m
        some m e = elim (cases_lt 0 m) [ inl more ↦ more | inr none ↦ let zero_is : eqb m 0 ≡ true = eq-eqb m 0 (omega (arith, none)) in absurd (false≢true (sym e ∙ zero_is)) ]
    by_kind false chunked_body = (refl, tt)
    by_kind false raw_body = (refl, tt)

module _ {I : Type 0} (k : Kind I) (one : IsOneReading k) (is_bare : Bool) (limit : ℕ) where
  abbrev pub H : Type 0
  H = k.Head × Part

  abbrev pub Says : List ℕ → List H → Option Fault → Type 0
  Says bytes hs stop = AreHeard k is_bare limit bytes hs stop

  abbrev pub Stands : Expect H → Standing → List ℕ → List ℕ → Type 0
  Stands e st bytes future = given_items.Stands k one is_bare limit [] e st bytes future

  abbrev pub Gives : List ℕ → Expect H → List (Act I) → List ℕ → Type 0
  Gives rest e acts more = given_items.Gives k one is_bare limit rest e acts more

  -- ---- one answer

  -- what is given behind it is given as it is heard, whatever is expected there
  abbrev Others : List (Act I) → List ℕ → Standing → List ℕ → Type 0
  Others acts more last rest = (e : Expect H) (st : Standing) (bytes : List ℕ) → Stands e st bytes (bytes_came acts ++ more)
      → IsRun k is_bare st bytes acts last rest → Gives rest e acts more

  -- a codec that is as before stands where it stood
  same_stands : (e : Expect H) (old new : Standing) (bytes behind future : List ℕ) → new ≡ old → behind ≡ bytes → Stands e old bytes future → Stands e new behind future
  same_stands e old new bytes behind future same stays x =
      subst (λ (s : Standing). Stands e s behind future) (sym same) (subst (λ (l : List ℕ). Stands e old l future) (sym stays) x)

  module _ (acts : List (Act I)) (more : List ℕ) (last : Standing) (rest : List ℕ) (go : Others acts more last rest) (st next : Standing) (bytes behind : List ℕ)
      (run : IsRun k is_bare next behind acts last rest) where
    abbrev future : List ℕ
    future = bytes_came acts ++ more

    no_more : acts ≡ [] → more ≡ [] → future ≡ []
    no_more none nothing_more = ap (λ (l : List (Act I)). bytes_came l ++ more) none ∙ nothing_more

    -- ---- while no body is open

    module _ (none : st.body ≡ None) (limit_is : st.search.limit ≡ limit) (seen : (b : List ℕ) → HasSeen st.search (bytes ++ b)) where
      now_seen : HasSeen st.search bytes
      now_seen = subst (HasSeen st.search) (append-nil bytes) (seen [])

      -- what is refused now is refused where all bytes are there
      refused_so : (hs : List H) (stop : Option Fault) (fault : Fault) → Stops k limit bytes (refused fault) → Says (bytes ++ future) hs stop
          → rest ≡ bytes ++ bytes_came acts → (error : ParseError) → fault_of error ≡ fault → given_items.CauseFrom k one is_bare limit rest (between hs stop) nothing error
      refused_so hs stop fault (inl (long, is)) says left_is error named =
          let longer : IsTooLong limit (bytes ++ bytes_came acts) =
          (omega (arith, long.0, length-append bytes (bytes_came acts)), subst HasNoHeadPiece (sym (take-append-le limit bytes (bytes_came acts) long.0)) long.1) in
          inr ((hs, ([], tt, refl, tt), subst (IsTooLong limit) (sym left_is) longer), named ∙ is)
      refused_so [] None fault (inr (s, e, found, reading)) says left_is error named = absurd (says s e (head_piece_append bytes future s e found.piece))
      refused_so [] (Some f) fault (inr (s, e, found, reading)) (s', e', piece, inl (long, large)) left_is error named =
          let same = (head_piece_unique (bytes ++ future) s e s' e' (head_piece_append bytes future s e found.piece) piece).1 in
          absurd (omega (arith, found.within, long, same))
      refused_so [] (Some f) fault (inr (s, e, found, reading)) (s', e', piece, inr reading') left_is error named =
          let same : ◌≡◌ {A = Reading k.Head} (says_fault fault) (says_fault f) =
          (one_next k one is_bare limit bytes future s e s' e' (says_fault fault) (says_fault f) found.piece piece reading reading').0 in
          let faults : fault ≡ f = cc same in
          inl (([], tt, refl, tt), inr (ap Some (sym faults ∙ sym named)))
      refused_so (h ∷ hs) stop fault (inr (s, e, found, reading)) (s', e', piece, reading', part) left_is error named =
          let same : ◌≡◌ {A = Reading k.Head} (says_fault fault) (says_head h.0) =
          (one_next k one is_bare limit bytes future s e s' e' (says_fault fault) (says_head h.0) found.piece piece reading reading').0 in
          absurd (cc same)

      -- an error
      idle_error : (hs : List H) (stop : Option Fault) (error : ParseError) → Says (bytes ++ future) hs stop → HasAnswered k is_bare st bytes (Err error) next behind
          → IsIdleStep k st.search bytes (Err error) next.body behind → Gives rest (between hs stop) (asked (Err error) ∷ acts) more
      idle_error hs stop error says x step = elim (is_lacking error) [
        | inl lacks ↦ given_items.lacks_answered k one is_bare limit rest (between hs stop) error acts more lacks
            (go (between hs stop) next behind
            (same_stands (between hs stop) st next bytes behind future (stays_idle st.body error st next none x.left.1) x.left.0 (none, limit_is, seen, says)) run)
        | inr known ↦
            let stops : Stops k limit bytes (refused (fault_of error)) = subst (λ (m : ℕ). Stops k m bytes (refused (fault_of error))) limit_is (step now_seen known) in
            let stays : IsRun k is_bare st bytes acts last rest =
            subst (λ (s : Standing). IsRun k is_bare s bytes acts last rest) (stays_idle st.body error st next none x.left.1)
            (subst (λ (l : List ℕ). IsRun k is_bare next l acts last rest) x.left.0 run) in
            let stuck = refused_stuck k one is_bare limit (fault_of error) acts st bytes last rest none limit_is seen stops stays in
            given_items.is_stuck k one is_bare limit rest (between hs stop) (λ e. fault_of e ≡ fault_of error) (asked (Err error) ∷ acts) more bytes
            (stuck_error k one is_bare limit (λ e. fault_of e ≡ fault_of error) error acts bytes rest (λ known. refl) stuck)
            (refused_so hs stop (fault_of error) stops says stuck.left)
      ]

      -- no item
      idle_none : (hs : List H) (stop : Option Fault) → Says (bytes ++ future) hs stop → HasAnswered k is_bare st bytes (Ok None) next behind
          → IsIdleStep k st.search bytes (Ok None) next.body behind → Gives rest (between hs stop) (asked (Ok None) ∷ acts) more
      idle_none hs stop says x step =
          let waiting : IsWaiting limit bytes = subst (λ (m : ℕ). IsWaiting m bytes) limit_is (step.0 now_seen) in
          let seen' = seen_behind next.body next.search behind step.1 (x.seen (looked_idle st.body st.search bytes none seen)) in
          let there : Stands (between hs stop) next behind future =
          (step.1, x.limit ∙ limit_is, seen', subst (λ (l : List ℕ). Says (l ++ future) hs stop) (sym step.2) says) in
          given_items.none_answered k one is_bare limit rest (between hs stop) acts more
          (λ no_acts nothing_more. nothing_there hs stop (subst (λ (l : List ℕ). Says l hs stop) (all_bytes (no_more no_acts nothing_more)) says) waiting)
          (go (between hs stop) next behind there run)
        where
          all_bytes : future ≡ [] → bytes ++ future ≡ bytes
          all_bytes nothing = ap (λ (l : List ℕ). bytes ++ l) nothing ∙ append-nil bytes

          nothing_there : (hs : List H) (stop : Option Fault) → Says bytes hs stop → IsWaiting limit bytes
              → given_items.AllFrom k one is_bare limit rest (between hs stop) nothing [] × (stop ≡ None) × ¬ (given_items.BrokenFrom k one is_bare limit rest (between hs stop))
          nothing_there [] None says waiting = (([], tt, refl, tt), refl, λ broken. broken)
          nothing_there [] (Some f) (s, e, piece, why) waiting = absurd (waiting.0 s e piece)
          nothing_there (h ∷ hs) stop (s, e, piece, reading, part) waiting = absurd (waiting.0 s e piece)

      -- a head
      module _ (i : I) (x : HasAnswered k is_bare st bytes (Ok (Some (Item i))) next behind) where
        looked : Looked st bytes
        looked = looked_idle st.body st.search bytes none seen

        idle_item : (hs : List H) (stop : Option Fault) → Says (bytes ++ future) hs stop → Gives rest (between hs stop) (asked (Ok (Some (Item i))) ∷ acts) more
        idle_item hs stop says = by_heard hs stop says (x.item looked)
          where
            opened : (h : H) (hs : List H) (stop : Option Fault) → k.says i h.0 → (body : Option Decoding) → next.body ≡ body → IsWholeBody body
                → IsHeardPart body (behind ++ future) h.1 (λ y. Says y hs stop) ((hs ≡ []) × (stop ≡ None))
                → Gives rest (between (h ∷ hs) stop) (asked (Ok (Some (Item i))) ∷ acts) more
            opened h hs stop says None is sound (part, on) =
                given_items.bare_given k one is_bare limit rest h hs stop i acts more says part
                (go (between hs stop) next behind (is, x.limit ∙ limit_is, seen_behind next.body next.search behind is (x.seen looked), on) run)
            opened h hs stop says (Some d) is sound (part, on) =
                let r = reading_of d.rest (behind ++ future) in
                given_items.head_given k one is_bare limit rest h r.body r.ending hs stop i acts more says part
                (go (inside r.body r.ending hs stop) next behind
                (d, is, x.limit ∙ limit_is, seen_inside next.body d next.search behind is (x.seen looked), sound.0, sound.1, refl, refl, on) run)

            by_heard : (hs : List H) (stop : Option Fault) → Says (bytes ++ future) hs stop
                → (kind : PayloadType) × (next.body ≡ body_of is_bare kind) × IsNextItem k st.search.limit bytes behind (i, kind)
                → Gives rest (between hs stop) (asked (Ok (Some (Item i))) ∷ acts) more
            by_heard [] None says (kind, opens, (s, e, found, is, left)) = absurd (says s e (head_piece_append bytes future s e found.piece))
            by_heard [] (Some f) (s', e', piece, inl (long, large)) (kind, opens, (s, e, found, is, left)) =
                let same = (head_piece_unique (bytes ++ future) s e s' e' (head_piece_append bytes future s e found.piece) piece).1 in
                absurd (omega (arith, found.within, limit_is, long, same))
            by_heard [] (Some f) (s', e', piece, inr reading') (kind, opens, (s, e, found, is, left)) =
                let same : ◌≡◌ {A = Reading k.Head} (says_head is.head) (says_fault f) =
                (one_next k one is_bare limit bytes future s e s' e' (says_head is.head) (says_fault f) found.piece piece is.reading reading').0 in
                absurd (cc same)
            by_heard (h ∷ hs) stop (s', e', piece, reading', part) (kind, opens, (s, e, found, is, left)) =
                let both = one_next k one is_bare limit bytes future s e s' e' (says_head is.head) (says_head h.0) found.piece piece is.reading reading' in
                let same : ◌≡◌ {A = Reading k.Head} (says_head is.head) (says_head h.0) = both.0 in
                let head : is.head ≡ h.0 = cc same in
                let body_is : next.body ≡ body_of is_bare (payload_of (k.body h.0)) =
                opens ∙ ap (body_of is_bare) (is.payload ∙ ap (λ (y : k.Head). payload_of (k.body y)) head) in
                let text_is : drop e' (bytes ++ future) ≡ behind ++ future =
                ap (λ (n : ℕ). drop n (bytes ++ future)) (sym both.1) ∙ drop-append-le e bytes future found.piece.in_range ∙ ap (λ (l : List ℕ). l ++ future) (sym left) in
                let said = subst (λ (l : List ℕ). IsHeardPart (body_of is_bare (payload_of (k.body h.0))) l h.1 (λ y. Says y hs stop) ((hs ≡ []) × (stop ≡ None))) text_is part in
                opened h hs stop (subst (k.says i) head is.says) (body_of is_bare (payload_of (k.body h.0))) body_is (sound_whole is_bare (payload_of (k.body h.0)) (k.body h.0) refl) said

    -- ---- while a body is open

    module _ (left : List ℕ) (ending : Ending) (hs : List H) (stop : Option Fault) (d : Decoding) (is : st.body ≡ Some d) (limit_is : st.search.limit ≡ limit)
        (seen : (b : List ℕ) → HasSeen st.search b) (sound : d.is_broken ≡ false) (is_left : IsLeft d.rest)
        (body_is : (reading_of d.rest (bytes ++ future)).body ≡ left) (ending_is : (reading_of d.rest (bytes ++ future)).ending ≡ ending)
        (on : After ending (λ l. Says l hs stop) ((hs ≡ []) × (stop ≡ None))) where
      abbrev Answered : Result (Option (Message I)) ParseError → Type 0
      Answered answer = HasAnswered k is_bare st bytes answer next behind

      abbrev Given : Result (Option (Message I)) ParseError → Type 0
      Given answer = Gives rest (inside left ending hs stop) (asked answer ∷ acts) more

      by_item : (answer : Result (Option (Message I)) ParseError) (item : Result (Option PayloadItem) DecodeError) (new : Decoding) → Answered answer
          → answer ≡ message_of item → next.body ≡ open_after item new → BodyTells d bytes future item new behind → Given answer
      by_item answer item new x same opens (gave given_bytes item_is some sound' is_left' body ending') =
          let answer_is : answer ≡ Ok (Some (Chunk (Some given_bytes))) = same ∙ ap message_of item_is in
          let open_is : next.body ≡ Some new = opens ∙ ap (λ (y : Result (Option PayloadItem) DecodeError). open_after y new) item_is in
          let y = subst Answered answer_is x in
          let r = reading_of new.rest (behind ++ future) in
          let cut : left ≡ given_bytes ++ r.body = sym body_is ∙ body in
          let there : Stands (inside r.body ending hs stop) next behind future =
          (new, open_is, x.limit ∙ limit_is, seen_inside next.body new next.search behind open_is (y.seen (looked_inside st.body d st.search bytes is seen)), sound', is_left', refl, sym ending' ∙ ending_is, on) in
          subst Given (sym answer_is)
          (subst (λ (l : List ℕ). Gives rest (inside l ending hs stop) (asked (Ok (Some (Chunk (Some given_bytes)))) ∷ acts) more) (sym cut)
          (given_items.bytes_given k one is_bare limit rest given_bytes r.body ending hs stop acts more some (go (inside r.body ending hs stop) next behind there run)))
      by_item answer item new x same opens (waited item_is sound' is_left' body ending' missing) =
          let answer_is : answer ≡ Ok None = same ∙ ap message_of item_is in
          let open_is : next.body ≡ Some new = opens ∙ ap (λ (y : Result (Option PayloadItem) DecodeError). open_after y new) item_is in
          let y = subst Answered answer_is x in
          let there : Stands (inside left ending hs stop) next behind future =
          (new, open_is, x.limit ∙ limit_is, seen_inside next.body new next.search behind open_is (y.seen (looked_inside st.body d st.search bytes is seen)), sound', is_left', sym body ∙ body_is, sym ending' ∙ ending_is, on) in
          subst Given (sym answer_is)
          (given_items.none_answered k one is_bare limit rest (inside left ending hs stop) acts more
          (λ no_acts nothing_more.
          let none = missing (no_more no_acts nothing_more) in
          nothing_left (sym body_is ∙ none.0) (sym ending_is ∙ none.1))
          (go (inside left ending hs stop) next behind there run))
        where
          nothing_left : left ≡ [] → ending ≡ goes_on → given_items.AllFrom k one is_bare limit rest (inside left ending hs stop) nothing [] × (stop ≡ None) × ¬ (given_items.BrokenFrom k one is_bare limit rest (inside left ending hs stop))
          nothing_left none goes =
              let others = subst (λ (e : Ending). After e (λ l. Says l hs stop) ((hs ≡ []) × (stop ≡ None))) goes on in (
                ([], (λ i. record { bytes = sym none i; closing = given_closing (closing_of (sym goes i)) }), others.0, tt),
                others.1,
                λ broken. unbroken broken others.0,
              )
            where
              unbroken : given_items.BrokenFrom k one is_bare limit rest (inside left ending hs stop) → hs ≡ [] → ⊥
              unbroken (inl (last, wrong)) empty = let never : goes_on ≡ is_broken = sym goes ∙ wrong in cc never
              unbroken (inr later) empty = subst (EndsBroken k is_bare limit) empty later
      by_item answer item new x same opens (has_ended ends body ending') =
          let answer_is : answer ≡ Ok (Some (Chunk None)) = same ∙ end_message item ends in
          let open_is : next.body ≡ None = opens ∙ end_open item new ends in
          let y = subst Answered answer_is x in
          let is_end : ending ≡ ends_before (behind ++ future) = sym ending_is ∙ ending' in
          let says : Says (behind ++ future) hs stop = subst (λ (e : Ending). After e (λ l. Says l hs stop) ((hs ≡ []) × (stop ≡ None))) is_end on in
          let there : Stands (between hs stop) next behind future =
          (open_is, x.limit ∙ limit_is, seen_behind next.body next.search behind open_is (y.seen (looked_inside st.body d st.search bytes is seen)), says) in
          subst Given (sym answer_is)
          (subst (λ (l : List ℕ). Gives rest (inside l ending hs stop) (asked (Ok (Some (Chunk None))) ∷ acts) more) (sym (sym body_is ∙ body))
          (subst (λ (e : Ending). Gives rest (inside [] e hs stop) (asked (Ok (Some (Chunk None))) ∷ acts) more) (sym is_end)
          (given_items.end_given k one is_bare limit rest (behind ++ future) hs stop acts more (go (between hs stop) next behind there run))))
      by_item answer item new x same opens (broke item_is wrong stays body ending') =
          let answer_is : answer ≡ Err errors.Chunk = same ∙ ap message_of item_is in
          let open_is : next.body ≡ Some new = opens ∙ ap (λ (y : Result (Option PayloadItem) DecodeError). open_after y new) item_is in
          let stuck = broken_stuck k one is_bare limit acts next new behind last rest open_is wrong run in
          let is_end : ending ≡ is_broken = sym ending_is ∙ ending' in
          let others : (hs ≡ []) × (stop ≡ None) = subst (λ (e : Ending). After e (λ l. Says l hs stop) ((hs ≡ []) × (stop ≡ None))) is_end on in
          subst Given (sym answer_is)
          (given_items.is_stuck k one is_bare limit rest (inside left ending hs stop) (λ e. e ≡ errors.Chunk) (asked (Err errors.Chunk) ∷ acts) more behind
          (stuck_error k one is_bare limit (λ e. e ≡ errors.Chunk) errors.Chunk acts behind rest (λ known. refl) stuck)
          (λ error named. inl (
            ([], (λ i. record { bytes = (sym body ∙ body_is) i; closing = given_closing (closing_of (sym is_end i)) }), others.0, tt),
            inl (named, inl (others.0, is_end)),
          )))
      by_item answer item new x same opens (lacked item_is kept stays) =
          let answer_is : answer ≡ Err NoMemory = same ∙ ap message_of item_is in
          let y = subst Answered answer_is x in
          subst Given (sym answer_is)
          (given_items.lacks_answered k one is_bare limit rest (inside left ending hs stop) NoMemory acts more refl
          (go (inside left ending hs stop) next behind
          (same_stands (inside left ending hs stop) st next bytes behind future (stays_lacking st.body NoMemory st next refl y.left.1) y.left.0
          (d, is, limit_is, seen, sound, is_left, body_is, ending_is, on)) run))

      inside_given : (answer : Result (Option (Message I)) ParseError) → Answered answer → Given answer
      inside_given answer x =
          let step : IsOpenStep d bytes answer next.body behind = subst (λ (b : Option Decoding). IsStepFrom k b st.search bytes answer next.body behind) is x.step in
          by_item answer step.0 step.1 x step.3 step.4 (body_tells d bytes future step.1 behind step.0 sound is_left step.2)

    -- ---- any answer

    between_given : (hs : List H) (stop : Option Fault) (answer : Result (Option (Message I)) ParseError) → Stands (between hs stop) st bytes future
        → HasAnswered k is_bare st bytes answer next behind → Gives rest (between hs stop) (asked answer ∷ acts) more
    between_given hs stop answer (none, limit_is, seen, says) x = by_answer answer x (subst (λ (b : Option Decoding). IsStepFrom k b st.search bytes answer next.body behind) none x.step)
      where
        by_answer : (a : Result (Option (Message I)) ParseError) → HasAnswered k is_bare st bytes a next behind → IsIdleStep k st.search bytes a next.body behind
            → Gives rest (between hs stop) (asked a ∷ acts) more
        by_answer (Ok None) y step = idle_none none limit_is seen hs stop says y step
        by_answer (Ok (Some (Chunk piece))) y step = absurd step
        by_answer (Ok (Some (Item i))) y step = idle_item none limit_is seen i y hs stop says
        by_answer (Err e) y step = idle_error none limit_is seen hs stop e says y step

    answer_given : (e : Expect H) (answer : Result (Option (Message I)) ParseError) → Stands e st bytes future → HasAnswered k is_bare st bytes answer next behind
        → Gives rest e (asked answer ∷ acts) more
    answer_given (between hs stop) answer stands x = between_given hs stop answer stands x
    answer_given (inside left ending hs stop) answer (d, is, limit_is, seen, sound, is_left, body_is, ending_is, on) x =
        inside_given left ending hs stop d is limit_is seen sound is_left body_is ending_is on answer x

  -- ---- all answers

  pub run_gives : (acts : List (Act I)) (e : Expect H) (st : Standing) (bytes more : List ℕ) (last : Standing) (rest : List ℕ)
      → Stands e st bytes (bytes_came acts ++ more) → IsRun k is_bare st bytes acts last rest → Gives rest e acts more
  run_gives [] e st bytes more last rest stands run = given_items.no_acts k one is_bare limit rest e more
  run_gives (comes new ∷ acts) e st bytes more last rest stands run =
      given_items.came_first k one is_bare limit rest e new acts more (run_gives acts e st (bytes ++ new) more last rest (joined e stands) run)
    where
      text_is : (bytes ++ new) ++ (bytes_came acts ++ more) ≡ bytes ++ ((new ++ bytes_came acts) ++ more)
      text_is = append_assoc bytes new (bytes_came acts ++ more) ∙ ap (λ (l : List ℕ). bytes ++ l) (sym (append_assoc new (bytes_came acts) more))

      joined : (e : Expect H) → Stands e st bytes ((new ++ bytes_came acts) ++ more) → Stands e st (bytes ++ new) (bytes_came acts ++ more)
      joined (between hs stop) (none, limit_is, seen, says) =
          (none, limit_is, λ b. subst (HasSeen st.search) (sym (append_assoc bytes new b)) (seen (new ++ b)), subst (λ (l : List ℕ). Says l hs stop) (sym text_is) says)
      joined (inside left ending hs stop) (d, is, limit_is, seen, sound, is_left, body_is, ending_is, on) = (
        d,
        is,
        limit_is,
        seen,
        sound,
        is_left,
        ap (λ (l : List ℕ). (reading_of d.rest l).body) text_is ∙ body_is,
        ap (λ (l : List ℕ). (reading_of d.rest l).ending) text_is ∙ ending_is,
        on,
      )
  run_gives (asked answer ∷ acts) e st bytes more last rest stands (next, behind, x, run) =
      answer_given acts more last rest
      (λ e' st' bytes' stands' run'. run_gives acts e' st' bytes' more last rest stands' run')
      st next bytes behind run e answer stands x
