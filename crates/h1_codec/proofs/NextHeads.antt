-- What is answered where no body is open, by the answer of the decoder of heads.
use Rattle.std.proofs.Common.{◌≡◌, ℕ, Bool, List, [], ◌∷◌, ◌++◌, slice_range, ◌↔◌, inl, inr, refl, sym, ap, ◌∙◌, subst, arith}
use Rattle.std.proofs.lemmas.List.{drop-append-le}
use Rattle.std.specs.Prelude.{Option, Some, None, Result, Ok, Err, OnOk}
use Rattle.http_map.specs.HeaderMap.{Entries}
use Rattle.http_types.specs.declared.error.ParseError.{ParseError}
use Rattle.http_types.specs.declared.error.ParseError.TheVariants as errors
use Rattle.model_h1.specs.Reading.{Ending, goes_on, is_broken, ends_before}
use Rattle.h1_decoder.specs.Refusal.{UnlessNoMemory, fault_of}
use Rattle.model_h1.specs.Request.{Fault}
use Rattle.model_h1.proofs.HeadPieceLemmas.{head_piece_unique, slice_range-append}
use Rattle.h1_payload.specs.Decoding.{Decoding}
use Rattle.h1_codec.specs.Kind.{Reading, says_head, says_fault, Kind, IsOneReading}
use Rattle.h1_codec.specs.Heads.{Search, HasSeen, IsItemOf, IsNextItem, IsWaiting, RefusesNext, Stop, waits, refused, Stops}
use Rattle.h1_codec.specs.declared.payload_type.PayloadType.{PayloadType}
use Rattle.h1_codec.proofs.GoingOn.{seen_front, next_append}
use Rattle.h1_codec.proofs.Refusals.{none_too_long, one_stop}
use Rattle.h1_codec.specs.declared.framed_message.Message.TheVariants.{Item}
use Rattle.h1_codec.specs.ServerAnswers.{IsNexted, IsHeadGiven, IsHeadBeside, as_message}
use Rattle.h1_codec.specs.FramedMessages.{Part, no_part, Messages, Breaks, body_of, After, IsPart, AreMessages, HasLooked, Standing}

-- what follows a body may be said in another way
after_by : (ending : Ending) (G H : List ℕ → Type 0) (S : Type 0) → ((left : List ℕ) → G left → H left) → After ending G S → After ending H S
after_by goes_on G H S f x = x
after_by is_broken G H S f x = x
after_by (ends_before left) G H S f x = f left x

part_by : (body : Option Decoding) (bytes : List ℕ) (part : Part) (G H : List ℕ → Type 0) (S : Type 0) → ((left : List ℕ) → G left → H left)
    → IsPart body bytes part G S → IsPart body bytes part H S
part_by None bytes part G H S f (is, on) = (is, f bytes on)
part_by (Some d) bytes part G H S f (p, reads, is, on) = (p, reads, is, after_by p.ending G H S f on)

-- an error other than that of chunks says that the next head is refused
breaks_by : {I : Type 0} (e : ParseError) (all : Messages I) → ¬ (e ≡ errors.Chunk)
    → all ≡ record { part = no_part; messages = []; stop = refused (fault_of e) } → Breaks e all
breaks_by errors.Chunk all other is = absurd (other refl)
breaks_by e all other is = is

-- no head, as its decoder answers it
pub waits_given : {I : Type 0} (k : Kind I) (is_bare : Bool) (old new : Search) (bytes rest : List ℕ) (body : Option Decoding)
    (result : Result (Option (I × PayloadType)) ParseError) → result ≡ Ok None → (HasSeen old bytes → (result ≡ Ok None) ↔ IsWaiting old.limit bytes)
    → OnOk result (HasSeen old bytes → (more : List ℕ) → HasSeen new (rest ++ more)) → rest ≡ bytes → IsHeadGiven k is_bare old bytes (Ok None) new body rest
waits_given {I} k is_bare old new bytes rest body result is none seen_on stays =
    let on : HasSeen old bytes → (more : List ℕ) → HasSeen new (rest ++ more) =
    subst (λ (r : Result (Option (I × PayloadType)) ParseError). OnOk r (HasSeen old bytes → (more : List ℕ) → HasSeen new (rest ++ more))) is seen_on in
    (λ seen. (none seen).0 is, λ seen more. subst (λ (l : List ℕ). HasSeen new (l ++ more)) stays (on seen more), stays)

module _ {I : Type 0} (k : Kind I) (one : IsOneReading k) (is_bare : Bool) where
  -- where no head is whole nothing is read
  pub none_read : (limit : ℕ) (bytes : List ℕ) (ms : List (I × Part)) (stop : Stop) → IsWaiting limit bytes → AreMessages k is_bare limit bytes ms stop
      → (ms ≡ []) × (stop ≡ waits)
  none_read limit bytes [] waits waiting said = (refl, refl)
  none_read limit bytes [] (refused fault) waiting (inl (long, is)) = absurd (omega (arith, waiting.1, long.0))
  none_read limit bytes [] (refused fault) waiting (inr (s, e, next, reading)) = absurd (waiting.0 s e next.piece)
  none_read limit bytes (m ∷ ms) stop waiting (s, e, kind, next, is, part) = absurd (waiting.0 s e next.piece)

  -- where a head is refused nothing else is read
  pub refusal_read : (limit : ℕ) (bytes : List ℕ) (fault : Fault) (ms : List (I × Part)) (stop : Stop) → Stops k limit bytes (refused fault)
      → AreMessages k is_bare limit bytes ms stop → (ms ≡ []) × (stop ≡ refused fault)
  refusal_read limit bytes fault [] stop stops said = (refl, (one_stop k one limit bytes fault [] stop stops said).1)
  refusal_read limit bytes fault (m ∷ ms) stop (inl (long, is)) (s, e, kind, next, said, part) = absurd (none_too_long limit bytes s e long next)
  refusal_read limit bytes fault (m ∷ ms) stop (inr (s', e', next', reading)) (s, e, kind, next, said, part) =
      let same = head_piece_unique bytes s e s' e' next.piece next'.piece in
      let there : k.reads (slice_range bytes s' e') (says_head said.head) =
      subst (λ (n : ℕ). k.reads (slice_range bytes s' n) (says_head said.head)) same.1
      (subst (λ (n : ℕ). k.reads (slice_range bytes n e) (says_head said.head)) same.0 said.reading) in
      let both : ◌≡◌ {A = Reading k.Head} (says_head said.head) (says_fault fault) =
      one (slice_range bytes s' e') (says_head said.head) (says_fault fault) there reading in
      absurd (cc both)

  module _ (old new : Search) (bytes rest : List ℕ) (before : Option Entries) where
    abbrev closed : Search → Standing
    closed s = record { search = s; body = None }

    pub head_came : (item : I) (kind : PayloadType) (body : Option Decoding) → (HasSeen old bytes → IsNextItem k old.limit bytes rest (item, kind))
        → ((b : List ℕ) → HasSeen new b) → new.limit ≡ old.limit → body ≡ body_of is_bare kind
        → IsNexted k is_bare (closed old) bytes before (Ok (Some (Item item))) (record { search = new; body = body }) rest None
    head_came item kind body taken anew same opens = record {
      goes_on = λ z r reads. (
        refl,
        λ seen.
            let (s, e, next, is, left) = taken (seen_front old.position bytes z seen) in
            let fits = next.piece.in_range in
            let here : IsPart (body_of is_bare kind) (rest ++ z) r.part (λ l. HasSeen new l → AreMessages k is_bare new.limit l r.messages r.stop) ((r.messages ≡ []) × (r.stop ≡ waits)) =
            subst (λ (b : Option Decoding). IsPart b (rest ++ z) r.part (λ l. HasSeen new l → AreMessages k is_bare new.limit l r.messages r.stop) ((r.messages ≡ []) × (r.stop ≡ waits)))
            opens reads in
            let there : IsPart (body_of is_bare kind) (rest ++ z) r.part (λ l. AreMessages k is_bare old.limit l r.messages r.stop) ((r.messages ≡ []) × (r.stop ≡ waits)) =
            part_by (body_of is_bare kind) (rest ++ z) r.part (λ l. HasSeen new l → AreMessages k is_bare new.limit l r.messages r.stop)
            (λ l. AreMessages k is_bare old.limit l r.messages r.stop) ((r.messages ≡ []) × (r.stop ≡ waits))
            (λ l on. subst (λ (n : ℕ). AreMessages k is_bare n l r.messages r.stop) same (on (anew l))) here in (
              s,
              e,
              kind,
              next_append old.limit bytes z s e next,
              subst (λ (p : List ℕ). IsItemOf k p (item, kind)) (sym (slice_range-append bytes z s e next.piece.ordered fits)) is,
              subst (λ (b : List ℕ). IsPart (body_of is_bare kind) b r.part (λ l. AreMessages k is_bare old.limit l r.messages r.stop) ((r.messages ≡ []) × (r.stop ≡ waits)))
                  (ap (λ (l : List ℕ). l ++ z) left ∙ sym (drop-append-le e bytes z fits)) there,
            ),
      );
      waiting = λ e. absurd (cc e);
      refusing = tt;
      lacking = tt;
      left = tt;
      cause = tt;
      item = λ seen. (kind, opens, taken seen);
      some = tt;
      ended = tt;
      looked = λ seen more. looked_by body (rest ++ more);
      trailers = refl;
      kept = tt;
      limit = same;
    }
      where
        looked_by : (b : Option Decoding) (l : List ℕ) → HasLooked b new l
        looked_by None l = anew l
        looked_by (Some d) l = anew

    pub none_came : (HasSeen old bytes → IsWaiting old.limit bytes) → (HasSeen old bytes → (more : List ℕ) → HasSeen new (bytes ++ more))
        → rest ≡ bytes → new.limit ≡ old.limit → IsNexted k is_bare (closed old) bytes before (Ok None) (closed new) rest before
    none_came waiting seen_on stays same = record {
      goes_on = λ z r (is, on). (
        is,
        λ seen.
            let on_bytes : HasSeen new (bytes ++ z) → AreMessages k is_bare new.limit (bytes ++ z) r.messages r.stop =
            subst (λ (l : List ℕ). HasSeen new (l ++ z) → AreMessages k is_bare new.limit (l ++ z) r.messages r.stop) stays on in
            subst (λ (n : ℕ). AreMessages k is_bare n (bytes ++ z) r.messages r.stop) same (on_bytes (seen_on (seen_front old.position bytes z seen) z)),
      );
      waiting = λ e seen said (is, on).
          let none = none_read old.limit bytes said.messages said.stop (waiting seen) (on seen) in
          λ i. record { part = is i; messages = none.0 i; stop = none.1 i };
      refusing = tt;
      lacking = tt;
      left = tt;
      cause = tt;
      item = tt;
      some = tt;
      ended = tt;
      looked = λ seen more. subst (λ (l : List ℕ). HasSeen new (l ++ more)) (sym stays) (seen_on seen more);
      trailers = refl;
      kept = tt;
      limit = same;
    }

    pub error_came : (error : ParseError) → (HasSeen old bytes → UnlessNoMemory error (RefusesNext k error old.limit bytes))
        → (HasSeen old bytes → UnlessNoMemory error (Stops k old.limit bytes (refused (fault_of error)))) → ((piece : List ℕ) → ¬ (k.refuses errors.Chunk piece))
        → new ≡ old → rest ≡ bytes → IsNexted k is_bare (closed old) bytes before (Err error) (closed new) rest before
    error_came error cause fault no_chunk same stays =
        let as_before : closed new ≡ closed old = ap closed same in
        record {
          goes_on = tt;
          waiting = λ e. absurd (cc e);
          refusing = λ known seen said (is, on).
              let none = refusal_read old.limit bytes (fault_of error) said.messages said.stop (fault seen known) (on seen) in
              let all : ◌≡◌ {A = Messages I} said (record { part = no_part; messages = []; stop = refused (fault_of error) }) =
              λ i. record { part = is i; messages = none.0 i; stop = none.1 i } in
              breaks_by error said (λ chunk. other_error chunk (cause seen known)) all;
          lacking = λ e. (as_before, stays);
          left = (stays, as_before);
          cause = λ none. cause;
          item = tt;
          some = tt;
          ended = tt;
          looked = tt;
          trailers = tt;
          kept = refl;
          limit = ap (λ (s : Search). s.limit) same;
        }
      where
        other_error : error ≡ errors.Chunk → RefusesNext k error old.limit bytes → ⊥
        other_error chunk (inl (long, is)) = let never : ◌≡◌ {A = ParseError} errors.Chunk errors.TooLarge = sym chunk ∙ is in cc never
        other_error chunk (inr (s, e, next, refuses)) =
            no_chunk (slice_range bytes s e) (subst (λ (x : ParseError). k.refuses x (slice_range bytes s e)) chunk refuses)

    -- the item that a head is, after what its decoder answered
    pub head_given : (no_chunk : (piece : List ℕ) → ¬ (k.refuses errors.Chunk piece)) (head : Result (Option I) ParseError) (body : Option Decoding) (now : Option Entries)
        → IsHeadGiven k is_bare old bytes head new body rest → IsHeadBeside head None before body now → new.limit ≡ old.limit
        → IsNexted k is_bare (closed old) bytes before (as_message head) (record { search = new; body = body }) rest now
    head_given no_chunk (Ok (Some item)) body now (kind, opens, taken, anew) gone same =
        subst (λ (n : Option Entries). IsNexted k is_bare (closed old) bytes before (Ok (Some (Item item))) (record { search = new; body = body }) rest n) (sym gone)
        (head_came item kind body taken anew same opens)
    head_given no_chunk (Ok None) body now (waiting, seen_on, stays) (was, kept) same =
        subst (λ (n : Option Entries). IsNexted k is_bare (closed old) bytes before (Ok None) (record { search = new; body = body }) rest n) (sym kept)
        (subst (λ (b : Option Decoding). IsNexted k is_bare (closed old) bytes before (Ok None) (record { search = new; body = b }) rest before) (sym was)
        (none_came waiting seen_on stays same))
    head_given no_chunk (Err error) body now (cause, fault, as_before, stays) (was, kept) same =
        subst (λ (n : Option Entries). IsNexted k is_bare (closed old) bytes before (Err error) (record { search = new; body = body }) rest n) (sym kept)
        (subst (λ (b : Option Decoding). IsNexted k is_bare (closed old) bytes before (Err error) (record { search = new; body = b }) rest before) (sym was)
        (error_came error cause fault no_chunk as_before stays))
