-- All that is promised of an answer, by what came next.
use Rattle.std.proofs.Common.{◌≡◌, ℕ, ◌↔◌, List, ◌++◌, drop, slice_range, inl, inr, refl, sym, subst, arith}
use Rattle.std.specs.Prelude.{Option, Some, None, Result, Ok, Err, IfOk, IfErr, IfSome, OnOk}
use Rattle.http_framing.specs.AnyPieces.{GoesOn, in_front}
use Rattle.http_types.specs.declared.error.ParseError.{ParseError}
use Rattle.http_types.specs.declared.error.ParseError.TheVariants.{TooLarge}
use Rattle.h1_decoder.specs.HeadPosition.{HasScanned}
use Rattle.h1_decoder.specs.Refusal.{UnlessNoMemory, fault_of}
use Rattle.h1_decoder.proofs.HeadPieceLemmas.{HasScanned-append}
use Rattle.h1_codec.specs.Kind.{says_fault, Kind}
use Rattle.h1_codec.specs.Heads.{Search, HasSeen, Item, IsItemOf, IsNext, IsNextItem, IsWaiting, IsTooLong, RefusesNext, Stops, refused, Reads, given}
use Rattle.h1_codec.proofs.GoingOn.{goes_on_behind, goes_on_in}
use Rattle.h1_codec.proofs.Refusals.{none_too_long}

-- what is promised of the answer
pub record IsAnswer {I : Type 0} (k : Kind I) (old : Search) (bytes : List ℕ) (result : Result (Option (Item I)) ParseError) (new : Search) (rest : List ℕ) : Type 0 where
  pub none : HasSeen old bytes → (result ≡ Ok None) ↔ IsWaiting old.limit bytes
  pub item : HasSeen old bytes → IfOk result (λ answer. IfSome answer (IsNextItem k old.limit bytes rest))
  pub too_long : HasSeen old bytes → IsTooLong old.limit bytes → result ≡ Err TooLarge
  pub cause : HasSeen old bytes → IfErr result (λ e. UnlessNoMemory e (RefusesNext k e old.limit bytes))
  pub fault : HasSeen old bytes → IfErr result (λ e. UnlessNoMemory e (Stops k old.limit bytes (refused (fault_of e))))
  pub goes_on : IfOk result (λ answer. GoesOn (Reads k) given old bytes (in_front (Reads k) given answer) new rest)
  pub seen : OnOk result (HasSeen old bytes → (more : List ℕ) → HasSeen new (rest ++ more))

module _ {I : Type 0} (k : Kind I) (old new : Search) (bytes rest : List ℕ) where
  -- a head
  pub head_answered : (s e : ℕ) (item : Item I) → (HasSeen old bytes → IsNext old.limit bytes s e) → IsItemOf k (slice_range bytes s e) item
      → rest ≡ drop e bytes → new.limit ≡ old.limit → ((b : List ℕ) → HasSeen new b) → IsAnswer k old bytes (Ok (Some item)) new rest
  head_answered s e item next says left same anew = record {
    none = λ seen. (λ is. cc, λ waiting. absurd (waiting.0 s e (next seen).piece));
    item = λ seen. (s, e, next seen, says, left);
    too_long = λ seen long. absurd (none_too_long old.limit bytes s e long (next seen));
    cause = λ seen. tt;
    fault = λ seen. tt;
    goes_on = goes_on_behind k old new bytes same rest item (λ seen. (s, e, next seen, says, left)) anew;
    seen = λ seen more. anew (rest ++ more);
  }

  -- none yet
  pub nothing_answered : (HasSeen old bytes → IsWaiting old.limit bytes × HasScanned new.position bytes) → rest ≡ bytes → new.limit ≡ old.limit
      → IsAnswer k old bytes (Ok None) new rest
  nothing_answered found is same =
      let on : HasSeen old bytes → (more : List ℕ) → HasSeen new (bytes ++ more) =
      λ seen more fits. HasScanned-append new.position bytes more (found seen).1 in
      let here : IsAnswer k old bytes (Ok None) new bytes = record {
        none = λ seen. (λ is. (found seen).0, λ waiting. refl);
        item = λ seen. tt;
        too_long = λ seen long. absurd (omega (arith, (found seen).0.1, long.0));
        cause = λ seen. tt;
        fault = λ seen. tt;
        goes_on = goes_on_in k old new bytes same on;
        seen = on;
      } in
      subst (λ (b : List ℕ). IsAnswer k old bytes (Ok None) new b) (sym is) here

  -- too many bytes
  pub too_long_answered : (HasSeen old bytes → IsTooLong old.limit bytes) → IsAnswer k old bytes (Err TooLarge) new rest
  too_long_answered long = record {
    none = λ seen. (λ is. cc, λ waiting. absurd (omega (arith, waiting.1, (long seen).0)));
    item = λ seen. tt;
    too_long = λ seen also. refl;
    cause = λ seen known. inl (long seen, refl);
    fault = λ seen known. inl (long seen, refl);
    goes_on = tt;
    seen = tt;
  }

  -- a head that is refused
  pub refusal_answered : (s e : ℕ) (error : ParseError) → (HasSeen old bytes → IsNext old.limit bytes s e)
      → UnlessNoMemory error (k.reads (slice_range bytes s e) (says_fault (fault_of error))) → UnlessNoMemory error (k.refuses error (slice_range bytes s e))
      → IsAnswer k old bytes (Err error) new rest
  refusal_answered s e error next fault cause = record {
    none = λ seen. (λ is. cc, λ waiting. absurd (waiting.0 s e (next seen).piece));
    item = λ seen. tt;
    too_long = λ seen long. absurd (none_too_long old.limit bytes s e long (next seen));
    cause = λ seen known. inr (s, e, next seen, cause known);
    fault = λ seen known. inr (s, e, next seen, fault known);
    goes_on = tt;
    seen = tt;
  }

-- the same of a decoder as it is inside, and of slices that are the bytes
module _ {I : Type 0} (k : Kind I) (inside old new : Search) (view : inside ≡ old) (text bytes rest : List ℕ) (is : text ≡ bytes) where
  of_old : (result : Result (Option (Item I)) ParseError) → IsAnswer k inside bytes result new rest → IsAnswer k old bytes result new rest
  of_old result x = subst (λ (d : Search). IsAnswer k d bytes result new rest) view x

  pub by_head : (s e : ℕ) (item : Item I) (text' : List ℕ) → (HasSeen inside text → IsNext inside.limit text s e) → text' ≡ bytes
      → IsItemOf k (slice_range text' s e) item → rest ≡ drop e bytes → new.limit ≡ inside.limit → ((b : List ℕ) → HasSeen new b)
      → IsAnswer k old bytes (Ok (Some item)) new rest
  by_head s e item text' next also says left same anew =
      of_old (Ok (Some item)) (head_answered k inside new bytes rest s e item
      (subst (λ (b : List ℕ). HasSeen inside b → IsNext inside.limit b s e) is next)
      (subst (λ (b : List ℕ). IsItemOf k (slice_range b s e) item) also says) left same anew)

  pub by_none : (HasSeen inside text → IsWaiting inside.limit text × HasScanned new.position text) → rest ≡ bytes → new.limit ≡ inside.limit
      → IsAnswer k old bytes (Ok None) new rest
  by_none found left same =
      of_old (Ok None) (nothing_answered k inside new bytes rest
      (subst (λ (b : List ℕ). HasSeen inside b → IsWaiting inside.limit b × HasScanned new.position b) is found) left same)

  pub by_length : (HasSeen inside text → IsTooLong inside.limit text) → IsAnswer k old bytes (Err TooLarge) new rest
  by_length long =
      of_old (Err TooLarge) (too_long_answered k inside new bytes rest (subst (λ (b : List ℕ). HasSeen inside b → IsTooLong inside.limit b) is long))

  pub by_refusal : (s e : ℕ) (error : ParseError) (text' : List ℕ) → (HasSeen inside text → IsNext inside.limit text s e) → text' ≡ bytes
      → UnlessNoMemory error (k.reads (slice_range text' s e) (says_fault (fault_of error))) → UnlessNoMemory error (k.refuses error (slice_range text' s e))
      → IsAnswer k old bytes (Err error) new rest
  by_refusal s e error text' next also fault cause =
      of_old (Err error) (refusal_answered k inside new bytes rest s e error
      (subst (λ (b : List ℕ). HasSeen inside b → IsNext inside.limit b s e) is next)
      (subst (λ (b : List ℕ). UnlessNoMemory error (k.reads (slice_range b s e) (says_fault (fault_of error)))) also fault)
      (subst (λ (b : List ℕ). UnlessNoMemory error (k.refuses error (slice_range b s e))) also cause))
