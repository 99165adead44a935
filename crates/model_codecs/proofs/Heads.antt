-- What is answered while no body is open, where the next head is known.
use Rattle.std.proofs.Common.{◌≡◌, ℕ, ◌<◌, ◌≤◌, List, [], ◌++◌, length, drop, slice_range, sym, ap, ◌∙◌, subst, arith, inl, inr, append-nil}
use Rattle.std.proofs.Math.Seq.{take-append_seam}
use Rattle.std.proofs.lemmas.List.{drop_at, drop-append-le}
use Rattle.std.proofs.lemmas.Slice.{between_is}
use Rattle.model_h1.specs.HeadPiece.{IsHeadPiece, HasNoHeadPiece}
use Rattle.model_h1.specs.Request.{Fault}
use Rattle.model_h1.proofs.HeadPieceLemmas.{head_piece_unique, slice_range-append}
use Rattle.model_h1.proofs.ExampleLemmas.{nothing_behind}
use Rattle.h1_codec.specs.Kind.{Reading, says_head, says_fault, Kind, IsOneReading}
use Rattle.h1_codec.specs.Heads.{IsNext, IsNextItem, payload_of, refused, Stops}
use Rattle.h1_codec.specs.declared.payload_type.PayloadType.{PayloadType}
use Rattle.h1_codec.proofs.GoingOn.{next_append}
use Rattle.h1_codec.proofs.Refusals.{none_too_long, stops_append}
use Rattle.model_codecs.specs.Given.{Sent}

-- the head stands in front of whatever follows, within the limit, and is read back
pub record IsHeadSent {I : Type 0} (k : Kind I) (limit : ℕ) (s : Sent k) : Type 0 where
  pub piece : (more : List ℕ) → IsHeadPiece (s.head ++ more) 0 (length s.head)
  pub fits : length s.head ≤ limit
  pub reads : k.reads s.head (says_head s.says)

-- no head stands in no bytes
pub no_head_in_none : (bytes : List ℕ) → bytes ≡ [] → HasNoHeadPiece bytes
no_head_in_none bytes none = subst HasNoHeadPiece (sym none) nothing_behind

module _ {I : Type 0} (k : Kind I) (one : IsOneReading k) (limit : ℕ) where
  -- nothing is refused where nothing is
  pub none_refused : (bytes : List ℕ) (fault : Fault) → 0 < limit → bytes ≡ [] → Stops k limit bytes (refused fault) → ⊥
  none_refused bytes fault some none (inl (long, is)) = omega (arith, some, long.0, ap length none)
  none_refused bytes fault some none (inr (s, e, next, reading)) = no_head_in_none bytes none s e next.piece

  module _ (s : Sent k) (is : IsHeadSent k limit s) (more : List ℕ) where
    abbrev all : List ℕ
    all = s.head ++ more

    there : IsNext limit all 0 (length s.head)
    there = record { piece = is.piece more; within = is.fits }

    slice : slice_range all 0 (length s.head) ≡ s.head
    slice = between_is all 0 (length s.head) ∙ take-append_seam s.head more

    -- what is read of the next head is the head
    only_reading : (start end : ℕ) (r : Reading k.Head) → IsNext limit all start end → k.reads (slice_range all start end) r → (end ≡ length s.head) × (r ≡ says_head s.says)
    only_reading start end r next reads =
        let same = head_piece_unique all start end 0 (length s.head) next.piece (is.piece more) in
        let here : k.reads (slice_range all 0 (length s.head)) r =
        subst (λ (n : ℕ). k.reads (slice_range all 0 n) r) same.1 (subst (λ (n : ℕ). k.reads (slice_range all n end) r) same.0 reads) in
        (same.1, one s.head r (says_head s.says) (subst (λ (p : List ℕ). k.reads p r) slice here) is.reads)

    -- it isn't refused
    never_refused : (fault : Fault) → Stops k limit all (refused fault) → ⊥
    never_refused fault (inl (long, same)) = none_too_long limit all 0 (length s.head) long there
    never_refused fault (inr (start, end, next, reading)) =
        let never : ◌≡◌ {A = Reading k.Head} (says_fault fault) (says_head s.says) = (only_reading start end (says_fault fault) next reading).1 in
        cc never

    pub head_fine : (bytes future : List ℕ) (fault : Fault) → bytes ++ future ≡ all → Stops k limit bytes (refused fault) → ⊥
    head_fine bytes future fault text stops =
        never_refused fault (subst (λ (l : List ℕ). Stops k limit l (refused fault)) text (stops_append k one limit bytes future fault stops))

    -- an item is it, and is taken whole
    pub record IsTaken (item : I) (kind : PayloadType) (left : List ℕ) : Type 0 where
      pub says : k.says item s.says
      pub payload : kind ≡ payload_of (k.body s.says)
      pub behind : left ≡ more

    pub head_taken : (bytes future rest : List ℕ) (item : I) (kind : PayloadType) → bytes ++ future ≡ all → IsNextItem k limit bytes rest (item, kind)
        → IsTaken item kind (rest ++ future)
    head_taken bytes future rest item kind text (start, end, next, found, left) =
        let next' : IsNext limit all start end = subst (λ (l : List ℕ). IsNext limit l start end) text (next_append limit bytes future start end next) in
        let reading : k.reads (slice_range all start end) (says_head found.head) =
        subst (λ (l : List ℕ). k.reads (slice_range l start end) (says_head found.head)) text
        (subst (λ (p : List ℕ). k.reads p (says_head found.head)) (sym (slice_range-append bytes future start end next.piece.ordered next.piece.in_range)) found.reading) in
        let both = only_reading start end (says_head found.head) next' reading in
        let same : ◌≡◌ {A = Reading k.Head} (says_head found.head) (says_head s.says) = both.1 in
        let head : found.head ≡ s.says = cc same in
        record {
          says = subst (k.says item) head found.says;
          payload = found.payload ∙ ap (λ (h : k.Head). payload_of (k.body h)) head;
          behind = ap (λ (l : List ℕ). l ++ future) left ∙ sym (drop-append-le end bytes future next.piece.in_range) ∙ ap (drop end) text
              ∙ drop_at s.head more end (sym both.0);
        }

    -- while it is there it isn't waited for
    pub head_there : (bytes future : List ℕ) → bytes ++ future ≡ all → future ≡ [] → HasNoHeadPiece bytes → ⊥
    head_there bytes future text none nothing_more =
        let same : bytes ≡ all = sym (append-nil bytes) ∙ ap (λ (l : List ℕ). bytes ++ l) (sym none) ∙ text in
        subst HasNoHeadPiece same nothing_more 0 (length s.head) (is.piece more)
