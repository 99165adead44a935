-- Behind an answer a decoder goes on in what is left.
use Rattle.std.proofs.Common.{◌≡◌, ℕ, List, ◌++◌, sym, ap, ◌∙◌, subst, arith, length-append}
use Rattle.std.proofs.lemmas.List.{take-append-le, drop-append-le}
use Rattle.http_framing.specs.AnyPieces.{GoesOn}
use Rattle.model_h1.specs.HeadPiece.{AreBlankLines, HasNoHeadPiece}
use Rattle.model_h1.proofs.HeadPieceLemmas.{head_piece_append, slice_range-append}
use Rattle.h1_decoder.specs.HeadPosition.{HeadPosition, IsSeenIn}
use Rattle.h1_codec.specs.Kind.{Kind}
use Rattle.h1_codec.specs.Heads.{Search, HasSeen, Item, IsItemOf, IsNext, IsNextItem, Heads, AreHeads, Reads, given}

-- what was seen of more bytes was seen of these
pub seen_front : (position : HeadPosition) (bytes more : List ℕ) → IsSeenIn position (bytes ++ more) → IsSeenIn position bytes
seen_front position bytes more seen fits =
    let has = seen (omega (arith, fits, length-append bytes more)) in
    record {
      ordered = has.ordered;
      in_range = fits;
      blank = subst AreBlankLines (take-append-le position.start bytes more (omega (arith, has.ordered, fits))) has.blank;
      no_head = subst HasNoHeadPiece (take-append-le position.scanned bytes more fits) has.no_head;
    }

-- the next head stays the next
pub next_append : (limit : ℕ) (bytes more : List ℕ) (s e : ℕ) → IsNext limit bytes s e → IsNext limit (bytes ++ more) s e
next_append limit bytes more s e next = record { piece = head_piece_append bytes more s e next.piece; within = next.within }

module _ {I : Type 0} (k : Kind I) (old new : Search) (bytes : List ℕ) (same : new.limit ≡ old.limit) where
  -- behind a head it has seen nothing
  pub goes_on_behind : (rest : List ℕ) (item : Item I) → (HasSeen old bytes → IsNextItem k old.limit bytes rest item)
      → ((b : List ℕ) → HasSeen new b) → GoesOn (Reads k) given old bytes (given item) new rest
  goes_on_behind rest item taken anew z r reads seen =
      let (s, e, next, is, left) = taken (seen_front old.position bytes z seen) in
      let fits = next.piece.in_range in
      let heads : AreHeads k old.limit (rest ++ z) r.items r.stop =
      subst (λ (l : ℕ). AreHeads k l (rest ++ z) r.items r.stop) same (reads (anew (rest ++ z))) in (
        s,
        e,
        next_append old.limit bytes z s e next,
        subst (λ (p : List ℕ). IsItemOf k p item) (sym (slice_range-append bytes z s e next.piece.ordered fits)) is,
        subst (λ (b : List ℕ). AreHeads k old.limit b r.items r.stop) (ap (λ (l : List ℕ). l ++ z) left ∙ sym (drop-append-le e bytes z fits)) heads,
      )

  -- where nothing was answered it has seen all bytes
  pub goes_on_in : (HasSeen old bytes → (z : List ℕ) → HasSeen new (bytes ++ z)) → GoesOn (Reads k) given old bytes (λ (r : Heads I). r) new bytes
  goes_on_in on z r reads seen =
      subst (λ (l : ℕ). AreHeads k l (bytes ++ z) r.items r.stop) same (reads (on (seen_front old.position bytes z seen) z))
