-- The first bytes, among which alone a head is searched for.
use Rattle.std.proofs.Common.{◌≡◌, ℕ, ◌<◌, ◌≤◌, min, List, length, take, drop, sym, subst, arith}
use Rattle.std.proofs.lemmas.List.{take-take, take-append-drop, take_all, length-take}
use Rattle.model_h1.specs.HeadPiece.{AreBlankLines, IsHeadPiece, HasNoHeadPiece}
use Rattle.model_h1.proofs.HeadPieceLemmas.{head_piece_append}
use Rattle.h1_decoder.specs.HeadPosition.{HeadPosition, IsSeenIn}
use Rattle.h1_codec.specs.Heads.{IsNext, IsWaiting, IsTooLong}

module _ (limit len : ℕ) (bytes : List ℕ) (is : len ≡ min (length bytes) limit) where
  -- what was seen of all bytes was seen of them
  pub seen_first : (position : HeadPosition) → IsSeenIn position bytes → IsSeenIn position (take len bytes)
  seen_first position seen fits =
      let has = seen (omega (arith, fits, length-take len bytes)) in
      let few : position.scanned ≤ len = omega (arith, fits, length-take len bytes) in
      record {
        ordered = has.ordered;
        in_range = fits;
        blank = subst AreBlankLines (sym (take-take position.start len bytes (omega (arith, has.ordered, few)))) has.blank;
        no_head = subst HasNoHeadPiece (sym (take-take position.scanned len bytes few)) has.no_head;
      }

  -- a head among them is the first of all bytes
  pub is_next : (s e : ℕ) → IsHeadPiece (take len bytes) s e → IsNext limit bytes s e
  is_next s e piece = record {
    piece = subst (λ (b : List ℕ). IsHeadPiece b s e) (take-append-drop len bytes) (head_piece_append (take len bytes) (drop len bytes) s e piece);
    within = omega (arith, piece.in_range, length-take len bytes, is);
  }

  -- where none is and they are fewer than the limit, they are all bytes
  pub all_bytes : len < limit → take len bytes ≡ bytes
  all_bytes few = take_all len bytes (omega (arith, is, few))

  pub is_waiting : HasNoHeadPiece (take len bytes) → len < limit → IsWaiting limit bytes
  is_waiting none few = (subst HasNoHeadPiece (all_bytes few) none, omega (arith, is, few))

  pub is_too_long : HasNoHeadPiece (take len bytes) → limit ≤ len → IsTooLong limit bytes
  is_too_long none many =
      let same : len ≡ limit = omega (arith, is, many) in
      (omega (arith, is, many), subst (λ (n : ℕ). HasNoHeadPiece (take n bytes)) same none)
