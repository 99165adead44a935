-- A head that was parsed and cut off where no byte was searched.
use Rattle.std.proofs.Math.Seq.{take-append_seam}
use Rattle.std.proofs.lemmas.Slice.{between_is}
use Rattle.std.proofs.Common.{◌≡◌, ℕ, List, [], ◌++◌, length, take, Some, inl, inr, refl, sym, ap, ◌∙◌, subst}
use Rattle.std.specs.Prelude.{slice_range, ◌⊎◌}
use Rattle.model_h1.specs.HeadPiece.{IsHeadPiece}
use Rattle.h1_decoder.specs.declared.scan.HeadScan.{HeadScan}
use Rattle.h1_decoder.specs.declared.scan.HeadScan.TheVariants.{Piece}
use Rattle.h1_connection.specs.Scan.{scan_of}
use Rattle.h1_connection.specs.Incoming.{Incoming, incoming, due_in, is_coming_in, IsHeadIn, IsHeadOf, IsWhole, IsSearchedTo, IsSearched, HasSearched, IsCutNoted}
use Rattle.h1_connection.specs.declared.connection.head_search.Search.{Search}
use Rattle.h1_connection.specs.declared.connection.head_search.Search.TheVariants.{Off, Due, Done}
use Rattle.h1_connection.proofs.InputLemmas.{scan_is, due_front, due_searched, due_incoming}

-- the view of bytes that weren't searched
pub due_view : (front bytes : List ℕ) (i : Incoming) (search : Search) → search ≡ Due → IsSearched front bytes search → incoming front bytes search ≡ i → due_in bytes ≡ i
due_view front bytes i search is searched view =
    let empty = due_front front bytes search is searched in
    (λ j. incoming (sym empty j) bytes (sym is j)) ∙ view

-- it is the one that a search finds
found_piece : (bytes : List ℕ) (end : ℕ) → IsHeadPiece bytes 0 end → scan_of bytes ≡ Piece 0 end
found_piece bytes end here = sym (scan_is bytes (Piece 0 end) here)

pub found_whole : (bytes : List ℕ) (end : ℕ) → IsHeadPiece bytes 0 end → IsWhole (due_in bytes)
found_whole bytes end here = ap (λ (p : HeadScan). is_coming_in (Some p)) (found_piece bytes end here)

-- and the bytes that were cut off are its own
pub found_head : (front rest bytes : List ℕ) → front ++ rest ≡ bytes → IsHeadPiece bytes 0 (length front) → IsHeadOf (due_in bytes) (Some front)
found_head front rest bytes all here =
    let cut : front ≡ slice_range bytes 0 (length front) =
    sym (between_is bytes 0 (length front) ∙ ap (take (length front)) (sym all) ∙ take-append_seam front rest) in
    subst (λ (p : HeadScan). IsHeadIn (due_in bytes) (Some p) (Some front)) (sym (found_piece bytes (length front) here))
    (here, ap (λ (l : List ℕ). Some l) cut)

-- ---- what is kept behind it

module _ (front rest bytes : List ℕ) (all : front ++ rest ≡ bytes) where
  piece_same : (piece : HeadScan) → IsHeadPiece bytes 0 (length front) → piece ≡ Piece 0 (length front)
      → record { unread = front ++ rest; piece = Some piece } ≡ due_in bytes
  piece_same piece here is =
      let found : piece ≡ scan_of bytes = is ∙ sym (found_piece bytes (length front) here) in
      λ i. record { unread = all i; piece = Some (found i) }

  -- where a head was cut off, or nothing was
  noted_both : (search : Search) → (front ≡ []) ⊎ IsHeadPiece bytes 0 (length front) → IsCutNoted front search
      → (incoming front rest search ≡ due_in bytes) × IsSearched front rest search
  noted_both Off cut is = absurd is
  noted_both Due cut is = ((λ i. record { unread = all i; piece = Some (scan_of (all i)) }), is)
  noted_both (Done scan) (inl none) is = absurd (is.0 none)
  noted_both (Done scan) (inr here) is = (
    piece_same scan.piece here is.1,
    subst (λ (p : HeadScan). IsSearchedTo front rest scan.scanner p) (sym is.1) (subst (λ (l : List ℕ). IsHeadPiece l 0 (length front)) (sym all) here, inr refl),
  )

  pub noted_same : (search : Search) → (front ≡ []) ⊎ IsHeadPiece bytes 0 (length front) → IsCutNoted front search → incoming front rest search ≡ due_in bytes
  noted_same search cut is = (noted_both search cut is).0

  pub noted_searched : (search : Search) → (front ≡ []) ⊎ IsHeadPiece bytes 0 (length front) → IsCutNoted front search → IsSearched front rest search
  noted_searched search cut is = (noted_both search cut is).1

  -- where nothing was cut off and the bytes were searched then
  pub uncut_searched : (seen : List ℕ) (after : Search) → front ≡ [] → seen ≡ rest → HasSearched seen after → IsSearched front rest after
  uncut_searched seen after none is done = due_searched front rest seen Due after refl is none done

  pub uncut_same : (seen : List ℕ) (after : Search) → front ≡ [] → seen ≡ rest → HasSearched seen after → incoming front rest after ≡ due_in bytes
  uncut_same seen after none is done = due_incoming front rest seen Due after refl is none done ∙ noted_same Due (inl none) none
