-- The search for a head in the bytes that are held.
use Rattle.std.proofs.Common.{◌≡◌, ℕ, Bool, true, false, List, [], ◌++◌, Option, Some, None, refl, sym, ap, ◌∙◌, subst}
use Rattle.std.specs.Prelude.{is_some}
use Rattle.model_h1.specs.HeadPiece.{IsHeadPiece}
use Rattle.model_h1.proofs.HeadPieceLemmas.{head_piece_append}
use Rattle.h1_decoder.specs.declared.scan.HeadScan.{HeadScan}
use Rattle.h1_decoder.specs.declared.scan.HeadScan.TheVariants.{Open, Piece}
use Rattle.h1_decoder.specs.HeadPosition.{HeadPosition, HasScanned}
use Rattle.h1_decoder.specs.HeadScan.{AnswersScan}
use Rattle.h1_decoder.proofs.HeadPieceLemmas.{HasScanned-append}
use Rattle.h1_client.specs.Incoming.{Incoming, incoming, IsFound, IsFoundIn, IsSearchedTo, IsSearched, CanScan, CanGoOn, place_in}
use Rattle.h1_client.specs.declared.connection.input.Scan.{Scan}

-- ---- what was found

found_to : (bytes : List ℕ) (scanner : HeadPosition) (piece : HeadScan) → IsSearchedTo bytes scanner piece → AnswersScan bytes piece
found_to bytes scanner Open searched = searched.1
found_to bytes scanner (Piece start end) searched = searched

pub found_of : (bytes : List ℕ) (search : Option Scan) → IsSearched bytes search → IsFound (incoming bytes search)
found_of bytes None searched = tt
found_of bytes (Some scan) searched = found_to bytes scan.scanner scan.piece searched

-- ---- a search

searched_to : (bytes : List ℕ) (scanner : HeadPosition) (piece : HeadScan) → AnswersScan bytes piece → HasScanned scanner bytes → IsSearchedTo bytes scanner piece
searched_to bytes scanner Open answer scanned = (scanned, answer)
searched_to bytes scanner (Piece start end) answer scanned = answer

pub is_searched : (bytes : List ℕ) (scan : Scan) → AnswersScan bytes scan.piece → HasScanned scan.scanner bytes → IsSearched bytes (Some scan)
is_searched bytes scan answer scanned = searched_to bytes scan.scanner scan.piece answer scanned

-- ---- more bytes

can_scan : (bytes more : List ℕ) (scanner : HeadPosition) (piece : HeadScan) → IsSearchedTo bytes scanner piece → CanScan scanner piece (bytes ++ more)
can_scan bytes more scanner Open searched = HasScanned-append scanner bytes more searched.0
can_scan bytes more scanner (Piece start end) searched = head_piece_append bytes more start end searched

go_on : (bytes more : List ℕ) (search : Option Scan) → IsSearched bytes search → CanGoOn search (bytes ++ more)
go_on bytes more None searched = tt
go_on bytes more (Some scan) searched = can_scan bytes more scan.scanner scan.piece searched

pub can_go_on : (bytes more after : List ℕ) (search : Option Scan) → after ≡ bytes ++ more → IsSearched bytes search → CanGoOn search after
can_go_on bytes more after search is searched = subst (λ (l : List ℕ). CanGoOn search l) (sym is) (go_on bytes more search searched)

-- a search that is kept is there
pub kept_some : (search : Option Scan) → is_some (incoming [] search).piece ≡ is_some search
kept_some None = refl
kept_some (Some scan) = refl
