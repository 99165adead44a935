-- What a connection holds of its input: the bytes that were taken and not passed, and what was found of a head.
use Rattle.std.specs.Prelude.{◌≡◌, ℕ, Bool, true, false, ◌⊎◌, List, [], ◌++◌, length, drop, slice_range, IsTrue, Option, Some, None}
use Rattle.model_h1.specs.HeadPiece.{IsHeadPiece, HasNoHeadPiece}
use Rattle.h1_decoder.specs.declared.scan.HeadScan.{HeadScan}
use Rattle.h1_decoder.specs.declared.scan.HeadScan.TheVariants.{Open, Piece}
use Rattle.model_h1.specs.Request.{Head, Fault, head_is, faulty}
use Rattle.model_h1.specs.RequestHead.{IsReading}
use Rattle.h1_decoder.specs.HeadItem.{SaysHead}
use Rattle.h1_decoder.specs.declared.decoder.HeadItem.{HeadItem}
use Rattle.h1_decoder.specs.HeadPosition.{HeadPosition, HasScanned}
use Rattle.h1_decoder.specs.HeadScan.{AnswersScan}
use Rattle.h1_connection.specs.Scan.{scan_of}
use Rattle.h1_connection.specs.declared.connection.head_search.Scan.{Scan}
use Rattle.h1_connection.specs.declared.connection.head_search.Search.{Search}
use Rattle.h1_connection.specs.declared.connection.head_search.Search.TheVariants.{Off, Due, Done}

-- The bytes, and where the first head stands among them, where one is searched for.
pub record Incoming : Type 0 where
  pub unread : List ℕ
  pub piece : Option HeadScan

-- a whole head was found
abbrev pub is_coming_in : Option HeadScan → Bool
is_coming_in (Some (Piece start end)) = true
is_coming_in (Some Open) = false
is_coming_in None = false

-- what was found is what stands there
abbrev pub IsFoundIn : List ℕ → Option HeadScan → Type 0
IsFoundIn bytes None = Unit {0}
IsFoundIn bytes (Some piece) = AnswersScan bytes piece

abbrev pub IsFound : Incoming → Type 0
IsFound i = IsFoundIn i.unread i.piece

-- a whole head is there
abbrev pub IsWhole : Incoming → Type 0
IsWhole i = IsTrue (is_coming_in i.piece)

-- the head that was found, where one was
abbrev pub IsHeadIn : Incoming → Option HeadScan → Option (List ℕ) → Type 0
IsHeadIn i (Some (Piece start end)) head = IsHeadPiece i.unread start end × (head ≡ Some (slice_range i.unread start end))
IsHeadIn i (Some Open) head = head ≡ None
IsHeadIn i None head = head ≡ None

abbrev pub IsHeadOf : Incoming → Option (List ℕ) → Type 0
IsHeadOf i head = IsHeadIn i i.piece head

-- it is read as this head, or as this fault
abbrev pub IsNextHead : Incoming → HeadItem → Type 0
IsNextHead i item = (head : List ℕ) × IsHeadOf i (Some head) × ((h : Head) × IsReading head (head_is h) × SaysHead item h)

abbrev pub IsNextFault : Incoming → Fault → Type 0
IsNextFault i fault = (head : List ℕ) × IsHeadOf i (Some head) × IsReading head (faulty fault)

-- the head that was found is passed, and none is searched for
abbrev pub IsPassedIn : Incoming → Option HeadScan → Incoming → Type 0
IsPassedIn i (Some (Piece start end)) after = after ≡ record { unread = drop end i.unread; piece = None }
IsPassedIn i (Some Open) after = ⊥
IsPassedIn i None after = ⊥

abbrev pub IsPassedHead : Incoming → Incoming → Type 0
IsPassedHead i after = IsPassedIn i i.piece after

-- ---- the fields

-- What is found of a head among the bytes, where one is searched for. A search that is due finds what is there.
abbrev pub piece_of : List ℕ → Search → Option HeadScan
piece_of bytes Off = None
piece_of bytes Due = Some (scan_of bytes)
piece_of bytes (Done scan) = Some scan.piece

-- what the fields mean: the bytes that were cut off, those behind, and the search
abbrev pub incoming : List ℕ → List ℕ → Search → Incoming
incoming front bytes search = record { unread = front ++ bytes; piece = piece_of (front ++ bytes) search }

-- the head stands there, and all of it is cut off, or nothing
abbrev pub IsPieceOf : List ℕ → List ℕ → ℕ → ℕ → Type 0
IsPieceOf front bytes start end = IsHeadPiece (front ++ bytes) start end × ((front ≡ []) ⊎ (length front ≡ end))

-- nothing was cut off yet where nothing was found
abbrev pub IsSearchedTo : List ℕ → List ℕ → HeadPosition → HeadScan → Type 0
IsSearchedTo front bytes scanner Open = (front ≡ []) × HasScanned scanner bytes × HasNoHeadPiece bytes
IsSearchedTo front bytes scanner (Piece start end) = IsPieceOf front bytes start end

abbrev pub IsSearched : List ℕ → List ℕ → Search → Type 0
IsSearched front bytes Off = front ≡ []
IsSearched front bytes Due = front ≡ []
IsSearched front bytes (Done scan) = IsSearchedTo front bytes scan.scanner scan.piece

-- ---- a search that goes on

-- the scanner can go on in these bytes, where it has to
abbrev pub CanScan : HeadPosition → HeadScan → List ℕ → Type 0
CanScan scanner Open bytes = HasScanned scanner bytes
CanScan scanner (Piece start end) bytes = Unit {0}

abbrev pub CanGoOn : Search → List ℕ → Type 0
CanGoOn (Done scan) bytes = CanScan scan.scanner scan.piece bytes
CanGoOn search bytes = Unit {0}

-- all the bytes were searched
abbrev pub HasSearched : List ℕ → Search → Type 0
HasSearched bytes (Done scan) = AnswersScan bytes scan.piece × HasScanned scan.scanner bytes
HasSearched bytes search = ⊥

-- what was found stays, and else the bytes are searched, where that isn't due later
abbrev pub GoesOnTo : Scan → HeadScan → List ℕ → Search → Type 0
GoesOnTo scan Open bytes after = HasSearched bytes after
GoesOnTo scan (Piece start end) bytes after = after ≡ Done scan

abbrev pub GoesOnIn : Search → List ℕ → Search → Type 0
GoesOnIn (Done scan) bytes after = GoesOnTo scan scan.piece bytes after
GoesOnIn search bytes after = after ≡ search

-- a search that was due is done
abbrev pub IsCaughtUp : Search → List ℕ → Search → Type 0
IsCaughtUp Due bytes after = HasSearched bytes after
IsCaughtUp search bytes after = after ≡ search

-- ---- a head that is cut off unsearched

-- bytes that weren't searched
abbrev pub due_in : List ℕ → Incoming
due_in bytes = incoming [] bytes Due

-- a head that was cut off is what was found
abbrev pub IsCutNoted : List ℕ → Search → Type 0
IsCutNoted front Off = ⊥
IsCutNoted front Due = front ≡ []
IsCutNoted front (Done scan) = ¬ (front ≡ []) × (scan.piece ≡ Piece 0 (length front))
