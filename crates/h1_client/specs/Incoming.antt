-- What a client connection holds of its input: the bytes that were taken and not passed, and what was found of a head.
use Rattle.std.specs.Prelude.{◌≡◌, ℕ, Bool, true, false, List, Option, Some, None, option_map, ⊤}
use Rattle.model_h1.specs.HeadPiece.{IsHeadPiece, HasNoHeadPiece}
use Rattle.h1_decoder.specs.declared.scan.HeadScan.{HeadScan}
use Rattle.h1_decoder.specs.declared.scan.HeadScan.TheVariants.{Open, Piece}
use Rattle.h1_decoder.specs.HeadPosition.{HeadPosition, HasScanned}
use Rattle.h1_decoder.specs.HeadScan.{AnswersScan}
use Rattle.h1_client.specs.declared.connection.input.Scan.{Scan}

-- The bytes, and where the first head stands among them, where one is searched for.
pub record Incoming : Type 0 where
  pub unread : List ℕ
  pub piece : Option HeadScan

-- a whole head was found
abbrev pub is_coming_in : Option HeadScan → Bool
is_coming_in (Some (Piece start end)) = true
is_coming_in (Some Open) = false
is_coming_in None = false

-- what was found is what stands there
abbrev pub IsFoundIn : List ℕ → Option HeadScan → Type 0
IsFoundIn bytes None = ⊤
IsFoundIn bytes (Some piece) = AnswersScan bytes piece

abbrev pub IsFound : Incoming → Type 0
IsFound i = IsFoundIn i.unread i.piece

-- the places of the head that was found, where one was
abbrev pub place_in : Option HeadScan → Option (ℕ × ℕ)
place_in (Some (Piece start end)) = Some (start, end)
place_in (Some Open) = None
place_in None = None

-- ---- the fields

-- what the fields mean
abbrev pub incoming : List ℕ → Option Scan → Incoming
incoming bytes search = record { unread = bytes; piece = option_map (λ scan. scan.piece) search }

-- all the bytes were searched, and the search can go on where it found no head
abbrev pub IsSearchedTo : List ℕ → HeadPosition → HeadScan → Type 0
IsSearchedTo bytes scanner Open = HasScanned scanner bytes × HasNoHeadPiece bytes
IsSearchedTo bytes scanner (Piece start end) = IsHeadPiece bytes start end

abbrev pub IsSearched : List ℕ → Option Scan → Type 0
IsSearched bytes None = ⊤
IsSearched bytes (Some scan) = IsSearchedTo bytes scan.scanner scan.piece

-- the search can go on in these bytes, where it has to
abbrev pub CanScan : HeadPosition → HeadScan → List ℕ → Type 0
CanScan scanner Open bytes = HasScanned scanner bytes
CanScan scanner (Piece start end) bytes = IsHeadPiece bytes start end

abbrev pub CanGoOn : Option Scan → List ℕ → Type 0
CanGoOn None bytes = ⊤
CanGoOn (Some scan) bytes = CanScan scan.scanner scan.piece bytes
