-- What the answer of a scan says of the bytes.
use Rattle.std.specs.Prelude.{ℕ, ◌≤◌, List, ⊤}
use Rattle.model_h1.specs.HeadPiece.{IsHeadPiece, HasNoHeadPiece}
use Rattle.h1_decoder.specs.declared.scan.HeadScan.{HeadScan}
use Rattle.h1_decoder.specs.declared.scan.HeadScan.TheVariants.{Open, Piece}

-- a piece is the head, and where the answer is open there is none
abbrev pub AnswersScan : List ℕ → HeadScan → Type 0
AnswersScan bytes Open = HasNoHeadPiece bytes
AnswersScan bytes (Piece start end) = IsHeadPiece bytes start end

-- a piece lies within so many bytes
abbrev pub LiesWithin : ℕ → HeadScan → Type 0
LiesWithin n Open = ⊤
LiesWithin n (Piece start end) = (start ≤ end) × (end ≤ n)
