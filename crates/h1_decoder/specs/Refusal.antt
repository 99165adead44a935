-- What an error of the reading of a head says.
use Rattle.std.specs.Prelude.{◌≡◌, ◌≢◌, ◌⊎◌, ◌<◌, ◌≤◌, ℕ, List, [], None, map}
use Rattle.std.specs.List.{AllByRecursion}
use Rattle.http_header.specs.Token.{IsToken}
use Rattle.http_types.specs.declared.error.ParseError.{ParseError}
use Rattle.http_types.specs.declared.error.ParseError.TheVariants.{Method, Uri, Version, Status, Header, TooLarge, NoMemory}
use Rattle.httparse.specs.Grammar.{RequestHead, ReadsRequest}
use Rattle.model_h1.specs.HeadPiece.{header_lines}
use Rattle.model_h1.specs.LengthTable.{body_kind}
use Rattle.model_h1.specs.Limits.{MAX_HEADER_LINES}
use Rattle.model_h1.specs.Request.{Fault, malformed, too_large}
use Rattle.model_h1.specs.RequestHead.{IsTarget, IsHeaderField, header_of}

-- what is said of each error but want of memory
abbrev pub UnlessNoMemory : ParseError → Type 0 → Type 0
UnlessNoMemory e P = e ≢ NoMemory → P

-- the error is that of header lines, and what is said of it, unless memory was wanted
abbrev pub IsHeaderUnlessNoMemory : ParseError → Type 0 → Type 0
IsHeaderUnlessNoMemory e P = UnlessNoMemory e ((e ≡ Header) × P)

-- the fault that an error names: too large is one by itself, and the others are malformed heads
abbrev pub fault_of : ParseError → Fault
fault_of TooLarge = too_large
fault_of _ = malformed

-- the piece is this text of the grammar, of no more lines than a head may have
pub record IsTextOf (piece : List ℕ) (text : RequestHead) : Type 0 where
  pub few : header_lines piece ≤ MAX_HEADER_LINES
  pub reads : ReadsRequest piece text []

-- it has no more lines than a head may have, and is no text of the grammar
abbrev pub IsNoText : List ℕ → Type 0
IsNoText piece = (header_lines piece ≤ MAX_HEADER_LINES) × ((text : RequestHead) → ¬ (ReadsRequest piece text []))

-- a name that no header has, or lines that frame no body
abbrev pub RefusesLines : RequestHead → Type 0
RefusesLines text =
    ¬ (AllByRecursion IsHeaderField text.fields) ⊎ (body_kind text.minor text.method (map header_of text.fields) ≡ None)

-- Why a piece is no head, by the name of the error, in the order in which it is judged: the number of its lines,
-- the grammar, the method, the target, the lines.
abbrev pub Refuses : ParseError → List ℕ → Type 0
Refuses TooLarge piece = MAX_HEADER_LINES < header_lines piece
Refuses Version piece = IsNoText piece
Refuses Status piece = IsNoText piece
Refuses Method piece = (text : RequestHead) × IsTextOf piece text × ¬ (IsToken text.method)
Refuses Uri piece = (text : RequestHead) × IsTextOf piece text × IsToken text.method × ¬ (IsTarget text.target)
Refuses Header piece =
    IsNoText piece
    ⊎ ((text : RequestHead) × IsTextOf piece text × IsToken text.method × IsTarget text.target × RefusesLines text)
Refuses _ piece = ⊥
