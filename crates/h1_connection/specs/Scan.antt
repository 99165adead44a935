-- What a search for the first head finds: the head starts after the empty lines in front, and ends with the first
-- empty line after a line feed (RFC 7230, sections 3 and 3.5). A line ends in CR LF or in LF alone.
use Rattle.std.specs.Prelude.{ℕ, suc, ◌+◌, Bool, false, ◌&&◌, List, [], ◌∷◌, drop, Option, Some, None, option_map, if◌then◌else◌, ◌==◌, nat_lt}
use Rattle.httparse.specs.Ascii.{line_feed, carriage_return}
use Rattle.h1_decoder.specs.declared.scan.HeadScan.{HeadScan}
use Rattle.h1_decoder.specs.declared.scan.HeadScan.TheVariants.{Open, Piece}

-- the text begins with a line feed
abbrev pub begins_lf : List ℕ → Bool
begins_lf [] = false
begins_lf (b ∷ text) = b == line_feed

-- how many bytes the line end has that the text begins with, 0 where it begins with none
abbrev pub line_end_length : List ℕ → ℕ
line_end_length [] = 0
line_end_length (b ∷ text) = if b == line_feed then 1 else (if b == carriage_return && begins_lf text then 2 else 0)

-- the text begins with a line end
abbrev pub begins_line_end : List ℕ → Bool
begins_line_end text = nat_lt 0 (line_end_length text)

-- how many bytes the empty lines in front have: a line end begins at each of them, since the LF of a CR LF is one too
abbrev pub start_of : List ℕ → ℕ
start_of [] = 0
start_of (b ∷ text) = if begins_line_end (b ∷ text) then suc (start_of text) else 0

-- how many bytes the text has up to its first empty line after a line feed, and with it
abbrev pub length_of : List ℕ → Option ℕ
length_of [] = None
length_of (b ∷ text) =
    if b == line_feed && begins_line_end text then Some (suc (line_end_length text))
    else option_map suc (length_of text)

-- where the head stands that starts here and has so many bytes
abbrev pub piece_from : ℕ → Option ℕ → HeadScan
piece_from start None = Open
piece_from start (Some n) = Piece start (start + n)

unfoldable pub scan_of : List ℕ → HeadScan
scan_of bytes = piece_from (start_of bytes) (length_of (drop (start_of bytes) bytes))
