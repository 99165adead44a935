-- The laxer copy of an answer's head: some servers put blanks between a field's name and its colon, which the grammar
-- refuses (RFC 7230, section 3.2.4). A client takes them away and reads once more.
use Rattle.std.specs.Prelude.{ℕ, List, [], ◌∷◌, ◌++◌, reverse, ◌==◌, if◌then◌else◌}
use Rattle.httparse.specs.Ascii.{line_feed, colon}
use Rattle.httparse.specs.Grammar.{skip_ows}

-- the bytes without the blanks and tabs at their end
abbrev pub without_blanks : List ℕ → List ℕ
without_blanks bytes = reverse (skip_ows (reverse bytes))

-- a line without the blanks before its first colon, where these bytes of it stand before; one without a colon is as it was
abbrev pub unpadded_line : List ℕ → List ℕ → List ℕ
unpadded_line before [] = before
unpadded_line before (b ∷ line) = if b == colon then without_blanks before ++ b ∷ line else unpadded_line (before ++ b ∷ []) line

-- each line without these blanks, where these bytes of the first of them stand before
abbrev pub unpadded_lines : List ℕ → List ℕ → List ℕ
unpadded_lines before [] = unpadded_line [] before
unpadded_lines before (b ∷ bytes) =
    if b == line_feed then unpadded_line [] (before ++ b ∷ []) ++ unpadded_lines [] bytes else unpadded_lines (before ++ b ∷ []) bytes

-- the piece without these blanks in each line but the first
unfoldable pub unpadded : List ℕ → List ℕ
unpadded [] = []
unpadded (b ∷ bytes) = if b == line_feed then b ∷ unpadded_lines [] bytes else b ∷ unpadded bytes
