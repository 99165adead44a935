-- Header lines with blanks before their colons, and the same lines without these.
use Rattle.std.specs.Prelude.{◌≡◌, ℕ, true, false, ◌||◌, List, [], ◌∷◌, ◌++◌, ◌==◌}
use Rattle.std.specs.List.{AllByRecursion}
use Rattle.httparse.specs.Ascii.{line_feed, colon}
use Rattle.httparse.specs.Grammar.{is_ows}

-- a name, the blanks after it, and what follows the colon
pub record PaddedLine : Type 0 where
  pub name : List ℕ
  pub blanks : List ℕ
  pub rest : List ℕ

-- none of the bytes is a line feed, or a colon
abbrev pub HasNoFeed : List ℕ → Type 0
HasNoFeed bytes = AllByRecursion (λ b. (b == line_feed) ≡ false) bytes

abbrev pub HasNoColon : List ℕ → Type 0
HasNoColon bytes = AllByRecursion (λ b. (b == colon) ≡ false) bytes

-- the name has neither blanks nor colons, and the whole is one line
pub record IsPaddedLine (l : PaddedLine) : Type 0 where
  pub name : AllByRecursion (λ b. (is_ows b || (b == colon) || (b == line_feed)) ≡ false) l.name
  pub blanks : AllByRecursion (λ b. is_ows b ≡ true) l.blanks
  pub rest : HasNoFeed l.rest

-- the line with the blanks, and without
abbrev pub padded_text : PaddedLine → List ℕ
padded_text l = l.name ++ (l.blanks ++ colon ∷ (l.rest ++ line_feed ∷ []))

abbrev pub plain_text : PaddedLine → List ℕ
plain_text l = l.name ++ colon ∷ (l.rest ++ line_feed ∷ [])
