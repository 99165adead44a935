-- Texts that are read as they are.
use Rattle.std.specs.Prelude.{ℕ, List}

-- each text is one
abbrev pub IsAnyText : List ℕ → Type 0
IsAnyText text = Unit {0}
