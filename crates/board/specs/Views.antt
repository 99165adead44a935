-- What contracts see of passes and boards.
use Rattle.std.specs.Prelude.{ℕ, List, ◌≡◌, ◌≢◌, Some, length}
use Rattle.std.specs.List.{sum_by, All, slice_get}
use Rattle.board.specs.declared.command.Entry.{Entry}
use Rattle.board.specs.Journal.{of_pass}

-- a pass: its number and its entries
pub record Held : Type 0 where
  pub number : ℕ
  pub entries : List Entry

-- the passes of a board: those made and not retired, the number of the next one, and how many entries the retired ones had
pub record Passes : Type 0 where
  pub made : ℕ
  pub next : ℕ
  pub retired : ℕ

-- a board: its journal and its passes
pub record Kept : Type 0 where
  pub journal : List Entry
  pub passes : Passes

-- each pass has just the journal's entries of its number, in order
abbrev pub Agrees : List Entry → List Held → Type 0
Agrees journal passes = All (λ p. of_pass p.number journal ≡ p.entries) passes

-- there is a pass of this number, and its entries aren't the journal's
abbrev pub Differs : List Entry → List Held → ℕ → Type 0
Differs journal passes number =
    (k : ℕ) × (p : Held) × (slice_get passes k ≡ Some p) × (p.number ≡ number) × (of_pass number journal ≢ p.entries)

-- how many entries the passes have together
abbrev pub entries_held : List Held → ℕ
entries_held passes = sum_by (λ p. length p.entries) passes
