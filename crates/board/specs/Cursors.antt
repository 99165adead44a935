-- Cursors into the lists of passes, one for each number, that are moved over a journal.
use Rattle.std.specs.Prelude.{ℕ, List, Option, Some, ◌≡◌, ◌≤◌, length, take}
use Rattle.std.specs.List.{slice_get}
use Rattle.board.specs.declared.command.Entry.{Entry}
use Rattle.board.specs.declared.compare.Cursor.{Cursor}
use Rattle.board.specs.Journal.{of_pass}
use Rattle.board.specs.Views.{Held}

-- the cursor of a number stands in the list of a pass of that number, behind the entries that the journal has of it
pub record IsAt (journal : List Entry) (passes : List Held) (number : ℕ) (cursor : Cursor) : Type 0 where
  pub pass : Held
  pub there : slice_get passes cursor.at ≡ Some pass
  pub number_is : pass.number ≡ number
  pub within : cursor.found ≤ length pass.entries
  pub found : of_pass number journal ≡ take cursor.found pass.entries

-- each cursor does
abbrev pub Stand : List Entry → List Held → List (Option Cursor) → Type 0
Stand journal passes cursors = (number : ℕ) (cursor : Cursor) → slice_get cursors number ≡ Some (Some cursor) → IsAt journal passes number cursor

-- the cursor of this pass's number is at the end of its list
pub record IsThrough (cursors : List (Option Cursor)) (at : ℕ) (pass : Held) : Type 0 where
  pub cursor : Cursor
  pub there : slice_get cursors pass.number ≡ Some (Some cursor)
  pub at_is : cursor.at ≡ at
  pub found : cursor.found ≡ length pass.entries

-- each pass has such a cursor
abbrev pub AreThrough : List Held → List (Option Cursor) → Type 0
AreThrough passes cursors = (at : ℕ) (pass : Held) → slice_get passes at ≡ Some pass → IsThrough cursors at pass
