-- What the program writes.
use Rattle.std.specs.Prelude.{◌≡◌, ◌==◌, ℕ, Bool, Option, Some, None, List, [], ◌∷◌, ◌++◌, length, codes, decimal, if◌then◌else◌}
use Rattle.std.specs.BTreeMap.{is_at}
use Rattle.std.specs.Cmp.Lexicographic.{slice_cmp}
use Rattle.std.specs.List.{count_by}
use Rattle.std.specs.List.Sorted.{IsStrictlySortedBy}
use Rattle.std.specs.Map.{keys_of, lookup}
use Rattle.std.specs.Ordering.{nat_cmp}
use Rattle.std.specs.Str.{bytes_eq}
use Rattle.board.specs.declared.command.Entry.{Entry}
use Rattle.board.specs.Journal.{counter, name_of}

-- an entry that speaks of this name
abbrev pub speaks_of : List ℕ → Entry → Bool
speaks_of name e = bytes_eq (name_of e.command) name

-- the counter of a name that the journal speaks of
abbrev pub told_of : List ℕ → List Entry → Option ℕ
told_of name journal = if count_by (speaks_of name) journal == 0 then None else Some (counter name journal)

-- a line of a word and a number
abbrev pub number_line : List ℕ → ℕ → List ℕ
number_line word number = word ++ decimal number ++ 10 ∷ []

-- the line of a name and its counter
abbrev pub count_line : List ℕ × ℕ → List ℕ
count_line row = row.0 ++ number_line (codes " ") row.1

abbrev pub count_lines : List (List ℕ × ℕ) → List ℕ
count_lines [] = []
count_lines (row ∷ rows) = count_line row ++ count_lines rows

-- A report of a journal: how many entries it has, and a line with its counter for each name that it speaks of, in the order of
-- their bytes.
pub record IsReportText (journal : List Entry) (text : List ℕ) : Type 0 where
  pub rows : List (List ℕ × ℕ)
  pub sorted : IsStrictlySortedBy (slice_cmp nat_cmp) (keys_of rows)
  pub each : (name : List ℕ) → lookup (is_at (slice_cmp nat_cmp name)) rows ≡ told_of name journal
  pub text_is : text ≡ number_line (codes "calls ") (length journal) ++ count_lines rows

abbrev pub usage_text : List ℕ
usage_text = codes "usage: h1_serve PORT N POLLS\n"

abbrev pub acceptor_text : List ℕ
acceptor_text = codes "door fault\n"

abbrev pub memory_text : List ℕ
memory_text = codes "no memory\n"

-- a pass whose entries aren't the journal's
abbrev pub unlike_text : ℕ → List ℕ
unlike_text number = number_line (codes "unlike ") number
