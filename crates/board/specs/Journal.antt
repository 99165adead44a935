-- The journal of commands and replies, and what makes it right.
use Rattle.std.specs.Prelude.{ℕ, ◌+◌, List, ◌==◌, ◌≡◌, take, filter, Bool, true, false, ◌&&◌, Some}
use Rattle.std.specs.List.{count_by, slice_get}
use Rattle.std.specs.Str.{bytes_eq}
use Rattle.board.specs.declared.command.Command.{Command}
use Rattle.board.specs.declared.command.Command.TheVariants.{Get, Add}
use Rattle.board.specs.declared.command.Entry.{Entry}

-- the name that a command speaks of
abbrev pub name_of : Command → List ℕ
name_of (Get name) = name
name_of (Add name) = name

abbrev pub is_add : Command → Bool
is_add (Get _) = false
is_add (Add _) = true

-- an entry that adds to this name
abbrev pub adds_to : List ℕ → Entry → Bool
adds_to name e = is_add e.command && bytes_eq (name_of e.command) name

-- the counter of a name after the entries: the number of its Add entries
abbrev pub counter : List ℕ → List Entry → ℕ
counter name entries = count_by (adds_to name) entries

-- what a command is answered after the entries: the counter of its name, with itself counted
abbrev pub reply_after : List Entry → Command → ℕ
reply_after entries (Get name) = counter name entries
reply_after entries (Add name) = counter name entries + 1

-- each reply is the one that the entries before it give
abbrev pub IsRight : List Entry → Type 0
IsRight journal = (k : ℕ) (e : Entry) → slice_get journal k ≡ Some e → e.reply.0 ≡ reply_after (take k journal) e.command

-- what is noted of a command that was answered
abbrev pub entry : ℕ → Command → ℕ → Entry
entry pass command reply = record { pass = pass; command = command; reply = record { 0 = reply } }

-- the entries of the pass with this number
abbrev pub of_pass : ℕ → List Entry → List Entry
of_pass number journal = filter (λ e. e.pass == number) journal
