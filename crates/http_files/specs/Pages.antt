-- When a folder's page was last changed.
use Rattle.std.specs.Prelude.{ℕ, max, ◌/◌, List, [], ◌∷◌, Option, Some, None, nat_lt, if◌then◌else◌}
use Rattle.http_files.specs.declared.listing.Entry.{Entry}

-- the later one of two times, where both are known
abbrev pub later : Option ℕ → Option ℕ → Option ℕ
later (Some one) (Some other) = Some (max one other)
later (Some one) None = None
later None other = None

-- the latest of a time and of those of the names
abbrev pub latest : Option ℕ → List Entry → Option ℕ
latest changed [] = changed
latest changed (entry ∷ entries) = latest (later changed entry.changed) entries

-- a second that is over at this moment, which is in milliseconds
abbrev pub over : Option ℕ → Option ℕ → Option ℕ
over (Some second) (Some moment) = if nat_lt second (moment / 1000) then Some second else None
over (Some second) None = None
over None moment = None

-- the page changes with the folder and with each of its names
abbrev pub page_changed : Option ℕ → List Entry → Option ℕ → Option ℕ
page_changed folder entries moment = over (latest folder entries) moment
