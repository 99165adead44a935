-- When a folder's page was last changed.
use Rattle.std.proofs.Common.{◌≡◌, ◌<◌, ◌+◌, ℕ, List, length, drop, get_or}
use Rattle.std.specs.Prelude.{Option}
use Rattle.std.proofs.lemmas.List.{at_drop_more}
use Rattle.http_files.specs.Pages.{latest, later}
use Rattle.http_files.specs.declared.listing.Entry.{Entry}

-- the next name counts, and then those after it
pub latest_on : (es : List Entry) (i : ℕ) (changed : Option ℕ) (e : Entry) → i < length es
    → latest changed (drop i es) ≡ latest (later changed (get_or es i e).changed) (drop (i + 1) es)
latest_on es i changed e within = at_drop_more (λ (l : List Entry). latest changed l) es i e within
