use Rattle.std.proofs.Common.{◌≡◌, drop}
use Rattle.http_files.specs.Pages.{latest}
use Rattle.http_files.proofs.listing.page_changed.Given as goal

abbrev pub invariant-loop-entry : goal.invariant-loop-entry
invariant-loop-entry l = latest l.fn.folder l.entries ≡ latest l.changed (drop l.entry-index l.entries)
