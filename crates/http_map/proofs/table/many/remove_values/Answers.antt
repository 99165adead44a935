use Rattle.std.proofs.Common.{sym, ◌∙◌, ap, [], unwrap_or}
use Rattle.http_header.specs.Token.{lowercase}
use Rattle.http_map.proofs.EntryLemmas.{remove-remove_entry, get_all-lookup}
use Rattle.http_map.proofs.table.many.remove_values.Goals as goal

pub returns-clause-removed : goal.returns-clause-removed
returns-clause-removed c =
    c.removed.ensures ∙ ap (λ found. unwrap_or found []) c.shift_remove.ensures.value ∙ sym (get_all-lookup (lowercase c.args.bytes.now) c.args.names.now.entries)

pub returns-clause-after : goal.returns-clause-after
returns-clause-after c =
    rw c.shift_remove.ensures.entries (sym (remove-remove_entry (lowercase c.args.bytes.now) c.args.names.now.entries))

pub returns-clause-gone : goal.returns-clause-gone
returns-clause-gone c = rw get_all-lookup (ap (λ found. unwrap_or found []) c.shift_remove.ensures.updates.1)
