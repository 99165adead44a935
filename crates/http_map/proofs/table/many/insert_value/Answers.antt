use Rattle.std.proofs.Common.{◌≡◌, true, false, [], is_some, unwrap_or, sym, ap, ◌∙◌}
use Rattle.http_map.proofs.EntryLemmas.{insert-insert_entry, get_all-lookup, contains_key-lookup}
use Rattle.http_map.proofs.table.many.insert_value.Goals as goal

pub returns-clause-ok : goal.returns-clause-ok
returns-clause-ok c =
    rw (c.in_ok-insert.ensures.entries, c.one.ensures) (sym (insert-insert_entry c.args.name c.args.value c.args.names.now.entries))

pub returns-clause-removed : goal.returns-clause-removed
returns-clause-removed c =
    c.removed.ensures ∙ ap (λ found. unwrap_or found []) c.in_ok-insert.ensures.old ∙ sym (get_all-lookup c.args.name c.args.names.now.entries)

pub returns-in_err-insert-clause-no_memory_needed : goal.returns-in_err-insert-clause-no_memory_needed
returns-in_err-insert-clause-no_memory_needed c there =
    let absent : true ≡ false = sym there ∙ contains_key-lookup c.args.name c.args.names.now.entries ∙ ap is_some c.in_err-insert.ensures.absent in
    cc
