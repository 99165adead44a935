use Rattle.std.proofs.Common.{◌≡◌, bytes_eq, Some, None, sym, ◌∙◌, rules}
use Rattle.std.specs.Map.{lookup}
use Rattle.indexmap.specs.Entry.{map_with_value}
use Rattle.http_map.specs.HeaderMap.{append}
use Rattle.http_map.proofs.EntryLemmas.{append-present, append-absent, insert_entry-same}
use Rattle.http_map.proofs.table.many.append_value.Goals as goal

pub returns-in_err-push-in-Occupied-clause-err : goal.returns-in_err-push-in-Occupied-clause-err
returns-in_err-push-in-Occupied-clause-err c =
    let there : lookup (bytes_eq c.args.key) c.args.names.now.entries ≡ Some c.into_mut.result.now = sym (rw c.in-Occupied.is at c.in_ok-entry.ensures.value) ∙ c.into_mut.ensures.value in
    let written : (map_with_value c.in_ok-entry.field-0 c.push.new.self).entries ≡ c.args.names.now.entries =
    c.in_ok-entry.ensures.update.1 c.push.new.self ∙ rw c.in_err-push-in-Occupied.ensures.err (insert_entry-same c.args.key c.args.names.now.entries c.into_mut.result.now there) in
    let ended = rw c.in-Occupied.is at written in
    let borrowed = rw c.in-Occupied.is at c.in_ok-entry.ensures.same_map in
    search rules

pub returns-in_ok-push-in-Occupied-clause-ok : goal.returns-in_ok-push-in-Occupied-clause-ok
returns-in_ok-push-in-Occupied-clause-ok c =
    let there : lookup (bytes_eq c.args.key) c.args.names.now.entries ≡ Some c.into_mut.result.now = sym (rw c.in-Occupied.is at c.in_ok-entry.ensures.value) ∙ c.into_mut.ensures.value in
    let written : (map_with_value c.in_ok-entry.field-0 c.push.new.self).entries ≡ append c.args.names.now.entries c.args.key c.args.value =
    c.in_ok-entry.ensures.update.1 c.push.new.self ∙ rw c.in_ok-push-in-Occupied.ensures.ok (sym (append-present c.args.key c.args.value c.args.names.now.entries c.into_mut.result.now there)) in
    let ended = rw c.in-Occupied.is at written in
    let borrowed = rw c.in-Occupied.is at c.in_ok-entry.ensures.same_map in
    search rules

pub returns-in-Vacant-clause-ok : goal.returns-in-Vacant-clause-ok
returns-in-Vacant-clause-ok c =
    let absent : lookup (bytes_eq c.args.key) c.args.names.now.entries ≡ None = rw c.in-Vacant.is at c.in_ok-entry.ensures.found in
    let written : (map_with_value c.in_ok-entry.field-0 c.insert.result.now).entries ≡ append c.args.names.now.entries c.args.key c.args.value =
    c.in_ok-entry.ensures.update.1 c.insert.result.now ∙ rw (c.insert.ensures.value, c.one.ensures) (sym (append-absent c.args.key c.args.value c.args.names.now.entries absent)) in
    let ended = rw c.in-Vacant.is at written in
    let borrowed = rw c.in-Vacant.is at c.in_ok-entry.ensures.same_map in
    search rules
