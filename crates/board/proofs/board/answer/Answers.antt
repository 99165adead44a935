use Rattle.std.proofs.Common.{◌≡◌, ◌&&◌, ◌+◌, rules, ap, sym, subst, ◌∙◌, List, ℕ}
use Rattle.std.specs.BTreeMap as tree
use Rattle.std.specs.Cmp.Lexicographic.{slice_cmp}
use Rattle.std.specs.Option.{unwrap_or}
use Rattle.std.specs.Ordering.{nat_cmp}
use Rattle.std.specs.Prelude.{if◌then◌else◌}
use Rattle.std.specs.Str.{bytes_eq}
use Rattle.board.specs.Journal.{name_of, is_add}
use Rattle.board.proofs.Counters.{raised}
use Rattle.board.proofs.board.answer.Goals as goal

pub returns-in_ok-insert-in-Add-clause-counted : goal.returns-in_ok-insert-in-Add-clause-counted
returns-in_ok-insert-in-Add-clause-counted c =
    let f = tree.get (slice_cmp nat_cmp) c.args.counters.now in
    let g = tree.get (slice_cmp nat_cmp) c.insert.new.self in
    let count = c.unwrap_or-count.result in
    let was : count ≡ unwrap_or (f c.in-Add.name) 0 = search rules in
    λ q. subst (λ x. unwrap_or (g q) 0 ≡ unwrap_or (f q) 0 + (if is_add x && bytes_eq (name_of x) q then 1 else 0)) (sym c.in-Add.is) (raised f g c.in-Add.name count was c.in_ok-insert-in-Add.ensures.updates.0 q)
