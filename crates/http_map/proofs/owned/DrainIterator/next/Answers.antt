use Rattle.std.proofs.Common.{◌≡◌, [], ◌∷◌, ◌++◌, length, ap, ◌∙◌, sym}
use Rattle.http_map.specs.Owned.{unnamed, drained}
use Rattle.http_map.proofs.MapLemmas.{first_entry, later_entries}
use Rattle.http_map.proofs.OwnedLemmas.{given_first, length-first_drained}
use Rattle.http_map.proofs.owned.DrainIterator.next.Goals as goal

pub unwrap-value-requires : goal.unwrap-value-requires
unwrap-value-requires c =
    let all = rw c.in_ok-name.ensures.steps at c.self.invariant.entries in
    let some = (first_entry (c.in_ok-name.name, c.in_ok-name.values) c.next-2.new.self all).filled in
    given_first c.into_iter-values.result c.next-3.new.self c.next-3.result c.next-3.ensures.steps (rw c.into_iter-values.ensures.into_iter_gives some)

pub invariant_of-self-2 : goal.invariant_of-self-2
invariant_of-self-2 c =
    let all = rw c.in_ok-name.ensures.steps at c.self.invariant.entries in
    let none : c.self.inside.values ≡ [] = c.in_default.ensures.steps.0 in
    let first = rw c.unwrap-value.ensures at c.next-3.ensures.steps in
    let counted : c.self.inside.left ≡ length (drained ((c.in_ok-name.name, c.in_ok-name.values) ∷ c.next-2.new.self)) =
    c.self.invariant.count ∙ ap (λ vs. length (unnamed vs ++ drained c.self.inside.later)) none ∙ ap (λ m. length (drained m)) c.in_ok-name.ensures.steps in
    record {
      count = length-first_drained c.in_ok-name.name c.unwrap-value.result c.in_ok-name.values c.next-3.new.self c.next-2.new.self c.self.inside.left (sym c.into_iter-values.ensures.into_iter_gives ∙ first) counted;
      entries = later_entries (c.in_ok-name.name, c.in_ok-name.values) c.next-2.new.self all;
    }
