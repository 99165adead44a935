use Rattle.std.proofs.Common.{◌≡◌, [], ◌∷◌, ◌++◌, length, ap, ◌∙◌, sym, arith}
use Rattle.std.proofs.lemmas.Grind.{common_steps}
use Rattle.http_map.specs.Iter.{current_pairs}
use Rattle.http_map.specs.HeaderMap.{pairs}
use Rattle.http_map.proofs.MapLemmas.{length-first_given, first_entry, later_entries}
use Rattle.http_map.proofs.iter.IterIterator.next.Goals as goal
use Rattle.http_map.proofs.iter.IterIterator.next.Goals.{in_default-via-in-None-1, in_default-via-in-Some+in-None-1}

pub unwrap-requires : goal.unwrap-requires
unwrap-requires c =
    let all = rw c.in_ok-name.ensures.steps at c.self.invariant.entries in
    let some = (first_entry (c.in_ok-name.name.now, c.in_ok-name.values.now) c.next.new.self all).filled in
    c.split_first-2.ensures.variant.1 (rw c.as_slice.ensures.value some)

pub invariant_of-self-2 : goal.invariant_of-self-2
invariant_of-self-2 c =
    let all = rw c.in_ok-name.ensures.steps at c.self.invariant.entries in
    let first = rw c.unwrap.ensures at c.split_first-2.ensures.cases in
    let none : current_pairs c.self.inside.current ≡ [] = elim c.in_default.branch [ in_default-via-in-None-1 w ↦ grind (arith, common_steps) | in_default-via-in-Some+in-None-1 w ↦ grind (arith, common_steps) ] in
    let counted : c.self.inside.left ≡ length (pairs ((c.in_ok-name.name.now, c.in_ok-name.values.now) ∷ c.next.new.self)) =
    c.self.invariant.count ∙ ap (λ p. length (p ++ pairs c.self.inside.later)) none ∙ ap (λ m. length (pairs m)) c.in_ok-name.ensures.steps in
    record { count = length-first_given c.in_ok-name.name.now c.unwrap.result.0.now c.in_ok-name.values.now c.unwrap.result.1.now c.next.new.self c.self.inside.left (sym c.as_slice.ensures.value ∙ first.0) counted; entries = later_entries (c.in_ok-name.name.now, c.in_ok-name.values.now) c.next.new.self all }
