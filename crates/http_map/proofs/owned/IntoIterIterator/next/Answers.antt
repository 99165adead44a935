use Rattle.std.proofs.Common.{◌≡◌, ◌<◌, [], ◌∷◌, ◌++◌, length, ap, ◌∙◌, sym, arith}
use Rattle.std.proofs.lemmas.Bool.Decides.{nat_tests}
use Rattle.http_map.specs.HeaderMap.{pairs, entry_pairs}
use Rattle.http_map.specs.Owned.{entries_left}
use Rattle.http_map.proofs.MapLemmas.{first_entry, later_entries, entries_cons, with_values, length-first_given}
use Rattle.http_map.proofs.OwnedLemmas.{given_first, empty_from_length}
use Rattle.http_map.proofs.owned.IntoIterIterator.next.Goals as goal

pub unwrap-value-requires : goal.unwrap-value-requires
unwrap-value-requires c =
    let handed = ap (λ current. entries_left current c.self.inside.later) (sym c.take.ensures.value) ∙ c.in_ok-name.ensures.some in
    let all = rw handed at c.self.invariant.entries in
    let some = (first_entry (c.in_ok-name.name, c.in_ok-name.values) c.in_hand.new.later all).filled in
    given_first c.in_ok-name.values c.next.new.self c.next.result c.next.ensures.steps some

pub invariant_of-self-then-is_empty : goal.invariant_of-self-then-is_empty
invariant_of-self-then-is_empty c =
    let handed = ap (λ current. entries_left current c.self.inside.later) (sym c.take.ensures.value) ∙ c.in_ok-name.ensures.some in
    let all = rw handed at c.self.invariant.entries in
    let first = rw c.unwrap-value.ensures at c.next.ensures.steps in
    let counted : c.self.inside.left ≡ length (pairs ((c.in_ok-name.name, c.in_ok-name.values) ∷ c.in_hand.new.later)) =
    c.self.invariant.count ∙ ap (λ m. length (pairs m)) handed in
    let none : c.next.new.self ≡ [] = empty_from_length c.next.new.self (grind (arith, nat_tests, c.if-is_empty.ensures)) in
    let less = length-first_given c.in_ok-name.name c.unwrap-value.result c.in_ok-name.values c.next.new.self c.in_hand.new.later c.self.inside.left first counted in
    rw c.take.ensures.after (record {
      count = less ∙ ap (λ vs. length (entry_pairs (c.in_ok-name.name, vs) ++ pairs c.in_hand.new.later)) none;
      entries = later_entries (c.in_ok-name.name, c.in_ok-name.values) c.in_hand.new.later all;
    })

pub invariant_of-self-in-Ok : goal.invariant_of-self-in-Ok
invariant_of-self-in-Ok c =
    let handed = ap (λ current. entries_left current c.self.inside.later) (sym c.take.ensures.value) ∙ c.in_ok-name.ensures.some in
    let all = rw handed at c.self.invariant.entries in
    let first = rw c.unwrap-value.ensures at c.next.ensures.steps in
    let counted : c.self.inside.left ≡ length (pairs ((c.in_ok-name.name, c.in_ok-name.values) ∷ c.in_hand.new.later)) =
    c.self.invariant.count ∙ ap (λ m. length (pairs m)) handed in
    let some : 0 < length c.next.new.self = grind (arith, nat_tests, c.if-is_empty.ensures) in
    record {
      count = length-first_given c.in_ok-name.name c.unwrap-value.result c.in_ok-name.values c.next.new.self c.in_hand.new.later c.self.inside.left first counted;
      entries = entries_cons (c.in_ok-name.name, c.next.new.self) c.in_hand.new.later (with_values (c.in_ok-name.name, c.in_ok-name.values) c.next.new.self (first_entry (c.in_ok-name.name, c.in_ok-name.values) c.in_hand.new.later all) some) (later_entries (c.in_ok-name.name, c.in_ok-name.values) c.in_hand.new.later all);
    }
