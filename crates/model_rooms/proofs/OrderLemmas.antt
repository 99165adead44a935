-- What is due to a member is a part of what was said, in its order.
use Rattle.std.proofs.Common.{ℕ, Bool, true, false, List, [], ◌∷◌, ◌++◌, ◌==◌, if◌then◌else◌}
use Rattle.std.specs.Prelude.{filter, ◌&&◌}
use Rattle.model_rooms.specs.Member.{is_in}
use Rattle.model_rooms.specs.Seen.{Seen, row_of}
use Rattle.model_rooms.specs.Due.{Said, said_at, messages, is_for, due_messages}
use Rattle.model_rooms.specs.Laws.{IsPartOf, ends, skips, takes}

-- nothing is a part of anything
none_of : (all : List Said) → IsPartOf [] all
none_of [] = ends
none_of (m ∷ all) = skips m [] all (none_of all)

part-append : (a b c d : List Said) → IsPartOf a b → IsPartOf c d → IsPartOf (a ++ c) (b ++ d)
part-append _ _ c d ends y = y
part-append _ _ c d (skips m a b x) y = skips m (a ++ c) (b ++ d) (part-append a b c d x y)
part-append _ _ c d (takes m a b x) y = takes m (a ++ c) (b ++ d) (part-append a b c d x y)

filter_part : (p : Said → Bool) (all : List Said) → IsPartOf (filter p all) all
filter_part p [] = ends
filter_part p (m ∷ all) =
    elim (p m) as (λ v. IsPartOf (if v then m ∷ filter p all else filter p all) (m ∷ all)) [
      | true ↦ takes m (filter p all) all (filter_part p all)
      | false ↦ skips m (filter p all) all (filter_part p all)
    ]

-- and so of those that pass a test
part_filter : (p : Said → Bool) (a b : List Said) → IsPartOf a b → IsPartOf (filter p a) (filter p b)
part_filter p _ _ ends = ends
part_filter p _ _ (skips m a b x) =
    elim (p m) as (λ v. IsPartOf (filter p a) (if v then m ∷ filter p b else filter p b)) [
      | true ↦ skips m (filter p a) (filter p b) (part_filter p a b x)
      | false ↦ part_filter p a b x
    ]
part_filter p _ _ (takes m a b x) =
    elim (p m) as (λ v. IsPartOf (if v then m ∷ filter p a else filter p a) (if v then m ∷ filter p b else filter p b)) [
      | true ↦ takes m (filter p a) (filter p b) (part_filter p a b x)
      | false ↦ part_filter p a b x
    ]

due_part : (j : ℕ) (seen : List Seen) → IsPartOf (due_messages j seen) (messages seen)
unfolding due_messages messages
due_part j [] = ends
due_part j (s ∷ before) =
    let heard = filter (is_for j (row_of j before).room) (said_at before s) in
    part-append (due_messages j before) (messages before) _ (said_at before s) (due_part j before)
    (elim (is_in (row_of j before) && is_in (row_of j (s ∷ before))) as (λ v. IsPartOf (if v then heard else []) (said_at before s)) [
      | true ↦ filter_part (is_for j (row_of j before).room) (said_at before s)
      | false ↦ none_of (said_at before s)
    ])

pub in_order : (i j : ℕ) (seen : List Seen) → IsPartOf (filter (λ m. m.number == i) (due_messages j seen)) (filter (λ m. m.number == i) (messages seen))
in_order i j seen = part_filter (λ m. m.number == i) (due_messages j seen) (messages seen) (due_part j seen)
