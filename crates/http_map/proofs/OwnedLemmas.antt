-- How many items the iterators that take a map apart have left.
use Rattle.std.proofs.Common.{◌≡◌, ℕ, ◌-◌, ◌<◌, List, [], ◌∷◌, ◌++◌, length, Option, None, Some, IsSome, MatchOption, refl, ap, ◌∙◌, arith, length-append}
use Rattle.std.proofs.lemmas.List.{length-map}
use Rattle.http_header.specs.FieldValue.{FieldValue}
use Rattle.http_map.specs.HeaderMap.{Entries, value_count}
use Rattle.http_map.specs.Owned.{unnamed, drained_entry, drained}

length-unnamed : (vs : List FieldValue) → length (unnamed vs) ≡ length vs
length-unnamed vs = let plain : FieldValue → Option (List ℕ) × FieldValue = λ value. (None, value) in length-map vs plain

length-drained_entry : (name : List ℕ) (vs : List FieldValue) → length (drained_entry name vs) ≡ length vs
length-drained_entry name [] = refl
length-drained_entry name (v ∷ vs) = omega (arith, length-unnamed vs)

pub length-drained : (m : Entries) → length (drained m) ≡ value_count m
length-drained [] = refl
length-drained (e ∷ m) = omega (arith, length-append (drained_entry e.0 e.1) (drained m), length-drained_entry e.0 e.1, length-drained m)

-- once the first value of the first name is given, one less is left
pub length-first_drained : (name : List ℕ) (value : FieldValue) (values others : List FieldValue) (later : Entries) (left : ℕ) → values ≡ value ∷ others → left ≡ length (drained ((name, values) ∷ later)) → left - 1 ≡ length (unnamed others ++ drained later)
length-first_drained name value values others later left first count =
    let all : left ≡ length (drained ((name, value ∷ others) ∷ later)) = count ∙ ap (λ vs. length (drained ((name, vs) ∷ later))) first in
    omega (arith, all)

-- a call of `next` gives an item where one is left
pub given_first : {A : Type 0} (left after : List A) (item : Option A) → MatchOption item ((left ≡ []) × (after ≡ [])) (λ x. left ≡ x ∷ after) → 0 < length left → IsSome item
given_first left after None none some = absurd (omega (arith, some, ap length none.0))
given_first left after (Some x) first some = refl

-- a list of no elements
pub empty_from_length : {A : Type 0} (xs : List A) → length xs ≡ 0 → xs ≡ []
empty_from_length [] none = refl
empty_from_length (x ∷ xs) none = absurd (omega (arith, none))
