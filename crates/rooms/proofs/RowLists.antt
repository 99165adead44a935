-- Rows changed one after another, or one alone.
use Rattle.std.proofs.Common.{◌≡◌, ◌<◌, ◌≤◌, ℕ, zero, suc, ◌+◌, List, [], ◌∷◌, length, Option, Some, None, refl, sym, ap, ◌∙◌, subst, inl, inr, ◌==◌, get_or, get_or-set_same, get_or-set_other, arith}
use Rattle.std.proofs.Math.ListN.{set, length-set}
use Rattle.std.specs.Prelude.{nat_le}
use Rattle.std.proofs.lemmas.Bool.{cases_Bool, eqb-true, eqb-false, eq-eqb, ne_eqb}
use Rattle.model_h1.specs.Frame.{Frame}
use Rattle.model_h1.specs.Event as on
use Rattle.model_rooms.specs.Member.{Member, newcomer, Effect, says, keeps, answers, leaves_with, nothing, MAX_WAITING, effect_in, put, heard, with_effect, member_at, rows_from}
use Rattle.rooms.specs.QueuedFrames.{said_of}
use Rattle.model_rooms.proofs.RowLemmas.{rows_in, length-rows_from}
use Rattle.rooms.specs.Rows.{only, others_hear, spoken}

pub member_get : (k : ℕ) (ms : List Member) → member_at k ms ≡ get_or ms k newcomer
member_get k [] = refl
member_get zero (m ∷ ms) = refl
member_get (suc k) (m ∷ ms) = member_get k ms

rows_same : (xs ys : List Member) → length xs ≡ length ys → ((k : ℕ) → k < length xs → member_at k xs ≡ member_at k ys) → xs ≡ ys
rows_same [] [] e h = refl
rows_same [] (y ∷ ys) e h = absurd (omega arith)
rows_same (x ∷ xs) [] e h = absurd (omega arith)
rows_same (x ∷ xs) (y ∷ ys) e h =
    let here : x ≡ y = h zero (omega arith) in
    let others : xs ≡ ys = rows_same xs ys (omega arith) (λ k below. h (suc k) (omega arith)) in
    λ i. here i ∷ others i

pub all_rows : (change : ℕ → Member → Member) (old new : List Member) → length new ≡ length old
    → ((k : ℕ) → k < length old → member_at k new ≡ change k (member_at k old)) → new ≡ rows_from 0 change old
all_rows change old new e h =
    rows_same new (rows_from 0 change old) (e ∙ sym (length-rows_from 0 change old))
    (λ k below.
    let below' : k < length old = omega arith in
    let here : 0 + k ≡ k = omega arith in
    h k below' ∙ sym (rows_in 0 k change old below' ∙ ap (λ (n : ℕ). change n (member_at k old)) here))

pub member_set_same : (i : ℕ) (ms : List Member) (v : Member) → i < length ms → member_at i (set ms i v) ≡ v
member_set_same i ms v h = member_get i (set ms i v) ∙ get_or-set_same ms i v newcomer h

pub member_set_other : (i k : ℕ) (ms : List Member) (v : Member) → (k ≡ i → ⊥) → member_at k (set ms i v) ≡ member_at k ms
member_set_other i k ms v ne = member_get k (set ms i v) ∙ get_or-set_other ms i k v newcomer ne ∙ sym (member_get k ms)

-- one row changed
pub only_set : (i : ℕ) (change : Member → Member) (ms : List Member) (v : Member) → i < length ms → v ≡ change (member_at i ms)
    → set ms i v ≡ rows_from 0 (only i change) ms
only_set i change ms v h e =
    all_rows (only i change) ms (set ms i v) (length-set ms i v)
    (λ k below. elim (cases_Bool (k == i)) [
      | inl same ↦
          let eq : k ≡ i = eqb-true k i same in
          rw same (subst (λ (n : ℕ). member_at n (set ms i v) ≡ change (member_at n ms)) (sym eq) (member_set_same i ms v h ∙ e))
      | inr other ↦ rw other (member_set_other i k ms v (eqb-false k i other))
    ])

-- the rows below a number are changed, and the others aren't
pub record ChangedBelow (n : ℕ) (change : ℕ → Member → Member) (old new : List Member) : Type 0 where
  pub length_is : length new ≡ length old
  pub below : (k : ℕ) → k < n → member_at k new ≡ change k (member_at k old)
  pub rest : (k : ℕ) → n ≤ k → member_at k new ≡ member_at k old

pub changed_none : (change : ℕ → Member → Member) (old : List Member) → ChangedBelow 0 change old old
changed_none change old = record { length_is = refl; below = λ k h. absurd (omega arith); rest = λ k h. refl }

-- the next one is changed
pub changed_more : (n : ℕ) (change : ℕ → Member → Member) (old new : List Member) (v : Member) → n < length old
    → ChangedBelow n change old new → v ≡ change n (member_at n new) → ChangedBelow (n + 1) change old (set new n v)
changed_more n change old new v h c e = record {
  length_is = length-set new n v ∙ c.length_is;
  below = λ k below. elim (cases_Bool (k == n)) [
    | inl same ↦
        let eq : k ≡ n = eqb-true k n same in
        let at : n < length new = omega (arith, c.length_is) in
        let here : change n (member_at n new) ≡ change n (member_at n old) = ap (change n) (c.rest n (omega arith)) in
        subst (λ (j : ℕ). member_at j (set new n v) ≡ change j (member_at j old)) (sym eq) (member_set_same n new v at ∙ e ∙ here)
    | inr other ↦
        let ne : k ≡ n → ⊥ = eqb-false k n other in
        member_set_other n k new v ne ∙ c.below k (omega (arith, ne))
  ];
  rest = λ k above.
      let ne : k ≡ n → ⊥ = λ (eq : k ≡ n). omega arith in
      member_set_other n k new v ne ∙ c.rest k (omega arith);
}

-- the next one stays, as it is to
pub changed_same : (n : ℕ) (change : ℕ → Member → Member) (old new : List Member)
    → ChangedBelow n change old new → ((m : Member) → change n m ≡ m) → ChangedBelow (n + 1) change old new
changed_same n change old new c e = record {
  length_is = c.length_is;
  below = λ k below. elim (cases_Bool (k == n)) [
    | inl same ↦
        let eq : k ≡ n = eqb-true k n same in
        subst (λ (j : ℕ). member_at j new ≡ change j (member_at j old)) (sym eq) (c.rest n (omega arith) ∙ sym (e (member_at n old)))
    | inr other ↦
        let ne : k ≡ n → ⊥ = eqb-false k n other in
        c.below k (omega (arith, ne))
  ];
  rest = λ k above. c.rest k (omega arith);
}

pub changed_all : (change : ℕ → Member → Member) (old new : List Member) (n : ℕ) → length old ≤ n → ChangedBelow n change old new
    → new ≡ rows_from 0 change old
changed_all change old new n h c = all_rows change old new c.length_is (λ k below. c.below k (omega arith))

-- ---- the element of a vector

pub element : (i : ℕ) (ms : List Member) (v : Member) → i < length ms → v ≡ get_or ms i v → v ≡ member_at i ms
element i [] v h e = absurd (omega arith)
element zero (m ∷ ms) v h e = e
element (suc i) (m ∷ ms) v h e = element i ms v (omega arith) e

-- one row of a table is changed
pub set_only : (i : ℕ) (change : Member → Member) (ms rows : List Member) (was v : Member) → rows ≡ ms → i < length ms
    → was ≡ get_or rows i was → v ≡ change was → set rows i v ≡ rows_from 0 (only i change) ms
set_only i change ms rows was v same h at e =
    let was_is : was ≡ member_at i ms = element i ms was h (subst (λ (l : List Member). was ≡ get_or l i was) same at) in
    subst (λ (l : List Member). set l i v ≡ rows_from 0 (only i change) ms) (sym same)
    (only_set i change ms v h (e ∙ ap change was_is))

-- ---- a frame of a member

-- an effect that says nothing is heard by nobody
silent : (e : Effect) (room : Option (List ℕ)) (m : Member) → said_of e ≡ None → heard e room m ≡ m
silent (says fs) room m n = absurd (cc)
silent (keeps fs) room m n = refl
silent (answers f) room m n = refl
silent (leaves_with f) room m n = refl
silent nothing room m n = refl

saying : (e : Effect) (fs : List Frame) → said_of e ≡ Some fs → e ≡ says fs
saying (says gs) fs x = let same : gs ≡ fs = cc in ap says same
saying (keeps gs) fs x = absurd (cc)
saying (answers f) fs x = absurd (cc)
saying (leaves_with f) fs x = absurd (cc)
saying nothing fs x = absurd (cc)

-- its effect on its own row leaves its room
put_room : (fs : List Frame) (m : Member) → (put fs m).room ≡ m.room
put_room fs m = elim (cases_Bool (nat_le (length m.waiting + length fs) MAX_WAITING)) [
  | inl fits ↦ rw fits refl
  | inr full ↦ rw full refl
]

effect_room : (e : Effect) (m : Member) → (with_effect e m).room ≡ m.room
effect_room (says fs) m = refl
effect_room (keeps fs) m = refl
effect_room (answers f) m = put_room (f ∷ []) m
effect_room (leaves_with f) m = refl
effect_room nothing m = refl

-- where it says nothing, its own row alone is changed
pub spoken_silently : (i : ℕ) (f : Frame) (ms rows : List Member) (was v : Member) → rows ≡ ms → i < length ms → was ≡ get_or rows i was
    → v ≡ with_effect (effect_in was (on.frame f)) was → said_of (effect_in was (on.frame f)) ≡ None
    → set rows i v ≡ rows_from 0 (spoken i (member_at i ms) f) ms
spoken_silently i f ms rows was v same h at e n =
    let was_is : was ≡ member_at i ms = element i ms was h (subst (λ (l : List Member). was ≡ get_or l i was) same at) in
    let e' : v ≡ with_effect (effect_in (member_at i ms) (on.frame f)) (member_at i ms) =
    e ∙ ap (λ (m : Member). with_effect (effect_in m (on.frame f)) m) was_is in
    let n' : said_of (effect_in (member_at i ms) (on.frame f)) ≡ None =
    subst (λ (m : Member). said_of (effect_in m (on.frame f)) ≡ None) was_is n in
    subst (λ (l : List Member). set l i v ≡ rows_from 0 (spoken i (member_at i ms) f) ms) (sym same)
    (all_rows (spoken i (member_at i ms) f) ms (set ms i v) (length-set ms i v)
    (λ k below. elim (cases_Bool (k == i)) [
      | inl here ↦
          let eq : k ≡ i = eqb-true k i here in
          rw here
          (subst (λ (j : ℕ). member_at j (set ms i v) ≡ with_effect (effect_in (member_at i ms) (on.frame f)) (member_at j ms)) (sym eq)
          (member_set_same i ms v h ∙ e'))
      | inr there ↦
          rw there
          (member_set_other i k ms v (eqb-false k i there)
          ∙ sym (silent (effect_in (member_at i ms) (on.frame f)) (member_at i ms).room (member_at k ms) n'))
    ]))

-- where it says a message, the others hear it
pub spoken_aloud : (i : ℕ) (f : Frame) (ms rows : List Member) (was v : Member) (room : Option (List ℕ)) (fs : List Frame)
    → rows ≡ ms → i < length ms → was ≡ get_or rows i was
    → v ≡ with_effect (effect_in was (on.frame f)) was → said_of (effect_in was (on.frame f)) ≡ Some fs → room ≡ v.room
    → rows_from 0 (others_hear i room fs) (set rows i v) ≡ rows_from 0 (spoken i (member_at i ms) f) ms
spoken_aloud i f ms rows was v room fs same h at e s r =
    let was_is : was ≡ member_at i ms = element i ms was h (subst (λ (l : List Member). was ≡ get_or l i was) same at) in
    let e' : v ≡ with_effect (effect_in (member_at i ms) (on.frame f)) (member_at i ms) =
    e ∙ ap (λ (m : Member). with_effect (effect_in m (on.frame f)) m) was_is in
    let s' : effect_in (member_at i ms) (on.frame f) ≡ says fs =
    saying (effect_in (member_at i ms) (on.frame f)) fs (subst (λ (m : Member). said_of (effect_in m (on.frame f)) ≡ Some fs) was_is s) in
    let room_is : room ≡ (member_at i ms).room =
    r ∙ ap (λ (m : Member). m.room) e' ∙ effect_room (effect_in (member_at i ms) (on.frame f)) (member_at i ms) in
    let len : length (rows_from 0 (others_hear i room fs) (set ms i v)) ≡ length ms =
    length-rows_from 0 (others_hear i room fs) (set ms i v) ∙ length-set ms i v in
    subst (λ (l : List Member). rows_from 0 (others_hear i room fs) (set l i v) ≡ rows_from 0 (spoken i (member_at i ms) f) ms) (sym same)
    (all_rows (spoken i (member_at i ms) f) ms (rows_from 0 (others_hear i room fs) (set ms i v)) len
    (λ k below.
    let below' : k < length (set ms i v) = omega (arith, length-set ms i v) in
    let zero_k : 0 + k ≡ k = omega arith in
    rows_in 0 k (others_hear i room fs) (set ms i v) below'
    ∙ ap (λ (n : ℕ). others_hear i room fs n (member_at k (set ms i v))) zero_k
    ∙ (elim (cases_Bool (k == i)) [
      | inl here ↦
          let eq : k ≡ i = eqb-true k i here in
          rw here
          (subst (λ (j : ℕ). member_at j (set ms i v) ≡ with_effect (effect_in (member_at i ms) (on.frame f)) (member_at j ms)) (sym eq)
          (member_set_same i ms v h ∙ e'))
      | inr there ↦
          rw there
          (ap (λ (m : Member). heard (says fs) room m) (member_set_other i k ms v (eqb-false k i there))
          ∙ ap (λ (x : Option (List ℕ)). heard (says fs) x (member_at k ms)) room_is
          ∙ ap (λ (x : Effect). heard x (member_at i ms).room (member_at k ms)) (sym s'))
    ])))

-- one more member has heard what is said
pub heard_more : (n i : ℕ) (room : Option (List ℕ)) (fs : List Frame) (old new : List Member) (was v : Member) → n < length old
    → ChangedBelow n (others_hear i room fs) old new → was ≡ get_or new n was → (n ≡ i → ⊥) → v ≡ heard (says fs) room was
    → ChangedBelow (n + 1) (others_hear i room fs) old (set new n v)
heard_more n i room fs old new was v h c at ne e =
    let within : n < length new = omega (arith, c.length_is) in
    let was_is : was ≡ member_at n new = element n new was within at in
    changed_more n (others_hear i room fs) old new v h c
    (rw (ne_eqb n i ne) (e ∙ ap (λ (m : Member). heard (says fs) room m) was_is))

-- the one that says it doesn't hear it
pub unheard : (n i : ℕ) (room : Option (List ℕ)) (fs : List Frame) (old new : List Member)
    → ChangedBelow n (others_hear i room fs) old new → n ≡ i → ChangedBelow (n + 1) (others_hear i room fs) old new
unheard n i room fs old new c e = changed_same n (others_hear i room fs) old new c (λ m. rw (eq-eqb n i e) refl)
