-- Cursors that are moved over a journal.
use Rattle.std.proofs.Common.{◌≡◌, ◌≢◌, ℕ, ◌+◌, ◌<◌, ◌≤◌, List, [], ◌∷◌, ◌++◌, Bool, true, false, Option, Some, refl, sym, ap, ◌∙◌, subst, ⊎_elim, arith, get_or, append-nil, eq-eqb}
use Rattle.std.specs.Prelude.{take, length, ◌==◌, cond}
use Rattle.std.specs.List.{slice_get, slice_set}
use Rattle.std.proofs.lemmas.Bool.{cases_eq, ne_eqb}
use Rattle.std.proofs.lemmas.List.{take_more, take_all, length-set, get_or-set_same, get_or-set_other}
use Rattle.std.proofs.lemmas.List.Elements.{filter-append}
use Rattle.std.proofs.lemmas.Option.{slice_get_within, get_or_from_slice_get, slice_get-get_or}
use Rattle.board.specs.declared.command.Entry.{Entry}
use Rattle.board.specs.declared.compare.Cursor.{Cursor}
use Rattle.board.specs.Journal.{of_pass}
use Rattle.board.specs.Views.{Held, Agrees}
use Rattle.board.specs.Cursors.{IsAt, Stand, IsThrough, AreThrough}

-- what stands where an element was put
set_same : {X : Type 0} (xs : List X) (n : ℕ) (x y : X) → slice_get (slice_set xs n x) n ≡ Some y → x ≡ y
set_same xs n x y at =
    let within : n < length xs = subst (λ k. n < k) (length-set xs n x) (slice_get_within (slice_set xs n x) n y at) in
    sym (get_or-set_same xs n x y within) ∙ get_or_from_slice_get (slice_set xs n x) n y y at

-- and elsewhere
set_other : {X : Type 0} (xs : List X) (n m : ℕ) (x y : X) → m ≢ n → slice_get (slice_set xs n x) m ≡ Some y → slice_get xs m ≡ Some y
set_other xs n m x y other at =
    let within : m < length xs = subst (λ k. m < k) (length-set xs n x) (slice_get_within (slice_set xs n x) m y at) in
    slice_get-get_or xs m y within ∙ ap Some (sym (get_or-set_other xs n m x y other) ∙ get_or_from_slice_get (slice_set xs n x) m y y at)

-- the entries of a pass, with one entry more
of_pass_more : (journal : List Entry) (e : Entry) (n : ℕ) (b : Bool) → (e.pass == n) ≡ b → of_pass n (journal ++ e ∷ []) ≡ of_pass n journal ++ cond b (e ∷ []) []
of_pass_more journal e n b is = filter-append (λ x. x.pass == n) journal (e ∷ []) ∙ ap (λ t. of_pass n journal ++ cond t (e ∷ []) []) is

-- a cursor that is put where it belongs
pub stand_set : (journal : List Entry) (passes : List Held) (cursors : List (Option Cursor)) (n : ℕ) (c : Cursor) → IsAt journal passes n c → Stand journal passes cursors
    → Stand journal passes (slice_set cursors n (Some c))
stand_set journal passes cursors n c here stand m d at =
    ⊎_elim
    (λ (same : m ≡ n).
    let found : Some c ≡ Some d = set_same cursors n (Some c) (Some d) (subst (λ k. slice_get (slice_set cursors n (Some c)) k ≡ Some (Some d)) same at) in
    let is : c ≡ d = cc in
    subst (λ k. IsAt journal passes k d) (sym same) (subst (λ x. IsAt journal passes n x) is here))
    (λ (other : m ≢ n). stand m d (set_other cursors n m (Some c) (Some d) other at))
    (cases_eq m n)

-- an entry of another pass
pub other_entry : (journal : List Entry) (passes : List Held) (n : ℕ) (c : Cursor) (e : Entry) → n ≢ e.pass → IsAt journal passes n c → IsAt (journal ++ e ∷ []) passes n c
other_entry journal passes n c e other at = record {
  pass = at.pass;
  there = at.there;
  number_is = at.number_is;
  within = at.within;
  found = of_pass_more journal e n false (ne_eqb e.pass n (λ same. other (sym same))) ∙ append-nil (of_pass n journal) ∙ at.found;
}

-- an entry of a number that has no cursor
pub stand_other : (journal : List Entry) (passes : List Held) (cursors : List (Option Cursor)) (e : Entry)
    → ((c : Cursor) → slice_get cursors e.pass ≢ Some (Some c)) → Stand journal passes cursors → Stand (journal ++ e ∷ []) passes cursors
stand_other journal passes cursors e none stand n c at =
    other_entry journal passes n c e (λ same. none c (subst (λ k. slice_get cursors k ≡ Some (Some c)) same at)) (stand n c at)

-- an entry that the cursor of its number finds
pub stand_found : (journal : List Entry) (passes : List Held) (cursors : List (Option Cursor)) (e : Entry) (c : Cursor) (p : Held)
    → slice_get cursors e.pass ≡ Some (Some c) → slice_get passes c.at ≡ Some p → slice_get p.entries c.found ≡ Some e → Stand journal passes cursors
    → Stand (journal ++ e ∷ []) passes (slice_set cursors e.pass (Some (record { at = c.at; found = c.found + 1 })))
stand_found journal passes cursors e c p there pass here stand n d at =
    let next : Cursor = record { at = c.at; found = c.found + 1 } in
    let base = stand e.pass c there in
    let both : Some base.pass ≡ Some p = sym base.there ∙ pass in
    let one : base.pass ≡ p = cc in
    let within : c.found < length p.entries = slice_get_within p.entries c.found e here in
    let one_more : take (c.found + 1) p.entries ≡ take c.found p.entries ++ e ∷ [] =
    take_more p.entries c.found e within ∙ ap (λ x. take c.found p.entries ++ x ∷ []) (get_or_from_slice_get p.entries c.found e e here) in
    let moved : IsAt (journal ++ e ∷ []) passes e.pass next = record {
      pass = p;
      there = pass;
      number_is = ap (λ x. x.number) (sym one) ∙ base.number_is;
      within = omega arith;
      found = of_pass_more journal e e.pass true (eq-eqb e.pass e.pass refl) ∙ ap (λ xs. xs ++ e ∷ []) (base.found ∙ ap (λ x. take c.found x.entries) one) ∙ sym one_more;
    } in
    ⊎_elim
    (λ (same : n ≡ e.pass).
    let found : Some next ≡ Some d = set_same cursors e.pass (Some next) (Some d) (subst (λ k. slice_get (slice_set cursors e.pass (Some next)) k ≡ Some (Some d)) same at) in
    let is : next ≡ d = cc in
    subst (λ k. IsAt (journal ++ e ∷ []) passes k d) (sym same) (subst (λ x. IsAt (journal ++ e ∷ []) passes e.pass x) is moved))
    (λ (other : n ≢ e.pass). other_entry journal passes n d e other (stand n d (set_other cursors e.pass n (Some next) (Some d) other at)))
    (cases_eq n e.pass)

-- where each cursor is at the end of its list, the lists are the journal's
pub through_agrees : (journal : List Entry) (passes : List Held) (cursors : List (Option Cursor)) → Stand journal passes cursors → AreThrough passes cursors → Agrees journal passes
through_agrees journal passes cursors stand through k d within =
    let p = get_or passes k d in
    let there : slice_get passes k ≡ Some p = slice_get-get_or passes k d within in
    let t = through k p there in
    let s = stand p.number t.cursor t.there in
    let both : Some s.pass ≡ Some p = sym s.there ∙ ap (λ n. slice_get passes n) t.at_is ∙ there in
    let one : s.pass ≡ p = cc in
    s.found ∙ ap (λ x. take t.cursor.found x.entries) one ∙ take_all t.cursor.found p.entries (omega (arith, t.found))
