-- What a step makes of each row.
use Rattle.std.proofs.Common.{◌≡◌, ℕ, zero, suc, ◌+◌, ◌<◌, ◌≤◌, Bool, false, List, [], ◌∷◌, ◌++◌, length, Option, Some, None, refl, sym, ap, ◌∙◌, subst, inl, inr, ◌==◌, arith}
use Rattle.std.proofs.lemmas.Bool.{cases_Bool, eqb-true, ltb-true, ltb-false}
use Rattle.std.proofs.lemmas.List.{length-append}
use Rattle.std.specs.Prelude.{nat_lt}
use Rattle.model_h1.specs.Setting.{Setting}
use Rattle.model_h1.specs.Sums.{request}
use Rattle.model_rooms.specs.Hub.{HubEvent, opens, feeds, turns, HubStep, counted, open_count, Move, move_of}
use Rattle.model_rooms.specs.Member.{Member, newcomer, Effect, says, keeps, answers, leaves_with, nothing, heard, row_behind, member_at, rows_from, with_opened, rows_behind}
use Rattle.model_rooms.specs.Seen.{Seen, steps_of, members_of, row_of}
use Rattle.model_rooms.specs.Trace.{core_trace}
use Rattle.model_rooms.proofs.StepViews.{Moved}

pub member_at-append : (j : ℕ) (ms : List Member) → member_at j (ms ++ newcomer ∷ []) ≡ member_at j ms
member_at-append zero [] = refl
member_at-append zero (m ∷ ms) = refl
member_at-append (suc j) [] = refl
member_at-append (suc j) (m ∷ ms) = member_at-append j ms

pub member_out : (j : ℕ) (ms : List Member) → length ms ≤ j → member_at j ms ≡ newcomer
member_out j [] h = refl
member_out zero (m ∷ ms) h = absurd (omega arith)
member_out (suc j) (m ∷ ms) h = member_out j ms (omega arith)

pub length-rows_from : (k : ℕ) (change : ℕ → Member → Member) (ms : List Member) → length (rows_from k change ms) ≡ length ms
length-rows_from k change [] = refl
length-rows_from k change (m ∷ ms) = ap suc (length-rows_from (k + 1) change ms)

pub rows_in : (k j : ℕ) (change : ℕ → Member → Member) (ms : List Member) → j < length ms
    → member_at j (rows_from k change ms) ≡ change (k + j) (member_at j ms)
rows_in k j change [] h = absurd (omega arith)
rows_in k zero change (m ∷ ms) h = let same : k ≡ k + 0 = omega arith in ap (λ (n : ℕ). change n m) same
rows_in k (suc j) change (m ∷ ms) h =
    let same : k + 1 + j ≡ k + suc j = omega arith in
    rows_in (k + 1) j change ms (omega arith) ∙ ap (λ (n : ℕ). change n (member_at j ms)) same

pub length-rows_behind : (before : List HubStep) (closes : Bool) (move : Option Move) (ms : List Member)
    → length (rows_behind before closes move ms) ≡ length ms
length-rows_behind before closes None ms = refl
length-rows_behind before closes (Some move) ms = length-rows_from 0 _ ms

opened_length : (event : HubEvent) (ms : List Member) → length (with_opened event ms) ≡ counted event (length ms)
opened_length opens ms = omega (arith, length-append ms (newcomer ∷ []))
opened_length (feeds i e) ms = refl
opened_length (turns i) ms = refl

-- there is a row for each connection
pub length-members : (seen : List Seen) → length (members_of seen) ≡ open_count (steps_of seen)
unfolding members_of
length-members [] = refl
length-members (s ∷ before) =
    length-rows_behind (steps_of before) s.closes (move_of s.step) (with_opened s.step.event (members_of before))
    ∙ opened_length s.step.event (members_of before)
    ∙ ap (counted s.step.event) (length-members before)

pub row_opening : (j : ℕ) (s : Seen) (before : List Seen) → s.step.event ≡ opens → row_of j (s ∷ before) ≡ row_of j before
unfolding members_of
row_opening j s before e = rw e (member_at-append j (members_of before))

heard_by_none : (effect : Effect) (room : Option (List ℕ)) → heard effect room newcomer ≡ newcomer
heard_by_none (says fs) room = refl
heard_by_none (keeps fs) room = refl
heard_by_none (answers f) room = refl
heard_by_none (leaves_with f) room = refl
heard_by_none nothing room = refl

row_unknown : (asked : _) (closes : Bool) (move : Move) (mover : Member) (j : ℕ) → (j == move.number) ≡ false
    → row_behind asked closes move mover j newcomer ≡ newcomer
row_unknown asked closes move mover j e = rw e (heard_by_none _ mover.room)

unequal : (j k : ℕ) → k < j → (j == k) ≡ false
unequal j k h = elim (cases_Bool (j == k)) [
  | inl same ↦ absurd (omega (arith, eqb-true j k same))
  | inr other ↦ other
]

-- a step makes of each row what that row and the mover's say
pub row_moved : (setting : Setting) (s : Seen) (before : List Seen) (m : Moved setting before s.step.event s.step.outcome s.closes) (j : ℕ)
    → row_of j (s ∷ before)
    ≡ row_behind (request (core_trace m.move.number before)) s.closes m.move (row_of m.move.number before) j (row_of j before)
unfolding members_of
row_moved setting s before m j =
    let known : m.move.number < length (members_of before) = subst (λ (n : ℕ). m.move.number < n) (sym (length-members before)) m.goes.known in
    let change = row_behind (request (core_trace m.move.number before)) s.closes m.move (row_of m.move.number before) in
    elim (cases_Bool (nat_lt j (length (members_of before)))) [
      | inl within ↦
          rw (m.rows (members_of before), m.is)
          (let at : j < length (members_of before) = ltb-true j (length (members_of before)) within in
          let here : 0 + j ≡ j = omega arith in
          rows_in 0 j change (members_of before) at ∙ ap (λ (n : ℕ). change n (row_of j before)) here)
      | inr out ↦
          rw (m.rows (members_of before), m.is)
          (let past : length (members_of before) ≤ j = ltb-false j (length (members_of before)) out in
          let none : row_of j before ≡ newcomer = member_out j (members_of before) past in
          let same_length = length-rows_from 0 change (members_of before) in
          let other : (j == m.move.number) ≡ false = unequal j m.move.number (omega arith) in
          subst (λ (row : Member). member_at j (rows_from 0 change (members_of before)) ≡ change j row) (sym none)
          (member_out j (rows_from 0 change (members_of before)) (omega (arith, same_length))
          ∙ sym (row_unknown (request (core_trace m.move.number before)) s.closes m.move (row_of m.move.number before) j other)))
    ]
