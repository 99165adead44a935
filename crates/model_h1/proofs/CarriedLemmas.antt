-- What is passed of the current message, and how a step carries that message on.
use Rattle.std.proofs.Common.{◌≡◌, ℕ, zero, suc, ◌≤◌, true, false, List, ◌∷◌, length, Option, Some, None, refl, sym, ◌∙◌, subst, subst₂, inl, inr, arith}
use Rattle.std.specs.Prelude.{unwrap_or, slice_get}
use Rattle.std.proofs.lemmas.Option.{none-some, same_Some, slice_get_within}
use Rattle.std.proofs.lemmas.Bool.{cond-true, cond-false, cases_Bool}
use Rattle.model_h1.specs.Parse.{Message, Body, next_start}
use Rattle.model_h1.specs.Sums.{taken, head_of, is_complete}
use Rattle.model_h1.specs.Past.{ParsedStep, steps, parse_of, head_count, current, pulled_to, message_passed, passed}
use Rattle.model_h1.proofs.PlaceLemmas.{get_before}
use Rattle.model_h1.proofs.StepLemmas.{head_count-more, complete_stays}
use Rattle.model_h1.proofs.TraceGrowth.{current_at, current_none}
use Rattle.model_h1.proofs.PulledLemmas.{Holds}

-- ---- what is passed of the current message

-- where no head was handed out nothing is passed
pub passed_none : (past : List ParsedStep) → current past ≡ None → passed past ≡ 0
passed_none past e = rw e refl

-- and else what is passed of the current message
pub passed_some : (past : List ParsedStep) (m : Message) → current past ≡ Some m → passed past ≡ message_passed past m
passed_some past m e = rw e refl

-- the end of the body, or else of the bytes
abbrev pub end_of : ℕ → Body → ℕ
end_of len b = unwrap_or (next_start b) len

-- what is passed of a message
pub passed_complete : (past : List ParsedStep) (m : Message) → is_complete (steps past) ≡ true
    → message_passed past m ≡ end_of (length (taken (steps past))) m.body
passed_complete past m e = cond-true (is_complete (steps past)) _ _ e

-- and before that the place that pulls have come to
pub passed_pulled : (past : List ParsedStep) (m : Message) → is_complete (steps past) ≡ false → message_passed past m ≡ pulled_to m (steps past)
passed_pulled past m e = cond-false (is_complete (steps past)) _ _ e

-- a number that is at most the end, by whether the body has one
pub below_end : (len place : ℕ) (o : Option ℕ) → place ≤ len → ((next : ℕ) → o ≡ Some next → place ≤ next) → place ≤ unwrap_or o len
below_end len place None within ended = within
below_end len place (Some next) within ended = ended next refl

-- the end is at most some number
pub end_below : (len place : ℕ) (o : Option ℕ) → len ≤ place → ((next : ℕ) → o ≡ Some next → next ≤ place) → unwrap_or o len ≤ place
end_below len place None within ended = within
end_below len place (Some next) within ended = ended next refl

-- ---- from one past to the next

-- A head was handed out for each message up to the current one, of which the facts hold.
pub record Sound (past : List ParsedStep) : Type 0 where
  pub count : head_count (steps past) ≤ length (parse_of past)
  pub holds : (m : Message) → current past ≡ Some m → Holds (length (taken (steps past))) m (steps past)

-- The current message behind a step stands for the one before it, and no less of it is passed.
pub record Advance (before : List ParsedStep) (x : ParsedStep) (m n : Message) : Type 0 where
  pub holds : Holds (length (taken (x.step ∷ steps before))) n (x.step ∷ steps before)
  pub pulled : pulled_to m (steps before) ≤ pulled_to n (x.step ∷ steps before)
  pub ended : is_complete (steps before) ≡ true
      → end_of (length (taken (steps before))) m.body ≤ end_of (length (taken (x.step ∷ steps before))) n.body

-- what is passed of a message that advances
advance_passed : (before : List ParsedStep) (x : ParsedStep) (m n : Message) → head_of x.step.outcome ≡ None → Advance before x m n
    → message_passed before m ≤ message_passed (x ∷ before) n
advance_passed before x m n none a =
    elim (cases_Bool (is_complete (steps before))) [
      | inl complete ↦
          let still = complete_stays x.step (steps before) none complete in
          subst₂ (λ p q. p ≤ q) (sym (passed_complete before m complete)) (sym (passed_complete (x ∷ before) n still)) (a.ended complete)
      | inr answering ↦ elim (cases_Bool (is_complete (x.step ∷ steps before))) [
        | inl complete ↦
            let upto = below_end (length (taken (x.step ∷ steps before))) (pulled_to n (x.step ∷ steps before)) (next_start n.body) a.holds.within a.holds.before_next in
            subst₂ (λ p q. p ≤ q) (sym (passed_pulled before m answering)) (sym (passed_complete (x ∷ before) n complete)) (omega (arith, a.pulled))
        | inr still ↦
            subst₂ (λ p q. p ≤ q) (sym (passed_pulled before m answering)) (sym (passed_pulled (x ∷ before) n still)) a.pulled
      ]
    ]

-- what a step is shown to do
abbrev pub Result : List ParsedStep → ParsedStep → Type 0
Result before x = Sound (x ∷ before) × (passed before ≤ passed (x ∷ before))

-- a step that hands out no head, by how it carries the current message
pub carry : (before : List ParsedStep) (x : ParsedStep) (count : ℕ) → head_count (steps before) ≡ count → head_of x.step.outcome ≡ None → Sound before
    → ((k : ℕ) (m : Message) → slice_get (parse_of before) k ≡ Some m → current before ≡ Some m → (n : Message) × (slice_get x.parse k ≡ Some n) × Advance before x m n)
    → Result before x
carry before x zero e none s f =
    let after = head_count-more x.step (steps before) none ∙ e in
    let gone = current_none (x ∷ before) after in
    let here = passed_none before (current_none before e) in (
      record { count = omega arith; holds = λ m there. absurd (none-some m (sym gone ∙ there)) },
      omega arith,
    )
carry before x (suc k) e none s f =
    let m = get_before (parse_of before) k (omega (arith, s.count)) in
    let here = current_at before k e ∙ m.1 in
    let n = f k m.0 m.1 here in
    let after = head_count-more x.step (steps before) none ∙ e in
    let there = current_at (x ∷ before) k after ∙ n.1 in
    let within = slice_get_within x.parse k n.0 n.1 in (
      record {
        count = omega arith;
        holds = λ p q. subst (λ r. Holds (length (taken (x.step ∷ steps before))) r (x.step ∷ steps before)) (same_Some n.0 p (sym there ∙ q)) n.2.holds;
      },
      subst₂ (λ p q. p ≤ q) (sym (passed_some before m.0 here)) (sym (passed_some (x ∷ before) n.0 there)) (advance_passed before x m.0 n.0 none n.2),
    )
