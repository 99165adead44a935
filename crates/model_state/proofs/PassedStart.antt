-- The current message's head is passed.
use Rattle.std.proofs.Common.{◌≡◌, ◌≤◌, List, [], ◌∷◌, Some, None, refl, sym, ap, ◌∙◌, arith, inl, inr}
use Rattle.std.proofs.lemmas.Option.{none-some}
use Rattle.model_h1.specs.Setting.{Setting}
use Rattle.model_h1.specs.Parse.{Message}
use Rattle.model_h1.specs.Sums.{head_of}
use Rattle.model_h1.specs.Past.{ParsedStep, steps, current, passed}
use Rattle.model_h1.proofs.PastLemmas.{Legal}
use Rattle.model_h1.proofs.StepLemmas.{head_count-more, complete-head}
use Rattle.model_h1.proofs.TraceGrowth.{current_none}
use Rattle.model_h1.proofs.CarriedLemmas.{passed_some, passed_pulled}
use Rattle.model_h1.proofs.PulledLemmas.{pulled_to-head}
use Rattle.model_h1.proofs.HeldSteps.{headless_or_begins}
use Rattle.model_h1.proofs.HeldLemmas.{passed_grows}
use Rattle.model_state.proofs.Current.{current_of}
use Rattle.model_state.proofs.Frames.{current_carried}

-- where a step hands out no head, by what was passed before
still_begun : (setting : Setting) (before : List ParsedStep) (x : ParsedStep) (n : Message) → Legal setting (x ∷ before)
    → head_of x.step.outcome ≡ None
    → current (x ∷ before) ≡ Some n → ((m : Message) → current before ≡ Some m → m.body_start ≤ passed before) → n.body_start ≤ passed (x ∷ before)
still_begun setting before x n l none e begun = elim (current_of setting before l.3) [
  | inl gone ↦ absurd (none-some n (sym (current_none (x ∷ before) (head_count-more x.step (steps before) none ∙ gone.count)) ∙ e))
  | inr (m, h, c) ↦
      let old = begun m c.current_is in
      let same = (current_carried setting before x m n l none c.current_is e).1 in
      let grows = passed_grows setting before x l in
      omega arith
]

-- no less than its start is passed of the current message
pub passed_begun : (setting : Setting) (past : List ParsedStep) (m : Message) → Legal setting past → current past ≡ Some m
    → m.body_start ≤ passed past
passed_begun setting [] m l e = absurd (none-some m (sym (current_none [] refl) ∙ e))
passed_begun setting (x ∷ before) m l e =
    let old : (n : Message) → current before ≡ Some n → n.body_start ≤ passed before = λ n f. passed_begun setting before n l.3 f in
    elim (headless_or_begins setting before x l) [
      | inl none ↦ still_begun setting before x m l none e old
      | inr b ↦
          let some = ap head_of b.outcome in
          let at = passed_some (x ∷ before) m e ∙ passed_pulled (x ∷ before) m (complete-head x.step (steps before) b.head some)
          ∙ pulled_to-head m x.step (steps before) b.head some in
          omega arith
    ]
