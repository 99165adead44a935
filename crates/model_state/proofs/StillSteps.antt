-- The last request behind a step that leaves it as it is.
use Rattle.std.proofs.Common.{◌≡◌, false, List, ◌∷◌, Some, None, sym, ap, ◌∙◌, inl, inr}
use Rattle.model_h1.specs.Setting.{Setting}
use Rattle.model_h1.specs.Sums.{Step, head_of, is_pull, request, accepted_limit}
use Rattle.model_h1.specs.Past.{ParsedStep, steps, current, step_bytes, step_frames}
use Rattle.model_h1.proofs.PastLemmas.{Legal}
use Rattle.model_h1.proofs.StepLemmas.{Quiet}
use Rattle.model_h1.proofs.HandedTrace.{request-more}
use Rattle.model_state.specs.KeptOf.{exchange_with, exchange_of}
use Rattle.model_state.proofs.Current.{current_of}
use Rattle.model_state.proofs.CalmSteps.{IsCalm, exchange-unpulled, current-calm}
use Rattle.model_state.proofs.QuietParts.{rest-quiet}

-- The step is calm, is no pull, accepts nothing, and hands out nothing of a message.
pub record IsStill (s : Step) : Type 0 where
  pub calm : IsCalm s.event
  pub pull : is_pull s.event ≡ false
  pub accepts : accepted_limit s.event s.outcome ≡ None
  pub head : head_of s.outcome ≡ None
  pub bytes : step_bytes s.outcome ≡ 0
  pub frames : step_frames s.outcome ≡ 0

-- such a step is quiet
pub still_quiet : (before : List ParsedStep) (s : Step) → IsStill s → Quiet before s
still_quiet before s w = record {
  taken = w.calm.takes s.outcome;
  eof = w.calm.eof;
  accepted = w.accepts;
  pull = w.pull;
  head = w.head;
  bytes = w.bytes;
  frames = w.frames;
}

-- the last request is the same
pub exchange_still : (setting : Setting) (before : List ParsedStep) (x : ParsedStep) → Legal setting (x ∷ before) → IsStill x.step
    → exchange_of setting before (current before) (request (steps before))
    ≡ exchange_of setting (x ∷ before) (current (x ∷ before)) (request (x.step ∷ steps before))
exchange_still setting before x l w =
    let t = steps before in
    let now = current-calm setting before x l w.calm w.accepts w.head in
    elim (current_of setting before l.3) [
      | inl n ↦ ap (λ o. exchange_of setting before o (request t)) n.current_is
          ∙ sym (ap (λ o. exchange_of setting (x ∷ before) o (request (x.step ∷ t))) (now ∙ n.current_is))
      | inr (m, h, c) ↦
          let asked = request-more x.step t w.head ∙ c.request_is in
          let here = now ∙ c.current_is in
          let old = exchange_with setting before m h in
          let rest = sym (rest-quiet setting x before m h.body l (still_quiet before x.step w) w.calm.aside.completes) in
          (λ i. exchange_of setting before (c.current_is i) (c.request_is i))
          ∙ (λ i. Some (record old { rest = rest i }))
          ∙ ap Some (exchange-unpulled setting before x m m h w.head w.calm.aside w.pull)
          ∙ sym (λ i. exchange_of setting (x ∷ before) (here i) (asked i))
    ]
