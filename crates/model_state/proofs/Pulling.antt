-- A pull, by what it gives.
use Rattle.std.proofs.Common.{◌≡◌, true, false, List, ◌∷◌, ◌++◌, drop, Some, None, refl, sym, ap, ◌∙◌, subst, append-nil}
use Rattle.std.specs.Prelude.{◌||◌, [], not, is_some}
use Rattle.std.specs.Option.{option_or}
use Rattle.std.proofs.lemmas.Bool.{and_parts, not-true}
use Rattle.model_h1.specs.Request.{Head}
use Rattle.model_h1.specs.Setting.{Setting}
use Rattle.model_h1.specs.Parse.{Message}
use Rattle.model_h1.specs.Event.{Outcome}
use Rattle.model_h1.specs.Event as on
use Rattle.model_h1.specs.Sums.{Step, step_written, head_of, request, taken, has_ended, accepted, is_upgraded, is_complete, is_open}
use Rattle.model_h1.specs.Past.{ParsedStep, steps, current, passed}
use Rattle.model_h1.specs.Text.{step_text, buffered}
use Rattle.model_h1.specs.Closing.{told_end}
use Rattle.model_h1.specs.Allowed.{is_over_by, is_over}
use Rattle.model_h1.specs.OutcomeTable.{pull_outcome, outcome_of}
use Rattle.model_h1.proofs.PastLemmas.{Legal}
use Rattle.model_h1.proofs.HeldSteps.{pull_no_head}
use Rattle.model_h1.proofs.HandedTrace.{request-more}
use Rattle.model_state.specs.Pull.{Pulled, IsPull}
use Rattle.model_state.specs.Kept.{Change}
use Rattle.model_state.specs.Change.{IsPulling, pulled_from}
use Rattle.model_state.specs.KeptOf.{rest_of, tells_done, exchange_with, exchange_of, kept_of}
use Rattle.model_state.proofs.Changes.{Changes}
use Rattle.model_state.proofs.Current.{Current}
use Rattle.model_state.proofs.StepSums.{buffered-more}
use Rattle.model_state.proofs.CalmSteps.{calm_pull, taken-calm, exchange-aside, current-calm, calm_parts}

-- a pull with its outcome
abbrev pub pull_of : Outcome → List Message → ParsedStep
pull_of o parse = record { step = record { event = on.pull; outcome = o }; parse = parse }

-- the outcome of a pull
pull_answers : (setting : Setting) (past : List ParsedStep) → outcome_of setting past on.pull ≡ pull_outcome (steps past) (current past)
unfolding outcome_of
pull_answers setting past = refl

-- and that of a legal one
pub outcome_of_pull : (setting : Setting) (before : List ParsedStep) (o : Outcome) (parse : List Message) → Legal setting (pull_of o parse ∷ before)
    → o ≡ pull_outcome (steps before) (current before)
outcome_of_pull setting before o parse l = l.2 ∙ pull_answers setting before

-- it hands out no head
pub pull_headless : (setting : Setting) (before : List ParsedStep) (o : Outcome) (parse : List Message) → Legal setting (pull_of o parse ∷ before)
    → head_of o ≡ None
pull_headless setting before o parse l = ap head_of (outcome_of_pull setting before o parse l) ∙ pull_no_head (steps before) (current before)

-- it writes nothing
pull_text : (setting : Setting) (t : List Step) (o : Outcome) → step_text setting t on.pull o ≡ []
unfolding step_text
pull_text setting t o = refl

-- the current message is the same
pub pull_current : (setting : Setting) (before : List ParsedStep) (o : Outcome) (parse : List Message) (m : Message)
    → Legal setting (pull_of o parse ∷ before)
    → current before ≡ Some m → current (pull_of o parse ∷ before) ≡ Some m
pull_current setting before o parse m l e =
    current-calm setting before (pull_of o parse) l calm_pull refl (pull_headless setting before o parse l) ∙ e

-- on no WebSocket, an open request's answer isn't complete
pub open_incomplete : (t : List Step) → accepted t ≡ None → is_open t ≡ true → is_complete t ≡ false
open_incomplete t plain x =
    not-true (is_complete t)
    (subst (λ b. (b || not (is_complete t)) ≡ true) (ap is_some plain) (and_parts (is_some (request t)) (is_upgraded t || not (is_complete t)) x).1)

-- What a pull gives, and that this is what the longer past says.
pub record Gives (setting : Setting) (before : List ParsedStep) (m : Message) (h : Head) (p : Pulled) (parse : List Message) : Type 0 where
  pub rest : p.rest ≡ rest_of (pull_of p.outcome parse ∷ before) m h.body
  pub unread : p.unread ≡ drop (passed (pull_of p.outcome parse ∷ before)) (taken (steps before))
  pub done : p.is_done ≡ tells_done on.pull p.outcome
  pub failed : p.failed ≡ told_end p.outcome
  pub written : step_written p.outcome ≡ []
  pub over : is_over_by p.outcome ≡ false

-- the last request is that of the current message
pub exchange_is : (setting : Setting) (past : List ParsedStep) (m : Message) (h : Head) → current past ≡ Some m → request (steps past) ≡ Some h
    → exchange_of setting past (current past) (request (steps past)) ≡ Some (exchange_with setting past m h)
exchange_is setting past m h e f = λ i. exchange_of setting past (e i) (f i)

-- what it gives changes all parts
pulling : (setting : Setting) (before : List ParsedStep) (parse : List Message) (m : Message) (h : Head) (p : Pulled)
    → Legal setting (pull_of p.outcome parse ∷ before) → Current setting before m h
    → IsPull (has_ended (steps before)) (rest_of before m h.body) (drop (passed before) (taken (steps before))) p
    → Gives setting before m h p parse → Changes setting before (pull_of p.outcome parse)
pulling setting before parse m h p l c is g =
    let t = steps before in
    let o = p.outcome in
    let x = pull_of o parse in
    let k = kept_of setting before in
    let old = exchange_with setting before m h in
    let none = pull_headless setting before o parse l in
    let change : Change = record { outcome = o; kept = pulled_from old p k } in
    let here = exchange_is setting before m h c.current_is c.request_is in
    let there = exchange_is setting (x ∷ before) m h (pull_current setting before o parse m l c.current_is) (request-more x.step t none ∙ c.request_is) in
    let new : Some (record old { rest = p.rest; was_pulled = true; body_is_done = old.body_is_done || p.is_done })
    ≡ exchange_of setting (x ∷ before) (current (x ∷ before)) (request (x.step ∷ t)) =
    (λ i. Some (record old { rest = g.rest i; was_pulled = true; body_is_done = old.body_is_done || g.done i }))
    ∙ ap Some (exchange-aside setting before x m m h none calm_pull.aside) ∙ sym there in
    record {
      change = change;
      changes = subst (λ e. IsPulling k e change) (sym here) (p, is, refl);
      answers = refl;
      parts = calm_parts setting before x p.unread (is_over t) (Some (record old { rest = p.rest; was_pulled = true; body_is_done = old.body_is_done || p.is_done }))
          (buffered setting t) (option_or p.failed k.failed) calm_pull none
          (g.unread ∙ ap (drop (passed (x ∷ before))) (sym (taken-calm x.step t calm_pull)))
          (sym (ap (λ b. b || is_over t) g.over))
          new
          (sym (buffered-more setting x.step before l.3 g.written ∙ ap (λ b. buffered setting t ++ b) (pull_text setting t o) ∙ append-nil (buffered setting t)))
          (ap (λ e. option_or e k.failed) g.failed);
      since = refl;
    }

-- the same, where the outcome is that of what is given
pub pulling_with : (setting : Setting) (before : List ParsedStep) (o : Outcome) (parse : List Message) (m : Message) (h : Head) (p : Pulled)
    → Legal setting (pull_of o parse ∷ before) → Current setting before m h → pull_outcome (steps before) (Some m) ≡ p.outcome
    → IsPull (has_ended (steps before)) (rest_of before m h.body) (drop (passed before) (taken (steps before))) p
    → (Legal setting (pull_of p.outcome parse ∷ before) → Gives setting before m h p parse) → Changes setting before (pull_of o parse)
pulling_with setting before o parse m h p l c e is g =
    let same : o ≡ p.outcome = outcome_of_pull setting before o parse l ∙ ap (pull_outcome (steps before)) c.current_is ∙ e in
    let P : Outcome → Type 0 = λ v. Legal setting (pull_of v parse ∷ before) → Changes setting before (pull_of v parse) in
    subst P (sym same) (λ l'. pulling setting before parse m h p l' c is (g l')) l
