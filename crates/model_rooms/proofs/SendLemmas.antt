-- No message that a hub sends is refused.
use Rattle.std.proofs.Common.{◌≡◌, ℕ, Bool, false, List, [], ◌∷◌, None, sym, ap, ◌∙◌, subst, inl, inr, ◌==◌}
use Rattle.std.specs.List.{AllByRecursion}
use Rattle.std.proofs.lemmas.Bool.{cases_Bool}
use Rattle.model_h1.specs.Setting.{Setting}
use Rattle.model_h1.specs.Frame.{Frame, ProtocolError}
use Rattle.model_h1.specs.Frame as frames
use Rattle.model_h1.specs.FrameText.{send_error}
use Rattle.model_h1.specs.Event.{Event, Outcome}
use Rattle.model_h1.specs.Event as on
use Rattle.model_h1.specs.Sums.{Step, is_sending}
use Rattle.model_h1.specs.OutcomeTable.{send_outcome, outcome_of}
use Rattle.model_h1.specs.Trace.{IsOutcome}
use Rattle.model_rooms.specs.Hub.{core_of}
use Rattle.model_rooms.specs.Seen.{Seen, row_of}
use Rattle.model_rooms.specs.Trace.{core_trace, IsHubTrace}
use Rattle.model_rooms.specs.Laws.{UnlessRefused, IsNoRefusal}
use Rattle.model_rooms.proofs.StepViews.{view_of, core_opening, core_own, core_other}
use Rattle.model_rooms.proofs.GoodRows.{Runs}
use Rattle.model_rooms.proofs.GoodHubs.{SendsFirst, first_sent, all_good}

-- the first of frames that may be sent is not refused
first_allowed : (sending : Bool) (message : frames.Message) (waiting fs : List Frame) (f : Frame) → message ≡ frames.frame f → waiting ≡ f ∷ fs
    → Runs sending waiting false → send_error sending message ≡ None
first_allowed sending message waiting fs f same waits runs =
    let r : Runs sending (f ∷ fs) false = subst (λ (w : List Frame). Runs sending w false) waits runs in
    subst (λ (m : frames.Message). send_error sending m ≡ None) (sym same) r.0

pub send_done : (setting : Setting) (trace : List Step) (event : Event) (outcome : Outcome) (waiting : List Frame) → SendsFirst event waiting
    → Runs (is_sending trace) waiting false → IsOutcome setting trace event outcome → UnlessRefused event outcome
unfolding outcome_of
send_done setting trace (on.send message) outcome waiting first runs x =
    let allowed = first_allowed (is_sending trace) message waiting first.1 first.0 first.2 first.3 runs in
    x.2
    ∙ ap (λ (t : List Step). send_outcome (send_error (is_sending t) message)) x.1.same
    ∙ ap send_outcome allowed
send_done setting trace _ outcome waiting first runs x = tt

pub none_refused : (setting : Setting) (seen : List Seen) (i : ℕ) → IsHubTrace setting seen → AllByRecursion IsNoRefusal (core_trace i seen)
unfolding core_of
none_refused setting [] i x = tt
none_refused setting (s ∷ before) i x =
    let ih = none_refused setting before i x.1 in
    elim (view_of setting s before x) [
      | inl e ↦ subst (AllByRecursion IsNoRefusal) (sym (core_opening i s before e)) ih
      | inr m ↦ elim (cases_Bool (i == m.move.number)) [
        | inl same ↦
            let first = first_sent setting before m.move.number m.move.step.event m.from in
            let good = all_good setting before x.1 m.move.number in
            let done = send_done setting (core_trace m.move.number before) m.move.step.event m.move.step.outcome
            (row_of m.move.number before).waiting first good.runs m.goes.answers in
            subst (AllByRecursion IsNoRefusal) (sym (core_own setting i s before m same)) (done, ih)
        | inr other ↦ subst (AllByRecursion IsNoRefusal) (sym (core_other setting i s before m other)) ih
      ]
    ]
