-- What an event does to the runs of the bytes that wait.
use Rattle.std.proofs.Common.{◌≡◌, ℕ, List, [], ◌∷◌, ◌++◌, length, refl, sym, ap, ◌∙◌, subst}
use Rattle.std.specs.Prelude.{IsTrue}
use Rattle.model_h1.specs.Setting.{Setting}
use Rattle.model_h1.specs.Event.{Event, Outcome}
use Rattle.model_h1.specs.Event as on
use Rattle.model_h1.specs.Sums.{Step, written}
use Rattle.model_h1.specs.Past.{ParsedStep, steps}
use Rattle.model_h1.specs.Allowed.{is_allowed}
use Rattle.model_h1.proofs.PastLemmas.{Legal, legal_of}
use Rattle.model_state.specs.Kept.{Kept}
use Rattle.model_state.specs.Local.{allowed_by}
use Rattle.model_state.specs.KeptOf.{kept_of}
use Rattle.model_state.specs.StandsFor.{StandsFor}
use Rattle.model_state.proofs.Kernel.{allowed_of}
use Rattle.model_state.specs.Runs.{runs_behind}
use Rattle.model_state.specs.Marks.{step_runs, buffered_runs}
use Rattle.model_state.specs.After.{after_outcome, after_chunk, added, marks_after}
use Rattle.model_state.proofs.Waiting.{runs_quiet, runs_added, runs_given}
use Rattle.model_state.proofs.Added.{added_is}

-- a step that adds nothing
quiet : (setting : Setting) (event : Event) (outcome : Outcome) (before : List Step) → step_runs setting before event outcome ≡ []
    → after_outcome outcome (buffered_runs setting before) ≡ buffered_runs setting (record { event = event; outcome = outcome } ∷ before)
quiet setting event (on.gave bytes) before none = sym (runs_given setting (record { event = event; outcome = on.gave bytes }) before none)
quiet setting event on.done before none = sym (runs_quiet setting (record { event = event; outcome = on.done }) before refl none)
quiet setting event (on.took n) before none = sym (runs_quiet setting (record { event = event; outcome = on.took n }) before refl none)
quiet setting event (on.head h) before none = sym (runs_quiet setting (record { event = event; outcome = on.head h }) before refl none)
quiet setting event (on.bytes b) before none = sym (runs_quiet setting (record { event = event; outcome = on.bytes b }) before refl none)
quiet setting event (on.trailers l) before none = sym (runs_quiet setting (record { event = event; outcome = on.trailers l }) before refl none)
quiet setting event on.body_ended before none = sym (runs_quiet setting (record { event = event; outcome = on.body_ended }) before refl none)
quiet setting event (on.frame f) before none = sym (runs_quiet setting (record { event = event; outcome = on.frame f }) before refl none)
quiet setting event on.pending before none = sym (runs_quiet setting (record { event = event; outcome = on.pending }) before refl none)
quiet setting event (on.closed e) before none = sym (runs_quiet setting (record { event = event; outcome = on.closed e }) before refl none)
quiet setting event (on.fault f) before none = sym (runs_quiet setting (record { event = event; outcome = on.fault f }) before refl none)
quiet setting event (on.broken_by f) before none = sym (runs_quiet setting (record { event = event; outcome = on.broken_by f }) before refl none)
quiet setting event (on.protocol e) before none = sym (runs_quiet setting (record { event = event; outcome = on.protocol e }) before refl none)
quiet setting event (on.refused e) before none = sym (runs_quiet setting (record { event = event; outcome = on.refused e }) before refl none)
quiet setting event (on.expired e) before none = sym (runs_quiet setting (record { event = event; outcome = on.expired e }) before refl none)
quiet setting event on.abandoned before none = sym (runs_quiet setting (record { event = event; outcome = on.abandoned }) before refl none)

-- an event that is none of a piece adds nothing, and neither does a piece that isn't taken
module _ (setting : Setting) (before : List Step) where
  -- a piece
  chunk_goes : (past : List ParsedStep) (bytes : List ℕ) (outcome : Outcome) → steps past ≡ before → Legal setting past → IsTrue (is_allowed setting past (on.chunk bytes))
      → after_chunk bytes (kept_of setting past) outcome (buffered_runs setting before) ≡ buffered_runs setting (record { event = on.chunk bytes; outcome = outcome } ∷ before)
  unfolding step_runs
  chunk_goes past bytes on.done same l ok =
      let here : runs_behind (length (written before)) (step_runs setting before (on.chunk bytes) on.done) ≡ added bytes (kept_of setting past) =
      subst (λ t. runs_behind (length (written t)) (step_runs setting t (on.chunk bytes) on.done) ≡ added bytes (kept_of setting past)) same (added_is setting past bytes l ok) in
      sym (runs_added setting (record { event = on.chunk bytes; outcome = on.done }) before refl ∙ ap (λ more. buffered_runs setting before ++ more) here)
  chunk_goes past bytes (on.gave b) same l ok = quiet setting (on.chunk bytes) (on.gave b) before refl
  chunk_goes past bytes (on.took n) same l ok = quiet setting (on.chunk bytes) (on.took n) before refl
  chunk_goes past bytes (on.head h) same l ok = quiet setting (on.chunk bytes) (on.head h) before refl
  chunk_goes past bytes (on.bytes b) same l ok = quiet setting (on.chunk bytes) (on.bytes b) before refl
  chunk_goes past bytes (on.trailers x) same l ok = quiet setting (on.chunk bytes) (on.trailers x) before refl
  chunk_goes past bytes on.body_ended same l ok = quiet setting (on.chunk bytes) on.body_ended before refl
  chunk_goes past bytes (on.frame f) same l ok = quiet setting (on.chunk bytes) (on.frame f) before refl
  chunk_goes past bytes on.pending same l ok = quiet setting (on.chunk bytes) on.pending before refl
  chunk_goes past bytes (on.closed e) same l ok = quiet setting (on.chunk bytes) (on.closed e) before refl
  chunk_goes past bytes (on.fault f) same l ok = quiet setting (on.chunk bytes) (on.fault f) before refl
  chunk_goes past bytes (on.broken_by f) same l ok = quiet setting (on.chunk bytes) (on.broken_by f) before refl
  chunk_goes past bytes (on.protocol e) same l ok = quiet setting (on.chunk bytes) (on.protocol e) before refl
  chunk_goes past bytes (on.refused e) same l ok = quiet setting (on.chunk bytes) (on.refused e) before refl
  chunk_goes past bytes (on.expired e) same l ok = quiet setting (on.chunk bytes) (on.expired e) before refl
  chunk_goes past bytes on.abandoned same l ok = quiet setting (on.chunk bytes) on.abandoned before refl

  -- each event
  event_goes : (past : List ParsedStep) (event : Event) (outcome : Outcome) → steps past ≡ before → Legal setting past → IsTrue (is_allowed setting past event)
      → marks_after (kept_of setting past) event outcome (buffered_runs setting before) ≡ buffered_runs setting (record { event = event; outcome = outcome } ∷ before)
  unfolding step_runs
  event_goes past (on.chunk bytes) outcome same l ok = chunk_goes past bytes outcome same l ok
  event_goes past (on.read b) outcome same l ok = quiet setting (on.read b) outcome before refl
  event_goes past on.eof outcome same l ok = quiet setting on.eof outcome before refl
  event_goes past on.next outcome same l ok = quiet setting on.next outcome before refl
  event_goes past on.pull outcome same l ok = quiet setting on.pull outcome before refl
  event_goes past on.drop_body outcome same l ok = quiet setting on.drop_body outcome before refl
  event_goes past on.send_continue outcome same l ok = quiet setting on.send_continue outcome before refl
  event_goes past (on.answer head size) outcome same l ok = quiet setting (on.answer head size) outcome before refl
  event_goes past on.body_end outcome same l ok = quiet setting on.body_end outcome before refl
  event_goes past on.body_error outcome same l ok = quiet setting on.body_error outcome before refl
  event_goes past (on.write n) outcome same l ok = quiet setting (on.write n) outcome before refl
  event_goes past (on.tick ms) outcome same l ok = quiet setting (on.tick ms) outcome before refl
  event_goes past on.drain outcome same l ok = quiet setting on.drain outcome before refl
  event_goes past (on.accept limit) outcome same l ok = quiet setting (on.accept limit) outcome before refl
  event_goes past (on.send m) outcome same l ok = quiet setting (on.send m) outcome before refl

-- of a state that stands for a trace
pub marks_go : (setting : Setting) (k : Kept) (trace : List Step) (event : Event) (outcome : Outcome) → StandsFor setting k trace → IsTrue (allowed_by setting k event)
    → marks_after k event outcome (buffered_runs setting trace) ≡ buffered_runs setting (record { event = event; outcome = outcome } ∷ trace)
marks_go setting k trace event outcome is allowed =
    let l = legal_of setting trace is.past is.traced is.of_trace in
    let there = subst (λ k. IsTrue (allowed_by setting k event)) is.parts allowed in
    let ok = subst IsTrue (allowed_of setting is.past event l) there in
    ap (λ k. marks_after k event outcome (buffered_runs setting trace)) is.parts ∙ event_goes setting trace is.past event outcome is.of_trace.same l ok
