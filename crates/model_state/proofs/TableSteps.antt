-- Each allowed event with the table's outcome is a step of what the past gives.
use Rattle.std.proofs.Common.{◌≡◌, List, ◌∷◌, refl}
use Rattle.model_h1.specs.Setting.{Setting}
use Rattle.model_h1.specs.Event.{Event}
use Rattle.model_h1.specs.Event as on
use Rattle.model_h1.specs.Past.{ParsedStep}
use Rattle.model_h1.proofs.PastLemmas.{Legal}
use Rattle.model_state.specs.Change.{IsStep}
use Rattle.model_state.specs.KeptOf.{kept_of}
use Rattle.model_state.proofs.Changes.{Changes}
use Rattle.model_state.proofs.Kernel.{step_of}
use Rattle.model_state.proofs.ReadChanges.{read_changes}
use Rattle.model_state.proofs.EofChanges.{eof_changes}
use Rattle.model_state.proofs.QuietChanges.{drain_changes, body_error_changes, write_changes, send_changes}
use Rattle.model_state.proofs.ExchangeChanges.{drop_changes, continue_changes, chunk_changes}
use Rattle.model_state.proofs.AnswerChanges.{answer_changes}
use Rattle.model_state.proofs.BodyEndChanges.{body_end_changes}
use Rattle.model_state.proofs.TickChanges.{tick_changes}
use Rattle.model_state.proofs.NextChanges.{next_changes}
use Rattle.model_state.proofs.PullChanges.{pull_changes}
use Rattle.model_state.proofs.AcceptChanges.{accept_changes}

-- what each event changes
event_changes : (setting : Setting) (before : List ParsedStep) (x : ParsedStep) (event : Event) → Legal setting (x ∷ before) → x.step.event ≡ event
    → Changes setting before x
event_changes setting before x (on.read bytes) l e = read_changes setting before x bytes l e
event_changes setting before x on.eof l e = eof_changes setting before x l e
event_changes setting before x on.drain l e = drain_changes setting before x l e
event_changes setting before x on.next l e = next_changes setting before x l e
event_changes setting before x on.pull l e = pull_changes setting before x l e
event_changes setting before x on.drop_body l e = drop_changes setting before x l e
event_changes setting before x on.send_continue l e = continue_changes setting before x l e
event_changes setting before x (on.answer head size) l e = answer_changes setting before x head size l e
event_changes setting before x (on.chunk bytes) l e = chunk_changes setting before x bytes l e
event_changes setting before x on.body_end l e = body_end_changes setting before x l e
event_changes setting before x on.body_error l e = body_error_changes setting before x l e
event_changes setting before x (on.write n) l e = write_changes setting before x n l e
event_changes setting before x (on.tick ms) l e = tick_changes setting before x ms l e
event_changes setting before x (on.accept limit) l e = accept_changes setting before x limit l e
event_changes setting before x (on.send m) l e = send_changes setting before x m l e

-- a step of a legal past
pub table_step : (setting : Setting) (before : List ParsedStep) (x : ParsedStep) → Legal setting (x ∷ before)
    → IsStep setting (kept_of setting before) x.step.event x.step.outcome (kept_of setting (x ∷ before))
table_step setting before x l = step_of setting before x l (event_changes setting before x x.step.event l refl)
