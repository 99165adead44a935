-- Where memory ran out, what was noted is a trace still.
use Rattle.std.proofs.Common.{Option, List, [], ◌++◌, sym, ◌∙◌, subst}
use Rattle.http_bodies.specs.Told.{Grows}
use Rattle.http_bodies.proofs.Histories.{grown-none}
use Rattle.model_h1.specs.Sums as sums
use Rattle.h1_connection.specs.EventMeaning.{setting_of}
use Rattle.h1_connection.specs.Steps.{Pair}
use Rattle.h1_traced.specs.Traced.{SaysNoted, TracedStands}
use Rattle.ws_service.specs.View.{View}
use Rattle.ws_service.specs.Steps.{Step, IsStep, IsRun, ticked, drained, written, read, told_end, shut, closed, ready, called, answered, pulled, sent, failed, unsent, failed_write, failed_read, asked_to_drain}
use Rattle.ws_service.specs.Traces.{IsNoted, AllNoted, NotesTrace}
use Rattle.ws_service.proofs.Traces.{run_follows}

-- nothing was noted in the step that lacks memory
lacks_note : (v w : View) (d : Step) → ¬ IsNoted d → IsStep v d w → Grows v.traced.noted w.traced.noted []
lacks_note v w (failed event) lacks is = is.1.noted
lacks_note v w (unsent message) lacks is = is.3.noted
lacks_note v w (failed_write count) lacks is = is.2.noted
lacks_note v w (failed_read came) lacks is = is.3.noted
lacks_note v w (ticked moment expiry) lacks is = absurd (lacks tt)
lacks_note v w drained lacks is = absurd (lacks tt)
lacks_note v w (written answer) lacks is = absurd (lacks tt)
lacks_note v w (read came answer) lacks is = absurd (lacks tt)
lacks_note v w told_end lacks is = absurd (lacks tt)
lacks_note v w (shut answer) lacks is = absurd (lacks tt)
lacks_note v w (closed end) lacks is = absurd (lacks tt)
lacks_note v w (ready answer) lacks is = absurd (lacks tt)
lacks_note v w (called item) lacks is = absurd (lacks tt)
lacks_note v w (answered answer) lacks is = absurd (lacks tt)
lacks_note v w (pulled given) lacks is = absurd (lacks tt)
lacks_note v w (sent message) lacks is = absurd (lacks tt)
lacks_note v w asked_to_drain lacks is = absurd (lacks tt)

pub run_notes : (v u w : View) (steps : List Step) (step : Step) (trace : List sums.Step) → TracedStands v.traced trace → AllNoted steps → IsRun v steps u → ¬ IsNoted step → IsStep u step w
    → NotesTrace (setting_of u.traced.state.settings) w.traced.noted trace
run_notes v u w steps step trace stands all run lacks is =
    let f = run_follows v u steps all run trace stands in
    record {
      more = f.more;
      traced = f.stands.stands.traced;
      notes = subst (λ (n : Option (List Pair)). SaysNoted n (f.more ++ trace)) (sym (lacks_note u w step lacks is ∙ sym (grown-none u.traced.noted))) f.stands.noted;
    }
