-- Where memory ran out, what was noted is a trace still.
use Rattle.std.proofs.Common.{◌≡◌, Option, List, [], ◌∷◌, ◌++◌, Ok, Err, Some, None, sym, ap, ◌∙◌, subst, append_assoc}
use Rattle.futures.specs.declared.task.Poll.TheVariants.{Ready, Pending}
use Rattle.http_config.specs.Config.{Settings}
use Rattle.http_bodies.specs.Giving.{Piece}
use Rattle.http_bodies.specs.Told.{Grows}
use Rattle.http_bodies.specs.declared.body.fault.BodyFault.TheVariants.{Body, NoMemory}
use Rattle.http_bodies.proofs.Histories.{grown-none}
use Rattle.model_h1.specs.Event as on
use Rattle.model_h1.specs.Sums as sums
use Rattle.model_h1.specs.Trace.{IsTrace}
use Rattle.h1_connection.specs.EventMeaning.{setting_of}
use Rattle.h1_connection.specs.Steps.{Pair}
use Rattle.h1_traced.specs.Traced.{TracedView, SaysNoted, TracedStands}
use Rattle.h1_dispatcher.specs.View.{View}
use Rattle.h1_dispatcher.specs.Steps.{Step, Lacked, IsStep, IsRun, ticked, drained, written, read, shut, next, closed, continued, ready, called, answered, pulled, paused, dropped, replied, sent, failed, failed_write, failed_read, failed_fed, failed_sent, asked_to_drain, asked_to_hold, declined, let_on, turned_away, refused}
use Rattle.h1_dispatcher.specs.Traces.{IsNoted, AllNoted, NotesTrace}
use Rattle.h1_dispatcher.proofs.Traces.{run_follows}

-- nothing more was noted
same_notes : (v w : TracedView) (trace : List sums.Step) → Grows v.noted w.noted [] → TracedStands v trace → NotesTrace (setting_of v.state.settings) w.noted trace
same_notes v w trace same stands = record {
  more = [];
  traced = stands.stands.traced;
  notes = subst (λ (n : Option (List Pair)). SaysNoted n trace) (sym (same ∙ sym (grown-none v.noted))) stands.noted;
}

traced_notes : (v w : TracedView) (trace : List sums.Step) → w ≡ v → TracedStands v trace → NotesTrace (setting_of v.state.settings) w.noted trace
traced_notes v w trace same stands = same_notes v w trace (ap (λ (l : TracedView). l.noted) same ∙ grown-none v.noted) stands

sent_notes : (v w : TracedView) (piece : Piece) (trace : List sums.Step) → Lacked v w piece → TracedStands v trace → NotesTrace (setting_of v.state.settings) w.noted trace
sent_notes v w (Ready (Some (Ok bytes))) trace fails stands = same_notes v w trace fails.noted stands
sent_notes v w (Ready (Some (Err (Body n)))) trace fails stands = same_notes v w trace fails.noted stands
sent_notes v w (Ready (Some (Err NoMemory))) trace same stands = traced_notes v w trace same stands
sent_notes v w (Ready None) trace fails stands = same_notes v w trace fails.noted stands
sent_notes v w Pending trace fails stands = absurd fails

lack_notes : (v w : View) (d : Step) (trace : List sums.Step) → ¬ IsNoted d → IsStep v d w → TracedStands v.traced trace → NotesTrace (setting_of v.traced.state.settings) w.traced.noted trace
lack_notes v w (failed event) trace lacks is stands = same_notes v.traced w.traced trace is.1.noted stands
lack_notes v w (failed_write count) trace lacks is stands = same_notes v.traced w.traced trace is.3.noted stands
lack_notes v w (failed_read came event) trace lacks is stands = same_notes v.traced w.traced trace is.3.noted stands
lack_notes v w (failed_fed bytes) trace lacks is stands =
    let x = is.1.steps trace stands in
    let s : sums.Step = record { event = on.pull; outcome = x.0 } in
    record {
      more = s ∷ [];
      traced = subst (λ (set : Settings). IsTrace (setting_of set) (s ∷ trace)) is.1.settings x.2.stands.stands.traced;
      notes = x.2.stands.noted;
    }
lack_notes v w (failed_sent piece) trace lacks is stands = sent_notes v.traced w.traced piece trace is.2 stands
lack_notes v w (ticked moment expiry) trace lacks is stands = absurd (lacks tt)
lack_notes v w drained trace lacks is stands = absurd (lacks tt)
lack_notes v w (written answer) trace lacks is stands = absurd (lacks tt)
lack_notes v w (read came answer) trace lacks is stands = absurd (lacks tt)
lack_notes v w (shut answer) trace lacks is stands = absurd (lacks tt)
lack_notes v w (next peer head) trace lacks is stands = absurd (lacks tt)
lack_notes v w (closed end) trace lacks is stands = absurd (lacks tt)
lack_notes v w continued trace lacks is stands = absurd (lacks tt)
lack_notes v w (ready request answer) trace lacks is stands = absurd (lacks tt)
lack_notes v w (called request) trace lacks is stands = absurd (lacks tt)
lack_notes v w (answered answer) trace lacks is stands = absurd (lacks tt)
lack_notes v w (pulled piece) trace lacks is stands = absurd (lacks tt)
lack_notes v w paused trace lacks is stands = absurd (lacks tt)
lack_notes v w dropped trace lacks is stands = absurd (lacks tt)
lack_notes v w (replied answer) trace lacks is stands = absurd (lacks tt)
lack_notes v w (sent piece) trace lacks is stands = absurd (lacks tt)
lack_notes v w asked_to_drain trace lacks is stands = absurd (lacks tt)
lack_notes v w (asked_to_hold upgrades expects) trace lacks is stands = absurd (lacks tt)
lack_notes v w declined trace lacks is stands = absurd (lacks tt)
lack_notes v w let_on trace lacks is stands = absurd (lacks tt)
lack_notes v w (turned_away request answer) trace lacks is stands = absurd (lacks tt)
lack_notes v w (refused limit error) trace lacks is stands = absurd (lacks tt)

pub run_notes : (v u w : View) (steps : List Step) (step : Step) (trace : List sums.Step) → TracedStands v.traced trace → AllNoted steps → IsRun v steps u → ¬ IsNoted step → IsStep u step w
    → NotesTrace (setting_of u.traced.state.settings) w.traced.noted trace
run_notes v u w steps step trace stands all run lacks is =
    let f = run_follows v u steps all run trace stands in
    let n = lack_notes u w step (f.more ++ trace) lacks is f.stands in
    let same = sym (append_assoc n.more f.more trace) in
    record {
      more = n.more ++ f.more;
      traced = subst (λ (l : List sums.Step). IsTrace (setting_of u.traced.state.settings) l) same n.traced;
      notes = subst (λ (l : List sums.Step). SaysNoted w.traced.noted l) same n.notes;
    }
