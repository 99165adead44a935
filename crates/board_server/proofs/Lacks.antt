-- The step in which memory runs out: what was noted is a trace still, with no head and no answer more.
use Rattle.std.proofs.Common.{◌≡◌, ◌⊎◌, ℕ, Option, Some, None, List, [], ◌∷◌, ◌++◌, Ok, Err, inl, inr, refl, sym, ap, ◌∙◌, subst, append_assoc, append-nil}
use Rattle.futures.specs.declared.task.Poll.TheVariants.{Ready, Pending}
use Rattle.http_config.specs.Config.{Settings}
use Rattle.http_bodies.specs.Giving.{Piece}
use Rattle.http_bodies.specs.Told.{Grows}
use Rattle.http_bodies.specs.declared.body.fault.BodyFault.TheVariants.{Body, NoMemory}
use Rattle.http_bodies.proofs.Histories.{grown-none}
use Rattle.model_h1.specs.Event as on
use Rattle.model_h1.specs.Sums as sums
use Rattle.model_h1.specs.Sums.{step_taken, step_written, taken, written}
use Rattle.model_h1.specs.Trace.{IsTrace}
use Rattle.h1_connection.specs.EventMeaning.{setting_of}
use Rattle.h1_connection.specs.Steps.{Pair}
use Rattle.h1_traced.specs.Traced.{TracedView, SaysNoted, TracedStands}
use Rattle.h1_dispatcher.specs.View.{View}
use Rattle.h1_dispatcher.specs.Steps.{Step, Lacked, IsStep, ticked, drained, written as wrote, read, shut, next, closed, continued, ready, called, answered, pulled, paused, dropped, replied, sent, failed, failed_write, failed_read, failed_fed, failed_sent, asked_to_drain, asked_to_hold, declined, let_on, turned_away, refused as upgrade_refused}
use Rattle.h1_dispatcher.specs.Traces.{IsNoted, of_request, requests_in, answers_in}
use Rattle.board_server.specs.Told.{head_in, heads_in}

pub heads_more : (a b : List on.Outcome) → heads_in (a ++ b) ≡ heads_in a ++ heads_in b
heads_more [] b = refl
heads_more (out ∷ a) b = ap (λ l. head_in out ++ l) (heads_more a b) ∙ sym (append_assoc (head_in out) (heads_in a) (heads_in b))

taken_one : (s : sums.Step) (trace : List sums.Step) → step_taken s.event s.outcome ≡ [] → taken (s ∷ trace) ≡ taken trace
unfolding taken
taken_one s trace none = ap (λ l. taken trace ++ l) none ∙ append-nil (taken trace)

written_one : (s : sums.Step) (trace : List sums.Step) → step_written s.outcome ≡ [] → written (s ∷ trace) ≡ written trace
unfolding written
written_one s trace none = ap (λ l. written trace ++ l) none ∙ append-nil (written trace)

-- once a step was added to this trace
pub record After (v w : View) (before : List sums.Step) : Type 0 where
  pub trace : List sums.Step
  pub traced : IsTrace (setting_of v.traced.state.settings) trace
  pub notes : SaysNoted w.traced.noted trace
  pub taken_so : taken trace ≡ taken before
  pub written_so : written trace ≡ written before
  pub answers_so : answers_in trace ≡ answers_in before
  pub heads_so : heads_in (requests_in trace) ≡ heads_in (requests_in before)
  pub service_so : w.service ≡ v.service

-- nothing more was noted
same_notes : (v w : View) (trace : List sums.Step) → Grows v.traced.noted w.traced.noted [] → w.service ≡ v.service → TracedStands v.traced trace → After v w trace
same_notes v w trace same service stands = record {
  trace = trace;
  traced = stands.stands.traced;
  notes = subst (λ (n : Option (List Pair)). SaysNoted n trace) (sym (same ∙ sym (grown-none v.traced.noted))) stands.noted;
  taken_so = refl;
  written_so = refl;
  answers_so = refl;
  heads_so = refl;
  service_so = service;
}

traced_notes : (v w : View) (trace : List sums.Step) → w.traced ≡ v.traced → w.service ≡ v.service → TracedStands v.traced trace → After v w trace
traced_notes v w trace same service stands = same_notes v w trace (ap (λ (l : TracedView). l.noted) same ∙ grown-none v.traced.noted) service stands

sent_notes : (v w : View) (piece : Piece) (trace : List sums.Step) → Lacked v.traced w.traced piece → w.service ≡ v.service → TracedStands v.traced trace → After v w trace
sent_notes v w (Ready (Some (Ok bytes))) trace fails service stands = same_notes v w trace fails.noted service stands
sent_notes v w (Ready (Some (Err (Body n)))) trace fails service stands = same_notes v w trace fails.noted service stands
sent_notes v w (Ready (Some (Err NoMemory))) trace same service stands = traced_notes v w trace same service stands
sent_notes v w (Ready None) trace fails service stands = same_notes v w trace fails.noted service stands
sent_notes v w Pending trace fails service stands = absurd fails

-- the bytes of a body that were handed out couldn't be fed
fed_notes : (v w : View) (bytes : List ℕ) (trace : List sums.Step) → IsStep v (failed_fed bytes) w → TracedStands v.traced trace → After v w trace
fed_notes v w bytes trace is stands =
    let x = is.1.steps trace stands in
    let s : sums.Step = record { event = on.pull; outcome = x.0 } in
    record {
      trace = s ∷ trace;
      traced = subst (λ (set : Settings). IsTrace (setting_of set) (s ∷ trace)) is.1.settings x.2.stands.stands.traced;
      notes = x.2.stands.noted;
      taken_so = taken_one s trace (ap (λ o. step_taken on.pull o) x.1);
      written_so = written_one s trace (ap step_written x.1);
      answers_so = append-nil (answers_in trace);
      heads_so =
          heads_more (requests_in trace) (of_request x.0) ∙ ap (λ o. heads_in (requests_in trace) ++ heads_in (of_request o)) x.1
          ∙ append-nil (heads_in (requests_in trace));
      service_so = ap (λ (y : View). y.service) is.2;
    }

lack_notes : (v w : View) (d : Step) (trace : List sums.Step) → ¬ IsNoted d → IsStep v d w → TracedStands v.traced trace → After v w trace
lack_notes v w (failed event) trace lacks is stands = same_notes v w trace is.1.noted (ap (λ (y : View). y.service) is.2) stands
lack_notes v w (failed_write count) trace lacks is stands = same_notes v w trace is.3.noted (ap (λ (y : View). y.service) is.4) stands
lack_notes v w (failed_read came event) trace lacks is stands = same_notes v w trace is.3.noted (ap (λ (y : View). y.service) is.4) stands
lack_notes v w (failed_fed bytes) trace lacks is stands = fed_notes v w bytes trace is stands
lack_notes v w (failed_sent piece) trace lacks is stands = sent_notes v w piece trace is.2 (ap (λ (y : View). y.service) is.3) stands
lack_notes v w (ticked moment expiry) trace lacks is stands = absurd (lacks tt)
lack_notes v w drained trace lacks is stands = absurd (lacks tt)
lack_notes v w (wrote answer) trace lacks is stands = absurd (lacks tt)
lack_notes v w (read came answer) trace lacks is stands = absurd (lacks tt)
lack_notes v w (shut answer) trace lacks is stands = absurd (lacks tt)
lack_notes v w (next peer head) trace lacks is stands = absurd (lacks tt)
lack_notes v w (closed end) trace lacks is stands = absurd (lacks tt)
lack_notes v w continued trace lacks is stands = absurd (lacks tt)
lack_notes v w (ready request answer) trace lacks is stands = absurd (lacks tt)
lack_notes v w (called request) trace lacks is stands = absurd (lacks tt)
lack_notes v w (answered answer) trace lacks is stands = absurd (lacks tt)
lack_notes v w (pulled piece) trace lacks is stands = absurd (lacks tt)
lack_notes v w paused trace lacks is stands = absurd (lacks tt)
lack_notes v w dropped trace lacks is stands = absurd (lacks tt)
lack_notes v w (replied answer) trace lacks is stands = absurd (lacks tt)
lack_notes v w (sent piece) trace lacks is stands = absurd (lacks tt)
lack_notes v w asked_to_drain trace lacks is stands = absurd (lacks tt)
lack_notes v w (asked_to_hold upgrades expects) trace lacks is stands = absurd (lacks tt)
lack_notes v w declined trace lacks is stands = absurd (lacks tt)
lack_notes v w let_on trace lacks is stands = absurd (lacks tt)
lack_notes v w (turned_away request answer) trace lacks is stands = absurd (lacks tt)
lack_notes v w (upgrade_refused limit error) trace lacks is stands = absurd (lacks tt)

pub after_end : (v w : View) (trace : List sums.Step) → (w ≡ v) ⊎ ((d : Step) × (¬ IsNoted d) × IsStep v d w) → TracedStands v.traced trace → After v w trace
after_end v w trace (inl is) stands = traced_notes v w trace (ap (λ (y : View). y.traced) is) (ap (λ (y : View). y.service) is) stands
after_end v w trace (inr is) stands = lack_notes v w is.0 trace is.1 is.2 stands
