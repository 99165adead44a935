-- What each step of a dispatcher keeps, and a run: the settings, the transport's count, what the service tells, and the requests.
use Rattle.std.proofs.Common.{◌≡◌, ◌≤◌, ℕ, true, Option, Some, None, List, [], ◌∷◌, ◌++◌, map, option_to_list, Result, Ok, Err, inl, inr, refl, sym, ap, ◌∙◌, subst, arith}
use Rattle.std.specs.Prelude.{is_some}
use Rattle.std.proofs.lemmas.List.{map-append}
use Rattle.futures.specs.declared.task.Poll.{Poll}
use Rattle.futures.specs.declared.task.Poll.TheVariants.{Ready, Pending}
use Rattle.http_config.specs.declared.Failed.{Failed}
use Rattle.http_bodies.specs.Giving.{Piece}
use Rattle.http_bodies.specs.Told.{Grows, Caused}
use Rattle.http_bodies.specs.declared.body.fault.BodyFault.TheVariants.{Body, NoMemory}
use Rattle.http_bodies.proofs.Histories.{grown, grown-none}
use Rattle.http_services.specs.Serving.{Serving, NeverFails, given}
use Rattle.h1_payload.specs.declared.pulled.Pulled.{Pulled}
use Rattle.h1_payload.specs.declared.pulled.Pulled.TheVariants as pieces
use Rattle.h1_traced.specs.Traced.{TracedView}
use Rattle.h1_dispatcher.specs.View.{View, Asking, Answer}
use Rattle.h1_dispatcher.specs.Steps.{Step, Wrote, Took, Sent, TakesNone, IsStep, IsRun, request_at, ticked, drained, written, read, shut, next, closed, continued, ready, called, answered, pulled, paused, dropped, replied, sent, failed, failed_write, failed_read, failed_fed, failed_sent, asked_to_drain, asked_to_hold, declined, let_on, turned_away, refused as upgrade_refused}
use Rattle.h1_dispatcher.specs.Order.{refused, refusals, step_requests, step_calls, step_left, step_answers, requests, calls, left, answers}
use Rattle.std.specs.List.{AllByRecursion}
use Rattle.h1_dispatcher.specs.Upgrades.{DecidesNone}
use Rattle.h1_dispatcher.specs.Traces.{IsNoted, AllNoted, Came, came_request, came_piece, heads_of, pieces_of, step_came, came}

-- ---- what is counted of a run

-- what the service's calls answered
abbrev pub step_results : Step → List (Result Answer Answer)
step_results (answered answer) = given answer
step_results step = []

abbrev pub results : List Step → List (Result Answer Answer)
results [] = []
results (d ∷ steps) = step_results d ++ results steps

-- the answer, also where it is an error
abbrev pub value_of : Result Answer Answer → Answer
value_of (Ok x) = x
value_of (Err e) = e

-- the requests among what came
abbrev pub asked_by : Came → List Asking
asked_by (came_request asking) = asking ∷ []
asked_by (came_piece piece) = []

abbrev pub asked_in : List Came → List Asking
asked_in [] = []
asked_in (c ∷ more) = asked_by c ++ asked_in more

-- ---- one step

record Keeps (v : View) (d : Step) (w : View) : Type 0 where
  settings : w.traced.state.settings ≡ v.traced.state.settings
  counts : v.transport.faults ≤ w.transport.faults
  answered_so : Grows v.service.answered w.service.answered (step_results d)
  values : step_answers d ≡ map value_of (step_results d)
  left_so : step_left d ≡ step_calls d
  tells : is_some w.service.called ≡ true
  asked_so : asked_in (step_came d) ≡ step_requests d

same_count : (m n : ℕ) → n ≡ m → m ≤ n
same_count m n is = omega (arith, is)

caused : {A E : Type 0} (before now : ℕ) (answer : Poll (Result A E)) → Caused before now answer → before ≤ now
caused before now (Ready (Ok x)) is = is
caused before now (Ready (Err e)) is = is.0
caused before now Pending is = is

-- nothing is asked of the service, and it stays
apart : (v w : View) (d : Step) → step_results d ≡ [] → step_answers d ≡ [] → step_left d ≡ [] → step_calls d ≡ [] → asked_in (step_came d) ≡ step_requests d
    → w.traced.state.settings ≡ v.traced.state.settings → v.transport.faults ≤ w.transport.faults → w.service ≡ v.service → is_some v.service.called ≡ true → Keeps v d w
apart v w d none_given none_answered none_left none_called came_so set count service known = record {
  settings = set;
  counts = count;
  answered_so =
      subst (λ l. Grows v.service.answered w.service.answered l) (sym none_given)
      (ap (λ (s : Serving Asking Answer Answer). s.answered) service ∙ grown-none v.service.answered);
  values = none_answered ∙ sym (ap (λ l. map value_of l) none_given);
  left_so = none_left ∙ sym none_called;
  tells = ap (λ (s : Serving Asking Answer Answer). is_some s.called) service ∙ known;
  asked_so = came_so;
}

-- and the transport stays too
quiet : (v w : View) (d : Step) → step_results d ≡ [] → step_answers d ≡ [] → step_left d ≡ [] → step_calls d ≡ [] → asked_in (step_came d) ≡ step_requests d
    → w.traced.state.settings ≡ v.traced.state.settings → w.transport ≡ v.transport → w.service ≡ v.service → is_some v.service.called ≡ true → Keeps v d w
quiet v w d none_given none_answered none_left none_called came_so set transport service known =
    apart v w d none_given none_answered none_left none_called came_so set (same_count v.transport.faults w.transport.faults (ap (λ x. x.faults) transport)) service known

wrote_settings : (v w : View) (answer : Poll (Result ℕ Failed)) → Wrote v.traced w.traced answer → w.traced.state.settings ≡ v.traced.state.settings
wrote_settings v w (Ready (Ok n)) goes = goes.1.settings
wrote_settings v w (Ready (Err e)) line = ap (λ (l : TracedView). l.state.settings) line
wrote_settings v w Pending line = ap (λ (l : TracedView). l.state.settings) line

took_settings : (v w : View) (came_so : List ℕ) (answer : Poll (Result ℕ Failed)) → Took v.traced w.traced came_so answer → w.traced.state.settings ≡ v.traced.state.settings
took_settings v w came_so (Ready (Ok n)) (inl end) = end.1.settings
took_settings v w came_so (Ready (Ok n)) (inr some) = some.1.1.settings
took_settings v w came_so (Ready (Err e)) line = ap (λ (l : TracedView). l.state.settings) line
took_settings v w came_so Pending line = ap (λ (l : TracedView). l.state.settings) line

sent_settings : (v w : View) (piece : Piece) → Sent v.traced w.traced piece → w.traced.state.settings ≡ v.traced.state.settings
sent_settings v w (Ready (Some (Ok bytes))) goes = goes.settings
sent_settings v w (Ready (Some (Err (Body n)))) goes = goes.settings
sent_settings v w (Ready (Some (Err NoMemory))) goes = absurd goes
sent_settings v w (Ready None) goes = goes.settings
sent_settings v w Pending line = ap (λ (l : TracedView). l.state.settings) line

-- the head's request is the one that comes
asked_once : (request : Option Asking) → asked_in (heads_of request) ≡ option_to_list request
asked_once None = refl
asked_once (Some request) = refl

none_asked : (piece : Pulled) → asked_in (pieces_of piece) ≡ []
none_asked (pieces.Bytes bytes) = refl
none_asked (pieces.Trailers trailers) = refl
none_asked pieces.End = refl
none_asked (pieces.Broken fault) = refl
none_asked pieces.Pending = refl

-- a service that tells its calls refuses none
none_refused : (known : Option (List Asking)) (request : Asking) (answer : Poll (Result Unit Answer)) → is_some known ≡ true → NeverFails known answer → TakesNone answer
    → (refused request answer ≡ []) × (refusals answer ≡ [])
none_refused None request answer some sure none = absurd (cc some)
none_refused (Some l) request (Ready (Ok x)) some sure none = absurd none
none_refused (Some l) request (Ready (Err e)) some sure none = absurd sure
none_refused (Some l) request Pending some sure none = (refl, refl)

given_values : (answer : Poll (Result Answer Answer)) → step_answers (answered answer) ≡ map value_of (given answer)
given_values (Ready (Ok x)) = refl
given_values (Ready (Err e)) = refl
given_values Pending = refl

still_some : (old new : Option (List Asking)) (more : List Asking) → Grows old new more → is_some old ≡ true → is_some new ≡ true
still_some None new more is some = absurd (cc some)
still_some (Some l) new more is some = ap is_some is

step_keeps : (v w : View) (d : Step) → IsNoted d → DecidesNone d → IsStep v d w → is_some v.service.called ≡ true → Keeps v d w
step_keeps v w (ticked moment expiry) noted none is known = quiet v w _ refl refl refl refl refl is.0.settings (ap (λ (x : View). x.transport) is.1) (ap (λ (x : View). x.service) is.1) known
step_keeps v w drained noted none is known = quiet v w _ refl refl refl refl refl is.0.settings (ap (λ (x : View). x.transport) is.1) (ap (λ (x : View). x.service) is.1) known
step_keeps v w (written answer) noted none is known = apart v w _ refl refl refl refl refl (wrote_settings v w answer is.3) (caused v.transport.faults w.transport.faults answer is.2.faults) (ap (λ (x : View). x.service) is.4) known
step_keeps v w (read came_so answer) noted none is known = apart v w _ refl refl refl refl refl (took_settings v w came_so answer is.3) (caused v.transport.faults w.transport.faults answer is.2.4.faults) (ap (λ (x : View). x.service) is.4) known
step_keeps v w (shut answer) noted none is known = apart v w _ refl refl refl refl refl (ap (λ (x : View). x.traced.state.settings) is.2) (caused v.transport.faults w.transport.faults answer is.1.faults) (ap (λ (x : View). x.service) is.2) known
step_keeps v w (next peer head) noted none is known = quiet v w (next peer head) refl refl refl refl (asked_once (request_at peer head)) is.3.settings (ap (λ (x : View). x.transport) is.4) (ap (λ (x : View). x.service) is.4) known
step_keeps v w (closed end) noted none is known = quiet v w _ refl refl refl refl refl is.3.1.settings (ap (λ (x : View). x.transport) is.4) (ap (λ (x : View). x.service) is.4) known
step_keeps v w continued noted none is known = quiet v w _ refl refl refl refl refl is.2.settings (ap (λ (x : View). x.transport) is.3) (ap (λ (x : View). x.service) is.3) known
step_keeps v w (ready request answer) noted apart_of_all is known =
    let none = none_refused v.service.called request answer known is.2.sure is.1 in
    record {
      settings = ap (λ (x : View). x.traced.state.settings) is.3;
      counts = same_count v.transport.faults w.transport.faults (ap (λ (x : View). x.transport.faults) is.3);
      answered_so = is.2.answered ∙ grown-none v.service.answered;
      values = none.1;
      left_so = none.0;
      tells = ap is_some is.2.called ∙ known;
      asked_so = refl;
    }
step_keeps v w (called request) noted none is known = record {
  settings = ap (λ (x : View). x.traced.state.settings) is.2.2;
  counts = same_count v.transport.faults w.transport.faults (ap (λ (x : View). x.transport.faults) is.2.2);
  answered_so = is.1.begun.answered ∙ is.1.is_ready.answered ∙ grown-none v.service.answered;
  values = refl;
  left_so = refl;
  tells = still_some is.1.between.called w.service.called (request ∷ []) is.1.begun.called (ap is_some is.1.is_ready.called ∙ known);
  asked_so = refl;
}
step_keeps v w (answered answer) noted none is known = record {
  settings = ap (λ (x : View). x.traced.state.settings) is.same;
  counts = same_count v.transport.faults w.transport.faults (ap (λ (x : View). x.transport.faults) is.same);
  answered_so = is.says.answered;
  values = given_values answer;
  left_so = refl;
  tells = ap is_some is.says.called ∙ known;
  asked_so = refl;
}
step_keeps v w (pulled piece) noted none is known = quiet v w (pulled piece) refl refl refl refl (none_asked piece) is.1.settings (ap (λ (x : View). x.transport) is.2) (ap (λ (x : View). x.service) is.2) known
step_keeps v w paused noted none is known = quiet v w _ refl refl refl refl refl (ap (λ (x : View). x.traced.state.settings) is.4) (ap (λ (x : View). x.transport) is.4) (ap (λ (x : View). x.service) is.4) known
step_keeps v w dropped noted none is known = quiet v w _ refl refl refl refl refl is.2.settings (ap (λ (x : View). x.transport) is.3) (ap (λ (x : View). x.service) is.3) known
step_keeps v w (replied answer) noted none is known = quiet v w _ refl refl refl refl refl is.2.settings (ap (λ (x : View). x.transport) is.3) (ap (λ (x : View). x.service) is.3) known
step_keeps v w (sent piece) noted none is known = quiet v w _ refl refl refl refl refl (sent_settings v w piece is.2) (ap (λ (x : View). x.transport) is.3) (ap (λ (x : View). x.service) is.3) known
step_keeps v w (failed event) noted none is known = absurd noted
step_keeps v w (failed_write count) noted none is known = absurd noted
step_keeps v w (failed_read came_so event) noted none is known = absurd noted
step_keeps v w (failed_fed bytes) noted none is known = absurd noted
step_keeps v w (failed_sent piece) noted none is known = absurd noted
step_keeps v w asked_to_drain noted none is known = quiet v w _ refl refl refl refl refl (ap (λ (x : View). x.traced.state.settings) is) (ap (λ (x : View). x.transport) is) (ap (λ (x : View). x.service) is) known
step_keeps v w (asked_to_hold upgrades expects) noted none is known = absurd none
step_keeps v w declined noted none is known = absurd none
step_keeps v w let_on noted none is known = absurd none
step_keeps v w (turned_away request answer) noted none is known = absurd none
step_keeps v w (upgrade_refused limit error) noted none is known = absurd none

-- ---- a run

pub record AllKept (v : View) (steps : List Step) (w : View) : Type 0 where
  pub settings : w.traced.state.settings ≡ v.traced.state.settings
  pub counts : v.transport.faults ≤ w.transport.faults
  pub answered_so : Grows v.service.answered w.service.answered (results steps)
  pub values : answers steps ≡ map value_of (results steps)
  pub left_so : left steps ≡ calls steps
  pub asked_so : asked_in (came steps) ≡ requests steps

asked_on : (a b : List Came) → asked_in (a ++ b) ≡ asked_in a ++ asked_in b
asked_on [] b = refl
asked_on (came_request asking ∷ a) b = ap (λ l. asking ∷ l) (asked_on a b)
asked_on (came_piece piece ∷ a) b = asked_on a b

both : {A : Type 0} (a b c d : List A) → a ≡ b → c ≡ d → a ++ c ≡ b ++ d
both a b c d first then = ap (λ l. l ++ c) first ∙ ap (λ l. b ++ l) then

more_counts : (a b c : ℕ) → a ≤ b → b ≤ c → a ≤ c
more_counts a b c first then = omega (arith, first, then)

keeps_on : (v u w : View) (d : Step) (steps : List Step) → Keeps v d u → AllKept u steps w → AllKept v (d ∷ steps) w
keeps_on v u w d steps first then = record {
  settings = then.settings ∙ first.settings;
  counts = more_counts v.transport.faults u.transport.faults w.transport.faults first.counts then.counts;
  answered_so = grown (step_results d) (results steps) _ _ _ first.answered_so then.answered_so;
  values =
      both (step_answers d) (map value_of (step_results d)) (answers steps) (map value_of (results steps)) first.values then.values
      ∙ sym (map-append value_of (step_results d) (results steps));
  left_so = both (step_left d) (step_calls d) (left steps) (calls steps) first.left_so then.left_so;
  asked_so = asked_on (step_came d) (came steps) ∙ both (asked_in (step_came d)) (step_requests d) (asked_in (came steps)) (requests steps) first.asked_so then.asked_so;
}

none_kept : (v w : View) → w ≡ v → AllKept v [] w
none_kept v w is = record {
  settings = ap (λ (x : View). x.traced.state.settings) is;
  counts = same_count v.transport.faults w.transport.faults (ap (λ (x : View). x.transport.faults) is);
  answered_so = ap (λ (x : View). x.service.answered) is ∙ grown-none v.service.answered;
  values = refl;
  left_so = refl;
  asked_so = refl;
}

pub run_kept : (v w : View) (steps : List Step) → AllNoted steps → AllByRecursion DecidesNone steps → IsRun v steps w → is_some v.service.called ≡ true → AllKept v steps w
run_kept v w [] noted none is known = none_kept v w is
run_kept v w (d ∷ steps) noted none is known =
    let first = step_keeps v is.0 d noted.0 none.0 is.1 known in
    keeps_on v is.0 w d steps first (run_kept is.0 w steps noted.1 none.1 is.2 first.tells)
