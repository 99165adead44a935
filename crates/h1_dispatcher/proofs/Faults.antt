-- Once a body has failed, the connection closes, and all that is left is its end.
use Rattle.std.proofs.Common.{◌≡◌, ℕ, Bool, true, false, Option, Some, None, is_some, List, [], ◌∷◌, Result, Ok, Err, refl, sym, ap, ◌∙◌, subst}
use Rattle.std.specs.Prelude.{not, ◌&&◌, if◌then◌else◌}
use Rattle.std.specs.Option.{option_or}
use Rattle.futures.specs.declared.task.Poll.{Poll}
use Rattle.futures.specs.declared.task.Poll.TheVariants.{Ready, Pending}
use Rattle.http_config.specs.declared.Failed.{Failed}
use Rattle.http_bodies.specs.Giving.{Giving}
use Rattle.http_bodies.specs.declared.body.fault.BodyFault.TheVariants.{Body}
use Rattle.model_h1.specs.End.{End}
use Rattle.model_h1.specs.Event as on
use Rattle.model_h1.specs.Setting.{Setting}
use Rattle.model_h1.specs.Sums as sums
use Rattle.model_state.specs.Kept.{Kept, Change}
use Rattle.model_state.specs.Local.{closing_by, allowed_by, is_answering, has_room}
use Rattle.model_state.specs.Clock.{is_abandoned, is_slow, is_idle, expiring, ticking}
use Rattle.model_state.specs.Change.{IsNext}
use Rattle.model_state.specs.Change.{IsStep as Machine}
use Rattle.h1_connection.specs.Heads.{SaysNext}
use Rattle.h1_connection.specs.EventMeaning.{setting_of, end_of}
use Rattle.h1_connection.specs.State.{Is}
use Rattle.h1_connection.specs.Ticks.{expiry_of}
use Rattle.h1_traced.specs.Traced.{TracedView, TracedStands}
use Rattle.h1_dispatcher.specs.View.{View, sending, is_sending, is_waiting, is_awaiting, is_replying, closes, allows, allows_answer, awaits_body}
use Rattle.h1_dispatcher.specs.Steps.{Step, Goes, Wrote, IsStep, IsRun, ticked, drained, written, read, shut, next, closed, continued, ready, called, answered, pulled, paused, dropped, replied, sent, failed, failed_write, failed_read, failed_fed, failed_sent, asked_to_drain, asked_to_hold, declined, let_on, turned_away, refused}
use Rattle.h1_dispatcher.specs.Traces.{IsNoted, AllNoted}
use Rattle.h1_dispatcher.specs.Bodies.{IsOfEnd, OnlyEnds}
use Rattle.h1_dispatcher.proofs.Held.{accepts_waits}

clash : {A : Type 0} → true ≡ false → A
clash is = absurd (cc is)

-- ---- what a connection that has failed allows

first_some : {A : Type 0} (x y : Option A) → is_some x ≡ true → is_some (option_or x y) ≡ true
first_some (Some x) y is = refl
first_some None y is = absurd (cc is)

pub closes_so : (set : Setting) (k : Kept) → is_some k.failed ≡ true → is_some (closing_by set k) ≡ true
unfolding closing_by
closes_so set k is = first_some k.failed _ is

stopped : (over closing may : Bool) → closing ≡ true → (not over && (if closing then false else may)) ≡ true → ⊥
stopped false true may is allowed = cc allowed
stopped true true may is allowed = cc allowed
stopped over false may is allowed = cc is

no_read : (set : Setting) (k : Kept) → is_some (closing_by set k) ≡ true → allowed_by set k on.eof ≡ true → ⊥
unfolding allowed_by
no_read set k closing is = stopped k.is_over (is_some (closing_by set k)) (not k.has_ended) closing is

no_piece : (set : Setting) (k : Kept) → is_some (closing_by set k) ≡ true → allowed_by set k (on.chunk []) ≡ true → ⊥
unfolding allowed_by
no_piece set k closing is = stopped k.is_over (is_some (closing_by set k)) (is_answering k && has_room set k) closing is

-- ---- what an event leaves

by_change : (c d : Change) → c ≡ d → is_some d.kept.failed ≡ true → is_some c.kept.failed ≡ true
by_change c d is so = ap (λ (x : Change). is_some x.kept.failed) is ∙ so

by_test : (b : Bool) (x y : Change) → is_some x.kept.failed ≡ true → is_some y.kept.failed ≡ true → is_some (if b then x else y).kept.failed ≡ true
by_test true x y is so = is
by_test false x y is so = so

expires : (set : Setting) (k : Kept) (closing : Option End) (first ms : ℕ) → is_some k.failed ≡ true → is_some (expiring set k closing first ms).kept.failed ≡ true
expires set k (Some end) first ms is = by_test (is_abandoned set k first ms) _ _ is is
expires set k None first ms is = by_test (is_slow set k first ms) _ _ refl (by_test (is_idle set k first ms) _ _ refl is)

ends_so : (set : Setting) (k : Kept) (closing : Option End) (end : End) (c : Change) → closing ≡ Some end → IsNext set k closing c → is_some k.failed ≡ true → is_some c.kept.failed ≡ true
ends_so set k (Some other) end c closes is fails = by_change c _ is fails
ends_so set k None end c closes is fails = absurd (cc closes)

-- ---- steps

-- the body that goes out has failed
record HasFailed (v : View) : Type 0 where
  trace : List sums.Step
  stands : TracedStands v.traced trace
  fails : is_some v.traced.state.kept.failed ≡ true
  body : Giving
  stage : v.stage ≡ sending body

still : (v w : View) → w.traced ≡ v.traced → w.stage ≡ v.stage → HasFailed v → HasFailed w
still v w traced stage f = record {
  trace = f.trace;
  stands = subst (λ (l : TracedView). TracedStands l f.trace) (sym traced) f.stands;
  fails = ap (λ (l : TracedView). is_some l.state.kept.failed) traced ∙ f.fails;
  body = f.body;
  stage = stage ∙ f.stage;
}

-- an event came after this trace
went : (v w : View) (event : on.Event) (Says : on.Outcome → Type 0) (trace : List sums.Step) (body : Giving) → TracedStands v.traced trace → Goes v.traced event Says w.traced → w.stage ≡ sending body
    → ((out : on.Outcome) → (m : Machine (setting_of v.traced.state.settings) v.traced.state.kept event out w.traced.state.kept) → is_some m.change.kept.failed ≡ true)
    → HasFailed w
went v w event Says trace body stands goes stage so =
    let x = goes.steps trace stands in
    let s : sums.Step = record { event = event; outcome = x.0 } in
    record {
      trace = s ∷ trace;
      stands = x.2.stands;
      fails = ap (λ (k : Kept). is_some k.failed) x.2.machine.keeps ∙ so x.0 x.2.machine;
      body = body;
      stage = stage;
    }

goes_on : (v w : View) (event : on.Event) (Says : on.Outcome → Type 0) → Goes v.traced event Says w.traced → w.stage ≡ v.stage
    → ((out : on.Outcome) → (m : Machine (setting_of v.traced.state.settings) v.traced.state.kept event out w.traced.state.kept) → is_some m.change.kept.failed ≡ true)
    → HasFailed v → HasFailed w
goes_on v w event Says goes stage so f = went v w event Says f.trace f.body f.stands goes (stage ∙ f.stage) so

wrote : (v w : View) (answer : Poll (Result ℕ Failed)) → Wrote v.traced w.traced answer → w.stage ≡ v.stage → HasFailed v → HasFailed w
wrote v w (Ready (Ok n)) goes stage f = goes_on v w (on.write n) _ goes.1 stage (λ out m. by_change _ _ m.changes f.fails) f
wrote v w (Ready (Err e)) traced stage f = still v w traced stage f
wrote v w Pending traced stage f = still v w traced stage f

closes_now : (v : View) → HasFailed v → closes v ≡ true
closes_now v f = closes_so (setting_of v.traced.state.settings) v.traced.state.kept f.fails

-- no more of a request's body comes while the body of its answer goes out
not_awaited : (v : View) (body : Giving) → v.stage ≡ sending body → awaits_body v ≡ true → ⊥
not_awaited v body stage is = clash (sym is ∙ ap (λ s. is_awaiting s && (allows_answer v && allows v on.drop_body)) stage)

step_ends : (v w : View) (d : Step) → IsNoted d → IsStep v d w → HasFailed v → IsOfEnd d × HasFailed w
step_ends v w (ticked moment expiry) noted is f = (
  tt,
  goes_on v w (on.tick moment) (Is (expiry_of expiry)) is.0 (ap (λ (x : View). x.stage) is.1)
      (λ out m. by_change _ (ticking (setting_of v.traced.state.settings) v.traced.state.kept (closing_by (setting_of v.traced.state.settings) v.traced.state.kept) moment) m.changes
      (expires (setting_of v.traced.state.settings) v.traced.state.kept (closing_by (setting_of v.traced.state.settings) v.traced.state.kept) _ moment f.fails)) f,
)
step_ends v w drained noted is f = (tt, goes_on v w on.drain (Is on.done) is.0 (ap (λ (x : View). x.stage) is.1) (λ out m. by_change _ _ m.changes f.fails) f)
step_ends v w (written answer) noted is f = (tt, wrote v w answer is.3 (ap (λ (x : View). x.stage) is.4) f)
step_ends v w (read came answer) noted is f = absurd (no_read (setting_of v.traced.state.settings) v.traced.state.kept (closes_now v f) is.1)
step_ends v w (shut answer) noted is f = (tt, still v w (ap (λ (x : View). x.traced) is.2) (ap (λ (x : View). x.stage) is.2) f)
step_ends v w (next peer head) noted is f = clash (ap is_sending (sym f.stage ∙ is.1))
step_ends v w (closed end) noted is f = (
  tt,
  goes_on v w on.next (SaysNext is.3.0) is.3.1 (ap (λ (x : View). x.stage) is.4)
      (λ out m. ends_so (setting_of v.traced.state.settings) v.traced.state.kept (closing_by (setting_of v.traced.state.settings) v.traced.state.kept) (end_of end) m.change is.1 m.changes f.fails) f,
)
step_ends v w continued noted is f = clash (sym (sym (ap is_waiting f.stage) ∙ is.0.1))
step_ends v w (ready request answer) noted is f = clash (ap is_sending (sym f.stage ∙ is.0.1))
step_ends v w (called request) noted is f = clash (ap is_sending (sym f.stage ∙ is.0.1))
step_ends v w (answered answer) noted is f = clash (ap is_sending (sym f.stage ∙ is.calls))
step_ends v w (pulled piece) noted is f = absurd (not_awaited v f.body f.stage is.0.awaits)
step_ends v w paused noted is f = absurd (not_awaited v f.body f.stage is.1)
step_ends v w dropped noted is f = clash (sym (sym (ap is_replying f.stage) ∙ is.1))
step_ends v w (replied answer) noted is f = clash (ap is_sending (sym f.stage ∙ is.1))
step_ends v w (sent piece) noted is f = absurd (no_piece (setting_of v.traced.state.settings) v.traced.state.kept (closes_now v f) is.1.allowed)
step_ends v w (failed event) noted is f = absurd noted
step_ends v w (failed_write count) noted is f = absurd noted
step_ends v w (failed_read came event) noted is f = absurd noted
step_ends v w (failed_fed bytes) noted is f = absurd noted
step_ends v w (failed_sent piece) noted is f = absurd noted
step_ends v w asked_to_drain noted is f = (tt, still v w (ap (λ (x : View). x.traced) is) (ap (λ (x : View). x.stage) is) f)
step_ends v w (asked_to_hold upgrades expects) noted is f = (tt, still v w (ap (λ (x : View). x.traced) is) (ap (λ (x : View). x.stage) is) f)
step_ends v w declined noted is f = (tt, still v w (ap (λ (x : View). x.traced) is) (ap (λ (x : View). x.stage) is) f)
step_ends v w let_on noted is f = (tt, still v w (ap (λ (x : View). x.traced) is) (ap (λ (x : View). x.stage) is) f)
step_ends v w (turned_away request answer) noted is f = clash (ap is_sending (sym f.stage ∙ is.1))
step_ends v w (refused limit error) noted is f = clash (sym (sym (ap is_waiting f.stage) ∙ accepts_waits v limit is.0))

ends_on : (v u w : View) (d : Step) (steps : List Step) → IsOfEnd d × HasFailed u → (HasFailed u → OnlyEnds steps w) → OnlyEnds (d ∷ steps) w
ends_on v u w d steps first rest = let x = rest first.1 in record { closing = x.closing; each = (first.0, x.each) }

run_ends : (v w : View) (steps : List Step) → AllNoted steps → IsRun v steps w → HasFailed v → OnlyEnds steps w
run_ends v w [] noted is f = record { closing = ap closes is ∙ closes_now v f; each = tt }
run_ends v w (d ∷ steps) noted is f = ends_on v is.0 w d steps (step_ends v is.0 d noted.0 is.1 f) (λ later. run_ends is.0 w steps noted.1 is.2 later)

-- and so it is from a fault on
pub fault_ends : (v w : View) (number : ℕ) (steps : List Step) (trace : List sums.Step) → TracedStands v.traced trace → AllNoted steps
    → IsRun v (sent (Ready (Some (Err (Body number)))) ∷ steps) w → OnlyEnds steps w
fault_ends v w number steps trace stands noted is =
    run_ends is.0 w steps noted is.2
    (went v is.0 on.body_error (Is on.done) trace is.1.0 stands is.1.2 (ap (λ (x : View). x.stage) is.1.3) (λ out m. by_change _ _ m.changes refl))
