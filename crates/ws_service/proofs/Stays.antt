-- A connection that speaks WebSocket stays so.
use Rattle.std.proofs.Common.{◌≡◌, ◌⊎◌, ◌++◌, ℕ, Bool, true, false, Option, Some, None, List, [], ◌∷◌, take, length, Result, Ok, Err, inl, inr, refl, sym, ap, ◌∙◌, subst}
use Rattle.std.specs.Prelude.{min, ◌-◌, if◌then◌else◌, unwrap_or}
use Rattle.futures.specs.declared.task.Poll.{Poll}
use Rattle.futures.specs.declared.task.Poll.TheVariants.{Ready, Pending}
use Rattle.futures.specs.declared.task.context.Context.{Context}
use Rattle.http_config.specs.declared.Failed.{Failed}
use Rattle.ws_frames.specs.Sent.{message_says}
use Rattle.model_h1.specs.End.{End}
use Rattle.model_h1.specs.Event as on
use Rattle.model_h1.specs.Frame as said
use Rattle.model_h1.specs.Frame.{ProtocolError}
use Rattle.model_h1.specs.FrameText.{Front, partial, whole, breaks, front_frame, send_error}
use Rattle.model_h1.specs.Parse.{connection_reader}
use Rattle.model_h1.specs.Setting.{Setting}
use Rattle.model_h1.specs.Sums as sums
use Rattle.model_state.specs.Kept.{Kept, Change, Exchange, Rest, no_rest, raw_rest, fixed_rest, chunks_rest, frames_rest, rest_in, Reply, unanswered, sending as sends, answered as replied, is_frames, of_exchange, is_upgraded}
use Rattle.model_state.specs.Local.{closing_by}
use Rattle.model_state.specs.Body.{passing}
use Rattle.model_state.specs.Clock.{is_abandoned, is_slow, is_idle, expiring}
use Rattle.model_state.specs.Pull.{Pulled, IsPull, pull_front}
use Rattle.model_state.specs.Change.{reading, ending_input, exchange_at_end, IsNext, IsPulling, sending_message}
use Rattle.model_state.specs.Change.{IsStep as Machine}
use Rattle.h1_connection.specs.EventMeaning.{setting_of, end_of}
use Rattle.h1_connection.specs.State.{Is}
use Rattle.h1_connection.specs.Ticks.{expiry_of}
use Rattle.h1_connection.specs.declared.connection.ticks.Expiry.{Expiry}
use Rattle.h1_connection.specs.declared.connection.ticks.Expiry.TheVariants as expiries
use Rattle.h1_traced.specs.Traced.{TracedView, TracedStands}
use Rattle.ws_service.specs.declared.error.UpgradeError.TheVariants as error
use Rattle.ws_service.specs.declared.dispatcher.Ending.{Ending}
use Rattle.ws_service.specs.View.{View, IsForeign}
use Rattle.ws_service.specs.Steps.{Step, Goes, Wrote, Took, FindsNone, IsStep, IsRun, ending_at, ticked, drained, written, read, told_end, shut, closed, ready, called, answered, pulled, sent, failed, unsent, failed_write, failed_read, asked_to_drain}
use Rattle.ws_service.specs.Polls.{PollRuns, PollSays}
use Rattle.ws_service.specs.Stays.{IsLive}
use Rattle.ws_service.specs.Traces.{IsNoted, AllNoted}
use Rattle.ws_service.proofs.Traces.{step_follows, run_follows}
use Rattle.ws_service.proofs.Causes.{begun_run, go_noted}

-- ---- what the machine keeps

-- it speaks WebSocket, and is over only if it was
record Keeps (k next : Kept) : Type 0 where
  speaks : is_upgraded next ≡ true
  over : next.is_over ≡ k.is_over

-- the request that was upgraded
upgraded_by : (k : Kept) (e : Option Exchange) → k.exchange ≡ e → is_upgraded k ≡ true → (x : Exchange) × (k.exchange ≡ Some x) × (is_frames x.rest ≡ true)
upgraded_by k None at is =
    absurd
    (let never : false ≡ true = sym (ap (λ y. of_exchange (λ z. is_frames z.rest) (record k { exchange = y })) at) ∙ is in
    cc never)
upgraded_by k (Some x) at is = (x, at, sym (ap (λ y. of_exchange (λ z. is_frames z.rest) (record k { exchange = y })) at) ∙ is)

-- ---- bytes, and their end

pass_frames : (k : Kept) (x : Exchange) (reply : Reply) (rest : Rest) → is_frames rest ≡ true → Keeps k (passing (record k { exchange = Some (record x { reply = reply; rest = rest }) }))
unfolding passing
pass_frames k x unanswered (frames_rest under_way limit) is = record { speaks = refl; over = refl }
pass_frames k x (sends shape kind missing) (frames_rest under_way limit) is = record { speaks = refl; over = refl }
pass_frames k x (replied kind) (frames_rest under_way limit) is = record { speaks = refl; over = refl }
pass_frames k x reply no_rest is = absurd (cc is)
pass_frames k x reply raw_rest is = absurd (cc is)
pass_frames k x reply (fixed_rest n) is = absurd (cc is)
pass_frames k x reply (chunks_rest place section) is = absurd (cc is)

reads_up : (set : Setting) (bytes : List ℕ) (k : Kept) → is_upgraded k ≡ true → Keeps k (reading set bytes k).kept
reads_up set bytes k is =
    let u = upgraded_by k k.exchange refl is in
    let r = record k { unread = k.unread ++ take (min (length bytes) (set.hold_size - length k.unread)) bytes } in
    let p = pass_frames r u.0 u.0.reply u.0.rest u.2 in
    record {
      speaks = ap (λ y. is_upgraded (passing (record r { exchange = y }))) u.1 ∙ p.speaks;
      over = ap (λ y. (passing (record r { exchange = y })).is_over) u.1 ∙ p.over;
    }

frames_in : (bytes : List ℕ) (rest : Rest) → is_frames rest ≡ true → is_frames (rest_in true bytes rest) ≡ true
frames_in [] (frames_rest under_way limit) is = refl
frames_in (b ∷ bytes) (frames_rest under_way limit) is = refl
frames_in bytes no_rest is = absurd (cc is)
frames_in bytes raw_rest is = absurd (cc is)
frames_in bytes (fixed_rest n) is = absurd (cc is)
frames_in bytes (chunks_rest place section) is = absurd (cc is)

ends_up : (k : Kept) → is_upgraded k ≡ true → Keeps k (ending_input k)
ends_up k is =
    let u = upgraded_by k k.exchange refl is in
    let p = pass_frames (record k { has_ended = true }) u.0 u.0.reply (rest_in true k.unread u.0.rest) (frames_in k.unread u.0.rest u.2) in
    record {
      speaks = ap (λ y. is_upgraded (passing (record k { has_ended = true; exchange = exchange_at_end k.unread y }))) u.1 ∙ p.speaks;
      over = ap (λ y. (passing (record k { has_ended = true; exchange = exchange_at_end k.unread y })).is_over) u.1 ∙ p.over;
    }

-- ---- frames

front_frames : (under_way : Bool) (limit : ℕ) (bytes : List ℕ) (front : Front) → is_frames (pull_front under_way limit bytes front).rest ≡ true
front_frames under_way limit bytes partial = refl
front_frames under_way limit bytes (whole frame len) = refl
front_frames under_way limit bytes (breaks fault) = refl

rest_frames : (ended : Bool) (rest : Rest) (bytes : List ℕ) (p : Pulled) → is_frames rest ≡ true → IsPull ended rest bytes p → is_frames p.rest ≡ true
rest_frames ended no_rest bytes p is pulls = absurd (cc is)
rest_frames ended raw_rest bytes p is pulls = absurd (cc is)
rest_frames ended (fixed_rest n) bytes p is pulls = absurd (cc is)
rest_frames ended (chunks_rest place section) bytes p is pulls = absurd (cc is)
rest_frames ended (frames_rest under_way limit) bytes p is pulls =
    ap (λ (x : Pulled). is_frames x.rest) pulls ∙ front_frames under_way limit bytes (front_frame (connection_reader limit) under_way bytes)

pulls_up : (k : Kept) (c : Change) → is_upgraded k ≡ true → IsPulling k k.exchange c → Keeps k c.kept
pulls_up k c is pulls =
    let u = upgraded_by k k.exchange refl is in
    let p = subst (λ y. IsPulling k y c) u.1 pulls in
    record {
      speaks = ap (λ (y : Change). is_upgraded y.kept) p.2 ∙ rest_frames k.has_ended u.0.rest k.unread p.0 u.2 p.1;
      over = ap (λ (y : Change). y.kept.is_over) p.2;
    }

sends_up : (m : said.Message) (k : Kept) (fault : Option ProtocolError) → is_upgraded k ≡ true → Keeps k (sending_message m k fault).kept
sends_up m k None is = record { speaks = is; over = refl }
sends_up m k (Some fault) is = record { speaks = is; over = refl }

-- ---- moments, and the end

speaks_test : (b : Bool) (x y : Change) → is_upgraded x.kept ≡ true → is_upgraded y.kept ≡ true → is_upgraded (if b then x else y).kept ≡ true
speaks_test true x y is so = is
speaks_test false x y is so = so

over_test : (k : Kept) (b : Bool) (x y : Change) → (x.outcome ≡ on.abandoned) ⊎ (x.kept.is_over ≡ k.is_over) → (y.outcome ≡ on.abandoned) ⊎ (y.kept.is_over ≡ k.is_over)
    → ((if b then x else y).outcome ≡ on.abandoned) ⊎ ((if b then x else y).kept.is_over ≡ k.is_over)
over_test k true x y is so = is
over_test k false x y is so = so

expires_up : (set : Setting) (k : Kept) (closing : Option End) (first ms : ℕ) → is_upgraded k ≡ true → is_upgraded (expiring set k closing first ms).kept ≡ true
expires_up set k (Some end) first ms is = speaks_test (is_abandoned set k first ms) _ _ is is
expires_up set k None first ms is = speaks_test (is_slow set k first ms) _ _ is (speaks_test (is_idle set k first ms) _ _ is is)

expires_over : (set : Setting) (k : Kept) (closing : Option End) (first ms : ℕ)
    → ((expiring set k closing first ms).outcome ≡ on.abandoned) ⊎ ((expiring set k closing first ms).kept.is_over ≡ k.is_over)
expires_over set k (Some end) first ms = over_test k (is_abandoned set k first ms) _ _ (inl refl) (inr refl)
expires_over set k None first ms = over_test k (is_slow set k first ms) _ _ (inr refl) (over_test k (is_idle set k first ms) _ _ (inr refl) (inr refl))

ends_speaking : (set : Setting) (k : Kept) (closing : Option End) (end : End) (c : Change) → closing ≡ Some end → IsNext set k closing c → is_upgraded k ≡ true → is_upgraded c.kept ≡ true
ends_speaking set k (Some other) end c closes is speaks = ap (λ (y : Change). is_upgraded y.kept) is ∙ speaks
ends_speaking set k None end c closes is speaks = absurd (cc closes)

-- ---- steps

-- the traced connection stays, and so does how it has ended
still : (v w : View) → w.traced ≡ v.traced → w.ending ≡ v.ending → IsLive v → IsLive w
still v w traced ending l = record {
  speaks = ap (λ (x : TracedView). is_upgraded x.state.kept) traced ∙ l.speaks;
  running = λ runs. ap (λ (x : TracedView). x.state.kept.is_over) traced ∙ l.running (sym ending ∙ runs);
}

-- an event came, behind which the machine keeps that
went : (v w : View) (event : on.Event) (Says : on.Outcome → Type 0) (trace : List sums.Step) → TracedStands v.traced trace → Goes v.traced event Says w.traced → w.ending ≡ v.ending
    → ((out : on.Outcome) → (m : Machine (setting_of v.traced.state.settings) v.traced.state.kept event out w.traced.state.kept) → Keeps v.traced.state.kept m.change.kept)
    → IsLive v → IsLive w
went v w event Says trace stands goes ending so l =
    let x = goes.steps trace stands in
    let kept = so x.0 x.2.machine in
    record {
      speaks = ap (λ (k : Kept). is_upgraded k) x.2.machine.keeps ∙ kept.speaks;
      running = λ runs. ap (λ (k : Kept). k.is_over) x.2.machine.keeps ∙ kept.over ∙ l.running (sym ending ∙ runs);
    }

by_change : (k : Kept) (c d : Change) → c ≡ d → Keeps k d.kept → Keeps k c.kept
by_change k c d is so = subst (λ x. Keeps k x.kept) (sym is) so

wrote : (v w : View) (answer : Poll (Result ℕ Failed)) (trace : List sums.Step) → TracedStands v.traced trace → Wrote v.traced w.traced answer → w.ending ≡ v.ending → IsLive v → IsLive w
wrote v w (Ready (Ok n)) trace stands goes ending l =
    went v w (on.write n) _ trace stands goes.1 ending (λ out m. by_change v.traced.state.kept m.change _ m.changes (record { speaks = l.speaks; over = refl })) l
wrote v w (Ready (Err e)) trace stands same ending l = still v w same ending l
wrote v w Pending trace stands same ending l = still v w same ending l

took : (v w : View) (came : List ℕ) (answer : Poll (Result ℕ Failed)) (trace : List sums.Step) → TracedStands v.traced trace → Took v.traced w.traced came answer → w.ending ≡ v.ending → IsLive v → IsLive w
took v w came (Ready (Ok n)) trace stands (inl end) ending l = still v w end.1 ending l
took v w came (Ready (Ok n)) trace stands (inr some) ending l =
    went v w (on.read came) _ trace stands some.1.1 ending
    (λ out m. by_change v.traced.state.kept m.change _ m.changes (reads_up (setting_of v.traced.state.settings) came v.traced.state.kept l.speaks)) l
took v w came (Ready (Err e)) trace stands same ending l = still v w same ending l
took v w came Pending trace stands same ending l = still v w same ending l

-- a moment that doesn't abandon it
not_abandoned : (expiry : Expiry) (ending : Option Ending) → ending_at expiry ending ≡ None → expiry_of expiry ≡ on.abandoned → ⊥
not_abandoned expiries.None ending runs is = cc is
not_abandoned (expiries.Expired end) ending runs is = cc is
not_abandoned expiries.Abandoned ending runs is = cc runs

was_running : (expiry : Expiry) (ending : Option Ending) → ending_at expiry ending ≡ None → ending ≡ None
was_running expiries.None ending runs = runs
was_running (expiries.Expired end) ending runs = runs
was_running expiries.Abandoned ending runs = absurd (cc runs)

pick : {P Q : Type 0} → P ⊎ Q → (P → ⊥) → Q
pick (inl p) not = absurd (not p)
pick (inr q) not = q

ticks : (v w : View) (moment : ℕ) (expiry : Expiry) (trace : List sums.Step) → TracedStands v.traced trace → Goes v.traced (on.tick moment) (Is (expiry_of expiry)) w.traced
    → w.ending ≡ ending_at expiry v.ending → IsLive v → IsLive w
ticks v w moment expiry trace stands goes ending l =
    let x = goes.steps trace stands in
    let m = x.2.machine in
    let set = setting_of v.traced.state.settings in
    let k = v.traced.state.kept in
    let first = unwrap_or k.clock.first moment in
    record {
      speaks = ap (λ (y : Kept). is_upgraded y) m.keeps ∙ ap (λ (y : Change). is_upgraded y.kept) m.changes ∙ expires_up set k (closing_by set k) first moment l.speaks;
      running = λ runs.
          let still_runs = sym ending ∙ runs in
          ap (λ (y : Kept). y.is_over) m.keeps ∙ ap (λ (y : Change). y.kept.is_over) m.changes
          ∙ pick (expires_over set k (closing_by set k) first moment) (λ is. not_abandoned expiry v.ending still_runs (sym x.1 ∙ m.answers ∙ ap (λ (y : Change). y.outcome) m.changes ∙ is))
          ∙ l.running (was_running expiry v.ending still_runs);
    }

closes_so : (v w : View) (end : End) (Says : on.Outcome → Type 0) (ending : Ending) (trace : List sums.Step) → TracedStands v.traced trace
    → closing_by (setting_of v.traced.state.settings) v.traced.state.kept ≡ Some end → Goes v.traced on.next Says w.traced → w.ending ≡ Some ending → IsLive v → IsLive w
closes_so v w end Says ending trace stands closes goes ended l =
    let x = goes.steps trace stands in
    let set = setting_of v.traced.state.settings in
    record {
      speaks = ap (λ (y : Kept). is_upgraded y) x.2.machine.keeps
          ∙ ends_speaking set v.traced.state.kept (closing_by set v.traced.state.kept) end x.2.machine.change closes x.2.machine.changes l.speaks;
      running = λ runs.
          let never = sym ended ∙ runs in
          absurd (cc never);
    }

tells : (v u w : View) (trace : List sums.Step) → TracedStands v.traced trace → FindsNone v u → Goes u.traced on.eof (Is on.done) w.traced → w.ending ≡ v.ending → IsLive v → IsLive w
tells v u w trace stands finds goes ending l =
    let same = ap (λ (x : View). x.ending) finds.same in
    let first = went v u on.pull _ trace stands finds.asked same (λ out m. pulls_up v.traced.state.kept m.change l.speaks m.changes) l in
    let x = finds.asked.steps trace stands in
    went u w on.eof _ _ x.2.stands goes (ending ∙ sym same) (λ out m. by_change u.traced.state.kept m.change _ m.changes (ends_up u.traced.state.kept first.speaks)) first

step_stays : (v w : View) (d : Step) (trace : List sums.Step) → TracedStands v.traced trace → IsNoted d → IsStep v d w → IsLive v → IsLive w
step_stays v w (ticked moment expiry) trace stands noted is l = ticks v w moment expiry trace stands is.0 (ap (λ (x : View). x.ending) is.1) l
step_stays v w drained trace stands noted is l =
    went v w on.drain _ trace stands is.0 (ap (λ (x : View). x.ending) is.1) (λ out m. by_change v.traced.state.kept m.change _ m.changes (record { speaks = l.speaks; over = refl })) l
step_stays v w (written answer) trace stands noted is l = wrote v w answer trace stands is.2 (ap (λ (x : View). x.ending) is.3) l
step_stays v w (read came answer) trace stands noted is l = took v w came answer trace stands is.3 (ap (λ (x : View). x.ending) is.4) l
step_stays v w told_end trace stands noted is l = tells v is.4.0 w trace stands is.4.1 is.4.3 (ap (λ (x : View). x.ending) is.5) l
step_stays v w (shut answer) trace stands noted is l = still v w (ap (λ (x : View). x.traced) is.2) (ap (λ (x : View). x.ending) is.2) l
step_stays v w (closed end) trace stands noted is l = closes_so v w (end_of end) _ _ trace stands is.1 is.3.1 (ap (λ (x : View). x.ending) is.4) l
step_stays v w (ready answer) trace stands noted is l = still v w (ap (λ (x : View). x.traced) is.4) (ap (λ (x : View). x.ending) is.4) l
step_stays v w (called item) trace stands noted is l = still v w (ap (λ (x : View). x.traced) is.3) (ap (λ (x : View). x.ending) is.3) l
step_stays v w (answered answer) trace stands noted is l = still v w (ap (λ (x : View). x.traced) is.3) (ap (λ (x : View). x.ending) is.3) l
step_stays v w (pulled given) trace stands noted is l =
    went v w on.pull _ trace stands is.3.2 (ap (λ (x : View). x.ending) is.4) (λ out m. pulls_up v.traced.state.kept m.change l.speaks m.changes) l
step_stays v w (sent message) trace stands noted is l =
    went v w (on.send (message_says message)) _ trace stands is.3.1 (ap (λ (x : View). x.ending) is.4)
    (λ out m. by_change v.traced.state.kept m.change _ m.changes (sends_up (message_says message) v.traced.state.kept (send_error v.traced.state.kept.is_sending (message_says message)) l.speaks)) l
step_stays v w (failed event) trace stands noted is l = absurd noted
step_stays v w (unsent message) trace stands noted is l = absurd noted
step_stays v w (failed_write count) trace stands noted is l = absurd noted
step_stays v w (failed_read came) trace stands noted is l = absurd noted
step_stays v w asked_to_drain trace stands noted is l = still v w (ap (λ (x : View). x.traced) is) (ap (λ (x : View). x.ending) is) l

pub run_stays : (v w : View) (steps : List Step) (trace : List sums.Step) → TracedStands v.traced trace → AllNoted steps → IsRun v steps w → IsLive v → IsLive w
run_stays v w [] trace stands noted is l = subst (λ x. IsLive x) (sym is) l
run_stays v w (d ∷ steps) trace stands noted is l =
    let f = step_follows v is.0 d noted.0 is.1 trace stands in
    run_stays is.0 w steps (f.more ++ trace) f.stands noted.1 is.2 (step_stays v is.0 d trace stands noted.0 is.1 l)

-- ---- polls

not_foreign : (w : View) → IsLive w → w.ending ≡ None → IsForeign w → ⊥
not_foreign w l runs (inl not) =
    let never = sym not ∙ l.speaks in
    cc never
not_foreign w l runs (inr over) =
    let never = sym over ∙ l.running runs in
    cc never

runs_live : (v w : View) (cx : Context) (moment : ℕ) (trace : List sums.Step) → TracedStands v.traced trace → IsLive v → PollRuns v w cx moment (Ready (Err error.NotUpgraded)) → ⊥
runs_live v w cx moment trace stands l (inl fails) = cc fails.0
runs_live v w cx moment trace stands l (inr (u, begun, ends)) =
    let b = begun_run v u moment begun in
    let f = run_follows v u b.0 b.2 b.1 trace stands in
    let first = run_stays v u b.0 trace stands b.2 b.1 l in
    not_foreign w (run_stays u w ends.steps (f.more ++ trace) f.stands (go_noted ends.steps ends.ended.0) ends.run first) ends.ended.1 ends.ended.2

pub poll_live : (v w : View) (cx : Context) (moment : ℕ) (trace : List sums.Step) → TracedStands v.traced trace → IsLive v → PollSays v w cx moment (Ready (Err error.NotUpgraded)) → ⊥
poll_live v w cx moment trace stands l (inl is) = let never = is.2 in cc never
poll_live v w cx moment trace stands l (inr is) = runs_live v w cx moment trace stands l is.1
