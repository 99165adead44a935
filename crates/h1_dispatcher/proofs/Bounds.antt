-- What waits to be written grows only where there is room.
use Rattle.std.proofs.Common.{◌≡◌, ◌≤◌, ◌⊎◌, ℕ, zero, suc, Bool, true, false, Option, Some, None, List, [], ◌∷◌, length, drop, Result, Ok, Err, inl, inr, refl, sym, ap, ◌∙◌, subst, arith}
use Rattle.std.specs.Prelude.{is_none, is_some, ◌&&◌, nat_lt, if◌then◌else◌}
use Rattle.std.proofs.lemmas.Bool.{lt-ltb, ltb-true}
use Rattle.std.proofs.lemmas.List.{length-drop}
use Rattle.futures.specs.declared.task.Poll.{Poll}
use Rattle.futures.specs.declared.task.Poll.TheVariants.{Ready, Pending}
use Rattle.http_config.specs.Config.{Settings}
use Rattle.http_config.specs.declared.Failed.{Failed}
use Rattle.http_framing.specs.declared.body.size.BodySize.{BodySize}
use Rattle.http_framing.specs.declared.body.size.BodySize.TheVariants.{None as NoBody, Sized, Stream}
use Rattle.http_bodies.specs.Giving.{Giving, Piece}
use Rattle.http_services.specs.Serving.{Serving}
use Rattle.http_transport.specs.Peer.{PeerAddress}
use Rattle.http_transport.specs.Wiring.{Wiring}
use Rattle.model_h1.specs.End as ends
use Rattle.model_h1.specs.End.{End}
use Rattle.model_h1.specs.Event as on
use Rattle.model_h1.specs.Handshake.{HandshakeError}
use Rattle.model_h1.specs.Setting.{Setting}
use Rattle.model_state.specs.Kept.{Reply, unanswered, sending, answered as complete, Exchange, Kept, Change}
use Rattle.model_state.specs.Local.{closing_by, waits_for_answer}
use Rattle.model_state.specs.Body.{passing}
use Rattle.model_state.specs.Clock.{is_abandoned, is_slow, is_idle, expiring, ticking}
use Rattle.model_state.specs.Change.{doing_with, reading, exchange_at_end, IsNext, IsPulling}
use Rattle.model_state.specs.Change.{IsStep as Machine}
use Rattle.h1_payload.specs.Rests.{SaysPulled}
use Rattle.h1_connection.specs.Heads.{SaysNext}
use Rattle.h1_connection.specs.EventMeaning.{setting_of, end_of}
use Rattle.h1_connection.specs.State.{Is}
use Rattle.h1_connection.specs.Ticks.{expiry_of}
use Rattle.h1_connection.specs.declared.connection.heads.NextHead.{NextHead}
use Rattle.h1_connection.specs.declared.connection.ticks.Expiry.{Expiry}
use Rattle.h1_connection.specs.declared.connection.ticks.Expiry.TheVariants as expiries
use Rattle.h1_traced.specs.Traced.{TracedView}
use Rattle.h1_dispatcher.specs.View.{View, Asking, Answer, Stage, free, waiting, calling, replying, sending as goes_out, is_unanswered as is_unanswered_at, is_asked, is_waiting, allows_next, has_write_room, buffered, view_begun}
use Rattle.h1_dispatcher.specs.Steps.{Step, Goes, Wrote, Took, IsStep, IsRun, request_at, stage_at, stage_replied, stage_sent, ticked, drained, written, read, shut, next, closed, continued, ready, called, answered, pulled, paused, dropped, replied, sent, failed, failed_write, failed_read, failed_fed, failed_sent, asked_to_drain, asked_to_hold, declined, let_on, turned_away, refused}
use Rattle.h1_dispatcher.specs.Traces.{IsNoted, AllNoted}
use Rattle.h1_dispatcher.specs.Open.{IsTied}
use Rattle.h1_dispatcher.specs.Bounds.{HasRoomForAnswer, HasExpired, GrowsInRoom}
use Rattle.h1_dispatcher.proofs.Faults.{closes_so}
use Rattle.h1_dispatcher.proofs.Moves.{leaves_room}
use Rattle.h1_dispatcher.proofs.Open.{step_ties, begun_tied, begun_tied_noted}
use Rattle.h1_dispatcher.proofs.Held.{refused_keeps, refuses_in_room}

clash : {A : Type 0} → true ≡ false → A
clash is = absurd (cc is)

-- ---- what an event leaves of the bytes that wait

passing_reply : (k : Kept) (x : Exchange) (r : Reply) → (passing (record k { exchange = Some (record x { reply = r }) })).buffered ≡ k.buffered
unfolding passing
passing_reply k x unanswered = refl
passing_reply k x (sending shape kind missing) = refl
passing_reply k x (complete kind) = refl

passing_in : (k : Kept) (e : Option Exchange) → (passing (record k { exchange = e })).buffered ≡ k.buffered
unfolding passing
passing_in k None = refl
passing_in k (Some x) = passing_reply k x x.reply

passing_leaves : (k : Kept) → (passing k).buffered ≡ k.buffered
passing_leaves k = passing_in k k.exchange

drop_leaves : (k : Kept) (e : Option Exchange) → (doing_with (λ x k. record k { exchange = Some (record x { was_dropped = true }) }) (record k { exchange = e })).kept.buffered ≡ k.buffered
drop_leaves k None = refl
drop_leaves k (Some x) = refl

by_change : (l : List ℕ) (c d : Change) → c ≡ d → d.kept.buffered ≡ l → c.kept.buffered ≡ l
by_change l c d is same = ap (λ (x : Change). x.kept.buffered) is ∙ same

pull_leaves : (k : Kept) (e : Option Exchange) (c : Change) → IsPulling (record k { exchange = e }) e c → c.kept.buffered ≡ k.buffered
pull_leaves k None c is = by_change k.buffered c _ is refl
pull_leaves k (Some x) c is = by_change k.buffered c _ is.2 refl

-- a moment leaves all, or tells that no head has come, where no request waits for its answer, and then the connection closes
abbrev Ticked : Kept → Change → Type 0
Ticked k c = (c.kept.buffered ≡ k.buffered) ⊎ ((c.outcome ≡ on.expired ends.slow_request) × (waits_for_answer k ≡ false) × (is_some c.kept.failed ≡ true))

by_test : (k : Kept) (b : Bool) (x y : Change) → (b ≡ true → Ticked k x) → Ticked k y → Ticked k (if b then x else y)
by_test k true x y is so = is refl
by_test k false x y is so = so

first_of : (a b c : Bool) → (a && b && c) ≡ true → a ≡ true
first_of true b c is = refl
first_of false b c is = absurd (cc is)

none_waits : (k : Kept) (e : Option Exchange) → is_none e ≡ true → waits_for_answer (record k { exchange = e }) ≡ false
none_waits k None is = refl
none_waits k (Some x) is = absurd (cc is)

slow_waits : (set : Setting) (k : Kept) (first ms : ℕ) → is_slow set k first ms ≡ true → waits_for_answer k ≡ false
slow_waits set k first ms is = none_waits k k.exchange (first_of (is_none k.exchange) _ _ is)

expires : (set : Setting) (k : Kept) (closing : Option End) (first ms : ℕ) → Ticked k (expiring set k closing first ms)
expires set k (Some end) first ms = by_test k (is_abandoned set k first ms) _ _ (λ is. inl refl) (inl refl)
expires set k None first ms =
    by_test k (is_slow set k first ms) _ _ (λ is. inr (refl, slow_waits set k first ms is, refl)) (by_test k (is_idle set k first ms) _ _ (λ is. inl refl) (inl refl))

ticks : (set : Setting) (k : Kept) (closing : Option End) (ms : ℕ) (c : Change) → c ≡ ticking set k closing ms → Ticked k c
ticks set k closing ms c is = subst (λ (x : Change). Ticked k x) (sym is) (expires set k closing _ ms)

ends_so : (set : Setting) (k : Kept) (closing : Option End) (end : End) (c : Change) → closing ≡ Some end → IsNext set k closing c → c.kept.buffered ≡ k.buffered
ends_so set k (Some other) end c closes is = by_change k.buffered c _ is refl
ends_so set k None end c closes is = absurd (cc closes)

after_step : (set : Setting) (k later : Kept) (event : on.Event) (out : on.Outcome) (m : Machine set k event out later) → later.buffered ≡ m.change.kept.buffered
after_step set k later event out m = ap (λ (x : Kept). x.buffered) m.keeps

-- ---- views

-- no more bytes wait, and the settings are the same
record Less (v w : View) : Type 0 where
  fewer : length (buffered w) ≤ length (buffered v)
  settings : w.traced.state.settings ≡ v.traced.state.settings

no_more : (a b : List ℕ) → a ≡ b → length a ≤ length b
no_more a b is = omega (arith, ap (λ (l : List ℕ). length l) is)

still_room : (m n size : ℕ) → m ≤ n → nat_lt n size ≡ true → nat_lt m size ≡ true
still_room m n size fewer is = lt-ltb m size (omega (arith, fewer, ltb-true n size is))

less_room : (v w : View) → Less v w → has_write_room v ≡ true → has_write_room w ≡ true
less_room v w less is =
    ap (λ (s : Settings). nat_lt (length (buffered w)) s.h1_write_buffer_size) less.settings
    ∙ still_room (length (buffered w)) (length (buffered v)) v.traced.state.settings.h1_write_buffer_size less.fewer is

traced_less : (v w : View) → w.traced ≡ v.traced → Less v w
traced_less v w traced = record {
  fewer = no_more (buffered w) (buffered v) (ap (λ (l : TracedView). l.state.kept.buffered) traced);
  settings = ap (λ (l : TracedView). l.state.settings) traced;
}

-- after an event that adds no byte
went : (v w : View) (event : on.Event) (Says : on.Outcome → Type 0) → Goes v.traced event Says w.traced
    → ((out : on.Outcome) → Says out → (m : Machine (setting_of v.traced.state.settings) v.traced.state.kept event out w.traced.state.kept)
    → length m.change.kept.buffered ≤ length v.traced.state.kept.buffered)
    → IsTied v → Less v w
went v w event Says goes so t =
    let x = goes.steps t.trace t.stands in
    let later = no_more (buffered w) x.2.machine.change.kept.buffered (after_step (setting_of v.traced.state.settings) v.traced.state.kept w.traced.state.kept event x.0 x.2.machine) in
    record { fewer = omega (arith, later, so x.0 x.1 x.2.machine); settings = goes.settings }

same : (v w : View) (event : on.Event) (Says : on.Outcome → Type 0) → Goes v.traced event Says w.traced
    → ((out : on.Outcome) → (m : Machine (setting_of v.traced.state.settings) v.traced.state.kept event out w.traced.state.kept)
    → m.change.kept.buffered ≡ v.traced.state.kept.buffered)
    → IsTied v → Less v w
same v w event Says goes so t = went v w event Says goes (λ out says m. no_more m.change.kept.buffered v.traced.state.kept.buffered (so out m)) t

shorter : (n : ℕ) (l : List ℕ) → length (drop n l) ≤ length l
shorter n l = omega (arith, length-drop n l)

wrote : (v w : View) (answer : Poll (Result ℕ Failed)) → Wrote v.traced w.traced answer → IsTied v → Less v w
wrote v w (Ready (Ok n)) goes t =
    went v w (on.write n) _ goes.1
    (λ out says m. subst (λ (c : Change). length c.kept.buffered ≤ length v.traced.state.kept.buffered) (sym m.changes) (shorter n v.traced.state.kept.buffered)) t
wrote v w (Ready (Err e)) traced t = traced_less v w traced
wrote v w Pending traced t = traced_less v w traced

took : (v w : View) (came : List ℕ) (answer : Poll (Result ℕ Failed)) → Took v.traced w.traced came answer → IsTied v → Less v w
took v w came (Ready (Ok n)) (inl end) t =
    let k = v.traced.state.kept in
    same v w on.eof (Is on.done) end.1
    (λ out m. by_change k.buffered m.change _ m.changes (passing_leaves (record k { has_ended = true; exchange = exchange_at_end k.unread k.exchange }))) t
took v w came (Ready (Ok n)) (inr some) t =
    let k = v.traced.state.kept in
    same v w (on.read came) _ some.1.1
    (λ out m. by_change k.buffered m.change (reading (setting_of v.traced.state.settings) came k) m.changes (passing_leaves _)) t
took v w came (Ready (Err e)) traced t = traced_less v w traced
took v w came Pending traced t = traced_less v w traced

-- ---- steps

record Holds (v : View) (d : Step) (w : View) : Type 0 where
  grows : GrowsInRoom v d w
  room : is_asked w.stage ≡ true → has_write_room w ≡ true

fewer_wait : (v w : View) (d : Step) → Less v w → (is_asked w.stage ≡ true → is_asked v.stage ≡ true) → HasRoomForAnswer v → Holds v d w
fewer_wait v w d less before h = record { grows = inl less.fewer; room = λ asks. less_room v w less (h.room (before asks)) }

-- the service was asked in room
in_room : (v w : View) (d : Step) → Less v w → has_write_room v ≡ true → Holds v d w
in_room v w d less some = record { grows = inl less.fewer; room = λ asks. less_room v w less some }

-- the last request is as far as it was
as_far : (v w : View) (d : Step) → Less v w → w.stage ≡ v.stage → HasRoomForAnswer v → Holds v d w
as_far v w d less stage h = fewer_wait v w d less (λ asks. sym (ap is_asked stage) ∙ asks) h

-- the service doesn't have it, or its answer was handed on
none_has_it : (v w : View) (d : Step) → has_write_room v ≡ true → is_asked w.stage ≡ false → Holds v d w
none_has_it v w d some done = record { grows = inr (inl some); room = λ asks. clash (sym asks ∙ done) }

replied_so : (body : Giving) (size : BodySize) → is_asked (stage_replied body size) ≡ false
replied_so body NoBody = refl
replied_so body (Sized zero) = refl
replied_so body (Sized (suc n)) = refl
replied_so body Stream = refl

sent_so : (left : Giving) (piece : Piece) → is_asked (stage_sent left piece) ≡ false
sent_so left (Ready None) = refl
sent_so left (Ready (Some piece)) = refl
sent_so left Pending = refl

-- what the service has was not answered
asked_open : (s : Stage) → is_asked s ≡ true → is_unanswered_at s ≡ true
asked_open free is = absurd (cc is)
asked_open (waiting request) is = refl
asked_open (calling took) is = refl
asked_open (replying answer) is = refl
asked_open (goes_out body) is = absurd (cc is)

not_yet : (s : Stage) → is_waiting s ≡ true → is_asked s ≡ false
not_yet (waiting request) is = refl
not_yet free is = absurd (cc is)
not_yet (calling took) is = absurd (cc is)
not_yet (replying answer) is = absurd (cc is)
not_yet (goes_out body) is = absurd (cc is)

expired : (moment : ℕ) (expiry : Expiry) → expiry_of expiry ≡ on.expired ends.slow_request → HasExpired (ticked moment expiry)
expired moment expiries.None is = absurd (cc is)
expired moment (expiries.Expired end) is = tt
expired moment expiries.Abandoned is = absurd (cc is)

ticked_holds : (v w : View) (moment : ℕ) (expiry : Expiry) → Goes v.traced (on.tick moment) (Is (expiry_of expiry)) w.traced → w.stage ≡ v.stage → HasRoomForAnswer v
    → Holds v (ticked moment expiry) w
ticked_holds v w moment expiry goes stage h =
    let x = goes.steps h.tied.trace h.tied.stands in
    let k = v.traced.state.kept in
    let later = after_step (setting_of v.traced.state.settings) k w.traced.state.kept (on.tick moment) x.0 x.2.machine in
    by_tick x.2.machine.change later (ap (λ (y : Kept). is_some y.failed) x.2.machine.keeps) (sym x.1 ∙ x.2.machine.answers) (ticks (setting_of v.traced.state.settings) k (closing_by (setting_of v.traced.state.settings) k) moment x.2.machine.change x.2.machine.changes)
  where
    by_tick : (c : Change) → buffered w ≡ c.kept.buffered → is_some w.traced.state.kept.failed ≡ is_some c.kept.failed → expiry_of expiry ≡ c.outcome → Ticked v.traced.state.kept c → Holds v (ticked moment expiry) w
    by_tick c later fails is (inl same_bytes) =
        as_far v w (ticked moment expiry) (record { fewer = no_more (buffered w) (buffered v) (later ∙ same_bytes); settings = goes.settings }) stage h
    by_tick c later fails is (inr slow) = record {
      grows = inr (inr (expired moment expiry (is ∙ slow.0), closes_so (setting_of w.traced.state.settings) w.traced.state.kept (fails ∙ slow.2)));
      room = λ asks. clash (sym (asked_open w.stage asks) ∙ ap is_unanswered_at stage ∙ sym h.tied.tied ∙ slow.1);
    }

last_true : (a b : Bool) → (a && b) ≡ true → b ≡ true
last_true true b is = is
last_true false b is = absurd (cc is)

pub asks_in_room : (v w : View) (peer : PeerAddress) (head : NextHead) → IsStep v (next peer head) w → has_write_room v ≡ true
asks_in_room v w peer head is = last_true (allows_next v) (has_write_room v) is.2

-- a request that came waits for the service
none_asked : (request : Option Asking) → is_asked (stage_at request) ≡ false
none_asked None = refl
none_asked (Some request) = refl

-- an upgrade that is refused writes nothing
refused_less : (v w : View) (limit : ℕ) (error : HandshakeError) → Goes v.traced (on.accept limit) (Is (on.refused error)) w.traced → IsTied v → Less v w
refused_less v w limit error goes t =
    went v w (on.accept limit) (Is (on.refused error)) goes
    (λ out says m. no_more m.change.kept.buffered v.traced.state.kept.buffered
    (ap (λ (k : Kept). k.buffered) (refused_keeps (setting_of v.traced.state.settings) v.traced.state.kept w.traced.state.kept limit error out says m))) t

step_holds : (v w : View) (d : Step) → IsNoted d → IsStep v d w → HasRoomForAnswer v → Holds v d w
step_holds v w (ticked moment expiry) noted is h = ticked_holds v w moment expiry is.0 (ap (λ (x : View). x.stage) is.1) h
step_holds v w drained noted is h =
    as_far v w drained (same v w on.drain (Is on.done) is.0 (λ out m. by_change v.traced.state.kept.buffered m.change _ m.changes refl) h.tied) (ap (λ (x : View). x.stage) is.1) h
step_holds v w (written answer) noted is h = as_far v w (written answer) (wrote v w answer is.3 h.tied) (ap (λ (x : View). x.stage) is.4) h
step_holds v w (read came answer) noted is h = as_far v w (read came answer) (took v w came answer is.3 h.tied) (ap (λ (x : View). x.stage) is.4) h
step_holds v w (shut answer) noted is h = as_far v w (shut answer) (traced_less v w (ap (λ (x : View). x.traced) is.2)) (ap (λ (x : View). x.stage) is.2) h
step_holds v w (next peer head) noted is h = none_has_it v w (next peer head) (asks_in_room v w peer head is) (ap (λ (x : View). is_asked x.stage) is.4 ∙ none_asked (request_at peer head))
step_holds v w (closed end) noted is h =
    let set = setting_of v.traced.state.settings in
    let k = v.traced.state.kept in
    as_far v w (closed end) (same v w on.next (SaysNext is.3.0) is.3.1 (λ out m. ends_so set k (closing_by set k) (end_of end) m.change is.1 m.changes) h.tied) (ap (λ (x : View). x.stage) is.4) h
step_holds v w continued noted is h = none_has_it v w continued is.0.2 (ap (λ (x : View). is_asked x.stage) is.3 ∙ not_yet v.stage is.0.1)
step_holds v w (ready request answer) noted is h = in_room v w (ready request answer) (traced_less v w (ap (λ (x : View). x.traced) is.3)) is.0.3
step_holds v w (called request) noted is h = in_room v w (called request) (traced_less v w (ap (λ (x : View). x.traced) is.2.2)) is.0.3
step_holds v w (answered answer) noted is h =
    fewer_wait v w (answered answer) (traced_less v w (ap (λ (x : View). x.traced) is.same)) (λ asks. ap is_asked is.calls) h
step_holds v w (pulled piece) noted is h =
    as_far v w (pulled piece)
    (same v w on.pull (SaysPulled piece) is.1 (λ out m. pull_leaves v.traced.state.kept v.traced.state.kept.exchange m.change m.changes) h.tied)
    (ap (λ (x : View). x.stage) is.2) h
step_holds v w paused noted is h = as_far v w paused (traced_less v w (ap (λ (x : View). x.traced) is.4)) (ap (λ (x : View). x.stage) is.4) h
step_holds v w dropped noted is h =
    as_far v w dropped
    (same v w on.drop_body (Is on.done) is.2 (λ out m. by_change v.traced.state.kept.buffered m.change _ m.changes (drop_leaves v.traced.state.kept v.traced.state.kept.exchange)) h.tied)
    (ap (λ (x : View). x.stage) is.3) h
step_holds v w (replied answer) noted is h =
    none_has_it v w (replied answer) (h.room (ap is_asked is.1)) (ap (λ (x : View). is_asked x.stage) is.3 ∙ replied_so answer.body answer.body.size)
step_holds v w (sent piece) noted is h =
    none_has_it v w (sent piece) (leaves_room (setting_of v.traced.state.settings) v.traced.state.kept is.1.allowed)
    (ap (λ (x : View). is_asked x.stage) is.3 ∙ sent_so is.0 piece)
step_holds v w (failed event) noted is h = absurd noted
step_holds v w (failed_write count) noted is h = absurd noted
step_holds v w (failed_read came event) noted is h = absurd noted
step_holds v w (failed_fed bytes) noted is h = absurd noted
step_holds v w (failed_sent piece) noted is h = absurd noted
step_holds v w asked_to_drain noted is h = as_far v w asked_to_drain (traced_less v w (ap (λ (x : View). x.traced) is)) (ap (λ (x : View). x.stage) is) h
step_holds v w (asked_to_hold upgrades expects) noted is h = as_far v w (asked_to_hold upgrades expects) (traced_less v w (ap (λ (x : View). x.traced) is)) (ap (λ (x : View). x.stage) is) h
step_holds v w declined noted is h = as_far v w declined (traced_less v w (ap (λ (x : View). x.traced) is)) (ap (λ (x : View). x.stage) is) h
step_holds v w let_on noted is h = as_far v w let_on (traced_less v w (ap (λ (x : View). x.traced) is)) (ap (λ (x : View). x.stage) is) h
step_holds v w (turned_away request answer) noted is h = in_room v w (turned_away request answer) (traced_less v w (ap (λ (x : View). x.traced) is.2)) (refuses_in_room v is.0)
step_holds v w (refused limit error) noted is h = as_far v w (refused limit error) (refused_less v w limit error is.1 h.tied) (ap (λ (x : View). x.stage) is.2) h

-- ---- runs

run_holds : (v w : View) (steps : List Step) → AllNoted steps → IsRun v steps w → HasRoomForAnswer v → HasRoomForAnswer w
run_holds v w [] noted is h = subst HasRoomForAnswer (sym is) h
run_holds v w (d ∷ steps) noted is h =
    run_holds is.0 w steps noted.1 is.2
    (record { tied = step_ties v is.0 d noted.0 is.1 h.tied; room = (step_holds v is.0 d noted.0 is.1 h).room })

pub run_grows : (v u w : View) (steps : List Step) (step : Step) → AllNoted steps → IsNoted step → HasRoomForAnswer v → IsRun v steps u → IsStep u step w → GrowsInRoom u step w
run_grows v u w steps step all one h run is = (step_holds u w step one is (run_holds v u steps all run h)).grows

pub begun_room : (transport : Wiring) (service : Serving Asking Answer Answer) (settings : Settings) (peer : PeerAddress) (listens : Bool) → HasRoomForAnswer (view_begun transport service settings peer None listens)
begun_room transport service settings peer listens = record { tied = begun_tied transport service settings peer listens; room = λ asks. absurd (cc asks) }

pub begun_room_noted : (transport : Wiring) (service : Serving Asking Answer Answer) (settings : Settings) (peer : PeerAddress) (listens : Bool) → HasRoomForAnswer (view_begun transport service settings peer (Some []) listens)
begun_room_noted transport service settings peer listens = record { tied = begun_tied_noted transport service settings peer listens; room = λ asks. absurd (cc asks) }
