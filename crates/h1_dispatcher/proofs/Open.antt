-- Over every run the open request of the connection is the one that the dispatcher has at hand.
use Rattle.std.proofs.Common.{◌≡◌, ◌++◌, ℕ, zero, suc, Bool, true, false, Option, Some, None, is_some, List, [], ◌∷◌, Result, Ok, Err, inl, inr, refl, sym, ap, ◌∙◌, subst}
use Rattle.std.specs.Prelude.{not, ◌&&◌, ◌==◌, if◌then◌else◌, length}
use Rattle.std.proofs.Math.Dec.{eqb-suc-zero}
use Rattle.futures.specs.declared.task.Poll.{Poll}
use Rattle.futures.specs.declared.task.Poll.TheVariants.{Ready, Pending}
use Rattle.http_config.specs.Config.{Settings}
use Rattle.http_config.specs.declared.Failed.{Failed}
use Rattle.http_framing.specs.declared.body.size.BodySize.{BodySize}
use Rattle.http_framing.specs.declared.body.size.BodySize.TheVariants.{None as NoBody, Sized, Stream}
use Rattle.http_bodies.specs.Giving.{Giving, Piece}
use Rattle.http_bodies.specs.declared.body.fault.BodyFault.TheVariants.{Body, NoMemory}
use Rattle.http_services.specs.Lent as lent
use Rattle.http_services.specs.Serving.{Serving}
use Rattle.http_transport.specs.Peer.{PeerAddress}
use Rattle.http_transport.specs.Wiring.{Wiring}
use Rattle.model_h1.specs.Answer.{AnswerHead, shape_of, type_of}
use Rattle.model_h1.specs.Answer as answers
use Rattle.model_h1.specs.AnswerText.{interim_text}
use Rattle.model_h1.specs.End.{End}
use Rattle.model_h1.specs.Event as on
use Rattle.model_h1.specs.Request.{BodyKind, no_body, fixed_body, chunked_body, raw_body, too_large, Reading, head_is, faulty}
use Rattle.model_h1.specs.Setting.{Setting}
use Rattle.model_h1.specs.Sums as sums
use Rattle.model_h1.specs.Text.{answer_head_text}
use Rattle.model_state.specs.Kept.{Rest, no_rest, raw_rest, fixed_rest, chunks_rest, frames_rest, Reply, unanswered, sending, answered as complete, Exchange, Kept, Change, is_frames, is_unanswered, is_sending_body, whole_rest, rest_in, now}
use Rattle.model_state.specs.Local.{closing_by, allowed_by, waits_for_answer, is_answering, has_room}
use Rattle.model_state.specs.Body.{passing}
use Rattle.model_state.specs.Clock.{is_abandoned, is_slow, is_idle, expiring, ticking}
use Rattle.model_state.specs.Reply.{stated, completing, answering, sending_piece, ending_body}
use Rattle.model_state.specs.Change.{doing, doing_with, reading, exchange_at_end, ending_input, behind_head, without_head, IsUpcoming, IsNext, IsPulling}
use Rattle.model_state.specs.Change.{IsStep as Machine}
use Rattle.h1_payload.specs.Rests.{SaysPulled}
use Rattle.h1_encoder.specs.Meaning.{answer_of, size_of}
use Rattle.h1_connection.specs.Heads.{SaysNext}
use Rattle.h1_connection.specs.EventMeaning.{setting_of, end_of}
use Rattle.h1_connection.specs.State.{Is}
use Rattle.h1_connection.specs.Ticks.{expiry_of}
use Rattle.h1_connection.specs.declared.connection.heads.NextHead.{NextHead}
use Rattle.h1_connection.specs.declared.connection.heads.NextHead.TheVariants as next_head
use Rattle.h1_traced.specs.Traced.{TracedView, TracedStands}
use Rattle.h1_traced.proofs.TracedLaws.{fresh_traced, says_none, says_empty}
use Rattle.h1_dispatcher.specs.View.{View, Asking, Answer, Stage, waiting, calling, replying, sending as goes_out, is_unanswered as is_unanswered_at, is_sending, any_answer, view_begun}
use Rattle.h1_dispatcher.specs.Steps.{Step, Goes, Wrote, Took, IsStep, IsRun, request_at, stage_at, stage_asked, stage_answered, stage_replied, stage_sent, Sent, ticked, drained, written, read, shut, next, closed, continued, ready, called, answered, pulled, paused, dropped, replied, sent, failed, failed_write, failed_read, failed_fed, failed_sent, asked_to_drain, asked_to_hold, declined, let_on, turned_away, refused}
use Rattle.h1_dispatcher.specs.Traces.{IsNoted, AllNoted}
use Rattle.h1_dispatcher.specs.Open.{IsTied, StaysTied}
use Rattle.h1_dispatcher.proofs.Pulls.{pull_frames}
use Rattle.h1_dispatcher.proofs.Held.{refused_keeps}

-- ---- whether the last request is open and has no answer, and whether the body of its answer goes out

abbrev asks : Option Exchange → Bool × Bool
asks None = (false, false)
asks (Some x) = (is_unanswered x.reply && not (is_frames x.rest), is_sending_body x.reply)

abbrev asks_at : Stage → Bool × Bool
asks_at stage = (is_unanswered_at stage, is_sending stage)

waits_in : (k : Kept) (e : Option Exchange) → waits_for_answer (record k { exchange = e }) ≡ (asks e).0
waits_in k None = refl
waits_in k (Some x) = refl

sends_in : (k : Kept) (e : Option Exchange) → is_answering (record k { exchange = e }) ≡ (asks e).1
sends_in k None = refl
sends_in k (Some x) = refl

both : (x : Bool × Bool) (a b : Bool) → x.0 ≡ a → x.1 ≡ b → x ≡ (a, b)
both (c, d) a b is so = ap (λ (x : Bool). (x, d)) is ∙ ap (λ (x : Bool). (a, x)) so

-- by the machine's questions
was_so : (v : View) → IsTied v → asks v.traced.state.kept.exchange ≡ asks_at v.stage
was_so v t =
    let k = v.traced.state.kept in
    both (asks k.exchange) (is_unanswered_at v.stage) (is_sending v.stage) (sym (waits_in k k.exchange) ∙ t.tied) (sym (sends_in k k.exchange) ∙ t.sends)

-- a step changes what its change says
after_step : (set : Setting) (k later : Kept) (event : on.Event) (out : on.Outcome) (m : Machine set k event out later) → later.exchange ≡ m.change.kept.exchange
after_step set k later event out m = ap (λ (x : Kept). x.exchange) m.keeps

by_change : (e : Option Exchange) (c d : Change) → c ≡ d → asks d.kept.exchange ≡ asks e → asks c.kept.exchange ≡ asks e
by_change e c d is same = ap (λ (x : Change). asks x.kept.exchange) is ∙ same

-- ---- bodies that are passed

passing_reply : (k : Kept) (x : Exchange) (r : Reply) → asks (passing (record k { exchange = Some (record x { reply = r }) })).exchange ≡ asks (Some (record x { reply = r }))
unfolding passing
passing_reply k x unanswered = refl
passing_reply k x (sending shape kind missing) = refl
passing_reply k x (complete kind) = refl

passing_in : (k : Kept) (e : Option Exchange) → asks (passing (record k { exchange = e })).exchange ≡ asks e
unfolding passing
passing_in k None = refl
passing_in k (Some x) = passing_reply k x x.reply

passing_asks : (k : Kept) → asks (passing k).exchange ≡ asks k.exchange
passing_asks k = passing_in k k.exchange

frames_at_end : (bytes : List ℕ) (rest : Rest) → is_frames (rest_in true bytes rest) ≡ is_frames rest
frames_at_end [] no_rest = refl
frames_at_end [] raw_rest = refl
frames_at_end [] (fixed_rest n) = refl
frames_at_end [] (chunks_rest place section) = refl
frames_at_end [] (frames_rest under_way limit) = refl
frames_at_end (b ∷ bytes) no_rest = refl
frames_at_end (b ∷ bytes) raw_rest = refl
frames_at_end (b ∷ bytes) (fixed_rest n) = refl
frames_at_end (b ∷ bytes) (chunks_rest place section) = refl
frames_at_end (b ∷ bytes) (frames_rest under_way limit) = refl

asks_at_end : (bytes : List ℕ) (e : Option Exchange) → asks (exchange_at_end bytes e) ≡ asks e
asks_at_end bytes None = refl
asks_at_end bytes (Some x) = ap (λ b. (is_unanswered x.reply && not b, is_sending_body x.reply)) (frames_at_end bytes x.rest)

-- ---- a moment

by_test : (b : Bool) (x y : Change) (e : Option Exchange) → x.kept.exchange ≡ e → y.kept.exchange ≡ e → (if b then x else y).kept.exchange ≡ e
by_test true x y e is so = is
by_test false x y e is so = so

expires : (set : Setting) (k : Kept) (closing : Option End) (first ms : ℕ) → (expiring set k closing first ms).kept.exchange ≡ k.exchange
expires set k (Some end) first ms = by_test (is_abandoned set k first ms) _ _ k.exchange refl refl
expires set k None first ms = by_test (is_slow set k first ms) _ _ k.exchange refl (by_test (is_idle set k first ms) _ _ k.exchange refl refl)

-- ---- a head

-- a request was handed out
abbrev pub hands_out : on.Outcome → Bool × Bool
hands_out (on.head h) = (true, false)
hands_out out = (false, false)

new_rest : (body : BodyKind) → is_frames (whole_rest body) ≡ false
new_rest no_body = refl
new_rest (fixed_body n) = by_zero (n == 0)
  where
    by_zero : (b : Bool) → is_frames (if b then no_rest else fixed_rest n) ≡ false
    by_zero true = refl
    by_zero false = refl
new_rest chunked_body = refl
new_rest raw_body = refl

frames_in : (ended : Bool) (bytes : List ℕ) (rest : Rest) → is_frames (rest_in ended bytes rest) ≡ is_frames rest
frames_in true bytes rest = frames_at_end bytes rest
frames_in false bytes rest = refl

behind : (k : Kept) (end : ℕ) (what : Reading) → asks k.exchange ≡ (false, false) → asks (behind_head k end what).kept.exchange ≡ hands_out (behind_head k end what).outcome
behind k end (faulty f) none = none
behind k end (head_is h) none = ap (λ b. (not b, false)) (frames_in k.has_ended _ (whole_rest h.body) ∙ new_rest h.body)

without : (set : Setting) (k : Kept) → asks k.exchange ≡ (false, false) → asks (without_head set k).kept.exchange ≡ hands_out (without_head set k).outcome
without set k none = by_full (length k.unread == set.hold_size)
  where
    by_full : (b : Bool) → asks (if b then behind_head k 0 (faulty too_large) else record { outcome = on.pending; kept = k }).kept.exchange
        ≡ hands_out (if b then behind_head k 0 (faulty too_large) else record { outcome = on.pending; kept = k }).outcome
    by_full true = none
    by_full false = none

says_so : (c d : Change) → c ≡ d → asks d.kept.exchange ≡ hands_out d.outcome → asks c.kept.exchange ≡ hands_out c.outcome
says_so c d is so = subst (λ (x : Change). asks x.kept.exchange ≡ hands_out x.outcome) (sym is) so

upcoming : (set : Setting) (k : Kept) (coming : Bool) (c : Change) → asks k.exchange ≡ (false, false) → IsUpcoming set k coming c → asks c.kept.exchange ≡ hands_out c.outcome
upcoming set k false c none is = says_so c (without_head set k) is (without set k none)
upcoming set k true c none is = says_so c (behind_head k is.1 is.2) is.5 (behind k is.1 is.2 none)

nexts : (set : Setting) (k : Kept) (closing : Option End) (c : Change) → asks k.exchange ≡ (false, false) → IsNext set k closing c → asks c.kept.exchange ≡ hands_out c.outcome
nexts set k (Some end) c none is = says_so c _ is none
nexts set k None c none is = upcoming set k k.is_coming c none is

ends_so : (set : Setting) (k : Kept) (closing : Option End) (end : End) (c : Change) → closing ≡ Some end → IsNext set k closing c → asks c.kept.exchange ≡ asks k.exchange
ends_so set k (Some other) end c closes is = by_change k.exchange c _ is refl
ends_so set k None end c closes is = absurd (cc closes)

pub busy_at : (peer : PeerAddress) (head : NextHead) (out : on.Outcome) → SaysNext head out → hands_out out ≡ asks_at (stage_at (request_at peer head))
busy_at peer (next_head.Head item) out says = ap hands_out says.2
busy_at peer (next_head.Fault fault) out says = ap hands_out says
busy_at peer next_head.Pending out says = ap hands_out says
busy_at peer (next_head.Closed end) out says = ap hands_out says

-- ---- an answer, and its body

answers_by : (set : Setting) (head : AnswerHead) (size : answers.BodySize) (k : Kept) (x : Exchange) (at_once : Bool)
    → (later : Kept) → asks (if at_once then completing (type_of set k.is_draining x.asked head size) x later
    else record later { exchange = Some (record x { reply = sending (shape_of x.asked head size) (type_of set k.is_draining x.asked head size) (stated (shape_of x.asked head size)) }) }).exchange ≡ (false, not at_once)
answers_by set head size k x true later = passing_asks _
answers_by set head size k x false later = refl

-- where there is a request to answer
answers_in : (set : Setting) (head : AnswerHead) (size : answers.BodySize) (k : Kept) (e : Option Exchange) → (asks e).0 ≡ true → asks (doing_with (answering set head size) (record k { exchange = e })).kept.exchange ≡ (false, not (answers.is_at_once size))
answers_in set head size k None asked = absurd (cc asked)
answers_in set head size k (Some x) asked =
    answers_by set head size (record k { exchange = Some x }) x (answers.is_at_once size)
    (record k { buffered = k.buffered ++ answer_head_text set k.is_draining x.asked head size (now k); exchange = Some x })

-- a piece, and the end of the body of an answer
asks_sent : (x : Exchange) (r : Reply) (k : Kept) (bytes : List ℕ) → asks (sending_piece bytes (record x { reply = r }) (record k { exchange = Some (record x { reply = r }) })).exchange ≡ asks (Some (record x { reply = r }))
asks_sent x unanswered k bytes = refl
asks_sent x (sending shape kind missing) k bytes = refl
asks_sent x (complete kind) k bytes = refl

pieces_in : (bytes : List ℕ) (k : Kept) (e : Option Exchange) → asks (doing_with (sending_piece bytes) (record k { exchange = e })).kept.exchange ≡ asks e
pieces_in bytes k None = refl
pieces_in bytes k (Some x) = asks_sent x x.reply k bytes

asks_ended : (x : Exchange) (r : Reply) (k : Kept) → is_sending_body r ≡ true
    → asks (ending_body (record x { reply = r }) (record k { exchange = Some (record x { reply = r }) })).exchange ≡ (false, false)
asks_ended x unanswered k goes = absurd (cc goes)
asks_ended x (sending shape kind missing) k goes = passing_asks _
asks_ended x (complete kind) k goes = absurd (cc goes)

-- where a body goes out
ends_in : (k : Kept) (e : Option Exchange) → (asks e).1 ≡ true → asks (doing_with ending_body (record k { exchange = e })).kept.exchange ≡ (false, false)
ends_in k None goes = absurd (cc goes)
ends_in k (Some x) goes = asks_ended x x.reply k goes

goes_ahead_in : (k : Kept) (bytes : List ℕ) (e : Option Exchange) → asks (doing_with (λ x k. record k { buffered = k.buffered ++ bytes; exchange = Some (record x { had_continue = true }) }) (record k { exchange = e })).kept.exchange ≡ asks e
goes_ahead_in k bytes None = refl
goes_ahead_in k bytes (Some x) = refl

drops_in : (k : Kept) (e : Option Exchange) → asks (doing_with (λ x k. record k { exchange = Some (record x { was_dropped = true }) }) (record k { exchange = e })).kept.exchange ≡ asks e
drops_in k None = refl
drops_in k (Some x) = refl

-- more of a body
pulls_asks : (k : Kept) (e : Option Exchange) (c : Change) → IsPulling (record k { exchange = e }) e c → asks c.kept.exchange ≡ asks e
pulls_asks k None c is = by_change None c _ is refl
pulls_asks k (Some x) c is =
    by_change (Some x) c _ is.2 (ap (λ b. (is_unanswered x.reply && not b, is_sending_body x.reply)) (pull_frames k.has_ended x.rest k.unread is.0 is.1))

-- ---- steps

still : (v w : View) → w.traced ≡ v.traced → asks_at w.stage ≡ asks_at v.stage → IsTied v → IsTied w
still v w traced stage t = record {
  trace = t.trace;
  stands = subst (λ (l : TracedView). TracedStands l t.trace) (sym traced) t.stands;
  tied = ap (λ (l : TracedView). waits_for_answer l.state.kept) traced ∙ t.tied ∙ ap (λ (x : Bool × Bool). x.0) (sym stage);
  sends = ap (λ (l : TracedView). is_answering l.state.kept) traced ∙ t.sends ∙ ap (λ (x : Bool × Bool). x.1) (sym stage);
}

went : (v w : View) (event : on.Event) (Says : on.Outcome → Type 0) → Goes v.traced event Says w.traced
    → ((out : on.Outcome) → Says out → (m : Machine (setting_of v.traced.state.settings) v.traced.state.kept event out w.traced.state.kept)
    → asks v.traced.state.kept.exchange ≡ asks_at v.stage → asks m.change.kept.exchange ≡ asks_at w.stage)
    → IsTied v → IsTied w
went v w event Says goes so t =
    let x = goes.steps t.trace t.stands in
    let s : sums.Step = record { event = event; outcome = x.0 } in
    let k = v.traced.state.kept in
    let later = w.traced.state.kept in
    let is = ap asks (after_step (setting_of v.traced.state.settings) k later event x.0 x.2.machine) ∙ so x.0 x.1 x.2.machine (was_so v t) in
    record {
      trace = s ∷ t.trace;
      stands = x.2.stands;
      tied = waits_in later later.exchange ∙ ap (λ (x : Bool × Bool). x.0) is;
      sends = sends_in later later.exchange ∙ ap (λ (x : Bool × Bool). x.1) is;
    }

-- the request stays as it is
same : (v w : View) (event : on.Event) (Says : on.Outcome → Type 0) → Goes v.traced event Says w.traced → w.stage ≡ v.stage
    → ((out : on.Outcome) → (m : Machine (setting_of v.traced.state.settings) v.traced.state.kept event out w.traced.state.kept)
    → asks m.change.kept.exchange ≡ asks v.traced.state.kept.exchange)
    → IsTied v → IsTied w
same v w event Says goes stage so t = went v w event Says goes (λ out says m was. so out m ∙ was ∙ ap asks_at (sym stage)) t

wrote : (v w : View) (answer : Poll (Result ℕ Failed)) → Wrote v.traced w.traced answer → w.stage ≡ v.stage → IsTied v → IsTied w
wrote v w (Ready (Ok n)) goes stage t = same v w (on.write n) _ goes.1 stage (λ out m. by_change _ _ _ m.changes refl) t
wrote v w (Ready (Err e)) traced stage t = still v w traced (ap asks_at stage) t
wrote v w Pending traced stage t = still v w traced (ap asks_at stage) t

took : (v w : View) (came : List ℕ) (answer : Poll (Result ℕ Failed)) → Took v.traced w.traced came answer → w.stage ≡ v.stage → IsTied v → IsTied w
took v w came (Ready (Ok n)) (inl end) stage t =
    same v w on.eof (Is on.done) end.1 stage
    (λ out m. by_change _ _ (doing (ending_input v.traced.state.kept)) m.changes (passing_asks _ ∙ asks_at_end v.traced.state.kept.unread v.traced.state.kept.exchange)) t
took v w came (Ready (Ok n)) (inr some) stage t =
    same v w (on.read came) _ some.1.1 stage
    (λ out m. by_change _ _ (reading (setting_of v.traced.state.settings) came v.traced.state.kept) m.changes (passing_asks _)) t
took v w came (Ready (Err e)) traced stage t = still v w traced (ap asks_at stage) t
took v w came Pending traced stage t = still v w traced (ap asks_at stage) t

asked_busy : (request : Asking) (answer : Poll (Result Unit Answer)) → asks_at (stage_asked request answer) ≡ (true, false)
asked_busy request (Ready (Ok x)) = refl
asked_busy request (Ready (Err e)) = refl
asked_busy request Pending = refl

answered_busy : (more : Option lent.Took) (answer : Poll (Result Answer Answer)) → asks_at (stage_answered more answer) ≡ (true, false)
answered_busy more (Ready (Ok x)) = refl
answered_busy more (Ready (Err e)) = refl
answered_busy more Pending = refl

both_busy : (v w : View) (before after : Stage) → v.stage ≡ before → w.stage ≡ after → asks_at before ≡ (true, false) → asks_at after ≡ (true, false) → asks_at w.stage ≡ asks_at v.stage
both_busy v w before after was now busy_before busy_after = ap asks_at now ∙ busy_after ∙ sym (ap asks_at was ∙ busy_before)

-- the body goes out exactly where the connection waits for it
replied_so : (body : Giving) (size : BodySize) → asks_at (stage_replied body size) ≡ (false, not (answers.is_at_once (size_of size)))
replied_so body NoBody = refl
replied_so body (Sized zero) = refl
replied_so body (Sized (suc n)) = ap (λ b. (false, not b)) (sym (eqb-suc-zero n))
replied_so body Stream = refl

replies : (v w : View) (answer : Answer) → v.stage ≡ replying answer → Goes v.traced (on.answer (answer_of answer.head) (size_of answer.body.size)) (Is on.done) w.traced
    → w.stage ≡ stage_replied answer.body answer.body.size → IsTied v → IsTied w
replies v w answer was goes now t =
    let k = v.traced.state.kept in
    went v w _ (Is on.done) goes
    (λ out says m before. ap (λ (x : Change). asks x.kept.exchange) m.changes
    ∙ answers_in (setting_of v.traced.state.settings) (answer_of answer.head) (size_of answer.body.size) k k.exchange (ap (λ (x : Bool × Bool). x.0) (before ∙ ap asks_at was))
    ∙ sym (replied_so answer.body answer.body.size) ∙ ap asks_at (sym now)) t

-- a piece, or what failed: the body still goes out
goes_on : (v w : View) (event : on.Event) (body left : Giving) → v.stage ≡ goes_out body → w.stage ≡ goes_out left → Goes v.traced event (Is on.done) w.traced
    → ((out : on.Outcome) → (m : Machine (setting_of v.traced.state.settings) v.traced.state.kept event out w.traced.state.kept)
    → asks m.change.kept.exchange ≡ asks v.traced.state.kept.exchange)
    → IsTied v → IsTied w
goes_on v w event body left was now is so t = went v w event (Is on.done) is (λ out says m before. so out m ∙ before ∙ ap asks_at was ∙ ap asks_at (sym now)) t

sends : (v w : View) (piece : Piece) (body left : Giving) → v.stage ≡ goes_out body → w.stage ≡ stage_sent left piece → Sent v.traced w.traced piece → IsTied v → IsTied w
sends v w (Ready None) body left was now is t =
    let k = v.traced.state.kept in
    went v w on.body_end (Is on.done) is
    (λ out says m before. ap (λ (x : Change). asks x.kept.exchange) m.changes ∙ ends_in k k.exchange (ap (λ (x : Bool × Bool). x.1) (before ∙ ap asks_at was)) ∙ ap asks_at (sym now)) t
sends v w (Ready (Some (Ok bytes))) body left was now is t =
    goes_on v w (on.chunk bytes) body left was now is (λ out m. by_change _ _ _ m.changes (pieces_in bytes v.traced.state.kept v.traced.state.kept.exchange)) t
sends v w (Ready (Some (Err (Body n)))) body left was now is t = goes_on v w on.body_error body left was now is (λ out m. by_change _ _ _ m.changes refl) t
sends v w (Ready (Some (Err NoMemory))) body left was now is t = absurd is
sends v w Pending body left was now is t = still v w is (ap asks_at now ∙ sym (ap asks_at was)) t

pub step_ties : (v w : View) (d : Step) → IsNoted d → IsStep v d w → IsTied v → IsTied w
step_ties v w (ticked moment expiry) noted is t =
    same v w (on.tick moment) (Is (expiry_of expiry)) is.0 (ap (λ (x : View). x.stage) is.1)
    (λ out m. by_change _ _ (ticking (setting_of v.traced.state.settings) v.traced.state.kept (closing_by (setting_of v.traced.state.settings) v.traced.state.kept) moment) m.changes
    (ap asks (expires (setting_of v.traced.state.settings) v.traced.state.kept (closing_by (setting_of v.traced.state.settings) v.traced.state.kept) _ moment))) t
step_ties v w drained noted is t = same v w on.drain (Is on.done) is.0 (ap (λ (x : View). x.stage) is.1) (λ out m. by_change _ _ _ m.changes refl) t
step_ties v w (written answer) noted is t = wrote v w answer is.3 (ap (λ (x : View). x.stage) is.4) t
step_ties v w (read came answer) noted is t = took v w came answer is.3 (ap (λ (x : View). x.stage) is.4) t
step_ties v w (shut answer) noted is t = still v w (ap (λ (x : View). x.traced) is.2) (ap (λ (x : View). asks_at x.stage) is.2) t
step_ties v w (next peer head) noted is t =
    went v w on.next (SaysNext head) is.3
    (λ out says m was. nexts (setting_of v.traced.state.settings) v.traced.state.kept (closing_by (setting_of v.traced.state.settings) v.traced.state.kept) m.change (was ∙ ap asks_at is.1) m.changes
    ∙ ap hands_out (sym m.answers) ∙ busy_at peer head out says ∙ ap (λ (x : View). asks_at x.stage) (sym is.4)) t
step_ties v w (closed end) noted is t =
    same v w on.next (SaysNext is.3.0) is.3.1 (ap (λ (x : View). x.stage) is.4)
    (λ out m. ends_so (setting_of v.traced.state.settings) v.traced.state.kept (closing_by (setting_of v.traced.state.settings) v.traced.state.kept) (end_of end) m.change is.1 m.changes) t
step_ties v w continued noted is t =
    same v w on.send_continue (Is on.done) is.2 (ap (λ (x : View). x.stage) is.3)
    (λ out m. by_change _ _ _ m.changes (goes_ahead_in v.traced.state.kept interim_text v.traced.state.kept.exchange)) t
step_ties v w (ready request answer) noted is t =
    still v w (ap (λ (x : View). x.traced) is.3)
    (both_busy v w (waiting request) (stage_asked request answer) is.0.1 (ap (λ (x : View). x.stage) is.3) refl (asked_busy request answer)) t
step_ties v w (called request) noted is t =
    still v w (ap (λ (x : View). x.traced) is.2.2) (both_busy v w (waiting request) (calling is.2.0) is.0.1 (ap (λ (x : View). x.stage) is.2.2) refl refl) t
step_ties v w (answered answer) noted is t =
    still v w (ap (λ (x : View). x.traced) is.same) (both_busy v w (calling is.took) (stage_answered is.more answer) is.calls (ap (λ (x : View). x.stage) is.same) refl (answered_busy is.more answer)) t
step_ties v w (pulled piece) noted is t =
    same v w on.pull (SaysPulled piece) is.1 (ap (λ (x : View). x.stage) is.2)
    (λ out m. pulls_asks v.traced.state.kept v.traced.state.kept.exchange m.change m.changes) t
step_ties v w paused noted is t = still v w (ap (λ (x : View). x.traced) is.4) (ap (λ (x : View). asks_at x.stage) is.4) t
step_ties v w dropped noted is t =
    same v w on.drop_body (Is on.done) is.2 (ap (λ (x : View). x.stage) is.3)
    (λ out m. by_change _ _ _ m.changes (drops_in v.traced.state.kept v.traced.state.kept.exchange)) t
step_ties v w (replied answer) noted is t = replies v w answer is.1 is.2 (ap (λ (x : View). x.stage) is.3) t
step_ties v w (sent piece) noted is t = sends v w piece is.1.body is.0 is.1.goes_out (ap (λ (x : View). x.stage) is.3) is.2 t
step_ties v w (failed event) noted is t = absurd noted
step_ties v w (failed_write count) noted is t = absurd noted
step_ties v w (failed_read came event) noted is t = absurd noted
step_ties v w (failed_fed bytes) noted is t = absurd noted
step_ties v w (failed_sent piece) noted is t = absurd noted
step_ties v w asked_to_drain noted is t = still v w (ap (λ (x : View). x.traced) is) (ap (λ (x : View). asks_at x.stage) is) t
step_ties v w (asked_to_hold upgrades expects) noted is t = still v w (ap (λ (x : View). x.traced) is) (ap (λ (x : View). asks_at x.stage) is) t
step_ties v w declined noted is t = still v w (ap (λ (x : View). x.traced) is) (ap (λ (x : View). asks_at x.stage) is) t
step_ties v w let_on noted is t = still v w (ap (λ (x : View). x.traced) is) (ap (λ (x : View). asks_at x.stage) is) t
step_ties v w (turned_away request answer) noted is t =
    still v w (ap (λ (x : View). x.traced) is.2) (both_busy v w (waiting request) (replying answer) is.1 (ap (λ (x : View). x.stage) is.2) refl refl) t
step_ties v w (refused limit error) noted is t =
    went v w (on.accept limit) (Is (on.refused error)) is.1
    (λ out says m was. ap (λ (x : Kept). asks x.exchange) (refused_keeps (setting_of v.traced.state.settings) v.traced.state.kept w.traced.state.kept limit error out says m)
    ∙ was ∙ ap (λ (x : View). asks_at x.stage) (sym is.2)) t

run_ties : (v w : View) (steps : List Step) → AllNoted steps → IsRun v steps w → IsTied v → IsTied w
run_ties v w [] noted is t = subst IsTied (sym is) t
run_ties v w (d ∷ steps) noted is t = run_ties is.0 w steps noted.1 is.2 (step_ties v is.0 d noted.0 is.1 t)

-- an answer is allowed only where the open request waits for one
allowed_waits : (over closing waits : Bool) → (not over && (if closing then false else waits)) ≡ true → waits ≡ true
allowed_waits false false true is = refl
allowed_waits false false false is = absurd (cc is)
allowed_waits false true waits is = absurd (cc is)
allowed_waits true closing waits is = absurd (cc is)

waits_where : (set : Setting) (k : Kept) → allowed_by set k any_answer ≡ true → waits_for_answer k ≡ true
unfolding allowed_by
waits_where set k is = allowed_waits k.is_over _ (waits_for_answer k) is

-- and a piece of a body is allowed where there is room, while the connection goes on
only_room : (over closing answering room : Bool) → over ≡ false → closing ≡ false → answering ≡ true → (not over && (if closing then false else (answering && room))) ≡ room
only_room false false true room going runs goes = refl
only_room true closing answering room going runs goes = absurd (cc going)
only_room false true answering room going runs goes = absurd (cc runs)
only_room false false false room going runs goes = absurd (cc goes)

room_where : (set : Setting) (k : Kept) → k.is_over ≡ false → is_some (closing_by set k) ≡ false → is_answering k ≡ true → allowed_by set k (on.chunk []) ≡ has_room set k
unfolding allowed_by
room_where set k going runs goes = only_room k.is_over (is_some (closing_by set k)) (is_answering k) (has_room set k) going runs goes

pub run_stays : (v w : View) (steps : List Step) → AllNoted steps → IsRun v steps w → IsTied v → StaysTied w
run_stays v w steps noted is t =
    let x = run_ties v w steps noted is t in
    let set = setting_of w.traced.state.settings in
    let k = w.traced.state.kept in
    record {
      tied = x;
      busy = λ allowed. sym x.tied ∙ waits_where set k allowed;
      polled = λ going runs body. room_where set k going runs (x.sends ∙ body);
    }

-- ---- a new dispatcher

pub begun_tied : (transport : Wiring) (service : Serving Asking Answer Answer) (settings : Settings) (peer : PeerAddress) (listens : Bool) → IsTied (view_begun transport service settings peer None listens)
begun_tied transport service settings peer listens = record { trace = []; stands = fresh_traced settings None listens (says_none None [] refl); tied = refl; sends = refl }

pub begun_tied_noted : (transport : Wiring) (service : Serving Asking Answer Answer) (settings : Settings) (peer : PeerAddress) (listens : Bool) → IsTied (view_begun transport service settings peer (Some []) listens)
begun_tied_noted transport service settings peer listens = record { trace = []; stands = fresh_traced settings (Some []) listens (says_empty (Some []) refl); tied = refl; sends = refl }
