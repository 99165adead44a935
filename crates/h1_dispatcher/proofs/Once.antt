-- A body of a request has at most one fault.
use Rattle.std.proofs.Common.{◌≡◌, ◌≤◌, ◌⊎◌, ◌++◌, ℕ, Bool, true, false, Option, Some, None, is_some, List, [], ◌∷◌, length, Result, Ok, Err, inl, inr, refl, sym, ap, ◌∙◌, subst, arith}
use Rattle.std.specs.Prelude.{not, ◌&&◌, ◌||◌, ◌==◌, if◌then◌else◌}
use Rattle.futures.specs.declared.task.Poll.{Poll}
use Rattle.futures.specs.declared.task.Poll.TheVariants.{Ready, Pending}
use Rattle.http_config.specs.declared.Failed.{Failed}
use Rattle.http_types.specs.declared.error.PayloadError.{PayloadError}
use Rattle.http_bodies.specs.Giving.{Piece}
use Rattle.http_bodies.specs.declared.body.fault.BodyFault.TheVariants.{Body, NoMemory}
use Rattle.model_h1.specs.Place.{Place}
use Rattle.model_h1.specs.TakeNext.{Next, chunk, waits, ended, breaks, take_next}
use Rattle.model_h1.specs.Answer.{AnswerHead, BodySize, shape_of, type_of, is_at_once}
use Rattle.model_h1.specs.AnswerText.{interim_text}
use Rattle.model_h1.specs.End.{End}
use Rattle.model_h1.specs.Event as on
use Rattle.model_h1.specs.FrameText.{Front, partial, whole, breaks as breaks_rule, front_frame}
use Rattle.model_h1.specs.Parse.{connection_reader}
use Rattle.model_h1.specs.Request.{Reading, head_is, faulty, too_large}
use Rattle.model_h1.specs.Setting.{Setting}
use Rattle.model_h1.specs.Sums as sums
use Rattle.model_h1.specs.Text.{answer_head_text}
use Rattle.model_state.specs.Kept.{Rest, no_rest, raw_rest, fixed_rest, chunks_rest, frames_rest, Reply, unanswered, sending, answered as complete, Exchange, Kept, Change, is_open, is_upgraded, now}
use Rattle.model_state.specs.Local.{closing_by, allowed_by, has_body_left}
use Rattle.model_state.specs.Body.{passing}
use Rattle.model_state.specs.Clock.{is_abandoned, is_slow, is_idle, expiring, ticking}
use Rattle.model_state.specs.Pull.{Pulled as Pull, gives, finishes, lacking, pull_fixed, pull_raw, pull_front, EndsWith, IsPullOfChunks, IsPull}
use Rattle.model_state.specs.Reply.{stated, completing, answering, sending_piece, ending_body}
use Rattle.model_state.specs.Change.{doing, doing_with, reading, exchange_at_end, ending_input, behind_head, without_head, IsUpcoming, IsNext, IsPulling}
use Rattle.model_state.specs.Change.{IsStep as Machine}
use Rattle.h1_payload.specs.Rests.{SaysPulled}
use Rattle.h1_payload.specs.declared.pulled.Pulled.{Pulled}
use Rattle.h1_payload.specs.declared.pulled.Pulled.TheVariants as pieces
use Rattle.h1_encoder.specs.Meaning.{answer_of, size_of}
use Rattle.h1_connection.specs.Heads.{SaysNext}
use Rattle.h1_connection.specs.EventMeaning.{setting_of, end_of}
use Rattle.h1_connection.specs.State.{Is}
use Rattle.h1_connection.specs.Ticks.{expiry_of}
use Rattle.h1_connection.specs.declared.connection.heads.NextHead.{NextHead}
use Rattle.h1_connection.specs.declared.connection.heads.NextHead.TheVariants as next_head
use Rattle.h1_traced.specs.Traced.{TracedView, TracedStands}
use Rattle.h1_dispatcher.specs.View.{View, is_awaiting, allows, allows_answer, awaits_body}
use Rattle.h1_dispatcher.specs.Steps.{Step, Goes, Wrote, Took, Sent, IsStep, IsRun, error_of, ticked, drained, written, read, shut, next, closed, continued, ready, called, answered, pulled, paused, dropped, replied, sent, failed, failed_write, failed_read, failed_fed, failed_sent, asked_to_drain, asked_to_hold, declined, let_on, turned_away, refused}
use Rattle.h1_dispatcher.specs.Traces.{IsNoted, AllNoted}
use Rattle.h1_dispatcher.specs.Feeds.{CameBody, with_piece, body_at, step_body, body_after}
use Rattle.h1_dispatcher.proofs.Held.{refused_keeps}

-- ---- whether a pull has told the end or the fault of the last request's body

abbrev is_done : Option Exchange → Bool
is_done None = false
is_done (Some x) = x.body_is_done

after_step : (set : Setting) (k later : Kept) (event : on.Event) (out : on.Outcome) (m : Machine set k event out later) → later.exchange ≡ m.change.kept.exchange
after_step set k later event out m = ap (λ (x : Kept). x.exchange) m.keeps

by_change : (e : Option Exchange) (c d : Change) → c ≡ d → is_done d.kept.exchange ≡ is_done e → is_done c.kept.exchange ≡ is_done e
by_change e c d is same = ap (λ (x : Change). is_done x.kept.exchange) is ∙ same

-- ---- what an event leaves

passing_reply : (k : Kept) (x : Exchange) (r : Reply) → is_done (passing (record k { exchange = Some (record x { reply = r }) })).exchange ≡ x.body_is_done
unfolding passing
passing_reply k x unanswered = refl
passing_reply k x (sending shape kind missing) = refl
passing_reply k x (complete kind) = refl

passing_in : (k : Kept) (e : Option Exchange) → is_done (passing (record k { exchange = e })).exchange ≡ is_done e
unfolding passing
passing_in k None = refl
passing_in k (Some x) = passing_reply k x x.reply

passing_leaves : (k : Kept) → is_done (passing k).exchange ≡ is_done k.exchange
passing_leaves k = passing_in k k.exchange

end_leaves : (bytes : List ℕ) (e : Option Exchange) → is_done (exchange_at_end bytes e) ≡ is_done e
end_leaves bytes None = refl
end_leaves bytes (Some x) = refl

by_test : (b : Bool) (x y : Change) (e : Option Exchange) → x.kept.exchange ≡ e → y.kept.exchange ≡ e → (if b then x else y).kept.exchange ≡ e
by_test true x y e is so = is
by_test false x y e is so = so

expires : (set : Setting) (k : Kept) (closing : Option End) (first ms : ℕ) → (expiring set k closing first ms).kept.exchange ≡ k.exchange
expires set k (Some end) first ms = by_test (is_abandoned set k first ms) _ _ k.exchange refl refl
expires set k None first ms = by_test (is_slow set k first ms) _ _ k.exchange refl (by_test (is_idle set k first ms) _ _ k.exchange refl refl)

continue_leaves : (k : Kept) (bytes : List ℕ) (e : Option Exchange) → is_done (doing_with (λ x k. record k { buffered = k.buffered ++ bytes; exchange = Some (record x { had_continue = true }) }) (record k { exchange = e })).kept.exchange ≡ is_done e
continue_leaves k bytes None = refl
continue_leaves k bytes (Some x) = refl

drop_leaves : (k : Kept) (e : Option Exchange) → is_done (doing_with (λ x k. record k { exchange = Some (record x { was_dropped = true }) }) (record k { exchange = e })).kept.exchange ≡ is_done e
drop_leaves k None = refl
drop_leaves k (Some x) = refl

answers_by : (set : Setting) (head : AnswerHead) (size : BodySize) (k : Kept) (x : Exchange) (at_once : Bool)
    → (later : Kept) → is_done (if at_once then completing (type_of set k.is_draining x.asked head size) x later
    else record later { exchange = Some (record x { reply = sending (shape_of x.asked head size) (type_of set k.is_draining x.asked head size) (stated (shape_of x.asked head size)) }) }).exchange ≡ x.body_is_done
answers_by set head size k x true later = passing_leaves _
answers_by set head size k x false later = refl

answer_leaves : (set : Setting) (head : AnswerHead) (size : BodySize) (k : Kept) (e : Option Exchange) → is_done (doing_with (answering set head size) (record k { exchange = e })).kept.exchange ≡ is_done e
answer_leaves set head size k None = refl
answer_leaves set head size k (Some x) =
    answers_by set head size (record k { exchange = Some x }) x (is_at_once size)
    (record k { buffered = k.buffered ++ answer_head_text set k.is_draining x.asked head size (now k); exchange = Some x })

piece_by : (x : Exchange) (r : Reply) (k : Kept) (bytes : List ℕ) → is_done (sending_piece bytes (record x { reply = r }) (record k { exchange = Some (record x { reply = r }) })).exchange ≡ x.body_is_done
piece_by x unanswered k bytes = refl
piece_by x (sending shape kind missing) k bytes = refl
piece_by x (complete kind) k bytes = refl

piece_leaves : (bytes : List ℕ) (k : Kept) (e : Option Exchange) → is_done (doing_with (sending_piece bytes) (record k { exchange = e })).kept.exchange ≡ is_done e
piece_leaves bytes k None = refl
piece_leaves bytes k (Some x) = piece_by x x.reply k bytes

ending_by : (x : Exchange) (r : Reply) (k : Kept) → is_done (ending_body (record x { reply = r }) (record k { exchange = Some (record x { reply = r }) })).exchange ≡ x.body_is_done
ending_by x unanswered k = refl
ending_by x (sending shape kind missing) k = passing_leaves _
ending_by x (complete kind) k = refl

ending_leaves : (k : Kept) (e : Option Exchange) → is_done (doing_with ending_body (record k { exchange = e })).kept.exchange ≡ is_done e
ending_leaves k None = refl
ending_leaves k (Some x) = ending_by x x.reply k

-- ---- the next head: another request, or all as it was

abbrev is_head : on.Outcome → Bool
is_head (on.head h) = true
is_head out = false

abbrev Nexts : Kept → Change → Type 0
Nexts k c = (c.kept.exchange ≡ k.exchange) ⊎ (is_head c.outcome ≡ true)

behind : (k : Kept) (end : ℕ) (what : Reading) → Nexts k (behind_head k end what)
behind k end (faulty f) = inl refl
behind k end (head_is h) = inr refl

without : (set : Setting) (k : Kept) → Nexts k (without_head set k)
without set k = by_full (length k.unread == set.hold_size)
  where
    by_full : (b : Bool) → Nexts k (if b then behind_head k 0 (faulty too_large) else record { outcome = on.pending; kept = k })
    by_full true = inl refl
    by_full false = inl refl

says_so : (k : Kept) (c d : Change) → c ≡ d → Nexts k d → Nexts k c
says_so k c d is so = subst (λ (x : Change). Nexts k x) (sym is) so

upcoming : (set : Setting) (k : Kept) (coming : Bool) (c : Change) → IsUpcoming set k coming c → Nexts k c
upcoming set k false c is = says_so k c (without_head set k) is (without set k)
upcoming set k true c is = says_so k c (behind_head k is.1 is.2) is.5 (behind k is.1 is.2)

nexts : (set : Setting) (k : Kept) (closing : Option End) (c : Change) → IsNext set k closing c → Nexts k c
nexts set k (Some end) c is = says_so k c _ is (inl refl)
nexts set k None c is = upcoming set k k.is_coming c is

ends_so : (set : Setting) (k : Kept) (closing : Option End) (end : End) (c : Change) → closing ≡ Some end → IsNext set k closing c → is_done c.kept.exchange ≡ is_done k.exchange
ends_so set k (Some other) end c closes is = by_change k.exchange c _ is refl
ends_so set k None end c closes is = absurd (cc closes)

-- ---- a pull

-- a fault is told once: the body is done with
abbrev Tells : Pull → Type 0
Tells p = (fault : on.BodyFault) → p.outcome ≡ on.broken_by fault → p.is_done ≡ true

by_pull : (p q : Pull) → p ≡ q → Tells q → Tells p
by_pull p q is so = subst Tells (sym is) so

finishes_so : (out : on.Outcome) (rest : Rest) (bytes : List ℕ) → Tells (finishes out rest bytes)
finishes_so out rest bytes = λ fault is. refl

bytes_so : (given : List ℕ) (rest : Rest) (bytes : List ℕ) → Tells (gives (on.bytes given) rest bytes)
bytes_so given rest bytes = λ fault is. absurd (cc is)

lacking_so : (has_ended : Bool) (rest : Rest) (bytes : List ℕ) → Tells (lacking has_ended rest bytes)
lacking_so true rest bytes = λ fault is. refl
lacking_so false rest bytes = λ fault is. absurd (cc is)

fixed_so : (has_ended : Bool) (n : ℕ) (bytes : List ℕ) → Tells (pull_fixed has_ended n bytes)
fixed_so has_ended n [] = lacking_so has_ended (fixed_rest n) []
fixed_so has_ended n (b ∷ bytes) = λ fault is. absurd (cc is)

raw_so : (has_ended : Bool) (bytes : List ℕ) → Tells (pull_raw has_ended bytes)
raw_so has_ended (b ∷ bytes) = λ fault is. absurd (cc is)
raw_so true [] = λ fault is. refl
raw_so false [] = λ fault is. absurd (cc is)

front_so : (under_way : Bool) (limit : ℕ) (bytes : List ℕ) (front : Front) → Tells (pull_front under_way limit bytes front)
front_so under_way limit bytes partial = λ fault is. absurd (cc is)
front_so under_way limit bytes (whole frame len) = λ fault is. absurd (cc is)
front_so under_way limit bytes (breaks_rule error) = λ fault is. absurd (cc is)

end_so : (section left : List ℕ) (p : Pull) → EndsWith section left p → Tells p
end_so [] left p is = by_pull p _ is (λ fault so. refl)
end_so (b ∷ section) left p is = by_pull p _ is.3 (λ fault so. absurd (cc so))

chunks_so : (has_ended : Bool) (place : Place) (section bytes : List ℕ) (later : Next) (noted : List ℕ) (p : Pull) → IsPullOfChunks has_ended place section bytes later noted p → Tells p
chunks_so has_ended place section bytes (chunk given later left) noted p is = by_pull p _ is (λ fault so. absurd (cc so))
chunks_so true place section bytes (waits later) noted p is = by_pull p _ is (λ fault so. refl)
chunks_so false place section bytes (waits later) noted p is = by_pull p _ is (λ fault so. absurd (cc so))
chunks_so has_ended place section bytes (ended left) noted p is = end_so (section ++ noted) left p is
chunks_so has_ended place section bytes breaks noted p is = by_pull p _ is (λ fault so. refl)

pull_so : (has_ended : Bool) (rest : Rest) (bytes : List ℕ) (p : Pull) → IsPull has_ended rest bytes p → Tells p
pull_so has_ended no_rest bytes p is = by_pull p _ is (λ fault so. refl)
pull_so has_ended raw_rest bytes p is = by_pull p _ is (raw_so has_ended bytes)
pull_so has_ended (fixed_rest n) bytes p is = by_pull p _ is (fixed_so has_ended n bytes)
pull_so has_ended (chunks_rest place section) bytes p is = chunks_so has_ended place section bytes (take_next place bytes).next (take_next place bytes).trailers p is
pull_so has_ended (frames_rest under_way limit) bytes p is = by_pull p _ is (front_so under_way limit bytes (front_frame (connection_reader limit) under_way bytes))

or_last : (a b : Bool) → b ≡ true → (a || b) ≡ true
or_last true b is = refl
or_last false b is = is

pulls_done : (k : Kept) (e : Option Exchange) (c : Change) (fault : on.BodyFault) → IsPulling (record k { exchange = e }) e c → c.outcome ≡ on.broken_by fault → is_done c.kept.exchange ≡ true
pulls_done k None c fault is told =
    let never : on.pending ≡ on.broken_by fault = sym (ap (λ (x : Change). x.outcome) is) ∙ told in
    absurd (cc never)
pulls_done k (Some x) c fault is told =
    ap (λ (d : Change). is_done d.kept.exchange) is.2
    ∙ or_last x.body_is_done is.0.is_done (pull_so k.has_ended x.rest k.unread is.0 is.1 fault (sym (ap (λ (d : Change). d.outcome) is.2) ∙ told))

-- more of a body comes only where it isn't done with
left_open : (has done was_dropped is_open_so : Bool) → ((has && not (done || was_dropped)) && is_open_so) ≡ true → done ≡ false
left_open true false was_dropped is_open_so is = refl
left_open true true was_dropped is_open_so is = absurd (cc is)
left_open false done was_dropped is_open_so is = absurd (cc is)

has_left : (k : Kept) (e : Option Exchange) → has_body_left (record k { exchange = e }) ≡ true → is_done e ≡ false
has_left k None is = absurd (cc is)
has_left k (Some x) is = left_open x.has_body x.body_is_done x.was_dropped (is_open (record k { exchange = Some x })) is

body_left : (over closing upgraded left : Bool) → (not over && (if closing then false else (not upgraded && left))) ≡ true → left ≡ true
body_left false false false left is = is
body_left false false true left is = absurd (cc is)
body_left false true upgraded left is = absurd (cc is)
body_left true closing upgraded left is = absurd (cc is)

may_pull : (set : Setting) (k : Kept) → allowed_by set k on.drop_body ≡ true → has_body_left k ≡ true
unfolding allowed_by
may_pull set k is = body_left k.is_over (is_some (closing_by set k)) (is_upgraded k) (has_body_left k) is

last_of_three : (a b c : Bool) → (a && (b && c)) ≡ true → c ≡ true
last_of_three true true c is = is
last_of_three true false c is = absurd (cc is)
last_of_three false b c is = absurd (cc is)

undone : (v : View) → awaits_body v ≡ true → is_done v.traced.state.kept.exchange ≡ false
undone v is =
    let k = v.traced.state.kept in
    has_left k k.exchange (may_pull (setting_of v.traced.state.settings) k (last_of_three (is_awaiting v.stage) (allows_answer v) (allows v on.drop_body) is))

-- ---- steps

-- no fault came, or one did, and the body is done with
abbrev AtMostOne : List PayloadError → Option Exchange → Type 0
AtMostOne faults e = (faults ≡ []) ⊎ ((length faults ≡ 1) × (is_done e ≡ true))

record Once (faults : List PayloadError) (v : View) : Type 0 where
  trace : List sums.Step
  stands : TracedStands v.traced trace
  once : AtMostOne faults v.traced.state.kept.exchange

still : (v w : View) (faults : List PayloadError) → w.traced ≡ v.traced → Once faults v → Once faults w
still v w faults traced o = record {
  trace = o.trace;
  stands = subst (λ (l : TracedView). TracedStands l o.trace) (sym traced) o.stands;
  once = subst (λ (l : TracedView). AtMostOne faults l.state.kept.exchange) (sym traced) o.once;
}

went : (v w : View) (faults now_faults : List PayloadError) (event : on.Event) (Says : on.Outcome → Type 0) → Goes v.traced event Says w.traced
    → ((out : on.Outcome) → Says out → (m : Machine (setting_of v.traced.state.settings) v.traced.state.kept event out w.traced.state.kept) → AtMostOne now_faults m.change.kept.exchange)
    → Once faults v → Once now_faults w
went v w faults now_faults event Says goes so o =
    let x = goes.steps o.trace o.stands in
    let s : sums.Step = record { event = event; outcome = x.0 } in
    record {
      trace = s ∷ o.trace;
      stands = x.2.stands;
      once = subst (λ (e : Option Exchange). AtMostOne now_faults e) (sym (after_step (setting_of v.traced.state.settings) v.traced.state.kept w.traced.state.kept event x.0 x.2.machine)) (so x.0 x.1 x.2.machine);
    }

done_on : (faults : List PayloadError) (e f : Option Exchange) → is_done f ≡ is_done e → AtMostOne faults e → AtMostOne faults f
done_on faults e f same (inl none) = inl none
done_on faults e f same (inr one) = inr (one.0, same ∙ one.1)

same : (v w : View) (faults : List PayloadError) (event : on.Event) (Says : on.Outcome → Type 0) → Goes v.traced event Says w.traced
    → ((out : on.Outcome) → (m : Machine (setting_of v.traced.state.settings) v.traced.state.kept event out w.traced.state.kept)
    → is_done m.change.kept.exchange ≡ is_done v.traced.state.kept.exchange)
    → Once faults v → Once faults w
same v w faults event Says goes so o =
    went v w faults faults event Says goes (λ out says m. done_on faults v.traced.state.kept.exchange m.change.kept.exchange (so out m) o.once) o

wrote : (v w : View) (faults : List PayloadError) (answer : Poll (Result ℕ Failed)) → Wrote v.traced w.traced answer → Once faults v → Once faults w
wrote v w faults (Ready (Ok n)) goes o = same v w faults (on.write n) _ goes.1 (λ out m. by_change v.traced.state.kept.exchange _ _ m.changes refl) o
wrote v w faults (Ready (Err e)) traced o = still v w faults traced o
wrote v w faults Pending traced o = still v w faults traced o

took : (v w : View) (faults : List PayloadError) (came : List ℕ) (answer : Poll (Result ℕ Failed)) → Took v.traced w.traced came answer → Once faults v → Once faults w
took v w faults came (Ready (Ok n)) (inl end) o =
    same v w faults on.eof (Is on.done) end.1
    (λ out m. by_change v.traced.state.kept.exchange _ (doing (ending_input v.traced.state.kept)) m.changes (passing_leaves _ ∙ end_leaves v.traced.state.kept.unread v.traced.state.kept.exchange)) o
took v w faults came (Ready (Ok n)) (inr some) o =
    same v w faults (on.read came) _ some.1.1
    (λ out m. by_change v.traced.state.kept.exchange _ (reading (setting_of v.traced.state.settings) came v.traced.state.kept) m.changes (passing_leaves _)) o
took v w faults came (Ready (Err e)) traced o = still v w faults traced o
took v w faults came Pending traced o = still v w faults traced o

-- no request came
abbrev no_head : NextHead → Bool
no_head (next_head.Head item) = false
no_head (next_head.Fault fault) = true
no_head next_head.Pending = true
no_head (next_head.Closed end) = true

other : (head : NextHead) (out : on.Outcome) → no_head head ≡ true → SaysNext head out → is_head out ≡ false
other (next_head.Head item) out is says = absurd (cc is)
other (next_head.Fault fault) out is says = ap is_head says
other next_head.Pending out is says = ap is_head says
other (next_head.Closed end) out is says = ap is_head says

none_came : (v w : View) (faults : List PayloadError) (head : NextHead) → no_head head ≡ true → Goes v.traced on.next (SaysNext head) w.traced → Once faults v → Once faults w
none_came v w faults head none goes o =
    let set = setting_of v.traced.state.settings in
    let k = v.traced.state.kept in
    went v w faults faults on.next (SaysNext head) goes
    (λ out says m. by_next m.change (ap is_head (sym m.answers) ∙ other head out none says) (nexts set k (closing_by set k) m.change m.changes)) o
  where
    by_next : (c : Change) → is_head c.outcome ≡ false → Nexts v.traced.state.kept c → AtMostOne faults c.kept.exchange
    by_next c not_head (inl same_exchange) = done_on faults v.traced.state.kept.exchange c.kept.exchange (ap is_done same_exchange) o.once
    by_next c not_head (inr is) =
        let never : true ≡ false = sym is ∙ not_head in
        absurd (cc never)

asked : (v w : View) (body : CameBody) (head : NextHead) → Goes v.traced on.next (SaysNext head) w.traced → Once body.faults v → Once (body_at head body).faults w
asked v w body (next_head.Head item) goes o = went v w body.faults [] on.next (SaysNext (next_head.Head item)) goes (λ out says m. inl refl) o
asked v w body (next_head.Fault fault) goes o = none_came v w body.faults (next_head.Fault fault) refl goes o
asked v w body next_head.Pending goes o = none_came v w body.faults next_head.Pending refl goes o
asked v w body (next_head.Closed end) goes o = none_came v w body.faults (next_head.Closed end) refl goes o

-- a body that isn't done with has had no fault
unbroken : (faults : List PayloadError) (e : Option Exchange) → is_done e ≡ false → AtMostOne faults e → faults ≡ []
unbroken faults e open_so (inl none) = none
unbroken faults e open_so (inr one) =
    let never : true ≡ false = sym one.1 ∙ open_so in
    absurd (cc never)

pulls : (v w : View) (body : CameBody) (piece : Pulled) → awaits_body v ≡ true → Goes v.traced on.pull (SaysPulled piece) w.traced → Once body.faults v → Once (with_piece body piece).faults w
pulls v w body (pieces.Bytes bytes) awaits goes o = went v w body.faults body.faults on.pull _ goes (λ out says m. inl (unbroken body.faults v.traced.state.kept.exchange (undone v awaits) o.once)) o
pulls v w body (pieces.Trailers trailers) awaits goes o = went v w body.faults body.faults on.pull _ goes (λ out says m. inl (unbroken body.faults v.traced.state.kept.exchange (undone v awaits) o.once)) o
pulls v w body pieces.End awaits goes o = went v w body.faults body.faults on.pull _ goes (λ out says m. inl (unbroken body.faults v.traced.state.kept.exchange (undone v awaits) o.once)) o
pulls v w body pieces.Pending awaits goes o = went v w body.faults body.faults on.pull _ goes (λ out says m. inl (unbroken body.faults v.traced.state.kept.exchange (undone v awaits) o.once)) o
pulls v w body (pieces.Broken fault) awaits goes o =
    let none = unbroken body.faults v.traced.state.kept.exchange (undone v awaits) o.once in
    went v w body.faults (error_of fault ∷ body.faults) on.pull _ goes
    (λ out says m. inr (
      ap (λ (l : List PayloadError). length (error_of fault ∷ l)) none,
      pulls_done v.traced.state.kept v.traced.state.kept.exchange m.change _ m.changes (sym m.answers ∙ says),
    )) o

sends : (v w : View) (faults : List PayloadError) (piece : Piece) → Sent v.traced w.traced piece → Once faults v → Once faults w
sends v w faults (Ready None) goes o = same v w faults on.body_end (Is on.done) goes (λ out m. by_change v.traced.state.kept.exchange _ _ m.changes (ending_leaves v.traced.state.kept v.traced.state.kept.exchange)) o
sends v w faults (Ready (Some (Ok bytes))) goes o = same v w faults (on.chunk bytes) (Is on.done) goes (λ out m. by_change v.traced.state.kept.exchange _ _ m.changes (piece_leaves bytes v.traced.state.kept v.traced.state.kept.exchange)) o
sends v w faults (Ready (Some (Err (Body n)))) goes o = same v w faults on.body_error (Is on.done) goes (λ out m. by_change v.traced.state.kept.exchange _ _ m.changes refl) o
sends v w faults (Ready (Some (Err NoMemory))) goes o = absurd goes
sends v w faults Pending traced o = still v w faults traced o

step_once : (v w : View) (d : Step) (body : CameBody) → IsNoted d → IsStep v d w → Once body.faults v → Once (step_body body d).faults w
step_once v w (ticked moment expiry) body noted is o =
    same v w body.faults (on.tick moment) (Is (expiry_of expiry)) is.0
    (λ out m. by_change v.traced.state.kept.exchange _ (ticking (setting_of v.traced.state.settings) v.traced.state.kept (closing_by (setting_of v.traced.state.settings) v.traced.state.kept) moment) m.changes
    (ap is_done (expires (setting_of v.traced.state.settings) v.traced.state.kept (closing_by (setting_of v.traced.state.settings) v.traced.state.kept) _ moment))) o
step_once v w drained body noted is o = same v w body.faults on.drain (Is on.done) is.0 (λ out m. by_change v.traced.state.kept.exchange _ _ m.changes refl) o
step_once v w (written answer) body noted is o = wrote v w body.faults answer is.3 o
step_once v w (read came answer) body noted is o = took v w body.faults came answer is.3 o
step_once v w (shut answer) body noted is o = still v w body.faults (ap (λ (x : View). x.traced) is.2) o
step_once v w (next peer head) body noted is o = asked v w body head is.3 o
step_once v w (closed end) body noted is o =
    same v w body.faults on.next (SaysNext is.3.0) is.3.1
    (λ out m. ends_so (setting_of v.traced.state.settings) v.traced.state.kept (closing_by (setting_of v.traced.state.settings) v.traced.state.kept) (end_of end) m.change is.1 m.changes) o
step_once v w continued body noted is o =
    same v w body.faults on.send_continue (Is on.done) is.2 (λ out m. by_change v.traced.state.kept.exchange _ _ m.changes (continue_leaves v.traced.state.kept interim_text v.traced.state.kept.exchange)) o
step_once v w (ready request answer) body noted is o = still v w body.faults (ap (λ (x : View). x.traced) is.3) o
step_once v w (called request) body noted is o = still v w body.faults (ap (λ (x : View). x.traced) is.2.2) o
step_once v w (answered answer) body noted is o = still v w body.faults (ap (λ (x : View). x.traced) is.same) o
step_once v w (pulled piece) body noted is o = pulls v w body piece is.0.awaits is.1 o
step_once v w paused body noted is o = still v w body.faults (ap (λ (x : View). x.traced) is.4) o
step_once v w dropped body noted is o =
    same v w body.faults on.drop_body (Is on.done) is.2 (λ out m. by_change v.traced.state.kept.exchange _ _ m.changes (drop_leaves v.traced.state.kept v.traced.state.kept.exchange)) o
step_once v w (replied answer) body noted is o =
    same v w body.faults (on.answer (answer_of answer.head) (size_of answer.body.size)) (Is on.done) is.2
    (λ out m. by_change v.traced.state.kept.exchange _ _ m.changes (answer_leaves (setting_of v.traced.state.settings) (answer_of answer.head) (size_of answer.body.size) v.traced.state.kept v.traced.state.kept.exchange)) o
step_once v w (sent piece) body noted is o = sends v w body.faults piece is.2 o
step_once v w (failed event) body noted is o = absurd noted
step_once v w (failed_write count) body noted is o = absurd noted
step_once v w (failed_read came event) body noted is o = absurd noted
step_once v w (failed_fed bytes) body noted is o = absurd noted
step_once v w (failed_sent piece) body noted is o = absurd noted
step_once v w asked_to_drain body noted is o = still v w body.faults (ap (λ (x : View). x.traced) is) o
step_once v w (asked_to_hold upgrades expects) body noted is o = still v w body.faults (ap (λ (x : View). x.traced) is) o
step_once v w declined body noted is o = still v w body.faults (ap (λ (x : View). x.traced) is) o
step_once v w let_on body noted is o = still v w body.faults (ap (λ (x : View). x.traced) is) o
step_once v w (turned_away request answer) body noted is o = still v w body.faults (ap (λ (x : View). x.traced) is.2) o
step_once v w (refused limit error) body noted is o =
    let set = setting_of v.traced.state.settings in
    let k = v.traced.state.kept in
    went v w body.faults body.faults (on.accept limit) (Is (on.refused error)) is.1
    (λ out says m. done_on body.faults k.exchange m.change.kept.exchange (ap (λ (x : Kept). is_done x.exchange) (refused_keeps set k w.traced.state.kept limit error out says m)) o.once) o

run_once : (v w : View) (steps : List Step) (body : CameBody) → AllNoted steps → IsRun v steps w → Once body.faults v → Once (body_after body steps).faults w
run_once v w [] body noted is o = still v w body.faults (ap (λ (x : View). x.traced) is) o
run_once v w (d ∷ steps) body noted is o = run_once is.0 w steps (step_body body d) noted.1 is.2 (step_once v is.0 d body noted.0 is.1 o)

few : (faults : List PayloadError) (e : Option Exchange) → AtMostOne faults e → length faults ≤ 1
few faults e (inl none) = omega (arith, ap (λ (l : List PayloadError). length l) none)
few faults e (inr one) = omega (arith, one.0)

pub run_has_one : (v w : View) (steps : List Step) (body : CameBody) (trace : List sums.Step) → TracedStands v.traced trace → AllNoted steps → IsRun v steps w → body.faults ≡ [] → length (body_after body steps).faults ≤ 1
run_has_one v w steps body trace stands noted run none =
    few (body_after body steps).faults w.traced.state.kept.exchange (run_once v w steps body noted run (record { trace = trace; stands = stands; once = inl none })).once
