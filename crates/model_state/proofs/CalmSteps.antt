-- What a step leaves that hands out no head, is no tick and has no part in an answer.
use Rattle.std.proofs.Common.{◌≡◌, ℕ, Bool, false, List, [], ◌∷◌, ◌++◌, drop, Option, Some, None, refl, sym, ap, ◌∙◌, arith, append-nil}
use Rattle.std.specs.Prelude.{◌||◌, ◌-◌, if◌then◌else◌, slice_get, ◌==◌}
use Rattle.std.specs.List.{list_any}
use Rattle.std.specs.Option.{option_or}
use Rattle.std.proofs.Math.Bool.{or_comm}
use Rattle.model_h1.specs.Request.{Head}
use Rattle.model_h1.specs.Setting.{Setting}
use Rattle.model_h1.specs.Answer.{asked_of, shape_of, type_of}
use Rattle.model_h1.specs.Parse.{Message}
use Rattle.model_h1.specs.End.{End}
use Rattle.model_h1.specs.Event.{Event, Outcome}
use Rattle.model_h1.specs.Event as on
use Rattle.model_h1.specs.Sums.{Step, Answered, step_taken, taken, is_eof, is_drain, is_drop, is_pull, is_continue, is_body_end, is_body_error, tick_of, head_of, request, since_head, answered, answered_by, completes, came_since_head, is_complete, was_pulled, chunk_len, answer_len, under_way_behind, is_sending, has_ended, is_draining, accepted_limit}
use Rattle.model_h1.specs.Past.{ParsedStep, steps, parse_of, current, passed}
use Rattle.model_h1.specs.Text.{buffered}
use Rattle.model_h1.specs.Closing.{told_end, told, body_end_of}
use Rattle.model_h1.specs.Allowed.{is_over_by, is_over}
use Rattle.model_h1.proofs.PastLemmas.{Legal}
use Rattle.model_h1.proofs.StepLemmas.{taken-cons, since_head-more, head_count-more, same_input, same_parse, parsed}
use Rattle.model_state.specs.Kept.{answered as answered_as, sending, Exchange}
use Rattle.model_state.specs.Reply.{stated}
use Rattle.model_state.specs.KeptOf.{rest_of, reply_of, tells_done, exchange_with, exchange_of, clock_of, kept_of}
use Rattle.model_state.proofs.Changes.{bare}
use Rattle.model_state.proofs.StepSums.{told-cons, is_sending-cons, answered-more, answer_len-more, came-more}
use Rattle.model_state.proofs.QuietParts.{undone, clock-quiet, body_end-stays, short-stays}

-- ---- such events

-- the event is no tick, and belongs to no answer
pub record IsAside (e : Event) : Type 0 where
  pub answers : (drained : Bool) → answered_by e drained ≡ None
  pub sends : (u : Bool) (o : Outcome) → under_way_behind u e o ≡ u
  pub tick : tick_of e ≡ None
  pub drain : is_drain e ≡ false
  pub drop : is_drop e ≡ false
  pub send_continue : is_continue e ≡ false
  pub body_end : is_body_end e ≡ false
  pub body_error : is_body_error e ≡ false
  pub completes : completes e ≡ false
  pub chunk : chunk_len e ≡ 0

-- nor does it take bytes, or end the input
pub record IsCalm (e : Event) : Type 0 where
  pub aside : IsAside e
  pub takes : (o : Outcome) → step_taken e o ≡ []
  pub eof : is_eof e ≡ false

-- what the sums see in an event, but for its bytes, its answer and a message that it sends
abbrev Marks : Type 0
Marks = Option ℕ × Bool × Bool × Bool × Bool × Bool × Bool × ℕ

-- of each event
abbrev marks : Event → Marks
marks e = (tick_of e, is_drain e, is_drop e, is_continue e, is_body_end e, is_body_error e, completes e, chunk_len e)

-- an event of which they see nothing
unmarked : (e : Event) → ((d : Bool) → answered_by e d ≡ None) → ((u : Bool) (o : Outcome) → under_way_behind u e o ≡ u)
    → marks e ≡ (None, false, false, false, false, false, false, 0) → IsAside e
unmarked e answers sends none = record {
  answers = answers;
  sends = sends;
  tick = ap (λ (m : Marks). m.0) none;
  drain = ap (λ (m : Marks). m.1) none;
  drop = ap (λ (m : Marks). m.2) none;
  send_continue = ap (λ (m : Marks). m.3) none;
  body_end = ap (λ (m : Marks). m.4) none;
  body_error = ap (λ (m : Marks). m.5) none;
  completes = ap (λ (m : Marks). m.6) none;
  chunk = ap (λ (m : Marks). m.7) none;
}

-- bytes that come
pub read_aside : (bytes : List ℕ) → IsAside (on.read bytes)
read_aside bytes = unmarked (on.read bytes) (λ d. refl) (λ u o. refl) refl

-- the end of the input
pub eof_aside : IsAside on.eof
eof_aside = unmarked on.eof (λ d. refl) (λ u o. refl) refl

-- a call for the next head
pub calm_next : IsCalm on.next
calm_next = record { aside = unmarked on.next (λ d. refl) (λ u o. refl) refl; takes = λ o. refl; eof = refl }

-- a pull
pub calm_pull : IsCalm on.pull
calm_pull = record { aside = unmarked on.pull (λ d. refl) (λ u o. refl) refl; takes = λ o. refl; eof = refl }

-- that a WebSocket is accepted
pub calm_accept : (limit : ℕ) → IsCalm (on.accept limit)
calm_accept limit = record { aside = unmarked (on.accept limit) (λ d. refl) (λ u o. refl) refl; takes = λ o. refl; eof = refl }

-- ---- the sums

-- the bytes taken
pub taken-calm : (s : Step) (t : List Step) → IsCalm s.event → taken (s ∷ t) ≡ taken t
taken-calm s t c = taken-cons s t ∙ ap (λ b. taken t ++ b) (c.takes s.outcome) ∙ append-nil (taken t)

-- the moments
pub clock-aside : (s : Step) (t : List Step) → IsAside s.event → clock_of (s ∷ t) ≡ clock_of t
clock-aside s t c = clock-quiet s t c.completes c.tick

-- a message that is being sent
pub sending-aside : (s : Step) (t : List Step) → IsAside s.event → is_sending (s ∷ t) ≡ is_sending t
sending-aside s t c = is_sending-cons s t ∙ c.sends (is_sending t) s.outcome

-- what came behind the head
pub since-other : (kind : Event → Bool) (s : Step) (t : List Step) → head_of s.outcome ≡ None → kind s.event ≡ false
    → came_since_head kind (s ∷ t) ≡ came_since_head kind t
since-other kind s t none other = came-more kind s t none ∙ ap (λ b. b || came_since_head kind t) other

-- the answer
answered-aside : (s : Step) (t : List Step) → head_of s.outcome ≡ None → IsAside s.event → answered (s ∷ t) ≡ answered t
answered-aside s t none c = answered-more s t none ∙ ap (λ o. option_or o (answered t)) (c.answers (is_draining t))

-- and the length of its body
answer_len-aside : (s : Step) (t : List Step) → head_of s.outcome ≡ None → IsAside s.event → answer_len (s ∷ t) ≡ answer_len t
answer_len-aside s t none c = answer_len-more s t none ∙ omega (arith, c.chunk)

-- one option behind two others
or_or : {A : Type 0} (a b c : Option A) → option_or a (option_or b c) ≡ option_or (option_or a b) c
or_or None b c = refl
or_or (Some x) b c = refl

-- both, as they are kept
told-aside : (s : Step) (t : List Step) → head_of s.outcome ≡ None → IsAside s.event
    → option_or (told_end s.outcome) (option_or (told t) (body_end_of t)) ≡ option_or (told (s ∷ t)) (body_end_of (s ∷ t))
told-aside s t none c =
    let short = short-stays s t none c.body_end (c.answers (is_draining t)) c.chunk in
    let body = sym (body_end-stays s t c.body_error short) in
    or_or (told_end s.outcome) (told t) (body_end_of t)
    ∙ (λ i. option_or (sym (told-cons s t) i) (body i))

-- ---- the last request

-- the answer, as it is kept
reply_at : (setting : Setting) (s : Step) (t : List Step) (h : Head) (a : Option Answered) → is_complete (s ∷ t) ≡ is_complete t
    → answer_len (s ∷ t) ≡ answer_len t
    → reply_of setting (s ∷ t) h a ≡ reply_of setting t h a
reply_at setting s t h None complete len = refl
reply_at setting s t h (Some a) complete len =
    λ i. if complete i then answered_as (type_of setting a.drained (asked_of h) a.head a.size)
    else sending (shape_of (asked_of h) a.head a.size) (type_of setting a.drained (asked_of h) a.head a.size) (stated (shape_of (asked_of h) a.head a.size) - len i)

-- the same of the longer trace
reply-aside : (setting : Setting) (s : Step) (t : List Step) (h : Head) → head_of s.outcome ≡ None → IsAside s.event
    → reply_of setting (s ∷ t) h (answered (s ∷ t)) ≡ reply_of setting t h (answered t)
reply-aside setting s t h none c =
    ap (reply_of setting (s ∷ t) h) (answered-aside s t none c)
    ∙ reply_at setting s t h (answered t) (since-other completes s t none c.completes) (answer_len-aside s t none c)

-- the last request, as it is kept, with another rest
pub exchange-aside : (setting : Setting) (before : List ParsedStep) (x : ParsedStep) (m n : Message) (h : Head) → head_of x.step.outcome ≡ None
    → IsAside x.step.event
    → record (exchange_with setting before m h) {
      rest = rest_of (x ∷ before) n h.body;
      was_pulled = is_pull x.step.event || was_pulled (steps before);
      body_is_done = (exchange_with setting before m h).body_is_done || tells_done x.step.event x.step.outcome;
    } ≡ exchange_with setting (x ∷ before) n h
exchange-aside setting before x m n h none c =
    let t = steps before in
    let s = x.step in
    let reply = sym (reply-aside setting s t h none c) in
    let pulled = sym (came-more is_pull s t none) in
    let dropped = sym (since-other is_drop s t none c.drop) in
    let told_on = sym (since-other is_continue s t none c.send_continue) in
    let done = or_comm (list_any (λ u. tells_done u.event u.outcome) (since_head t)) (tells_done s.event s.outcome)
    ∙ sym (ap (list_any (λ u. tells_done u.event u.outcome)) (since_head-more s t none)) in
    λ i. record (exchange_with setting (x ∷ before) n h) {
      reply = reply i;
      was_pulled = pulled i;
      was_dropped = dropped i;
      had_continue = told_on i;
      body_is_done = done i;
    }

-- the same where nothing was pulled
pub exchange-unpulled : (setting : Setting) (before : List ParsedStep) (x : ParsedStep) (m n : Message) (h : Head) → head_of x.step.outcome ≡ None
    → IsAside x.step.event → is_pull x.step.event ≡ false
    → record (exchange_with setting before m h) { rest = rest_of (x ∷ before) n h.body } ≡ exchange_with setting (x ∷ before) n h
exchange-unpulled setting before x m n h none c no_pull =
    let old = exchange_with setting before m h in
    let e = x.step.event in
    let o = x.step.outcome in
    let pulled = sym (ap (λ b. b || old.was_pulled) no_pull) in
    let done : old.body_is_done ≡ (old.body_is_done || tells_done e o) =
    sym (or_comm old.body_is_done (tells_done e o) ∙ ap (λ b. b || old.body_is_done) (undone e o no_pull)) in
    (λ i. record old { rest = rest_of (x ∷ before) n h.body; was_pulled = pulled i; body_is_done = done i })
    ∙ exchange-aside setting before x m n h none c

-- ---- the messages

-- the parse is the same where nothing is accepted
pub parse-calm : (setting : Setting) (before : List ParsedStep) (x : ParsedStep) → Legal setting (x ∷ before) → IsCalm x.step.event
    → accepted_limit x.step.event x.step.outcome ≡ None → x.parse ≡ parse_of before
parse-calm setting before x l c none =
    same_parse setting x before (same_input setting x.step (steps before) (c.takes x.step.outcome) c.eof none) l.0 (parsed setting before l.3)

-- and with it the current message
pub current-calm : (setting : Setting) (before : List ParsedStep) (x : ParsedStep) → Legal setting (x ∷ before) → IsCalm x.step.event
    → accepted_limit x.step.event x.step.outcome ≡ None → head_of x.step.outcome ≡ None → current (x ∷ before) ≡ current before
current-calm setting before x l c none no_head =
    let parse = parse-calm setting before x l c none in
    let count = head_count-more x.step (steps before) no_head in
    λ i. if count i == 0 then None else slice_get (parse i) (count i - 1)

-- ---- all parts

-- all parts behind such a step
pub aside_parts : (setting : Setting) (before : List ParsedStep) (x : ParsedStep) (unread : List ℕ) (over : Bool) (exchange : Option Exchange) (text : List ℕ) (end : Option End)
    → IsAside x.step.event → head_of x.step.outcome ≡ None
    → unread ≡ drop (passed (x ∷ before)) (taken (x.step ∷ steps before)) → over ≡ (is_over_by x.step.outcome || is_over (steps before))
    → exchange ≡ exchange_of setting (x ∷ before) (current (x ∷ before)) (request (x.step ∷ steps before))
    → text ≡ buffered setting (x.step ∷ steps before) → end ≡ option_or (told_end x.step.outcome) (kept_of setting before).failed
    → bare (record (kept_of setting before) { unread = unread; has_ended = has_ended (x.step ∷ steps before); is_over = over; exchange = exchange; buffered = text; failed = end })
    ≡ bare (kept_of setting (x ∷ before))
aside_parts setting before x unread over exchange text end c none e f g h k =
    let t = steps before in
    let s = x.step in
    let drains = sym (ap (λ b. b || is_draining t) c.drain) in
    let sends = sym (sending-aside s t c) in
    let clock = sym (clock-aside s t c) in
    let telling = k ∙ told-aside s t none c in
    λ i. record (bare (kept_of setting (x ∷ before))) {
      unread = e i;
      is_draining = drains i;
      is_over = f i;
      exchange = g i;
      buffered = h i;
      is_sending = sends i;
      clock = clock i;
      failed = telling i;
    }

-- and of a calm one
pub calm_parts : (setting : Setting) (before : List ParsedStep) (x : ParsedStep) (unread : List ℕ) (over : Bool) (exchange : Option Exchange) (text : List ℕ) (end : Option End)
    → IsCalm x.step.event → head_of x.step.outcome ≡ None
    → unread ≡ drop (passed (x ∷ before)) (taken (x.step ∷ steps before)) → over ≡ (is_over_by x.step.outcome || is_over (steps before))
    → exchange ≡ exchange_of setting (x ∷ before) (current (x ∷ before)) (request (x.step ∷ steps before))
    → text ≡ buffered setting (x.step ∷ steps before) → end ≡ option_or (told_end x.step.outcome) (kept_of setting before).failed
    → bare (record (kept_of setting before) { unread = unread; is_over = over; exchange = exchange; buffered = text; failed = end })
    ≡ bare (kept_of setting (x ∷ before))
calm_parts setting before x unread over exchange text end c none e f g h k =
    let ended = sym (ap (λ b. b || has_ended (steps before)) c.eof) in
    (λ i. bare (record (kept_of setting before) { unread = unread; has_ended = ended i; is_over = over; exchange = exchange; buffered = text; failed = end }))
    ∙ aside_parts setting before x unread over exchange text end c.aside none e f g h k
