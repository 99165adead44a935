-- A step of the parts goes on behind each trace that the connection stands for.
use Rattle.std.proofs.Common.{◌≡◌, ◌≢◌, ℕ, zero, suc, arith, ◌+◌, ◌<◌, ◌≤◌, Bool, true, false, not, ◌&&◌, ◌||◌, List, [], ◌∷◌, length, Option, Some, None, Result, Ok, Err, refl, sym, ap, ◌∙◌, subst, length-drop}
use Rattle.std.specs.Prelude.{IsTrue, OnOk, OnErr, is_some, nat_lt, nat_le, ◌↔◌, if◌then◌else◌}
use Rattle.http_config.specs.Config.{Settings}
use Rattle.model_h1.specs.Setting.{Setting}
use Rattle.model_h1.specs.Event as on
use Rattle.model_h1.specs.Sums as sums
use Rattle.model_h1.specs.Past.{ParsedStep, steps, passed, held}
use Rattle.model_h1.specs.Sums.{taken}
use Rattle.model_h1.proofs.PastLemmas.{past_of_unique}
use Rattle.model_h1.specs.Text.{buffered}
use Rattle.model_h1.specs.Closing.{closing}
use Rattle.model_h1.specs.Trace as traces
use Rattle.model_h1.specs.Trace.{IsPastOf, IsOutcome}
use Rattle.model_state.specs.Kept.{Kept, Change, Exchange, is_open, is_upgraded}
use Rattle.model_state.specs.Local.{closing_by, allowed_by, has_body_left, waits_for_answer}
use Rattle.model_state.specs.Change.{IsPulling}
use Rattle.model_state.specs.Pull.{Pulled}
use Rattle.model_state.proofs.Stands.{closing_of_trace, allowed_of_trace, a_step_is_there, step_outcome, step_state}
use Rattle.model_state.proofs.KeptBounds.{unread_bounded}
use Rattle.model_h1.specs.Runs.{Run}
use Rattle.model_state.specs.Runs.{first_segment}
use Rattle.model_state.specs.Marks.{front_of}
use Rattle.model_state.specs.After.{marks_after}
use Rattle.model_state.proofs.Goes.{marks_go}
use Rattle.h1_payload.specs.Rests.{SaysPulled}
use Rattle.h1_payload.specs.declared.pulled.Pulled.{Pulled as Answer}
use Rattle.std.proofs.lemmas.Bool.{ltb-true}
use Rattle.model_h1.specs.Answer.{AnswerHead, BodySize}
use Rattle.model_h1.specs.Limits.{MAX_FRAME_HEAD, MAX_MOMENT}
use Rattle.h1_connection.specs.EventMeaning.{setting_of, end_of, fault_of}
use Rattle.h1_connection.specs.Parts.{kept_of, IsSound, Steps, StepsIn}
use Rattle.h1_connection.specs.Frames.{is_raw_request}
use Rattle.h1_connection.specs.Pulls.{IsPullFrom, IsPullOf}
use Rattle.h1_connection.specs.Heads.{IsHeld, IsNexted, MayAsk, NumberGoes, SaysNext}
use Rattle.h1_connection.specs.Stock.{is_bare, CountsOn}
use Rattle.model_state.specs.Ahead.{is_bodiless, AreAhead, IsAhead}
use Rattle.h1_decoder.specs.HeadItem.{SaysHead}
use Rattle.h1_decoder.specs.declared.decoder.HeadItem.{HeadItem}
use Rattle.model_h1.specs.Request.{BodyKind, Head, Fault, has_body, head_is}
use Rattle.h1_connection.specs.State.{State, IsAllowed, IsFrameAllowed, Stands, IsMarked, IsCounted, GoesOn, ReadsIn, Is}
use Rattle.h1_connection.specs.declared.connection.heads.NextHead.{NextHead}
use Rattle.h1_connection.specs.declared.connection.heads.NextHead.TheVariants as next
use Rattle.h1_connection.specs.declared.connection.parts.Parts.{Parts}
use Rattle.h1_connection.proofs.CountLemmas.{decodes, hands_out, fails, fails_at_once, finds_nothing, stays}
use Rattle.h1_connection.proofs.MarkLemmas.{MarksGo, quiet_pull}
use Rattle.h1_connection.proofs.ResultLemmas.{err_map}

-- ---- results

-- sound parts stay sound, whatever is answered
pub still_sound : {A E : Type 0} (r : Result A E) (s : Settings) (p q : Parts) → IsSound s p → OnOk r (IsSound s q) → OnErr r (q ≡ p) → IsSound s q
still_sound (Ok a) s p q was sound same = sound
still_sound (Err e) s p q was sound same = subst (λ (p : Parts). IsSound s p) (sym same) was

-- ---- a state

abbrev pub state_of : Settings → Parts → State
state_of s p = record { settings = s; kept = kept_of p; marks = p.output.marks; ahead = p.input.ahead }

-- an error changes nothing
pub same_state : {A E : Type 0} (r : Result A E) (s : Settings) (p q : Parts) (now : State) → state_of s p ≡ now → OnErr r (q ≡ p) → OnErr r (state_of s q ≡ now)
same_state r s p q now view same = err_map r (q ≡ p) (state_of s q ≡ now) (λ e. ap (λ (p : Parts). state_of s p) e ∙ view) same

-- what the event and its outcome do to the number of heads that stand ahead, behind each trace
abbrev AheadGoes : Settings → Parts → on.Event → on.Outcome → Parts → Type 0
AheadGoes s p event out q =
    (trace : List sums.Step) → Stands (state_of s p) trace → Stands (state_of s q) (record { event = event; outcome = out } ∷ trace)
    → IsCounted (state_of s p) trace → IsCounted (state_of s q) (record { event = event; outcome = out } ∷ trace)

goes_from : (s : Settings) (p q : Parts) (event : on.Event) (out : on.Outcome) → Steps s p event out q → MarksGo p event out q → AheadGoes s p event out q
    → IsAllowed (state_of s p) event → GoesOn (state_of s p) event (Is out) (state_of s q)
goes_from s p q event out steps marks ahead allowed = λ trace stands.
    let set = setting_of s in
    let later = step_state set (kept_of p) (kept_of q) trace event out stands allowed steps in (
      out,
      refl,
      step_outcome set (kept_of p) (kept_of q) trace event out stands allowed steps,
      later,
      λ marked. marks ∙ ap (λ (l : List Run). marks_after (kept_of p) event out l) marked ∙ marks_go set (kept_of p) trace event out stands allowed,
      ahead trace stands later,
    )

-- no event but a call for the next head changes the number
abbrev pub is_other : on.Event → Bool
is_other on.next = false
is_other event = true

pub ahead_stays : (s : Settings) (p q : Parts) (event : on.Event) (out : on.Outcome) → q.input.ahead ≡ p.input.ahead → is_other event ≡ true → AheadGoes s p event out q
ahead_stays s p q event out same other = λ trace stands later counted.
    subst (λ (n : ℕ). IsAhead (setting_of s) (record { event = event; outcome = out } ∷ trace) n) (sym same)
    (stays (setting_of s) (record { event = event; outcome = out }) trace p.input.ahead (λ is. let no : false ≡ true = sym (ap is_other is) ∙ other in cc no) counted)

-- a step of the parts is one of the connection
pub goes_on : (now : State) (s : Settings) (p q : Parts) (event : on.Event) (out : on.Outcome) → state_of s p ≡ now
    → IsAllowed now event → Steps s p event out q → MarksGo p event out q → q.input.ahead ≡ p.input.ahead → is_other event ≡ true
    → GoesOn now event (Is out) (state_of s q)
goes_on now s p q event out view allowed steps marks ahead other =
    subst (λ (m : State). IsAllowed m event → GoesOn m event (Is out) (state_of s q)) view
    (goes_from s p q event out steps marks (ahead_stays s p q event out ahead other)) allowed

-- what is said of the connection is said of its parts
pub allowed_parts : (now : State) (s : Settings) (p : Parts) (event : on.Event) → state_of s p ≡ now → IsAllowed now event → IsAllowed (state_of s p) event
allowed_parts now s p event view allowed = subst (λ (m : State). IsAllowed m event) (sym view) allowed

-- ---- reads from a source

-- where a read is allowed, one of any bytes is
any_read : (now : State) (bytes : List ℕ) → IsAllowed now (on.read []) → IsAllowed now (on.read bytes)
unfolding allowed_by
any_read now bytes allowed = allowed

pub reads_in : (now : State) (s : Settings) (p q : Parts) (bytes : List ℕ) → state_of s p ≡ now → IsAllowed now (on.read []) → StepsIn s p bytes q
    → q.output.marks ≡ p.output.marks → q.input.ahead ≡ p.input.ahead → ReadsIn now bytes (state_of s q)
reads_in now s p q [] view allowed same marks ahead = ap (λ (p : Parts). state_of s p) same ∙ view
reads_in now s p q (b ∷ bytes) view allowed steps marks ahead =
    goes_on now s p q (on.read (b ∷ bytes)) (on.took (length (b ∷ bytes))) view (any_read now (b ∷ bytes) allowed) steps marks ahead refl

-- ---- the next head

-- where the next head is asked for
ask_case : (over closes closing running : Bool) → (not over && (if closes then closing else running)) ≡ true → (closes || running) ≡ true
ask_case true closes closing running is = absurd (cc is)
ask_case false true closing running is = refl
ask_case false false closing running is = is

pub may_ask : (now : State) (s : Settings) (p : Parts) → state_of s p ≡ now → IsAllowed now on.next → MayAsk (setting_of s) (kept_of p)
unfolding allowed_by
may_ask now s p view allowed =
    ask_case p.is_over (is_some (closing_by (setting_of s) (kept_of p))) true (not (is_open (kept_of p))) (allowed_parts now s p on.next view allowed)

-- how the number goes on behind what comes
head_counts : (s : Settings) (p q : Parts) (item : HeadItem) (h : Head) → SaysHead item h → IsHeld s p → CountsOn p.input item q.input
    → AheadGoes s p on.next (on.head h) q
head_counts s p q item h says held counts = by_number p.input.ahead refl
  where
    by_number : (n : ℕ) → p.input.ahead ≡ n → AheadGoes s p on.next (on.head h) q
    by_number zero is = λ trace stands later counted.
        let all = counts.decoded is in
        let bare : is_bare item ≡ is_bodiless (head_is h) = ap (λ (k : BodyKind). not (has_body k)) says.body in
        subst (λ (m : ℕ). IsAhead (setting_of s) (record { event = on.next; outcome = on.head h } ∷ trace) m) (sym all.1)
        (decodes (setting_of s) (kept_of q) trace h all.0 (subst (λ (m : ℕ). IsAhead (setting_of s) trace m) is counted) later
        (subst (λ (b : Bool). AreAhead s.h1_hold_size 16 b q.input.unread all.0) bare (all.2 s.h1_hold_size held)))
    by_number (suc n) is = λ trace stands later counted.
        subst (λ (m : ℕ). IsAhead (setting_of s) (record { event = on.next; outcome = on.head h } ∷ trace) m) (sym (counts.fewer n is))
        (hands_out (setting_of s) trace h n (subst (λ (m : ℕ). IsAhead (setting_of s) trace m) is counted))

fault_counts : (s : Settings) (p q : Parts) (f : Fault) → p.input.ahead ≤ 1 → q.input.ahead ≡ 0 → AheadGoes s p on.next (on.fault f) q
fault_counts s p q f last none = by_number p.input.ahead refl
  where
    by_number : (n : ℕ) → p.input.ahead ≡ n → AheadGoes s p on.next (on.fault f) q
    by_number zero is = λ trace stands later counted.
        subst (λ (m : ℕ). IsAhead (setting_of s) (record { event = on.next; outcome = on.fault f } ∷ trace) m) (sym none)
        (fails_at_once (setting_of s) trace f (subst (λ (m : ℕ). IsAhead (setting_of s) trace m) is counted))
    by_number (suc n) is = λ trace stands later counted.
        let left : n ≡ 0 = omega (arith, last, is) in
        subst (λ (m : ℕ). IsAhead (setting_of s) (record { event = on.next; outcome = on.fault f } ∷ trace) m) (left ∙ sym none)
        (fails (setting_of s) trace f n (subst (λ (m : ℕ). IsAhead (setting_of s) trace m) is counted))

nothing_counts : (s : Settings) (p q : Parts) (out : on.Outcome) → ((h : Head) → out ≢ on.head h) → ((f : Fault) → out ≢ on.fault f) → q.input.ahead ≡ p.input.ahead
    → AheadGoes s p on.next out q
nothing_counts s p q out no_head no_fault same = λ trace stands later counted.
    subst (λ (m : ℕ). IsAhead (setting_of s) (record { event = on.next; outcome = out } ∷ trace) m) (sym same)
    (finds_nothing (setting_of s) trace out p.input.ahead no_head no_fault counted)

head_from : (s : Settings) (p q : Parts) (answer : NextHead) → (IsHeld s p → IsNexted s p answer q) → q.output.marks ≡ p.output.marks
    → (IsHeld s p → NumberGoes s p answer q) → IsAllowed (state_of s p) on.next → GoesOn (state_of s p) on.next (SaysNext answer) (state_of s q)
head_from s p q (next.Head item) nexted marks number allowed = λ trace stands.
    let held = unread_bounded (setting_of s) (kept_of p) trace stands in
    let n = nexted held in
    let goes = goes_from s p q on.next (on.head n.0) n.2 marks (head_counts s p q item n.0 n.1 held (number held)) allowed trace stands in
    (goes.0, (n.0, n.1, goes.1), goes.2, goes.3, goes.4, goes.5)
head_from s p q (next.Fault fault) nexted marks number allowed = λ trace stands.
    let held = unread_bounded (setting_of s) (kept_of p) trace stands in
    let none = number held in
    goes_from s p q on.next (on.fault (fault_of fault)) (nexted held) marks (fault_counts s p q (fault_of fault) none.0 none.1) allowed trace stands
head_from s p q next.Pending nexted marks number allowed = λ trace stands.
    let held = unread_bounded (setting_of s) (kept_of p) trace stands in
    goes_from s p q on.next on.pending (nexted held) marks
    (nothing_counts s p q on.pending (λ h is. cc is) (λ f is. cc is) (number held)) allowed trace stands
head_from s p q (next.Closed end) nexted marks number allowed = λ trace stands.
    let held = unread_bounded (setting_of s) (kept_of p) trace stands in
    goes_from s p q on.next (on.closed (end_of end)) (nexted held) marks
    (nothing_counts s p q (on.closed (end_of end)) (λ h is. cc is) (λ f is. cc is) (number held)) allowed trace stands

pub head_goes_on : (now : State) (s : Settings) (p q : Parts) (answer : NextHead) → state_of s p ≡ now → IsAllowed now on.next
    → (IsHeld s p → IsNexted s p answer q) → q.output.marks ≡ p.output.marks → (IsHeld s p → NumberGoes s p answer q)
    → GoesOn now on.next (SaysNext answer) (state_of s q)
head_goes_on now s p q answer view allowed nexted marks number =
    subst (λ (m : State). IsAllowed m on.next → GoesOn m on.next (SaysNext answer) (state_of s q)) view (head_from s p q answer nexted marks number) allowed

-- ---- pulls

-- one of a body is allowed where its rest may be dropped
open_case : (over closes frames left : Bool) → (not over && (if closes then false else (not frames && left))) ≡ true → (frames ≡ false) × (left ≡ true)
open_case true closes frames left is = absurd (cc is)
open_case false true frames left is = absurd (cc is)
open_case false false true left is = absurd (cc is)
open_case false false false left is = (refl, is)

pull_case : (over closes frames left : Bool) → (not over && (if closes then false else (not frames && left))) ≡ true
    → (not over && (if closes then false else (frames || left))) ≡ true
pull_case true closes frames left is = absurd (cc is)
pull_case false true frames left is = absurd (cc is)
pull_case false false true left is = absurd (cc is)
pull_case false false false left is = is

first_true : (a b : Bool) → (a && b) ≡ true → a ≡ true
first_true true b is = refl
first_true false b is = absurd (cc is)

second_true : (a b : Bool) → (a && b) ≡ true → b ≡ true
second_true true b is = is
second_true false b is = absurd (cc is)

left_open : (k : Kept) → has_body_left k ≡ true → is_open k ≡ true
left_open k is = second_true _ (is_open k) is

pub body_open : (s : Settings) (p : Parts) → IsAllowed (state_of s p) on.drop_body → is_open (kept_of p) ≡ true
unfolding allowed_by
body_open s p allowed = left_open (kept_of p) (open_case p.is_over _ (is_upgraded (kept_of p)) (has_body_left (kept_of p)) allowed).1

pub body_plain : (s : Settings) (p : Parts) → IsAllowed (state_of s p) on.drop_body → is_upgraded (kept_of p) ≡ false
unfolding allowed_by
body_plain s p allowed = (open_case p.is_over _ (is_upgraded (kept_of p)) (has_body_left (kept_of p)) allowed).0

pub body_pulled : (now : State) → IsAllowed now on.drop_body → IsAllowed now on.pull
unfolding allowed_by
body_pulled now allowed = pull_case now.kept.is_over _ (is_upgraded now.kept) (has_body_left now.kept) allowed

pulling_case : (k : Kept) (e : Option Exchange) (c : Change) → is_open (record k { exchange = e }) ≡ true
    → IsPulling (record k { exchange = e }) e c → (p : Pulled) × IsPullFrom k e p
pulling_case k None c opened pulling = absurd (cc opened)
pulling_case k (Some x) c opened pulling = (pulling.0, pulling.1)

pull_from : (s : Settings) (p q : Parts) (answer : Answer)
    → ((r : Pulled) → IsPullOf (kept_of p) r → SaysPulled answer r.outcome × Steps s p on.pull r.outcome q)
    → q.output.marks ≡ p.output.marks → q.input.ahead ≡ p.input.ahead → IsAllowed (state_of s p) on.drop_body
    → GoesOn (state_of s p) on.pull (SaysPulled answer) (state_of s q)
pull_from s p q answer pulled marks ahead allowed = λ trace stands.
    let set = setting_of s in
    let may = body_pulled (state_of s p) allowed in
    let there = a_step_is_there set (kept_of p) trace on.pull stands may in
    let r = pulling_case (kept_of p) (kept_of p).exchange there.2.change (body_open s p allowed) there.2.changes in
    let x = pulled r.0 r.1 in
    let goes =
    goes_from s p q on.pull r.0.outcome x.1 (marks ∙ quiet_pull answer r.0.outcome p.output.marks x.0) (ahead_stays s p q on.pull r.0.outcome ahead refl) may
    trace stands in
    (goes.0, subst (λ (o : on.Outcome). SaysPulled answer o) (sym goes.1) x.0, goes.2, goes.3, goes.4, goes.5)

pub pull_goes_on : (now : State) (s : Settings) (p q : Parts) (answer : Answer) → state_of s p ≡ now → IsAllowed now on.drop_body
    → ((r : Pulled) → IsPullOf (kept_of p) r → SaysPulled answer r.outcome × Steps s p on.pull r.outcome q)
    → q.output.marks ≡ p.output.marks → q.input.ahead ≡ p.input.ahead → GoesOn now on.pull (SaysPulled answer) (state_of s q)
pull_goes_on now s p q answer view allowed pulled marks ahead =
    subst (λ (m : State). IsAllowed m on.drop_body → GoesOn m on.pull (SaysPulled answer) (state_of s q)) view
    (pull_from s p q answer pulled marks ahead) allowed

-- ---- frames, and messages

-- a step with one of these outcomes
pub some_goes_on : (now : State) (s : Settings) (p q : Parts) (event : on.Event) (Says : on.Outcome → Type 0) → state_of s p ≡ now → IsAllowed now event
    → ((out : on.Outcome) → Says out → MarksGo p event out q) → q.input.ahead ≡ p.input.ahead → is_other event ≡ true
    → ((out : on.Outcome) × Says out × Steps s p event out q) → GoesOn now event Says (state_of s q)
some_goes_on now s p q event Says view allowed marks ahead other steps = λ trace stands.
    let goes = goes_on now s p q event steps.0 view allowed steps.2 (marks steps.0 steps.1) ahead other trace stands in
    (goes.0, subst Says (sym goes.1) steps.1, goes.2, goes.3, goes.4, goes.5)

-- a frame may be asked for on a WebSocket alone
pub frame_pulled : (now : State) → IsFrameAllowed now → IsAllowed now on.pull
frame_pulled now is = first_true (allowed_by (setting_of now.settings) now.kept on.pull) _ is

pub frame_upgraded : (now : State) → IsFrameAllowed now → is_upgraded now.kept ≡ true
frame_upgraded now is = second_true (allowed_by (setting_of now.settings) now.kept on.pull) _ is

-- what is said of the connection is said of its parts
pub frame_parts : (now : State) (s : Settings) (p : Parts) → state_of s p ≡ now → IsFrameAllowed now → is_upgraded (kept_of p) ≡ true
frame_parts now s p view is = ap (λ (m : State). is_upgraded m.kept) view ∙ frame_upgraded now is

-- ---- an upgrade

accept_case : (over closes waits raw whole fits : Bool) → (not over && (if closes then false else ((waits && (raw && whole)) && fits))) ≡ true
    → (waits ≡ true) × (raw ≡ true)
accept_case true closes waits raw whole fits is = absurd (cc is)
accept_case false true waits raw whole fits is = absurd (cc is)
accept_case false false false raw whole fits is = absurd (cc is)
accept_case false false true false whole fits is = absurd (cc is)
accept_case false false true true whole fits is = (refl, refl)

accept_exchange : (set : Setting) (k : Kept) (e : Option Exchange) (limit : ℕ) → IsTrue (allowed_by set (record k { exchange = e }) (on.accept limit))
    → (waits_for_answer (record k { exchange = e }) ≡ true) × (is_raw_request (record k { exchange = e }) ≡ true)
unfolding allowed_by
accept_exchange set k None limit allowed =
    let both = accept_case k.is_over (is_some (closing_by set (record k { exchange = None }))) false false false (nat_le (limit + MAX_FRAME_HEAD) set.hold_size) allowed in
    absurd (let no : false ≡ true = both.0 in cc no)
accept_exchange set k (Some x) limit allowed = accept_case k.is_over (is_some (closing_by set (record k { exchange = Some x }))) _ x.asked.is_raw _ _ allowed

pub accept_waits : (s : Settings) (p : Parts) (limit : ℕ) → IsAllowed (state_of s p) (on.accept limit) → waits_for_answer (kept_of p) ≡ true
accept_waits s p limit allowed = (accept_exchange (setting_of s) (kept_of p) (kept_of p).exchange limit allowed).0

pub accept_raw : (s : Settings) (p : Parts) (limit : ℕ) → IsAllowed (state_of s p) (on.accept limit) → is_raw_request (kept_of p) ≡ true
accept_raw s p limit allowed = (accept_exchange (setting_of s) (kept_of p) (kept_of p).exchange limit allowed).1

-- ---- answers

waits_case : (k : Kept) (over closes : Bool) (waits : Bool) → (not over && (if closes then false else waits)) ≡ true → waits ≡ true
waits_case k true closes waits is = absurd (cc is)
waits_case k false true waits is = absurd (cc is)
waits_case k false false waits is = is

pub answer_waits : (s : Settings) (p : Parts) (head : AnswerHead) (size : BodySize) → IsAllowed (state_of s p) (on.answer head size) → waits_for_answer (kept_of p) ≡ true
unfolding allowed_by
answer_waits s p head size allowed = waits_case (kept_of p) p.is_over _ _ allowed

-- ---- ticks come before the year 10000

before_case : (over closes : Bool) (ordered : Bool) (ms : ℕ)
    → (not over && (if closes then (ordered && nat_lt ms MAX_MOMENT) else (ordered && nat_lt ms MAX_MOMENT))) ≡ true → ms < MAX_MOMENT
before_case true closes ordered ms is = absurd (cc is)
before_case false true false ms is = absurd (cc is)
before_case false false false ms is = absurd (cc is)
before_case false true true ms is = ltb-true ms MAX_MOMENT is
before_case false false true ms is = ltb-true ms MAX_MOMENT is

pub tick_before : (s : Settings) (p : Parts) (ms : ℕ) → IsAllowed (state_of s p) (on.tick ms) → ms < MAX_MOMENT
unfolding allowed_by
tick_before s p ms allowed = before_case p.is_over (is_some (closing_by (setting_of s) (kept_of p))) _ ms allowed

-- ---- what is said of the state

-- whether an event is allowed
pub allowed_traced : (now : State) (event : on.Event) (trace : List sums.Step) → Stands now trace
    → IsTrue (allowed_by (setting_of now.settings) now.kept event) ↔ traces.IsAllowed (setting_of now.settings) trace event
allowed_traced now event trace stands = allowed_of_trace (setting_of now.settings) now.kept trace event stands

-- why it closes
pub closing_traced : (now : State) (trace : List sums.Step) (past : List ParsedStep) → Stands now trace → IsPastOf (setting_of now.settings) trace past
    → closing_by (setting_of now.settings) now.kept ≡ closing (setting_of now.settings) past
closing_traced now trace past stands is_past = closing_of_trace (setting_of now.settings) now.kept trace past stands is_past

-- what is to be written
pub buffered_traced : (now : State) (trace : List sums.Step) → Stands now trace → now.kept.buffered ≡ buffered (setting_of now.settings) trace
buffered_traced now trace stands =
    ap (λ (k : Kept). k.buffered) stands.parts ∙ ap (λ (t : List sums.Step). buffered (setting_of now.settings) t) stands.of_trace.same

-- the first segment of it
pub front_traced : (now : State) (trace : List sums.Step) → Stands now trace → IsMarked now trace
    → first_segment now.marks now.kept.buffered ≡ front_of (setting_of now.settings) trace
front_traced now trace stands marked = λ i. first_segment (marked i) (buffered_traced now trace stands i)

-- what is held
pub held_traced : (now : State) (trace : List sums.Step) → Stands now trace → length now.kept.unread ≤ (setting_of now.settings).hold_size
held_traced now trace stands = unread_bounded (setting_of now.settings) now.kept trace stands

pub held_by_trace : (now : State) (trace : List sums.Step) (past : List ParsedStep) → Stands now trace → IsPastOf (setting_of now.settings) trace past
    → length now.kept.unread ≡ held past
held_by_trace now trace past stands is_past =
    let was = stands.past in
    ap (λ (k : Kept). length k.unread) stands.parts ∙ length-drop (passed was) (taken (steps was))
    ∙ ap held (past_of_unique (setting_of now.settings) trace was past stands.of_trace is_past)
