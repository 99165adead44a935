-- Requests that are held back.
use Rattle.std.proofs.Common.{◌≡◌, ℕ, Bool, true, false, Option, Some, None, is_some, refl, sym, ap, ◌∙◌}
use Rattle.std.specs.Prelude.{not, ◌&&◌, ◌||◌, if◌then◌else◌, unwrap_or}
use Rattle.model_h1.specs.Event as on
use Rattle.model_h1.specs.Handshake.{HandshakeError}
use Rattle.model_h1.specs.Setting.{Setting}
use Rattle.model_state.specs.Kept.{Exchange, Kept, Change}
use Rattle.model_state.specs.Change.{accepting, accepting_with}
use Rattle.model_state.specs.Change.{IsStep as Machine}
use Rattle.h1_connection.specs.EventMeaning.{setting_of, SaysOutcome}
use Rattle.h1_connection.specs.State.{Is}
use Rattle.h1_connection.specs.declared.event.Outcome.{Outcome}
use Rattle.h1_connection.specs.declared.event.Outcome.TheVariants as outcomes
use Rattle.h1_traced.specs.Traced.{TracedView, TracedSteps}
use Rattle.h1_dispatcher.specs.View.{View, Asking, waiting, is_waiting, is_held, is_checked, is_expecting, is_offered, may_accept, may_refuse, allows, any_answer, has_write_room}
use Rattle.h1_dispatcher.specs.Upgrades.{refused_in, refusal_of, waiting_in, held_in, expecting_in, Accepts}

first_true : (a b : Bool) → (a && b) ≡ true → a ≡ true
first_true true b is = refl
first_true false b is = absurd (cc is)

-- one that is held back waits, and so does one that may be accepted
pub held_waits : (v : View) → is_held v ≡ true → is_waiting v.stage ≡ true
held_waits v is = first_true (is_waiting v.stage) _ is

last_true : (a b : Bool) → (a && b) ≡ true → b ≡ true
last_true true b is = is
last_true false b is = absurd (cc is)

pub accepts_waits : (v : View) (limit : ℕ) → may_accept v limit ≡ true → is_waiting v.stage ≡ true
accepts_waits v limit is =
    first_true (is_waiting v.stage) _ (first_true (is_waiting v.stage && (v.holding && allows v (on.accept 0))) _ (last_true (not (is_some v.ending)) _ (first_true (is_offered v) _ is)))

pub accepts_allowed : (v : View) (limit : ℕ) → may_accept v limit ≡ true → allows v (on.accept limit) ≡ true
accepts_allowed v limit is = last_true (is_offered v) _ is

-- ---- a request that is turned away, and a client that is held back

refuses_held : (v : View) → may_refuse v ≡ true → (is_held v && (allows v any_answer && has_write_room v)) ≡ true
refuses_held v is = last_true (not (is_some v.ending)) _ is

pub refuses_in_room : (v : View) → may_refuse v ≡ true → has_write_room v ≡ true
refuses_in_room v is = last_true (allows v any_answer) _ (last_true (is_held v) _ (refuses_held v is))

pub refuses_waits : (v : View) → may_refuse v ≡ true → is_waiting v.stage ≡ true
refuses_waits v is = held_waits v (first_true (is_held v) _ (refuses_held v is))

-- one that isn't held back is let on
unchecked : (waits leave upgrade : Bool) → (waits && (leave || upgrade)) ≡ false → (waits && leave) ≡ false
unchecked true true upgrade is = is
unchecked true false upgrade is = refl
unchecked false leave upgrade is = refl

second_false : (a b : Bool) → b ≡ false → (a && b) ≡ false
second_false true b is = is
second_false false b is = refl

pub unasked_unchecked : (v : View) → (v.checking && allows v on.send_continue) ≡ false → is_checked v ≡ false
unasked_unchecked v is = second_false (is_waiting v.stage) _ is

pub unheld_unchecked : (v : View) → is_held v ≡ false → is_checked v ≡ false
unheld_unchecked v is = unchecked (is_waiting v.stage) (v.checking && allows v on.send_continue) (v.holding && allows v (on.accept 0)) is

-- ---- what the connection does with an upgrade

by_refusal : (set : Setting) (limit : ℕ) (x : Exchange) (k : Kept) (e : Option HandshakeError) (error : HandshakeError) → on.refused error ≡ (accepting set limit x k e).outcome
    → (accepting set limit x k e).kept ≡ k
by_refusal set limit x k (Some other) error is = refl
by_refusal set limit x k None error is = absurd (cc is)

by_exchange : (set : Setting) (limit : ℕ) (k : Kept) (e : Option Exchange) (error : HandshakeError) → on.refused error ≡ (accepting_with set limit k e).outcome
    → (accepting_with set limit k e).kept ≡ k
by_exchange set limit k None error is = absurd (cc is)
by_exchange set limit k (Some x) error is = by_refusal set limit x k x.refusal error is

by_change : (set : Setting) (limit : ℕ) (k : Kept) (c : Change) (error : HandshakeError) → c ≡ accepting_with set limit k k.exchange → on.refused error ≡ c.outcome → c.kept ≡ k
by_change set limit k c error is so =
    ap (λ (x : Change). x.kept) is ∙ by_exchange set limit k k.exchange error (so ∙ ap (λ (x : Change). x.outcome) is)

-- one that is refused changes nothing
pub refused_keeps : (set : Setting) (k later : Kept) (limit : ℕ) (error : HandshakeError) (out : on.Outcome) → out ≡ on.refused error
    → (m : Machine set k (on.accept limit) out later) → m.change.kept ≡ k
refused_keeps set k later limit error out says m = by_change set limit k m.change error m.changes (sym says ∙ m.answers)

-- and one that isn't is done
done_refusal : (set : Setting) (limit : ℕ) (x : Exchange) (k : Kept) (e : Option HandshakeError) → refused_in (accepting set limit x k e).outcome ≡ None
    → (accepting set limit x k e).outcome ≡ on.done
done_refusal set limit x k (Some other) is = absurd (cc is)
done_refusal set limit x k None is = refl

done_exchange : (set : Setting) (limit : ℕ) (k : Kept) (e : Option Exchange) → refused_in (accepting_with set limit k e).outcome ≡ None
    → (accepting_with set limit k e).outcome ≡ on.done
done_exchange set limit k None is = refl
done_exchange set limit k (Some x) is = done_refusal set limit x k x.refusal is

pub unrefused_done : (set : Setting) (k later : Kept) (limit : ℕ) (out : on.Outcome) → refused_in out ≡ None → Machine set k (on.accept limit) out later → out ≡ on.done
unrefused_done set k later limit out none m =
    let is = m.answers ∙ ap (λ (x : Change). x.outcome) m.changes in
    is ∙ done_exchange set limit k k.exchange (ap refused_in (sym is) ∙ none)

-- ---- what an outcome says

pub refusal_says : (outcome : Outcome) (out : on.Outcome) → SaysOutcome outcome out → refusal_of outcome ≡ refused_in out
refusal_says (outcomes.Took count) out says = ap refused_in (sym says)
refusal_says (outcomes.Head item) out says = ap refused_in (sym says.2)
refusal_says (outcomes.Bytes bytes) out says = ap refused_in (sym says)
refusal_says (outcomes.Trailers map) out says = ap refused_in (sym says.2)
refusal_says (outcomes.Frame frame) out says = ap refused_in (sym says)
refusal_says outcomes.BodyEnd out says = ap refused_in (sym says)
refusal_says outcomes.Pending out says = ap refused_in (sym says)
refusal_says (outcomes.Closed end) out says = ap refused_in (sym says)
refusal_says (outcomes.Fault fault) out says = ap refused_in (sym says)
refusal_says (outcomes.Broken fault) out says = ap refused_in (sym says)
refusal_says (outcomes.Protocol error) out says = ap refused_in (sym says.outcome_is)
refusal_says (outcomes.Refused error) out says = ap refused_in (sym says)
refusal_says (outcomes.Gave bytes) out says = ap refused_in (sym says)
refusal_says (outcomes.Expired end) out says = ap refused_in (sym says)
refusal_says outcomes.Abandoned out says = ap refused_in (sym says)
refusal_says outcomes.Done out says = ap refused_in (sym says)

-- the same of a traced connection
pub accepted_steps : (old new : TracedView) (limit : ℕ) (outcome : Outcome) → None ≡ refusal_of outcome
    → TracedSteps old (on.accept limit) (SaysOutcome outcome) new → TracedSteps old (on.accept limit) (Is on.done) new
accepted_steps old new limit outcome none steps = λ trace stands.
    let x = steps trace stands in
    let done = unrefused_done (setting_of old.state.settings) old.state.kept new.state.kept limit x.0 (sym (none ∙ refusal_says outcome x.0 x.1)) x.2.machine in
    (x.0, done, x.2)

refused_is : (error : HandshakeError) (out : on.Outcome) → Some error ≡ refused_in out → out ≡ on.refused error
refused_is error (on.refused other) is = ap (λ (e : Option HandshakeError). on.refused (unwrap_or e error)) (sym is)
refused_is error (on.took n) is = absurd (cc is)
refused_is error (on.head h) is = absurd (cc is)
refused_is error (on.bytes b) is = absurd (cc is)
refused_is error (on.trailers h) is = absurd (cc is)
refused_is error on.body_ended is = absurd (cc is)
refused_is error (on.frame f) is = absurd (cc is)
refused_is error on.pending is = absurd (cc is)
refused_is error (on.closed end) is = absurd (cc is)
refused_is error (on.fault f) is = absurd (cc is)
refused_is error (on.broken_by f) is = absurd (cc is)
refused_is error (on.protocol e) is = absurd (cc is)
refused_is error (on.gave b) is = absurd (cc is)
refused_is error (on.expired end) is = absurd (cc is)
refused_is error on.abandoned is = absurd (cc is)
refused_is error on.done is = absurd (cc is)

pub refused_steps : (old new : TracedView) (limit : ℕ) (outcome : Outcome) (error : HandshakeError) → Some error ≡ refusal_of outcome
    → TracedSteps old (on.accept limit) (SaysOutcome outcome) new → TracedSteps old (on.accept limit) (Is (on.refused error)) new
refused_steps old new limit outcome error some steps = λ trace stands.
    let x = steps trace stands in
    (x.0, refused_is error x.0 (some ∙ refusal_says outcome x.0 x.1), x.2)

-- what the upgrade does: the request stays held back where it fails a check
pub accepts_says : (v w : View) (limit : ℕ) (outcome : Outcome) (refusal : Option HandshakeError) → may_accept v limit ≡ true → refusal ≡ refusal_of outcome
    → TracedSteps v.traced (on.accept limit) (SaysOutcome outcome) w.traced → w.traced.state.settings ≡ v.traced.state.settings → w.traced.listens ≡ v.traced.listens → w ≡ record v { traced = w.traced }
    → Accepts v limit w refusal
accepts_says v w limit outcome None may is steps settings listens same =
    (record { steps = accepted_steps v.traced w.traced limit outcome is steps; settings = settings; listens = listens }, same)
accepts_says v w limit outcome (Some error) may is steps settings listens same =
    (may, record { steps = refused_steps v.traced w.traced limit outcome error is steps; settings = settings; listens = listens }, same)

-- ---- the one that is shown

pub held_off : (v : View) → is_offered v ≡ false → None ≡ held_in v
held_off v is = ap (λ (b : Bool). if b then waiting_in v.stage else None) (sym is)

pub held_none : (v : View) → waiting_in v.stage ≡ None → None ≡ held_in v
held_none v none = by_offer (is_offered v)
  where
    by_offer : (b : Bool) → None ≡ (if b then waiting_in v.stage else None)
    by_offer true = sym none
    by_offer false = refl

pub held_some : (v : View) (request : Asking) → is_offered v ≡ true → v.stage ≡ waiting request → Some request ≡ held_in v
held_some v request is stage = sym (ap waiting_in stage) ∙ ap (λ (b : Bool). if b then waiting_in v.stage else None) (sym is)

pub expecting_off : (v : View) → is_expecting v ≡ false → None ≡ expecting_in v
expecting_off v is = ap (λ (b : Bool). if b then waiting_in v.stage else None) (sym is)

pub expecting_none : (v : View) → waiting_in v.stage ≡ None → None ≡ expecting_in v
expecting_none v none = by_expect (is_expecting v)
  where
    by_expect : (b : Bool) → None ≡ (if b then waiting_in v.stage else None)
    by_expect true = sym none
    by_expect false = refl

pub expecting_some : (v : View) (request : Asking) → is_expecting v ≡ true → v.stage ≡ waiting request → Some request ≡ expecting_in v
expecting_some v request is stage = sym (ap waiting_in stage) ∙ ap (λ (b : Bool). if b then waiting_in v.stage else None) (sym is)
