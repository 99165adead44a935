-- Which steps of a client's connection put a part of a reply, leave the rest of a body, or hand out a head.
use Rattle.std.proofs.Common.{◌≡◌, Bool, true, false, List, [], ◌∷◌, ◌++◌, Option, Some, None, refl, sym, ap, ◌∙◌, subst}
use Rattle.std.specs.Prelude.{slice_get}
use Rattle.model_h1.specs.Setting.{Setting}
use Rattle.model_h1.specs.Event as on
use Rattle.model_h1.specs.Frame.{ProtocolError}
use Rattle.model_h1.specs.FrameText.{PlacedFrame}
use Rattle.model_h1.specs.OutcomeTable.{gave_trailers, ended_outcome, stop_outcome, run_left, run_outcome, frame_outcome, body_outcome, pull_outcome, outcome_of}
use Rattle.model_h1.specs.Parse.{Message, Body, no_content, content, frames, Stop, ended_at, still_open, broken, cut}
use Rattle.model_h1.specs.Past.{ParsedStep, steps, current, given_bytes, given_frames}
use Rattle.model_h1.specs.Request.{Head, Header}
use Rattle.model_h1.specs.Runs.{Run}
use Rattle.model_h1.specs.Sums as sums
use Rattle.model_h1.specs.Sums.{Step}
use Rattle.model_h1.specs.Trace.{IsTrace}
use Rattle.model_proxy.specs.Parts.{Part, begins, continues, ends, breaks_off, goes_on, hands, takes, takes_end, request_breaks, leaves_rest, has_closed, other_event, parts_told, parts_by}
use Rattle.model_proxy.specs.Moves.{HasBrought}
use Rattle.model_proxy.proofs.Quiet.{brought, done_brings_nothing}
use Rattle.model_proxy.proofs.PartSteps.{BringsSo, nothing_told, never_none, PutsOne}

-- ---- which step a part is

-- the event of a part that is put, or that leaves the rest of a body
abbrev pub event_of : Part → Option on.Event
event_of (begins put) = Some (on.answer put.head put.size)
event_of (continues bytes) = Some (on.chunk bytes)
event_of ends = Some on.body_end
event_of breaks_off = Some on.body_error
event_of goes_on = Some on.send_continue
event_of leaves_rest = Some on.drop_body
event_of part = None

other_event_of : (p q : Part) (e : on.Event) → p ∷ [] ≡ q ∷ [] → event_of p ≡ None → event_of q ≡ Some e → ⊥
other_event_of p q e same none some =
    let is : p ≡ q = cc same in
    let no : ◌≡◌ {A = Option on.Event} None (Some e) = sym none ∙ ap event_of is ∙ some in
    cc no

same_event : (p q : Part) (a e : on.Event) → p ∷ [] ≡ q ∷ [] → event_of p ≡ Some a → event_of q ≡ Some e → a ≡ e
same_event p q a e same first second =
    let is : p ≡ q = cc same in
    let both : Some a ≡ Some e = sym first ∙ ap event_of is ∙ second in
    let here : a ≡ e = cc both in
    here

told_no_event : (o : on.Outcome) (q : Part) (e : on.Event) → parts_told o ≡ q ∷ [] → event_of q ≡ Some e → ⊥
told_no_event (on.head h) q e one is = other_event_of (hands h) q e one refl is
told_no_event (on.bytes bytes) q e one is = other_event_of (takes bytes) q e one refl is
told_no_event on.body_ended q e one is = other_event_of takes_end q e one refl is
told_no_event (on.broken_by fault) q e one is = other_event_of (request_breaks fault) q e one refl is
told_no_event (on.closed end) q e one is = other_event_of has_closed q e one refl is
told_no_event (on.took n) q e one is = other_event_of other_event q e one refl is
told_no_event (on.gave bytes) q e one is = other_event_of other_event q e one refl is
told_no_event (on.trailers lines) q e one is = never_none q one
told_no_event (on.frame f) q e one is = never_none q one
told_no_event on.pending q e one is = never_none q one
told_no_event (on.fault f) q e one is = never_none q one
told_no_event (on.protocol error) q e one is = never_none q one
told_no_event (on.refused error) q e one is = never_none q one
told_no_event (on.expired end) q e one is = never_none q one
told_no_event on.abandoned q e one is = never_none q one
told_no_event on.done q e one is = never_none q one

pub is_event : (event : on.Event) (o : on.Outcome) (q : Part) (e : on.Event) → parts_by event o ≡ q ∷ [] → event_of q ≡ Some e → event ≡ e
is_event on.next o q e one is = absurd (told_no_event o q e one is)
is_event on.pull o q e one is = absurd (told_no_event o q e one is)
is_event (on.answer head size) o q e one is = same_event (begins (record { head = head; size = size })) q (on.answer head size) e one refl is
is_event (on.chunk bytes) o q e one is = same_event (continues bytes) q (on.chunk bytes) e one refl is
is_event on.body_end o q e one is = same_event ends q on.body_end e one refl is
is_event on.body_error o q e one is = same_event breaks_off q on.body_error e one refl is
is_event on.drop_body o q e one is = same_event leaves_rest q on.drop_body e one refl is
is_event on.send_continue o q e one is = same_event goes_on q on.send_continue e one refl is
is_event (on.read bytes) o q e one is = absurd (other_event_of other_event q e one refl is)
is_event on.eof o q e one is = absurd (other_event_of other_event q e one refl is)
is_event (on.write n) o q e one is = absurd (other_event_of other_event q e one refl is)
is_event (on.tick ms) o q e one is = absurd (other_event_of other_event q e one refl is)
is_event on.drain o q e one is = absurd (other_event_of other_event q e one refl is)
is_event (on.accept limit) o q e one is = absurd (other_event_of other_event q e one refl is)
is_event (on.send m) o q e one is = absurd (other_event_of other_event q e one refl is)

-- its outcome is the table's
table_as : (setting : Setting) (past : List ParsedStep) (a e : on.Event) → outcome_of setting past a ≡ on.done → Some a ≡ Some e → outcome_of setting past e ≡ on.done
table_as setting past a e done is =
    let same : a ≡ e = cc is in
    subst (λ (b : on.Event). outcome_of setting past b ≡ on.done) same done

no_event : (e : on.Event) → ◌≡◌ {A = Option on.Event} None (Some e) → ⊥
no_event e is = cc is

table_of : (setting : Setting) (past : List ParsedStep) (q : Part) (e : on.Event) → event_of q ≡ Some e → outcome_of setting past e ≡ on.done
unfolding outcome_of
table_of setting past (begins put) e is = table_as setting past (on.answer put.head put.size) e refl is
table_of setting past (continues bytes) e is = table_as setting past (on.chunk bytes) e refl is
table_of setting past ends e is = table_as setting past on.body_end e refl is
table_of setting past breaks_off e is = table_as setting past on.body_error e refl is
table_of setting past goes_on e is = table_as setting past on.send_continue e refl is
table_of setting past leaves_rest e is = table_as setting past on.drop_body e refl is
table_of setting past (hands h) e is = absurd (no_event e is)
table_of setting past (takes bytes) e is = absurd (no_event e is)
table_of setting past takes_end e is = absurd (no_event e is)
table_of setting past (request_breaks fault) e is = absurd (no_event e is)
table_of setting past has_closed e is = absurd (no_event e is)
table_of setting past other_event e is = absurd (no_event e is)

-- the step of a part that is put
pub step_of : (setting : Setting) (q : Part) (e : on.Event) (rest : List Part) (more before : List Step) → event_of q ≡ Some e → (x : PutsOne q rest more)
    → IsTrace setting (x.step ∷ (x.first ++ before)) → x.step ≡ record { event = e; outcome = on.done }
step_of setting q e rest more before is x traced =
    let event : x.step.event ≡ e = is_event x.step.event x.step.outcome q e x.one is in
    let out : x.step.outcome ≡ on.done =
    traced.1.2 ∙ ap (outcome_of setting traced.1.0) event ∙ table_of setting traced.1.0 q e is in
    ap (λ (a : on.Event). record { event = a; outcome = x.step.outcome }) event ∙ ap (λ (o : on.Outcome). record { event = e; outcome = o }) out

-- it brings nothing of a request
pub put_brings : (event : on.Event) (before : List Step) → sums.step_taken event on.done ≡ [] → sums.tick_of event ≡ None → sums.is_eof event ≡ false
    → HasBrought on.done before (record { event = event; outcome = on.done } ∷ before)
put_brings event before took tick going = brought event on.done before took refl tick going

-- the rest of a request's body is left
pub drop_brings : (before : List Step) → BringsSo on.pending (record { event = on.drop_body; outcome = on.done }) before
drop_brings before = nothing_told on.drop_body on.done before refl refl refl refl (record { event = refl; headless = refl }) done_brings_nothing

-- ---- a head is handed out

abbrev head_in : Part → Option Head
head_in (hands h) = Some h
head_in part = None

other_head : (p : Part) (h : Head) → p ∷ [] ≡ hands h ∷ [] → head_in p ≡ None → ⊥
other_head p h e none =
    let same : p ≡ hands h = cc e in
    let no : ◌≡◌ {A = Option Head} None (Some h) = sym none ∙ ap head_in same in
    cc no

told_head : (o : on.Outcome) (h : Head) → parts_told o ≡ hands h ∷ [] → o ≡ on.head h
told_head (on.head g) h e =
    let same : hands g ≡ hands h = cc e in
    let is : g ≡ h = cc same in
    ap on.head is
told_head (on.bytes bytes) h e = absurd (other_head (takes bytes) h e refl)
told_head on.body_ended h e = absurd (other_head takes_end h e refl)
told_head (on.broken_by fault) h e = absurd (other_head (request_breaks fault) h e refl)
told_head (on.closed end) h e = absurd (other_head has_closed h e refl)
told_head (on.took n) h e = absurd (other_head other_event h e refl)
told_head (on.gave bytes) h e = absurd (other_head other_event h e refl)
told_head (on.trailers lines) h e = absurd (never_none (hands h) e)
told_head (on.frame f) h e = absurd (never_none (hands h) e)
told_head on.pending h e = absurd (never_none (hands h) e)
told_head (on.fault f) h e = absurd (never_none (hands h) e)
told_head (on.protocol error) h e = absurd (never_none (hands h) e)
told_head (on.refused error) h e = absurd (never_none (hands h) e)
told_head (on.expired end) h e = absurd (never_none (hands h) e)
told_head on.abandoned h e = absurd (never_none (hands h) e)
told_head on.done h e = absurd (never_none (hands h) e)

-- more of a body is no head
ended_no_head : (t : Bool) (lines : List Header) (h : Head) → ended_outcome t lines ≡ on.head h → ⊥
ended_no_head t [] h e = cc e
ended_no_head true (line ∷ lines) h e = cc e
ended_no_head false (line ∷ lines) h e = cc e

stop_no_head : (t : Bool) (stop : Stop) (h : Head) → stop_outcome t stop ≡ on.head h → ⊥
stop_no_head t (ended_at place lines) h e = ended_no_head t lines h e
stop_no_head t still_open h e = cc e
stop_no_head t broken h e = cc e
stop_no_head t cut h e = cc e

run_no_head : (trace : List Step) (stop : Stop) (r : Option Run) (h : Head) → run_outcome trace stop r ≡ on.head h → ⊥
run_no_head trace stop (Some r) h e = cc e
run_no_head trace stop None h e = stop_no_head (gave_trailers trace) stop h e

frame_no_head : (fail : Option ProtocolError) (f : Option PlacedFrame) (h : Head) → frame_outcome fail f ≡ on.head h → ⊥
frame_no_head fail (Some f) h e = cc e
frame_no_head (Some error) None h e = cc e
frame_no_head None None h e = cc e

body_no_head : (trace : List Step) (body : Body) (h : Head) → body_outcome trace body ≡ on.head h → ⊥
body_no_head trace no_content h e = cc e
body_no_head trace (content runs stop) h e = run_no_head trace stop (run_left (given_bytes trace) runs) h e
body_no_head trace (frames placed fail) h e = frame_no_head fail (slice_get placed (given_frames trace)) h e

pull_no_head : (trace : List Step) (m : Option Message) (h : Head) → pull_outcome trace m ≡ on.head h → ⊥
pull_no_head trace None h e = cc e
pull_no_head trace (Some m) h e = body_no_head trace m.body h e

pub hands_so : (setting : Setting) (event : on.Event) (o : on.Outcome) (before : List Step) (h : Head) → parts_by event o ≡ hands h ∷ []
    → IsTrace setting (record { event = event; outcome = o } ∷ before)
    → ◌≡◌ {A = Step} (record { event = event; outcome = o }) (record { event = on.next; outcome = on.head h })
unfolding outcome_of
hands_so setting on.next o before h e traced =
    let step : on.Outcome → Step = λ a. record { event = on.next; outcome = a } in
    ap step (told_head o h e)
hands_so setting on.pull o before h e traced =
    absurd (pull_no_head (steps traced.1.0) (current traced.1.0) h (sym traced.1.2 ∙ told_head o h e))
hands_so setting (on.answer head size) o before h e traced = absurd (other_head (begins (record { head = head; size = size })) h e refl)
hands_so setting (on.chunk bytes) o before h e traced = absurd (other_head (continues bytes) h e refl)
hands_so setting on.body_end o before h e traced = absurd (other_head ends h e refl)
hands_so setting on.body_error o before h e traced = absurd (other_head breaks_off h e refl)
hands_so setting on.drop_body o before h e traced = absurd (other_head leaves_rest h e refl)
hands_so setting on.send_continue o before h e traced = absurd (other_head goes_on h e refl)
hands_so setting (on.read bytes) o before h e traced = absurd (other_head other_event h e refl)
hands_so setting on.eof o before h e traced = absurd (other_head other_event h e refl)
hands_so setting (on.write n) o before h e traced = absurd (other_head other_event h e refl)
hands_so setting (on.tick ms) o before h e traced = absurd (other_head other_event h e refl)
hands_so setting on.drain o before h e traced = absurd (other_head other_event h e refl)
hands_so setting (on.accept limit) o before h e traced = absurd (other_head other_event h e refl)
hands_so setting (on.send m) o before h e traced = absurd (other_head other_event h e refl)
