-- The places of body bytes among those that wait, behind each event.
use Rattle.std.proofs.Common.{◌≡◌, ℕ, ◌<◌, ◌≤◌, List, [], ◌∷◌, ◌++◌, length, take, drop, Option, Some, None, refl, sym, ap, ◌∙◌, append-nil, take-append-drop, arith}
use Rattle.std.specs.Prelude.{min}
use Rattle.std.proofs.lemmas.List.{length-take, length-take-le, take_min, drop_min}
use Rattle.model_h1.specs.Runs.{Run}
use Rattle.model_h1.specs.Answer.{Asked}
use Rattle.model_h1.specs.Event as on
use Rattle.h1_encoder.specs.Meaning.{model_shape}
use Rattle.model_state.specs.Runs.{runs_behind}
use Rattle.model_state.specs.After.{added, after_outcome, marks_after, run_sent}
use Rattle.h1_output.specs.Queued.{Queued, behind, IsStretch}
use Rattle.h1_payload.specs.Rests.{SaysPulled}
use Rattle.h1_payload.specs.declared.pulled.Pulled.{Pulled as Answer}
use Rattle.h1_payload.specs.declared.pulled.Pulled.TheVariants as pulled
use Rattle.h1_connection.specs.Frames.{SaysFrame, SaysSent, accepted_of}
use Rattle.h1_connection.specs.Parts.{kept_of, asked_in, sending_in, sending_by}
use Rattle.h1_connection.specs.Sent.{with_sent}
use Rattle.h1_connection.specs.Ticks.{expiry_of}
use Rattle.h1_connection.specs.declared.connection.exchange.Exchange.{Exchange}
use Rattle.h1_connection.specs.declared.connection.exchange.Sending.{Sending}
use Rattle.h1_connection.specs.declared.connection.exchange.Reply.{Reply}
use Rattle.h1_connection.specs.declared.connection.exchange.Reply.TheVariants.{Unanswered, Sending as GoesOut, Answered}
use Rattle.h1_connection.specs.declared.connection.frames.Accepted.{Accepted}
use Rattle.h1_connection.specs.declared.connection.frames.Accepted.TheVariants as accepted
use Rattle.h1_connection.specs.declared.connection.frames.PulledFrame.{PulledFrame}
use Rattle.h1_connection.specs.declared.connection.frames.PulledFrame.TheVariants as pulled_frame
use Rattle.h1_connection.specs.declared.connection.frames.Sent.{Sent}
use Rattle.h1_connection.specs.declared.connection.frames.Sent.TheVariants as sent
use Rattle.h1_connection.specs.declared.connection.parts.Parts.{Parts}
use Rattle.h1_connection.specs.declared.connection.ticks.Expiry.{Expiry}
use Rattle.h1_connection.specs.declared.connection.ticks.Expiry.TheVariants as expiry
use Rattle.h1_connection.proofs.AnswerLemmas.{some_sending}

-- what the event and its outcome do to them
abbrev pub MarksGo : Parts → on.Event → on.Outcome → Parts → Type 0
MarksGo p event out q = q.output.marks ≡ marks_after (kept_of p) event out p.output.marks

-- ---- a piece of an answer's body

pub chunk_marks : (p : Parts) (asked : Asked) (z : Sending) (piece : List ℕ) (queue : Queued) → asked_in p.exchange ≡ Some asked → sending_in p.exchange ≡ Some z
    → queue ≡ with_sent asked (model_shape z.shape) z.missing piece p.output
    → queue.marks ≡ marks_after (kept_of p) (on.chunk piece) on.done p.output.marks
chunk_marks p asked z piece queue asks sends is =
    let e = some_sending p.exchange asked z asks sends in
    ap (λ (q : Queued). q.marks) is
    ∙ ap (λ (a : Asked). p.output.marks ++ run_sent (length p.output.bytes) a (model_shape z.shape) z.missing piece) (sym e.2)
    ∙ ap (λ (o : Option Exchange). p.output.marks ++ added piece (kept_of (record p { exchange = o }))) (sym e.1)

-- where no body is going out
none_added : (p : Parts) (x : Exchange) (r : Reply) (piece : List ℕ) → sending_by r ≡ None → [] ≡ added piece (kept_of (record p { exchange = Some (record x { reply = r }) }))
none_added p x Unanswered piece is = refl
none_added p x (GoesOut y) piece is = absurd (cc is)
none_added p x (Answered kind) piece is = refl

none_sent : (p : Parts) (e : Option Exchange) (piece : List ℕ) → sending_in e ≡ None → [] ≡ added piece (kept_of (record p { exchange = e }))
none_sent p None piece is = refl
none_sent p (Some x) piece is = none_added p x x.reply piece is

pub no_chunk_marks : (p : Parts) (piece : List ℕ) → sending_in p.exchange ≡ None → p.output.marks ≡ marks_after (kept_of p) (on.chunk piece) on.done p.output.marks
no_chunk_marks p piece sends = sym (append-nil p.output.marks) ∙ ap (λ (l : List Run). p.output.marks ++ l) (none_sent p p.exchange piece sends)

-- ---- bytes that are given away

pub given_marks : (q r : Queued) (limit : ℕ) (given : List ℕ) → given ≡ take limit q.bytes → r ≡ behind (min limit (length q.bytes)) q
    → r.marks ≡ runs_behind (length given) q.marks
given_marks q r limit given given_is is =
    ap (λ (q : Queued). q.marks) is ∙ ap (λ n. runs_behind n q.marks) (sym (ap length given_is ∙ length-take limit q.bytes))

pub given_rest : (q r : Queued) (limit : ℕ) → r ≡ behind (min limit (length q.bytes)) q → r.bytes ≡ drop limit q.bytes
given_rest q r limit is = ap (λ (q : Queued). q.bytes) is ∙ drop_min limit q.bytes

pub moved_queue : (q r : Queued) (limit count : ℕ) → count ≡ min limit (length q.bytes) → r ≡ behind count q → r ≡ behind (min limit (length q.bytes)) q
moved_queue q r limit count count_is is = is ∙ ap (λ n. behind n q) count_is

pub passed_queue : (q r : Queued) (count : ℕ) → count ≤ length q.bytes → r ≡ behind count q → r ≡ behind (min count (length q.bytes)) q
passed_queue q r count fits is =
    let least : count ≡ min count (length q.bytes) = sym (length-take-le count q.bytes fits) ∙ length-take count q.bytes in
    is ∙ ap (λ n. behind n q) least

-- ---- an outcome that gives none away

quiet : (out other : on.Outcome) (marks : List Run) → out ≡ other → marks ≡ after_outcome other marks → marks ≡ after_outcome out marks
quiet out other marks is here = here ∙ ap (λ (o : on.Outcome). after_outcome o marks) (sym is)

pub quiet_pull : (answer : Answer) (out : on.Outcome) (marks : List Run) → SaysPulled answer out → marks ≡ after_outcome out marks
quiet_pull (pulled.Bytes bytes) out marks is = quiet out (on.bytes bytes) marks is refl
quiet_pull (pulled.Trailers entries) out marks is = quiet out (on.trailers is.0) marks is.1 refl
quiet_pull pulled.End out marks is = quiet out on.body_ended marks is refl
quiet_pull (pulled.Broken fault) out marks is = quiet out (on.broken_by _) marks is refl
quiet_pull pulled.Pending out marks is = quiet out on.pending marks is refl

pub quiet_frame : (answer : PulledFrame) (out : on.Outcome) (marks : List Run) → SaysFrame answer out → marks ≡ after_outcome out marks
quiet_frame (pulled_frame.Frame given) out marks is = quiet out (on.frame _) marks is.0 refl
quiet_frame (pulled_frame.Protocol error) out marks is = quiet out (on.protocol is.rule) marks is.outcome_is refl
quiet_frame pulled_frame.Pending out marks is = quiet out on.pending marks is refl

pub quiet_send : (answer : Sent) (out : on.Outcome) (marks : List Run) → SaysSent answer out → marks ≡ after_outcome out marks
quiet_send sent.Done out marks is = quiet out on.done marks is refl
quiet_send (sent.Protocol error) out marks is = quiet out (on.protocol is.rule) marks is.outcome_is refl

pub quiet_tick : (e : Expiry) (marks : List Run) → marks ≡ after_outcome (expiry_of e) marks
quiet_tick expiry.None marks = refl
quiet_tick (expiry.Expired end) marks = refl
quiet_tick expiry.Abandoned marks = refl

pub quiet_accept : (a : Accepted) (marks : List Run) → marks ≡ after_outcome (accepted_of a) marks
quiet_accept accepted.Done marks = refl
quiet_accept (accepted.Refused error) marks = refl

-- ---- what is written next

pub stretch_first : (all front : List ℕ) → IsStretch all front → (rest : List ℕ) × (front ++ rest ≡ all)
stretch_first all front is = (drop (length front) all, ap (λ l. l ++ drop (length front) all) (sym is.begins) ∙ take-append-drop (length front) all)

pub stretch_some : (all front : List ℕ) → IsStretch all front → length front ≡ 0 → length all ≡ 0
stretch_some [] front is none = refl
stretch_some (b ∷ all) front is none =
    absurd
    (let has : 0 < length front = is.some (omega arith) in
    omega arith)

-- a copy of the first bytes, as many as fit
pub copied_first : (all now : List ℕ) (room count : ℕ) → count ≡ min room (length all) → take count now ≡ take count all → take count now ≡ take room all
copied_first all now room count count_is same = same ∙ ap (λ n. take n all) count_is ∙ take_min room all
