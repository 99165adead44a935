-- Single steps, by what the calls of a turn ensure.
use Rattle.std.proofs.Common.{◌≡◌, ◌<◌, ◌≤◌, ◌⊎◌, ℕ, zero, suc, Bool, true, false, Option, Some, None, is_some, List, [], length, take, Result, Ok, inl, inr, refl, sym, ap, ◌∙◌, subst}
use Rattle.std.specs.Prelude.{not, ◌&&◌, if◌then◌else◌}
use Rattle.futures.specs.declared.task.Poll.{Poll}
use Rattle.futures.specs.declared.task.Poll.TheVariants.{Ready}
use Rattle.http_config.specs.declared.Failed.{Failed}
use Rattle.http_framing.specs.declared.body.size.BodySize.{BodySize}
use Rattle.http_framing.specs.declared.body.size.BodySize.TheVariants.{None as NoBody, Sized, Stream}
use Rattle.http_bodies.specs.Giving.{Giving, Piece, PieceSays}
use Rattle.http_services.specs.Lent as lent
use Rattle.http_services.specs.Lent.{LentBound, lent_of}
use Rattle.http_services.specs.Queue.{new_queue}
use Rattle.http_services.specs.Status.{status_of, Asked}
use Rattle.http_services.specs.declared.h1.send.PayloadStatus.{PayloadStatus}
use Rattle.http_services.specs.declared.h1.send.PayloadStatus.TheVariants as status
use Rattle.h1_payload.specs.Rests.{SaysPulled}
use Rattle.h1_payload.specs.declared.pulled.Pulled.{Pulled}
use Rattle.h1_payload.specs.declared.pulled.Pulled.TheVariants as pieces
use Rattle.http_services.specs.Serving.{AnswerSays, Takes}
use Rattle.http_transport.specs.Wiring.{ReadSays, moved}
use Rattle.model_h1.specs.Answer.{AnswerHead}
use Rattle.model_h1.specs.Answer as answers
use Rattle.model_h1.specs.Event as on
use Rattle.model_h1.specs.Setting.{Setting}
use Rattle.model_state.specs.Kept.{Kept}
use Rattle.model_state.specs.Local.{closing_by, allowed_by, is_answering, has_room}
use Rattle.h1_encoder.specs.Meaning.{answer_of, size_of}
use Rattle.h1_connection.specs.Heads.{SaysNext}
use Rattle.h1_connection.specs.State.{Is}
use Rattle.h1_connection.specs.declared.connection.heads.NextHead.{NextHead}
use Rattle.h1_traced.specs.Traced.{TracedSteps, TracedFails}
use Rattle.http_types.specs.Response.{FullResponse}
use Rattle.h1_dispatcher.specs.declared.dispatcher.Ending.TheVariants.{Broken}
use Rattle.h1_dispatcher.specs.declared.dispatcher.Work.{Work}
use Rattle.h1_dispatcher.specs.declared.dispatcher.Work.TheVariants.{Replying}
use Rattle.h1_dispatcher.specs.View.{View, Answer, free, calling, replying, sending, is_busy, allows_chunk, allows, allows_next, has_write_room, allows_answer, any_answer, awaits_body, room}
use Rattle.h1_dispatcher.specs.Steps.{IsStep, Took, Wants, fed_with, pulled, paused, failed_fed, IsOfRead, Polls, replied, Sent, Lacked, queue_at, holding_at, checking_at, request_at, stage_at, ending_told, stage_answered, stage_replied, stage_sent, sent, failed_sent, read, next, answered, failed_read}
use Rattle.h1_dispatcher.proofs.Turns.{now_free, both_true}

-- whether an answer is allowed doesn't depend on it
pub any_allowed : (set : Setting) (k : Kept) (head : AnswerHead) (size : answers.BodySize) → allowed_by set k any_answer ≡ true → allowed_by set k (on.answer head size) ≡ true
unfolding allowed_by
any_allowed set k head size is = is

pub read_step : (v w : View) (came buf : List ℕ) (answer : Poll (Result ℕ Failed)) → v.ending ≡ None → allows v on.eof ≡ true → 0 < length buf → length buf ≤ room v
    → came ≡ moved answer buf → ReadSays v.transport w.transport answer buf → Took v.traced w.traced came answer → w ≡ record v { traced = w.traced; transport = w.transport }
    → IsStep v (read came answer) w
read_step v w came buf answer running may some fits moves says took same = (running, may, (buf, some, fits, moves, says), took, same)

pub read_fails : (v w : View) (came buf : List ℕ) (count : ℕ) (event : on.Event) → v.ending ≡ None → allows v on.eof ≡ true → 0 < length buf → length buf ≤ room v
    → came ≡ take count buf → ReadSays {E = Failed} v.transport w.transport (Ready (Ok count)) buf → IsOfRead count came event → TracedFails v.traced event w.traced
    → w ≡ record v { traced = w.traced; transport = w.transport; ending = Some Broken } → IsStep v (failed_read came event) w
read_fails v w came buf count event running may some fits moves says is fails same = (running, may, (buf, count, some, fits, moves, says, is), fails, same)

pub polled : (v w : View) (took more : Option lent.Took) (answer : Poll (Result Answer Answer)) → v.ending ≡ None → allows_answer v ≡ true → v.stage ≡ calling took → AnswerSays v.service w.service answer
    → Takes took more (lent_of v.queue) (lent_of w.queue) → LentBound (lent_of v.queue) (lent_of w.queue)
    → w ≡ record v { service = w.service; queue = w.queue; stage = stage_answered more answer } → IsStep v (answered answer) w
polled v w took more answer running allowed calls says takes bound same =
    record { running = running; allowed = allowed; took = took; calls = calls; says = says; more = more; takes = takes; bound = bound; same = same }

pub asked_next : (v w : View) (head : NextHead) → v.ending ≡ None → is_busy v.stage ≡ false → allows_next v ≡ true → has_write_room v ≡ true → TracedSteps v.traced on.next (SaysNext head) w.traced
    → w.traced.state.settings ≡ v.traced.state.settings → w.traced.listens ≡ v.traced.listens → w ≡ record v { traced = w.traced; queue = w.queue; stage = w.stage; ending = w.ending; holding = w.holding; checking = w.checking }
    → w.queue ≡ queue_at head v.queue → w.stage ≡ stage_at (request_at v.peer head) → w.ending ≡ ending_told head → w.holding ≡ holding_at head v → w.checking ≡ checking_at head v → IsStep v (next v.peer head) w
asked_next v w head running idle allowed some steps settings listens same fresh stage ends holds checks = (
  running,
  now_free v.stage idle,
  both_true (allows_next v) (has_write_room v) allowed some,
  record { steps = steps; settings = settings; listens = listens },
  same ∙ ap (λ x. record v { traced = w.traced; queue = x; stage = w.stage; ending = w.ending; holding = w.holding; checking = w.checking }) fresh
      ∙ ap (λ x. record v { traced = w.traced; queue = queue_at head v.queue; stage = x; ending = w.ending; holding = w.holding; checking = w.checking }) stage
      ∙ ap (λ x. record v { traced = w.traced; queue = queue_at head v.queue; stage = stage_at (request_at v.peer head); ending = x; holding = w.holding; checking = w.checking }) ends
      ∙ ap (λ x. record v { traced = w.traced; queue = queue_at head v.queue; stage = stage_at (request_at v.peer head); ending = ending_told head; holding = x; checking = w.checking }) holds
      ∙ ap (λ x. record v { traced = w.traced; queue = queue_at head v.queue; stage = stage_at (request_at v.peer head); ending = ending_told head; holding = holding_at head v; checking = x }) checks,
  refl,
)

-- whether a piece is allowed doesn't depend on it, and where one is, the body may end or fail
pub any_chunk : (set : Setting) (k : Kept) (bytes : List ℕ) → allowed_by set k (on.chunk []) ≡ true → allowed_by set k (on.chunk bytes) ≡ true
unfolding allowed_by
any_chunk set k bytes is = is

without_room : (over closing answering room : Bool) → (not over && (if closing then false else (answering && room))) ≡ true → (not over && (if closing then false else answering)) ≡ true
without_room false false true true is = refl
without_room false false true false is = absurd (cc is)
without_room false false false room is = absurd (cc is)
without_room false true answering room is = absurd (cc is)
without_room true closing answering room is = absurd (cc is)

pub may_end : (set : Setting) (k : Kept) → allowed_by set k (on.chunk []) ≡ true → allowed_by set k on.body_end ≡ true
unfolding allowed_by
may_end set k is = without_room k.is_over (is_some (closing_by set k)) (is_answering k) (has_room set k) is

pub may_break : (set : Setting) (k : Kept) → allowed_by set k (on.chunk []) ≡ true → allowed_by set k on.body_error ≡ true
unfolding allowed_by
may_break set k is = without_room k.is_over (is_some (closing_by set k)) (is_answering k) (has_room set k) is

room_of : (over closing answering room : Bool) → (not over && (if closing then false else (answering && room))) ≡ true → room ≡ true
room_of false false true room is = is
room_of false false false room is = absurd (cc is)
room_of false true answering room is = absurd (cc is)
room_of true closing answering room is = absurd (cc is)

pub leaves_room : (set : Setting) (k : Kept) → allowed_by set k (on.chunk []) ≡ true → has_room set k ≡ true
unfolding allowed_by
leaves_room set k is = room_of k.is_over (is_some (closing_by set k)) (is_answering k) (has_room set k) is

-- the body was polled, and what came was handed on, or couldn't be
polls : (v : View) (body left : Giving) (piece : Piece) → v.ending ≡ None → allows_chunk v ≡ true → v.stage ≡ sending body → PieceSays body left piece → Polls v left piece
polls v body left piece running allowed goes_out says = record { running = running; allowed = allowed; body = body; goes_out = goes_out; says = says }

pub sent_step : (v w : View) (body left : Giving) (piece : Piece) → v.ending ≡ None → allows_chunk v ≡ true → v.stage ≡ sending body → PieceSays body left piece
    → Sent v.traced w.traced piece → w ≡ record v { traced = w.traced; stage = stage_sent left piece } → IsStep v (sent piece) w
sent_step v w body left piece running allowed goes_out says sent_so same = (left, polls v body left piece running allowed goes_out says, sent_so, same)

pub sent_fails : (v w : View) (body left : Giving) (piece : Piece) → v.ending ≡ None → allows_chunk v ≡ true → v.stage ≡ sending body → PieceSays body left piece
    → Lacked v.traced w.traced piece → w ≡ record v { traced = w.traced; stage = sending left; ending = Some Broken } → IsStep v (failed_sent piece) w
sent_fails v w body left piece running allowed goes_out says lacked same = (left, polls v body left piece running allowed goes_out says, lacked, same)

-- the body goes out from now on, unless it has no byte
pub replied_none : (body : Giving) (size : BodySize) → (size ≡ NoBody) ⊎ (size ≡ Sized 0) → stage_replied body size ≡ free
replied_none body size (inl is) = ap (stage_replied body) is
replied_none body size (inr is) = ap (stage_replied body) is

pub replied_some : (body : Giving) (size : BodySize) → ¬ ((size ≡ NoBody) ⊎ (size ≡ Sized 0)) → stage_replied body size ≡ sending body
replied_some body NoBody some = absurd (some (inl refl))
replied_some body (Sized zero) some = absurd (some (inr refl))
replied_some body (Sized (suc n)) some = refl
replied_some body Stream some = refl

-- the answer that is at hand is one
abbrev response_in : {C B : Type 0} → Work C B → FullResponse B → FullResponse B
response_in (Replying response) other = response
response_in work other = other

pub same_response : {C B : Type 0} (work : Work C B) (first second : FullResponse B) → work ≡ Replying first → work ≡ Replying second → second ≡ first
same_response work first second is so = ap (λ x. response_in x first) (sym so ∙ is)

-- an answer was handed on
pub handed_on : (v w : View) (answer : Answer) → v.ending ≡ None → allows v on.drop_body ≡ false → v.stage ≡ replying answer → TracedSteps v.traced (on.answer (answer_of answer.head) (size_of answer.body.size)) (Is on.done) w.traced
    → w.traced.state.settings ≡ v.traced.state.settings → w.traced.listens ≡ v.traced.listens → w ≡ record v { traced = w.traced; queue = w.queue; stage = w.stage } → w.queue ≡ new_queue true → w.stage ≡ stage_replied answer.body answer.body.size
    → IsStep v (replied answer) w
handed_on v w answer running none is steps settings listens same fresh stage = (
  (running, none),
  is,
  record { steps = steps; settings = settings; listens = listens },
  same ∙ ap (λ x. record v { traced = w.traced; queue = x; stage = w.stage }) fresh ∙ ap (λ x. record v { traced = w.traced; queue = new_queue true; stage = x }) stage,
)

-- what came of a request's body was fed
pub fed_step : (v w : View) (piece : Pulled) → Wants v → TracedSteps v.traced on.pull (SaysPulled piece) w.traced → w.traced.state.settings ≡ v.traced.state.settings
    → w.traced.listens ≡ v.traced.listens → w ≡ record v { traced = w.traced; queue = w.queue } → w.queue ≡ fed_with piece v.queue → IsStep v (pulled piece) w
fed_step v w piece wants steps settings listens same fed =
    (wants, record { steps = steps; settings = settings; listens = listens }, same ∙ ap (λ q. record v { traced = w.traced; queue = q }) fed)

pub fed_fails : (v w : View) (bytes : List ℕ) → Wants v → TracedSteps v.traced on.pull (SaysPulled (pieces.Bytes bytes)) w.traced → w.traced.state.settings ≡ v.traced.state.settings
    → w.traced.listens ≡ v.traced.listens → w ≡ record v { traced = w.traced; queue = w.queue; ending = Some Broken } → w.queue ≡ v.queue → IsStep v (failed_fed bytes) w
fed_fails v w bytes wants steps settings listens same kept =
    (wants, record { steps = steps; settings = settings; listens = listens }, same ∙ ap (λ q. record v { traced = w.traced; queue = q; ending = Some Broken }) kept)

-- a queue that wants nothing for now
pub paused_step : (v w : View) (asked : PayloadStatus) → v.ending ≡ None → awaits_body v ≡ true → asked ≡ status_of v.queue → asked ≡ status.Pause → Asked v.queue w.queue asked
    → w ≡ record v { queue = w.queue } → IsStep v paused w
paused_step v w asked running awaits says is so same =
    (running, awaits, sym says ∙ is, subst (λ x. Asked v.queue w.queue x) is so, same)

-- and one that was dropped, or wants more
pub same_queue : (v w : View) (asked : PayloadStatus) → ¬ (asked ≡ status.Pause) → Asked v.queue w.queue asked → w ≡ record v { queue = w.queue } → w ≡ v
same_queue v w status.Read other so same = same ∙ ap (λ q. record v { queue = q }) so
same_queue v w status.Dropped other so same = same ∙ ap (λ q. record v { queue = q }) so
same_queue v w status.Pause other so same = absurd (other refl)
