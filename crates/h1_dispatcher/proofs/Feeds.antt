-- What comes of a request's body is fed to its queue, once and in order, and never more than that bounds.
use Rattle.std.proofs.Common.{◌≡◌, ◌≤◌, ◌<◌, ◌+◌, ℕ, zero, suc, Bool, true, false, Option, Some, None, List, [], ◌∷◌, ◌++◌, length, Result, Ok, Err, inl, inr, refl, sym, ap, ◌∙◌, subst, append_assoc, append-nil, arith}
use Rattle.std.proofs.lemmas.List.{length-append}
use Rattle.futures.specs.declared.task.Poll.{Poll}
use Rattle.futures.specs.declared.task.Poll.TheVariants.{Ready, Pending}
use Rattle.http_config.specs.Config.{Settings}
use Rattle.http_config.specs.declared.Failed.{Failed}
use Rattle.http_types.specs.declared.error.PayloadError.{PayloadError}
use Rattle.http_framing.specs.declared.body.size.BodySize.{BodySize}
use Rattle.http_framing.specs.declared.body.size.BodySize.TheVariants.{None as NoBody, Sized, Stream}
use Rattle.http_bodies.specs.Giving.{Giving, Piece}
use Rattle.http_bodies.specs.declared.body.fault.BodyFault.TheVariants.{Body as Fault, NoMemory}
use Rattle.http_services.specs.Lent as lent
use Rattle.http_services.specs.Lent.{Lent, LentBound, TakesOnly, joined, either_error, lent_of}
use Rattle.http_services.specs.Queue as queues
use Rattle.http_services.specs.Queue.{Queue, new_queue, unless, fed_data, fed_trailers, fed_end, fed_error}
use Rattle.http_services.specs.Serving.{TookNothing, Takes}
use Rattle.http_services.specs.Status.{status_by, status_of, Asked}
use Rattle.http_services.specs.declared.h1.send.PayloadStatus.TheVariants as status
use Rattle.model_h1.specs.Event as on
use Rattle.model_h1.specs.Sums as sums
use Rattle.model_state.proofs.KeptBounds.{unread_bounded}
use Rattle.model_state.specs.Kept.{Exchange, Kept, Change}
use Rattle.model_state.specs.Change.{IsPulling}
use Rattle.h1_payload.specs.Rests.{SaysPulled}
use Rattle.h1_payload.specs.declared.pulled.Pulled.{Pulled}
use Rattle.h1_payload.specs.declared.pulled.Pulled.TheVariants as pieces
use Rattle.h1_connection.specs.EventMeaning.{setting_of}
use Rattle.h1_connection.specs.declared.connection.heads.NextHead.{NextHead}
use Rattle.h1_connection.specs.declared.connection.heads.NextHead.TheVariants as next_head
use Rattle.h1_traced.specs.Traced.{TracedView, TracedStands}
use Rattle.http_transport.specs.Peer.{PeerAddress}
use Rattle.h1_dispatcher.specs.View.{View, Asking, Answer, Stage, free, waiting, calling, replying, sending}
use Rattle.h1_dispatcher.specs.Steps.{Step, Goes, Wrote, Took, Sent, IsStep, IsRun, error_of, fed_with, queue_at, request_at, stage_at, stage_asked, stage_answered, stage_replied, stage_sent, ticked, drained, written, read, shut, next, closed, continued, ready, called, answered, pulled, paused, dropped, replied, sent, failed, failed_write, failed_read, failed_fed, failed_sent, asked_to_drain, asked_to_hold, declined, let_on, turned_away, refused}
use Rattle.h1_dispatcher.specs.Traces.{IsNoted, AllNoted}
use Rattle.h1_dispatcher.specs.Feeds.{CameBody, new_body, with_piece, body_at, step_body, body_after, IsOnly, IsFed, nothing_taken, HasBody, HasQueueBound}
use Rattle.h1_dispatcher.proofs.Pulls.{given_bytes, pull_fits}
use Rattle.h1_dispatcher.proofs.Traces.{step_follows}

-- ---- the queue

joined_more : (a : List (List ℕ)) (bytes : List ℕ) → joined (a ++ bytes ∷ []) ≡ joined a ++ bytes
joined_more [] bytes = append-nil bytes
joined_more (x ∷ a) bytes = ap (λ l. x ++ l) (joined_more a bytes) ∙ sym (append_assoc x (joined a) bytes)

length_joined : (a : List (List ℕ)) → length (joined a) ≡ queues.waiting a
length_joined [] = refl
length_joined (x ∷ a) = length-append x (joined a) ∙ ap (λ n. length x + n) (length_joined a)

-- one that is to be fed wasn't dropped
not_dropped : (dropped wish : Bool) → status_by dropped wish ≡ status.Read → dropped ≡ false
not_dropped false wish is = refl
not_dropped true wish is = absurd (cc is)

one_fault : (faults : List PayloadError) (fault : PayloadError) (took waits : Option PayloadError) → IsOnly faults (either_error took waits) → IsOnly (fault ∷ faults) (either_error took (Some fault))
one_fault [] fault None waits none = refl
one_fault [] fault (Some e) waits none = absurd (cc none)
one_fault (other ∷ faults) fault took waits none = tt

-- a piece that is fed is one that came
fed_on : (body : CameBody) (took : lent.Took) (q : Queue) (piece : Pulled) → q.dropped ≡ false → IsFed body took q → IsFed (with_piece body piece) took (fed_with piece q)
fed_on body took q (pieces.Bytes bytes) undropped f =
    let same : fed_data bytes q ≡ record q { chunks = q.chunks ++ (bytes ∷ []); wish = queues.is_low (q.chunks ++ (bytes ∷ [])); receiver = false } =
    ap (λ b. unless b q (record q { chunks = q.chunks ++ (bytes ∷ []); wish = queues.is_low (q.chunks ++ (bytes ∷ [])); receiver = false })) undropped in
    subst (λ (r : Queue). IsFed (record body { bytes = body.bytes ++ bytes }) took r) (sym same) (record {
      bytes = ap (λ l. took.bytes ++ l) (joined_more q.chunks bytes) ∙ sym (append_assoc took.bytes (joined q.chunks) bytes) ∙ ap (λ l. l ++ bytes) f.bytes;
      fault = f.fault;
      ended = f.ended;
      trailers = f.trailers;
    })
fed_on body took q (pieces.Trailers trailers) undropped f =
    let same : fed_trailers trailers q ≡ record q { trailers = Some trailers } = ap (λ b. unless b q (record q { trailers = Some trailers })) undropped in
    subst (λ (r : Queue). IsFed (record body { trailers = Some trailers }) took r) (sym same) (record { bytes = f.bytes; fault = f.fault; ended = f.ended; trailers = refl })
fed_on body took q pieces.End undropped f =
    let same : fed_end q ≡ record q { ended = true; receiver = false } = ap (λ b. unless b q (record q { ended = true; receiver = false })) undropped in
    subst (λ (r : Queue). IsFed (record body { ended = true }) took r) (sym same) (record { bytes = f.bytes; fault = f.fault; ended = refl; trailers = f.trailers })
fed_on body took q (pieces.Broken fault) undropped f =
    let same : fed_error (error_of fault) q ≡ record q { error = Some (error_of fault); failed = true; receiver = false } =
    ap (λ b. unless b q (record q { error = Some (error_of fault); failed = true; receiver = false })) undropped in
    subst (λ (r : Queue). IsFed (record body { faults = error_of fault ∷ body.faults }) took r) (sym same)
    (record { bytes = f.bytes; fault = one_fault body.faults (error_of fault) took.error q.error f.fault; ended = f.ended; trailers = f.trailers })
fed_on body took q pieces.Pending undropped f = f

-- what a call takes was fed
taken_on : (body : CameBody) (took more : lent.Took) (q r : Queue) → TakesOnly took more (lent_of q) (lent_of r) → IsFed body took q → IsFed body more r
taken_on body took more q r takes f = record {
  bytes = takes.bytes ∙ f.bytes;
  fault = subst (λ e. IsOnly body.faults e) (sym takes.error) f.fault;
  ended = takes.ended ∙ f.ended;
  trailers = takes.trailers ∙ f.trailers;
}

fresh_fed : (ended : Bool) → IsFed (new_body ended) nothing_taken (new_queue ended)
fresh_fed ended = record { bytes = refl; fault = refl; ended = refl; trailers = refl }

-- ---- steps

keeps : (body : CameBody) (s t : Stage) (q r : Queue) → t ≡ s → r ≡ q → HasBody body s q → HasBody body t r
keeps body s t q r stage queue has = subst (λ (x : Queue). HasBody body t x) (sym queue) (subst (λ x. HasBody body x q) (sym stage) has)

stays : (v w : View) (body : CameBody) → w.stage ≡ v.stage → w.queue ≡ v.queue → HasBody body v.stage v.queue → HasBody body w.stage w.queue
stays v w body stage queue has = keeps body v.stage w.stage v.queue w.queue stage queue has

-- where the request has its answer, or there is none
elsewhere : (body : CameBody) (s t : Stage) (q : Queue) → t ≡ s → ((body : CameBody) (q : Queue) → HasBody body s q) → HasBody body t q
elsewhere body s t q now off = subst (λ x. HasBody body x q) (sym now) (off body q)

head_has : (peer : PeerAddress) (body : CameBody) (head : NextHead) (q : Queue) → HasBody (body_at head body) (stage_at (request_at peer head)) (queue_at head q)
head_has peer body (next_head.Head item) q = fresh_fed _
head_has peer body (next_head.Fault fault) q = tt
head_has peer body next_head.Pending q = tt
head_has peer body (next_head.Closed end) q = tt

asked_has : (body : CameBody) (request : Asking) (answer : Poll (Result Unit Answer)) (q : Queue) → HasBody body (waiting request) q → HasBody body (stage_asked request answer) q
asked_has body request (Ready (Ok x)) q has = has
asked_has body request (Ready (Err e)) q has = tt
asked_has body request Pending q has = has

called_has : (body : CameBody) (took : Option lent.Took) (q : Queue) → TookNothing took → IsFed body nothing_taken q → HasBody body (calling took) q
called_has body None q nothing f = tt
called_has body (Some took) q nothing f = record {
  bytes = ap (λ l. l ++ joined q.chunks) nothing.0 ∙ f.bytes;
  fault = subst (λ e. IsOnly body.faults (either_error e q.error)) (sym nothing.1) f.fault;
  ended = f.ended;
  trailers = f.trailers;
}

polled_has : (body : CameBody) (took more : Option lent.Took) (q r : Queue) → Takes took more (lent_of q) (lent_of r) → HasBody body (calling took) q → HasBody body (calling more) r
polled_has body None more q r none has = subst (λ m. HasBody body (calling m) r) (sym none) tt
polled_has body (Some took) None q r takes has = absurd takes
polled_has body (Some took) (Some more) q r takes has = taken_on body took more q r takes has

answered_has : (body : CameBody) (took more : Option lent.Took) (answer : Poll (Result Answer Answer)) (q r : Queue) → Takes took more (lent_of q) (lent_of r) → HasBody body (calling took) q
    → HasBody body (stage_answered more answer) r
answered_has body took more (Ready (Ok x)) q r takes has = tt
answered_has body took more (Ready (Err e)) q r takes has = tt
answered_has body took more Pending q r takes has = polled_has body took more q r takes has

pulled_has : (body : CameBody) (s : Stage) (q : Queue) (piece : Pulled) → status_of q ≡ status.Read → HasBody body s q → HasBody (with_piece body piece) s (fed_with piece q)
pulled_has body free q piece wanted has = tt
pulled_has body (waiting request) q piece wanted has = fed_on body nothing_taken q piece (not_dropped q.dropped q.wish wanted) has
pulled_has body (calling None) q piece wanted has = tt
pulled_has body (calling (Some took)) q piece wanted has = fed_on body took q piece (not_dropped q.dropped q.wish wanted) has
pulled_has body (replying answer) q piece wanted has = tt
pulled_has body (sending goes_out) q piece wanted has = tt

-- a queue that is asked keeps what waits
paused_fed : (body : CameBody) (took : lent.Took) (q r : Queue) → Asked q r status.Pause → IsFed body took q → IsFed body took r
paused_fed body took q r asked f = subst (λ (x : Queue). IsFed body took x) (sym asked) (record { bytes = f.bytes; fault = f.fault; ended = f.ended; trailers = f.trailers })

paused_has : (body : CameBody) (s : Stage) (q r : Queue) → Asked q r status.Pause → HasBody body s q → HasBody body s r
paused_has body free q r asked has = tt
paused_has body (waiting request) q r asked has = paused_fed body nothing_taken q r asked has
paused_has body (calling None) q r asked has = tt
paused_has body (calling (Some took)) q r asked has = paused_fed body took q r asked has
paused_has body (replying answer) q r asked has = tt
paused_has body (sending goes_out) q r asked has = tt

replied_has : (body : CameBody) (answer : Giving) (size : BodySize) (q : Queue) → HasBody body (stage_replied answer size) q
replied_has body answer NoBody q = tt
replied_has body answer (Sized zero) q = tt
replied_has body answer (Sized (suc n)) q = tt
replied_has body answer Stream q = tt

sent_has : (body : CameBody) (left : Giving) (piece : Piece) (q : Queue) → HasBody body (stage_sent left piece) q
sent_has body left (Ready None) q = tt
sent_has body left (Ready (Some piece)) q = tt
sent_has body left Pending q = tt

step_has : (v w : View) (d : Step) (body : CameBody) → IsStep v d w → HasBody body v.stage v.queue → HasBody (step_body body d) w.stage w.queue
step_has v w (ticked moment expiry) body is has = stays v w body (ap (λ (x : View). x.stage) is.1) (ap (λ (x : View). x.queue) is.1) has
step_has v w drained body is has = stays v w body (ap (λ (x : View). x.stage) is.1) (ap (λ (x : View). x.queue) is.1) has
step_has v w (written answer) body is has = stays v w body (ap (λ (x : View). x.stage) is.4) (ap (λ (x : View). x.queue) is.4) has
step_has v w (read came answer) body is has = stays v w body (ap (λ (x : View). x.stage) is.4) (ap (λ (x : View). x.queue) is.4) has
step_has v w (shut answer) body is has = stays v w body (ap (λ (x : View). x.stage) is.2) (ap (λ (x : View). x.queue) is.2) has
step_has v w (next peer head) body is has =
    keeps (body_at head body) (stage_at (request_at peer head)) w.stage (queue_at head v.queue) w.queue (ap (λ (x : View). x.stage) is.4) (ap (λ (x : View). x.queue) is.4) (head_has peer body head v.queue)
step_has v w (closed end) body is has = stays v w body (ap (λ (x : View). x.stage) is.4) (ap (λ (x : View). x.queue) is.4) has
step_has v w continued body is has = stays v w body (ap (λ (x : View). x.stage) is.3) (ap (λ (x : View). x.queue) is.3) has
step_has v w (ready request answer) body is has =
    keeps body (stage_asked request answer) w.stage v.queue w.queue (ap (λ (x : View). x.stage) is.3) (ap (λ (x : View). x.queue) is.3)
    (asked_has body request answer v.queue (subst (λ s. HasBody body s v.queue) is.0.1 has))
step_has v w (called request) body is has =
    keeps body (calling is.2.0) w.stage v.queue w.queue (ap (λ (x : View). x.stage) is.2.2) (ap (λ (x : View). x.queue) is.2.2)
    (called_has body is.2.0 v.queue is.2.1 (subst (λ s. HasBody body s v.queue) is.0.1 has))
step_has v w (answered answer) body is has =
    keeps body (stage_answered is.more answer) w.stage w.queue w.queue (ap (λ (x : View). x.stage) is.same) refl
    (answered_has body is.took is.more answer v.queue w.queue is.takes (subst (λ s. HasBody body s v.queue) is.calls has))
step_has v w (pulled piece) body is has =
    keeps (with_piece body piece) v.stage w.stage (fed_with piece v.queue) w.queue (ap (λ (x : View). x.stage) is.2) (ap (λ (x : View). x.queue) is.2)
    (pulled_has body v.stage v.queue piece is.0.wanted has)
step_has v w paused body is has =
    keeps body v.stage w.stage w.queue w.queue (ap (λ (x : View). x.stage) is.4) refl (paused_has body v.stage v.queue w.queue is.3 has)
step_has v w dropped body is has = stays v w body (ap (λ (x : View). x.stage) is.3) (ap (λ (x : View). x.queue) is.3) has
step_has v w (replied answer) body is has = subst (λ s. HasBody body s w.queue) (sym (ap (λ (x : View). x.stage) is.3)) (replied_has body answer.body answer.body.size w.queue)
step_has v w (sent piece) body is has = subst (λ s. HasBody body s w.queue) (sym (ap (λ (x : View). x.stage) is.3)) (sent_has body is.0 piece w.queue)
step_has v w (failed event) body is has = stays v w body (ap (λ (x : View). x.stage) is.2) (ap (λ (x : View). x.queue) is.2) has
step_has v w (failed_write count) body is has = stays v w body (ap (λ (x : View). x.stage) is.4) (ap (λ (x : View). x.queue) is.4) has
step_has v w (failed_read came event) body is has = stays v w body (ap (λ (x : View). x.stage) is.4) (ap (λ (x : View). x.queue) is.4) has
step_has v w (failed_fed bytes) body is has = stays v w body (ap (λ (x : View). x.stage) is.2) (ap (λ (x : View). x.queue) is.2) has
step_has v w (failed_sent piece) body is has = subst (λ s. HasBody body s w.queue) (sym (ap (λ (x : View). x.stage) is.3)) tt
step_has v w asked_to_drain body is has = stays v w body (ap (λ (x : View). x.stage) is) (ap (λ (x : View). x.queue) is) has
step_has v w (asked_to_hold upgrades expects) body is has = stays v w body (ap (λ (x : View). x.stage) is) (ap (λ (x : View). x.queue) is) has
step_has v w declined body is has = stays v w body (ap (λ (x : View). x.stage) is) (ap (λ (x : View). x.queue) is) has
step_has v w let_on body is has = stays v w body (ap (λ (x : View). x.stage) is) (ap (λ (x : View). x.queue) is) has
step_has v w (turned_away request answer) body is has =
    keeps body (replying answer) w.stage v.queue w.queue (ap (λ (x : View). x.stage) is.2) (ap (λ (x : View). x.queue) is.2) tt
step_has v w (refused limit error) body is has = stays v w body (ap (λ (x : View). x.stage) is.2) (ap (λ (x : View). x.queue) is.2) has

pub run_feeds : (v w : View) (steps : List Step) (body : CameBody) → IsRun v steps w → HasBody body v.stage v.queue → HasBody (body_after body steps) w.stage w.queue
run_feeds v w [] body is has = stays v w body (ap (λ (x : View). x.stage) is) (ap (λ (x : View). x.queue) is) has
run_feeds v w (d ∷ steps) body is has = run_feeds is.0 w steps (step_body body d) is.2 (step_has v is.0 d body is.1 has)

-- ---- how much waits

abbrev InBound : ℕ → Queue → Type 0
InBound hold q = queues.waiting q.chunks < 32768 + hold + q.put_back

either_bound : (hold : ℕ) (dropped : Bool) (q r : Queue) → InBound hold q → InBound hold r → InBound hold (unless dropped q r)
either_bound hold true q r is so = is
either_bound hold false q r is so = so

waiting_more : (a : List (List ℕ)) (bytes : List ℕ) → queues.waiting (a ++ bytes ∷ []) ≡ queues.waiting a + length bytes
waiting_more [] bytes = omega arith
waiting_more (x ∷ a) bytes = omega (arith, waiting_more a bytes)

-- a piece of a body gives no more bytes than the connection holds
gives_held : (k : Kept) (e : Option Exchange) (c : Change) → IsPulling (record k { exchange = e }) e c → length (given_bytes c.outcome) ≤ length k.unread
gives_held k None c is = subst (λ (x : Change). length (given_bytes x.outcome) ≤ length k.unread) (sym is) (omega arith)
gives_held k (Some x) c is = subst (λ (y : Change). length (given_bytes y.outcome) ≤ length k.unread) (sym is.2) (pull_fits k.has_ended x.rest k.unread is.0 is.1)

abbrev piece_bytes : Pulled → List ℕ
piece_bytes (pieces.Bytes bytes) = bytes
piece_bytes piece = []

says_bytes : (piece : Pulled) (out : on.Outcome) → SaysPulled piece out → given_bytes out ≡ piece_bytes piece
says_bytes (pieces.Bytes bytes) out says = ap given_bytes says
says_bytes (pieces.Trailers trailers) out says = ap given_bytes says.1
says_bytes pieces.End out says = ap given_bytes says
says_bytes (pieces.Broken fault) out says = ap given_bytes says
says_bytes pieces.Pending out says = ap given_bytes says

piece_fits : (v w : View) (piece : Pulled) (trace : List sums.Step) → TracedStands v.traced trace → Goes v.traced on.pull (SaysPulled piece) w.traced
    → length (piece_bytes piece) ≤ v.traced.state.settings.h1_hold_size
piece_fits v w piece trace stands goes =
    let x = goes.steps trace stands in
    let k = v.traced.state.kept in
    let held = gives_held k k.exchange x.2.machine.change x.2.machine.changes in
    let bound = unread_bounded (setting_of v.traced.state.settings) k trace stands.stands in
    let same = ap (λ (l : List ℕ). length l) (sym (says_bytes piece x.0 x.1) ∙ ap given_bytes x.2.machine.answers) in
    omega (arith, held, bound, same)

fed_bound : (hold : ℕ) (q : Queue) (piece : Pulled) → queues.waiting q.chunks < 32768 + q.put_back → length (piece_bytes piece) ≤ hold → InBound hold q → InBound hold (fed_with piece q)
fed_bound hold q (pieces.Bytes bytes) low fits b = either_bound hold q.dropped q _ b (omega (arith, low, fits, waiting_more q.chunks bytes))
fed_bound hold q (pieces.Trailers trailers) low fits b = either_bound hold q.dropped q _ b b
fed_bound hold q pieces.End low fits b = either_bound hold q.dropped q _ b b
fed_bound hold q (pieces.Broken fault) low fits b = either_bound hold q.dropped q _ b b
fed_bound hold q pieces.Pending low fits b = b

head_bound : (hold : ℕ) (head : NextHead) (q : Queue) → InBound hold q → InBound hold (queue_at head q)
head_bound hold (next_head.Head item) q b = omega arith
head_bound hold (next_head.Fault fault) q b = b
head_bound hold next_head.Pending q b = b
head_bound hold (next_head.Closed end) q b = b

lent_bound : (hold : ℕ) (q r : Queue) → LentBound (lent_of q) (lent_of r) → InBound hold q → InBound hold r
lent_bound hold q r lends b = omega (arith, lends, b, length_joined q.chunks, length_joined r.chunks)

in_bound : (v w : View) → w.traced.state.settings ≡ v.traced.state.settings → InBound v.traced.state.settings.h1_hold_size w.queue → HasQueueBound w
in_bound v w settings b = subst (λ (s : Settings). InBound s.h1_hold_size w.queue) (sym settings) b

to_queue : (v w : View) (q : Queue) → w.traced.state.settings ≡ v.traced.state.settings → w.queue ≡ q → InBound v.traced.state.settings.h1_hold_size q → HasQueueBound w
to_queue v w q settings now b = in_bound v w settings (subst (λ (x : Queue). InBound v.traced.state.settings.h1_hold_size x) (sym now) b)

wrote_settings : (v w : View) (answer : Poll (Result ℕ Failed)) → Wrote v.traced w.traced answer → w.traced.state.settings ≡ v.traced.state.settings
wrote_settings v w (Ready (Ok n)) goes = goes.1.settings
wrote_settings v w (Ready (Err e)) traced = ap (λ (l : TracedView). l.state.settings) traced
wrote_settings v w Pending traced = ap (λ (l : TracedView). l.state.settings) traced

took_settings : (v w : View) (came : List ℕ) (answer : Poll (Result ℕ Failed)) → Took v.traced w.traced came answer → w.traced.state.settings ≡ v.traced.state.settings
took_settings v w came (Ready (Ok n)) (inl end) = end.1.settings
took_settings v w came (Ready (Ok n)) (inr some) = some.1.1.settings
took_settings v w came (Ready (Err e)) traced = ap (λ (l : TracedView). l.state.settings) traced
took_settings v w came Pending traced = ap (λ (l : TracedView). l.state.settings) traced

sent_settings : (v w : View) (piece : Piece) → Sent v.traced w.traced piece → w.traced.state.settings ≡ v.traced.state.settings
sent_settings v w (Ready (Some (Ok bytes))) goes = goes.settings
sent_settings v w (Ready (Some (Err (Fault n)))) goes = goes.settings
sent_settings v w (Ready (Some (Err NoMemory))) goes = absurd goes
sent_settings v w (Ready None) goes = goes.settings
sent_settings v w Pending traced = ap (λ (l : TracedView). l.state.settings) traced

step_bound : (v w : View) (d : Step) (trace : List sums.Step) → TracedStands v.traced trace → IsNoted d → IsStep v d w → HasQueueBound v → HasQueueBound w
step_bound v w (ticked moment expiry) trace stands noted is b = to_queue v w v.queue is.0.settings (ap (λ (x : View). x.queue) is.1) b
step_bound v w drained trace stands noted is b = to_queue v w v.queue is.0.settings (ap (λ (x : View). x.queue) is.1) b
step_bound v w (written answer) trace stands noted is b = to_queue v w v.queue (wrote_settings v w answer is.3) (ap (λ (x : View). x.queue) is.4) b
step_bound v w (read came answer) trace stands noted is b = to_queue v w v.queue (took_settings v w came answer is.3) (ap (λ (x : View). x.queue) is.4) b
step_bound v w (shut answer) trace stands noted is b = to_queue v w v.queue (ap (λ (x : View). x.traced.state.settings) is.2) (ap (λ (x : View). x.queue) is.2) b
step_bound v w (next peer head) trace stands noted is b =
    to_queue v w (queue_at head v.queue) is.3.settings (ap (λ (x : View). x.queue) is.4) (head_bound v.traced.state.settings.h1_hold_size head v.queue b)
step_bound v w (closed end) trace stands noted is b = to_queue v w v.queue is.3.1.settings (ap (λ (x : View). x.queue) is.4) b
step_bound v w continued trace stands noted is b = to_queue v w v.queue is.2.settings (ap (λ (x : View). x.queue) is.3) b
step_bound v w (ready request answer) trace stands noted is b = to_queue v w v.queue (ap (λ (x : View). x.traced.state.settings) is.3) (ap (λ (x : View). x.queue) is.3) b
step_bound v w (called request) trace stands noted is b = to_queue v w v.queue (ap (λ (x : View). x.traced.state.settings) is.2.2) (ap (λ (x : View). x.queue) is.2.2) b
step_bound v w (answered answer) trace stands noted is b =
    in_bound v w (ap (λ (x : View). x.traced.state.settings) is.same) (lent_bound v.traced.state.settings.h1_hold_size v.queue w.queue is.bound b)
step_bound v w (pulled piece) trace stands noted is b =
    to_queue v w (fed_with piece v.queue) is.1.settings (ap (λ (x : View). x.queue) is.2)
    (fed_bound v.traced.state.settings.h1_hold_size v.queue piece is.0.low (piece_fits v w piece trace stands is.1) b)
step_bound v w paused trace stands noted is b =
    in_bound v w (ap (λ (x : View). x.traced.state.settings) is.4) (subst (λ (x : Queue). InBound v.traced.state.settings.h1_hold_size x) (sym is.3) b)
step_bound v w dropped trace stands noted is b = to_queue v w v.queue is.2.settings (ap (λ (x : View). x.queue) is.3) b
step_bound v w (replied answer) trace stands noted is b = to_queue v w (new_queue true) is.2.settings (ap (λ (x : View). x.queue) is.3) (omega arith)
step_bound v w (sent piece) trace stands noted is b = to_queue v w v.queue (sent_settings v w piece is.2) (ap (λ (x : View). x.queue) is.3) b
step_bound v w (failed event) trace stands noted is b = absurd noted
step_bound v w (failed_write count) trace stands noted is b = absurd noted
step_bound v w (failed_read came event) trace stands noted is b = absurd noted
step_bound v w (failed_fed bytes) trace stands noted is b = absurd noted
step_bound v w (failed_sent piece) trace stands noted is b = absurd noted
step_bound v w asked_to_drain trace stands noted is b = to_queue v w v.queue (ap (λ (x : View). x.traced.state.settings) is) (ap (λ (x : View). x.queue) is) b
step_bound v w (asked_to_hold upgrades expects) trace stands noted is b = to_queue v w v.queue (ap (λ (x : View). x.traced.state.settings) is) (ap (λ (x : View). x.queue) is) b
step_bound v w declined trace stands noted is b = to_queue v w v.queue (ap (λ (x : View). x.traced.state.settings) is) (ap (λ (x : View). x.queue) is) b
step_bound v w let_on trace stands noted is b = to_queue v w v.queue (ap (λ (x : View). x.traced.state.settings) is) (ap (λ (x : View). x.queue) is) b
step_bound v w (turned_away request answer) trace stands noted is b = to_queue v w v.queue (ap (λ (x : View). x.traced.state.settings) is.2) (ap (λ (x : View). x.queue) is.2) b
step_bound v w (refused limit error) trace stands noted is b = to_queue v w v.queue is.1.settings (ap (λ (x : View). x.queue) is.2) b

pub run_bound : (v w : View) (steps : List Step) (trace : List sums.Step) → TracedStands v.traced trace → AllNoted steps → IsRun v steps w → HasQueueBound v → HasQueueBound w
run_bound v w [] trace stands noted is b = to_queue v w v.queue (ap (λ (x : View). x.traced.state.settings) is) (ap (λ (x : View). x.queue) is) b
run_bound v w (d ∷ steps) trace stands noted is b =
    let f = step_follows v is.0 d noted.0 is.1 trace stands in
    run_bound is.0 w steps (f.more ++ trace) f.stands noted.1 is.2 (step_bound v is.0 d trace stands noted.0 is.1 b)

-- the connection holds no more bytes than it may
pub held_bound : (v : View) (trace : List sums.Step) → TracedStands v.traced trace → length v.traced.state.kept.unread ≤ v.traced.state.settings.h1_hold_size
held_bound v trace stands = unread_bounded (setting_of v.traced.state.settings) v.traced.state.kept trace stands.stands
