-- The address of the peer goes with each request.
use Rattle.std.proofs.Common.{◌≡◌, zero, suc, Option, Some, None, List, [], ◌∷◌, ◌++◌, Result, Ok, Err, refl, sym, ap, ◌∙◌, subst}
use Rattle.std.specs.Prelude.{option_to_list}
use Rattle.futures.specs.declared.task.Poll.{Poll}
use Rattle.futures.specs.declared.task.Poll.TheVariants.{Ready, Pending}
use Rattle.http_framing.specs.declared.body.size.BodySize.{BodySize}
use Rattle.http_framing.specs.declared.body.size.BodySize.TheVariants.{None as NoBody, Sized, Stream}
use Rattle.http_bodies.specs.Giving.{Giving, Piece}
use Rattle.http_services.specs.Lent.{Took}
use Rattle.http_transport.specs.Peer.{PeerAddress}
use Rattle.h1_connection.specs.declared.connection.heads.NextHead.{NextHead}
use Rattle.h1_connection.specs.declared.connection.heads.NextHead.TheVariants as next_head
use Rattle.h1_dispatcher.specs.View.{View, Asking, Answer, Stage, free, waiting, calling, replying, sending}
use Rattle.h1_dispatcher.specs.Steps.{Step, IsStep, IsRun, request_at, stage_at, stage_asked, stage_answered, stage_replied, stage_sent, ticked, drained, written, read, shut, next, closed, continued, ready, called, answered, pulled, paused, dropped, replied, sent, failed, failed_write, failed_read, failed_fed, failed_sent, asked_to_drain, asked_to_hold, declined, let_on, turned_away, refused}
use Rattle.h1_dispatcher.specs.Order.{waits_in, step_requests, step_calls, requests, calls}
use Rattle.h1_dispatcher.specs.Peers.{IsFrom, AreFrom, TellsPeer}

-- ---- one step

-- after it the peer is this one, and its are the requests that came, those of calls, and the one that waits
record Told (peer : PeerAddress) (came_so called_so : List Asking) (w : View) : Type 0 where
  peer_is : w.peer ≡ peer
  came : AreFrom peer came_so
  called_by : AreFrom peer called_so
  waits : AreFrom peer (waits_in w.stage)

-- no request comes, and none is called
to : (peer : PeerAddress) (v w : View) (s : Stage) → v.peer ≡ peer → w.peer ≡ v.peer → w.stage ≡ s → AreFrom peer (waits_in s) → Told peer [] [] w
to peer v w s from same now waits = record {
  peer_is = same ∙ from;
  came = tt;
  called_by = tt;
  waits = subst (λ (x : Stage). AreFrom peer (waits_in x)) (sym now) waits;
}

stays : (peer : PeerAddress) (v w : View) → v.peer ≡ peer → AreFrom peer (waits_in v.stage) → w.peer ≡ v.peer → w.stage ≡ v.stage → Told peer [] [] w
stays peer v w from waits same now = to peer v w v.stage from same now waits

-- the request of the head that came
comes : (peer other : PeerAddress) (head : NextHead) → other ≡ peer → AreFrom peer (option_to_list (request_at other head))
comes peer other (next_head.Head item) is = (is, tt)
comes peer other (next_head.Fault fault) is = tt
comes peer other next_head.Pending is = tt
comes peer other (next_head.Closed end) is = tt

waits_at : (peer : PeerAddress) (request : Option Asking) → AreFrom peer (option_to_list request) → AreFrom peer (waits_in (stage_at request))
waits_at peer None from = tt
waits_at peer (Some request) from = from

head_told : (peer other : PeerAddress) (v w : View) (head : NextHead) → v.peer ≡ peer → other ≡ v.peer → w.peer ≡ v.peer → w.stage ≡ stage_at (request_at other head)
    → Told peer (option_to_list (request_at other head)) [] w
head_told peer other v w head from is same now =
    let all : AreFrom peer (option_to_list (request_at other head)) = comes peer other head (is ∙ from) in
    record {
      peer_is = same ∙ from;
      came = all;
      called_by = tt;
      waits = subst (λ (x : Stage). AreFrom peer (waits_in x)) (sym now) (waits_at peer (request_at other head) all);
    }

-- the one that waits
one_waits : (peer : PeerAddress) (stage : Stage) (request : Asking) → stage ≡ waiting request → AreFrom peer (waits_in stage) → AreFrom peer (request ∷ [])
one_waits peer stage request is waits = subst (λ (x : Stage). AreFrom peer (waits_in x)) is waits

asked_waits : (peer : PeerAddress) (request : Asking) (answer : Poll (Result Unit Answer)) → AreFrom peer (request ∷ []) → AreFrom peer (waits_in (stage_asked request answer))
asked_waits peer request (Ready (Ok x)) from = from
asked_waits peer request (Ready (Err e)) from = tt
asked_waits peer request Pending from = from

call_told : (peer : PeerAddress) (v w : View) (took : Option Took) (request : Asking) → v.peer ≡ peer → AreFrom peer (request ∷ []) → w.peer ≡ v.peer → w.stage ≡ calling took
    → Told peer [] (request ∷ []) w
call_told peer v w took request from waits same now = record {
  peer_is = same ∙ from;
  came = tt;
  called_by = waits;
  waits = subst (λ (x : Stage). AreFrom peer (waits_in x)) (sym now) tt;
}

-- where none waits
answered_waits : (peer : PeerAddress) (took : Option Took) (answer : Poll (Result Answer Answer)) → AreFrom peer (waits_in (stage_answered took answer))
answered_waits peer took (Ready (Ok x)) = tt
answered_waits peer took (Ready (Err e)) = tt
answered_waits peer took Pending = tt

replied_waits : (peer : PeerAddress) (body : Giving) (size : BodySize) → AreFrom peer (waits_in (stage_replied body size))
replied_waits peer body NoBody = tt
replied_waits peer body (Sized zero) = tt
replied_waits peer body (Sized (suc n)) = tt
replied_waits peer body Stream = tt

sent_waits : (peer : PeerAddress) (left : Giving) (piece : Piece) → AreFrom peer (waits_in (stage_sent left piece))
sent_waits peer left (Ready None) = tt
sent_waits peer left (Ready (Some piece)) = tt
sent_waits peer left Pending = tt

step_tells : (peer : PeerAddress) (v w : View) (d : Step) → v.peer ≡ peer → AreFrom peer (waits_in v.stage) → IsStep v d w → Told peer (step_requests d) (step_calls d) w
step_tells peer v w (ticked moment expiry) from waits is = stays peer v w from waits (ap (λ (x : View). x.peer) is.1) (ap (λ (x : View). x.stage) is.1)
step_tells peer v w drained from waits is = stays peer v w from waits (ap (λ (x : View). x.peer) is.1) (ap (λ (x : View). x.stage) is.1)
step_tells peer v w (written answer) from waits is = stays peer v w from waits (ap (λ (x : View). x.peer) is.4) (ap (λ (x : View). x.stage) is.4)
step_tells peer v w (read came answer) from waits is = stays peer v w from waits (ap (λ (x : View). x.peer) is.4) (ap (λ (x : View). x.stage) is.4)
step_tells peer v w (shut answer) from waits is = stays peer v w from waits (ap (λ (x : View). x.peer) is.2) (ap (λ (x : View). x.stage) is.2)
step_tells peer v w (next other head) from waits is = head_told peer other v w head from is.5 (ap (λ (x : View). x.peer) is.4) (ap (λ (x : View). x.stage) is.4)
step_tells peer v w (closed end) from waits is = stays peer v w from waits (ap (λ (x : View). x.peer) is.4) (ap (λ (x : View). x.stage) is.4)
step_tells peer v w continued from waits is = stays peer v w from waits (ap (λ (x : View). x.peer) is.3) (ap (λ (x : View). x.stage) is.3)
step_tells peer v w (ready request answer) from waits is =
    to peer v w (stage_asked request answer) from (ap (λ (x : View). x.peer) is.3) (ap (λ (x : View). x.stage) is.3) (asked_waits peer request answer (one_waits peer v.stage request is.0.1 waits))
step_tells peer v w (called request) from waits is =
    call_told peer v w is.2.0 request from (one_waits peer v.stage request is.0.1 waits) (ap (λ (x : View). x.peer) is.2.2) (ap (λ (x : View). x.stage) is.2.2)
step_tells peer v w (answered answer) from waits is =
    to peer v w (stage_answered is.more answer) from (ap (λ (x : View). x.peer) is.same) (ap (λ (x : View). x.stage) is.same) (answered_waits peer is.more answer)
step_tells peer v w (pulled piece) from waits is = stays peer v w from waits (ap (λ (x : View). x.peer) is.2) (ap (λ (x : View). x.stage) is.2)
step_tells peer v w paused from waits is = stays peer v w from waits (ap (λ (x : View). x.peer) is.4) (ap (λ (x : View). x.stage) is.4)
step_tells peer v w dropped from waits is = stays peer v w from waits (ap (λ (x : View). x.peer) is.3) (ap (λ (x : View). x.stage) is.3)
step_tells peer v w (replied answer) from waits is =
    to peer v w (stage_replied answer.body answer.body.size) from (ap (λ (x : View). x.peer) is.3) (ap (λ (x : View). x.stage) is.3) (replied_waits peer answer.body answer.body.size)
step_tells peer v w (sent piece) from waits is =
    to peer v w (stage_sent is.0 piece) from (ap (λ (x : View). x.peer) is.3) (ap (λ (x : View). x.stage) is.3) (sent_waits peer is.0 piece)
step_tells peer v w (failed event) from waits is = stays peer v w from waits (ap (λ (x : View). x.peer) is.2) (ap (λ (x : View). x.stage) is.2)
step_tells peer v w (failed_write count) from waits is = stays peer v w from waits (ap (λ (x : View). x.peer) is.4) (ap (λ (x : View). x.stage) is.4)
step_tells peer v w (failed_read came event) from waits is = stays peer v w from waits (ap (λ (x : View). x.peer) is.4) (ap (λ (x : View). x.stage) is.4)
step_tells peer v w (failed_fed bytes) from waits is = stays peer v w from waits (ap (λ (x : View). x.peer) is.2) (ap (λ (x : View). x.stage) is.2)
step_tells peer v w (failed_sent piece) from waits is = to peer v w (sending is.0) from (ap (λ (x : View). x.peer) is.3) (ap (λ (x : View). x.stage) is.3) tt
step_tells peer v w asked_to_drain from waits is = stays peer v w from waits (ap (λ (x : View). x.peer) is) (ap (λ (x : View). x.stage) is)
step_tells peer v w (asked_to_hold upgrades expects) from waits is = stays peer v w from waits (ap (λ (x : View). x.peer) is) (ap (λ (x : View). x.stage) is)
step_tells peer v w declined from waits is = stays peer v w from waits (ap (λ (x : View). x.peer) is) (ap (λ (x : View). x.stage) is)
step_tells peer v w let_on from waits is = stays peer v w from waits (ap (λ (x : View). x.peer) is) (ap (λ (x : View). x.stage) is)
step_tells peer v w (turned_away request answer) from waits is = to peer v w (replying answer) from (ap (λ (x : View). x.peer) is.2) (ap (λ (x : View). x.stage) is.2) tt
step_tells peer v w (refused limit error) from waits is = stays peer v w from waits (ap (λ (x : View). x.peer) is.2) (ap (λ (x : View). x.stage) is.2)

-- ---- a run

pub from_on : (peer : PeerAddress) (xs ys : List Asking) → AreFrom peer xs → AreFrom peer ys → AreFrom peer (xs ++ ys)
from_on peer [] ys first more = more
from_on peer (x ∷ xs) ys first more = (first.0, from_on peer xs ys first.1 more)

tells_from : (peer : PeerAddress) (v w : View) (steps : List Step) → v.peer ≡ peer → AreFrom peer (waits_in v.stage) → IsRun v steps w → Told peer (requests steps) (calls steps) w
tells_from peer v w [] from waits is = stays peer v w from waits (ap (λ (x : View). x.peer) is) (ap (λ (x : View). x.stage) is)
tells_from peer v w (d ∷ steps) from waits is =
    let one = step_tells peer v is.0 d from waits is.1 in
    let more = tells_from peer is.0 w steps one.peer_is one.waits is.2 in
    record {
      peer_is = more.peer_is;
      came = from_on peer (step_requests d) (requests steps) one.came more.came;
      called_by = from_on peer (step_calls d) (calls steps) one.called_by more.called_by;
      waits = more.waits;
    }

pub run_tells : (v w : View) (steps : List Step) → IsRun v steps w → AreFrom v.peer (waits_in v.stage) → TellsPeer v steps w
run_tells v w steps is waits =
    let told = tells_from v.peer v w steps refl waits is in
    record { peer = told.peer_is; came = told.came; called = told.called_by; waits = told.waits }
