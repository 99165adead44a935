-- A run is a trace of the connection.
use Rattle.std.proofs.Common.{◌≡◌, ◌≤◌, ℕ, Bool, ◌-◌, List, [], ◌∷◌, ◌++◌, length, take, Option, Some, None, Result, Ok, Err, inl, inr, refl, sym, ap, ◌∙◌, subst, append_assoc, append-nil, arith}
use Rattle.std.proofs.lemmas.List.{length-take, take_all}
use Rattle.futures.specs.declared.task.Poll.{Poll}
use Rattle.futures.specs.declared.task.Poll.TheVariants.{Ready, Pending}
use Rattle.http_config.specs.declared.Failed.{Failed}
use Rattle.http_bodies.specs.Giving.{Piece}
use Rattle.http_bodies.specs.Told.{Grows}
use Rattle.http_bodies.specs.declared.body.fault.BodyFault.TheVariants.{Body, NoMemory}
use Rattle.http_bodies.proofs.Histories.{grown, grown-none}
use Rattle.http_config.specs.Config.{Settings}
use Rattle.http_services.specs.Serving.{Serving}
use Rattle.http_transport.specs.Peer.{PeerAddress}
use Rattle.http_transport.specs.Wiring.{Wiring, ReadSays, WriteSays, moved}
use Rattle.h1_payload.specs.Rests.{SaysPulled}
use Rattle.h1_payload.specs.declared.pulled.Pulled.{Pulled}
use Rattle.h1_payload.specs.declared.pulled.Pulled.TheVariants as pieces
use Rattle.h1_encoder.specs.Meaning.{answer_of, size_of}
use Rattle.model_h1.specs.End.{End}
use Rattle.model_h1.specs.Event as on
use Rattle.model_h1.specs.Setting.{Setting}
use Rattle.model_h1.specs.Sums as sums
use Rattle.model_h1.specs.Sums.{step_taken, step_written, taken, written}
use Rattle.model_state.specs.Kept.{Kept, Change}
use Rattle.model_state.specs.Local.{closing_by}
use Rattle.model_state.specs.Change.{IsNext}
use Rattle.model_state.specs.Change.{IsStep as Machine}
use Rattle.h1_connection.specs.Heads.{SaysNext}
use Rattle.h1_connection.specs.EventMeaning.{setting_of, end_of}
use Rattle.h1_connection.specs.State.{IsMarked, IsCounted, Is}
use Rattle.h1_connection.specs.Steps.{Pair}
use Rattle.h1_connection.specs.Ticks.{expiry_of}
use Rattle.h1_connection.specs.declared.connection.heads.NextHead.{NextHead}
use Rattle.h1_connection.specs.declared.connection.heads.NextHead.TheVariants as next_head
use Rattle.h1_connection.specs.declared.connection.ticks.Expiry.{Expiry}
use Rattle.h1_connection.specs.declared.connection.ticks.Expiry.TheVariants as expiries
use Rattle.h1_traced.specs.Traced.{TracedView, TracedStands}
use Rattle.h1_traced.proofs.TracedLaws.{fresh_marked, fresh_counted}
use Rattle.h1_dispatcher.specs.View.{View, Asking, Answer, buffered, room, view_begun}
use Rattle.h1_dispatcher.specs.Steps.{Step, Goes, Wrote, Took, Sent, IsStep, IsRun, request_at, ticked, drained, written as wrote, read, shut, next, closed, continued, ready, called, answered, pulled, paused, dropped, replied, sent, failed, failed_write, failed_read, failed_fed, failed_sent, asked_to_drain, asked_to_hold, declined, let_on, turned_away, refused}
use Rattle.h1_dispatcher.specs.Traces.{IsNoted, AllNoted, of_answer, answers_in, piece_hands, step_hands, hands, of_request, requests_in, Came, heads_of, pieces_of, step_came, came, AreCame, Follows, AreTraces}

-- ---- sums

taken_more : (b a : List sums.Step) → taken (b ++ a) ≡ taken a ++ taken b
unfolding taken
taken_more [] a = sym (append-nil (taken a))
taken_more (s ∷ b) a = ap (λ l. l ++ step_taken s.event s.outcome) (taken_more b a) ∙ append_assoc (taken a) (taken b) (step_taken s.event s.outcome)

written_more : (b a : List sums.Step) → written (b ++ a) ≡ written a ++ written b
unfolding written
written_more [] a = sym (append-nil (written a))
written_more (s ∷ b) a = ap (λ l. l ++ step_written s.outcome) (written_more b a) ∙ append_assoc (written a) (written b) (step_written s.outcome)

one_taken : (s : sums.Step) → taken (s ∷ []) ≡ step_taken s.event s.outcome
unfolding taken
one_taken s = refl

one_written : (s : sums.Step) → written (s ∷ []) ≡ step_written s.outcome
unfolding written
one_written s = refl

none_taken : taken [] ≡ []
unfolding taken
none_taken = refl

none_written : written [] ≡ []
unfolding written
none_written = refl

same_grows : (a b : Option (List ℕ)) → b ≡ a → Grows a b []
same_grows a b same = same ∙ grown-none a

answers_more : (b a : List sums.Step) → answers_in (b ++ a) ≡ answers_in a ++ answers_in b
answers_more [] a = sym (append-nil (answers_in a))
answers_more (s ∷ b) a = ap (λ l. l ++ of_answer s.event) (answers_more b a) ∙ append_assoc (answers_in a) (answers_in b) (of_answer s.event)

requests_more : (b a : List sums.Step) → requests_in (b ++ a) ≡ requests_in a ++ requests_in b
requests_more [] a = sym (append-nil (requests_in a))
requests_more (s ∷ b) a = ap (λ l. l ++ of_request s.outcome) (requests_more b a) ∙ append_assoc (requests_in a) (requests_in b) (of_request s.outcome)

have_on : (r q : List Came) (g h : List on.Outcome) → AreCame r g → AreCame q h → AreCame (r ++ q) (g ++ h)
have_on [] q [] h first then = then
have_on [] q (x ∷ g) h first then = absurd first
have_on (p ∷ r) q [] h first then = absurd first
have_on (p ∷ r) q (x ∷ g) h first then = (first.0, have_on r q g h first.1 then)

no_request : (out : on.Outcome) → of_request out ≡ [] → AreCame [] (of_request out)
no_request out is = subst (λ l. AreCame [] l) (sym is) tt

-- a trace by which this is handed on of answers, and these requests come
abbrev By : View → List on.Event → List Came → View → Type 0
By v handed asks w = (trace : List sums.Step) → TracedStands v.traced trace → Follows v w trace handed asks

-- ---- one step

-- the traced connection stays
still : (v w : View) → w.traced ≡ v.traced → Grows v.transport.received w.transport.received [] → Grows v.transport.sent w.transport.sent [] → By v [] [] w
still v w traced received sent_so = λ trace stands. record {
  more = [];
  stands = subst (λ (l : TracedView). TracedStands l trace) (sym traced) stands;
  received = subst (λ l. Grows v.transport.received w.transport.received l) (sym none_taken) received;
  sent = subst (λ l. Grows v.transport.sent w.transport.sent l) (sym none_written) sent_so;
  answers = refl;
  requests = tt;
  marks = λ marked. subst (λ (l : TracedView). IsMarked l.state trace) (sym traced) marked;
  ahead = λ counted. subst (λ (l : TracedView). IsCounted l.state trace) (sym traced) counted;
}

-- what an outcome has to fit
record Fits (v w : View) (event : on.Event) (asks : List Came) (out : on.Outcome) : Type 0 where
  received : Grows v.transport.received w.transport.received (step_taken event out)
  sent : Grows v.transport.sent w.transport.sent (step_written out)
  requests : AreCame asks (of_request out)

-- an event came
went : (v w : View) (event : on.Event) (asks : List Came) (Says : on.Outcome → Type 0) → Goes v.traced event Says w.traced
    → ((out : on.Outcome) → Says out → Machine (setting_of v.traced.state.settings) v.traced.state.kept event out w.traced.state.kept → Fits v w event asks out)
    → By v (of_answer event) asks w
went v w event asks Says goes fits = λ trace stands.
    let x = goes.steps trace stands in
    let s : sums.Step = record { event = event; outcome = x.0 } in
    let f = fits x.0 x.1 x.2.machine in
    record {
      more = s ∷ [];
      stands = x.2.stands;
      received = subst (λ l. Grows v.transport.received w.transport.received l) (sym (one_taken s)) f.received;
      sent = subst (λ l. Grows v.transport.sent w.transport.sent l) (sym (one_written s)) f.sent;
      answers = refl;
      requests = f.requests;
      marks = x.2.marks;
      ahead = x.2.ahead;
    }

-- by which the transport moved nothing
quiet : (v w : View) (event : on.Event) (out : on.Outcome) → w.transport ≡ v.transport → step_taken event out ≡ [] → step_written out ≡ [] → of_request out ≡ [] → Fits v w event [] out
quiet v w event out transport none_in none_out none_head = record {
  received = subst (λ l. Grows v.transport.received w.transport.received l) (sym none_in) (same_grows _ _ (ap (λ (t : Wiring). t.received) transport));
  sent = subst (λ l. Grows v.transport.sent w.transport.sent l) (sym none_out) (same_grows _ _ (ap (λ (t : Wiring). t.sent) transport));
  requests = no_request out none_head;
}

no_bytes : (expiry : Expiry) → step_written (expiry_of expiry) ≡ []
no_bytes expiries.None = refl
no_bytes (expiries.Expired end) = refl
no_bytes expiries.Abandoned = refl

no_text : (head : NextHead) (out : on.Outcome) → SaysNext head out → step_written out ≡ []
no_text (next_head.Head item) out says = ap step_written says.2
no_text (next_head.Fault fault) out says = ap step_written says
no_text next_head.Pending out says = ap step_written says
no_text (next_head.Closed end) out says = ap step_written says

no_request_then : (expiry : Expiry) → of_request (expiry_of expiry) ≡ []
no_request_then expiries.None = refl
no_request_then (expiries.Expired end) = refl
no_request_then expiries.Abandoned = refl

-- the request that waits is that of the head
waits_by : (peer : PeerAddress) (head : NextHead) (out : on.Outcome) → SaysNext head out → AreCame (heads_of (request_at peer head)) (of_request out)
waits_by peer (next_head.Head item) out says = subst (λ o. AreCame (heads_of (request_at peer (next_head.Head item))) (of_request o)) (sym says.2) ((says.0, refl, (item, says.1, refl)), tt)
waits_by peer (next_head.Fault fault) out says = no_request out (ap of_request says)
waits_by peer next_head.Pending out says = no_request out (ap of_request says)
waits_by peer (next_head.Closed end) out says = no_request out (ap of_request says)

asked : (v w : View) (peer : PeerAddress) (head : NextHead) → w.transport ≡ v.transport → Goes v.traced on.next (SaysNext head) w.traced → By v [] (heads_of (request_at peer head)) w
asked v w peer head transport goes =
    went v w on.next (heads_of (request_at peer head)) (SaysNext head) goes (λ out says machine. record {
      received = same_grows _ _ (ap (λ (t : Wiring). t.received) transport);
      sent = subst (λ l. Grows v.transport.sent w.transport.sent l) (sym (no_text head out says)) (same_grows _ _ (ap (λ (t : Wiring). t.sent) transport));
      requests = waits_by peer head out says;
    })

-- what came of a body
no_pulled_text : (given : Pulled) (out : on.Outcome) → SaysPulled given out → step_written out ≡ []
no_pulled_text (pieces.Bytes bytes) out says = ap step_written says
no_pulled_text (pieces.Trailers trailers) out says = ap step_written says.1
no_pulled_text pieces.End out says = ap step_written says
no_pulled_text (pieces.Broken fault) out says = ap step_written says
no_pulled_text pieces.Pending out says = ap step_written says

came_by : (given : Pulled) (out : on.Outcome) → SaysPulled given out → AreCame (pieces_of given) (of_request out)
came_by (pieces.Bytes bytes) out says = subst (λ o. AreCame (pieces_of (pieces.Bytes bytes)) (of_request o)) (sym says) (refl, tt)
came_by (pieces.Trailers trailers) out says =
    subst (λ o. AreCame (pieces_of (pieces.Trailers trailers)) (of_request o)) (sym says.1) ((says.0, refl, says.2), tt)
came_by pieces.End out says = subst (λ o. AreCame (pieces_of pieces.End) (of_request o)) (sym says) (refl, tt)
came_by (pieces.Broken fault) out says = subst (λ o. AreCame (pieces_of (pieces.Broken fault)) (of_request o)) (sym says) (refl, tt)
came_by pieces.Pending out says = subst (λ o. AreCame (pieces_of pieces.Pending) (of_request o)) (sym says) tt

pulls : (v w : View) (given : Pulled) → w.transport ≡ v.transport → Goes v.traced on.pull (SaysPulled given) w.traced → By v [] (pieces_of given) w
pulls v w given transport goes =
    went v w on.pull (pieces_of given) (SaysPulled given) goes (λ out says machine. record {
      received = same_grows _ _ (ap (λ (t : Wiring). t.received) transport);
      sent = subst (λ l. Grows v.transport.sent w.transport.sent l) (sym (no_pulled_text given out says)) (same_grows _ _ (ap (λ (t : Wiring). t.sent) transport));
      requests = came_by given out says;
    })

-- a connection that closes hands none out
ends_none : (set : Setting) (k : Kept) (closing : Option End) (end : End) (c : Change) → closing ≡ Some end → IsNext set k closing c → of_request c.outcome ≡ []
ends_none set k (Some other) end c closes is = ap (λ (x : Change). of_request x.outcome) is
ends_none set k None end c closes is = absurd (cc closes)

told_end : (v w : View) (end : End) (head : NextHead) → w.transport ≡ v.transport → closing_by (setting_of v.traced.state.settings) v.traced.state.kept ≡ Some end
    → Goes v.traced on.next (SaysNext head) w.traced → By v [] [] w
told_end v w end head transport closes goes =
    let set = setting_of v.traced.state.settings in
    let k = v.traced.state.kept in
    went v w on.next [] (SaysNext head) goes
    (λ out says machine. quiet v w on.next out transport refl (no_text head out says) (ap of_request machine.answers ∙ ends_none set k (closing_by set k) end machine.change closes machine.changes))

done : (v w : View) (event : on.Event) → w.transport ≡ v.transport → step_taken event on.done ≡ [] → Goes v.traced event (Is on.done) w.traced → By v (of_answer event) [] w
done v w event transport none goes =
    went v w event [] (Is on.done) goes (λ out is machine. quiet v w event out transport (ap (λ o. step_taken event o) is ∙ none) (ap step_written is) (ap of_request is))

-- bytes that the transport took
gave : (v w : View) (answer : Poll (Result ℕ Failed)) → WriteSays v.transport w.transport answer (buffered v) → Wrote v.traced w.traced answer → By v [] [] w
gave v w (Ready (Ok n)) says goes =
    went v w (on.write n) [] (Is (on.gave (take n (buffered v)))) goes.1 (λ out is machine. record {
      received = same_grows _ _ says.received;
      sent = subst (λ l. Grows v.transport.sent w.transport.sent l) (sym (ap step_written is)) says.sent;
      requests = no_request out (ap of_request is);
    })
gave v w (Ready (Err e)) says same = still v w same (same_grows _ _ says.received) says.sent
gave v w Pending says same = still v w same (same_grows _ _ says.received) says.sent

-- a read of no more than fits takes all
took_all : (set : Setting) (k later : Kept) (bytes : List ℕ) (out : on.Outcome) → length bytes ≤ set.hold_size - length k.unread
    → Machine set k (on.read bytes) out later → out ≡ on.took (length bytes)
took_all set k later bytes out fits m =
    m.answers ∙ ap (λ (c : Change). c.outcome) m.changes ∙ ap (λ (n : ℕ). on.took n) (omega (arith, fits))

all_taken : (l : List ℕ) → take (length l) l ≡ l
all_taken l = take_all (length l) l (omega arith)

short : (n : ℕ) (buf : List ℕ) (m : ℕ) → length buf ≤ m → length (take n buf) ≤ m
short n buf m fits = omega (arith, length-take n buf, fits)

took : (v w : View) (came buf : List ℕ) (answer : Poll (Result ℕ Failed)) → length buf ≤ room v → came ≡ moved answer buf → ReadSays v.transport w.transport answer buf
    → Took v.traced w.traced came answer → By v [] [] w
took v w came buf (Ready (Ok n)) fits are says (inl end) =
    went v w on.eof [] (Is on.done) end.1 (λ out is machine. record {
      received = subst (λ m. Grows v.transport.received w.transport.received (take m buf)) end.0 says.received;
      sent = subst (λ l. Grows v.transport.sent w.transport.sent l) (sym (ap step_written is)) (same_grows _ _ says.sent);
      requests = no_request out (ap of_request is);
    })
took v w came buf (Ready (Ok n)) fits are says (inr some) =
    went v w (on.read came) [] (Is (on.took some.1.0)) some.1.1 (λ out is machine.
    let all = took_all (setting_of v.traced.state.settings) v.traced.state.kept w.traced.state.kept came out
    (subst (λ l. length l ≤ room v) (sym are) (short n buf (room v) fits)) machine in
    record {
      received = subst (λ l. Grows v.transport.received w.transport.received l) (sym (ap (λ o. step_taken (on.read came) o) all ∙ all_taken came ∙ are)) says.received;
      sent = subst (λ l. Grows v.transport.sent w.transport.sent l) (sym (ap step_written is)) (same_grows _ _ says.sent);
      requests = no_request out (ap of_request is);
    })
took v w came buf (Ready (Err e)) fits are says same = still v w same says.received (same_grows _ _ says.sent)
took v w came buf Pending fits are says same = still v w same says.received (same_grows _ _ says.sent)

transport_same : (v w : View) → w.traced ≡ v.traced → w.transport ≡ v.transport → By v [] [] w
transport_same v w traced transport = still v w traced (same_grows _ _ (ap (λ (t : Wiring). t.received) transport)) (same_grows _ _ (ap (λ (t : Wiring). t.sent) transport))

-- what came of a body
sends : (v w : View) (piece : Piece) → w.transport ≡ v.transport → Sent v.traced w.traced piece → By v (piece_hands piece) [] w
sends v w (Ready (Some (Ok bytes))) transport goes = done v w (on.chunk bytes) transport refl goes
sends v w (Ready (Some (Err (Body n)))) transport goes = done v w on.body_error transport refl goes
sends v w (Ready (Some (Err NoMemory))) transport goes = absurd goes
sends v w (Ready None) transport goes = done v w on.body_end transport refl goes
sends v w Pending transport same = transport_same v w same transport

pub step_follows : (v w : View) (d : Step) → IsNoted d → IsStep v d w → By v (step_hands d) (step_came d) w
step_follows v w (ticked moment expiry) noted is =
    went v w (on.tick moment) [] (Is (expiry_of expiry)) is.0 (λ out says machine. quiet v w (on.tick moment) out (ap (λ (x : View). x.transport) is.1) refl (ap step_written says ∙ no_bytes expiry) (ap of_request says ∙ no_request_then expiry))
step_follows v w drained noted is = done v w on.drain (ap (λ (x : View). x.transport) is.1) refl is.0
step_follows v w (wrote answer) noted is = gave v w answer is.2 is.3
step_follows v w (read came answer) noted is = took v w came is.2.0 answer is.2.2 is.2.3 is.2.4 is.3
step_follows v w (shut answer) noted is = still v w (ap (λ (x : View). x.traced) is.2) (same_grows _ _ is.1.received) (same_grows _ _ is.1.sent)
step_follows v w (next peer head) noted is = asked v w peer head (ap (λ (x : View). x.transport) is.4) is.3
step_follows v w (closed end) noted is = told_end v w (end_of end) is.3.0 (ap (λ (x : View). x.transport) is.4) is.1 is.3.1
step_follows v w continued noted is = done v w on.send_continue (ap (λ (x : View). x.transport) is.3) refl is.2
step_follows v w (ready request answer) noted is = transport_same v w (ap (λ (x : View). x.traced) is.3) (ap (λ (x : View). x.transport) is.3)
step_follows v w (called request) noted is = transport_same v w (ap (λ (x : View). x.traced) is.2.2) (ap (λ (x : View). x.transport) is.2.2)
step_follows v w (answered answer) noted is = transport_same v w (ap (λ (x : View). x.traced) is.same) (ap (λ (x : View). x.transport) is.same)
step_follows v w (pulled given) noted is = pulls v w given (ap (λ (x : View). x.transport) is.2) is.1
step_follows v w paused noted is = transport_same v w (ap (λ (x : View). x.traced) is.4) (ap (λ (x : View). x.transport) is.4)
step_follows v w dropped noted is = done v w on.drop_body (ap (λ (x : View). x.transport) is.3) refl is.2
step_follows v w (replied answer) noted is = done v w (on.answer (answer_of answer.head) (size_of answer.body.size)) (ap (λ (x : View). x.transport) is.3) refl is.2
step_follows v w (sent piece) noted is = sends v w piece (ap (λ (x : View). x.transport) is.3) is.2
step_follows v w (failed event) noted is = absurd noted
step_follows v w (failed_write count) noted is = absurd noted
step_follows v w (failed_read came event) noted is = absurd noted
step_follows v w (failed_fed bytes) noted is = absurd noted
step_follows v w (failed_sent piece) noted is = absurd noted
step_follows v w asked_to_drain noted is = transport_same v w (ap (λ (x : View). x.traced) is) (ap (λ (x : View). x.transport) is)
step_follows v w (asked_to_hold upgrades expects) noted is = transport_same v w (ap (λ (x : View). x.traced) is) (ap (λ (x : View). x.transport) is)
step_follows v w declined noted is = transport_same v w (ap (λ (x : View). x.traced) is) (ap (λ (x : View). x.transport) is)
step_follows v w let_on noted is = transport_same v w (ap (λ (x : View). x.traced) is) (ap (λ (x : View). x.transport) is)
step_follows v w (turned_away request answer) noted is = transport_same v w (ap (λ (x : View). x.traced) is.2) (ap (λ (x : View). x.transport) is.2)
step_follows v w (refused limit error) noted is =
    went v w (on.accept limit) [] (Is (on.refused error)) is.1
    (λ out says machine. quiet v w (on.accept limit) out (ap (λ (x : View). x.transport) is.2) (ap (λ o. step_taken (on.accept limit) o) says) (ap step_written says) (ap of_request says))

follows_on : (v u w : View) (first then : List on.Event) (asks later : List Came) → By v first asks u → By u then later w → By v (first ++ then) (asks ++ later) w
follows_on v u w first then asks later a b = λ trace stands.
    let x = a trace stands in
    let y = b (x.more ++ trace) x.stands in
    record {
      more = y.more ++ x.more;
      stands = subst (λ (l : List sums.Step). TracedStands w.traced l) (sym (append_assoc y.more x.more trace)) y.stands;
      received = subst (λ l. Grows v.transport.received w.transport.received l) (sym (taken_more y.more x.more)) (grown (taken x.more) (taken y.more) _ _ _ x.received y.received);
      sent = subst (λ l. Grows v.transport.sent w.transport.sent l) (sym (written_more y.more x.more)) (grown (written x.more) (written y.more) _ _ _ x.sent y.sent);
      answers = answers_more y.more x.more ∙ ap (λ l. l ++ answers_in y.more) x.answers ∙ ap (λ l. first ++ l) y.answers;
      requests = subst (λ l. AreCame (asks ++ later) l) (sym (requests_more y.more x.more)) (have_on asks later (requests_in x.more) (requests_in y.more) x.requests y.requests);
      marks = λ marked. subst (λ (l : List sums.Step). IsMarked w.traced.state l) (sym (append_assoc y.more x.more trace)) (y.marks (x.marks marked));
      ahead = λ counted. subst (λ (l : List sums.Step). IsCounted w.traced.state l) (sym (append_assoc y.more x.more trace)) (y.ahead (x.ahead counted));
    }

pub run_follows : (v w : View) (steps : List Step) → AllNoted steps → IsRun v steps w → AreTraces v steps w
run_follows v w [] noted is = transport_same v w (ap (λ (x : View). x.traced) is) (ap (λ (x : View). x.transport) is)
run_follows v w (d ∷ steps) noted is =
    follows_on v is.0 w (step_hands d) (hands steps) (step_came d) (came steps) (step_follows v is.0 d noted.0 is.1) (run_follows is.0 w steps noted.1 is.2)

-- ---- before the first step

pub begun_marked : (transport : Wiring) (service : Serving Asking Answer Answer) (settings : Settings) (peer : PeerAddress) (noted : Option (List Pair)) (listens : Bool) → IsMarked (view_begun transport service settings peer noted listens).traced.state []
begun_marked transport service settings peer noted listens = fresh_marked settings

pub begun_counted : (transport : Wiring) (service : Serving Asking Answer Answer) (settings : Settings) (peer : PeerAddress) (noted : Option (List Pair)) (listens : Bool) → IsCounted (view_begun transport service settings peer noted listens).traced.state []
begun_counted transport service settings peer noted listens = fresh_counted settings
