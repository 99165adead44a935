-- A run is a trace of the connection.
use Rattle.std.proofs.Common.{◌≡◌, ◌≤◌, ℕ, ◌-◌, Bool, true, false, List, [], ◌∷◌, ◌++◌, length, map, take, Option, Some, None, Result, Ok, Err, inl, inr, refl, sym, ap, ◌∙◌, subst, append_assoc, append-nil, arith}
use Rattle.std.specs.Prelude.{◌&&◌}
use Rattle.std.proofs.lemmas.List.{length-take, take_all, take-append-le, map-append}
use Rattle.futures.specs.declared.task.Poll.{Poll}
use Rattle.futures.specs.declared.task.Poll.TheVariants.{Ready, Pending}
use Rattle.http_config.specs.declared.Failed.{Failed}
use Rattle.http_bodies.specs.Told.{Grows}
use Rattle.http_bodies.proofs.Histories.{grown, grown-none}
use Rattle.http_transport.specs.Wiring.{Wiring, ReadSays, WriteSays, moved}
use Rattle.ws_frames.specs.Sent.{message_says}
use Rattle.model_h1.specs.Event as on
use Rattle.model_h1.specs.Frame as said
use Rattle.model_h1.specs.Setting.{Setting}
use Rattle.model_h1.specs.Sums as sums
use Rattle.model_h1.specs.Sums.{step_taken, step_written, taken, written}
use Rattle.model_state.specs.Kept.{Kept, Change}
use Rattle.model_h1.specs.Frame.{ProtocolError}
use Rattle.model_h1.specs.FrameText.{Front, partial, whole, breaks, front_frame, send_error}
use Rattle.model_h1.specs.Parse.{connection_reader}
use Rattle.model_state.specs.Kept.{Exchange, Rest, no_rest, raw_rest, fixed_rest, chunks_rest, frames_rest, is_frames, of_exchange, is_upgraded}
use Rattle.model_state.specs.Local.{allowed_by}
use Rattle.model_state.specs.Pull.{Pulled, IsPull, pull_front}
use Rattle.model_state.specs.Change.{IsPulling, sending_message}
use Rattle.model_state.specs.Change.{IsStep as Machine}
use Rattle.h1_connection.specs.Given.{frame_allowed}
use Rattle.h1_connection.specs.Heads.{SaysNext}
use Rattle.h1_connection.specs.EventMeaning.{setting_of, SaysOutcome}
use Rattle.h1_connection.specs.State.{Is}
use Rattle.h1_connection.specs.Ticks.{expiry_of}
use Rattle.h1_connection.specs.declared.connection.heads.NextHead.{NextHead}
use Rattle.h1_connection.specs.declared.connection.heads.NextHead.TheVariants as next_head
use Rattle.h1_connection.specs.declared.connection.ticks.Expiry.{Expiry}
use Rattle.h1_connection.specs.declared.connection.ticks.Expiry.TheVariants as expiries
use Rattle.h1_connection.specs.declared.event.Outcome.{Outcome}
use Rattle.h1_connection.specs.declared.event.Outcome.TheVariants as out
use Rattle.h1_traced.specs.Traced.{TracedView, TracedStands}
use Rattle.ws_service.specs.declared.item.UpgradeItem.{UpgradeItem}
use Rattle.ws_service.specs.View.{View, buffered, room}
use Rattle.ws_service.specs.Steps.{Step, Goes, IsFront, Wrote, Took, FindsNone, IsStep, IsRun, given_of, ticked, drained, written as wrote, read, told_end, shut, closed, ready, called, answered, pulled, sent, failed, unsent, failed_write, failed_read, asked_to_drain}
use Rattle.ws_service.specs.Order.{frames_given, step_frames, step_sent, frames, sends}
use Rattle.ws_service.specs.Traces.{IsNoted, AllNoted, of_frame, frames_in, of_message, messages_in, Follows, AreTraces}

-- ---- sums over traces

-- a sum that grows by each newer step
more_sum : {A : Type 0} (sum : List sums.Step → List A) (by : sums.Step → List A) → sum [] ≡ [] → ((s : sums.Step) (b : List sums.Step) → sum (s ∷ b) ≡ sum b ++ by s)
    → (b a : List sums.Step) → sum (b ++ a) ≡ sum a ++ sum b
more_sum sum by none step [] a = sym (append-nil (sum a)) ∙ ap (λ l. sum a ++ l) (sym none)
more_sum sum by none step (s ∷ b) a =
    step s (b ++ a) ∙ ap (λ l. l ++ by s) (more_sum sum by none step b a) ∙ append_assoc (sum a) (sum b) (by s) ∙ ap (λ l. sum a ++ l) (sym (step s b))

none_taken : taken [] ≡ []
unfolding taken
none_taken = refl

step_taken_more : (s : sums.Step) (b : List sums.Step) → taken (s ∷ b) ≡ taken b ++ step_taken s.event s.outcome
unfolding taken
step_taken_more s b = refl

none_written : written [] ≡ []
unfolding written
none_written = refl

step_written_more : (s : sums.Step) (b : List sums.Step) → written (s ∷ b) ≡ written b ++ step_written s.outcome
unfolding written
step_written_more s b = refl

one_taken : (s : sums.Step) → taken (s ∷ []) ≡ step_taken s.event s.outcome
one_taken s = step_taken_more s [] ∙ ap (λ l. l ++ step_taken s.event s.outcome) none_taken

one_written : (s : sums.Step) → written (s ∷ []) ≡ step_written s.outcome
one_written s = step_written_more s [] ∙ ap (λ l. l ++ step_written s.outcome) none_written

same_grows : (a b : Option (List ℕ)) → b ≡ a → Grows a b []
same_grows a b same = same ∙ grown-none a

-- a trace by which these frames come and these messages go
abbrev By : View → List UpgradeItem → List said.Message → View → Type 0
By v came gone w = (trace : List sums.Step) → TracedStands v.traced trace → Follows v w trace came gone

-- ---- one step

-- the traced connection stays
still : (v w : View) → w.traced ≡ v.traced → Grows v.transport.received w.transport.received [] → Grows v.transport.sent w.transport.sent [] → By v [] [] w
still v w traced received sent_so = λ trace stands. record {
  more = [];
  stands = subst (λ (l : TracedView). TracedStands l trace) (sym traced) stands;
  received = subst (λ l. Grows v.transport.received w.transport.received l) (sym none_taken) received;
  sent_so = subst (λ l. Grows v.transport.sent w.transport.sent l) (sym none_written) sent_so;
  came_so = refl;
  gone_so = refl;
}

transport_same : (v w : View) → w.traced ≡ v.traced → w.transport ≡ v.transport → By v [] [] w
transport_same v w traced transport = still v w traced (same_grows _ _ (ap (λ (t : Wiring). t.received) transport)) (same_grows _ _ (ap (λ (t : Wiring). t.sent) transport))

-- what an outcome has to fit
record Fits (v w : View) (event : on.Event) (came : List UpgradeItem) (out : on.Outcome) : Type 0 where
  received : Grows v.transport.received w.transport.received (step_taken event out)
  sent_so : Grows v.transport.sent w.transport.sent (step_written out)
  came_so : of_frame out ≡ came

-- an event came
went : (v w : View) (event : on.Event) (came : List UpgradeItem) (Says : on.Outcome → Type 0) → Goes v.traced event Says w.traced
    → ((out : on.Outcome) → Says out → Machine (setting_of v.traced.state.settings) v.traced.state.kept event out w.traced.state.kept → Fits v w event came out)
    → By v came (of_message event) w
went v w event came Says goes fits = λ trace stands.
    let x = goes.steps trace stands in
    let s : sums.Step = record { event = event; outcome = x.0 } in
    let f = fits x.0 x.1 x.2.machine in
    record {
      more = s ∷ [];
      stands = x.2.stands;
      received = subst (λ l. Grows v.transport.received w.transport.received l) (sym (one_taken s)) f.received;
      sent_so = subst (λ l. Grows v.transport.sent w.transport.sent l) (sym (one_written s)) f.sent_so;
      came_so = f.came_so;
      gone_so = refl;
    }

-- by which the transport moved nothing
quiet : (v w : View) (event : on.Event) (came : List UpgradeItem) (out : on.Outcome) → w.transport ≡ v.transport → step_taken event out ≡ [] → step_written out ≡ [] → of_frame out ≡ came
    → Fits v w event came out
quiet v w event came out transport none_in none_out frame = record {
  received = subst (λ l. Grows v.transport.received w.transport.received l) (sym none_in) (same_grows _ _ (ap (λ (t : Wiring). t.received) transport));
  sent_so = subst (λ l. Grows v.transport.sent w.transport.sent l) (sym none_out) (same_grows _ _ (ap (λ (t : Wiring). t.sent) transport));
  came_so = frame;
}

-- and of which the outcome is done
done : (v w : View) (event : on.Event) → w.transport ≡ v.transport → step_taken event on.done ≡ [] → Goes v.traced event (Is on.done) w.traced → By v [] (of_message event) w
done v w event transport none goes =
    went v w event [] (Is on.done) goes (λ out is machine. quiet v w event [] out transport (ap (λ o. step_taken event o) is ∙ none) (ap step_written is) (ap of_frame is))

-- a moment
expiry_writes : (expiry : Expiry) → step_written (expiry_of expiry) ≡ []
expiry_writes expiries.None = refl
expiry_writes (expiries.Expired end) = refl
expiry_writes expiries.Abandoned = refl

expiry_frames : (expiry : Expiry) → of_frame (expiry_of expiry) ≡ []
expiry_frames expiries.None = refl
expiry_frames (expiries.Expired end) = refl
expiry_frames expiries.Abandoned = refl

-- the end
next_writes : (head : NextHead) (out : on.Outcome) → SaysNext head out → step_written out ≡ []
next_writes (next_head.Head item) out says = ap step_written says.2
next_writes (next_head.Fault fault) out says = ap step_written says
next_writes next_head.Pending out says = ap step_written says
next_writes (next_head.Closed end) out says = ap step_written says

next_frames : (head : NextHead) (out : on.Outcome) → SaysNext head out → of_frame out ≡ []
next_frames (next_head.Head item) out says = ap of_frame says.2
next_frames (next_head.Fault fault) out says = ap of_frame says
next_frames next_head.Pending out says = ap of_frame says
next_frames (next_head.Closed end) out says = ap of_frame says

-- a frame that came is what was given
says_frame : (outcome : Outcome) (o : on.Outcome) → SaysOutcome outcome o → of_frame o ≡ frames_given (given_of outcome)
says_frame (out.Frame frame) o says = ap of_frame says
says_frame out.Pending o says = ap of_frame says
says_frame (out.Took count) o says = ap of_frame says
says_frame (out.Head item) o says = ap of_frame says.2
says_frame (out.Bytes bytes) o says = ap of_frame says
says_frame (out.Trailers headers) o says = ap of_frame says.2
says_frame out.BodyEnd o says = ap of_frame says
says_frame (out.Closed end) o says = ap of_frame says
says_frame (out.Fault fault) o says = ap of_frame says
says_frame (out.Broken fault) o says = ap of_frame says
says_frame (out.Protocol error) o says = ap of_frame says.outcome_is
says_frame (out.Refused error) o says = ap of_frame says
says_frame (out.Gave bytes) o says = ap of_frame says
says_frame (out.Expired end) o says = ap of_frame says
says_frame out.Abandoned o says = ap of_frame says
says_frame out.Done o says = ap of_frame says

-- asking for a frame writes nothing
front_writes : (under_way : Bool) (limit : ℕ) (bytes : List ℕ) (front : Front) → step_written (pull_front under_way limit bytes front).outcome ≡ []
front_writes under_way limit bytes partial = refl
front_writes under_way limit bytes (whole frame len) = refl
front_writes under_way limit bytes (breaks error) = refl

rest_writes : (ended : Bool) (rest : Rest) (bytes : List ℕ) (p : Pulled) → is_frames rest ≡ true → IsPull ended rest bytes p → step_written p.outcome ≡ []
rest_writes ended no_rest bytes p is pulls = absurd (cc is)
rest_writes ended raw_rest bytes p is pulls = absurd (cc is)
rest_writes ended (fixed_rest n) bytes p is pulls = absurd (cc is)
rest_writes ended (chunks_rest place section) bytes p is pulls = absurd (cc is)
rest_writes ended (frames_rest under_way limit) bytes p is pulls =
    ap (λ (x : Pulled). step_written x.outcome) pulls ∙ front_writes under_way limit bytes (front_frame (connection_reader limit) under_way bytes)

pull_writes : (k : Kept) (e : Option Exchange) (c : Change) → k.exchange ≡ e → is_upgraded k ≡ true → IsPulling k e c → step_written c.outcome ≡ []
pull_writes k None c at is pulls = ap (λ (x : Change). step_written x.outcome) pulls
pull_writes k (Some x) c at is pulls =
    ap (λ (y : Change). step_written y.outcome) pulls.2
    ∙ rest_writes k.has_ended x.rest k.unread pulls.0 (sym (ap (λ y. of_exchange (λ z. is_frames z.rest) (record k { exchange = y })) at) ∙ is) pulls.1

last_true : (a b : Bool) → (a && b) ≡ true → b ≡ true
last_true true b is = is
last_true false b is = absurd (cc is)

frame_writes : (set : Setting) (k next : Kept) (out : on.Outcome) → frame_allowed set k ≡ true → Machine set k on.pull out next → step_written out ≡ []
frame_writes set k next out allowed machine =
    ap step_written machine.answers ∙ pull_writes k k.exchange machine.change refl (last_true (allowed_by set k on.pull) (is_upgraded k) allowed) machine.changes

-- and so does sending: what goes out waits
message_writes : (m : said.Message) (k : Kept) (error : Option ProtocolError) → step_written (sending_message m k error).outcome ≡ []
message_writes m k None = refl
message_writes m k (Some error) = refl

send_writes : (set : Setting) (k next : Kept) (m : said.Message) (out : on.Outcome) → Machine set k (on.send m) out next → step_written out ≡ []
send_writes set k next m out machine =
    ap step_written machine.answers ∙ ap (λ (c : Change). step_written c.outcome) machine.changes ∙ message_writes m k (send_error k.is_sending m)

send_frames : (set : Setting) (k next : Kept) (m : said.Message) (out : on.Outcome) → Machine set k (on.send m) out next → of_frame out ≡ []
send_frames set k next m out machine =
    ap of_frame machine.answers ∙ ap (λ (c : Change). of_frame c.outcome) machine.changes ∙ message_frames m k (send_error k.is_sending m)
  where
    message_frames : (m : said.Message) (k : Kept) (error : Option ProtocolError) → of_frame (sending_message m k error).outcome ≡ []
    message_frames m k None = refl
    message_frames m k (Some error) = refl

-- bytes that the transport took
same_front : (v : View) (front : List ℕ) (n : ℕ) → IsFront v front → n ≤ length front → take n (buffered v) ≡ take n front
same_front v front n is fits = sym (ap (take n) is.first) ∙ take-append-le n front is.rest fits

gave : (v w : View) (front : List ℕ) (answer : Poll (Result ℕ Failed)) → IsFront v front → WriteSays v.transport w.transport answer front → Wrote v.traced w.traced answer → By v [] [] w
gave v w front (Ready (Ok n)) is says goes =
    went v w (on.write n) [] (Is (on.gave (take n (buffered v)))) goes.1 (λ out so machine. record {
      received = same_grows _ _ says.received;
      sent_so = subst (λ l. Grows v.transport.sent w.transport.sent l) (sym (ap step_written so ∙ same_front v front n is says.bound)) says.sent;
      came_so = ap of_frame so;
    })
gave v w front (Ready (Err e)) is says same = still v w same (same_grows _ _ says.received) says.sent
gave v w front Pending is says same = still v w same (same_grows _ _ says.received) says.sent

-- a read of no more than fits takes all
took_all : (set : Setting) (k later : Kept) (bytes : List ℕ) (out : on.Outcome) → length bytes ≤ set.hold_size - length k.unread
    → Machine set k (on.read bytes) out later → out ≡ on.took (length bytes)
took_all set k later bytes out fits m =
    m.answers ∙ ap (λ (c : Change). c.outcome) m.changes ∙ ap (λ (n : ℕ). on.took n) (omega (arith, fits))

all_taken : (l : List ℕ) → take (length l) l ≡ l
all_taken l = take_all (length l) l (omega arith)

short : (n : ℕ) (buf : List ℕ) (m : ℕ) → length buf ≤ m → length (take n buf) ≤ m
short n buf m fits = omega (arith, length-take n buf, fits)

took : (v w : View) (came buf : List ℕ) (answer : Poll (Result ℕ Failed)) → length buf ≤ room v → came ≡ moved answer buf → ReadSays v.transport w.transport answer buf
    → Took v.traced w.traced came answer → By v [] [] w
took v w came buf (Ready (Ok n)) fits are says (inl end) =
    still v w end.1 (subst (λ m. Grows v.transport.received w.transport.received (take m buf)) end.0 says.received) (same_grows _ _ says.sent)
took v w came buf (Ready (Ok n)) fits are says (inr some) =
    went v w (on.read came) [] (Is (on.took some.1.0)) some.1.1 (λ out is machine.
    let all = took_all (setting_of v.traced.state.settings) v.traced.state.kept w.traced.state.kept came out
    (subst (λ l. length l ≤ room v) (sym are) (short n buf (room v) fits)) machine in
    record {
      received = subst (λ l. Grows v.transport.received w.transport.received l) (sym (ap (λ o. step_taken (on.read came) o) all ∙ all_taken came ∙ are)) says.received;
      sent_so = subst (λ l. Grows v.transport.sent w.transport.sent l) (sym (ap step_written is)) (same_grows _ _ says.sent);
      came_so = ap of_frame is;
    })
took v w came buf (Ready (Err e)) fits are says same = still v w same says.received (same_grows _ _ says.sent)
took v w came buf Pending fits are says same = still v w same says.received (same_grows _ _ says.sent)

follows_on : (v u w : View) (came_first came_then : List UpgradeItem) (gone_first gone_then : List said.Message) → By v came_first gone_first u → By u came_then gone_then w
    → By v (came_first ++ came_then) (gone_first ++ gone_then) w
follows_on v u w came_first came_then gone_first gone_then a b = λ trace stands.
    let x = a trace stands in
    let y = b (x.more ++ trace) x.stands in
    record {
      more = y.more ++ x.more;
      stands = subst (λ (l : List sums.Step). TracedStands w.traced l) (sym (append_assoc y.more x.more trace)) y.stands;
      received = subst (λ l. Grows v.transport.received w.transport.received l) (sym (more_sum taken (λ s. step_taken s.event s.outcome) none_taken step_taken_more y.more x.more))
          (grown (taken x.more) (taken y.more) _ _ _ x.received y.received);
      sent_so = subst (λ l. Grows v.transport.sent w.transport.sent l) (sym (more_sum written (λ s. step_written s.outcome) none_written step_written_more y.more x.more))
          (grown (written x.more) (written y.more) _ _ _ x.sent_so y.sent_so);
      came_so = more_sum frames_in (λ s. of_frame s.outcome) refl (λ s b. refl) y.more x.more ∙ ap (λ l. l ++ frames_in y.more) x.came_so ∙ ap (λ l. came_first ++ l) y.came_so;
      gone_so = more_sum messages_in (λ s. of_message s.event) refl (λ s b. refl) y.more x.more ∙ ap (λ l. l ++ messages_in y.more) x.gone_so ∙ ap (λ l. gone_first ++ l) y.gone_so;
    }

-- no frame was there, and then the end of the input was told
tells : (v u w : View) → FindsNone v u → frame_allowed (setting_of v.traced.state.settings) v.traced.state.kept ≡ true → Goes u.traced on.eof (Is on.done) w.traced
    → w ≡ record v { traced = w.traced } → By v [] [] w
tells v u w finds allowed goes same =
    follows_on v u w [] [] [] []
    (went v u on.pull [] (SaysOutcome out.Pending) finds.asked (λ o says machine. quiet v u on.pull [] o (ap (λ (x : View). x.transport) finds.same) refl
    (frame_writes (setting_of v.traced.state.settings) v.traced.state.kept u.traced.state.kept o allowed machine) (ap of_frame says)))
    (done u w on.eof (ap (λ (x : View). x.transport) same ∙ sym (ap (λ (x : View). x.transport) finds.same)) refl goes)

pub step_follows : (v w : View) (d : Step) → IsNoted d → IsStep v d w → By v (step_frames d) (map message_says (step_sent d)) w
step_follows v w (ticked moment expiry) noted is =
    went v w (on.tick moment) [] (Is (expiry_of expiry)) is.0 (λ out says machine. quiet v w (on.tick moment) [] out (ap (λ (x : View). x.transport) is.1) refl
    (ap step_written says ∙ expiry_writes expiry) (ap of_frame says ∙ expiry_frames expiry))
step_follows v w drained noted is = done v w on.drain (ap (λ (x : View). x.transport) is.1) refl is.0
step_follows v w (wrote answer) noted is = gave v w is.1.0 answer is.1.1 is.1.2 is.2
step_follows v w (read came answer) noted is = took v w came is.2.0 answer is.2.2 is.2.3 is.2.4 is.3
step_follows v w told_end noted is = tells v is.4.0 w is.4.1 is.3 is.4.3 is.5
step_follows v w (shut answer) noted is = still v w (ap (λ (x : View). x.traced) is.2) (same_grows _ _ is.1.received) (same_grows _ _ is.1.sent)
step_follows v w (closed end) noted is =
    went v w on.next [] (SaysNext is.3.0) is.3.1 (λ out says machine. quiet v w on.next [] out (ap (λ (x : View). x.transport) is.4) refl (next_writes is.3.0 out says) (next_frames is.3.0 out says))
step_follows v w (ready answer) noted is = transport_same v w (ap (λ (x : View). x.traced) is.4) (ap (λ (x : View). x.transport) is.4)
step_follows v w (called item) noted is = transport_same v w (ap (λ (x : View). x.traced) is.3) (ap (λ (x : View). x.transport) is.3)
step_follows v w (answered answer) noted is = transport_same v w (ap (λ (x : View). x.traced) is.3) (ap (λ (x : View). x.transport) is.3)
step_follows v w (pulled got) noted is =
    went v w on.pull (frames_given got) (SaysOutcome is.3.0) is.3.2 (λ out says machine. quiet v w on.pull (frames_given got) out (ap (λ (x : View). x.transport) is.4) refl
    (frame_writes (setting_of v.traced.state.settings) v.traced.state.kept w.traced.state.kept out is.2 machine) (says_frame is.3.0 out says ∙ ap frames_given (sym is.3.1)))
step_follows v w (sent message) noted is =
    let event = on.send (message_says message) in
    went v w event [] (SaysOutcome is.3.0) is.3.1 (λ out says machine. quiet v w event [] out (ap (λ (x : View). x.transport) is.4) refl
    (send_writes (setting_of v.traced.state.settings) v.traced.state.kept w.traced.state.kept (message_says message) out machine)
    (send_frames (setting_of v.traced.state.settings) v.traced.state.kept w.traced.state.kept (message_says message) out machine))
step_follows v w (failed event) noted is = absurd noted
step_follows v w (unsent message) noted is = absurd noted
step_follows v w (failed_write count) noted is = absurd noted
step_follows v w (failed_read came) noted is = absurd noted
step_follows v w asked_to_drain noted is = transport_same v w (ap (λ (x : View). x.traced) is) (ap (λ (x : View). x.transport) is)

pub run_follows : (v w : View) (steps : List Step) → AllNoted steps → IsRun v steps w → AreTraces v steps w
run_follows v w [] noted is = transport_same v w (ap (λ (x : View). x.traced) is) (ap (λ (x : View). x.transport) is)
run_follows v w (d ∷ steps) noted is =
    subst (λ l. By v (frames (d ∷ steps)) l w) (sym (map-append message_says (step_sent d) (sends steps)))
    (follows_on v is.0 w (step_frames d) (frames steps) (map message_says (step_sent d)) (map message_says (sends steps)) (step_follows v is.0 d noted.0 is.1)
    (run_follows is.0 w steps noted.1 is.2))
