-- What a call of a connection brings.
use Rattle.std.proofs.Common.{◌≡◌, ℕ, ◌<◌, ◌≤◌, Bool, true, false, not, ◌&&◌, ◌||◌, List, [], ◌∷◌, length, Option, None, refl, sym, ap, ◌∙◌, subst, arith, inl, inr, subst₂}
use Rattle.std.specs.Prelude.{IsTrue, is_some, ◌==◌, if◌then◌else◌}
use Rattle.std.proofs.lemmas.Bool.{false≢true}
use Rattle.http_config.specs.Config.{Settings}
use Rattle.model_h1.specs.Event as on
use Rattle.model_h1.specs.Setting.{Setting}
use Rattle.model_h1.specs.Sums as sums
use Rattle.model_h1.specs.Sums.{Step}
use Rattle.model_state.specs.StandsFor.{StandsFor}
use Rattle.h1_payload.specs.Rests.{SaysPulled}
use Rattle.h1_payload.specs.declared.pulled.Pulled.{Pulled}
use Rattle.h1_payload.specs.declared.pulled.Pulled.TheVariants as pulled
use Rattle.h1_connection.specs.EventMeaning.{setting_of}
use Rattle.h1_connection.specs.Heads.{SaysNext}
use Rattle.h1_connection.specs.State.{State, Stands, GoesOn, Is}
use Rattle.h1_connection.specs.declared.connection.heads.NextHead.{NextHead}
use Rattle.h1_connection.specs.declared.connection.heads.NextHead.TheVariants as next
use Rattle.model_client.specs.ClientEvent as asked
use Rattle.model_client.specs.ClientTrace.{Happened, IsClientTrace, now_of, now_after, sending_of, sending_after, text_of_event, given, taken_by, requests_by}
use Rattle.model_client.specs.ClientKept.{ClientKept, SendingBody, client_allows, client_closing}
use Rattle.model_client.specs.ClientStep.{IsClientStep}
use Rattle.model_client.proofs.Written.{is_text}
use Rattle.h1_client.specs.Answers as answers
use Rattle.h1_client.specs.Bodies as bodies
use Rattle.h1_client.specs.ClientMeaning as asking
use Rattle.h1_client.specs.State as servers
use Rattle.h1_client.specs.declared.event.NextAnswer.{NextAnswer}
use Rattle.h1_client.specs.declared.event.NextAnswer.TheVariants as answered
use Rattle.model_state.specs.Kept.{Kept, is_open}
use Rattle.model_state.specs.Local.{closing_by, allowed_by}
use Rattle.h1_connection.specs.Given.{next_allowed}
use Rattle.model_proxy.specs.Left.{AsksNothing, LeavesAfterNext, LacksBody, LeavesAfterPull, server_left, LeavesAfterAnswer, LeavesAfterPiece, LacksPiece}
use Rattle.model_proxy.proofs.Client.{next_leaves, pull_of_client, no_more}
use Rattle.model_proxy.proofs.Server.{answer_leaves, piece_leaves, all_left}
use Rattle.model_proxy.proofs.Waited.{pending_stays, pending_lacks}
use Rattle.model_proxy.specs.Happenings.{is_eof}
use Rattle.model_proxy.specs.Moves.{HasBrought, Does, DoesAsked}
use Rattle.model_proxy.specs.Exchange.{pulled as all_pulled}
use Rattle.model_proxy.proofs.Quiet.{brought, quiet, stays_same, BringsNothing, nothing_more, done_brings_nothing, pending_brings_nothing}
use Rattle.proxy.specs.Sides.{LeavesNoMore, ClientBrings, BringsNext, BringsPulled, ServerStays, KeepsTime, IsToldMoment}
use Rattle.proxy.specs.Leaves.{LeavesNext, LeavesPulled, IsAwaited, LeavesAnswer, LeavesPiece}

-- ---- the client's side

pub client_same : (a : State) → ClientBrings on.done a a
client_same a = record {
  settings = refl;
  brings = λ trace stands. (
    trace,
    stands,
    record { taken = refl; written = refl; moment = refl; ended = refl; pulled = sym (nothing_more on.done done_brings_nothing (all_pulled trace)) },
  );
  left = λ trace stands. omega arith;
}

-- the connection's step, by its own settings
pub stepped : (a b : State) (event : on.Event) (o out : on.Outcome) (trace : List Step) → b.settings ≡ a.settings → out ≡ o
    → Stands b (record { event = event; outcome = out } ∷ trace) → StandsFor (setting_of a.settings) b.kept (record { event = event; outcome = o } ∷ trace)
stepped a b event o out trace settings is stands =
    subst (λ (o : on.Outcome). StandsFor (setting_of a.settings) b.kept (record { event = event; outcome = o } ∷ trace)) is
    (subst (λ (s : Settings). StandsFor (setting_of s) b.kept (record { event = event; outcome = out } ∷ trace)) settings stands)

-- an event that takes and gives nothing
pub client_one : (a : State) (event : on.Event) (o : on.Outcome) (b : State) → b.settings ≡ a.settings → GoesOn a event (Is o) b
    → sums.step_taken event o ≡ [] → sums.step_written o ≡ [] → sums.tick_of event ≡ None → sums.is_eof event ≡ false → LeavesNoMore a b → ClientBrings o a b
client_one a event o b settings one takes gives tick going left = record {
  settings = settings;
  brings = λ trace stands.
      let s = one trace stands in (
        record { event = event; outcome = o } ∷ trace,
        stepped a b event o s.0 trace settings s.1 s.3,
        brought event o trace takes gives tick going,
      );
  left = left;
}

-- a call that asks for nothing tells no end
asks_no_end : (event : on.Event) → AsksNothing event → sums.is_eof event ≡ false
asks_no_end on.drop_body asks = refl
asks_no_end on.send_continue asks = refl
asks_no_end (on.answer head size) asks = refl
asks_no_end (on.chunk bytes) asks = refl
asks_no_end on.body_end asks = refl
asks_no_end on.body_error asks = refl
asks_no_end event asks = absurd asks

-- the same of a call that asks for nothing
pub client_plain : (a : State) (event : on.Event) (o : on.Outcome) (b : State) → b.settings ≡ a.settings → GoesOn a event (Is o) b
    → sums.step_taken event o ≡ [] → sums.step_written o ≡ [] → sums.tick_of event ≡ None → AsksNothing event → ClientBrings o a b
client_plain a event o b settings one takes gives tick asks =
    client_one a event o b settings one takes gives tick (asks_no_end event asks) (λ trace stands.
    let s = one trace stands in
    no_more (setting_of a.settings) a.kept b.kept trace event o asks stands (stepped a b event o s.0 trace settings s.1 s.3))

-- the same of an event of which the tables tell what comes
pub client_does : (a : State) (event : on.Event) (o : on.Outcome) (b : State) → b.settings ≡ a.settings → GoesOn a event (Is o) b
    → Does (setting_of a.settings) event o a.kept b.kept
client_does a event o b settings one = λ trace stands. let s = one trace stands in stepped a b event o s.0 trace settings s.1 s.3

-- nothing was brought
as_done : (o : on.Outcome) → BringsNothing o → (trace new : List Step) → HasBrought o trace new → HasBrought on.done trace new
as_done o none trace new x = record {
  taken = x.taken;
  written = x.written;
  moment = x.moment;
  ended = x.ended;
  pulled = x.pulled ∙ nothing_more o none (all_pulled trace) ∙ sym (nothing_more on.done done_brings_nothing (all_pulled trace));
}

pub client_nothing : (o : on.Outcome) → BringsNothing o → (a b : State) → ClientBrings o a b → ClientBrings on.done a b
client_nothing o none a b x = record {
  settings = x.settings;
  brings = λ trace stands. let y = x.brings trace stands in (y.0, y.1, as_done o none trace y.0 y.2);
  left = x.left;
}

-- ---- the next head

-- what the outcome leaves
next_outcome : (n : NextHead) (a b : State) (trace : List Step) (Says : on.Outcome → Type 0) (o : on.Outcome) → b.settings ≡ a.settings
    → GoesOn a on.next Says b → Stands a trace → ((out : on.Outcome) → Says out → out ≡ o) → LeavesAfterNext (setting_of a.settings) o a.kept b.kept
next_outcome n a b trace Says o settings one stands is =
    let s = one trace stands in
    next_leaves (setting_of a.settings) a.kept b.kept trace o stands (stepped a b on.next o s.0 trace settings (is s.0 s.1) s.3)

next_left : (n : NextHead) (a b : State) → b.settings ≡ a.settings → GoesOn a on.next (SaysNext n) b → LeavesNoMore a b
next_left (next.Head item) a b settings one = λ trace stands.
    let s = one trace stands in
    let less = next_leaves (setting_of a.settings) a.kept b.kept trace (on.head s.1.0) stands (stepped a b on.next (on.head s.1.0) s.0 trace settings s.1.2 s.3) in
    omega (arith, less)
next_left (next.Fault fault) a b settings one = λ trace stands.
    (next_outcome (next.Fault fault) a b trace _ (on.fault _) settings one stands (λ out is. is)).1
next_left next.Pending a b settings one = λ trace stands.
    (next_outcome next.Pending a b trace _ on.pending settings one stands (λ out is. is)).1
next_left (next.Closed end) a b settings one = λ trace stands.
    (next_outcome (next.Closed end) a b trace _ (on.closed _) settings one stands (λ out is. is)).1

-- behind the end nothing is asked for
over_asks_nothing : (setting : Setting) (k : Kept) → k.is_over ≡ true → next_allowed setting k ≡ true → ⊥
unfolding allowed_by
over_asks_nothing setting k over is = by_over k.is_over over is
  where
    by_over : (o : Bool) → o ≡ true
        → ((not o && (if is_some (closing_by setting k) then true else not (is_open k))) && (not (is_some (closing_by setting k)) || (length k.buffered == 0))) ≡ true → ⊥
    by_over true over is = false≢true is
    by_over false over is = false≢true over

pub next_less : (n : NextHead) (a b : State) → b.settings ≡ a.settings → GoesOn a on.next (SaysNext n) b → LeavesNext n a b
next_less (next.Head item) a b settings one = λ trace stands.
    let s = one trace stands in
    next_leaves (setting_of a.settings) a.kept b.kept trace (on.head s.1.0) stands (stepped a b on.next (on.head s.1.0) s.0 trace settings s.1.2 s.3)
next_less (next.Fault fault) a b settings one = λ trace stands.
    (next_outcome (next.Fault fault) a b trace _ (on.fault _) settings one stands (λ out is. is)).0
next_less next.Pending a b settings one = λ trace stands allowed.
    let x = next_outcome next.Pending a b trace _ on.pending settings one stands (λ out is. is) in
    (x.0, subst (λ (s : Settings). length b.kept.unread < s.h1_hold_size) (sym settings) x.2)
next_less (next.Closed end) a b settings one = λ trace stands allowed.
    absurd (over_asks_nothing (setting_of b.settings) b.kept (next_outcome (next.Closed end) a b trace _ (on.closed _) settings one stands (λ out is. is)).0 allowed)

pub next_brings : (n : NextHead) (a b : State) → b.settings ≡ a.settings → GoesOn a on.next (SaysNext n) b → BringsNext n a b
next_brings (next.Head item) a b settings one = record {
  settings = settings;
  brings = λ trace stands.
      let s = one trace stands in (
        s.1.0,
        s.1.1,
        record { event = on.next; outcome = on.head s.1.0 } ∷ trace,
        stepped a b on.next (on.head s.1.0) s.0 trace settings s.1.2 s.3,
        brought on.next (on.head s.1.0) trace refl refl refl refl,
      );
  left = next_left (next.Head item) a b settings one;
}
next_brings (next.Fault fault) a b settings one =
    client_nothing _ (record { head = refl; more = λ p. refl }) a b (client_one a on.next _ b settings one refl refl refl refl (next_left (next.Fault fault) a b settings one))
next_brings next.Pending a b settings one =
    client_nothing _ (record { head = refl; more = λ p. refl }) a b (client_one a on.next _ b settings one refl refl refl refl (next_left next.Pending a b settings one))
next_brings (next.Closed end) a b settings one =
    client_nothing _ (record { head = refl; more = λ p. refl }) a b (client_one a on.next _ b settings one refl refl refl refl (next_left (next.Closed end) a b settings one))

-- ---- more of a body

pulled_outcome : (a b : State) (trace : List Step) (Says : on.Outcome → Type 0) (o : on.Outcome) → b.settings ≡ a.settings
    → allowed_by (setting_of a.settings) a.kept on.drop_body ≡ true → GoesOn a on.pull Says b → Stands a trace → ((out : on.Outcome) → Says out → out ≡ o)
    → LeavesAfterPull (setting_of a.settings) o a.kept b.kept
pulled_outcome a b trace Says o settings may one stands is =
    let s = one trace stands in
    pull_of_client (setting_of a.settings) a.kept b.kept trace o stands (stepped a b on.pull o s.0 trace settings (is s.0 s.1) s.3) may

pub pull_less : (n : Pulled) (a b : State) → b.settings ≡ a.settings → allowed_by (setting_of a.settings) a.kept on.drop_body ≡ true
    → GoesOn a on.pull (SaysPulled n) b → LeavesPulled n a b
pull_less (pulled.Bytes bytes) a b settings may one = λ trace stands. pulled_outcome a b trace _ (on.bytes bytes) settings may one stands (λ out is. is)
pull_less (pulled.Trailers entries) a b settings may one = λ trace stands.
    let s = one trace stands in
    pull_of_client (setting_of a.settings) a.kept b.kept trace (on.trailers s.1.0) stands (stepped a b on.pull (on.trailers s.1.0) s.0 trace settings s.1.1 s.3) may
pull_less pulled.End a b settings may one = tt
pull_less (pulled.Broken fault) a b settings may one = tt
pull_less pulled.Pending a b settings may one = λ trace stands.
    let x = pulled_outcome a b trace _ on.pending settings may one stands (λ out is. is) in (
      λ allowed. subst (λ (s : Settings). LacksBody (setting_of s) b.kept) (sym settings) x.0,
      λ bytes is. x.2 bytes (subst (λ (s : Settings). allowed_by (setting_of s) b.kept (on.chunk bytes) ≡ true) settings is),
    )

pull_left : (n : Pulled) (a b : State) → b.settings ≡ a.settings → allowed_by (setting_of a.settings) a.kept on.drop_body ≡ true
    → GoesOn a on.pull (SaysPulled n) b → LeavesNoMore a b
pull_left (pulled.Bytes bytes) a b settings may one = λ trace stands.
    let less = pull_less (pulled.Bytes bytes) a b settings may one trace stands in omega (arith, less)
pull_left (pulled.Trailers entries) a b settings may one = λ trace stands.
    let less = pull_less (pulled.Trailers entries) a b settings may one trace stands in omega (arith, less)
pull_left pulled.End a b settings may one = λ trace stands. pulled_outcome a b trace _ on.body_ended settings may one stands (λ out is. is)
pull_left (pulled.Broken fault) a b settings may one = λ trace stands. pulled_outcome a b trace _ (on.broken_by _) settings may one stands (λ out is. is)
pull_left pulled.Pending a b settings may one = λ trace stands. (pulled_outcome a b trace _ on.pending settings may one stands (λ out is. is)).1

pub pull_brings : (n : Pulled) (a b : State) → b.settings ≡ a.settings → allowed_by (setting_of a.settings) a.kept on.drop_body ≡ true
    → GoesOn a on.pull (SaysPulled n) b → BringsPulled n a b
pull_brings (pulled.Bytes bytes) a b settings may one =
    client_one a on.pull (on.bytes bytes) b settings one refl refl refl refl (pull_left (pulled.Bytes bytes) a b settings may one)
pull_brings (pulled.Trailers entries) a b settings may one = record {
  settings = settings;
  brings = λ trace stands.
      let s = one trace stands in (
        record { event = on.pull; outcome = on.trailers s.1.0 } ∷ trace,
        stepped a b on.pull (on.trailers s.1.0) s.0 trace settings s.1.1 s.3,
        as_done (on.trailers s.1.0) (record { head = refl; more = λ p. refl }) trace _ (brought on.pull (on.trailers s.1.0) trace refl refl refl refl),
      );
  left = pull_left (pulled.Trailers entries) a b settings may one;
}
pull_brings pulled.End a b settings may one =
    client_one a on.pull on.body_ended b settings one refl refl refl refl (pull_left pulled.End a b settings may one)
pull_brings (pulled.Broken fault) a b settings may one =
    client_one a on.pull (on.broken_by _) b settings one refl refl refl refl (pull_left (pulled.Broken fault) a b settings may one)
pull_brings pulled.Pending a b settings may one =
    client_nothing on.pending pending_brings_nothing a b
    (client_one a on.pull on.pending b settings one refl refl refl refl (pull_left pulled.Pending a b settings may one))

-- ---- a server's side

pub server_same : (a : servers.State) → ServerStays a a
server_same a = record { settings = refl; stays = stays_same (asking.setting_of a.settings) a.kept; left = λ trace stands. omega arith }

asked_step : (a b : servers.State) (event : asked.ClientEvent) (out : asked.ClientOutcome) (trace : List Happened) → b.settings ≡ a.settings
    → servers.Stands b (record { event = event; outcome = out } ∷ trace)
    → IsClientTrace (asking.setting_of a.settings) (record { event = event; outcome = out } ∷ trace) b.kept
asked_step a b event out trace settings stands =
    subst (λ (s : Settings). IsClientTrace (asking.setting_of s) (record { event = event; outcome = out } ∷ trace) b.kept) settings stands

-- an event that takes and gives nothing, and asks nothing
pub server_one : (a : servers.State) (event : asked.ClientEvent) (Says : asked.ClientOutcome → Type 0) (b : servers.State) → b.settings ≡ a.settings
    → (one : servers.GoesOn a event Says b) → taken_by event one.outcome ≡ [] → given one.outcome ≡ [] → is_eof event ≡ false
    → ((n : ℕ) (body : Option SendingBody) → text_of_event event n body ≡ []) → ((body : Option SendingBody) → sending_after event body ≡ body) → requests_by event ≡ []
    → ((trace : List Happened) → servers.Stands a trace → server_left b.kept ≤ server_left a.kept) → ServerStays a b
server_one a event Says b settings one takes gives going says same asks left = record {
  settings = settings;
  stays = λ trace stands. (
    record { event = event; outcome = one.outcome } ∷ trace,
    asked_step a b event one.outcome trace settings (one.stands trace stands),
    quiet event one.outcome trace takes gives going (says (now_of trace) (sending_of trace)) (same (sending_of trace)) asks,
  );
  left = left;
}

pub server_does : (a : servers.State) (event : asked.ClientEvent) (o : asked.ClientOutcome) (b : servers.State) → b.settings ≡ a.settings
    → servers.GoesOn a event (servers.Is o) b → DoesAsked (asking.setting_of a.settings) event o a.kept b.kept
server_does a event o b settings one = λ trace stands.
    subst (λ (o : asked.ClientOutcome). IsClientTrace (asking.setting_of a.settings) (record { event = event; outcome = o } ∷ trace) b.kept) one.says
    (asked_step a b event one.outcome trace settings (one.stands trace stands))

pub next_given : (n : NextAnswer) (out : asked.ClientOutcome) → answers.SaysNext n out → given out ≡ []
next_given (answered.Answer item) out says = ap given says.2
next_given (answered.Fault fault) out says = ap given says
next_given answered.Pending out says = ap given says
next_given (answered.Closed end) out says = ap given says

pub pull_given : (n : Pulled) (out : asked.ClientOutcome) → bodies.SaysPulled n out → given out ≡ []
pull_given (pulled.Bytes bytes) out says = ap given says
pull_given (pulled.Trailers entries) out says = ap given says.1
pull_given pulled.End out says = ap given says
pull_given (pulled.Broken fault) out says = ap given says
pull_given pulled.Pending out says = ap given says

-- what is left by the outcome of the step
answer_outcome : (a b : servers.State) (Says : asked.ClientOutcome → Type 0) (o : asked.ClientOutcome) (one : servers.GoesOn a asked.next Says b)
    → one.outcome ≡ o → (trace : List Happened) → servers.Stands a trace → LeavesAfterAnswer o a.kept b.kept
answer_outcome a b Says o one is trace stands =
    subst (λ (o : asked.ClientOutcome). LeavesAfterAnswer o a.kept b.kept) is
    (answer_leaves (asking.setting_of a.settings) a.kept b.kept trace one.outcome stands one.step)

-- where none is there yet, all is as it was
awaited : (a b : servers.State) → b.settings ≡ a.settings → servers.IsAllowed a asked.next → (one : servers.GoesOn a asked.next (servers.Is asked.pending) b)
    → (trace : List Happened) → servers.Stands a trace → IsAwaited b
awaited a b settings may one trace stands =
    let step = subst (λ (o : asked.ClientOutcome). IsClientStep (asking.setting_of a.settings) a.kept asked.next o b.kept) one.says one.step in
    let x = pending_stays (asking.setting_of a.settings) a.kept b.kept trace stands step in
    record {
      allowed = subst (λ (k : ClientKept). IsTrue (client_allows (asking.setting_of b.settings) k asked.next)) (sym x.0) may;
      coming = (answer_outcome a b _ asked.pending one one.says trace stands).0;
      going = ap client_closing x.0 ∙ x.1;
      room = subst₂ (λ (k : ClientKept) (s : Settings). length k.unread < s.h1_hold_size) (sym x.0) (sym settings) x.2;
    }

pub answer_less : (n : NextAnswer) (a b : servers.State) → b.settings ≡ a.settings → servers.IsAllowed a asked.next
    → servers.GoesOn a asked.next (answers.SaysNext n) b → LeavesAnswer n a b
answer_less (answered.Answer item) a b settings may one = answer_outcome a b _ (asked.answer one.says.0) one one.says.2
answer_less (answered.Fault fault) a b settings may one = tt
answer_less answered.Pending a b settings may one = awaited a b settings may one
answer_less (answered.Closed end) a b settings may one = tt

answer_left : (n : NextAnswer) (a b : servers.State) → servers.GoesOn a asked.next (answers.SaysNext n) b → (trace : List Happened) → servers.Stands a trace
    → server_left b.kept ≤ server_left a.kept
answer_left (answered.Answer item) a b one = λ trace stands.
    let less = answer_outcome a b _ (asked.answer one.says.0) one one.says.2 trace stands in omega (arith, less)
answer_left (answered.Fault fault) a b one = λ trace stands. answer_outcome a b _ (asked.fault _) one one.says trace stands
answer_left answered.Pending a b one = λ trace stands. (answer_outcome a b _ asked.pending one one.says trace stands).1
answer_left (answered.Closed end) a b one = λ trace stands. answer_outcome a b _ (asked.closed _) one one.says trace stands

pub next_stays : (n : NextAnswer) (a b : servers.State) → b.settings ≡ a.settings → servers.GoesOn a asked.next (answers.SaysNext n) b → ServerStays a b
next_stays n a b settings one =
    server_one a asked.next _ b settings one refl (next_given n one.outcome one.says) refl (λ n body. refl) (λ body. refl) refl (answer_left n a b one)

piece_outcome : (a b : servers.State) (Says : asked.ClientOutcome → Type 0) (o : asked.ClientOutcome) → servers.IsAllowed a asked.pull
    → (one : servers.GoesOn a asked.pull Says b) → one.outcome ≡ o → (trace : List Happened) → servers.Stands a trace → LeavesAfterPiece o a.kept b.kept
piece_outcome a b Says o may one is trace stands =
    subst (λ (o : asked.ClientOutcome). LeavesAfterPiece o a.kept b.kept) is
    (piece_leaves (asking.setting_of a.settings) a.kept b.kept trace one.outcome stands may one.step)

pub piece_less : (n : Pulled) (a b : servers.State) → b.settings ≡ a.settings → servers.IsAllowed a asked.pull
    → servers.GoesOn a asked.pull (bodies.SaysPulled n) b → LeavesPiece n a b
piece_less (pulled.Bytes bytes) a b settings may one = piece_outcome a b _ (asked.bytes bytes) may one one.says
piece_less (pulled.Trailers entries) a b settings may one = piece_outcome a b _ (asked.trailers one.says.0) may one one.says.1
piece_less pulled.End a b settings may one = tt
piece_less (pulled.Broken fault) a b settings may one = tt
piece_less pulled.Pending a b settings may one = λ trace stands.
    let step = subst (λ (o : asked.ClientOutcome). IsClientStep (asking.setting_of a.settings) a.kept asked.pull o b.kept) one.says one.step in
    subst (λ (s : Settings). LacksPiece (asking.setting_of s) b.kept) (sym settings)
    (pending_lacks (asking.setting_of a.settings) a.kept b.kept trace stands may step)

piece_left : (n : Pulled) (a b : servers.State) → servers.IsAllowed a asked.pull → servers.GoesOn a asked.pull (bodies.SaysPulled n) b → (trace : List Happened)
    → servers.Stands a trace → server_left b.kept ≤ server_left a.kept
piece_left (pulled.Bytes bytes) a b may one = λ trace stands.
    let less = piece_outcome a b _ (asked.bytes bytes) may one one.says trace stands in omega (arith, less)
piece_left (pulled.Trailers entries) a b may one = λ trace stands.
    let less = piece_outcome a b _ (asked.trailers one.says.0) may one one.says.1 trace stands in omega (arith, less)
piece_left pulled.End a b may one = λ trace stands. piece_outcome a b _ asked.body_ended may one one.says trace stands
piece_left (pulled.Broken fault) a b may one = λ trace stands. piece_outcome a b _ (asked.broken_by _) may one one.says trace stands
piece_left pulled.Pending a b may one = λ trace stands. (piece_outcome a b _ asked.pending may one one.says trace stands).1

pub pull_stays : (n : Pulled) (a b : servers.State) → b.settings ≡ a.settings → servers.IsAllowed a asked.pull
    → servers.GoesOn a asked.pull (bodies.SaysPulled n) b → ServerStays a b
pull_stays n a b settings may one =
    server_one a asked.pull _ b settings one refl (pull_given n one.outcome one.says) refl (λ n body. refl) (λ body. refl) refl (piece_left n a b may one)

pub tick_stays : (ms : ℕ) (a b : servers.State) → b.settings ≡ a.settings → servers.GoesOn a (asked.tick ms) (servers.Is asked.done) b → ServerStays a b
tick_stays ms a b settings one =
    server_one a (asked.tick ms) _ b settings one refl (ap given one.says) refl (λ n body. refl) (λ body. refl) refl
    (λ trace stands. let same = all_left (asking.setting_of a.settings) a.kept b.kept (asked.tick ms) one.outcome tt one.step in omega (arith, same))

-- it was told the moment, or couldn't be
pub tick_told : (ms : ℕ) (a b : servers.State) → b.settings ≡ a.settings → servers.IsAllowed a (asked.tick ms)
    → servers.GoesOn a (asked.tick ms) (servers.Is asked.done) b → IsToldMoment ms a b
tick_told ms a b settings allowed one = inl (record {
  settings = settings;
  allowed = allowed;
  step = subst (λ (o : asked.ClientOutcome). IsClientStep (asking.setting_of a.settings) a.kept (asked.tick ms) o b.kept) one.says one.step;
})

pub not_told : (ms : ℕ) (a : servers.State) → client_allows (asking.setting_of a.settings) a.kept (asked.tick ms) ≡ false → IsToldMoment ms a a
not_told ms a refused = inr (record { refused = refused; same = refl })

-- an event other than a tick
pub time_stays : (a : servers.State) (event : asked.ClientEvent) (Says : asked.ClientOutcome → Type 0) (b : servers.State) → b.settings ≡ a.settings
    → servers.GoesOn a event Says b → ((n : ℕ) → now_after event n ≡ n) → KeepsTime a b
time_stays a event Says b settings one same = λ trace stands.
    let old = is_text (asking.setting_of a.settings) trace a.kept stands in
    let new = is_text (asking.setting_of a.settings) (record { event = event; outcome = one.outcome } ∷ trace) b.kept (asked_step a b event one.outcome trace settings (one.stands trace stands)) in
    new.now ∙ same (now_of trace) ∙ sym old.now

pub time_same : (a : servers.State) → KeepsTime a a
time_same a = λ trace stands. refl
