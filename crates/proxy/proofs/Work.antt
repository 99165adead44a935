-- What the moves of a forwarder leave to do.
use Rattle.std.proofs.Common.{◌≡◌, ℕ, ◌+◌, ◌<◌, ◌≤◌, Bool, true, false, not, ◌&&◌, ◌||◌, List, [], ◌∷◌, length, Option, Some, None, refl, sym, ap, ap₂, ◌∙◌, subst, subst₂, arith}
use Rattle.std.specs.Prelude.{◌*◌, is_some, option_map, nat_lt}
use Rattle.std.proofs.lemmas.Bool.{false≢true, true≢false}
use Rattle.http_config.specs.Config.{Settings}
use Rattle.model_h1.specs.Event as on
use Rattle.model_h1.specs.Sums as sums
use Rattle.model_state.specs.Kept.{Exchange}
use Rattle.model_state.proofs.KeptBounds.{unread_bounded}
use Rattle.model_state.specs.Local.{closing_by}
use Rattle.model_state.specs.StandsFor.{StandsFor}
use Rattle.h1_decoder.specs.declared.decoder.HeadItem.{HeadItem}
use Rattle.h1_connection.specs.EventMeaning.{setting_of}
use Rattle.h1_connection.specs.State.{State, Stands, IsAllowed}
use Rattle.model_client.specs.ClientEvent as asked
use Rattle.model_client.specs.ClientKept.{ReadingBody}
use Rattle.model_client.specs.ClientTrace.{Happened, IsClientTrace}
use Rattle.h1_client.specs.ClientMeaning as asking
use Rattle.h1_client.specs.ClientMeaning.{request_of}
use Rattle.h1_encoder.specs.Meaning.{size_of}
use Rattle.h1_client.specs.State as servers
use Rattle.model_proxy.specs.Left.{request_left as rest_left, client_left, answer_left, server_left, LeavesAll}
use Rattle.model_proxy.proofs.Pulls.{at_most_one}
use Rattle.model_proxy.proofs.Server.{all_left, held_fits}
use Rattle.proxy.specs.Sides.{ClientBrings, ClientBringsHead, ServerStays, ServerDid, SendsBody}
use Rattle.proxy.specs.Leaves.{LacksHead, LacksMore, IsAwaited, LacksBytes}
use Rattle.model_proxy.specs.Past.{ProxyStep, ProxyEvent, ProxyOutcome}
use Rattle.model_proxy.specs.Happenings.{Happenings, Link}
use Rattle.model_proxy.specs.Carried.{IsServer}
use Rattle.proxy.specs.declared.proxy.Proxy.{Proxy}
use Rattle.proxy.specs.declared.proxy.Unsent.{Unsent}
use Rattle.proxy.specs.declared.proxy.SentRequest.{SentRequest}
use Rattle.proxy.specs.Kept.{is_closing, HasSettings, Forwards, history_by, Goes, GoesBy, Runs, HoldsNoRequest}
use Rattle.model_proxy.specs.Rests.{MAX_WAITING}
use Rattle.proxy.specs.declared.notes.Notes.{Notes}
use Rattle.proxy.specs.Replies.{HasReplied}
use Rattle.proxy.specs.Served.{GoesOnServing}
use Rattle.proxy.specs.Rests.{may_begin, is_over, may_turn, IsNotToEnd, RestsBy, Rests, Settles, mark, sent_left, request_left, side_left, going_on, work, ServerTold, Told, LeavesLess, IsNoted, LeavesMore, Works, Turns, BodyRests, WorksBody}

-- ---- one after another

pub going_fits : (b : Bool) → going_on b ≤ 1
going_fits true = omega arith
going_fits false = omega arith

pub less_same : (p : Proxy) → LeavesLess 0 p p
less_same p = λ told. (told, omega arith)

pub less_then : (n : ℕ) (a b c : Proxy) → LeavesLess n a b → LeavesLess 0 b c → LeavesLess n a c
less_then n a b c first second = λ told. let x = first told in let y = second x.0 in (y.0, let one = x.1 in let two = y.1 in omega (arith, one, two))

pub then_less : (n : ℕ) (a b c : Proxy) → LeavesLess 0 a b → LeavesLess n b c → LeavesLess n a c
then_less n a b c first second = λ told. let x = first told in let y = second x.0 in (y.0, let one = x.1 in let two = y.1 in omega (arith, one, two))

pub weaker : (n : ℕ) (a b : Proxy) → LeavesLess n a b → LeavesLess 0 a b
weaker n a b x = λ told. let y = x told in (y.0, let one = y.1 in omega (arith, one))

-- it works where less is left
pub works : (n : ℕ) (a b : Proxy) → 0 < n → LeavesLess n a b → Works true a b
works n a b some x = λ told. let y = x told in (y.0, let one = y.1 in omega (arith, some, one, going_fits (is_closing b)))

pub works_more : (a b c : Proxy) → LeavesLess 15 a b → LeavesMore 3 b c → Works true a c
works_more a b c first second = λ told.
    let x = first told in
    let y = second x.0 in
    (y.0, let one = x.1 in let two = y.1 in omega (arith, one, two, going_fits (is_closing c)))

pub more_of : (n : ℕ) (a b : Proxy) → LeavesLess 0 a b → LeavesMore n a b
more_of n a b x = λ told. let y = x told in (y.0, let one = y.1 in omega (arith, one))

pub then_works : (more : Bool) (a b c : Proxy) → LeavesLess 0 a b → Works more b c → Works more a c
then_works true a b c first second = λ told. let x = first told in let y = second x.0 in (y.0, let one = x.1 in let two = y.1 in omega (arith, one, two))
then_works false a b c first second = λ told. second (first told).0

-- the same with a server connection that was taken out
pub works_of_server : (more : Bool) (p q : Proxy) (s : Option servers.State) → p.server ≡ s → Works more (record p { server = s }) q → Works more p q
works_of_server more p q s is x = subst (λ (o : Option servers.State). Works more (record p { server = o }) q) (sym is) x

pub works_of_unsent : (more : Bool) (p q : Proxy) (u : Option Unsent) → p.unsent ≡ u → Works more (record p { unsent = u }) q → Works more p q
works_of_unsent more p q u is x = subst (λ (o : Option Unsent). Works more (record p { unsent = o }) q) (sym is) x

-- what is noted is no part of it
pub noted_less : (p q : Proxy) → IsNoted p q → LeavesLess 0 p q
noted_less p q (n, is) = subst (λ (q : Proxy). LeavesLess 0 p q) (sym is) (same p n)
  where
    same : (p : Proxy) (n : Notes) → LeavesLess 0 p (record p { notes = n })
    same p n = λ told. (record { trace = told.trace; stands = told.stands; server = told.server }, omega arith)

pub works_noted : (p q r : Proxy) → Works true p q → IsNoted q r → Works true p r
works_noted p q r x (n, is) = subst (λ (r : Proxy). Works true p r) (sym is) (same p q n x)
  where
    same : (p q : Proxy) (n : Notes) → Works true p q → Works true p (record q { notes = n })
    same p q n x = λ told. let y = x told in (record { trace = y.0.trace; stands = y.0.stands; server = y.0.server }, let less = y.1 in omega (arith, less))

-- ---- the client's side

client_told : (o : on.Outcome) (p : Proxy) (c : State) → ClientBrings o p.client c → Told p → Told (record p { client = c })
client_told o p c x told =
    let y = x.brings told.trace told.stands in
    record {
      trace = y.0;
      stands = subst (λ (s : Settings). StandsFor (setting_of s) c.kept y.0) (sym x.settings) y.1;
      server = told.server;
    }

pub client_less : (o : on.Outcome) (p : Proxy) (c : State) → ClientBrings o p.client c → LeavesLess 0 p (record p { client = c })
client_less o p c x = λ told. (client_told o p c x told, let less = x.left told.trace told.stands in omega (arith, less))

-- where it gave something
pub client_much_less : (n : ℕ) (o : on.Outcome) (p : Proxy) (c : State) → ClientBrings o p.client c
    → ((trace : List sums.Step) → Stands p.client trace → client_left c.kept + n ≤ client_left p.client.kept) → LeavesLess n p (record p { client = c })
client_much_less n o p c x less = λ told. (client_told o p c x told, let fewer = less told.trace told.stands in omega (arith, fewer))

pub head_less : (item : HeadItem) (p : Proxy) (c : State) → ClientBringsHead item p.client c
    → ((trace : List sums.Step) → Stands p.client trace → client_left c.kept + 15 ≤ client_left p.client.kept) → LeavesLess 15 p (record p { client = c })
head_less item p c x less = λ told.
    let y = x.brings told.trace told.stands in (
      record {
        trace = y.2;
        stands = subst (λ (s : Settings). StandsFor (setting_of s) c.kept y.2) (sym x.settings) y.3;
        server = told.server;
      },
      let fewer = less told.trace told.stands in omega (arith, fewer),
    )

-- behind a fault the connection is to end
pub fault_works : (o : on.Outcome) (p : Proxy) (c : State) → ClientBrings o p.client c
    → ((trace : List sums.Step) → Stands p.client trace → is_some (closing_by (setting_of p.client.settings) c.kept) ≡ true) → Works true p (record p { client = c })
fault_works o p c x closes = λ told.
    let less = x.left told.trace told.stands in
    let over = closes told.trace told.stands in
    let same : is_closing (record p { client = c }) ≡ true = ap (λ (s : Settings). is_some (closing_by (setting_of s) c.kept)) x.settings ∙ over in
    let none = ap going_on same in
    (client_told o p c x told, omega (arith, less, none))

-- no head is there
pub idle_rests : (o : on.Outcome) (p : Proxy) (c : State) → HoldsNoRequest p → ClientBrings o p.client c
    → ((trace : List sums.Step) → Stands p.client trace → LacksHead c) → IsNotToEnd p.server → Works false p (record p { client = c })
idle_rests o p c idle x none kept = λ told. (
  client_told o p c x told,
  subst₂ (λ (u : Option Unsent) (s : Option SentRequest). RestsBy u s c p.server) (sym idle.unsent) (sym idle.sent)
      (record { head = none told.trace told.stands; kept = kept }),
)

-- ---- a server's side

stays_told : (a b : servers.State) → ServerStays a b → ServerTold (Some a) → ServerTold (Some b)
stays_told a b x (trace, stands) =
    let y = x.stays trace stands in
    (y.0, subst (λ (s : Settings). IsClientTrace (asking.setting_of s) y.0 b.kept) (sym x.settings) y.1)

pub server_less : (p : Proxy) (a b : servers.State) → ServerStays a b → LeavesLess 0 (record p { server = Some a }) (record p { server = Some b })
server_less p a b x = λ told. (
  record { trace = told.trace; stands = told.stands; server = stays_told a b x told.server },
  let less = x.left told.server.0 told.server.1 in omega (arith, less),
)

pub server_much_less : (n : ℕ) (p : Proxy) (a b : servers.State) → ServerStays a b
    → ((trace : List Happened) → servers.Stands a trace → server_left b.kept + n ≤ server_left a.kept)
    → LeavesLess n (record p { server = Some a }) (record p { server = Some b })
server_much_less n p a b x less = λ told. (
  record { trace = told.trace; stands = told.stands; server = stays_told a b x told.server },
  let fewer = less told.server.0 told.server.1 in omega (arith, fewer),
)

-- an event of a request that is sent
pub server_same : (event : asked.ClientEvent) (Says : asked.ClientOutcome → Type 0) (p : Proxy) (a b : servers.State) → LeavesAll event
    → servers.GoesOn a event Says b → LeavesLess 0 (record p { server = Some a }) (record p { server = Some b })
server_same event Says p a b all one = λ told. (
  record { trace = told.trace; stands = told.stands; server = (record { event = event; outcome = one.outcome } ∷ told.server.0, one.stands told.server.0 told.server.1) },
  let same = all_left (asking.setting_of a.settings) a.kept b.kept event one.outcome all one.step in omega (arith, same),
)

-- the connection is closed
pub closed_less : (p : Proxy) (a : servers.State) → LeavesLess 1 (record p { server = Some a }) (record p { server = None })
closed_less p a = λ told. (record { trace = told.trace; stands = told.stands; server = tt }, omega arith)

pub closes_less : (p : Proxy) → LeavesLess 0 p (record p { server = None })
closes_less p = by_server p.server
  where
    by_server : (s : Option servers.State) → LeavesLess 0 (record p { server = s }) (record p { server = None })
    by_server (Some a) = weaker 1 (record p { server = Some a }) (record p { server = None }) (closed_less p a)
    by_server None = less_same (record p { server = None })

-- it was taken out
pub over_as : (p : Proxy) (a : servers.State) (s : Option servers.State) → p.server ≡ Some a → s ≡ None → LeavesLess 1 p (record p { server = s })
over_as p a s is now =
    subst₂ (λ (o t : Option servers.State). LeavesLess 1 (record p { server = o }) (record p { server = t })) (sym is) (sym now) (closed_less p a)

-- a request is asked
pub server_asks : (p : Proxy) (u : Unsent) (a b : servers.State) → ServerDid (asked.ask (request_of u.head) (size_of u.size)) a b
    → LeavesLess 0 (record p { server = Some a }) (record p { server = Some b })
server_asks p u a b x = λ told. (
  record {
    trace = told.trace;
    stands = told.stands;
    server = (
      record { event = asked.ask (request_of u.head) (size_of u.size); outcome = asked.done } ∷ told.server.0,
      subst (λ (s : Settings). IsClientTrace (asking.setting_of s) (record { event = asked.ask (request_of u.head) (size_of u.size); outcome = asked.done } ∷ told.server.0) b.kept)
          (sym x.settings) (a.kept, told.server.1, x.allowed, x.step),
    );
  },
  let same = all_left (asking.setting_of a.settings) a.kept b.kept (asked.ask (request_of u.head) (size_of u.size)) asked.done tt x.step in omega (arith, same),
)

pub over_less : (p : Proxy) → is_some p.server ≡ true → LeavesLess 1 p (record p { server = None })
over_less p some = by_server p.server some
  where
    by_server : (s : Option servers.State) → is_some s ≡ true → LeavesLess 1 (record p { server = s }) (record p { server = None })
    by_server (Some a) some = closed_less p a
    by_server None some = absurd (false≢true some)

-- ---- the request under way

dropped : (u : Option Unsent) (s : Option SentRequest) → request_left u None ≤ request_left u s
dropped (Some u) s = omega arith
dropped None None = omega arith
dropped None (Some s) = omega arith

pub drop_sent : (p : Proxy) → LeavesLess 0 p (record p { sent = None })
drop_sent p = λ told. (record { trace = told.trace; stands = told.stands; server = told.server }, let less = dropped p.unsent p.sent in omega (arith, less))

sent_some : (b : Bool) → 0 < mark b
sent_some true = omega arith
sent_some false = omega arith

-- it was sent on, and is over
pub over_sent : (p : Proxy) (s : SentRequest) → Runs s p → LeavesLess 1 p (record p { sent = None })
over_sent p s runs = λ told. (
  record { trace = told.trace; stands = told.stands; server = told.server },
  let old : request_left p.unsent p.sent ≡ sent_left s = ap₂ request_left runs.unsent runs.sent in
      let new : request_left p.unsent None ≡ 0 = ap (λ (u : Option Unsent). request_left u None) runs.unsent in
      omega (arith, old, new, sent_some (s.is_whole || s.is_broken)),
)

-- it goes on under another mark
pub remarked : (n : ℕ) (p : Proxy) (s t : SentRequest) → Runs s p → sent_left t + n ≤ sent_left s → LeavesLess n p (record p { sent = Some t })
remarked n p s t runs less = λ told. (
  record { trace = told.trace; stands = told.stands; server = told.server },
  let old : request_left p.unsent p.sent ≡ sent_left s = ap₂ request_left runs.unsent runs.sent in
      let new : request_left p.unsent (Some t) ≡ sent_left t = ap (λ (u : Option Unsent). request_left u (Some t)) runs.unsent in
      omega (arith, old, new, less),
)

pub same_mark : (s t : SentRequest) → t.is_whole ≡ s.is_whole → t.is_broken ≡ s.is_broken → sent_left t + 0 ≤ sent_left s
same_mark s t whole broken =
    let same = ap₂ (λ (w b : Bool). mark (w || b)) whole broken in omega (arith, same)

pub whole_mark : (s t : SentRequest) → s.is_whole ≡ false → s.is_broken ≡ false → t.is_whole ≡ true → sent_left t + 1 ≤ sent_left s
whole_mark s t whole broken now =
    let old : sent_left s ≡ 2 = ap₂ (λ (w b : Bool). mark (w || b)) whole broken in
    let new : sent_left t ≡ 1 = ap (λ (w : Bool). mark (w || t.is_broken)) now in
    omega (arith, old, new)

or_true : (b : Bool) → mark (b || true) ≡ 1
or_true true = refl
or_true false = refl

pub broken_mark : (s t : SentRequest) → s.is_whole ≡ false → s.is_broken ≡ false → t.is_broken ≡ true → sent_left t + 1 ≤ sent_left s
broken_mark s t whole broken now =
    let old : sent_left s ≡ 2 = ap₂ (λ (w b : Bool). mark (w || b)) whole broken in
    let new : sent_left t ≡ 1 = ap (λ (b : Bool). mark (t.is_whole || b)) now ∙ or_true t.is_whole in
    omega (arith, old, new)

-- one that waited was sent on
pub sent_less : (p : Proxy) (u : Unsent) → LeavesLess 1 (record p { unsent = Some u }) (record p { unsent = None; sent = Some u.sent })
sent_less p u = λ told. (
  record { trace = told.trace; stands = told.stands; server = told.server },
  let most = mark_fits (u.sent.is_whole || u.sent.is_broken) in omega (arith, most),
)
  where
    mark_fits : (b : Bool) → mark b ≤ 2
    mark_fits true = omega arith
    mark_fits false = omega arith

-- one waits
pub waits_more : (p : Proxy) (u : Unsent) → LeavesMore 3 p (record p { unsent = Some u })
waits_more p u = λ told. (record { trace = told.trace; stands = told.stands; server = told.server }, omega arith)

pub more_then : (n : ℕ) (a b c : Proxy) → LeavesMore n a b → LeavesLess 0 b c → LeavesMore n a c
more_then n a b c first second = λ told. let x = first told in let y = second x.0 in (y.0, let one = x.1 in let two = y.1 in omega (arith, one, two))

-- it waits for a server connection
pub waits_rests : (p : Proxy) (u : Unsent) (s : Option servers.State) → p.server ≡ None → s ≡ None → Works false (record p { unsent = Some u }) (record p { unsent = Some u; server = s })
waits_rests p u s none now = λ told. (
  record { trace = told.trace; stands = told.stands; server = subst ServerTold (none ∙ sym now) told.server },
  now,
)

-- nothing is there of its body, or of its answer
pub sent_rests : (s : SentRequest) (server : servers.State) (p q : Proxy) → BodyRests s server p q
    → (s.is_answered ≡ false → IsAwaited server)
    → (s.is_answered ≡ true → ((bytes : List ℕ) → IsAllowed p.client (on.chunk bytes)) → LacksBytes server) → Rests q
sent_rests s server p q body answer piece =
    subst₂ (λ (u : Option Unsent) (o : Option SentRequest). RestsBy u o q.client q.server) (sym body.unsent) (sym body.sent_is)
    (subst (λ (o : Option servers.State). RestsBy None (Some s) q.client o) (sym body.server_is) (record {
      answer = answer;
      piece = λ answered may. piece answered (λ bytes. body.pieces bytes (may bytes));
      body = body.body;
    }))

-- none of it may be sent
pub body_same : (s : SentRequest) (server : servers.State) (p : Proxy) → Runs s p
    → (s.is_whole ≡ false → s.is_broken ≡ false → length server.kept.buffered < MAX_WAITING → SendsBody server → ⊥)
    → WorksBody s server false p (record p { server = Some server })
body_same s server p runs never = λ told. (
  told,
  record {
    unsent = runs.unsent;
    sent_is = runs.sent;
    server_is = refl;
    pieces = λ bytes may. may;
    body = λ whole broken little sends may. absurd (never whole broken little sends);
  },
)

-- no byte of it is there
pub body_waits : (s : SentRequest) (server : servers.State) (p : Proxy) (c : State) → Runs s p → ClientBrings on.done p.client c
    → ((trace : List sums.Step) → Stands p.client trace
    → LacksMore c × ((bytes : List ℕ) → IsAllowed c (on.chunk bytes) → IsAllowed p.client (on.chunk bytes)))
    → WorksBody s server false p (record p { server = Some server; client = c })
body_waits s server p c runs x none = λ told.
    let two = none told.trace told.stands in (
      client_told on.done (record p { server = Some server }) c x told,
      record {
        unsent = runs.unsent;
        sent_is = runs.sent;
        server_is = refl;
        pieces = two.1;
        body = λ whole broken little sends. two.0;
      },
    )

-- the request's body, behind what its answer did
pub then_told : (sent : SentRequest) (server : servers.State) (more : Bool) (a : servers.State) (p q : Proxy)
    → LeavesLess 0 (record p { server = Some a }) (record p { server = Some server }) → WorksBody sent server more p q
    → ((told : Told (record p { server = Some a })) → BodyRests sent server p q → Rests q) → Works more (record p { server = Some a }) q
then_told sent server true a p q first second rests = then_works true (record p { server = Some a }) (record p { server = Some server }) q first second
then_told sent server false a p q first second rests = λ told. let y = second (first told).0 in (y.0, rests told y.1)

-- ---- a turn

-- where turns are made
pub not_still : (still may : Bool) → still ≡ not may → still ≡ true → may ≡ false
not_still still true is now = absurd (false≢true (sym is ∙ now))
not_still still false is now = refl

pub third_true : (a b c : Bool) → (a && b && not c) ≡ true → c ≡ false
third_true true true true is = absurd (false≢true is)
third_true true true false is = refl
third_true true false c is = absurd (false≢true is)
third_true false b c is = absurd (false≢true is)

pub not_false : (b : Bool) → not b ≡ false → b ≡ true
not_false true is = refl
not_false false is = absurd (true≢false is)

pub runs_on : (still : Bool) (p : Proxy) → still ≡ not (may_turn p) → still ≡ false → is_closing p ≡ false
runs_on still p is now =
    third_true (nat_lt (length p.client.kept.buffered) MAX_WAITING) (may_begin p.sent p.server || is_over p.server) (is_closing p) (not_false (may_turn p) (sym is ∙ now))

pub turns : (more : Bool) (p q : Proxy) → is_closing p ≡ false → Works more p q → Turns more p q
turns true p q runs x = λ told.
    let y = x told in
    let one = ap going_on runs in
    (y.0, let less = y.1 in omega (arith, less, one))
turns false p q runs x = λ told. let y = x told in (y.0, λ may. y.1)

pub still_rests : (p : Proxy) → may_turn p ≡ false → Turns false p p
still_rests p still = λ told. (told, λ may. absurd (false≢true (sym still ∙ may)))

-- ---- what a forwarder stands for is told

server_told : (settings : Settings) (server : Option servers.State) (links : List Link) → HasSettings settings server
    → IsServer (asking.setting_of settings) (option_map (λ (s : servers.State). s.kept) server) links → ServerTold server
server_told settings None links same is = tt
server_told settings (Some s) [] same is = absurd is
server_told settings (Some s) (l ∷ links) same is =
    (l.happened, subst (λ (t : Settings). IsClientTrace (asking.setting_of t) l.happened s.kept) (sym same) is)

pub told_of : (p : Proxy) (history : List ProxyStep) (all : Happenings) → Forwards p history all → Told p
told_of p history all f = record {
  trace = all.client;
  stands = subst (λ (s : Settings). StandsFor (setting_of s) p.client.kept all.client) (sym f.client) f.carries.stands;
  server = server_told p.config.connections p.server all.links f.server f.carries.server;
}

-- ---- how much can be left

pub client_held : (p : Proxy) (history : List ProxyStep) (all : Happenings) → Forwards p history all
    → length p.client.kept.unread ≤ p.client.settings.h1_hold_size
client_held p history all f = let told = told_of p history all f in unread_bounded (setting_of p.client.settings) p.client.kept told.trace told.stands

pub server_held : (p : Proxy) (history : List ProxyStep) (all : Happenings) (s : servers.State) → Forwards p history all → p.server ≡ Some s
    → length s.kept.unread ≤ p.client.settings.h1_hold_size
server_held p history all s f is =
    let stands = subst ServerTold is (told_of p history all f).server in
    let same = subst (HasSettings p.config.connections) is f.server in
    let held = held_fits (asking.setting_of s.settings) stands.0 s.kept stands.1 in
    let room = ap (λ (t : Settings). t.h1_hold_size) (same ∙ sym f.client) in
    omega (arith, held, room)

request_fits : (u : Option Unsent) (s : Option SentRequest) → request_left u s ≤ 3
request_fits (Some u) s = omega arith
request_fits None None = omega arith
request_fits None (Some s) = mark_fits (s.is_whole || s.is_broken)
  where
    mark_fits : (b : Bool) → mark b ≤ 3
    mark_fits true = omega arith
    mark_fits false = omega arith

exchange_fits : (x : Option Exchange) → rest_left x ≤ 1
exchange_fits None = omega arith
exchange_fits (Some x) = at_most_one x.rest

reading_fits : (body : Option ReadingBody) → answer_left body ≤ 1
reading_fits None = omega arith
reading_fits (Some body) = at_most_one body.rest

side_fits : (settings : Settings) (server : Option servers.State) → HasSettings settings server → ServerTold server
    → side_left server ≤ 16 * settings.h1_hold_size + 2
side_fits settings None same told = omega arith
side_fits settings (Some s) same (trace, stands) =
    let held = held_fits (asking.setting_of s.settings) trace s.kept stands in
    let room = ap (λ (t : Settings). t.h1_hold_size) same in
    omega (arith, held, room, reading_fits s.kept.reading)

pub work_fits : (p : Proxy) (history : List ProxyStep) (all : Happenings) → Forwards p history all → work p < 32 * p.config.connections.h1_hold_size + 8
work_fits p history all f =
    let told = told_of p history all f in
    let held = unread_bounded (setting_of p.config.connections) p.client.kept all.client f.carries.stands in
    let side = side_fits p.config.connections p.server f.server told.server in
    omega (arith, held, side, exchange_fits p.client.kept.exchange, request_fits p.unsent p.sent, going_fits (is_closing p))

-- ---- turns, one after another

-- so many were made
pub record HasTurned (n : ℕ) (p q : Proxy) : Type 0 where
  pub goes : Goes p q
  pub replies : HasReplied p q
  pub leaves : (history : List ProxyStep) (all : Happenings) → Forwards p history all → Told q × (work q + n ≤ work p)
  pub serves : GoesOnServing p q

pub more_turns : (more : Bool) (n : ℕ) (p q r : Proxy) → more ≡ true → Told q → work q + n ≤ work p → Turns more q r → Told r × (work r + (n + 1) ≤ work p)
more_turns true n p q r is told old x = let y = x told in (y.0, let less = y.1 in omega (arith, old, less))
more_turns false n p q r is told old x = absurd (false≢true is)

pub no_more_turns : (more : Bool) (n : ℕ) (p q r : Proxy) → HasTurned n p q → more ≡ false → Turns more q r
    → Settles p r
no_more_turns true n p q r turned is x = absurd (true≢false is)
no_more_turns false n p q r turned is x = λ history all f. (x (turned.leaves history all f).0).1

-- more than are possible weren't
pub too_many : (n : ℕ) (p q : Proxy) → HasTurned n p q → 32 * p.config.connections.h1_hold_size + 8 ≤ n
    → Settles p q
too_many n p q turned many = λ history all f.
    let y = turned.leaves history all f in
    let old = y.1 in
    absurd (omega (arith, old, many, work_fits p history all f))

-- ---- events

-- nothing is left behind what settles
pub rests_by : (event : ProxyEvent) (outcome : ProxyOutcome) (a b c : Proxy) → GoesBy event outcome a b → Settles b c → Settles a c
rests_by event outcome a b c first second = λ history all f. let y = first.1 history all f in second (history_by event outcome a history) y.0 y.1
