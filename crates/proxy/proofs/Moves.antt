-- How a forwarder goes on.
use Rattle.std.proofs.Common.{◌≡◌, ℕ, Bool, true, false, List, ◌∷◌, Option, Some, None, refl, sym, ap, ap₂, ◌∙◌, subst}
use Rattle.std.specs.Prelude.{IsTrue, option_map}
use Rattle.http_config.specs.Config.{Settings}
use Rattle.model_h1.specs.Setting.{Setting}
use Rattle.model_h1.specs.Request.{Head}
use Rattle.model_h1.specs.Event as on
use Rattle.model_h1.specs.Sums as sums
use Rattle.model_state.specs.StandsFor.{StandsFor}
use Rattle.h1_encoder.specs.Meaning.{size_of}
use Rattle.h1_decoder.specs.HeadItem.{SaysHead}
use Rattle.h1_decoder.specs.declared.decoder.HeadItem.{HeadItem}
use Rattle.model_client.specs.ClientEvent as asked
use Rattle.model_client.specs.ClientKept.{client_allows}
use Rattle.model_client.specs.ClientStep.{IsClientStep}
use Rattle.model_client.specs.ClientTrace.{Happened, IsClientTrace, now_after}
use Rattle.h1_client.specs.ClientMeaning as asking
use Rattle.h1_client.specs.ClientMeaning.{request_of}
use Rattle.h1_client.specs.State as servers
use Rattle.h1_connection.specs.EventMeaning.{setting_of}
use Rattle.h1_connection.specs.State.{State}
use Rattle.model_proxy.specs.Edge.{Edge}
use Rattle.model_proxy.specs.Forward.{is_forwardable}
use Rattle.model_proxy.specs.Past.{ProxyStep, ProxyEvent, ProxyOutcome, client_bytes, client_written, tick_of, is_client_end, is_refusal, connected, refused, done}
use Rattle.model_proxy.specs.Happenings.{Happenings}
use Rattle.model_proxy.specs.Carried.{UnderWay, nothing, waits, is_sent, Carries}
use Rattle.model_proxy.specs.Moves.{Brings, Does, DoesAsked, Stays}
use Rattle.model_proxy.proofs.Quiet.{BringsNothing, done_brings_nothing}
use Rattle.model_proxy.proofs.Turns.{keeps_client, keeps_closed, keeps_server, keeps_head, keeps_waiting, keeps_left, keeps_whole}
use Rattle.model_proxy.proofs.Sends.{keeps_asked, keeps_piece, keeps_end, keeps_broken}
use Rattle.model_proxy.proofs.Events.{SaysNoBytes, LeavesServers, AddsNoText, ChangesServer, by_nothing, by_client, by_server, by_connected, by_refused}
use Rattle.proxy_heads.specs.Edges.{edge_of}
use Rattle.proxy.specs.declared.proxy.Proxy.{Proxy}
use Rattle.proxy.specs.declared.proxy.Unsent.{Unsent}
use Rattle.proxy.specs.declared.proxy.SentRequest.{SentRequest}
use Rattle.proxy.specs.declared.notes.Notes.{Notes}
use Rattle.proxy.specs.Sides.{ClientBrings, ClientBringsHead, ServerStays, KeepsTime, ServerDid}
use Rattle.proxy.specs.Kept.{under_way_of, kept_of, IsTimed, Forwards, history_by, Goes, GoesBy, StepsBy, GoesFrom, HoldsNoRequest, Runs, IsUnsent}
use Rattle.proxy.specs.Fresh.{IsToldTime}
use Rattle.proxy.proofs.Times.{trace_of, did_now, happened_now, moved_time, closed_time, told_time, quiet_time, fresh_time}

-- ---- one after another

pub goes_same : (p : Proxy) → Goes p p
goes_same p = (refl, λ history all x. (all, x))

pub goes_then : (a b c : Proxy) → Goes a b → Goes b c → Goes a c
goes_then a b c first second = (second.0 ∙ first.0, λ history all x. let y = first.1 history all x in second.1 history y.0 y.1)

pub by_then : (event : ProxyEvent) (outcome : ProxyOutcome) (a b c : Proxy) → GoesBy event outcome a b → Goes b c → GoesBy event outcome a c
by_then event outcome a b c first second =
    (second.0 ∙ first.0, λ history all x. let y = first.1 history all x in second.1 (history_by event outcome a history) y.0 y.1)

-- what is noted is no part of what happened
pub noted : (p : Proxy) (n : Notes) → Goes p (record p { notes = n })
noted p n = (refl, λ history all f. (all, record { client = f.client; server = f.server; carries = f.carries; time = f.time }))

-- where a part was taken out
pub of_server : (p q : Proxy) (s : servers.State) → p.server ≡ Some s → Goes (record p { server = Some s }) q → Goes p q
of_server p q s is x = subst (λ (o : Option servers.State). Goes (record p { server = o }) q) (sym is) x

pub of_no_unsent : (p q : Proxy) (o : Option Unsent) → p.unsent ≡ o → Goes (record p { unsent = o }) q → Goes p q
of_no_unsent p q o is x = subst (λ (o : Option Unsent). Goes (record p { unsent = o }) q) (sym is) x

pub of_no_server : (p q : Proxy) (o : Option servers.State) → p.server ≡ o → Goes (record p { server = o }) q → Goes p q
of_no_server p q o is x = subst (λ (o : Option servers.State). Goes (record p { server = o }) q) (sym is) x

pub of_unsent : (p q : Proxy) (u : Unsent) → p.unsent ≡ Some u → Goes (record p { unsent = Some u }) q → Goes p q
of_unsent p q u is x = subst (λ (o : Option Unsent). Goes (record p { unsent = o }) q) (sym is) x

abbrev edge : Proxy → Edge
edge p = edge_of p.config.edge

abbrev theirs : Proxy → Setting
theirs p = setting_of p.config.connections

abbrev ours : Proxy → Setting
ours p = asking.setting_of p.config.connections

-- the request that is under way, by what is known of the fields
as_under_way : (p : Proxy) (history : List ProxyStep) (all : Happenings) (u : UnderWay) → under_way_of p.unsent p.sent ≡ u
    → Carries (edge p) (theirs p) (ours p) (kept_of p) history all → Carries (edge p) (theirs p) (ours p) (record (kept_of p) { under_way = u }) history all
as_under_way p history all u is x = subst (λ (u : UnderWay). Carries (edge p) (theirs p) (ours p) (record (kept_of p) { under_way = u }) history all) is x

from_under_way : (p : Proxy) (history : List ProxyStep) (all : Happenings) (u : UnderWay) → under_way_of p.unsent p.sent ≡ u
    → Carries (edge p) (theirs p) (ours p) (record (kept_of p) { under_way = u }) history all → Carries (edge p) (theirs p) (ours p) (kept_of p) history all
from_under_way p history all u is x = subst (λ (u : UnderWay). Carries (edge p) (theirs p) (ours p) (record (kept_of p) { under_way = u }) history all) (sym is) x

-- ---- the client's side

brings_by : (settings : Settings) (o : on.Outcome) (a b : State) → a.settings ≡ settings → ClientBrings o a b → Brings (setting_of settings) o a.kept b.kept
brings_by settings o a b is x = subst (λ (s : Settings). Brings (setting_of s) o a.kept b.kept) is x.brings

pub client_moves : (o : on.Outcome) (p : Proxy) (c : State) → BringsNothing o → ClientBrings o p.client c → Goes p (record p { client = c })
client_moves o p c none x = (
  refl,
  λ history all f.
      let y = keeps_client (edge p) (theirs p) (ours p) o (kept_of p) c.kept none (brings_by p.config.connections o p.client c f.client x) history all f.carries in
      (y.0, record { client = x.settings ∙ f.client; server = f.server; carries = y.1; time = f.time }),
)

pub client_done : (p : Proxy) (c : State) → ClientBrings on.done p.client c → Goes p (record p { client = c })
client_done p c x = client_moves on.done p c done_brings_nothing x

-- ---- a server's side

pub closes : (p : Proxy) → Goes p (record p { server = None })
closes p = (
  refl,
  λ history all f.
      let y = keeps_closed (edge p) (theirs p) (ours p) (kept_of p) history all f.carries in
      (y.0, record { client = f.client; server = tt; carries = y.1; time = closed_time p.moment p.server history f.time }),
)

pub closes_as : (p : Proxy) (o : Option servers.State) → o ≡ None → Goes p (record p { server = o })
closes_as p o is = subst (λ (o : Option servers.State). Goes p (record p { server = o })) (sym is) (closes p)

-- what happened on the server connection that is there
server_stands : (p : Proxy) (a : servers.State) (history : List ProxyStep) (all : Happenings) → Forwards (record p { server = Some a }) history all
    → (trace : List Happened) × servers.Stands a trace
server_stands p a history all f =
    let y = trace_of (ours p) a.kept all.links f.carries.server in
    (y.0, subst (λ (s : Settings). IsClientTrace (asking.setting_of s) y.0 a.kept) (sym f.server) y.1)

-- an event that tells no moment
did_time : (event : asked.ClientEvent) (p : Proxy) (a b : servers.State) (history : List ProxyStep) (all : Happenings) → ServerDid event a b
    → ((n : ℕ) → now_after event n ≡ n) → Forwards (record p { server = Some a }) history all → IsTimed p.moment (Some b) history
did_time event p a b history all x same f =
    let y = server_stands p a history all f in
    moved_time p.moment a b history (did_now event a b x y.0 y.1 ∙ same a.kept.now) f.time

server_goes : (p : Proxy) (a b : servers.State) → ServerStays a b
    → ((history : List ProxyStep) (all : Happenings) → Forwards (record p { server = Some a }) history all → IsTimed p.moment (Some b) history)
    → Goes (record p { server = Some a }) (record p { server = Some b })
server_goes p a b x timed = (
  refl,
  λ history all f.
      let stays = subst (λ (s : Settings). Stays (asking.setting_of s) a.kept b.kept) f.server x.stays in
      let y = keeps_server (edge p) (theirs p) (ours p) (kept_of p) a.kept b.kept stays history all f.carries in
      (y.0, record { client = f.client; server = x.settings ∙ f.server; carries = y.1; time = timed history all f }),
)

pub server_moves : (p : Proxy) (a b : servers.State) → ServerStays a b → KeepsTime a b → Goes (record p { server = Some a }) (record p { server = Some b })
server_moves p a b x keeps =
    server_goes p a b x (λ history all f. let y = server_stands p a history all f in moved_time p.moment a b history (keeps y.0 y.1) f.time)

-- it is told the time
pub told_moves : (p : Proxy) (a b : servers.State) → ServerStays a b → IsToldTime p.moment a b → Goes (record p { server = Some a }) (record p { server = Some b })
told_moves p a b x told =
    server_goes p a b x (λ history all f. let y = server_stands p a history all f in told_time p.moment a b history y.0 y.1 told f.time)

-- ---- the request under way

-- it goes on under another mark
pub resent : (p : Proxy) (s t : SentRequest) → Runs s p → t.is_whole ≡ s.is_whole → t.is_broken ≡ s.is_broken → Goes p (record p { sent = Some t })
resent p s t runs whole broken = (
  refl,
  λ history all f. (
    all,
    record {
      client = f.client;
      server = f.server;
      carries =
          from_under_way (record p { sent = Some t }) history all (is_sent s.is_whole s.is_broken)
          (ap (λ (u : Option Unsent). under_way_of u (Some t)) runs.unsent ∙ ap₂ is_sent whole broken)
          (as_under_way p history all (is_sent s.is_whole s.is_broken) (ap₂ under_way_of runs.unsent runs.sent) f.carries);
      time = f.time;
    },
  ),
)

-- it is over, and its server connection is closed
pub fails : (p : Proxy) → p.unsent ≡ None → Goes p (record p { server = None; sent = None })
fails p none = (
  refl,
  λ history all f.
      let y = keeps_closed (edge p) (theirs p) (ours p) (kept_of p) history all f.carries in
      let z = left p.sent (as_under_way (record p { server = None }) history y.0 (under_way_of None p.sent) (ap (λ (u : Option Unsent). under_way_of u p.sent) none) y.1) in (
        z.0,
        record {
          client = f.client;
          server = tt;
          carries =
              from_under_way (record p { server = None; sent = None }) history z.0 nothing (ap (λ (u : Option Unsent). under_way_of u None) none) z.1;
          time = closed_time p.moment p.server history f.time;
        },
      ),
)
  where
    left : {history : List ProxyStep} {all : Happenings} (sent : Option SentRequest)
        → Carries (edge p) (theirs p) (ours p) (record { client = p.client.kept; server = None; under_way = under_way_of None sent }) history all
        → (after : Happenings) × Carries (edge p) (theirs p) (ours p) (record { client = p.client.kept; server = None; under_way = nothing }) history after
    left {history} {all} None x = (all, x)
    left {history} {all} (Some s) x = keeps_left (edge p) (theirs p) (ours p) s.is_whole s.is_broken p.client.kept history all x

-- it is over and whole
pub is_over : (p : Proxy) (sent : SentRequest) → Runs sent p → sent.is_whole ≡ true → Goes p (record p { sent = None })
is_over p sent runs whole = (
  refl,
  λ history all f.
      let x = as_under_way p history all (is_sent true sent.is_broken)
      (ap₂ under_way_of runs.unsent runs.sent ∙ ap (λ (w : Bool). is_sent w sent.is_broken) whole) f.carries in
      let y = keeps_whole (edge p) (theirs p) (ours p) sent.is_broken p.client.kept (kept_of p).server history all x in (
        y.0,
        record {
          client = f.client;
          server = f.server;
          carries = from_under_way (record p { sent = None }) history y.0 nothing (ap (λ (u : Option Unsent). under_way_of u None) runs.unsent) y.1;
          time = f.time;
        },
      ),
)

-- a new one was handed out
pub from_head : (item : HeadItem) (p q : Proxy) (c : State) → HoldsNoRequest p → ClientBringsHead item p.client c → GoesFrom item (record p { client = c }) q → Goes p q
from_head item p q c idle x rest = (
  rest.0,
  λ history all f.
      let is : under_way_of p.unsent p.sent ≡ nothing = ap₂ under_way_of idle.unsent idle.sent in
      let old = as_under_way p history all nothing is f.carries in
      let b = x.brings all.client (subst (λ (s : Settings). StandsFor (setting_of s) p.client.kept all.client) (sym f.client) f.carries.stands) in
      let h = b.0 in
      let y = keeps_head (edge p) (theirs p) (ours p) h (kept_of p).server p.client.kept c.kept history all b.2
      (subst (λ (s : Settings). StandsFor (setting_of s) c.kept b.2) f.client b.3) b.4 old in
      rest.1 history y.0 h b.1
      (record { client = x.settings ∙ f.client; server = f.server; carries = from_under_way (record p { client = c }) history y.0 nothing is y.1; time = f.time })
      y.2,
)

-- it can't be sent on
pub from_any : (item : HeadItem) (p q : Proxy) → Goes p q → GoesFrom item p q
from_any item p q x = (x.0, λ history all h says f newest. x.1 history all f)

-- it waits to be sent on
pub waits_from : (item : HeadItem) (p : Proxy) (u : Unsent) → HoldsNoRequest p → ((h : Head) → SaysHead item h → is_forwardable (edge p) h ≡ true)
    → ((h : Head) → SaysHead item h → is_forwardable (edge p) h ≡ true → IsUnsent (edge p) u h) → GoesFrom item p (record p { unsent = Some u })
waits_from item p u idle may is = (
  refl,
  λ history all h says f newest.
      let w = is h says (may h says) in
      let old = as_under_way p history all nothing (ap₂ under_way_of idle.unsent idle.sent) f.carries in (
        all,
        record {
          client = f.client;
          server = f.server;
          carries =
              keeps_waiting (edge p) (theirs p) (ours p) h (request_of u.head) (size_of u.size) u.sent.is_whole u.sent.is_broken p.client.kept (kept_of p).server (may h says)
              w.method w.whole w.unbroken w.sized w.text history all old newest;
          time = f.time;
        },
      ),
)

-- it is sent on
pub asks : (p : Proxy) (u : Unsent) (a b : servers.State) → ServerDid (asked.ask (request_of u.head) (size_of u.size)) a b
    → Goes (record p { unsent = Some u; server = Some a }) (record p { unsent = None; sent = Some u.sent; server = Some b })
asks p u a b x = (
  refl,
  λ history all f.
      let event = asked.ask (request_of u.head) (size_of u.size) in
      let allowed = subst (λ (s : Settings). IsTrue (client_allows (asking.setting_of s) a.kept event)) f.server x.allowed in
      let step = subst (λ (s : Settings). IsClientStep (asking.setting_of s) a.kept event asked.done b.kept) f.server x.step in
      let y = keeps_asked (edge p) (theirs p) (ours p) (request_of u.head) (size_of u.size) u.sent.is_whole u.sent.is_broken p.client.kept a.kept b.kept allowed step history all f.carries in (
        y.0,
        record {
          client = f.client;
          server = x.settings ∙ f.server;
          carries = y.1;
          time = did_time event (record p { unsent = Some u }) a b history all x (λ n. refl) f;
        },
      ),
)

-- more of its body is
pub pieces : (bytes : List ℕ) (p : Proxy) (sent : SentRequest) (c : State) (a b : servers.State) → Runs sent p → ClientBrings (on.bytes bytes) p.client c
    → ServerDid (asked.chunk bytes) a b → Goes (record p { server = Some a }) (record p { client = c; server = Some b })
pieces bytes p sent c a b runs brings x = (
  refl,
  λ history all f.
      let allowed = subst (λ (s : Settings). IsTrue (client_allows (asking.setting_of s) a.kept (asked.chunk bytes))) f.server x.allowed in
      let step = subst (λ (s : Settings). IsClientStep (asking.setting_of s) a.kept (asked.chunk bytes) asked.done b.kept) f.server x.step in
      let is : under_way_of p.unsent p.sent ≡ is_sent sent.is_whole sent.is_broken = ap₂ under_way_of runs.unsent runs.sent in
      let old = as_under_way (record p { server = Some a }) history all (is_sent sent.is_whole sent.is_broken) is f.carries in
      let y = keeps_piece (edge p) (theirs p) (ours p) bytes sent.is_whole sent.is_broken p.client.kept c.kept a.kept b.kept
      (brings_by p.config.connections (on.bytes bytes) p.client c f.client brings) allowed step history all old in (
        y.0,
        record {
          client = brings.settings ∙ f.client;
          server = x.settings ∙ f.server;
          carries = from_under_way (record p { client = c; server = Some b }) history y.0 (is_sent sent.is_whole sent.is_broken) is y.1;
          time = did_time (asked.chunk bytes) p a b history all x (λ n. refl) f;
        },
      ),
)

-- its end is
pub ends : (p : Proxy) (sent t : SentRequest) (c : State) (a b : servers.State) → Runs sent p → t.is_whole ≡ true → t.is_broken ≡ sent.is_broken
    → ClientBrings on.body_ended p.client c → ServerDid asked.body_end a b
    → Goes (record p { server = Some a }) (record p { client = c; server = Some b; sent = Some t })
ends p sent t c a b runs whole broken brings x = (
  refl,
  λ history all f.
      let allowed = subst (λ (s : Settings). IsTrue (client_allows (asking.setting_of s) a.kept asked.body_end)) f.server x.allowed in
      let step = subst (λ (s : Settings). IsClientStep (asking.setting_of s) a.kept asked.body_end asked.done b.kept) f.server x.step in
      let is : under_way_of p.unsent p.sent ≡ is_sent sent.is_whole sent.is_broken = ap₂ under_way_of runs.unsent runs.sent in
      let old = as_under_way (record p { server = Some a }) history all (is_sent sent.is_whole sent.is_broken) is f.carries in
      let y = keeps_end (edge p) (theirs p) (ours p) sent.is_whole sent.is_broken p.client.kept c.kept a.kept b.kept
      (brings_by p.config.connections on.body_ended p.client c f.client brings) allowed step history all old in (
        y.0,
        record {
          client = brings.settings ∙ f.client;
          server = x.settings ∙ f.server;
          carries =
              from_under_way (record p { client = c; server = Some b; sent = Some t }) history y.0 (is_sent true sent.is_broken)
              (ap (λ (u : Option Unsent). under_way_of u (Some t)) runs.unsent ∙ ap₂ is_sent whole broken) y.1;
          time = did_time asked.body_end p a b history all x (λ n. refl) f;
        },
      ),
)

-- it broke
pub breaks : (fault : on.BodyFault) (p : Proxy) (sent : SentRequest) (c : State) (s : servers.State) → Runs sent p → ClientBrings (on.broken_by fault) p.client c
    → Goes (record p { server = Some s }) (record p { client = c; server = Some s; sent = Some (record sent { is_broken = true }) })
breaks fault p sent c s runs brings = (
  refl,
  λ history all f.
      let t : SentRequest = record sent { is_broken = true } in
      let is : under_way_of p.unsent p.sent ≡ is_sent sent.is_whole sent.is_broken = ap₂ under_way_of runs.unsent runs.sent in
      let old = as_under_way (record p { server = Some s }) history all (is_sent sent.is_whole sent.is_broken) is f.carries in
      let y = keeps_broken (edge p) (theirs p) (ours p) fault sent.is_whole sent.is_broken p.client.kept c.kept s.kept
      (brings_by p.config.connections (on.broken_by fault) p.client c f.client brings) history all old in (
        y.0,
        record {
          client = brings.settings ∙ f.client;
          server = f.server;
          carries =
              from_under_way (record p { client = c; server = Some s; sent = Some t }) history y.0 (is_sent sent.is_whole true)
              (ap (λ (u : Option Unsent). under_way_of u (Some t)) runs.unsent) y.1;
          time = f.time;
        },
      ),
)

-- ---- events

pub nothing_by : (event : ProxyEvent) (outcome : ProxyOutcome) (p : Proxy) → SaysNoBytes event outcome → is_refusal event ≡ false → LeavesServers event outcome
    → StepsBy event outcome p p
nothing_by event outcome p says none leaves = (
  refl,
  λ history all f.
      let y = by_nothing (edge p) (theirs p) (ours p) event outcome (kept_of p) says none leaves history all f.carries in
      (y.0, record { client = f.client; server = f.server; carries = y.1; time = quiet_time event outcome p.moment p.server history says.moment f.time }),
)

pub client_by : (e : on.Event) (o : on.Outcome) (event : ProxyEvent) (outcome : ProxyOutcome) (p : Proxy) (c : State) (moment : Option ℕ)
    → ((history : List ProxyStep) (all : Happenings) → Forwards p history all → IsTimed moment p.server (record { event = event; outcome = outcome } ∷ history))
    → BringsNothing o
    → sums.step_taken e o ≡ client_bytes event outcome → sums.step_written o ≡ client_written event outcome → sums.tick_of e ≡ tick_of event
    → sums.is_eof e ≡ is_client_end event → is_refusal event ≡ false
    → LeavesServers event outcome → c.settings ≡ p.client.settings → Does (setting_of p.client.settings) e o p.client.kept c.kept
    → StepsBy event outcome p (record p { client = c; moment = moment })
client_by e o event outcome p c moment timed none takes gives tick ends not_refused leaves settings does = (
  refl,
  λ history all f.
      let did = subst (λ (s : Settings). Does (setting_of s) e o p.client.kept c.kept) f.client does in
      let y = by_client (edge p) (theirs p) (ours p) e o event outcome (kept_of p) c.kept none takes gives tick ends not_refused leaves did history all f.carries in
      (y.0, record { client = settings ∙ f.client; server = f.server; carries = y.1; time = timed history all f }),
)

pub server_by : (e : asked.ClientEvent) (o : asked.ClientOutcome) (event : ProxyEvent) (outcome : ProxyOutcome) (p : Proxy) (a b : servers.State)
    → AddsNoText e → ((n : ℕ) → now_after e n ≡ n) → SaysNoBytes event outcome → is_refusal event ≡ false → ChangesServer e o event outcome → b.settings ≡ a.settings
    → DoesAsked (asking.setting_of a.settings) e o a.kept b.kept
    → StepsBy event outcome (record p { server = Some a }) (record p { server = Some b })
server_by e o event outcome p a b adds same says not_refused changes settings does = (
  refl,
  λ history all f.
      let did = subst (λ (s : Settings). DoesAsked (asking.setting_of s) e o a.kept b.kept) f.server does in
      let y = by_server (edge p) (theirs p) (ours p) e o event outcome (kept_of p) a.kept b.kept adds says not_refused changes did history all f.carries in
      let s = server_stands p a history all f in
      let now = happened_now e o a b settings same s.0 s.1 does in (
        y.0,
        record {
          client = f.client;
          server = settings ∙ f.server;
          carries = y.1;
          time = quiet_time event outcome p.moment (Some b) history says.moment (moved_time p.moment a b history now f.time);
        },
      ),
)

pub of_server_by : (event : ProxyEvent) (outcome : ProxyOutcome) (p q : Proxy) (s : servers.State) → p.server ≡ Some s
    → StepsBy event outcome (record p { server = Some s }) q → StepsBy event outcome p q
of_server_by event outcome p q s is x = subst (λ (o : Option servers.State). StepsBy event outcome (record p { server = o }) q) (sym is) x

pub connected_by : (p : Proxy) (u : Unsent) → p.unsent ≡ Some u → p.server ≡ None
    → GoesBy connected done p (record p { server = Some (servers.fresh_state p.config.connections) })
connected_by p u waiting none = (
  refl,
  λ history all f.
      let is : under_way_of p.unsent p.sent ≡ waits (request_of u.head) (size_of u.size) u.sent.is_whole u.sent.is_broken = ap (λ (o : Option Unsent). under_way_of o p.sent) waiting in
      let x = as_under_way p history all (waits (request_of u.head) (size_of u.size) u.sent.is_whole u.sent.is_broken) is f.carries in
      let z = subst (λ (o : Option servers.State). Carries (edge p) (theirs p) (ours p) (record {
        client = p.client.kept;
        server = option_map (λ s. s.kept) o;
        under_way = waits (request_of u.head) (size_of u.size) u.sent.is_whole u.sent.is_broken;
      }) history all) none x in
      let y = by_connected (edge p) (theirs p) (ours p) (request_of u.head) (size_of u.size) u.sent.is_whole u.sent.is_broken p.client.kept history all z in (
        y.0,
        record {
          client = f.client;
          server = refl;
          carries =
              from_under_way (record p { server = Some (servers.fresh_state p.config.connections) }) (record { event = connected; outcome = done } ∷ history) y.0
              (waits (request_of u.head) (size_of u.size) u.sent.is_whole u.sent.is_broken) is y.1;
          time = fresh_time connected done p.moment p.server p.config.connections history refl f.time;
        },
      ),
)

pub refused_by : (p : Proxy) (u : Unsent) → p.unsent ≡ Some u → GoesBy refused done p (record p { unsent = None; sent = None })
refused_by p u waiting = (
  refl,
  λ history all f.
      let is : under_way_of p.unsent p.sent ≡ waits (request_of u.head) (size_of u.size) u.sent.is_whole u.sent.is_broken = ap (λ (o : Option Unsent). under_way_of o p.sent) waiting in
      let x = as_under_way p history all (waits (request_of u.head) (size_of u.size) u.sent.is_whole u.sent.is_broken) is f.carries in
      let y = by_refused (edge p) (theirs p) (ours p) (request_of u.head) (size_of u.size) u.sent.is_whole u.sent.is_broken p.client.kept (kept_of p).server history all x in
      (y.0, record { client = f.client; server = f.server; carries = y.1; time = quiet_time refused done p.moment p.server history refl f.time }),
)

-- ---- after a head

-- it goes on
pub from_then : (item : HeadItem) (a b c : Proxy) → GoesFrom item a b → Goes b c → GoesFrom item a c
from_then item a b c first second = (second.0 ∙ first.0, λ history all h says f newest. let y = first.1 history all h says f newest in second.1 history y.0 y.1)
