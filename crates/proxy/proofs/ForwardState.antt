-- What holds of a forwarder so far: what is kept is that of all that happened, which is what a forwarder does; and what the calls of its two
-- connections do is said in the model's words.
use Rattle.std.proofs.Common.{◌≡◌, ◌⊎◌, inl, inr, Bool, true, false, List, [], ◌∷◌, ◌++◌, Option, Some, None, refl, sym, ap, ap₂, subst, subst₂}
use Rattle.std.specs.Prelude.{⊤, option_map}
use Rattle.http_config.specs.Config.{Settings}
use Rattle.model_h1.specs.Setting.{Setting}
use Rattle.model_state.specs.Kept.{Kept}
use Rattle.model_state.specs.StandsFor.{StandsFor}
use Rattle.h1_encoder.specs.Meaning.{size_of}
use Rattle.h1_connection.specs.EventMeaning.{setting_of}
use Rattle.h1_connection.specs.State.{State}
use Rattle.model_client.specs.AnswerReading.{Answer}
use Rattle.model_client.specs.ClientEvent as asked
use Rattle.model_client.specs.ClientKept.{ClientKept, can_be_sent}
use Rattle.model_client.specs.ClientTrace.{Happened, IsClientTrace}
use Rattle.h1_client.specs.ClientMeaning as asking
use Rattle.h1_client.specs.ClientMeaning.{request_of}
use Rattle.h1_client.specs.State as servers
use Rattle.model_proxy.specs.Edge.{Edge}
use Rattle.model_proxy.specs.Answers.{says_close}
use Rattle.model_proxy.specs.Past.{ProxyStep}
use Rattle.model_proxy.specs.Happenings.{Happenings}
use Rattle.model_proxy.specs.Carried.{UnderWay, nothing, waits, is_sent, ForwarderKept}
use Rattle.model_proxy.specs.Parts.{Part, leaves_rest, Handed}
use Rattle.model_proxy.proofs.OnLinks.{Stage, before_head, over, answering}
use Rattle.model_proxy.proofs.Served.{IsServed as ServesSoFar, ClientPuts, ServerHands}
use Rattle.proxy_heads.specs.Edges.{edge_of}
use Rattle.proxy.specs.declared.proxy.Proxy.{Proxy}
use Rattle.proxy.specs.declared.proxy.ProxyConfig.{ProxyConfig}
use Rattle.proxy.specs.declared.proxy.Unsent.{Unsent}
use Rattle.proxy.specs.declared.proxy.SentRequest.{SentRequest}
use Rattle.proxy.specs.Puts.{PutsFor, MayPut, MayLeave, Hands, Tells}
use Rattle.proxy.specs.Kept.{under_way_of, kept_of, HasSettings, Forwards, Runs}
use Rattle.proxy.specs.Served.{Serving, IsServed}
use Rattle.proxy.specs.Replies.{GoesOnBy, Marks, IsTurn}

abbrev pub edge : ProxyConfig → Edge
edge c = edge_of c.edge

abbrev pub theirs : ProxyConfig → Setting
theirs c = setting_of c.connections

abbrev pub ours : ProxyConfig → Setting
ours c = asking.setting_of c.connections

-- what is kept of a server connection, if one is there
abbrev pub kept_in : Option servers.State → Option ClientKept
kept_in server = option_map (λ s. s.kept) server

-- ---- how far the request is that is under way

-- by whether its answer's head was passed on, and whether that says that its server closes the connection
abbrev pub FitsMark : Bool → Bool → Stage → Type 0
FitsMark false closes stage = stage ≡ before_head
FitsMark true closes stage = (a : Answer) × (stage ≡ answering a) × (says_close a ≡ closes)

abbrev pub FitsStage : Option Unsent → Option SentRequest → Stage → Type 0
FitsStage (Some u) sent stage = stage ≡ over
FitsStage None None stage = stage ≡ over
FitsStage None (Some s) stage = FitsMark s.is_answered s.closes stage

-- one that waits can be asked of a server
abbrev pub CanBeAsked : Option Unsent → Type 0
CanBeAsked None = ⊤
CanBeAsked (Some u) = can_be_sent (request_of u.head) (size_of u.size) ≡ true

-- ---- what holds

-- of what is kept, under these settings
pub record Now (config : ProxyConfig) (history : List ProxyStep) (p : Proxy) : Type 0 where
  pub asked : CanBeAsked p.unsent
  pub stage : Stage
  pub fits : FitsStage p.unsent p.sent stage
  pub served : ServesSoFar (edge config) (theirs config) (ours config) (kept_of p) stage history

-- and it is what is left of all that happened, and what the client wants is what is under way
pub record Holds (history : List ProxyStep) (p : Proxy) : Type 0 where
  pub all : Happenings
  pub forwards : Forwards p history all
  pub wanted : IsServed p
  pub now : Now p.config history p

pub serving : (history : List ProxyStep) (p : Proxy) (all : Happenings) → Forwards p history all → IsServed p → Serving p
serving history p all f wanted = record {
  told = (all.client, subst (λ (c : Settings). StandsFor (setting_of c) p.client.kept all.client) (sym f.client) f.carries.stands);
  served = wanted;
}

-- behind a turn
pub holds_then : (s : ProxyStep) (history : List ProxyStep) (p q : Proxy) → Holds (s ∷ history) p → IsTurn p q → Now p.config (s ∷ history) q → Holds (s ∷ history) q
holds_then s history p q h t now =
    let moved = t.goes.1 (s ∷ history) h.all h.forwards in
    record {
      all = moved.0;
      forwards = moved.1;
      wanted = (t.serves (serving (s ∷ history) p h.all h.forwards h.wanted)).served;
      now = subst (λ (c : ProxyConfig). Now c (s ∷ history) q) (sym t.goes.0) now;
    }

-- ---- what is kept, by what is known of the fields

pub as_parts : (config : ProxyConfig) (history : List ProxyStep) (p : Proxy) (stage : Stage) (server : Option ClientKept) (u : UnderWay)
    → kept_in p.server ≡ server → under_way_of p.unsent p.sent ≡ u
    → ServesSoFar (edge config) (theirs config) (ours config) (kept_of p) stage history
    → ServesSoFar (edge config) (theirs config) (ours config) (record { client = p.client.kept; server = server; under_way = u }) stage history
as_parts config history p stage server u there under x =
    subst₂ (λ (o : Option ClientKept) (w : UnderWay).
    ServesSoFar (edge config) (theirs config) (ours config) (record { client = p.client.kept; server = o; under_way = w }) stage history) there under x

pub from_parts : (config : ProxyConfig) (history : List ProxyStep) (p : Proxy) (stage : Stage) (server : Option ClientKept) (u : UnderWay)
    → kept_in p.server ≡ server → under_way_of p.unsent p.sent ≡ u
    → ServesSoFar (edge config) (theirs config) (ours config) (record { client = p.client.kept; server = server; under_way = u }) stage history
    → ServesSoFar (edge config) (theirs config) (ours config) (kept_of p) stage history
from_parts config history p stage server u there under x =
    subst₂ (λ (o : Option ClientKept) (w : UnderWay).
    ServesSoFar (edge config) (theirs config) (ours config) (record { client = p.client.kept; server = o; under_way = w }) stage history) (sym there) (sym under) x

-- at a stage that is this one
pub at_stage : (config : ProxyConfig) (history : List ProxyStep) (k : ForwarderKept) (stage next : Stage) → stage ≡ next
    → ServesSoFar (edge config) (theirs config) (ours config) k stage history → ServesSoFar (edge config) (theirs config) (ours config) k next history
at_stage config history k stage next is x = subst (λ (t : Stage). ServesSoFar (edge config) (theirs config) (ours config) k t history) is x

-- by a client's connection that is this one
pub at_client : (config : ProxyConfig) (history : List ProxyStep) (a b : Kept) (server : Option ClientKept) (u : UnderWay) (stage : Stage) → b ≡ a
    → ServesSoFar (edge config) (theirs config) (ours config) (record { client = a; server = server; under_way = u }) stage history
    → ServesSoFar (edge config) (theirs config) (ours config) (record { client = b; server = server; under_way = u }) stage history
at_client config history a b server u stage is x =
    subst (λ (c : Kept). ServesSoFar (edge config) (theirs config) (ours config) (record { client = c; server = server; under_way = u }) stage history) (sym is) x

module _ (config : ProxyConfig) (history : List ProxyStep) (q : Proxy) where
  -- no request is under way
  pub idle_now : q.unsent ≡ None → q.sent ≡ None → (server : Option ClientKept) → kept_in q.server ≡ server
      → ServesSoFar (edge config) (theirs config) (ours config) (record { client = q.client.kept; server = server; under_way = nothing }) over history
      → Now config history q
  idle_now unsent sent server there x = record {
    asked = subst CanBeAsked (sym unsent) tt;
    stage = over;
    fits = subst₂ (λ (u : Option Unsent) (o : Option SentRequest). FitsStage u o over) (sym unsent) (sym sent) refl;
    served = from_parts config history q over server nothing there (ap₂ under_way_of unsent sent) x;
  }

  -- one waits
  pub waits_now : (u : Unsent) → q.unsent ≡ Some u → can_be_sent (request_of u.head) (size_of u.size) ≡ true → (server : Option ClientKept)
      → kept_in q.server ≡ server
      → ServesSoFar (edge config) (theirs config) (ours config)
      (record { client = q.client.kept; server = server; under_way = waits (request_of u.head) (size_of u.size) u.sent.is_whole u.sent.is_broken }) over history
      → Now config history q
  waits_now u unsent can server there x = record {
    asked = subst CanBeAsked (sym unsent) can;
    stage = over;
    fits = subst (λ (o : Option Unsent). FitsStage o q.sent over) (sym unsent) refl;
    served = from_parts config history q over server (waits (request_of u.head) (size_of u.size) u.sent.is_whole u.sent.is_broken) there
        (ap (λ (o : Option Unsent). under_way_of o q.sent) unsent) x;
  }

  -- this one was sent on
  pub sent_now : (sent : SentRequest) (after : servers.State) (stage : Stage) → Runs sent q → q.server ≡ Some after → FitsMark sent.is_answered sent.closes stage
      → ServesSoFar (edge config) (theirs config) (ours config)
      (record { client = q.client.kept; server = Some after.kept; under_way = is_sent sent.is_whole sent.is_broken }) stage history
      → Now config history q
  sent_now sent after stage runs there fits x = record {
    asked = subst CanBeAsked (sym runs.unsent) tt;
    stage = stage;
    fits = subst₂ (λ (u : Option Unsent) (o : Option SentRequest). FitsStage u o stage) (sym runs.unsent) (sym runs.sent) fits;
    served = from_parts config history q stage (Some after.kept) (is_sent sent.is_whole sent.is_broken) (ap kept_in there)
        (ap₂ under_way_of runs.unsent runs.sent) x;
  }

  -- it goes on under these marks, and its body is as far as this
  pub goes_on_now : (marks : Marks) (handed : List Handed) (server : servers.State) (whole broken : Bool) (stage : Stage) (x : GoesOnBy marks handed server q)
      → x.sent.is_whole ≡ whole → x.sent.is_broken ≡ broken → FitsMark marks.is_answered marks.closes stage
      → ServesSoFar (edge config) (theirs config) (ours config)
      (record { client = q.client.kept; server = Some x.after.kept; under_way = is_sent whole broken }) stage history
      → Now config history q
  goes_on_now marks handed server whole broken stage x is_whole is_broken fits y =
      sent_now x.sent x.after stage x.runs x.is_there (subst (λ (m : Marks). FitsMark m.is_answered m.closes stage) (sym x.marked) fits)
      (subst₂ (λ (w b : Bool). ServesSoFar (edge config) (theirs config) (ours config)
      (record { client = q.client.kept; server = Some x.after.kept; under_way = is_sent w b }) stage history) (sym is_whole) (sym is_broken) y)

-- ---- what the calls do

-- a server connection that is there has the settings
pub has_settings : (settings : Settings) (o : Option servers.State) (s : servers.State) → o ≡ Some s → HasSettings settings o → s.settings ≡ settings
has_settings settings o s is x = subst (HasSettings settings) is x

pub puts_to : (settings : Settings) (Are : List Part → Type 0) (a b : State) → a.settings ≡ settings → PutsFor Are a b → ClientPuts (setting_of settings) Are a.kept b.kept
puts_to settings Are a b at puts =
    subst (λ (c : Settings). ClientPuts (setting_of c) Are a.kept b.kept) at
    (λ trace stands.
    let x = puts.1 trace stands in
    (x.0, subst (λ (c : Settings). StandsFor (setting_of c) b.kept (x.0 ++ trace)) puts.0 x.1, x.2))

pub may_to : (settings : Settings) (part : Part) (a b : State) → a.settings ≡ settings → MayPut part a b
    → (b.kept ≡ a.kept) ⊎ ClientPuts (setting_of settings) (λ ps. ps ≡ part ∷ []) a.kept b.kept
may_to settings part a b at (inl x) = inl (ap (λ (s : State). s.kept) x.1)
may_to settings part a b at (inr x) = inr (puts_to settings (λ ps. ps ≡ part ∷ []) a b at x)

pub leaves_to : (settings : Settings) (a b : State) → a.settings ≡ settings → MayLeave a b
    → (b.kept ≡ a.kept) ⊎ ClientPuts (setting_of settings) (λ ps. ps ≡ leaves_rest ∷ []) a.kept b.kept
leaves_to settings a b at (inl x) = inl (ap (λ (s : State). s.kept) x.0)
leaves_to settings a b at (inr x) = inr (puts_to settings (λ ps. ps ≡ leaves_rest ∷ []) a b at x)

pub leaves_settings : (a b : State) → MayLeave a b → b.settings ≡ a.settings
leaves_settings a b (inl x) = ap (λ (s : State). s.settings) x.0
leaves_settings a b (inr x) = x.0

pub hands_to : (settings : Settings) (handed : List Handed) (a b : servers.State) → a.settings ≡ settings → Hands handed a b
    → ServerHands (asking.setting_of settings) handed a.kept b.kept
hands_to settings handed a b at hands =
    subst (λ (c : Settings). ServerHands (asking.setting_of c) handed a.kept b.kept) at
    (λ trace ran.
    let x = hands.1 trace ran in
    (x.0, subst (λ (c : Settings). IsClientTrace (asking.setting_of c) (x.0 ++ trace) b.kept) hands.0 x.1, x.2))

pub tells_to : (settings : Settings) (o : asked.ClientOutcome) (a b : servers.State) → a.settings ≡ settings → Tells o a b
    → (trace : List Happened) → IsClientTrace (asking.setting_of settings) trace a.kept
    → IsClientTrace (asking.setting_of settings) (record { event = asked.next; outcome = o } ∷ trace) b.kept
tells_to settings o a b at tells =
    subst (λ (c : Settings). (trace : List Happened) → IsClientTrace (asking.setting_of c) trace a.kept
    → IsClientTrace (asking.setting_of c) (record { event = asked.next; outcome = o } ∷ trace) b.kept) at
    (λ trace ran.
    subst (λ (c : Settings). IsClientTrace (asking.setting_of c) (record { event = asked.next; outcome = o } ∷ trace) b.kept) tells.0 (tells.1 trace ran))
