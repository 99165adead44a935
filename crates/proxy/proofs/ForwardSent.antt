-- A forwarder that holds so far does so behind each turn on the request that was sent on: more of its body goes on, it breaks, or nothing is put.
use Rattle.std.proofs.Common.{◌≡◌, ℕ, true, List, [], ◌∷◌, Option, Some, None, refl, sym, ap, ap₂, ◌∙◌, subst, subst₂}
use Rattle.std.specs.Prelude.{IsTrue}
use Rattle.http_config.specs.Config.{Settings}
use Rattle.model_h1.specs.Event as on
use Rattle.model_client.specs.ClientEvent as asked
use Rattle.model_client.specs.ClientKept.{client_allows}
use Rattle.model_client.specs.ClientStep.{IsClientStep}
use Rattle.h1_client.specs.ClientMeaning as asking
use Rattle.h1_client.specs.State as servers
use Rattle.model_proxy.specs.Past.{ProxyStep}
use Rattle.model_proxy.specs.Carried.{UnderWay, is_sent}
use Rattle.model_proxy.specs.Parts.{takes, takes_end, request_breaks}
use Rattle.model_proxy.proofs.OnLinks.{Stage}
use Rattle.model_proxy.proofs.Served.{IsServed as ServesSoFar, served_silent, served_quiet}
use Rattle.model_proxy.proofs.ServedTurns.{served_piece, served_whole, served_broken}
use Rattle.proxy.specs.declared.proxy.Proxy.{Proxy}
use Rattle.proxy.specs.declared.proxy.ProxyConfig.{ProxyConfig}
use Rattle.proxy.specs.declared.proxy.SentRequest.{SentRequest}
use Rattle.proxy.specs.declared.proxy.Unsent.{Unsent}
use Rattle.proxy.specs.Sides.{ServerDid}
use Rattle.proxy.specs.Kept.{under_way_of, Runs}
use Rattle.proxy.specs.Replies.{nothing_put, body_on, body_whole, broken_late, marks_of, SendsOn, HasCause, HasPut, KeepsBody}
use Rattle.proxy.proofs.ForwardState.{edge, theirs, ours, kept_in, FitsMark, FitsStage, Now, Holds, as_parts, sent_now, goes_on_now, has_settings, puts_to, hands_to}

-- ---- what is known of it

-- its server connection is there
pub record AtSent (history : List ProxyStep) (p : Proxy) (sent : SentRequest) (stage : Stage) : Type 0 where
  pub server : servers.State
  pub there : p.server ≡ Some server
  pub settings : server.settings ≡ p.config.connections
  pub fits : FitsMark sent.is_answered sent.closes stage
  pub served : ServesSoFar (edge p.config) (theirs p.config) (ours p.config)
      (record { client = p.client.kept; server = Some server.kept; under_way = is_sent sent.is_whole sent.is_broken }) stage history

pub at_sent : (history : List ProxyStep) (p : Proxy) (sent : SentRequest) (h : Holds history p) → Runs sent p → AtSent history p sent h.now.stage
at_sent history p sent h runs = by_server p.server refl
  where
    fits : FitsMark sent.is_answered sent.closes h.now.stage
    fits = subst₂ (λ (u : Option Unsent) (o : Option SentRequest). FitsStage u o h.now.stage) runs.unsent runs.sent h.now.fits

    under : under_way_of p.unsent p.sent ≡ is_sent sent.is_whole sent.is_broken
    under = ap₂ under_way_of runs.unsent runs.sent

    by_server : (o : Option servers.State) → p.server ≡ o → AtSent history p sent h.now.stage
    by_server None none =
        absurd ((as_parts p.config history p h.now.stage None (is_sent sent.is_whole sent.is_broken) (ap kept_in none) under h.now.served).2.state)
    by_server (Some s) there = record {
      server = s;
      there = there;
      settings = has_settings p.config.connections p.server s there h.forwards.server;
      fits = fits;
      served = as_parts p.config history p h.now.stage (Some s.kept) (is_sent sent.is_whole sent.is_broken) (ap kept_in there) under h.now.served;
    }

-- an event that was allowed and is done, by these settings
pub allowed_to : (settings : Settings) (event : asked.ClientEvent) (a b : servers.State) → a.settings ≡ settings → ServerDid event a b
    → IsTrue (client_allows (asking.setting_of settings) a.kept event)
allowed_to settings event a b at did = subst (λ (c : Settings). IsTrue (client_allows (asking.setting_of c) a.kept event)) at did.allowed

pub step_to : (settings : Settings) (event : asked.ClientEvent) (a b : servers.State) → a.settings ≡ settings → ServerDid event a b
    → IsClientStep (asking.setting_of settings) a.kept event asked.done b.kept
step_to settings event a b at did = subst (λ (c : Settings). IsClientStep (asking.setting_of c) a.kept event asked.done b.kept) at did.step

-- ---- turn by turn

module _ (s : ProxyStep) (history : List ProxyStep) (p q : Proxy) (h : Holds (s ∷ history) p) where
  abbrev c : ProxyConfig
  c = p.config

  client_at : p.client.settings ≡ c.connections
  client_at = h.forwards.client

  -- nothing is put
  pub sent_still : (sent : SentRequest) → Runs sent p → HasCause nothing_put p q → HasPut nothing_put p q → KeepsBody nothing_put p q → Now c (s ∷ history) q
  sent_still sent runs cause puts far =
      let at = at_sent (s ∷ history) p sent h runs in
      let x = cause sent at.server runs at.there in
      let body = far sent x.sent runs.sent x.runs.sent in
      let under : UnderWay = is_sent sent.is_whole sent.is_broken in
      let t0 = served_silent (edge c) (theirs c) (ours c) refl s history h.now.stage (record { client = p.client.kept; server = Some at.server.kept; under_way = under })
      q.client.kept (puts_to c.connections (λ ps. ps ≡ []) p.client q.client client_at puts) at.served in
      let t1 = served_quiet (edge c) (theirs c) (ours c) refl s history h.now.stage (record { client = q.client.kept; server = Some at.server.kept; under_way = under })
      at.server.kept x.after.kept (hands_to c.connections [] at.server x.after at.settings x.hands) t0 in
      goes_on_now c (s ∷ history) q (marks_of sent) [] at.server sent.is_whole sent.is_broken h.now.stage x body.0 body.1 at.fits t1

  -- more of its body goes on, after nothing was handed out
  quiet_first : (event : asked.ClientEvent) (sent next : SentRequest) (at : AtSent (s ∷ history) p sent h.now.stage) (x : SendsOn event at.server next q)
      → ServesSoFar (edge c) (theirs c) (ours c)
      (record { client = p.client.kept; server = Some x.mid.kept; under_way = is_sent sent.is_whole sent.is_broken }) h.now.stage (s ∷ history)
  quiet_first event sent next at x =
      served_quiet (edge c) (theirs c) (ours c) refl s history h.now.stage
      (record { client = p.client.kept; server = Some at.server.kept; under_way = is_sent sent.is_whole sent.is_broken }) at.server.kept x.mid.kept
      (hands_to c.connections [] at.server x.mid at.settings x.quiet) at.served

  -- by the connection that is there
  here : (event : asked.ClientEvent) (sent next : SentRequest) (a : servers.State) (at : AtSent (s ∷ history) p sent h.now.stage) → p.server ≡ Some a
      → SendsOn event a next q → SendsOn event at.server next q
  here event sent next a at there x =
      let both : Some a ≡ Some at.server = sym there ∙ at.there in
      let same : a ≡ at.server = cc in
      subst (λ (b : servers.State). SendsOn event b next q) same x

  pub sent_piece : (bytes : List ℕ) → HasCause (body_on bytes) p q → HasPut (body_on bytes) p q → Now c (s ∷ history) q
  sent_piece bytes (sent, a, runs, there, more) puts =
      let at = at_sent (s ∷ history) p sent h runs in
      let x = here (asked.chunk bytes) sent sent a at there more in
      let mid_at = x.quiet.0 ∙ at.settings in
      let t0 = quiet_first (asked.chunk bytes) sent sent at x in
      let t1 = served_piece (edge c) (theirs c) (ours c) refl s history h.now.stage sent.is_whole sent.is_broken p.client.kept x.mid.kept bytes q.client.kept x.after.kept
      (allowed_to c.connections (asked.chunk bytes) x.mid x.after mid_at x.did) (step_to c.connections (asked.chunk bytes) x.mid x.after mid_at x.did)
      (puts_to c.connections (λ ps. ps ≡ takes bytes ∷ []) p.client q.client client_at puts) t0 in
      sent_now c (s ∷ history) q sent x.after h.now.stage x.runs x.is_there at.fits t1

  pub sent_whole : HasCause body_whole p q → HasPut body_whole p q → Now c (s ∷ history) q
  sent_whole (sent, a, runs, there, more) puts =
      let at = at_sent (s ∷ history) p sent h runs in
      let next : SentRequest = record sent { is_whole = true } in
      let x = here asked.body_end sent next a at there more in
      let mid_at = x.quiet.0 ∙ at.settings in
      let t0 = quiet_first asked.body_end sent next at x in
      let t1 = served_whole (edge c) (theirs c) (ours c) refl s history h.now.stage sent.is_whole sent.is_broken p.client.kept x.mid.kept q.client.kept x.after.kept
      (allowed_to c.connections asked.body_end x.mid x.after mid_at x.did) (step_to c.connections asked.body_end x.mid x.after mid_at x.did)
      (puts_to c.connections (λ ps. ps ≡ takes_end ∷ []) p.client q.client client_at puts) t0 in
      sent_now c (s ∷ history) q next x.after h.now.stage x.runs x.is_there at.fits t1

  -- its body breaks while its reply goes on
  pub sent_breaks : (fault : on.BodyFault) → HasCause (broken_late fault) p q → HasPut (broken_late fault) p q → KeepsBody (broken_late fault) p q → Now c (s ∷ history) q
  sent_breaks fault (sent, was, goes) puts far =
      let at = at_sent (s ∷ history) p sent h was.runs in
      let x = goes at.server at.there in
      let body = far sent x.sent was.runs.sent x.runs.sent in
      let t0 = served_broken (edge c) (theirs c) (ours c) refl s history h.now.stage sent.is_whole sent.is_broken p.client.kept at.server.kept fault q.client.kept
      (puts_to c.connections (λ ps. ps ≡ request_breaks fault ∷ []) p.client q.client client_at puts) at.served in
      let t1 = served_quiet (edge c) (theirs c) (ours c) refl s history h.now.stage
      (record { client = q.client.kept; server = Some at.server.kept; under_way = is_sent sent.is_whole true }) at.server.kept x.after.kept
      (hands_to c.connections [] at.server x.after at.settings x.hands) t0 in
      goes_on_now c (s ∷ history) q (marks_of sent) [] at.server sent.is_whole true h.now.stage x body.0 body.1 at.fits t1
