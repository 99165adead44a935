-- A forwarder that holds so far does so behind each turn on the request that waits: it is sent on, or waits on.
use Rattle.std.proofs.Common.{◌≡◌, ◌⊎◌, inl, inr, ℕ, Bool, true, false, not, List, [], ◌∷◌, Option, Some, None, refl, sym, ap, ◌∙◌, subst}
use Rattle.std.specs.Prelude.{◌<◌, ◌||◌, is_some}
use Rattle.std.proofs.lemmas.Bool.{false≢true}
use Rattle.http_config.specs.Config.{Settings}
use Rattle.h1_encoder.specs.Meaning.{size_of}
use Rattle.model_client.specs.ClientEvent as asked
use Rattle.model_client.specs.ClientKept.{ClientKept, is_free_of, is_waited_for, client_closing, client_allows}
use Rattle.model_client.specs.ClientStep.{ClientChange}
use Rattle.h1_connection.specs.State.{State}
use Rattle.h1_client.specs.ClientMeaning as asking
use Rattle.h1_client.specs.ClientMeaning.{request_of}
use Rattle.h1_client.specs.State as servers
use Rattle.model_proxy.specs.Past.{ProxyStep}
use Rattle.model_proxy.specs.Carried.{UnderWay, waits, is_sent}
use Rattle.model_proxy.proofs.OnLinks.{before_head, over}
use Rattle.model_proxy.proofs.LinkSteps.{IsUnused}
use Rattle.model_proxy.proofs.BadAnswers.{may_tell}
use Rattle.model_proxy.proofs.ServesTurns.{IsUnfit}
use Rattle.model_proxy.proofs.Served.{IsServed as ServesSoFar, served_quiet}
use Rattle.model_proxy.proofs.ServedTurns.{served_sent, served_left_waiting}
use Rattle.proxy.specs.declared.proxy.Proxy.{Proxy}
use Rattle.proxy.specs.declared.proxy.ProxyConfig.{ProxyConfig}
use Rattle.proxy.specs.declared.proxy.Unsent.{Unsent}
use Rattle.proxy.specs.Puts.{Hands}
use Rattle.proxy.specs.Kept.{under_way_of}
use Rattle.proxy.specs.Fresh.{is_used, IsToldTime, asking_of, IsSentUpstream, CannotSend, WaitsOn, SendsWhereItCan}
use Rattle.proxy.specs.Rests.{may_turn}
use Rattle.proxy.specs.Served.{Fits}
use Rattle.proxy.proofs.Puts.{did_hands, hands_same}
use Rattle.proxy.proofs.Replies.{noted_client, noted_server, noted_unsent, noted_sent}
use Rattle.proxy.proofs.ForwardState.{edge, theirs, ours, kept_in, CanBeAsked, FitsStage, FitsMark, Now, Holds, as_parts, at_stage, at_client, waits_now, sent_now, has_settings, hands_to}
use Rattle.proxy.proofs.ForwardSent.{allowed_to, step_to}

-- ---- the time is told

pub told_hands : (moment : Option ℕ) (a b : servers.State) → IsToldTime moment a b → Hands [] a b
told_hands None a b same = subst (Hands [] a) (sym same) (hands_same a)
told_hands (Some m) a b (inl did) = did_hands (asked.tick m) a b [] did refl
told_hands (Some m) a b (inr not_told) = subst (Hands [] a) (sym not_told.same) (hands_same a)

-- nothing but the moment changes by it
record ToldSame (a b : servers.State) : Type 0 where
  waiting : b.kept.waiting ≡ a.kept.waiting
  reading : b.kept.reading ≡ a.kept.reading
  unread : b.kept.unread ≡ a.kept.unread

told_same : (moment : Option ℕ) (a b : servers.State) → IsToldTime moment a b → ToldSame a b
told_same None a b same = record {
  waiting = ap (λ (s : servers.State). s.kept.waiting) same;
  reading = ap (λ (s : servers.State). s.kept.reading) same;
  unread = ap (λ (s : servers.State). s.kept.unread) same;
}
told_same (Some m) a b (inr not_told) = record {
  waiting = ap (λ (s : servers.State). s.kept.waiting) not_told.same;
  reading = ap (λ (s : servers.State). s.kept.reading) not_told.same;
  unread = ap (λ (s : servers.State). s.kept.unread) not_told.same;
}
told_same (Some m) a b (inl did) = record {
  waiting = ap (λ (k : ClientKept). k.waiting) did.step.keeps ∙ ap (λ (c : ClientChange). c.kept.waiting) did.step.changes;
  reading = ap (λ (k : ClientKept). k.reading) did.step.keeps ∙ ap (λ (c : ClientChange). c.kept.reading) did.step.changes;
  unread = ap (λ (k : ClientKept). k.unread) did.step.keeps ∙ ap (λ (c : ClientChange). c.kept.unread) did.step.changes;
}

-- ---- it can't be asked

used_by : (closes behind may : Bool) → (closes || behind || not may) ≡ true → behind ≡ false → may ≡ true → closes ≡ true
used_by true behind may is none allowed = refl
used_by false true may is none allowed = absurd (false≢true (sym none))
used_by false false true is none allowed = absurd (false≢true is)
used_by false false false is none allowed = absurd (false≢true allowed)

unfit_used : (settings : Settings) (a : servers.State) (u : Unsent) → a.settings ≡ settings → is_used a ≡ true → IsUnused a.kept → a.kept.waiting ≡ []
    → IsUnfit (asking.setting_of settings) a.kept (request_of u.head) (size_of u.size)
unfit_used settings a u at used fresh none =
    inl (used_by (is_some (client_closing a.kept)) (is_waited_for a.kept.waiting) (client_allows (asking.setting_of a.settings) a.kept asked.next) used
    (ap is_waited_for none) (may_tell (asking.setting_of a.settings) a.kept fresh.runs fresh.free))

-- ---- turn by turn

module _ (s : ProxyStep) (history : List ProxyStep) (p q : Proxy) (h : Holds (s ∷ history) p) (room : 0 < (ours p.config).write_buffer) (u : Unsent) (at : p.unsent ≡ Some u) where
  abbrev c : ProxyConfig
  c = p.config

  abbrev under : UnderWay
  under = waits (request_of u.head) (size_of u.size) u.sent.is_whole u.sent.is_broken

  is_under : under_way_of p.unsent p.sent ≡ under
  is_under = ap (λ (o : Option Unsent). under_way_of o p.sent) at

  at_over : h.now.stage ≡ over
  at_over = subst (λ (o : Option Unsent). FitsStage o p.sent h.now.stage) at h.now.fits

  can : CanBeAsked (Some u)
  can = subst CanBeAsked at h.now.asked

  -- by the server connection that is there, if one is
  served_by : (server : Option ClientKept) → kept_in p.server ≡ server
      → ServesSoFar (edge c) (theirs c) (ours c) (record { client = p.client.kept; server = server; under_way = under }) over (s ∷ history)
  served_by server there =
      at_stage c (s ∷ history) (record { client = p.client.kept; server = server; under_way = under }) h.now.stage over at_over
      (as_parts c (s ∷ history) p h.now.stage server under there is_under h.now.served)

  -- it is sent on
  pub waiting_sent : IsSentUpstream u p q → Now c (s ∷ history) q
  waiting_sent x =
      let a = x.server in
      let settings = has_settings c.connections p.server a x.is_there h.forwards.server in
      let same = told_same p.moment a x.told x.tells in
      let hands = told_hands p.moment a x.told x.tells in
      let told_at = hands.0 ∙ settings in
      let t0 = served_quiet (edge c) (theirs c) (ours c) refl s history over (record { client = p.client.kept; server = Some a.kept; under_way = under }) a.kept x.told.kept
      (hands_to c.connections [] a x.told settings hands) (served_by (Some a.kept) (ap kept_in x.is_there)) in
      let t1 = served_sent (edge c) (theirs c) (ours c) refl s history (request_of u.head) (size_of u.size) u.sent.is_whole u.sent.is_broken p.client.kept x.told.kept x.after.kept
      (allowed_to c.connections (asking_of u) x.told x.after told_at x.asks) (step_to c.connections (asking_of u) x.told x.after told_at x.asks)
      (same.waiting ∙ x.read.waiting) (ap is_free_of same.reading ∙ x.read.free) (same.unread ∙ x.read.unread) (x.dated (s ∷ history) h.all h.forwards) t0 in
      let next : Proxy = record p { unsent = None; sent = Some u.sent; server = Some x.after } in
      let unanswered = (subst (λ (o : Option Unsent). Fits o p.sent p.client) at h.wanted).1 in
      sent_now c (s ∷ history) q u.sent x.after before_head (record { unsent = noted_unsent next q x.noted; sent = noted_sent next q x.noted })
      (noted_server next q x.noted) (subst (λ (b : Bool). FitsMark b u.sent.closes before_head) (sym unanswered) refl)
      (at_client c (s ∷ history) p.client.kept q.client.kept (Some x.after.kept) (is_sent u.sent.is_whole u.sent.is_broken) before_head
      (ap (λ (k : State). k.kept) (noted_client next q x.noted)) t1)

  -- it waits on, without a server connection
  left : (a : servers.State) → p.server ≡ Some a → CannotSend u p.moment (Some a)
      → ServesSoFar (edge c) (theirs c) (ours c) (record { client = p.client.kept; server = None; under_way = under }) over (s ∷ history)
  left a there (inl used) =
      let settings = has_settings c.connections p.server a there h.forwards.server in
      served_left_waiting (edge c) (theirs c) (ours c) refl s history over (request_of u.head) (size_of u.size) u.sent.is_whole u.sent.is_broken p.client.kept a.kept can room
      (unfit_used c.connections a u settings used) (served_by (Some a.kept) (ap kept_in there))
  left a there (inr (told, tells, refuses)) =
      let settings = has_settings c.connections p.server a there h.forwards.server in
      let hands = told_hands p.moment a told tells in
      let t0 = served_quiet (edge c) (theirs c) (ours c) refl s history over (record { client = p.client.kept; server = Some a.kept; under_way = under }) a.kept told.kept
      (hands_to c.connections [] a told settings hands) (served_by (Some a.kept) (ap kept_in there)) in
      served_left_waiting (edge c) (theirs c) (ours c) refl s history over (request_of u.head) (size_of u.size) u.sent.is_whole u.sent.is_broken p.client.kept told.kept can room
      (λ unused none. inr (subst (λ (t : Settings). client_allows (asking.setting_of t) told.kept (asking_of u) ≡ false) (hands.0 ∙ settings) refuses)) t0

  pub waits_on : WaitsOn u p q → Now c (s ∷ history) q
  waits_on x = by_server p.server refl
    where
      now : ServesSoFar (edge c) (theirs c) (ours c) (record { client = p.client.kept; server = None; under_way = under }) over (s ∷ history) → Now c (s ∷ history) q
      now t =
          subst (Now c (s ∷ history)) (sym x.waits) (waits_now c (s ∷ history) (record p { server = None }) u at can None refl t)

      by_server : (o : Option servers.State) → p.server ≡ o → Now c (s ∷ history) q
      by_server None none = now (served_by None (ap kept_in none))
      by_server (Some a) there = now (left a there (subst (CannotSend u p.moment) there x.cannot))

  -- a turn does one of the two, or none may be made
  pub waiting_turn : SendsWhereItCan p q → Now c (s ∷ history) q
  waiting_turn sends = by_case (sends u at)
    where
      by_case : ((may_turn p ≡ false) × (q ≡ p)) ⊎ (IsSentUpstream u p q ⊎ WaitsOn u p q) → Now c (s ∷ history) q
      by_case (inl x) = subst (Now c (s ∷ history)) (sym x.1) h.now
      by_case (inr (inl x)) = waiting_sent x
      by_case (inr (inr x)) = waits_on x
