-- A forwarder that holds so far does so behind each turn that begins while no request is under way: a head is handed out, which waits, or gets a reply
-- of the forwarder's own; or nothing is put.
use Rattle.std.proofs.Common.{◌≡◌, inl, inr, ℕ, Bool, true, false, not, ◌&&◌, List, [], ◌∷◌, Option, Some, None, refl, sym, ap, ap₂, ◌∙◌, subst, subst₂}
use Rattle.std.specs.Prelude.{◌==◌, codes, bytes_eq, nat_le, if◌then◌else◌}
use Rattle.std.proofs.lemmas.Bool.{false≢true}
use Rattle.model_h1.specs.Answer.{BodySize, size_none, size_of as sized, size_stream, shape_none, shape_length}
use Rattle.model_h1.specs.Request.{Head, is_raw_kind}
use Rattle.model_h1.specs.Sums.{Step}
use Rattle.h1_encoder.specs.Meaning.{size_of}
use Rattle.model_client.specs.ClientEvent.{ClientRequest}
use Rattle.model_client.specs.ClientKept.{ClientKept, can_be_sent, can_be_framed, states_length, lacks_length}
use Rattle.model_client.specs.RequestText.{asked_shape}
use Rattle.h1_client.specs.ClientMeaning.{request_of}
use Rattle.h1_connection.specs.State.{Stands}
use Rattle.model_proxy.specs.Edge.{Edge}
use Rattle.model_proxy.specs.Judged.{is_refused}
use Rattle.model_proxy.specs.Targets.{is_servable}
use Rattle.model_proxy.specs.Forward.{is_forwardable}
use Rattle.model_proxy.specs.Past.{ProxyStep}
use Rattle.model_proxy.specs.Carried.{nothing}
use Rattle.model_proxy.specs.Parts.{goes_on}
use Rattle.model_proxy.proofs.OnLinks.{over}
use Rattle.model_proxy.proofs.Served.{IsServed as ServesSoFar, served_silent, served_closed}
use Rattle.model_proxy.proofs.ServedOpened.{Opens as WaitsFor, served_opened, served_told, served_refusal, served_unforwardable}
use Rattle.proxy.specs.declared.proxy.Proxy.{Proxy}
use Rattle.proxy.specs.declared.proxy.ProxyConfig.{ProxyConfig}
use Rattle.proxy.specs.declared.proxy.Unsent.{Unsent}
use Rattle.proxy.specs.declared.proxy.SentRequest.{SentRequest}
use Rattle.proxy_heads.specs.declared.refusal.Refusal.TheVariants.{BadHead}
use Rattle.proxy.specs.Kept.{under_way_of, IsUnsent, HoldsNoRequest}
use Rattle.proxy.specs.Replies.{nothing_put, opened, told_to_go_on, refused_head, not_forwardable, own, refusal_part, AreBehindHead, IsOpened, IsHeadRefused, CannotBeSent, IsDropped, HasPut, KeepsUnsent, KeepsServer, KeepsIdle}
use Rattle.proxy.proofs.ForwardState.{edge, theirs, ours, kept_in, FitsStage, Now, Holds, serving, as_parts, at_stage, idle_now, waits_now, puts_to, may_to, leaves_to, leaves_settings}

-- ---- a request that can be sent on can be asked of a server

framed : (size : BodySize) → can_be_framed 1 (asked_shape size) ≡ true
framed size_none = refl
framed size_stream = refl
framed (sized n) = by_zero (n == 0)
  where
    by_zero : (t : Bool) → can_be_framed 1 (if t then shape_none else shape_length n) ≡ true
    by_zero true = refl
    by_zero false = refl

-- it is no CONNECT
not_connect : (refused connect rest : Bool) → (not refused && (not connect && rest)) ≡ true → not connect ≡ true
not_connect false false rest is = refl
not_connect false true rest is = absurd (false≢true is)
not_connect true connect rest is = absurd (false≢true is)

four : (a b c d : Bool) → a ≡ true → b ≡ true → c ≡ true → d ≡ true → (a && b && c && d) ≡ true
four a b c d is also and last = ap₂ (λ (x y : Bool). x && y && c && d) is also ∙ ap₂ (λ (x y : Bool). true && true && x && y) and last

can_be : (e : Edge) (h : Head) (q : ClientRequest) (size : BodySize) → q.head.minor ≡ 1 → q.head.method ≡ h.method → is_forwardable e h ≡ true → can_be_sent q size ≡ true
can_be e h q size minor method may =
    four (nat_le q.head.minor 1) (not (bytes_eq q.head.method (codes "CONNECT"))) (can_be_framed q.head.minor (asked_shape size)) (not (lacks_length q size))
    (ap (λ (m : ℕ). nat_le m 1) minor)
    (ap (λ (name : List ℕ). not (bytes_eq name (codes "CONNECT"))) method
    ∙ not_connect (is_refused e h) (bytes_eq h.method (codes "CONNECT")) (not (is_raw_kind h.body) && is_servable h.method h.target) may)
    (ap (λ (m : ℕ). can_be_framed m (asked_shape size)) minor ∙ framed size)
    (ap (λ (m : ℕ). not ((m == 0) && bytes_eq q.head.method (codes "POST") && not (states_length size))) minor)

unsent_can : (e : Edge) (h : Head) (u : Unsent) → is_forwardable e h ≡ true → IsUnsent e u h → can_be_sent (request_of u.head) (size_of u.size) ≡ true
unsent_can e h u may is = can_be e h (request_of u.head) (size_of u.size) is.minor is.method may

waits_for : (e : Edge) (h : Head) (u : Unsent) → is_forwardable e h ≡ true → IsUnsent e u h
    → WaitsFor e (request_of u.head) (size_of u.size) u.sent.is_whole u.sent.is_broken h
waits_for e h u may is = record { may = may; method = is.method; is_whole = is.whole; unbroken = is.unbroken; sized = is.sized; text = is.text }

-- it is the one that waits
same_unsent : (e : Edge) (h : Head) (o : Option Unsent) (u v : Unsent) → o ≡ Some u → o ≡ Some v → IsUnsent e v h → IsUnsent e u h
same_unsent e h o u v here there is =
    let both : Some v ≡ Some u = sym there ∙ here in
    let same : v ≡ u = cc in
    subst (λ (w : Unsent). IsUnsent e w h) same is

not_none : (o : Option Unsent) (u : Unsent) → o ≡ None → o ≡ Some u → ⊥
not_none o u none is = let no : ◌≡◌ {A = Option Unsent} None (Some u) = sym none ∙ is in cc no

-- ---- turn by turn

module _ (s : ProxyStep) (history : List ProxyStep) (p q : Proxy) (h : Holds (s ∷ history) p) (idle : HoldsNoRequest p) (keeps : KeepsIdle p q) where
  abbrev c : ProxyConfig
  c = p.config

  abbrev was : Option ClientKept
  was = kept_in p.server

  client_at : p.client.settings ≡ c.connections
  client_at = h.forwards.client

  at_over : h.now.stage ≡ over
  at_over = subst₂ (λ (u : Option Unsent) (o : Option SentRequest). FitsStage u o h.now.stage) idle.unsent idle.sent h.now.fits

  served : ServesSoFar (edge c) (theirs c) (ours c) (record { client = p.client.kept; server = was; under_way = nothing }) over (s ∷ history)
  served =
      at_stage c (s ∷ history) (record { client = p.client.kept; server = was; under_way = nothing }) h.now.stage over at_over
      (as_parts c (s ∷ history) p h.now.stage was nothing refl (ap₂ under_way_of idle.unsent idle.sent) h.now.served)

  closed : ServesSoFar (edge c) (theirs c) (ours c) (record { client = p.client.kept; server = None; under_way = nothing }) over (s ∷ history)
  closed = served_closed (edge c) (theirs c) (ours c) refl s history over p.client.kept was served

  -- the server connection that there is behind the turn, closed before it or not
  record Server : Type 0 where
    server : Option ClientKept
    there : kept_in q.server ≡ server
    so_far : ServesSoFar (edge c) (theirs c) (ours c) (record { client = p.client.kept; server = server; under_way = nothing }) over (s ∷ history)

  server_now : Server
  server_now = by_case (keeps idle).1
    where
      gone : q.server ≡ None → Server
      gone none = record { server = None; there = ap kept_in none; so_far = closed }

      by_case : KeepsServer p q → Server
      by_case (inl same) = record { server = was; there = ap kept_in same; so_far = served }
      by_case (inr (inl x)) = gone x.0
      by_case (inr (inr x)) = gone x.0

  -- nothing is put
  pub idle_still : HasPut nothing_put p q → KeepsUnsent nothing_put p q → Now c (s ∷ history) q
  idle_still puts same =
      let y = server_now in
      idle_now c (s ∷ history) q (same ∙ idle.unsent) (keeps idle).0 y.server y.there
      (served_silent (edge c) (theirs c) (ours c) refl s history over (record { client = p.client.kept; server = y.server; under_way = nothing }) q.client.kept
      (puts_to c.connections (λ ps. ps ≡ []) p.client q.client client_at puts) y.so_far)

  -- ---- a head is handed out

  -- what happened so far on the client's connection
  trace : List Step
  trace = (serving (s ∷ history) p h.all h.forwards h.wanted).told.0

  stands : Stands p.client trace
  unfolding trace
  stands = (serving (s ∷ history) p h.all h.forwards h.wanted).told.1

  -- its request waits
  pub idle_opens : HasPut opened p q → Now c (s ∷ history) q
  idle_opens puts = by_unsent q.unsent refl
    where
      by_unsent : (o : Option Unsent) → q.unsent ≡ o → Now c (s ∷ history) q
      by_unsent None none = let x = (puts.1 trace stands).2 in absurd (not_none q.unsent x.1.1 none x.1.2)
      by_unsent (Some u) here =
          let y = server_now in
          let x = (puts.1 trace stands).2 in
          waits_now c (s ∷ history) q u here
          (unsent_can (edge c) x.0 u x.1.0 (same_unsent (edge c) x.0 q.unsent u x.1.1 here x.1.2 x.1.3)) y.server y.there
          (served_opened (edge c) (theirs c) (ours c) refl s history over (request_of u.head) (size_of u.size) u.sent.is_whole u.sent.is_broken y.server p.client.kept q.client.kept
          (λ before stood.
          let more = puts_to c.connections (AreBehindHead (IsOpened (edge c) q) []) p.client q.client client_at puts before stood in
          let z = more.2 in
          (more.0, more.1, (z.0, waits_for (edge c) z.0 u z.1.0 (same_unsent (edge c) z.0 q.unsent u z.1.1 here z.1.2 z.1.3), z.2))) y.so_far)

  -- and its client is told to go on
  pub idle_tells : HasPut told_to_go_on p q → Now c (s ∷ history) q
  idle_tells puts = by_unsent q.unsent refl
    where
      by_unsent : (o : Option Unsent) → q.unsent ≡ o → Now c (s ∷ history) q
      by_unsent None none = let x = (puts.1 trace stands).2 in absurd (not_none q.unsent x.1.0.1 none x.1.0.2)
      by_unsent (Some u) here =
          let y = server_now in
          let x = (puts.1 trace stands).2 in
          waits_now c (s ∷ history) q u here
          (unsent_can (edge c) x.0 u x.1.0.0 (same_unsent (edge c) x.0 q.unsent u x.1.0.1 here x.1.0.2 x.1.0.3)) y.server y.there
          (served_told (edge c) (theirs c) (ours c) refl s history over (request_of u.head) (size_of u.size) u.sent.is_whole u.sent.is_broken y.server p.client.kept q.client.kept
          (λ before stood.
          let more = puts_to c.connections (AreBehindHead (λ (g : Head). IsOpened (edge c) q g × ((g.minor == 0) ≡ false)) (goes_on ∷ [])) p.client q.client client_at puts
          before stood in
          let z = more.2 in (
            more.0,
            more.1,
            (z.0, waits_for (edge c) z.0 u z.1.0.0 (same_unsent (edge c) z.0 q.unsent u z.1.0.1 here z.1.0.2 z.1.0.3), z.1.1, z.2),
          )) y.so_far)

  -- it gets 400, and the connection closes
  pub idle_refuses : HasPut refused_head p q → IsDropped q → Now c (s ∷ history) q
  idle_refuses puts gone =
      let mid_at = puts.first.0 ∙ client_at in
      let there_at = leaves_settings puts.mid puts.there puts.leaves ∙ mid_at in
      idle_now c (s ∷ history) q gone.unsent gone.sent None (ap kept_in gone.server)
      (served_refusal (edge c) (theirs c) (ours c) refl s history over was p.client.kept puts.mid.kept puts.there.kept q.client.kept
      (puts_to c.connections (AreBehindHead (IsHeadRefused (edge c)) []) p.client puts.mid client_at puts.first)
      (leaves_to c.connections puts.mid puts.there mid_at puts.leaves) (may_to c.connections (refusal_part BadHead) puts.there q.client there_at puts.last) served)

  -- or 501
  pub idle_declines : HasPut not_forwardable p q → IsDropped q → Now c (s ∷ history) q
  idle_declines puts gone =
      let mid_at = puts.first.0 ∙ client_at in
      let there_at = leaves_settings puts.mid puts.there puts.leaves ∙ mid_at in
      idle_now c (s ∷ history) q gone.unsent gone.sent None (ap kept_in gone.server)
      (served_unforwardable (edge c) (theirs c) (ours c) refl s history over was p.client.kept puts.mid.kept puts.there.kept q.client.kept
      (puts_to c.connections (AreBehindHead (CannotBeSent (edge c)) []) p.client puts.mid client_at puts.first)
      (leaves_to c.connections puts.mid puts.there mid_at puts.leaves) (may_to c.connections (own 501) puts.there q.client there_at puts.last) served)
