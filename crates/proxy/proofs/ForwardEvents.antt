-- A forwarder that holds so far does so behind each event, before the turns that follow it.
use Rattle.std.proofs.Common.{◌≡◌, ◌⊎◌, inl, inr, ℕ, ◌≤◌, Bool, true, false, not, ◌&&◌, List, [], ◌∷◌, ◌++◌, length, take, append-nil, arith, Option, Some, None, refl, sym, ap, ap₂, ◌∙◌, subst, subst₂}
use Rattle.std.specs.Prelude.{◌-◌, IsTrue, min, if◌then◌else◌, is_some, is_none}
use Rattle.std.proofs.lemmas.Bool.{false≢true, cond-true, cond-false}
use Rattle.http_config.specs.Config.{Settings}
use Rattle.model_h1.specs.Answer.{size_of as sized}
use Rattle.model_h1.specs.Event as on
use Rattle.model_h1.specs.Sums as sums
use Rattle.model_state.specs.Kept.{Kept}
use Rattle.model_state.specs.StandsFor.{StandsFor}
use Rattle.h1_encoder.specs.Meaning.{size_of}
use Rattle.h1_connection.specs.EventMeaning.{setting_of}
use Rattle.h1_connection.specs.State.{State}
use Rattle.h1_connection.specs.Ticks.{expiry_of}
use Rattle.h1_connection.specs.declared.connection.ticks.Expiry.{Expiry}
use Rattle.h1_connection.specs.declared.connection.ticks.Expiry.TheVariants as expiry
use Rattle.model_client.specs.ClientEvent as asked
use Rattle.model_client.specs.ClientKept.{ClientKept, client_closing, client_allows}
use Rattle.model_client.specs.ClientStep.{ClientChange, IsClientStep}
use Rattle.model_client.specs.ClientTrace.{Happened, IsClientTrace}
use Rattle.model_client.proofs.Ended.{trace_ended}
use Rattle.h1_client.specs.ClientMeaning as asking
use Rattle.h1_client.specs.ClientMeaning.{request_of}
use Rattle.h1_client.specs.State as servers
use Rattle.model_proxy.specs.Answers.{own_head}
use Rattle.model_proxy.specs.Past as past
use Rattle.model_proxy.specs.Past.{ProxyStep, ProxyEvent, ProxyOutcome, Server, changed_by}
use Rattle.model_proxy.specs.Forwarding.{IsTold, IsFirstOf}
use Rattle.model_proxy.specs.Happenings.{Happenings}
use Rattle.model_proxy.specs.Carried.{UnderWay, nothing, waits, ForwarderKept}
use Rattle.model_proxy.specs.Moves.{Does, DoesAsked}
use Rattle.model_proxy.proofs.Quiet.{BringsNothing, done_brings_nothing}
use Rattle.model_proxy.proofs.Events.{SaysNoBytes, LeavesServers, AddsNoText, ChangesServer, client_leaves, client_eof_leaves, to_client_leaves, tick_leaves, server_none_leaves, read_changes, eof_changes, write_changes, read_adds, eof_adds, write_adds}
use Rattle.model_proxy.proofs.AskedSince.{same_end}
use Rattle.model_proxy.proofs.OnLinks.{over}
use Rattle.model_proxy.proofs.LinkSteps.{one_trace, IsLittle}
use Rattle.model_proxy.proofs.SilentSteps.{IsSilent}
use Rattle.model_proxy.proofs.Halves.{waiting_in}
use Rattle.model_proxy.proofs.Serves.{serves_client, serves_nothing, serves_connected, serves_written, serves_came}
use Rattle.model_proxy.proofs.Served.{IsServed as ServesSoFar, has_link, silent_as, left_as}
use Rattle.model_proxy.proofs.ServedFailures.{Owes, own_put}
use Rattle.model_proxy.proofs.ServedFirst.{served_refused}
use Rattle.proxy.specs.declared.proxy.Proxy.{Proxy}
use Rattle.proxy.specs.declared.proxy.ProxyConfig.{ProxyConfig}
use Rattle.proxy.specs.declared.proxy.Unsent.{Unsent}
use Rattle.proxy.specs.declared.proxy.SentRequest.{SentRequest}
use Rattle.proxy.specs.Kept.{under_way_of, kept_of, Forwards, HoldsNoRequest, history_by, GoesBy, StepsBy, client_takes, is_closing, wants_server}
use Rattle.proxy.specs.Served.{GoesOnServing}
use Rattle.proxy.specs.Replies.{own, PutsLast, ClientAdds, ServerAdds, AddsTo, PutsNothing}
use Rattle.proxy.specs.Runs.{MayCome}
use Rattle.proxy.proofs.EventMoves.{three_parts, some_unsent}
use Rattle.proxy.proofs.EventReplies.{no_server_of}
use Rattle.proxy.proofs.ForwardState.{edge, theirs, ours, kept_in, CanBeAsked, FitsStage, Now, Holds, serving, as_parts, from_parts, at_stage, idle_now, has_settings, puts_to, may_to, leaves_to, leaves_settings}

-- ---- what is kept

-- behind an event, of the same request, by this server connection
now_by : (config : ProxyConfig) (history next : List ProxyStep) (p mid : Proxy) (now : Now config history p) (server : Option ClientKept) → mid.unsent ≡ p.unsent → mid.sent ≡ p.sent
    → kept_in mid.server ≡ server
    → ServesSoFar (edge config) (theirs config) (ours config) (record { client = mid.client.kept; server = server; under_way = under_way_of p.unsent p.sent }) now.stage next
    → Now config next mid
now_by config history next p mid now server unsent sent there x = record {
  asked = subst CanBeAsked (sym unsent) now.asked;
  stage = now.stage;
  fits = subst₂ (λ (u : Option Unsent) (o : Option SentRequest). FitsStage u o now.stage) (sym unsent) (sym sent) now.fits;
  served = from_parts config next mid now.stage server (under_way_of p.unsent p.sent) there (ap₂ under_way_of unsent sent) x;
}

holds_by : (next : List ProxyStep) (p mid : Proxy) (history : List ProxyStep) → Holds history p → GoesOnServing p mid → mid.config ≡ p.config → (all : Happenings)
    → Forwards mid next all → Now p.config next mid → Holds next mid
holds_by next p mid history h serves same all f now = record {
  all = all;
  forwards = f;
  wanted = (serves (serving history p h.all h.forwards h.wanted)).served;
  now = subst (λ (c : ProxyConfig). Now c next mid) (sym same) now;
}

does_to : (settings : Settings) (event : on.Event) (o : on.Outcome) (a b : State) → a.settings ≡ settings → b.settings ≡ settings → ClientAdds event o a b
    → Does (setting_of settings) event o a.kept b.kept
does_to settings event o a b old new adds = λ trace stands.
    subst (λ (c : Settings). StandsFor (setting_of c) b.kept (record { event = event; outcome = o } ∷ trace)) new
    (adds trace (subst (λ (c : Settings). StandsFor (setting_of c) a.kept trace) (sym old) stands))

asked_to : (settings : Settings) (event : asked.ClientEvent) (o : asked.ClientOutcome) (a b : servers.State) → a.settings ≡ settings → b.settings ≡ settings
    → ServerAdds event o a b → DoesAsked (asking.setting_of settings) event o a.kept b.kept
asked_to settings event o a b old new adds = λ trace ran.
    subst (λ (c : Settings). IsClientTrace (asking.setting_of c) (record { event = event; outcome = o } ∷ trace) b.kept) new
    (adds trace (subst (λ (c : Settings). IsClientTrace (asking.setting_of c) trace a.kept) (sym old) ran))

-- ---- what a server's connection did

-- its input goes on where more of it, or its end, is taken
goes_by : (over moment closing running : Bool) → (not over && moment && (if closing then false else running)) ≡ true → running ≡ true
goes_by false true false true is = refl
goes_by false true false false is = absurd (false≢true is)
goes_by false true true running is = absurd (false≢true is)
goes_by false false closing running is = absurd (false≢true is)
goes_by true moment closing running is = absurd (false≢true is)

not_ended : (t : Bool) → not t ≡ true → t ≡ false
not_ended false is = refl
not_ended true is = absurd (false≢true is)

reads_on : (settings : Settings) (bytes : List ℕ) (k : ClientKept) → client_allows (asking.setting_of settings) k (asked.read bytes) ≡ true → k.has_ended ≡ false
reads_on settings bytes k may = not_ended k.has_ended (goes_by k.is_over true (is_some (client_closing k)) (not k.has_ended) may)

ends_on : (settings : Settings) (k : ClientKept) → client_allows (asking.setting_of settings) k asked.eof ≡ true → k.has_ended ≡ false
ends_on settings k may = not_ended k.has_ended (goes_by k.is_over true (is_some (client_closing k)) (not k.has_ended) may)

-- the step that it made of what is kept
record Made (settings : Settings) (event : asked.ClientEvent) (o : asked.ClientOutcome) (a b : ClientKept) : Type 0 where
  may : client_allows (asking.setting_of settings) a event ≡ true
  step : IsClientStep (asking.setting_of settings) a event o b

made : (settings : Settings) (event : asked.ClientEvent) (o : asked.ClientOutcome) (a b : ClientKept) (trace : List Happened)
    → IsClientTrace (asking.setting_of settings) trace a → IsClientTrace (asking.setting_of settings) (record { event = event; outcome = o } ∷ trace) b
    → Made settings event o a b
made settings event o a b trace ran (k, before, may, step) =
    let same = one_trace (asking.setting_of settings) trace k a before ran in
    record {
      may = subst (λ (m : ClientKept). client_allows (asking.setting_of settings) m event ≡ true) same may;
      step = subst (λ (m : ClientKept). IsClientStep (asking.setting_of settings) m event o b) same step;
    }

abbrev count_of : asked.ClientOutcome → ℕ
count_of (asked.took n) = n
count_of o = 0

abbrev given_of : asked.ClientOutcome → List ℕ
given_of (asked.gave bytes) = bytes
given_of o = []

no_more : (bytes : List ℕ) (n : ℕ) (settings : Settings) (a b : ClientKept) → IsClientStep (asking.setting_of settings) a (asked.read bytes) (asked.took n) b → n ≤ length bytes
no_more bytes n settings a b step =
    let is : n ≡ min (length bytes) (settings.h1_hold_size - length a.unread) = ap count_of (step.answers ∙ ap (λ (c : ClientChange). c.outcome) step.changes) in
    omega (arith, is)

-- ---- the client's side

took_brings : (n : ℕ) → BringsNothing (on.took n)
took_brings n = record { head = refl; more = λ p. refl }

gave_brings : (bytes : List ℕ) → BringsNothing (on.gave bytes)
gave_brings bytes = record { head = refl; more = λ p. refl }

ran_out_brings : (e : Expiry) → BringsNothing (expiry_of e)
ran_out_brings expiry.None = done_brings_nothing
ran_out_brings (expiry.Expired end) = record { head = refl; more = λ p. refl }
ran_out_brings expiry.Abandoned = record { head = refl; more = λ p. refl }

-- ---- event by event

module _ (history : List ProxyStep) (p mid : Proxy) (h : Holds history p) where
  abbrev c : ProxyConfig
  c = p.config

  abbrev was : Option ClientKept
  was = kept_in p.server

  abbrev under : UnderWay
  under = under_way_of p.unsent p.sent

  abbrev So : ForwarderKept → List ProxyStep → Type 0
  So k next = ServesSoFar (edge c) (theirs c) (ours c) k h.now.stage next

  client_at : p.client.settings ≡ c.connections
  client_at = h.forwards.client

  -- the settings of the client's connection stay
  mid_at : (next : List ProxyStep) (all : Happenings) → mid.config ≡ c → Forwards mid next all → mid.client.settings ≡ c.connections
  mid_at next all same f = f.client ∙ ap (λ (d : ProxyConfig). d.connections) same

  -- this happened on the client's connection
  client_event : (e : on.Event) (o : on.Outcome) (event : ProxyEvent) (outcome : ProxyOutcome) → BringsNothing o
      → sums.step_taken e o ≡ past.client_bytes event outcome → sums.step_written o ≡ past.client_written event outcome → sums.tick_of e ≡ past.tick_of event
      → sums.is_eof e ≡ past.is_client_end event → past.is_refusal event ≡ false → LeavesServers event outcome → IsSilent (record { event = e; outcome = o })
      → IsTold event outcome (record { event = e; outcome = o } ∷ []) → IsFirstOf event outcome (waiting_in was) → mid.client.settings ≡ c.connections
      → ClientAdds e o p.client mid.client
      → So (record { client = mid.client.kept; server = was; under_way = under }) (record { event = event; outcome = outcome } ∷ history)
  client_event e o event outcome none takes gives moment ends not_refused leaves silent told first at adds =
      let x = h.now.served in (
        record x.0 { client = record { event = e; outcome = o } ∷ x.0.client },
        x.1,
        serves_client (edge c) (theirs c) (ours c) refl h.now.stage e o event outcome (kept_of p) mid.client.kept none takes gives moment ends not_refused leaves
            (does_to c.connections e o p.client mid.client client_at at adds) silent told history x.0 x.1 first x.2,
      )

  -- nothing did
  nothing_event : (event : ProxyEvent) (outcome : ProxyOutcome) → SaysNoBytes event outcome → past.is_refusal event ≡ false → LeavesServers event outcome
      → IsTold event outcome [] → IsFirstOf event outcome (waiting_in was) → So (kept_of p) (record { event = event; outcome = outcome } ∷ history)
  nothing_event event outcome says not_refused leaves told first =
      let x = h.now.served in
      (x.0, x.1, serves_nothing (edge c) (theirs c) (ours c) refl h.now.stage event outcome (kept_of p) says not_refused leaves told history x.0 x.1 first x.2)

  -- with the same client's connection
  same_client : (next : List ProxyStep) → mid.client ≡ p.client → So (kept_of p) next → So (record { client = mid.client.kept; server = was; under_way = under }) next
  same_client next same x =
      subst (λ (k : Kept). So (record { client = k; server = was; under_way = under }) next) (sym (ap (λ (s : State). s.kept) same)) x

  -- behind what the client's side did
  client_now : (next : List ProxyStep) → mid.server ≡ p.server → mid.unsent ≡ p.unsent → mid.sent ≡ p.sent
      → So (record { client = mid.client.kept; server = was; under_way = under }) next → Now c next mid
  client_now next server unsent sent x = now_by c history next p mid h.now was unsent sent (ap kept_in server) x

  -- this happened on the server connection, of which bytes came, or the end of its input
  came_event : (e : asked.ClientEvent) (o : asked.ClientOutcome) (event : ProxyEvent) (outcome : ProxyOutcome) (more : List ℕ) (a b : servers.State)
      → IsLittle (record { event = e; outcome = o }) → AddsNoText e → SaysNoBytes event outcome → past.is_refusal event ≡ false → ChangesServer e o event outcome
      → ((v : Server) → (changed_by event outcome v).came ≡ v.came ++ more)
      → ((k m : ClientKept) → Made c.connections e o k m → IsTold event outcome [] × (k.has_ended ≡ false))
      → IsFirstOf event outcome (Some a.kept.buffered) → p.server ≡ Some a → b.settings ≡ c.connections → ServerAdds e o a b
      → So (record { client = p.client.kept; server = Some b.kept; under_way = under }) (record { event = event; outcome = outcome } ∷ history)
  came_event e o event outcome more a b little adds_none says not_refused changes came told first there at adds =
      let settings = has_settings c.connections p.server a there h.forwards.server in
      let x = as_parts c history p h.now.stage (Some a.kept) under (ap kept_in there) refl h.now.served in
      let link = has_link (ours c) a.kept x.0.links x.2.tells.carries.server in
      let does = asked_to c.connections e o a b settings at adds in
      let m = made c.connections e o a.kept b.kept link.newest.happened link.ran (does link.newest.happened link.ran) in
      let y = told a.kept b.kept m in (
        _,
        x.1,
        serves_came (edge c) (theirs c) (ours c) refl h.now.stage e o event outcome more (record { client = p.client.kept; server = Some a.kept; under_way = under }) a.kept b.kept
            little adds_none says not_refused changes does came y.0 first history x.0 link.newest link.older x.1 link.are
            (same_end link.newest.happened ∙ trace_ended (ours c) link.newest.happened a.kept link.ran ∙ y.1) link.ran x.2,
      )

  -- behind what the server's side did
  server_now : (next : List ProxyStep) (b : servers.State) → mid.client ≡ p.client → mid.server ≡ Some b → mid.unsent ≡ p.unsent → mid.sent ≡ p.sent
      → So (record { client = p.client.kept; server = Some b.kept; under_way = under }) next → Now c next mid
  server_now next b client server unsent sent x =
      now_by c history next p mid h.now (Some b.kept) unsent sent (ap kept_in server)
      (subst (λ (k : Kept). So (record { client = k; server = Some b.kept; under_way = under }) next) (sym (ap (λ (s : State). s.kept) client)) x)

-- ---- each event

take_none : (bytes : List ℕ) → take 0 bytes ≡ []
take_none [] = refl
take_none (b ∷ bytes) = refl

module _ (history : List ProxyStep) (p mid : Proxy) (h : Holds history p) (serves : GoesOnServing p mid) where
  abbrev at_now : (by : ProxyEvent) (outcome : ProxyOutcome) → Type 0
  at_now by outcome = Now p.config (record { event = by; outcome = outcome } ∷ history) mid

  -- behind a step
  stepped : (by : ProxyEvent) (outcome : ProxyOutcome) → StepsBy by outcome p mid
      → ((mid.client.settings ≡ p.config.connections) → at_now by outcome) → Holds (record { event = by; outcome = outcome } ∷ history) mid
  stepped by outcome goes now =
      let next : List ProxyStep = record { event = by; outcome = outcome } ∷ history in
      let moved = goes.1 history h.all h.forwards in
      holds_by next p mid history h serves goes.0 moved.0 moved.1 (now (mid_at history p mid h next moved.0 goes.0 moved.1))

  read_client : (bytes : List ℕ) (n : ℕ) → StepsBy (past.client bytes) (past.took n) p mid → PutsNothing (past.client bytes) (past.took n) p mid
      → Holds (record { event = past.client bytes; outcome = past.took n } ∷ history) mid
  read_client bytes n goes ev = stepped (past.client bytes) (past.took n) goes (λ at. by_case at ev.client)
    where
      next : List ProxyStep
      next = record { event = past.client bytes; outcome = past.took n } ∷ history

      by_case : mid.client.settings ≡ p.config.connections → ((n ≡ 0) × (mid.client ≡ p.client)) ⊎ ClientAdds (on.read bytes) (on.took n) p.client mid.client
          → Now p.config next mid
      by_case at (inl (none, same)) =
          client_now history p mid h next ev.server ev.unsent ev.sent
          (same_client history p mid h next same
          (subst (λ (m : ℕ). So history p mid h (kept_of p) (record { event = past.client bytes; outcome = past.took m } ∷ history)) (sym none)
          (nothing_event history p mid h (past.client bytes) (past.took 0) (record { taken = take_none bytes; written = refl; moment = refl; going = refl }) refl
          (client_leaves bytes (past.took 0)) (inl refl) tt)))
      by_case at (inr adds) =
          client_now history p mid h next ev.server ev.unsent ev.sent
          (client_event history p mid h (on.read bytes) (on.took n) (past.client bytes) (past.took n) (took_brings n) refl refl refl refl refl (client_leaves bytes (past.took n))
          (record { event = refl; headless = refl }) (inr ([], record { event = on.read bytes; outcome = on.took n }, refl, (refl, refl))) tt at adds)

  write_client : (n : ℕ) (bytes : List ℕ) → StepsBy (past.to_client n) (past.gave bytes) p mid → PutsNothing (past.to_client n) (past.gave bytes) p mid
      → Holds (record { event = past.to_client n; outcome = past.gave bytes } ∷ history) mid
  write_client n bytes goes ev =
      stepped (past.to_client n) (past.gave bytes) goes (λ at.
      client_now history p mid h (record { event = past.to_client n; outcome = past.gave bytes } ∷ history) ev.server ev.unsent ev.sent
      (client_event history p mid h (on.write n) (on.gave bytes) (past.to_client n) (past.gave bytes) (gave_brings bytes) refl refl refl refl refl
      (to_client_leaves n (past.gave bytes)) (record { event = refl; headless = refl }) ([], record { event = on.write n; outcome = on.gave bytes }, refl, (refl, refl)) tt at ev.client))

  tick_client : (ms : ℕ) → StepsBy (past.tick ms) past.done p mid → PutsNothing (past.tick ms) past.done p mid
      → Holds (record { event = past.tick ms; outcome = past.done } ∷ history) mid
  tick_client ms goes ev = stepped (past.tick ms) past.done goes (λ at. by_expiry at ev.client.0 ev.client.1)
    where
      next : List ProxyStep
      next = record { event = past.tick ms; outcome = past.done } ∷ history

      by_expiry : mid.client.settings ≡ p.config.connections → (e : Expiry) → ClientAdds (on.tick ms) (expiry_of e) p.client mid.client → Now p.config next mid
      by_expiry at expiry.None adds =
          client_now history p mid h next ev.server ev.unsent ev.sent
          (client_event history p mid h (on.tick ms) on.done (past.tick ms) past.done (ran_out_brings expiry.None) refl refl refl refl refl (tick_leaves ms past.done)
          (record { event = refl; headless = refl }) ([], record { event = on.tick ms; outcome = on.done }, refl, refl) tt at adds)
      by_expiry at (expiry.Expired end) adds =
          client_now history p mid h next ev.server ev.unsent ev.sent
          (client_event history p mid h (on.tick ms) (expiry_of (expiry.Expired end)) (past.tick ms) past.done (ran_out_brings (expiry.Expired end)) refl refl refl refl refl
          (tick_leaves ms past.done) (record { event = refl; headless = refl })
          ([], record { event = on.tick ms; outcome = expiry_of (expiry.Expired end) }, refl, refl) tt at adds)
      by_expiry at expiry.Abandoned adds =
          client_now history p mid h next ev.server ev.unsent ev.sent
          (client_event history p mid h (on.tick ms) on.abandoned (past.tick ms) past.done (ran_out_brings expiry.Abandoned) refl refl refl refl refl (tick_leaves ms past.done)
          (record { event = refl; headless = refl }) ([], record { event = on.tick ms; outcome = on.abandoned }, refl, refl) tt at adds)

  -- an end that isn't taken is no step
  end_client : GoesBy past.client_eof past.done p mid → PutsNothing past.client_eof past.done p mid
      → (history ≡ [] → client_takes p on.eof ≡ true) → Holds (history_by past.client_eof past.done p history) mid
  end_client goes ev some = by_case ev.client
    where
      taken : client_takes p on.eof ≡ true → (record { event = past.client_eof; outcome = past.done } ∷ history) ≡ history_by past.client_eof past.done p history
      taken may =
          sym (cond-true {A = List ProxyStep} (client_takes p on.eof) (record { event = past.client_eof; outcome = past.done } ∷ history) history may)

      kept : client_takes p on.eof ≡ false → history ≡ history_by past.client_eof past.done p history
      kept untaken = sym (cond-false {A = List ProxyStep} (client_takes p on.eof) (record { event = past.client_eof; outcome = past.done } ∷ history) history untaken)

      by_case : ((mid.client ≡ p.client) × (client_takes p on.eof ≡ false)) ⊎ ((client_takes p on.eof ≡ true) × ClientAdds on.eof on.done p.client mid.client)
          → Holds (history_by past.client_eof past.done p history) mid
      by_case (inl (same, untaken)) =
          let moved = goes.1 history h.all h.forwards in
          subst (λ (steps : List ProxyStep). Holds steps mid) (kept untaken)
          (holds_by history p mid history h serves goes.0 moved.0 (subst (λ (steps : List ProxyStep). Forwards mid steps moved.0) (sym (kept untaken)) moved.1)
          (client_now history p mid h history ev.server ev.unsent ev.sent (same_client history p mid h history same h.now.served)))
      by_case (inr (may, adds)) =
          let moved = goes.1 history h.all h.forwards in
          subst (λ (steps : List ProxyStep). Holds steps mid) (taken may)
          (stepped past.client_eof past.done (
            goes.0,
            λ steps all f.
                let y = goes.1 steps all f in (
                  y.0,
                  subst (λ (more : List ProxyStep). Forwards mid more y.0)
                      (cond-true {A = List ProxyStep} (client_takes p on.eof) (record { event = past.client_eof; outcome = past.done } ∷ steps) steps may) y.1,
                ),
          )
          (λ at.
          client_now history p mid h (record { event = past.client_eof; outcome = past.done } ∷ history) ev.server ev.unsent ev.sent
          (client_event history p mid h on.eof on.done past.client_eof past.done done_brings_nothing refl refl refl refl refl (client_eof_leaves past.done)
          (record { event = refl; headless = refl }) ([], record { event = on.eof; outcome = on.done }, refl, refl) tt at adds)))

  -- ---- on the server's side

  server_at_settings : (b : servers.State) → mid.server ≡ Some b → (next : List ProxyStep) (all : Happenings) → mid.config ≡ p.config → Forwards mid next all
      → b.settings ≡ p.config.connections
  server_at_settings b there next all same f =
      has_settings mid.config.connections mid.server b there f.server ∙ ap (λ (d : ProxyConfig). d.connections) same

  -- behind a step of the server connection
  stepped_there : (by : ProxyEvent) (outcome : ProxyOutcome) (b : servers.State) → mid.server ≡ Some b → StepsBy by outcome p mid
      → ((b.settings ≡ p.config.connections) → at_now by outcome) → Holds (record { event = by; outcome = outcome } ∷ history) mid
  stepped_there by outcome b there goes now =
      let next : List ProxyStep = record { event = by; outcome = outcome } ∷ history in
      let moved = goes.1 history h.all h.forwards in
      holds_by next p mid history h serves goes.0 moved.0 moved.1 (now (server_at_settings b there next moved.0 goes.0 moved.1))

  read_server : (bytes : List ℕ) (n : ℕ) → StepsBy (past.server bytes) (past.took n) p mid → PutsNothing (past.server bytes) (past.took n) p mid
      → Holds (record { event = past.server bytes; outcome = past.took n } ∷ history) mid
  read_server bytes n goes ev = by_case ev.server
    where
      next : List ProxyStep
      next = record { event = past.server bytes; outcome = past.took n } ∷ history

      by_case : ((n ≡ 0) × (mid.server ≡ p.server)) ⊎ AddsTo (asked.read bytes) (asked.took n) p.server mid.server
          → Holds next mid
      by_case (inl (none, same)) =
          stepped (past.server bytes) (past.took n) goes (λ at.
          client_now history p mid h next same ev.unsent ev.sent
          (same_client history p mid h next ev.client
          (subst (λ (m : ℕ). So history p mid h (kept_of p) (record { event = past.server bytes; outcome = past.took m } ∷ history)) (sym none)
          (nothing_event history p mid h (past.server bytes) (past.took 0) (record { taken = refl; written = refl; moment = refl; going = refl }) refl
          (server_none_leaves bytes) (omega arith) tt))))
      by_case (inr (a, b, here, there, adds)) =
          stepped_there (past.server bytes) (past.took n) b there goes (λ at.
          server_now history p mid h next b ev.client there ev.unsent ev.sent
          (came_event history p mid h (asked.read bytes) (asked.took n) (past.server bytes) (past.took n) (take n bytes) a b
          (record { calm = refl; sound = refl; none = refl; little = tt }) (read_adds bytes) (record { taken = refl; written = refl; moment = refl; going = refl }) refl
          (read_changes bytes n) (λ v. refl)
          (λ k m it. (no_more bytes n p.config.connections k m it.step, reads_on p.config.connections bytes k it.may)) tt here at adds))

  end_server : StepsBy past.server_eof past.done p mid → PutsNothing past.server_eof past.done p mid
      → Holds (record { event = past.server_eof; outcome = past.done } ∷ history) mid
  end_server goes ev =
      let x = ev.server in
      stepped_there past.server_eof past.done x.1 x.3 goes (λ at.
      server_now history p mid h (record { event = past.server_eof; outcome = past.done } ∷ history) x.1 ev.client x.3 ev.unsent ev.sent
      (came_event history p mid h asked.eof asked.done past.server_eof past.done [] x.0 x.1
      (record { calm = refl; sound = refl; none = refl; little = tt }) eof_adds (record { taken = refl; written = refl; moment = refl; going = refl }) refl
      eof_changes (λ v. sym (append-nil v.came)) (λ k m it. (tt, ends_on p.config.connections k it.may)) tt x.2 at x.4))

  write_server : (n : ℕ) (bytes : List ℕ) → StepsBy (past.to_server n) (past.gave bytes) p mid → PutsNothing (past.to_server n) (past.gave bytes) p mid
      → Holds (record { event = past.to_server n; outcome = past.gave bytes } ∷ history) mid
  write_server n bytes goes ev =
      let x = ev.server in
      stepped_there (past.to_server n) (past.gave bytes) x.1 x.3 goes (λ at.
      server_now history p mid h (record { event = past.to_server n; outcome = past.gave bytes } ∷ history) x.1 ev.client x.3 ev.unsent ev.sent
      (by_link x.0 x.1 x.2 at x.4))
    where
      by_link : (a b : servers.State) → p.server ≡ Some a → b.settings ≡ p.config.connections → ServerAdds (asked.write n) (asked.gave bytes) a b
          → So history p mid h (record { client = p.client.kept; server = Some b.kept; under_way = under_way_of p.unsent p.sent })
          (record { event = past.to_server n; outcome = past.gave bytes } ∷ history)
      by_link a b there at adds =
          let settings = has_settings p.config.connections p.server a there h.forwards.server in
          let under = under_way_of p.unsent p.sent in
          let x = as_parts p.config history p h.now.stage (Some a.kept) under (ap kept_in there) refl h.now.served in
          let link = has_link (ours p.config) a.kept x.0.links x.2.tells.carries.server in
          let does = asked_to p.config.connections (asked.write n) (asked.gave bytes) a b settings at adds in
          let m = made p.config.connections (asked.write n) (asked.gave bytes) a.kept b.kept link.newest.happened link.ran (does link.newest.happened link.ran) in
          let first : bytes ≡ take n a.kept.buffered = ap given_of (m.step.answers ∙ ap (λ (c : ClientChange). c.outcome) m.step.changes) in (
            _,
            x.1,
            serves_written (edge p.config) (theirs p.config) (ours p.config) refl h.now.stage n bytes
                (record { client = p.client.kept; server = Some a.kept; under_way = under }) a.kept b.kept (write_adds n)
                (record { taken = refl; written = refl; moment = refl; going = refl }) (write_changes n bytes) does first history x.0 link.newest link.older x.1 link.are x.2,
          )

  -- one that is wanted is there
  connects : IsTrue (wants_server p) → StepsBy past.connected past.done p mid → PutsNothing past.connected past.done p mid
      → Holds (record { event = past.connected; outcome = past.done } ∷ history) mid
  connects wants goes ev =
      let two = three_parts (is_some p.unsent) (is_none p.server) (not (is_closing p)) wants in
      let w = some_unsent p.unsent two.0 in
      let u = w.0 in
      let is = ap (λ (o : Option Unsent). under_way_of o p.sent) w.1 in
      let none = no_server_of p wants in
      let next : List ProxyStep = record { event = past.connected; outcome = past.done } ∷ history in
      let fresh = servers.fresh_state p.config.connections in
      let x = as_parts p.config history p h.now.stage None (waits (request_of u.head) (size_of u.size) u.sent.is_whole u.sent.is_broken) (ap kept_in none) is
      h.now.served in
      stepped past.connected past.done goes (λ at.
      server_now history p mid h next fresh ev.client ev.server ev.unsent ev.sent
      (subst (λ (v : UnderWay). So history p mid h (record { client = p.client.kept; server = Some fresh.kept; under_way = v }) next) (sym is) (
        _,
        x.1,
        serves_connected (edge p.config) (theirs p.config) (ours p.config) refl h.now.stage (request_of u.head) (size_of u.size) u.sent.is_whole u.sent.is_broken
            p.client.kept history x.0 x.1 x.2,
      )))

  -- none is to be had
  pub refused_holds : IsTrue (wants_server p) → StepsBy past.refused past.done p mid → HoldsNoRequest mid → mid.server ≡ p.server → PutsLast [] (own 502) p.client mid.client
      → Holds (record { event = past.refused; outcome = past.done } ∷ history) mid
  refused_holds wants goes idle same puts =
      let two = three_parts (is_some p.unsent) (is_none p.server) (not (is_closing p)) wants in
      let w = some_unsent p.unsent two.0 in
      let u = w.0 in
      let is = ap (λ (o : Option Unsent). under_way_of o p.sent) w.1 in
      let none = no_server_of p wants in
      let s : ProxyStep = record { event = past.refused; outcome = past.done } in
      let e = edge p.config in
      let t = theirs p.config in
      let o = ours p.config in
      let begun = puts.first.0 ∙ h.forwards.client in
      let owes = Owes e t o refl s history (own_head 502) (sized 0) in
      let at_over = subst (λ (v : Option Unsent). FitsStage v p.sent h.now.stage) w.1 h.now.fits in
      let waiting : ForwarderKept =
      record { client = p.client.kept; server = None; under_way = waits (request_of u.head) (size_of u.size) u.sent.is_whole u.sent.is_broken } in
      let x0 =
      at_stage p.config history waiting h.now.stage over at_over
      (as_parts p.config history p h.now.stage None (waits (request_of u.head) (size_of u.size) u.sent.is_whole u.sent.is_broken) (ap kept_in none) is
      h.now.served) in
      let x1 = served_refused e t o refl over (request_of u.head) (size_of u.size) u.sent.is_whole u.sent.is_broken p.client.kept history x0 in
      let x2 = silent_as e t o refl s history over owes (record { client = p.client.kept; server = None; under_way = nothing }) puts.mid.kept
      (puts_to p.config.connections (λ ps. ps ≡ []) p.client puts.mid h.forwards.client puts.first) x1 in
      let x3 = left_as e t o refl s history over owes (record { client = puts.mid.kept; server = None; under_way = nothing }) puts.there.kept
      (leaves_to p.config.connections puts.mid puts.there begun puts.leaves) x2 in
      let x4 = own_put e t o refl s history over (own_head 502) (sized 0) puts.there.kept mid.client.kept
      (may_to p.config.connections (own 502) puts.there mid.client (leaves_settings puts.mid puts.there puts.leaves ∙ begun) puts.last) x3 in
      stepped past.refused past.done goes (λ at. idle_now p.config (s ∷ history) mid idle.unsent idle.sent None (ap kept_in (same ∙ none)) x4)

-- ---- any event

pub event_holds : (by : ProxyEvent) (outcome : ProxyOutcome) (history : List ProxyStep) (p mid : Proxy) → past.is_refusal by ≡ false → Holds history p → MayCome by p
    → (history ≡ [] → client_takes p on.eof ≡ true) → GoesBy by outcome p mid → GoesOnServing p mid → PutsNothing by outcome p mid
    → Holds (history_by by outcome p history) mid
event_holds (past.client bytes) (past.took n) history p mid other h may some goes serves ev = read_client history p mid h serves bytes n goes ev
event_holds past.client_eof past.done history p mid other h may some goes serves ev = end_client history p mid h serves goes ev some
event_holds (past.to_client n) (past.gave bytes) history p mid other h may some goes serves ev = write_client history p mid h serves n bytes goes ev
event_holds (past.tick ms) past.done history p mid other h may some goes serves ev = tick_client history p mid h serves ms goes ev
event_holds (past.server bytes) (past.took n) history p mid other h may some goes serves ev = read_server history p mid h serves bytes n goes ev
event_holds past.server_eof past.done history p mid other h may some goes serves ev = end_server history p mid h serves goes ev
event_holds (past.to_server n) (past.gave bytes) history p mid other h may some goes serves ev = write_server history p mid h serves n bytes goes ev
event_holds past.connected past.done history p mid other h may some goes serves ev = connects history p mid h serves may goes ev
event_holds past.refused outcome history p mid other h may some goes serves ev = absurd (false≢true (sym other))
event_holds by outcome history p mid other h may some goes serves ev = absurd ev.client
