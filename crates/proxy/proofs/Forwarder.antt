-- A forwarder, whatever events it was told.
use Rattle.std.proofs.Common.{◌≡◌, ℕ, Bool, true, false, List, [], ◌∷◌, Option, Some, None, refl, sym, ap, ap₂, ◌∙◌, subst, subst₂}
use Rattle.std.proofs.lemmas.Bool.{cond-true}
use Rattle.std.specs.Prelude.{◌<◌, if◌then◌else◌}
use Rattle.http_config.specs.Config.{Settings}
use Rattle.model_h1.specs.Event as on
use Rattle.model_state.specs.Kept.{fresh}
use Rattle.model_state.specs.Local.{closing_by, allowed_by}
use Rattle.model_state.specs.StandsFor.{StandsFor}
use Rattle.h1_connection.specs.EventMeaning.{setting_of}
use Rattle.h1_connection.specs.State.{State, fresh_state}
use Rattle.model_client.specs.ClientKept.{ClientKept}
use Rattle.h1_client.specs.State as servers
use Rattle.model_proxy.specs.Past.{ProxyStep, ProxyEvent, ProxyOutcome}
use Rattle.model_proxy.specs.Past as past
use Rattle.model_proxy.specs.Forwarding.{IsForwarding}
use Rattle.model_proxy.specs.Happenings.{nothing_happened}
use Rattle.model_proxy.specs.Carried.{UnderWay, nothing, IsUnderWay, Carries}
use Rattle.model_proxy.proofs.Halves.{waiting_in}
use Rattle.model_proxy.proofs.OnLinks.{over}
use Rattle.model_proxy.proofs.ServedFirst.{served_first}
use Rattle.proxy.specs.declared.proxy.Proxy.{Proxy}
use Rattle.proxy.specs.declared.proxy.ProxyConfig.{ProxyConfig}
use Rattle.proxy.specs.declared.proxy.Unsent.{Unsent}
use Rattle.proxy.specs.declared.proxy.SentRequest.{SentRequest}
use Rattle.proxy.specs.Kept.{under_way_of, Forwards, HoldsNoRequest, history_by, client_takes}
use Rattle.proxy.specs.Rests.{IsNoted}
use Rattle.proxy.specs.Served.{IsServed}
use Rattle.proxy.specs.Replies.{HasReplied, Replies}
use Rattle.proxy.specs.Runs.{MayCome, RepliesBy, Ran, at_first, behind, noted, waiting_of, IsUsable, IsAForwarder}
use Rattle.proxy.proofs.ForwardState.{edge, theirs, ours, kept_in, Holds, idle_now}
use Rattle.proxy.proofs.ForwardTurns.{same_config, turns_hold}
use Rattle.proxy.proofs.ForwardEvents.{event_holds, refused_holds}

-- ---- at first

-- where nothing was asked no request is under way
idle_first : (p : Proxy) → Forwards p [] nothing_happened → HoldsNoRequest p
idle_first p f = by_fields p.unsent p.sent refl refl
  where
    by_fields : (u : Option Unsent) (o : Option SentRequest) → p.unsent ≡ u → p.sent ≡ o → HoldsNoRequest p
    by_fields None None here there = record { unsent = here; sent = there }
    by_fields (Some u) o here there =
        absurd (subst (λ (w : Option Unsent). IsUnderWay (edge p.config) (under_way_of w p.sent) [] (kept_in p.server) []) here f.carries.under_way)
    by_fields None (Some s) here there = absurd (no_sent (kept_in p.server) under)
      where
        no_sent : (server : Option ClientKept) → IsUnderWay (edge p.config) (under_way_of None (Some s)) [] server [] → ⊥
        no_sent None x = x
        no_sent (Some k) x = x

        under : IsUnderWay (edge p.config) (under_way_of None (Some s)) [] (kept_in p.server) []
        under =
            subst₂ (λ (w : Option Unsent) (v : Option SentRequest). IsUnderWay (edge p.config) (under_way_of w v) [] (kept_in p.server) []) here there
            f.carries.under_way

holds_first : (p : Proxy) → p.server ≡ None → Forwards p [] nothing_happened → IsServed p → Holds [] p
holds_first p none f wanted =
    let idle = idle_first p f in
    let there : kept_in p.server ≡ None = ap kept_in none in
    record {
      all = nothing_happened;
      forwards = f;
      wanted = wanted;
      now = idle_now p.config [] p idle.unsent idle.sent None there
          (served_first (edge p.config) (theirs p.config) (ours p.config) p.client.kept over (carried p idle there f));
    }
  where
    carried : (p : Proxy) (idle : HoldsNoRequest p) → kept_in p.server ≡ None → (f : Forwards p [] nothing_happened)
        → Carries (edge p.config) (theirs p.config) (ours p.config) (record { client = p.client.kept; server = None; under_way = nothing }) [] nothing_happened
    carried p idle there f =
        subst₂ (λ (o : Option ClientKept) (u : UnderWay).
        Carries (edge p.config) (theirs p.config) (ours p.config) (record { client = p.client.kept; server = o; under_way = u }) [] nothing_happened) there
        (ap₂ under_way_of idle.unsent idle.sent) f.carries

-- ---- at any time

record Went (history : List ProxyStep) (p : Proxy) : Type 0 where
  holds : Holds history p
  first : history ≡ [] → p.client ≡ fresh_state p.config.connections

-- its connection takes the end of its input while nothing has happened
takes_at_first : (settings : Settings) → allowed_by (setting_of settings) fresh on.eof ≡ true
unfolding allowed_by closing_by
takes_at_first settings = refl

fresh_takes : (p : Proxy) → p.client ≡ fresh_state p.config.connections → client_takes p on.eof ≡ true
fresh_takes p is = ap (λ (s : State). allowed_by (setting_of s.settings) s.kept on.eof) is ∙ takes_at_first p.config.connections

not_empty : (s : ProxyStep) (history : List ProxyStep) → s ∷ history ≡ [] → ⊥
not_empty s history e = let none : s ∷ history ≡ [] = e in cc none

-- turns that follow an event
then_turns : (next : List ProxyStep) (p mid new : Proxy) → 0 < (ours p.config).write_buffer → (next ≡ [] → ⊥) → mid.config ≡ p.config → Holds next mid → HasReplied mid new
    → Went next new
then_turns [] p mid new room some same h turns = absurd (some refl)
then_turns (s ∷ history) p mid new room some same h turns = record {
  holds = turns_hold s history mid new (subst (λ (c : ProxyConfig). 0 < (ours c).write_buffer) (sym same) room) h turns;
  first = λ e. absurd (not_empty s history e);
}

-- behind an event something has happened
abbrev with_step : Bool → ProxyStep → List ProxyStep → List ProxyStep
with_step takes s history = if takes then s ∷ history else history

not_without : (takes : Bool) (s first : ProxyStep) (history : List ProxyStep) → with_step takes first (s ∷ history) ≡ [] → ⊥
not_without true s first history e = not_empty first (s ∷ history) e
not_without false s first history e = not_empty s history e

some_by : (by : ProxyEvent) (outcome : ProxyOutcome) (p : Proxy) (history : List ProxyStep) → (history ≡ [] → client_takes p on.eof ≡ true)
    → history_by by outcome p history ≡ [] → ⊥
some_by past.client_eof outcome p [] takes e =
    not_empty (record { event = past.client_eof; outcome = outcome }) []
    (sym (cond-true {A = List ProxyStep} (client_takes p on.eof) (record { event = past.client_eof; outcome = outcome } ∷ []) [] (takes refl)) ∙ e)
some_by past.client_eof outcome p (s ∷ history) takes e =
    not_without (client_takes p on.eof) s (record { event = past.client_eof; outcome = outcome }) history e
some_by by outcome p history takes e = not_empty (record { event = by; outcome = outcome }) history e

step_holds : (by : ProxyEvent) (outcome : ProxyOutcome) (history : List ProxyStep) (old new : Proxy) → 0 < (ours old.config).write_buffer → Went history old → MayCome by old
    → past.is_refusal by ≡ false → Replies by outcome old new → Went (history_by by outcome old history) new
step_holds by outcome history old new room x may other replies =
    let takes : history ≡ [] → client_takes old on.eof ≡ true = λ e. fresh_takes old (x.first e) in
    then_turns (history_by by outcome old history) old replies.mid new room (some_by by outcome old history takes) replies.goes.0
    (event_holds by outcome history old replies.mid other x.holds may takes replies.goes replies.serves replies.event) replies.turns

went_by : (by : ProxyEvent) (outcome : ProxyOutcome) (history : List ProxyStep) (old new : Proxy) → 0 < (ours old.config).write_buffer → Went history old → MayCome by old
    → RepliesBy by outcome old new → Went (history_by by outcome old history) new
went_by past.refused past.done history old new room x may replies =
    then_turns (record { event = past.refused; outcome = past.done } ∷ history) old replies.mid new room
    (not_empty (record { event = past.refused; outcome = past.done }) history) replies.goes.0
    (refused_holds history old replies.mid x.holds replies.serves may replies.goes replies.idle replies.server replies.puts) replies.turns
went_by past.refused (past.took n) history old new room x may replies = absurd replies.event.client
went_by past.refused (past.gave bytes) history old new room x may replies = absurd replies.event.client
went_by (past.client bytes) outcome history old new room x may replies = step_holds (past.client bytes) outcome history old new room x may refl replies
went_by past.client_eof outcome history old new room x may replies = step_holds past.client_eof outcome history old new room x may refl replies
went_by (past.server bytes) outcome history old new room x may replies = step_holds (past.server bytes) outcome history old new room x may refl replies
went_by past.server_eof outcome history old new room x may replies = step_holds past.server_eof outcome history old new room x may refl replies
went_by past.connected outcome history old new room x may replies = step_holds past.connected outcome history old new room x may refl replies
went_by (past.to_client n) outcome history old new room x may replies = step_holds (past.to_client n) outcome history old new room x may refl replies
went_by (past.to_server n) outcome history old new room x may replies = step_holds (past.to_server n) outcome history old new room x may refl replies
went_by (past.tick ms) outcome history old new room x may replies = step_holds (past.tick ms) outcome history old new room x may refl replies

-- the settings stay
config_by : (by : ProxyEvent) (outcome : ProxyOutcome) (old new : Proxy) → RepliesBy by outcome old new → new.config ≡ old.config
config_by past.refused past.done old new replies = same_config replies.mid new replies.turns ∙ replies.goes.0
config_by past.refused (past.took n) old new replies = absurd replies.event.client
config_by past.refused (past.gave bytes) old new replies = absurd replies.event.client
config_by (past.client bytes) outcome old new replies = same_config replies.mid new replies.turns ∙ replies.goes.0
config_by past.client_eof outcome old new replies = same_config replies.mid new replies.turns ∙ replies.goes.0
config_by (past.server bytes) outcome old new replies = same_config replies.mid new replies.turns ∙ replies.goes.0
config_by past.server_eof outcome old new replies = same_config replies.mid new replies.turns ∙ replies.goes.0
config_by past.connected outcome old new replies = same_config replies.mid new replies.turns ∙ replies.goes.0
config_by (past.to_client n) outcome old new replies = same_config replies.mid new replies.turns ∙ replies.goes.0
config_by (past.to_server n) outcome old new replies = same_config replies.mid new replies.turns ∙ replies.goes.0
config_by (past.tick ms) outcome old new replies = same_config replies.mid new replies.turns ∙ replies.goes.0

noted_went : (history : List ProxyStep) (old new : Proxy) → IsNoted old new → Went history old → Went history new
noted_went history old new (n, is) x =
    subst (Went history) (sym is) (record {
      holds = record {
        all = x.holds.all;
        forwards = record { client = x.holds.forwards.client; server = x.holds.forwards.server; carries = x.holds.forwards.carries; time = x.holds.forwards.time };
        wanted = x.holds.wanted;
        now = record { asked = x.holds.now.asked; stage = x.holds.now.stage; fits = x.holds.now.fits; served = x.holds.now.served };
      };
      first = x.first;
    })

went : (history : List ProxyStep) (p : Proxy) → Ran history p → 0 < (ours p.config).write_buffer → Went history p
went _ _ (at_first p client none f wanted) room = record { holds = holds_first p none f wanted; first = λ e. client }
went _ _ (behind history old new by outcome before may replies) room =
    let same = config_by by outcome old new replies in
    let here = subst (λ (c : ProxyConfig). 0 < (ours c).write_buffer) same room in
    went_by by outcome history old new here (went history old before here) may replies
went _ _ (noted history old new before is) room =
    let same = ap (λ (q : Proxy). q.config) is.1 in
    noted_went history old new is (went history old before (subst (λ (c : ProxyConfig). 0 < (ours c).write_buffer) same room))

-- what waits towards the server
same_waiting : (o : Option servers.State) → waiting_in (kept_in o) ≡ waiting_of o
same_waiting None = refl
same_waiting (Some s) = refl

pub is_forwarder : (history : List ProxyStep) (p : Proxy) → Ran history p → IsUsable p → IsAForwarder history p
is_forwarder history p ran usable =
    let x = went history p ran usable.room in
    let y = x.holds.now.served in
    record {
      trace = y.0.client;
      requests = y.1;
      stands = subst (λ (c : Settings). StandsFor (setting_of c) p.client.kept y.0.client) (sym x.holds.forwards.client) y.2.tells.carries.stands;
      forwards = subst (λ (w : Option (List ℕ)). IsForwarding (edge p.config) (theirs p.config) history w y.0.client y.1) (same_waiting p.server) y.2.tells.is;
    }
