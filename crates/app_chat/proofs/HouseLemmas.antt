-- A hub has a history after each call, and what it does for a connection.
use Rattle.std.proofs.Common.{◌≡◌, ℕ, List, [], ◌∷◌, length, take, false, Option, Some, None, refl, sym, ap, ◌∙◌, subst, arith}
use Rattle.std.proofs.lemmas.List.{take_all}
use Rattle.http_config.specs.Config.{Settings}
use Rattle.model_h1.specs.Event as on
use Rattle.model_h1.specs.Sums.{step_taken, step_written}
use Rattle.model_rooms.specs.Hub as model
use Rattle.model_rooms.specs.Hub.{feeds, turns, core}
use Rattle.model_rooms.specs.Seen.{row_of}
use Rattle.model_rooms.specs.Trace.{core_trace, IsHubStep}
use Rattle.rooms.specs.Hub.{HubState, HubStands, fresh_hub, HubGoesOn, HubOpens, HubFeeds, HubTurns}
use Rattle.h1_connection.specs.EventMeaning.{setting_of, event_of, SaysOutcome}
use Rattle.h1_connection.specs.declared.event.Outcome.{Outcome}
use Rattle.h1_connection.specs.declared.event.Outcome.TheVariants as out
use Rattle.rooms.specs.declared.seat.HubTurn.{HubTurn as SeatTurn}
use Rattle.app_chat.specs.House.{IsHouse}
use Rattle.app_chat.specs.Moves.{Moves, Gives, carries}
use Rattle.app_chat.proofs.MoveLemmas.{moves_one, moves_equal}
use Rattle.app_chat.proofs.QuietLemmas.{quiet_taken, quiet_written, turn_quiet}

-- ---- a history

-- a new hub
pub house_new : (settings : Settings) (hub : HubState) → hub ≡ fresh_hub settings → HubStands hub [] → IsHouse settings hub
house_new settings hub is stands = record { settings_are = ap (λ (h : HubState). h.settings) is; seen = []; stands = stands }

-- a hub that goes on
house_goes : (settings : Settings) (hub after : HubState) (event : model.HubEvent) (Says : model.HubOutcome → Type 0) → after.settings ≡ hub.settings
    → IsHouse settings hub → HubGoesOn hub event Says after → IsHouse settings after
house_goes settings hub after event Says same x goes =
    let g = goes x.seen x.stands in
    record {
      settings_are = same ∙ x.settings_are;
      seen = record { step = record { event = event; outcome = g.out }; closes = g.closes } ∷ x.seen;
      stands = g.stands;
    }

house_stays : (settings : Settings) (hub after : HubState) → after ≡ hub → IsHouse settings hub → IsHouse settings after
house_stays settings hub after same x = subst (λ (h : HubState). IsHouse settings h) (sym same) x

pub house_opened : (settings : Settings) (hub after : HubState) (number : Option ℕ) → after.settings ≡ hub.settings → IsHouse settings hub
    → HubOpens hub number after → IsHouse settings after
house_opened settings hub after None same x opened = house_stays settings hub after opened.0 x
house_opened settings hub after (Some n) same x opened = house_goes settings hub after model.opens (λ out. out ≡ model.opened n) same x opened

pub house_fed : (settings : Settings) (hub after : HubState) (i : ℕ) (event : on.Event) (outcome : Option Outcome) → after.settings ≡ hub.settings
    → IsHouse settings hub → HubFeeds hub i event outcome after → IsHouse settings after
house_fed settings hub after i event None same x fed = house_stays settings hub after fed.0 x
house_fed settings hub after i event (Some o) same x fed = house_goes settings hub after (feeds i event) _ same x fed

pub house_turned : (settings : Settings) (hub after : HubState) (i : ℕ) (turn : Option SeatTurn) → after.settings ≡ hub.settings
    → IsHouse settings hub → HubTurns hub i turn after → IsHouse settings after
house_turned settings hub after i None same x turned = house_stays settings hub after turned.0 x
house_turned settings hub after i (Some t) same x turned = house_goes settings hub after (turns i) _ same x turned

-- ---- what it does for a connection

-- an event of which the outcome tells the bytes
fed_moves : (hub after : HubState) (i : ℕ) (event : on.Event) (outcome : Outcome) (came went : List ℕ)
    → ((o : on.Outcome) → SaysOutcome outcome o → (step_taken event o ≡ came) × (step_written o ≡ went))
    → HubFeeds hub i event (Some outcome) after → Moves i hub came went after
fed_moves hub after i event outcome came went tells goes = record {
  goes = λ seen x.
      let g = goes seen x in
      let o = g.says.0 in
      let bytes = tells o g.says.1 in
      let stands = subst (λ (r : model.HubOutcome). HubStands after (record { step = record { event = feeds i event; outcome = r }; closes = g.closes } ∷ seen)) g.says.2 g.stands in
      moves_one i (feeds i event) event o g.closes came went after seen refl stands bytes.0 bytes.1;
}

-- a read of which all bytes were taken
pub took_all : (hub after : HubState) (i : ℕ) (bytes copy : List ℕ) (n : ℕ) → copy ≡ bytes → n ≡ length bytes
    → HubFeeds hub i (on.read copy) (Some (out.Took n)) after → Moves i hub bytes [] after
took_all hub after i bytes copy n same all goes =
    let long : length copy ≡ n = ap (λ (l : List ℕ). length l) same ∙ sym all in
    let whole : take n copy ≡ copy = take_all n copy (omega (arith, long)) in
    subst (λ (b : List ℕ). Moves i hub b [] after) same
    (fed_moves hub after i (on.read copy) (out.Took n) copy []
    (λ o says. (ap (λ (a : on.Outcome). step_taken (on.read copy) a) says ∙ whole, ap step_written says)) goes)

-- a write
pub gave_bytes : (hub after : HubState) (i limit : ℕ) (bytes : List ℕ) → HubFeeds hub i (on.write limit) (Some (out.Gave bytes)) after
    → Gives i hub (Some bytes) after
gave_bytes hub after i limit bytes goes =
    fed_moves hub after i (on.write limit) (out.Gave bytes) [] bytes (λ o says. (refl, ap step_written says)) goes

-- an event that is neither
pub fed_quietly : (hub after : HubState) (i : ℕ) (event : on.Event) (outcome : Option Outcome) → carries event ≡ false → HubFeeds hub i event outcome after
    → Moves i hub [] [] after
fed_quietly hub after i event None quiet fed = moves_equal i hub after fed.0
fed_quietly hub after i event (Some outcome) quiet goes = record {
  goes = λ seen x.
      let g = goes seen x in
      let o = g.says.0 in
      let stands = subst (λ (r : model.HubOutcome). HubStands after (record { step = record { event = feeds i event; outcome = r }; closes = g.closes } ∷ seen)) g.says.2 g.stands in
      let step : IsHubStep (setting_of after.settings) seen (feeds i event) (core event o) g.closes = stands.traced.0 in
      moves_one i (feeds i event) event o g.closes [] [] after seen refl stands (quiet_taken event o quiet)
      (quiet_written (setting_of after.settings) (core_trace i seen) event o quiet step.2.answers);
}

-- a turn
pub turned_quietly : (hub after : HubState) (i : ℕ) (turn : Option SeatTurn) → HubTurns hub i turn after → Moves i hub [] [] after
turned_quietly hub after i None turned = moves_equal i hub after turned.0
turned_quietly hub after i (Some turn) goes = record {
  goes = λ seen x.
      let g = goes seen x in
      let e : on.Event = event_of turn.event in
      let o = g.says.0 in
      let stands = subst (λ (r : model.HubOutcome). HubStands after (record { step = record { event = turns i; outcome = r }; closes = g.closes } ∷ seen)) g.says.2 g.stands in
      let step : IsHubStep (setting_of after.settings) seen (turns i) (core e o) g.closes = stands.traced.0 in
      let quiet : carries e ≡ false = ap carries step.0.2 ∙ turn_quiet (setting_of after.settings) step.0.0 (row_of i seen).waiting in
      moves_one i (turns i) e o g.closes [] [] after seen refl stands (quiet_taken e o quiet)
      (quiet_written (setting_of after.settings) (core_trace i seen) e o quiet step.1.answers);
}
