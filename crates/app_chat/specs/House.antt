-- A hub that has a history.
use Rattle.std.specs.Prelude.{◌≡◌, ℕ, List, Option}
use Rattle.http_config.specs.Config.{Settings}
use Rattle.model_rooms.specs.Seen.{Seen}
use Rattle.model_h1.specs.Event.{Event}
use Rattle.h1_connection.specs.declared.event.Outcome.{Outcome}
use Rattle.rooms.specs.Hub.{HubState, HubStands, HubFeeds}

-- the hub has these settings, and stands for what was seen of it
pub record IsHouse (settings : Settings) (hub : HubState) : Type 0 where
  pub settings_are : hub.settings ≡ settings
  pub seen : List Seen
  pub stands : HubStands hub seen

-- the event came to the connection with this number, or was refused
abbrev pub Tells : ℕ → HubState → Event → HubState → Type 0
Tells i hub event after = (result : Option Outcome) × HubFeeds hub i event result after
