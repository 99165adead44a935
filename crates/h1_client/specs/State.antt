-- A client's connection as its contracts see it: its settings, and what the machine keeps.
use Rattle.std.specs.Prelude.{◌≡◌, ◌<◌, List, [], ◌∷◌, length, IsTrue}
use Rattle.http_config.specs.Config.{Settings}
use Rattle.model_client.specs.ClientEvent as on
use Rattle.model_client.specs.ClientKept.{ClientKept, fresh_client, client_allows}
use Rattle.model_client.specs.ClientStep.{IsClientStep}
use Rattle.model_client.specs.ClientTrace.{Happened, IsClientTrace}
use Rattle.h1_client.specs.ClientMeaning.{setting_of}

pub record State : Type 0 where
  pub settings : Settings
  pub kept : ClientKept

-- a connection to which nothing has happened
abbrev pub fresh_state : Settings → State
fresh_state settings = record { settings = settings; kept = fresh_client }

-- the event is allowed
abbrev pub IsAllowed : State → on.ClientEvent → Type 0
IsAllowed state event = IsTrue (client_allows (setting_of state.settings) state.kept event)

-- there is room for a piece of a request's body
abbrev pub HasWriteRoom : State → Type 0
HasWriteRoom state = length state.kept.buffered < state.settings.h1_write_buffer_size

-- all this has happened to the connection, the last first
abbrev pub Stands : State → List Happened → Type 0
Stands state trace = IsClientTrace (setting_of state.settings) trace state.kept

-- The event has made the machine's step, with such an outcome: so the connection stands for what happened before and, in
-- front of it, this event with its outcome.
pub record GoesOn (state : State) (event : on.ClientEvent) (Says : on.ClientOutcome → Type 0) (after : State) : Type 0 where
  pub outcome : on.ClientOutcome
  pub says : Says outcome
  pub step : IsClientStep (setting_of state.settings) state.kept event outcome after.kept
  pub stands : (trace : List Happened) → Stands state trace → Stands after (record { event = event; outcome = outcome } ∷ trace)

-- the outcome is this one
abbrev pub Is : on.ClientOutcome → on.ClientOutcome → Type 0
Is outcome out = out ≡ outcome
