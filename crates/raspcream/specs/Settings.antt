-- The connection that C's settings name.
use Rattle.std.specs.Prelude.{◌≡◌, ◌<◌, ◌⊎◌, [], if◌then◌else◌}
use Rattle.http_config.specs.Config.{Settings, default_settings}
use Rattle.http_config.specs.KeepAlive.{normalized}
use Rattle.http_config.specs.declared.hold_size.TheConstants.{MIN_HOLD_SIZE, MAX_HOLD_SIZE}
use Rattle.http_config.specs.declared.keep_alive.KeepAlive.TheVariants.{Timeout}
use Rattle.h1_connection.specs.State as serving
use Rattle.h1_client.specs.State as asking
use Rattle.raspcream.specs.declared.config.Config.{Config}
use Rattle.raspcream.specs.declared.machine.Machine.{Machine}
use Rattle.raspcream.specs.declared.machine.Machine.TheVariants.{Server, Client}

-- each setting is the field of its name, and what C doesn't set is at its default
abbrev pub set_by : Config → Settings
set_by c = record default_settings {
  keep_alive = normalized (Timeout c.keep_alive);
  client_request_timeout = c.request_timeout;
  client_disconnect_timeout = c.disconnect_timeout;
  h1_allow_half_closed = c.half_closed;
  h1_write_buffer_size = c.write_buffer;
  h1_hold_size = c.hold_size;
}

-- no connection has such settings: there is no room to write, or too little or too much is to be held
abbrev pub CannotBe : Config → Type 0
CannotBe c = (c.write_buffer ≡ 0) ⊎ ((c.hold_size < MIN_HOLD_SIZE) ⊎ (MAX_HOLD_SIZE < c.hold_size))

-- the side that C names, to which nothing has come
abbrev pub fresh_machine : Config → Machine
fresh_machine c = if c.client then Client (asking.fresh_state (set_by c)) else Server (serving.fresh_state (set_by c))

-- nothing has happened to it: what is said of whole traces begins there
abbrev pub StandsForNothing : Machine → Type 0
StandsForNothing (Server s) = serving.Stands s []
StandsForNothing (Client c) = asking.Stands c []
