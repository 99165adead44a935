-- How many bytes wait to be written, over a run.
use Rattle.std.specs.Prelude.{◌≡◌, ◌≤◌, ◌⊎◌, true, ⊤, length}
use Rattle.h1_connection.specs.declared.connection.ticks.Expiry.TheVariants.{Expired}
use Rattle.h1_dispatcher.specs.View.{View, is_asked, has_write_room, buffered, closes}
use Rattle.h1_dispatcher.specs.Steps.{Step, ticked}
use Rattle.h1_dispatcher.specs.Open.{IsTied}

-- The open request of the connection is at hand; and once the service has it, until its answer is handed on, there is room for
-- that.
pub record HasRoomForAnswer (v : View) : Type 0 where
  pub tied : IsTied v
  pub room : is_asked v.stage ≡ true → has_write_room v ≡ true

-- a time ran out, which the connection may answer itself
abbrev pub HasExpired : Step → Type 0
HasExpired (ticked moment (Expired end)) = ⊤
HasExpired step = ⊥

-- After this step no more bytes wait than before, or fewer waited than the settings' write buffer size; or a time ran out, and
-- the connection closes.
abbrev pub GrowsInRoom : View → Step → View → Type 0
GrowsInRoom v step w = (length (buffered w) ≤ length (buffered v)) ⊎ ((has_write_room v ≡ true) ⊎ (HasExpired step × (closes w ≡ true)))
