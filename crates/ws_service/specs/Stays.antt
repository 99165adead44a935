-- A connection that speaks WebSocket.
use Rattle.std.specs.Prelude.{◌≡◌, true, false, None}
use Rattle.model_state.specs.Kept.{is_upgraded}
use Rattle.ws_service.specs.View.{View}

-- it was upgraded, and until the dispatcher has ended something is allowed
pub record IsLive (v : View) : Type 0 where
  pub speaks : is_upgraded v.traced.state.kept ≡ true
  pub running : v.ending ≡ None → v.traced.state.kept.is_over ≡ false
