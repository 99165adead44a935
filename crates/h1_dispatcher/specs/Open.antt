-- The open request of the connection is the one that a dispatcher has at hand.
use Rattle.std.specs.Prelude.{◌≡◌, List, true, false}
use Rattle.model_h1.specs.Sums as sums
use Rattle.model_state.specs.Local.{waits_for_answer, is_answering, has_room}
use Rattle.h1_connection.specs.EventMeaning.{setting_of}
use Rattle.h1_traced.specs.Traced.{TracedStands}
use Rattle.h1_dispatcher.specs.View.{View, is_unanswered, is_sending, closes, allows_answer, allows_chunk}

-- The traced connection stands for a trace. The connection has an open request without an answer exactly where a request waits for the
-- service, its call is in progress, or its answer is to be handed on; and an answer whose body isn't whole exactly where the
-- body that goes out is at hand.
pub record IsTied (v : View) : Type 0 where
  pub trace : List sums.Step
  pub stands : TracedStands v.traced trace
  pub tied : waits_for_answer v.traced.state.kept ≡ is_unanswered v.stage
  pub sends : is_answering v.traced.state.kept ≡ is_sending v.stage

-- So where a request may be answered, one is at hand; and while the connection goes on, a body that goes out may be polled
-- wherever there is room for a piece of it.
pub record StaysTied (w : View) : Type 0 where
  pub tied : IsTied w
  pub busy : allows_answer w ≡ true → is_unanswered w.stage ≡ true
  pub polled : w.traced.state.kept.is_over ≡ false → closes w ≡ false → is_sending w.stage ≡ true
      → allows_chunk w ≡ has_room (setting_of w.traced.state.settings) w.traced.state.kept
