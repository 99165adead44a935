-- Which events are allowed, once: of a few facts, which a trace tells, and which what is kept tells.
use Rattle.std.specs.Prelude.{ℕ, ◌+◌, Bool, true, false, not, ◌&&◌, ◌||◌, nat_lt, nat_le, if◌then◌else◌, Option, is_some}
use Rattle.model_h1.specs.Setting.{Setting}
use Rattle.model_h1.specs.Limits.{MAX_FRAME_HEAD, MAX_MOMENT}
use Rattle.model_h1.specs.End.{End}
use Rattle.model_h1.specs.Event.{Event}
use Rattle.model_h1.specs.Event as on

-- What decides which events are allowed.
pub record Facts : Type 0 where
  -- the input has ended; the connection is to end soon; it speaks WebSocket
  pub has_ended : Bool
  pub is_draining : Bool
  pub is_upgraded : Bool
  -- a request was handed out and its answer isn't complete, or it is a WebSocket; its body's end, fault or drop hasn't come
  pub is_open : Bool
  pub has_body_left : Bool
  -- it is open, has no answer, and is no WebSocket; its client waits to be told to go on; it may become a WebSocket
  pub waits_for_answer : Bool
  pub is_owed_continue : Bool
  pub may_upgrade : Bool
  -- an answer is handed in and isn't complete; there is room in what is to be written
  pub is_answering : Bool
  pub has_room : Bool
  -- the moment, which is 0 before the first tick
  pub now : ℕ

-- a moment never goes back
abbrev pub may_follow : ℕ → ℕ → Bool
may_follow now ms = nat_le now ms && nat_lt ms MAX_MOMENT

-- what is allowed while the connection doesn't close
abbrev pub runs_with : Setting → Facts → Event → Bool
runs_with setting f (on.read bytes) = not f.has_ended
runs_with setting f on.eof = not f.has_ended
runs_with setting f on.drain = not f.is_draining
runs_with setting f on.next = not f.is_open
runs_with setting f on.pull = f.is_upgraded || f.has_body_left
runs_with setting f on.drop_body = not f.is_upgraded && f.has_body_left
runs_with setting f on.send_continue = f.waits_for_answer && f.is_owed_continue
runs_with setting f (on.answer head size) = f.waits_for_answer
runs_with setting f (on.chunk bytes) = f.is_answering && f.has_room
runs_with setting f on.body_end = f.is_answering
runs_with setting f on.body_error = f.is_answering
runs_with setting f (on.write n) = true
runs_with setting f (on.tick ms) = may_follow f.now ms
runs_with setting f (on.accept limit) =
    f.waits_for_answer && f.may_upgrade && nat_le (limit + MAX_FRAME_HEAD) setting.hold_size
runs_with setting f (on.send m) = f.is_upgraded && f.has_room

-- what is allowed once it closes
abbrev pub closes_with : ℕ → Event → Bool
closes_with now (on.write n) = true
closes_with now on.next = true
closes_with now (on.tick ms) = may_follow now ms
closes_with now _ = false

-- the event is allowed, where nothing is any more, or the connection closes for a reason, or runs
abbrev pub goes_with : Setting → Bool → Option End → Facts → Event → Bool
goes_with setting is_over closing f event =
    not is_over && (if is_some closing then closes_with f.now event else runs_with setting f event)
