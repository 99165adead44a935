-- The sources at which a server's tasks wait.
use Rattle.std.specs.Prelude.{◌≡◌, ◌≤◌, ◌+◌, ℕ, max, Option, IfSome, ⊤}
use Rattle.tokio.specs.Locks.{CanAcquire, OwnedAcquireNeeds}
use Rattle.tokio.specs.Net.{listener_readable}
use Rattle.tokio.specs.Timers.{sleep_source}
use Rattle.tokio.specs.declared.net.listener.TcpListener.{TcpListener}
use Rattle.tokio.specs.declared.time.sleep.Sleep.{Sleep}
use Rattle.serve_async.specs.declared.alarm.Alarm.{Alarm}
use Rattle.serve_async.specs.declared.door.Step.{Step}
use Rattle.serve_async.specs.declared.door.Step.TheVariants.{Asking, Waiting, Pausing, Open}

-- the source of a timer
abbrev pub alarm_source : Alarm → ℕ
alarm_source alarm = sleep_source alarm.sleep

-- it is set for the moment at which a job is to be polled, or an earlier one, or for the next millisecond
abbrev pub StandsBy : Option ℕ → ℕ → Alarm → Type 0
StandsBy due moment alarm = IfSome due (λ at. alarm.at ≤ max at (moment + 1))

-- What a door waits for: a permit, the end of its pause, or the listener. One that asks for a permit waits for nothing: whatever
-- happens, it has asked for another poll.
abbrev pub DoorNeeds : Step → Sleep → TcpListener → ℕ → Type 0
DoorNeeds Asking pause listener source = ⊤
DoorNeeds (Waiting waits) pause listener source = OwnedAcquireNeeds waits source
DoorNeeds (Pausing permit) pause listener source = source ≡ sleep_source pause
DoorNeeds (Open permit) pause listener source = source ≡ listener_readable listener

-- a door that waits for a permit may ask for it again
abbrev pub MayGoOn : Step → Type 0
MayGoOn Asking = ⊤
MayGoOn (Waiting waits) = CanAcquire waits
MayGoOn (Pausing permit) = ⊤
MayGoOn (Open permit) = ⊤
