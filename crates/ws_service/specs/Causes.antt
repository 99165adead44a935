-- Why a poll ended, told by what is seen after it.
use Rattle.std.specs.Prelude.{◌≡◌, ◌⊎◌, Some, None, IsTrue, Result, Ok, Err, List}
use Rattle.futures.specs.declared.task.Poll.{Poll}
use Rattle.futures.specs.declared.task.Poll.TheVariants.{Ready}
use Rattle.http_config.specs.Causes.{Rose}
use Rattle.h1_connection.specs.declared.event.End.{End}
use Rattle.ws_service.specs.declared.error.UpgradeError.{UpgradeError}
use Rattle.ws_service.specs.declared.error.UpgradeError.TheVariants as error
use Rattle.ws_service.specs.declared.dispatcher.Ending.TheVariants.{Closed, Abandoned, Broken}
use Rattle.ws_service.specs.View.{View, IsForeign}
use Rattle.ws_service.specs.Steps.{Step, IsRun}
use Rattle.ws_service.specs.Traces.{AllNoted}

-- Ok: the connection told an end, and the transport shows that it was shut down. A failure of the service, or of the transport, is a rise
-- of its count in this poll. `NotUpgraded`: it hasn't told its end, and is no connection that was upgraded.
abbrev pub HasCause : View → View → Result Unit UpgradeError → Type 0
HasCause v w (Ok x) = ((end : End) × (w.ending ≡ Some (Closed end))) × IsTrue w.transport.shut
HasCause v w (Err (error.Upgrade e)) = Rose v.service.faults w.service.faults
HasCause v w (Err error.Io) = Rose v.transport.faults w.transport.faults
HasCause v w (Err error.DisconnectTimeout) = w.ending ≡ Some Abandoned
HasCause v w (Err error.NoMemory) = w.ending ≡ Some Broken
HasCause v w (Err error.NotUpgraded) = (w.ending ≡ None) × IsForeign w

-- a poll is a run of steps; memory runs out in none of them, unless it answered so
pub record IsOneRun (v w : View) (result : Poll (Result Unit UpgradeError)) : Type 0 where
  pub steps : List Step
  pub run : IsRun v steps w
  pub noted : (result ≡ Ready (Err error.NoMemory)) ⊎ AllNoted steps
