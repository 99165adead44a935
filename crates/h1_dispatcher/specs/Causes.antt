-- Why a poll ended, told by what is seen after it.
use Rattle.std.specs.Prelude.{◌≡◌, ◌⊎◌, Some, IsTrue, Result, Ok, Err}
use Rattle.http_config.specs.Causes.{Rose}
use Rattle.http_types.specs.declared.error.DispatchError.{DispatchError}
use Rattle.http_types.specs.declared.error.DispatchError.TheVariants as error
use Rattle.http_types.specs.declared.error.ParseError.TheVariants as parse
use Rattle.h1_connection.specs.declared.event.End.{End}
use Rattle.h1_connection.specs.declared.event.End.TheVariants as ends
use Rattle.h1_dispatcher.specs.declared.dispatcher.Ending.TheVariants.{Closed, Abandoned, Broken}
use Rattle.h1_dispatcher.specs.View.{View}
use Rattle.h1_dispatcher.specs.Polls.{result_of}

-- the connection told this end, and the transport shows that it was shut down
pub record HasClosed (w : View) (end : End) : Type 0 where
  pub ended : w.ending ≡ Some (Closed end)
  pub shut : IsTrue w.transport.shut

-- Each result of a poll has its cause, and no other error comes. The transport's failure is a rise of its count in this poll.
abbrev pub HasCause : View → View → Result Unit DispatchError → Type 0
HasCause v w (Ok x) = (end : End) × (result_of end ≡ Ok tt) × HasClosed w end
HasCause v w (Err error.Io) = Rose v.transport.faults w.transport.faults
HasCause v w (Err error.NoMemory) = w.ending ≡ Some Broken
HasCause v w (Err error.DisconnectTimeout) = w.ending ≡ Some Abandoned
HasCause v w (Err error.SlowRequestTimeout) = HasClosed w ends.SlowRequestTimeout
HasCause v w (Err error.Body) = HasClosed w ends.Body ⊎ HasClosed w ends.BodyShort
HasCause v w (Err (error.Parse parse.Header)) = HasClosed w ends.Malformed
HasCause v w (Err (error.Parse parse.TooLarge)) = HasClosed w ends.TooLarge
HasCause v w (Err other) = ⊥
