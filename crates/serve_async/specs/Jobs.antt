-- A service over a transport as a job: what is done to it is what is done to its dispatcher.
use Rattle.std.specs.Prelude.{◌≡◌, ℕ, false, List, [], ◌∷◌, Option, None, Result}
use Rattle.futures.specs.declared.task.Poll.{Poll}
use Rattle.futures.specs.declared.task.context.Context.{Context}
use Rattle.http_config.specs.Config.{Settings}
use Rattle.http_types.specs.declared.error.DispatchError.{DispatchError}
use Rattle.http_services.specs.Serving.{Serving}
use Rattle.http_transport.specs.Opening.{IsFresh}
use Rattle.http_transport.specs.Peer.{PeerAddress}
use Rattle.http_transport.specs.Wiring.{Wiring}
use Rattle.model_state.specs.Deadline.{deadline_by}
use Rattle.h1_connection.specs.EventMeaning.{setting_of}
use Rattle.h1_dispatcher.specs.Acts.{Act, polled, asked, ActsSay, AreOneRun}
use Rattle.h1_dispatcher.specs.Order.{calls}
use Rattle.h1_dispatcher.specs.Peers.{AreFrom}
use Rattle.h1_dispatcher.specs.Polls.{PollSays}
use Rattle.h1_dispatcher.specs.Steps.{Step, IsRun}
use Rattle.h1_dispatcher.specs.View.{View, Asking, Answer, view_begun, with_drain}
use Rattle.serve_async.specs.JobRuns as jobs

-- a new dispatcher over a fresh transport, which told this address
pub record IsBegun (v : View) (peer : PeerAddress) : Type 0 where
  pub transport : Wiring
  pub fresh : IsFresh transport
  pub service : Serving Asking Answer Answer
  pub settings : Settings
  pub is : v ≡ view_begun transport service settings peer None false

-- Polls, and drains between them, have brought it there from such a one, and they are one run of steps.
pub record HasServed (v : View) : Type 0 where
  pub first : View
  pub peer : PeerAddress
  pub new : IsBegun first peer
  pub acts : List Act
  pub says : ActsSay first acts v
  pub run : AreOneRun first acts v

-- Steps have brought it from there to here, and all requests with which the service was called in them have this address.
pub record TellsPeerOf (peer : PeerAddress) (v w : View) : Type 0 where
  pub steps : List Step
  pub run : IsRun v steps w
  pub called : AreFrom peer (calls steps)

module _ {J : Type 0} (view : J → View) where
  -- a new dispatcher, with the address that its transport tells
  abbrev pub IsNew : (J → PeerAddress) → J → Type 0
  IsNew peer job = IsBegun (view job) (peer job)

  -- a poll of the dispatcher
  abbrev pub Polls : J → ℕ → Context → Poll (Result Unit DispatchError) → J → Type 0
  Polls a moment cx result b = PollSays (view a) (view b) cx moment result

  -- it was asked to drain
  abbrev pub Drains : J → J → Type 0
  Drains a b = view b ≡ with_drain (view a)

-- what was done to a job, as what was done to its dispatcher
abbrev pub act_of : jobs.Act (Result Unit DispatchError) → Act
act_of (jobs.poll moment cx result) = polled moment cx result
act_of jobs.drain = asked

abbrev pub acts_of : List (jobs.Act (Result Unit DispatchError)) → List Act
acts_of [] = []
acts_of (act ∷ acts) = act_of act ∷ acts_of acts

-- when it is to be polled: the least moment at which a poll would tell that a time has run out, where one would
abbrev pub due_of : View → Option ℕ
due_of v = deadline_by (setting_of v.traced.state.settings) v.traced.state.kept
