-- What is known of a connection that was served.
use Rattle.std.specs.Prelude.{◌≡◌, ◌<◌, ◌⊎◌, ℕ, Bool, true, Option, List, [], length, Result, Ok, Err}
use Rattle.std.specs.List.{AllByRecursion}
use Rattle.futures.specs.declared.task.Poll.{Poll}
use Rattle.futures.specs.declared.task.Poll.TheVariants.{Ready, Pending}
use Rattle.futures.specs.declared.task.context.Context.{Context}
use Rattle.http_bodies.specs.Values.{holds}
use Rattle.http_config.specs.Config.{Settings}
use Rattle.http_types.specs.declared.error.DispatchError.{DispatchError}
use Rattle.http_transport.specs.Peer.{PeerAddress}
use Rattle.http_transport.specs.Wiring.{Wiring}
use Rattle.h1_connection.specs.Steps.{Pair}
use Rattle.h1_dispatcher.specs.Acts.{Act, polled, asked, ActsSay}
use Rattle.h1_dispatcher.specs.Polls.{PollSays}
use Rattle.h1_dispatcher.specs.View.{View, view_begun, told_service}
use Rattle.board.specs.Views.{Held}
use Rattle.board_server.specs.declared.error.ServeError.{ServeError}
use Rattle.board_server.specs.declared.error.ServeError.TheVariants.{Dispatch, Budget, NoMemory}
use Rattle.board.specs.Work.{Worked, begun_work, serving_of, IsKept}

-- a new dispatcher over this transport, with this peer, for the pass of this number, to which nothing was asked
abbrev pub begun_view : Wiring → PeerAddress → ℕ → Settings → Option (List Pair) → Bool → View
begun_view transport peer number settings noted listens = view_begun transport (told_service (λ _. holds []) (serving_of (begun_work number))) settings peer noted listens

-- a poll at a moment that the clock may give, which was pending
abbrev pub IsWait : (ℕ → Bool) → Act → Type 0
IsWait may_give (polled moment cx Pending) = may_give moment ≡ true
IsWait may_give (polled moment cx (Ready result)) = ⊥
IsWait may_give asked = ⊥

-- so many polls one after another, each pending
pub record AreWaits (may_give : ℕ → Bool) (v : View) (count : ℕ) (w : View) : Type 0 where
  pub acts : List Act
  pub say : ActsSay v acts w
  pub many : length acts ≡ count
  pub each : AllByRecursion (IsWait may_give) acts

-- a poll at a moment that the clock may give, which answered this
pub record PollsAt (may_give : ℕ → Bool) (v w : View) (answer : Poll (Result Unit DispatchError)) : Type 0 where
  pub moment : ℕ
  pub given : may_give moment ≡ true
  pub cx : Context
  pub says : PollSays v w cx moment answer

-- fewer polls than this were pending, and one more answered this
pub record EndsAt (may_give : ℕ → Bool) (polls : ℕ) (v w : View) (answer : Poll (Result Unit DispatchError)) : Type 0 where
  pub count : ℕ
  pub fewer : count < polls
  pub between : View
  pub waits : AreWaits may_give v count between
  pub last : PollsAt may_give between w answer

-- what a dispatcher's last answer comes to
abbrev pub end_of : Result Unit DispatchError → Result Unit ServeError
end_of (Ok x) = Ok tt
end_of (Err e) = Err (Dispatch e)

-- Why it is served no longer: the last poll answered so; or as many polls as it may have were pending; and each call that
-- was polled was answered. Or else there was no memory to begin with, or a call wasn't answered.
abbrev pub Ends : ℕ → (ℕ → Bool) → View → View → Result Unit ServeError → Type 0
Ends polls may_give v w (Ok x) = EndsAt may_give polls v w (Ready (Ok tt)) × (w.service.call_waits ≡ 0)
Ends polls may_give v w (Err (Dispatch e)) = EndsAt may_give polls v w (Ready (Err e)) × (w.service.call_waits ≡ 0)
Ends polls may_give v w (Err Budget) = AreWaits may_give v polls w × (w.service.call_waits ≡ 0)
Ends polls may_give v w (Err NoMemory) =
    (w ≡ v) ⊎ ((answer : Poll (Result Unit DispatchError)) × EndsAt may_give polls v w answer × (0 < w.service.call_waits))

-- A connection was served from this view of its dispatcher on: how it ended, with what was asked of the board and answered,
-- the transport, what was noted, and the pass.
pub record HasServed (begun : View) (polls : ℕ) (may_give : ℕ → Bool) (transport : Wiring) (noted : Option (List Pair)) (pass : Held) (end : Result Unit ServeError) : Type 0 where
  pub last : View
  pub ends : Ends polls may_give begun last end
  pub transport_is : last.transport ≡ transport
  pub noted_is : last.traced.noted ≡ noted
  pub work : Worked
  pub service_is : last.service ≡ told_service (λ _. holds []) (serving_of work)
  pub pass_is : work.pass ≡ pass
  pub kept : IsKept work
