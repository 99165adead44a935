-- What was done to a job is what was done to its dispatcher.
use Rattle.std.proofs.Common.{◌≡◌, ℕ, List, [], ◌∷◌, Result, sym, ap, subst}
use Rattle.http_types.specs.declared.error.DispatchError.{DispatchError}
use Rattle.http_transport.specs.Peer.{PeerAddress}
use Rattle.h1_dispatcher.specs.Acts.{ActsSay, AreOneRun}
use Rattle.h1_dispatcher.specs.Causes.{HasCause}
use Rattle.h1_dispatcher.specs.Order.{calls, waits_in}
use Rattle.h1_dispatcher.specs.Peers.{AreFrom, TellsPeer}
use Rattle.h1_dispatcher.specs.View.{View}
use Rattle.h1_dispatcher.proofs.Acts.{acts_run}
use Rattle.h1_dispatcher.proofs.Causes.{poll_has}
use Rattle.h1_dispatcher.proofs.Peers.{run_tells}
use Rattle.serve_async.specs.JobRuns as jobs
use Rattle.serve_async.specs.Jobs.{IsBegun, IsNew, Polls, Drains, HasServed, TellsPeerOf, acts_of}

module _ {J : Type 0} (view : J → View) where
  says_of : (a b : J) (acts : List (jobs.Act (Result Unit DispatchError))) → jobs.Runs (Polls view) (Drains view) a acts b → ActsSay (view a) (acts_of acts) (view b)
  says_of a b [] is = ap view is
  says_of a b ((jobs.poll moment cx result) ∷ acts) runs = (view runs.0, runs.1, says_of runs.0 b acts runs.2)
  says_of a b (jobs.drain ∷ acts) runs = (view runs.0, runs.1, says_of runs.0 b acts runs.2)

  pub served : (peer : J → PeerAddress) (can_poll : J → Type 0) (job : J) → jobs.Lives (Polls view) (Drains view) (IsNew view peer) can_poll job → HasServed (view job)
  served peer can_poll job lives =
      let says : ActsSay (view lives.first) (acts_of lives.leads.acts) (view job) = says_of lives.first job lives.leads.acts lives.leads.runs in
      record {
        first = view lives.first;
        peer = peer lives.first;
        new = lives.new;
        acts = acts_of lives.leads.acts;
        says = says;
        run = acts_run (view lives.first) (view job) (acts_of lives.leads.acts) says;
      }

  pub told : (peer : J → PeerAddress) (can_poll : J → Type 0) (job : J) → jobs.Lives (Polls view) (Drains view) (IsNew view peer) can_poll job
      → (first : J) × IsNew view peer first × TellsPeerOf (peer first) (view first) (view job)
  told peer can_poll job lives =
      let first : J = lives.first in
      let new : IsBegun (view first) (peer first) = lives.new in
      let run : AreOneRun (view first) (acts_of lives.leads.acts) (view job) =
      acts_run (view first) (view job) (acts_of lives.leads.acts) (says_of first job lives.leads.acts lives.leads.runs) in
      let none : AreFrom (view first).peer (waits_in (view first).stage) =
      subst (λ (v : View). AreFrom v.peer (waits_in v.stage)) (sym new.is) tt in
      let tells : TellsPeer (view first) run.steps (view job) = run_tells (view first) (view job) run.steps run.run none in (
        first,
        new,
        record {
          steps = run.steps;
          run = run.run;
          called = subst (λ (p : PeerAddress). AreFrom p (calls run.steps)) (ap (λ (v : View). v.peer) new.is) tells.called;
        },
      )

  pub cause : (a b : J) (moment : ℕ) (output : Result Unit DispatchError) → jobs.EndsBy (Polls view) (Drains view) a moment output b → (v : View) × HasCause v (view b) output
  cause a b moment output ends = (view ends.0, poll_has (view ends.0) (view b) ends.2.0 moment output ends.2.1)
