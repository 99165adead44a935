-- What was done to a job before and what is done next is one run.
use Rattle.std.proofs.Common.{◌≡◌, ℕ, List, [], ◌∷◌, ◌++◌, refl, subst}
use Rattle.futures.specs.declared.task.Poll.{Poll}
use Rattle.futures.specs.declared.task.context.Context.{Context}
use Rattle.futures.specs.declared.task.Poll.TheVariants.{Ready}
use Rattle.serve_async.specs.Ends.{JobEnds}
use Rattle.serve_async.specs.JobRuns.{Polling, Draining, Act, poll, drain, Runs, Leads, EndsBy, Lives}

module _ {J O : Type 0} (polled : Polling J O) (drained : Draining J) where
  -- one run after another
  runs_on : (a b c : J) (acts more : List (Act O)) → Runs polled drained a acts b → Runs polled drained b more c → Runs polled drained a (acts ++ more) c
  runs_on a b c [] more first then = let P : J → Type 0 = λ x. Runs polled drained x more c in subst P first then
  runs_on a b c (act ∷ acts) more first then = (first.0, first.1, runs_on first.0 b c acts more first.2 then)

  leads_on : (a b c : J) → Leads polled drained a b → Leads polled drained b c → Leads polled drained a c
  leads_on a b c first then = record { acts = first.acts ++ then.acts; runs = runs_on a b c first.acts then.acts first.runs then.runs }

  -- a job that lives does so after a run
  lives_on : (begun can_poll : J → Type 0) (a b : J) → Lives polled drained begun can_poll a → Leads polled drained a b → can_poll b → Lives polled drained begun can_poll b
  lives_on begun can_poll a b lives leads may =
      record { first = lives.first; new = lives.new; leads = leads_on lives.first a b lives.leads leads; may_poll = may }

  -- a new one lives
  pub lives_new : (begun can_poll : J → Type 0) (a : J) → begun a → can_poll a → Lives polled drained begun can_poll a
  lives_new begun can_poll a new may = record { first = a; new = new; leads = record { acts = []; runs = refl }; may_poll = may }

  -- after a poll it still does
  pub lives_polled : (begun can_poll : J → Type 0) (a b : J) (moment : ℕ) (cx : Context) (result : Poll O) → polled a moment cx result b
      → Lives polled drained begun can_poll a → can_poll b → Lives polled drained begun can_poll b
  lives_polled begun can_poll a b moment cx result says lives may =
      lives_on begun can_poll a b lives (record { acts = poll moment cx result ∷ []; runs = (b, says, refl) }) may

  -- and after it was asked to end
  pub lives_drained : (begun can_poll : J → Type 0) (a b : J) → drained a b → Lives polled drained begun can_poll a → can_poll b → Lives polled drained begun can_poll b
  lives_drained begun can_poll a b says lives may = lives_on begun can_poll a b lives (record { acts = drain ∷ []; runs = (b, says, refl) }) may

  -- nothing was done to it
  pub leads_nowhere : (a : J) → Leads polled drained a a
  leads_nowhere a = record { acts = []; runs = refl }

  -- it was asked to end
  pub leads_drained : (a b : J) → drained a b → Leads polled drained a b
  leads_drained a b says = record { acts = drain ∷ []; runs = (b, says, refl) }

  -- it was polled
  pub leads_polled : (a b : J) (moment : ℕ) (cx : Context) (result : Poll O) → polled a moment cx result b → Leads polled drained a b
  leads_polled a b moment cx result says = record { acts = poll moment cx result ∷ []; runs = (b, says, refl) }

  -- it ended by a poll
  pub ends_polled : (a b : J) (moment : ℕ) (cx : Context) (output : O) → polled a moment cx (Ready output) b → EndsBy polled drained a moment output b
  ends_polled a b moment cx output says = (a, leads_nowhere a, (cx, says))

  -- it ended after what was done before
  pub ends_on : (a m b : J) (moment : ℕ) (output : O) → Leads polled drained a m → EndsBy polled drained m moment output b → EndsBy polled drained a moment output b
  ends_on a m b moment output leads ends = (ends.0, leads_on a m ends.0 leads ends.1, ends.2)

  -- the same, at the moment of a clock
  pub job_ends_on : (a m b : J) (moment at : ℕ) → moment ≡ at → Leads polled drained a m → JobEnds polled drained m moment b → JobEnds polled drained a at b
  job_ends_on a m b moment at is leads ends =
      let P : ℕ → Type 0 = λ t. JobEnds polled drained a t b in
      subst P is (ends.0, ends_on a m b moment ends.0 leads ends.1)
