-- What a poll begins with.
use Rattle.std.proofs.Common.{ℕ, Result, Ok, Err, inl, inr}
use Rattle.model_h1.specs.Event as on
use Rattle.ws_service.specs.View.{View}
use Rattle.ws_service.specs.Steps.{IsStep, failed}
use Rattle.ws_service.specs.Polls.{Ticks, DrainSays, BeginFails, BeginSays}

pub begun : {A E : Type 0} (v u w : View) (moment : ℕ) (r : Result A E) → Ticks v moment u → DrainSays u w r → BeginSays v moment w r
begun v u w moment (Ok x) ticks drains = record { between = u; ticks = ticks; drains = drains }
begun v u w moment (Err e) ticks fails = inr (u, ticks, fails)

pub unbegun : (v w : View) (moment : ℕ) → IsStep v (failed (on.tick moment)) w → BeginFails v moment w
unbegun v w moment fails = inl fails
