-- What a poll that is pending has registered at, and for when its timer stands.
use Rattle.std.proofs.Common.{◌≤◌, ◌+◌, ℕ, max, Option, Some, None, IfSome, arith}
use Rattle.futures.specs.declared.task.Poll.{Poll}
use Rattle.futures.specs.declared.task.Poll.TheVariants.{Ready, Pending}
use Rattle.futures.specs.declared.task.context.Context.{Context}
use Rattle.futures.specs.Poll.{OnPending}
use Rattle.futures.specs.Task.{IsArmed, Covers}
use Rattle.serve_async.specs.Sources.{StandsBy}
use Rattle.serve_async.specs.declared.alarm.Alarm.{Alarm}

-- what has registered at some source names none
pub names_none : {A : Type 0} (result : Poll A) (cx : Context) → OnPending result (IsArmed cx) → OnPending result (Covers cx (λ _. ⊥))
names_none (Ready x) cx armed = tt
names_none Pending cx armed = (armed, λ s none. absurd none)

-- a timer that is set for a moment or an earlier one stands for what that moment stands for
pub stands_by : (due : Option ℕ) (moment at : ℕ) (alarm : Alarm) → IfSome due (λ d. at ≤ max d (moment + 1)) → alarm.at ≤ at → StandsBy due moment alarm
stands_by None moment at alarm by set = tt
stands_by (Some d) moment at alarm by set = omega arith
