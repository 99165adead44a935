use Rattle.std.proofs.Common.{List, ℕ, ◌++◌, drop}
use Rattle.h1_replay.specs.HubReport.{AreStepLines}
use Rattle.h1_replay.proofs.hub_report.step_lines.Given as goal

abbrev pub invariant-loop-step : goal.invariant-loop-step
invariant-loop-step l = (rest : List ℕ) → AreStepLines (drop l.step-index l.steps) rest → AreStepLines l.steps (l.text.items ++ rest)
