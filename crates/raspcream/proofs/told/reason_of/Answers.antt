use Rattle.raspcream.specs.Numbers.{reason_said}
use Rattle.std.proofs.Common.{ap, ◌∙◌}
use Rattle.raspcream.proofs.told.reason_of.Goals as goal

pub returns-in-Some : goal.returns-in-Some
returns-in-Some c = c.end_number.ensures ∙ ap reason_said c.in-Some.ensures.value

pub returns-in-None : goal.returns-in-None
returns-in-None c = ap reason_said c.in-None.ensures.value
