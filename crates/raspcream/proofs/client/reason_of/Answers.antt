use Rattle.raspcream.specs.Numbers.{client_reason_said}
use Rattle.std.proofs.Common.{ap, ◌∙◌}
use Rattle.raspcream.proofs.client.reason_of.Goals as goal

pub returns-in-Some : goal.returns-in-Some
returns-in-Some c = c.end_number.ensures ∙ ap client_reason_said c.in-Some.ensures

pub returns-in-None : goal.returns-in-None
returns-in-None c = ap client_reason_said c.in-None.ensures
