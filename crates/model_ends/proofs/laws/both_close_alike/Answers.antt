use Rattle.model_ends.proofs.Closings.{step_closes, closes_alike}
use Rattle.model_ends.proofs.laws.both_close_alike.Goals as goal

pub returns-clause-client : goal.returns-clause-client
returns-clause-client c client kept next a x is = step_closes client kept next a x is

pub returns-clause-both : goal.returns-clause-both
returns-clause-both c server h a r minor framed method asked none clear = closes_alike server h a r minor framed method asked none clear
