use Rattle.proxy.proofs.Served.{waits_alone}
use Rattle.proxy.proofs.laws.a_request_waits_alone.Goals as goal

pub returns : goal.returns
returns c = waits_alone
