use Rattle.proxy.proofs.Served.{old_to_tell}
use Rattle.proxy.proofs.laws.no_client_waits_to_be_told.Goals as goal

pub returns : goal.returns
returns c = old_to_tell
