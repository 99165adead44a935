use Rattle.proxy.proofs.Served.{no_head_in_vain}
use Rattle.proxy.proofs.laws.no_request_is_left_behind.Goals as goal

pub returns : goal.returns
returns c = no_head_in_vain
