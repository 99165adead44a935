use Rattle.proxy.proofs.Served.{kept_by_newest}
use Rattle.proxy.proofs.laws.a_request_counts_by_its_method.Goals as goal

pub returns : goal.returns
returns c = kept_by_newest
