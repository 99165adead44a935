use Rattle.proxy.proofs.Work.{client_held, server_held}
use Rattle.proxy.proofs.laws.no_more_is_held.Goals as goal

pub returns : goal.returns
returns c = record { client = client_held; server = server_held }
