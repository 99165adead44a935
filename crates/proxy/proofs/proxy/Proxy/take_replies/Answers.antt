use Rattle.std.proofs.Common.{refl}
use Rattle.proxy.proofs.proxy.Proxy.take_replies.Goals as goal

pub returns-clause-noted : goal.returns-clause-noted
returns-clause-noted c = (c.take.new.self, refl)
