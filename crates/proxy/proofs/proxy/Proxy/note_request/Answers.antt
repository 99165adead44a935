use Rattle.std.proofs.Common.{refl}
use Rattle.proxy.proofs.proxy.Proxy.note_request.Goals as goal

pub returns-clause-noted : goal.returns-clause-noted
returns-clause-noted c = (c.keep.new.self, refl)
