use Rattle.std.proofs.Common.{refl}
use Rattle.proxy.proofs.proxy.Proxy.note_unsent.Goals as goal

pub returns-in_default-clause-noted : goal.returns-in_default-clause-noted
returns-in_default-clause-noted c = (c.args.self.now.notes, refl)
