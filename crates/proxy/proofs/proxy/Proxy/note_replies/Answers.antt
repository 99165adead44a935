use Rattle.std.proofs.Common.{true, refl}
use Rattle.proxy.proofs.proxy.Proxy.note_replies.Goals as goal

pub returns-clause-noted : goal.returns-clause-noted
returns-clause-noted c = (record c.args.self.now.notes { is_on = true }, refl)
