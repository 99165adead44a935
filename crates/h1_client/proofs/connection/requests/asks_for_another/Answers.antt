use Rattle.std.proofs.Common.{codes}
use Rattle.h1_client.proofs.UpgradeLemmas.{upgrade_of}
use Rattle.h1_client.proofs.connection.requests.asks_for_another.Goals as goal

pub returns : goal.returns
returns c = upgrade_of (codes "upgrade") c.args.head.now.headers _ _ _ c.len-valid.ensures.valid c.get_all.ensures.values c.as_slice.ensures.value c.is_empty.ensures
