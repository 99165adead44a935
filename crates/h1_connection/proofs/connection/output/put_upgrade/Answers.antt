use Rattle.std.proofs.Common.{false}
use Rattle.http_config.specs.Config.{default_settings}
use Rattle.h1_connection.specs.EventMeaning.{setting_of}
use Rattle.h1_connection.proofs.ResultLemmas.{on_map}
use Rattle.h1_connection.proofs.connection.output.put_upgrade.Goals as goal

pub returns-clause-ok : goal.returns-clause-ok
returns-clause-ok c = on_map c.put_accept.result _ _ (λ each. each (setting_of default_settings) false) c.put_accept.ensures.ok
