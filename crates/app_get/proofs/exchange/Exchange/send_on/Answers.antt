use Rattle.app_get.proofs.Sending.{sent_goes}
use Rattle.app_get.proofs.exchange.Exchange.send_on.Goals as goal

pub returns : goal.returns
returns g c = sent_goes _ _ _ c.send.ensures
