use Rattle.model_state.proofs.KeptBounds.{unread_bounded}
use Rattle.model_proxy.proofs.Server.{held_fits}
use Rattle.model_proxy.proofs.left_laws.no_more_is_held.Goals as goal

pub returns : goal.returns
returns c = record { client = unread_bounded; server = λ setting k trace x. held_fits setting trace k x }
