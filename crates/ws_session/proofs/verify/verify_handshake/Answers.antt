-- A request says its own upgrade.
use Rattle.ws_session.specs.Upgrade.{head_said}
use Rattle.ws_session.proofs.OwnHead.{says_own}
use Rattle.ws_session.proofs.verify.verify_handshake.Goals as goal

pub returns-clause-own : goal.returns-clause-own
returns-clause-own c = c.check_all.ensures (head_said c.args.req.now) (says_own c.args.req.now c.len-valid.ensures.valid)
