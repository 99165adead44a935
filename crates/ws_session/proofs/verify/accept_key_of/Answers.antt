-- A request says its own key.
use Rattle.ws_session.specs.Upgrade.{head_said}
use Rattle.ws_session.proofs.OwnHead.{says_own}
use Rattle.ws_session.proofs.verify.accept_key_of.Goals as goal

pub returns-clause-own : goal.returns-clause-own
returns-clause-own c = c.answer_key.ensures (head_said c.args.req.now) (says_own c.args.req.now c.len-valid.ensures.valid)
