-- What was given stays given.
use Rattle.std.proofs.lemmas.Result.{on_ok_weaker}
use Rattle.ws_session.proofs.SessionLemmas.{push_given, push_failed}
use Rattle.ws_session.proofs.session.Session.push.Goals as goal

pub returns-clause-given : goal.returns-clause-given
returns-clause-given c =
    on_ok_weaker c.extend.result (push_given c.args.self.now c.extend.new.self c.args.bytes.now) c.extend.ensures.ok

pub returns-clause-failed : goal.returns-clause-failed
returns-clause-failed c = push_failed c.args.self.now c.extend.new.self c.args.bytes.now c.extend.result c.extend.ensures.ok c.extend.ensures.err
