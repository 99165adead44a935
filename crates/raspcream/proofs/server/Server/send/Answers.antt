use Rattle.raspcream.specs.Refused.{IsMisplaced, IsWrong}
use Rattle.raspcream.specs.declared.op.Op.TheVariants as asks
use Rattle.raspcream.proofs.NamedLemmas.{refused_so}
use Rattle.std.proofs.lemmas.Result.{err_from_is_err_and}
use Rattle.raspcream.proofs.ServedLemmas.{has_sent, barred}
use Rattle.raspcream.proofs.server.Server.send.Goals as goal

pub returns-clause-stands : goal.returns-clause-stands
returns-clause-stands c = has_sent _ _ _ _ _ _ _ _ _ c.self.view_is c.in_ok-message.ensures.ok c.tell_sent.ensures.kind c.tell_sent.ensures.shown c.in-Ok.ensures.stands

pub returns-then-not-can_send-clause-refused : goal.returns-then-not-can_send-clause-refused
returns-then-not-can_send-clause-refused c = λ message. barred _ _ _ _ c.self.view_is (c.can_send.ensures message) c.if-not-can_send.true

pub returns-in_err-message-clause-refused : goal.returns-in_err-message-clause-refused
returns-in_err-message-clause-refused c = let p = err_from_is_err_and c.from_residual.result c.from_residual.ensures.1 in rw (p.1, p.2) (refused_so (IsMisplaced asks.Send c.args.code c.args.input.now c.args.self.now) (IsWrong asks.Send c.args.kind c.args.code c.args.input.now c.args.self.now) _ c.in_err-message.ensures.why)
