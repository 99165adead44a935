use Rattle.raspcream.specs.Named.{IsNoAnswer}
use Rattle.raspcream.specs.Refused.{IsMisplaced}
use Rattle.raspcream.specs.declared.op.Op.TheVariants as asks
use Rattle.raspcream.proofs.NamedLemmas.{refused_so}
use Rattle.std.proofs.lemmas.Result.{err_from_is_err_and}
use Rattle.raspcream.proofs.ServedLemmas.{has_answered, barred}
use Rattle.raspcream.proofs.server.Server.answer.Goals as goal

pub returns-clause-stands : goal.returns-clause-stands
returns-clause-stands c = has_answered _ _ _ _ _ _ _ _ _ c.self.view_is c.tell.ensures.kind c.in_ok-head.ensures.ok c.size_of_number.ensures c.in-Ok.ensures.stands

pub returns-then-not-can_answer-clause-refused : goal.returns-then-not-can_answer-clause-refused
returns-then-not-can_answer-clause-refused c = λ head size. barred _ _ _ _ c.self.view_is (c.can_answer.ensures head size) c.if-not-can_answer.true

pub returns-in_err-head-clause-refused : goal.returns-in_err-head-clause-refused
returns-in_err-head-clause-refused c = let p = err_from_is_err_and c.from_residual.result c.from_residual.ensures.1 in rw (p.1, p.2) (refused_so (IsMisplaced asks.Head c.args.size c.args.lines.now c.args.self.now) (IsNoAnswer c.args.arg c.args.lines.now) _ c.in_err-head.ensures.why)
