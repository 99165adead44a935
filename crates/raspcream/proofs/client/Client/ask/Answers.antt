use Rattle.raspcream.specs.Refused.{IsMisasked, IsWronglyAsked}
use Rattle.raspcream.specs.declared.op.Op.TheVariants as asks
use Rattle.raspcream.proofs.NamedLemmas.{refused_so}
use Rattle.std.proofs.lemmas.Result.{err_from_is_err_and}
use Rattle.raspcream.proofs.AskedLemmas.{has_requested, misasked}
use Rattle.raspcream.proofs.client.Client.ask.Goals as goal

pub returns-clause-stands : goal.returns-clause-stands
returns-clause-stands c = has_requested _ _ _ _ _ _ _ _ _ c.self.view_is c.tell.ensures.kind c.in_ok-head.ensures.ok c.size_of_number-size.ensures c.in-Ok.ensures.stands

pub returns-then-not-can_ask-clause-refused : goal.returns-then-not-can_ask-clause-refused
returns-then-not-can_ask-clause-refused c = misasked _ _ _ c.args.size _ _ _ _ c.self.view_is c.in_ok-head.ensures.ok c.size_of_number-size.ensures c.can_ask.ensures c.if-not-can_ask.true

pub returns-in_err-head-clause-refused : goal.returns-in_err-head-clause-refused
returns-in_err-head-clause-refused c = let p = err_from_is_err_and c.from_residual.result c.from_residual.ensures.1 in rw (p.1, p.2) (refused_so (IsMisasked asks.Head c.args.arg c.args.size c.args.text.now c.args.self.now) (IsWronglyAsked asks.Head c.args.size c.args.text.now c.args.self.now) _ c.in_err-head.ensures.why)
