use Rattle.std.proofs.Common.{Option, ap, ◌∙◌}
use Rattle.model_state.specs.Kept.{is_free}
use Rattle.h1_connection.specs.Parts.{kept_of}
use Rattle.h1_connection.specs.declared.connection.exchange.Exchange.{Exchange}
use Rattle.h1_connection.proofs.StepLemmas.{pass_some, pass_none, rest_behind}
use Rattle.h1_connection.proofs.connection.parts.Parts.pass_body.Goals as goal

pub returns-in-Some-clause-kept : goal.returns-in-Some-clause-kept
returns-in-Some-clause-kept c = pass_some c.args.self.now _ _ _ c.in-Some.is c.pass.ensures.exchange c.pass.ensures.input

pub returns-in_default-clause-kept : goal.returns-in_default-clause-kept
returns-in_default-clause-kept c = pass_none c.args.self.now c.in_default.is

pub pass-requires-clause-behind : goal.pass-requires-clause-behind
pass-requires-clause-behind c = rest_behind c.args.self.now _ c.in-Some.is c.requires.behind

pub pass-requires-clause-unsearched : goal.pass-requires-clause-unsearched
pass-requires-clause-unsearched c = λ busy.
    c.requires.searched (ap (λ (e : Option Exchange). is_free (kept_of (record c.args.self.now { exchange = e }))) c.in-Some.is ∙ busy)
