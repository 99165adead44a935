use Rattle.std.proofs.Common.{refl, sym, ◌∙◌}
use Rattle.serve_blocking.proofs.Settled.{marked, says_closing, says_same}
use Rattle.serve_blocking.proofs.body.Body.settle.Goals as goal

pub returns-then-not-branch-clause-says : goal.returns-then-not-branch-clause-says
returns-then-not-branch-clause-says g c =
    says_same _ c.args.head.now c.args.head.now refl (λ holds. sym c.if-not-branch.true ∙ c.in_ok-has_to_close.ensures.closes holds)

pub returns-clause-says : goal.returns-clause-says
returns-clause-says g c =
    says_closing _ _ _ c.set_connection_type.ensures (λ fails left. sym c.if-not-branch.false ∙ c.in_ok-has_to_close.ensures.stays fails left)

pub returns-then-not-branch-clause-passed : goal.returns-then-not-branch-clause-passed
returns-then-not-branch-clause-passed g c = λ unmarked. c.in_ok-has_to_close.ensures.passed c.if-not-branch.true

pub returns-clause-passed : goal.returns-clause-passed
returns-clause-passed g c = λ unmarked. marked _ c.args.head.now c.set_connection_type.new.self c.set_connection_type.ensures unmarked
