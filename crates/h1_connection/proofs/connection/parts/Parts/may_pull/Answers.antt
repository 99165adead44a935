use Rattle.std.proofs.Common.{true, false, refl, sym, ◌∙◌}
use Rattle.h1_connection.specs.Parts.{kept_of}
use Rattle.h1_connection.proofs.AllowedLemmas.{pull_either}
use Rattle.h1_connection.proofs.connection.parts.Parts.may_pull.Goals as goal

pub returns-then-can_pull : goal.returns-then-can_pull
returns-then-can_pull c = pull_either _ (kept_of c.args.self.now) true _ (sym c.if-can_pull.true ∙ c.can_pull.ensures) refl

pub returns : goal.returns
returns c = pull_either _ (kept_of c.args.self.now) false _ (sym c.if-can_pull.false ∙ c.can_pull.ensures) c.can_pull_frame.ensures
