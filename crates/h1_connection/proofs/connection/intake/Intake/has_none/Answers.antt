use Rattle.std.proofs.Common.{None, sym, ap, ◌∙◌, subst}
use Rattle.h1_connection.specs.Stock.{Stock, IsHeadAhead}
use Rattle.h1_connection.proofs.IntakeLemmas.{none_counted}
use Rattle.h1_connection.proofs.connection.intake.Intake.has_none.Goals as goal

pub returns-clause-none : goal.returns-clause-none
returns-clause-none c = λ is. subst (λ (s : Stock). IsHeadAhead s None) c.self.view_is (c.has_none.ensures is)

pub returns-clause-ahead : goal.returns-clause-ahead
returns-clause-ahead c = λ is.
    sym (ap (λ (s : Stock). s.ahead) c.self.view_is)
    ∙ none_counted c.self.inside.count c.self.inside.input c.is_searched.ensures.found (c.has_none.ensures is) (sym c.is_searched.ensures.value ∙ c.if-not-is_searched.false)
