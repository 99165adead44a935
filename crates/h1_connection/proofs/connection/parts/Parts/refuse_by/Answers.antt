use Rattle.std.proofs.Common.{ap}
use Rattle.h1_connection.specs.Stock.{Stock}
use Rattle.h1_connection.proofs.HeadLemmas.{forgotten_settled}
use Rattle.h1_connection.proofs.connection.parts.Parts.refuse_by.Goals as goal

pub returns-clause-ok : goal.returns-clause-ok
returns-clause-ok c = forgotten_settled _ _ c.refuse.new.self _ c.forget.ensures c.in_ok-refuse.ensures.ok

pub returns-clause-ahead : goal.returns-clause-ahead
returns-clause-ahead c = ap (λ (i : Stock). i.ahead) c.forget.ensures
