use Rattle.std.proofs.Common.{refl}
use Rattle.app_get.proofs.Outcomes.{tried_new, tried_done, tried_kept}
use Rattle.app_get.proofs.tries.try_twice.Goals as goal

pub returns-in-None-clause-tried : goal.returns-in-None-clause-tried
returns-in-None-clause-tried g c = tried_new _ _ _ _ _ _ c.in-None.ensures.noted refl c.over_new.ensures.noted

pub returns-then-not-may_be_repeated-clause-tried : goal.returns-then-not-may_be_repeated-clause-tried
returns-then-not-may_be_repeated-clause-tried g c = tried_kept _ _ _ _ _ c.in-Some.ensures.noted refl

pub returns-else-not-may_be_repeated-clause-tried : goal.returns-else-not-may_be_repeated-clause-tried
returns-else-not-may_be_repeated-clause-tried g c =
    let may = c.may_be_repeated.ensures c.if-not-may_be_repeated.false in
    tried_done _ _ _ _ _ _ c.in-Some.ensures.noted may.0 may.1 c.over_new-in-Some.ensures.noted
