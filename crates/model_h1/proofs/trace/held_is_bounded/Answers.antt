use Rattle.std.proofs.Common.{◌≤◌, List, length, subst}
use Rattle.model_h1.specs.Sums.{Step, taken}
use Rattle.model_h1.specs.Past.{passed}
use Rattle.model_h1.proofs.PastLemmas.{legal_of}
use Rattle.model_h1.proofs.HeldLemmas.{bounded}
use Rattle.model_h1.proofs.trace.held_is_bounded.Goals as goal

pub returns-clause-passed : goal.returns-clause-passed
returns-clause-passed c setting trace past x y =
    subst (λ (t : List Step). passed past ≤ length (taken t)) y.same (bounded setting past (legal_of setting trace past x y)).passed

pub returns-clause-held : goal.returns-clause-held
returns-clause-held c setting trace past x y = (bounded setting past (legal_of setting trace past x y)).held
