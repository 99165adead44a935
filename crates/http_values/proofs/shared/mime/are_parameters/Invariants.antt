use Rattle.std.proofs.Common.{ℕ, List, length}
use Rattle.http_values.specs.MediaTypeCuts.{AreParameters}
use Rattle.http_values.proofs.shared.mime.are_parameters.Given as goal

-- what is left is that of parameters exactly where the whole text is
abbrev pub invariant-loop-rest : goal.invariant-loop-rest
invariant-loop-rest l =
    ((qs : List (List ℕ × List ℕ)) → AreParameters l.rest qs → (ps : List (List ℕ × List ℕ)) × AreParameters l.text ps)
    × ((ps : List (List ℕ × List ℕ)) → AreParameters l.text ps → (qs : List (List ℕ × List ℕ)) × AreParameters l.rest qs)

abbrev pub decreases-loop-rest : goal.decreases-loop-rest
decreases-loop-rest l = length l.rest
