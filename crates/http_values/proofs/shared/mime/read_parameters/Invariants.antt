use Rattle.std.proofs.Common.{ℕ, List, ◌++◌, length}
use Rattle.http_values.specs.MediaTypeCuts.{AreParameters}
use Rattle.http_values.specs.Mime.{pairs_of}
use Rattle.http_values.proofs.shared.mime.read_parameters.Given as goal

-- what is left goes on with the parameters of the whole text
abbrev pub invariant-loop-rest : goal.invariant-loop-rest
invariant-loop-rest l =
    ((qs : List (List ℕ × List ℕ)) → AreParameters l.rest qs → AreParameters l.text (pairs_of l.params.items ++ qs))
    × ((ps : List (List ℕ × List ℕ)) → AreParameters l.text ps → (qs : List (List ℕ × List ℕ)) × AreParameters l.rest qs)

abbrev pub decreases-loop-rest : goal.decreases-loop-rest
decreases-loop-rest l = length l.rest
