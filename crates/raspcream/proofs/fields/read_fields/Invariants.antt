use Rattle.std.proofs.Common.{length}
use Rattle.raspcream.proofs.PackedLemmas.{HasReadTo}
use Rattle.raspcream.proofs.fields.read_fields.Given as goal

abbrev pub invariant-loop-rest : goal.invariant-loop-rest
invariant-loop-rest l = HasReadTo l.text l.rest l.map

abbrev pub decreases-loop-rest : goal.decreases-loop-rest
decreases-loop-rest l = length l.rest
