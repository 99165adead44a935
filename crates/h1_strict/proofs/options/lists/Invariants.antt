use Rattle.std.specs.Prelude.{◌≡◌, length}
use Rattle.h1_strict.specs.Options.{lists}
use Rattle.h1_strict.proofs.options.lists.Given as goal

abbrev pub invariant-loop-value : goal.invariant-loop-value
invariant-loop-value l = lists l.word l.rest ≡ lists l.word l.values

abbrev pub decreases-loop-value : goal.decreases-loop-value
decreases-loop-value l = length l.rest
