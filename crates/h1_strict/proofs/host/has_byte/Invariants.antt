use Rattle.std.specs.Prelude.{◌≡◌, length, ◌==◌}
use Rattle.std.specs.List.{list_any}
use Rattle.h1_strict.proofs.host.has_byte.Given as goal

abbrev pub invariant-loop-first : goal.invariant-loop-first
invariant-loop-first l = list_any (λ b. b == l.byte) l.rest ≡ list_any (λ b. b == l.byte) l.text

abbrev pub decreases-loop-first : goal.decreases-loop-first
decreases-loop-first l = length l.rest
