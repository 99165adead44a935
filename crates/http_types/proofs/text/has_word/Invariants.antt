use Rattle.std.proofs.Common.{◌≡◌, length}
use Rattle.http_types.specs.HttpMessage.{has_word}
use Rattle.http_types.proofs.text.has_word.Given as goal

-- the word stands in the rest exactly where it stands in the text
abbrev pub invariant-loop-tail : goal.invariant-loop-tail
invariant-loop-tail l = has_word l.word l.rest ≡ has_word l.word l.text

abbrev pub decreases-loop-tail : goal.decreases-loop-tail
decreases-loop-tail l = length l.rest
