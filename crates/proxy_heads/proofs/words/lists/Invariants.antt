use Rattle.std.specs.Prelude.{◌≡◌, length}
use Rattle.model_proxy.specs.HopNames.{is_among}
use Rattle.proxy_heads.specs.Words.{listed_words}
use Rattle.proxy_heads.proofs.words.lists.Given as goal

abbrev pub invariant-loop-value : goal.invariant-loop-value
invariant-loop-value l = is_among l.word (listed_words l.rest) ≡ is_among l.word (listed_words l.values)

abbrev pub decreases-loop-value : goal.decreases-loop-value
decreases-loop-value l = length l.rest
