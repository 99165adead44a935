use Rattle.std.specs.Prelude.{◌≡◌, length}
use Rattle.model_proxy.specs.HopNames.{is_among, words_in}
use Rattle.proxy_heads.proofs.words.has_word.Given as goal

abbrev pub invariant-loop-first : goal.invariant-loop-first
invariant-loop-first l = is_among l.word (words_in l.rest) ≡ is_among l.word (words_in l.list)

abbrev pub decreases-loop-first : goal.decreases-loop-first
decreases-loop-first l = length l.rest
