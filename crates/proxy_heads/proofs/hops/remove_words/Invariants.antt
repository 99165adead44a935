use Rattle.std.specs.Prelude.{◌≡◌, length}
use Rattle.h1_encoder.specs.Meaning.{headers_of}
use Rattle.model_proxy.specs.HopNames.{words_in, without}
use Rattle.proxy_heads.proofs.hops.remove_words.Given as goal

abbrev pub invariant-loop-first : goal.invariant-loop-first
invariant-loop-first l = without (words_in l.rest) (headers_of l.headers) ≡ without (words_in l.list) (headers_of l.initial.headers)

abbrev pub decreases-loop-first : goal.decreases-loop-first
decreases-loop-first l = length l.rest
