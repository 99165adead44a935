use Rattle.std.specs.Prelude.{◌≡◌, length}
use Rattle.h1_encoder.specs.Meaning.{headers_of}
use Rattle.model_proxy.specs.HopNames.{without}
use Rattle.proxy_heads.specs.Words.{listed_words}
use Rattle.proxy_heads.proofs.hops.remove_listed.Given as goal

abbrev pub invariant-loop-value : goal.invariant-loop-value
invariant-loop-value l = without (listed_words l.rest) (headers_of l.headers) ≡ without (listed_words l.initial.rest) (headers_of l.initial.headers)

abbrev pub decreases-loop-value : goal.decreases-loop-value
decreases-loop-value l = length l.rest
