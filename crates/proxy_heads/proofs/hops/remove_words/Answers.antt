use Rattle.std.proofs.Common.{ap, ◌∙◌, ◌≡◌, ◌∷◌, []}
use Rattle.http_header.specs.Token.{lowercase}
use Rattle.h1_encoder.specs.Meaning.{headers_of}
use Rattle.model_proxy.specs.HopNames.{without}
use Rattle.proxy_heads.specs.Words.{word_of}
use Rattle.proxy_heads.proofs.LeftOut.{first_removed}
use Rattle.proxy_heads.proofs.hops.remove_words.Goals as goal

pub loop-first-preserved : goal.loop-first-preserved
loop-first-preserved c =
    let before = headers_of c.loop-first.headers in
    let after = headers_of c.remove_name.new.headers in
    let one : after ≡ without (word_of c.in-Some.first.now ∷ []) before =
    c.remove_name.ensures ∙ ap (λ t. without (lowercase t ∷ []) before) c.trimmed.ensures in
    first_removed c.loop-first.rest.now c.in-Some.first.now c.in-Some.others.now before after c.in-Some.ensures.1 one ∙ c.loop-first.invariant
