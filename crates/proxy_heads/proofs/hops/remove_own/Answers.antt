use Rattle.std.proofs.Common.{[], ◌∷◌, ◌∙◌, codes}
use Rattle.h1_encoder.specs.Meaning.{headers_of}
use Rattle.proxy_heads.proofs.LeftOut.{then_one}
use Rattle.proxy_heads.proofs.hops.remove_own.Goals as goal

pub returns : goal.returns
returns c =
    let a = headers_of c.remove_name.new.headers in
    let b = headers_of c.remove_name-2.new.headers in
    c.remove_name-3.ensures
    ∙ then_one (codes "content-length") (codes "expect" ∷ []) a b c.remove_name-2.ensures
    ∙ then_one (codes "host") (codes "content-length" ∷ codes "expect" ∷ []) (headers_of c.args.headers.now) a c.remove_name.ensures
