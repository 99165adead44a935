use Rattle.std.proofs.Common.{[], ◌∷◌, ◌∙◌, codes}
use Rattle.h1_encoder.specs.Meaning.{headers_of}
use Rattle.proxy_heads.proofs.LeftOut.{then_one}
use Rattle.proxy_heads.proofs.hops.remove_told.Goals as goal

pub returns : goal.returns
returns c =
    let last = codes "forwarded" ∷ [] in
    let a = headers_of c.remove_name.new.headers in
    let b = headers_of c.remove_name-2.new.headers in
    let d = headers_of c.remove_name-3.new.headers in
    c.remove_name-4.ensures
    ∙ then_one (codes "x-forwarded-host") last b d c.remove_name-3.ensures
    ∙ then_one (codes "x-forwarded-proto") (codes "x-forwarded-host" ∷ last) a b c.remove_name-2.ensures
    ∙ then_one (codes "x-forwarded-for") (codes "x-forwarded-proto" ∷ codes "x-forwarded-host" ∷ last) (headers_of c.args.headers.now) a
    c.remove_name.ensures
