use Rattle.std.proofs.Common.{[], ◌∷◌, ◌∙◌, codes}
use Rattle.h1_encoder.specs.Meaning.{headers_of}
use Rattle.proxy_heads.proofs.LeftOut.{then_one}
use Rattle.proxy_heads.proofs.hops.remove_others.Goals as goal

pub returns : goal.returns
returns c =
    let last = codes "upgrade" ∷ [] in
    let a = headers_of c.remove_name.new.headers in
    let b = headers_of c.remove_name-2.new.headers in
    let d = headers_of c.remove_name-3.new.headers in
    let e = headers_of c.remove_name-4.new.headers in
    let f = headers_of c.remove_name-5.new.headers in
    c.remove_name-6.ensures
    ∙ then_one (codes "transfer-encoding") last e f c.remove_name-5.ensures
    ∙ then_one (codes "trailer") (codes "transfer-encoding" ∷ last) d e c.remove_name-4.ensures
    ∙ then_one (codes "te") (codes "trailer" ∷ codes "transfer-encoding" ∷ last) b d c.remove_name-3.ensures
    ∙ then_one (codes "proxy-connection") (codes "te" ∷ codes "trailer" ∷ codes "transfer-encoding" ∷ last) a b c.remove_name-2.ensures
    ∙ then_one (codes "keep-alive") (codes "proxy-connection" ∷ codes "te" ∷ codes "trailer" ∷ codes "transfer-encoding" ∷ last)
    (headers_of c.args.headers.now) a c.remove_name.ensures
