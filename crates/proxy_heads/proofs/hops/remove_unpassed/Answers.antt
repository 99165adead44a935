use Rattle.std.proofs.lemmas.Bool.{ne_eqb}
use Rattle.h1_encoder.specs.Meaning.{headers_of}
use Rattle.proxy_heads.proofs.LeftOut.{length_removed}
use Rattle.proxy_heads.proofs.hops.remove_unpassed.Goals as goal

pub returns : goal.returns
returns c =
    length_removed c.args.status (headers_of c.args.headers.now) (headers_of c.remove_hops.new.headers) (headers_of c.remove_name.new.headers)
    (ne_eqb c.args.status 304 c.if-status-eq304.false) c.remove_hops.ensures c.remove_name.ensures
