use Rattle.h1_encoder.specs.Meaning.{headers_of}
use Rattle.proxy_heads.proofs.LeftOut.{trusted_kept, others_kept}
use Rattle.proxy_heads.proofs.hops.remove_unforwarded.Goals as goal

pub returns-then-trusts_client : goal.returns-then-trusts_client
returns-then-trusts_client c =
    trusted_kept (headers_of c.args.headers.now) (headers_of c.remove_hops.new.headers) (headers_of c.remove_own.new.headers) c.args.trusts_client
    c.if-trusts_client.true c.remove_hops.ensures c.remove_own.ensures

pub returns : goal.returns
returns c =
    others_kept (headers_of c.args.headers.now) (headers_of c.remove_hops.new.headers) (headers_of c.remove_own.new.headers)
    (headers_of c.remove_told.new.headers) c.args.trusts_client c.if-trusts_client.false c.remove_hops.ensures c.remove_own.ensures
    c.remove_told.ensures
