use Rattle.std.proofs.Common.{ap, ◌∙◌, codes}
use Rattle.h1_encoder.specs.Meaning.{headers_of}
use Rattle.proxy_heads.proofs.MapLemmas.{removed_lines}
use Rattle.proxy_heads.proofs.LeftOut.{hops_removed}
use Rattle.proxy_heads.proofs.hops.remove_hops.Goals as goal

pub returns : goal.returns
returns c =
    let m = c.args.headers.now in
    let first = ap headers_of c.remove-connection.ensures.after ∙ removed_lines (codes "connection") m c.len-valid.ensures.valid.distinct in
    hops_removed m c.remove-connection.result (headers_of c.remove-connection.new.self) (headers_of c.remove_others.new.headers)
    (headers_of c.remove_listed.new.headers) c.len-valid.ensures.valid.distinct c.remove-connection.ensures.values first c.remove_others.ensures
    c.remove_listed.ensures
