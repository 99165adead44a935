use Rattle.std.proofs.Common.{◌≡◌, ◌<◌, ◌^◌, length, ap, ◌∙◌, arith}
use Rattle.http_map.specs.HeaderMap.{pairs, value_count}
use Rattle.http_map.proofs.MapLemmas.{length-pairs}
use Rattle.http_map.proofs.map.edits.HeaderMapIntoIterator.into_iter.Goals as goal

pub returns : goal.returns
returns c =
    let gives : c.new.result ≡ pairs c.args.self = c.new.ensures ∙ ap pairs (c.into_iter.ensures ∙ c.self.view_is) in
    let counted : length c.new.result ≡ value_count c.args.self = ap length gives ∙ length-pairs c.args.self in
    let fits : value_count c.args.self < 2 ^ 64 = rw (← c.self.view_is) (omega (arith, c.self.invariant.count, c.self.invariant.fits)) in
    record { into_iter_gives = (gives, counted, omega (arith, counted, fits)) }
