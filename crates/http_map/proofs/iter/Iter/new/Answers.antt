use Rattle.std.proofs.Common.{◌∙◌, sym}
use Rattle.http_map.proofs.MapLemmas.{length-pairs}
use Rattle.http_map.proofs.iter.Iter.new.Goals as goal

pub invariant_of-result : goal.invariant_of-result
invariant_of-result c = record {
  count = c.requires.counted ∙ sym (length-pairs c.args.later);
  entries = c.requires.entries;
}
