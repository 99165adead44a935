use Rattle.std.proofs.Common.{◌++◌, length, ap, ◌∙◌, sym}
use Rattle.http_map.specs.Owned.{unnamed, drained}
use Rattle.http_map.proofs.OwnedLemmas.{length-drained}
use Rattle.http_map.proofs.owned.Drain.new.Goals as goal

pub invariant_of-result : goal.invariant_of-result
invariant_of-result c = record {
  count = c.requires.counted ∙ sym (ap (λ vs. length (unnamed vs ++ drained c.args.later)) c.none.ensures ∙ length-drained c.args.later);
  entries = c.requires.entries;
}
