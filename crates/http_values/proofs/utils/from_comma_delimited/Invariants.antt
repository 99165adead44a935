use Rattle.http_values.specs.CommaList.{AreRead, AreTexts, values_parts}
use Rattle.http_values.proofs.utils.from_comma_delimited.Given as goal

abbrev pub invariant-loop-value : goal.invariant-loop-value
invariant-loop-value g l =
    AreTexts l.yielded × AreRead g.T.FromText.is_text g.T.FromText.reads (values_parts l.yielded) l.items.items
