use Rattle.std.proofs.Common.{◌∙◌, sym, ap, Some, ℕ}
use Rattle.http_files.proofs.NumberLemmas.{place_is}
use Rattle.http_files.proofs.ranges.place_in.Goals as goal

pub returns-then-is_number : goal.returns-then-is_number
returns-then-is_number c =
    ap (λ (n : ℕ). Some n) c.unwrap_or.ensures ∙ place_is _ c.args.text.now c.parse.result c.parse.ensures.value.0 (sym c.is_number.ensures ∙ c.if-is_number.true)
