use Rattle.std.proofs.Common.{◌+◌, sym, subst}
use Rattle.model_h1.specs.Place.{Place, in_size}
use Rattle.h1_payload.specs.QuietWays.{LeadsQuietly}
use Rattle.h1_payload.proofs.QuietWays.{line_leads}
use Rattle.h1_payload.proofs.size_line.pass_line.Goals as goal

pub returns-then-has_line_end : goal.returns-then-has_line_end
returns-then-has_line_end c =
    let at = c.pass_digits-at.result.0 in
    subst (λ (q : Place). LeadsQuietly (in_size c.args.size) c.args.bytes.now c.args.from (at + 2) q)
    (sym c.after_line.ensures)
    (line_leads (in_size c.args.size) c.args.bytes.now c.args.from at c.pass_digits-at.result.1 c.pass_digits-at.ensures c.if-has_line_end.ensures)
