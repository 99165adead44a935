use Rattle.std.proofs.Common.{sym, ◌∙◌}
use Rattle.h1_decoder.proofs.TargetLemmas.{root_spells}
use Rattle.h1_decoder.proofs.decoder.put_uri.Goals as goal

pub returns-then-is_root-clause-spelled : goal.returns-then-is_root-clause-spelled
returns-then-is_root-clause-spelled c = root_spells c.args.src.now c.default.result (sym c.as_slice.ensures ∙ c.is_root.ensures c.if-is_root.true) c.default.ensures
