use Rattle.std.proofs.Common.{ap, ◌∙◌}
use Rattle.std.specs.Prelude.{option_copied}
use Rattle.http_types.proofs.TextLemmas.{text_of_value}
use Rattle.http_types.proofs.text.text_of.Goals as goal

pub returns : goal.returns
returns c = ap option_copied c.ok.ensures.value ∙ text_of_value c.to_str.result c.args.value.now.bytes c.to_str.ensures.succeeds c.to_str.ensures.ok
