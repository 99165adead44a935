use Rattle.std.proofs.Common.{ap, ◌∙◌, reverse}
use Rattle.httparse.specs.Grammar.{skip_ows, trim_ows}
use Rattle.proxy_heads.proofs.words.trimmed.Goals as goal

pub returns : goal.returns
unfolding trim_ows
returns c = c.without_last.ensures ∙ ap (λ l. reverse (skip_ows (reverse l))) c.without_first.ensures
