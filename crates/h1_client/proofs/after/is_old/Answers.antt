use Rattle.std.proofs.Common.{ap, ◌∙◌}
use Rattle.h1_decoder.specs.declared.response.ResponseItem.{ResponseItem}
use Rattle.http_types.specs.Version.{is_below_http11}
use Rattle.h1_client.proofs.AfterLemmas.{old_minor}
use Rattle.h1_client.proofs.after.is_old.Goals as goal

pub returns : goal.returns
returns c = λ piece a reading says.
    c.is_below_http11.ensures ∙ ap (λ (x : ResponseItem). is_below_http11 x.head.version) c.item.view_is ∙ ap is_below_http11 says.version ∙ old_minor a.minor
