use Rattle.std.proofs.Common.{◌++◌, ◌∷◌, [], refl, ap, ◌∙◌}
use Rattle.h1_decoder.specs.LaxCopy.{Copying}
use Rattle.h1_decoder.proofs.LaxCopyLemmas.{plain_on}
use Rattle.h1_decoder.proofs.lax.LaxCopy.put_plain.Goals as goal

pub returns-clause-on : goal.returns-clause-on
returns-clause-on c =
    plain_on c.args.self.now _ c.args.byte c.requires.plain (c.requires.copying.apart c.requires.plain)
    (c.in_ok-push.ensures.items ∙ ap (λ (s : Copying). s.text ++ c.args.byte ∷ []) c.self.view_is)
    (ap (λ (s : Copying). s.name) c.self.view_is) refl
