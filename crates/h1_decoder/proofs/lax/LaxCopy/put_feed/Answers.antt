use Rattle.std.proofs.Common.{◌++◌, ◌∷◌, [], List, ℕ, ap, ap₂, ◌∙◌}
use Rattle.httparse.specs.Ascii.{line_feed}
use Rattle.h1_decoder.specs.LaxCopy.{Copying}
use Rattle.h1_decoder.proofs.LaxCopyLemmas.{feed_on}
use Rattle.h1_decoder.proofs.lax.LaxCopy.put_feed.Goals as goal

pub returns-clause-on : goal.returns-clause-on
returns-clause-on c =
    let name = ap (λ (s : Copying). s.name) c.self.view_is in
    let text = ap (λ (s : Copying). s.text) c.self.view_is in
    feed_on c.args.self.now _ c.requires.in_name c.requires.copying.no_colon
    (c.in_ok-push.ensures.items ∙ ap (λ (l : List ℕ). l ++ line_feed ∷ []) (c.in_ok-extend_from_slice.ensures.items ∙ ap₂ (λ (a b : List ℕ). a ++ b) text (c.deref.ensures.value ∙ name)))
    c.clear.ensures.items (ap (λ (s : Copying). s.in_name) c.self.view_is ∙ c.requires.in_name)
