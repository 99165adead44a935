use Rattle.std.proofs.Common.{◌++◌, ◌∷◌, [], List, ℕ, take, refl, sym, ap, ap₂, ◌∙◌}
use Rattle.httparse.specs.Ascii.{colon}
use Rattle.model_client.specs.LaxText.{without_blanks}
use Rattle.h1_decoder.specs.LaxCopy.{Copying}
use Rattle.h1_decoder.proofs.LaxCopyLemmas.{colon_on}
use Rattle.h1_decoder.proofs.lax.LaxCopy.put_colon.Goals as goal

pub returns-clause-on : goal.returns-clause-on
returns-clause-on c =
    let name = ap (λ (s : Copying). s.name) c.self.view_is in
    let text = ap (λ (s : Copying). s.text) c.self.view_is in
    let cut = c.len_without_blanks-len.ensures.cut ∙ ap without_blanks (c.deref.ensures.value ∙ name) in
    colon_on c.args.self.now _ c.requires.in_name c.requires.copying.no_colon
    (c.in_ok-push.ensures.items ∙ ap (λ (l : List ℕ). l ++ colon ∷ []) (c.in_ok-extend_from_slice.ensures.items ∙ ap₂ (λ (a b : List ℕ). a ++ b) text
    (ap (take c.len_without_blanks-len.result) (c.deref-2.ensures.value ∙ sym c.deref.ensures.value) ∙ cut)))
    c.clear.ensures.items refl
