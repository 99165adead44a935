use Rattle.std.proofs.Common.{ℕ, List, ◌++◌, ap, ap₂, ◌∙◌}
use Rattle.h1_decoder.specs.LaxCopy.{Copying}
use Rattle.h1_decoder.proofs.LaxCopyLemmas.{put_end}
use Rattle.h1_decoder.proofs.lax.LaxCopy.end.Goals as goal

pub returns : goal.returns
returns c =
    let name = ap (λ (s : Copying). s.name) c.self.view_is in
    let text = ap (λ (s : Copying). s.text) c.self.view_is in
    c.in_ok-extend_from_slice.ensures.items ∙ ap₂ (λ (a b : List ℕ). a ++ b) text (c.deref.ensures.value ∙ name)
    ∙ put_end c.args.self.now.text c.args.self.now.name c.args.self.now.in_name c.requires.apart c.requires.no_colon
