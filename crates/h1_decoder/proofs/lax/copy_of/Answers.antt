use Rattle.std.proofs.Common.{sym, ap, ◌∙◌, arith}
use Rattle.std.proofs.lemmas.List.{drop_all}
use Rattle.h1_decoder.specs.LaxCopy.{Copying, copy_with}
use Rattle.h1_decoder.proofs.lax.copy_of.Goals as goal

pub returns : goal.returns
returns c =
    let none = drop_all c.loop-byte.byte-index c.args.piece.now (omega (arith, c.loop-byte-test.false)) in
    c.in_ok-copy_from_slice.ensures ∙ c.deref.ensures.value ∙ ap (λ (s : Copying). s.text) c.copy-2.view_is ∙ c.in_ok-end.ensures
    ∙ ap (copy_with c.loop-byte.copy) (sym none) ∙ c.loop-byte.invariant.1
