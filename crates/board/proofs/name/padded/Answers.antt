use Rattle.std.proofs.Common.{◌++◌, length, drop, ap, ◌∙◌}
use Rattle.std.specs.Prelude.{replicate}
use Rattle.std.proofs.lemmas.List.{drop-replicate}
use Rattle.board.proofs.name.padded.Goals as goal

pub returns : goal.returns
returns c =
    let n = length c.args.bytes.now in
    ap (λ xs. xs ++ drop n (replicate 64 0)) c.copy_from_slice.ensures.after ∙ ap (λ rest. c.args.bytes.now ++ rest) (drop-replicate n 64 0)
