use Rattle.std.proofs.Common.{◌+◌, ap, ◌∙◌, arith}
use Rattle.h1_output.specs.OutputPieces.{body_len, in_row, laid}
use Rattle.h1_output.proofs.CopyLemmas.{used_one, used_none}
use Rattle.h1_output.proofs.copies.copy_first.Goals as goal

pub copy_piece-requires-clause-there : goal.copy_piece-requires-clause-there
copy_piece-requires-clause-there c = omega (arith, c.requires, used_one c.args.first.now c.in-Some.piece c.in-Some.is)

pub returns-in-Some-clause-from : goal.returns-in-Some-clause-from
returns-in-Some-clause-from c = omega (arith, c.copy_piece.ensures.from, used_one c.args.first.now c.in-Some.piece c.in-Some.is)

pub returns-in-Some-clause-copied : goal.returns-in-Some-clause-copied
returns-in-Some-clause-copied c = λ rest all was n is here.
    let row = ap (λ f. laid (in_row f rest) c.args.own.now) c.in-Some.is in
    let out = c.copy_piece.ensures.copied all was n rest is (here ∙ row) in
    (n + c.in-Some.piece.before + body_len c.in-Some.piece.body, out.0, out.1)

pub returns-in-None-clause-from : goal.returns-in-None-clause-from
returns-in-None-clause-from c = used_none c.args.first.now c.in-None.is

pub returns-in-None-clause-copied : goal.returns-in-None-clause-copied
returns-in-None-clause-copied c = λ rest all was n is here.
    (n, is, here ∙ ap (λ f. laid (in_row f rest) c.args.own.now) c.in-None.is)
