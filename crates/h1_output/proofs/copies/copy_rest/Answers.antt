use Rattle.std.proofs.Common.{◌≡◌, ◌+◌, ◌≤◌, length, drop, ap, ◌∙◌, arith, inl, inr}
use Rattle.std.proofs.lemmas.List.{drop_all}
use Rattle.h1_output.specs.OutputPieces.{body_len, laid}
use Rattle.h1_output.proofs.CopyLemmas.{piece_at, used_first, laid_none}
use Rattle.h1_output.proofs.copies.copy_rest.Goals as goal

pub returns-in_default-clause-copied : goal.returns-in_default-clause-copied
returns-in_default-clause-copied c =
    let items = c.args.rest.now.items in
    let own = drop c.loop-place.place.from c.args.own.now in
    let end : length items ≤ c.loop-place.next = grind (arith, c.get.ensures.variant, c.in_default.is) in
    let none : laid (drop c.loop-place.next items) own ≡ own = ap (λ ps. laid ps own) (drop_all c.loop-place.next items end) ∙ laid_none own in
    λ all was n is here.
    let then' = c.loop-place.invariant.3 all was n is here in
    (then'.0, then'.1, inl (then'.2 ∙ none))

pub copy_piece-place-requires-clause-there : goal.copy_piece-place-requires-clause-there
copy_piece-place-requires-clause-there c =
    let row = piece_at c.args.rest.now.items c.loop-place.next c.in-Some.piece.now c.in-Some.ensures.item.3.0 c.in-Some.ensures.lookup in
    let sum = used_first (drop c.loop-place.next c.args.rest.now.items) (drop (c.loop-place.next + 1) c.args.rest.now.items) c.in-Some.piece.now row in
    omega (arith, sum, c.loop-place.invariant.1)

pub loop-place-preserved : goal.loop-place-preserved
loop-place-preserved c =
    let items = c.args.rest.now.items in
    let row = piece_at items c.loop-place.next c.in-Some.piece.now c.in-Some.ensures.item.3.0 c.in-Some.ensures.lookup in
    let sum = used_first (drop c.loop-place.next items) (drop (c.loop-place.next + 1) items) c.in-Some.piece.now row in (
      c.copy_piece-place.ensures.room,
      omega (arith, sum, c.loop-place.invariant.1, c.copy_piece-place.ensures.from),
      omega (arith, c.in-Some.ensures.item.3.0),
      λ all was n is here.
          let then' = c.loop-place.invariant.3 all was n is here in
          let out = c.copy_piece-place.ensures.copied all was then'.0 (drop (c.loop-place.next + 1) items) then'.1 (then'.2 ∙ ap (λ ps. laid ps (drop c.loop-place.place.from c.args.own.now)) row) in
          (then'.0 + c.in-Some.piece.now.before + body_len c.in-Some.piece.now.body, out.0, out.1),
    )

pub returns-clause-copied : goal.returns-clause-copied
returns-clause-copied c = λ all was n is here.
    let then' = c.loop-place.invariant.3 all was n is here in
    (then'.0, then'.1, inr (omega (arith, c.loop-place-test.false, c.loop-place.invariant.0)))
