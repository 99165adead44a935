use Rattle.std.proofs.Common.{ℕ, List, subst, arith}
use Rattle.h1_decoder.specs.HeadPosition.{HasScanned}
use Rattle.h1_codec.proofs.FirstBytes.{seen_first, is_next, all_bytes, is_waiting, is_too_long}
use Rattle.h1_codec.proofs.next_message.find_next.Goals as goal

pub returns-in-Piece-clause-found : goal.returns-in-Piece-clause-found
returns-in-Piece-clause-found c seen =
    let bytes = c.args.bytes.now in
    let here = seen_first c.args.limit c.min-len.result bytes c.min-len.ensures c.args.scanner seen in
    is_next c.args.limit c.min-len.result bytes c.min-len.ensures c.in-Piece.start c.in-Piece.end (c.in-Piece.ensures.answer here)

pub returns-in-Open-clause-found : goal.returns-in-Open-clause-found
returns-in-Open-clause-found c seen =
    let bytes = c.args.bytes.now in
    let here = seen_first c.args.limit c.min-len.result bytes c.min-len.ensures c.args.scanner seen in
    let few = c.if-len-limit.true in (
      is_waiting c.args.limit c.min-len.result bytes c.min-len.ensures (c.in-Open.ensures.answer here) few,
      subst (λ (b : List ℕ). HasScanned c.scan_any.new.self b) (all_bytes c.args.limit c.min-len.result bytes c.min-len.ensures few)
          (c.in-Open.ensures.goes_on here),
    )

pub returns-in-Open-2-clause-found : goal.returns-in-Open-2-clause-found
returns-in-Open-2-clause-found c seen =
    let bytes = c.args.bytes.now in
    let here = seen_first c.args.limit c.min-len.result bytes c.min-len.ensures c.args.scanner seen in
    is_too_long c.args.limit c.min-len.result bytes c.min-len.ensures (c.in-Open-2.ensures.answer here) (omega (arith, c.if-len-limit.false))
