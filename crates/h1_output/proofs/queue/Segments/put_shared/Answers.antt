use Rattle.std.proofs.Common.{◌≡◌, rules, ◌<◌, ◌-◌, ◌∷◌, ◌++◌, [], length, refl, sym, ap, ◌∙◌, ◌+◌, append-nil}
use Rattle.h1_output.specs.Queued.{with_piece}
use Rattle.h1_output.specs.OutputPieces.{in_row, queued}
use Rattle.h1_output.specs.declared.piece.Body.TheVariants.{Shared}
use Rattle.h1_output.specs.declared.piece.Piece.{Piece}
use Rattle.h1_output.proofs.Moves.{piece_laid, piece_queued}
use Rattle.h1_output.proofs.queue.Segments.put_shared.Goals as goal

pub invariant_of-self-2 : goal.invariant_of-self-2
invariant_of-self-2 c =
    let own = c.self.inside.own.items in
    let bytes = c.args.bytes in
    let some : 0 < length c.args.bytes = search rules in
    let p : Piece = record { before = c.len-3.result - c.self.inside.marked; body = Shared bytes } in
    let at : p.before ≡ length own - c.self.inside.marked = ap (λ n. n - c.self.inside.marked) c.len-3.ensures.value in
    let items = c.put_last.ensures.row ∙ ap (λ rest. in_row c.self.inside.first rest ++ p ∷ []) c.in_ok-reserve.ensures.items in
    let is = piece_laid (in_row c.self.inside.first c.self.inside.rest.items) own [] bytes c.self.inside.marked c.self.inside.shared c.self.invariant.0 p at refl refl refl some in
    let all = append-nil own in
    let marked = c.len-self-inside.ensures.value in
    let many = ap (λ n. c.self.inside.shared + n) c.len-2.ensures.value in
    (rw (items, marked, many, ← all) is, search rules, c.put_last.ensures.kept)

pub returns-clause-ok : goal.returns-clause-ok
returns-clause-ok c =
    let own = c.self.inside.own.items in
    let bytes = c.args.bytes in
    let some : 0 < length c.args.bytes = search rules in
    let p : Piece = record { before = c.len-3.result - c.self.inside.marked; body = Shared bytes } in
    let at : p.before ≡ length own - c.self.inside.marked = ap (λ n. n - c.self.inside.marked) c.len-3.ensures.value in
    let items = c.put_last.ensures.row ∙ ap (λ rest. in_row c.self.inside.first rest ++ p ∷ []) c.in_ok-reserve.ensures.items in
    let all = sym (append-nil own) in
    (λ i. queued (items i) (all i))
    ∙ piece_queued (in_row c.self.inside.first c.self.inside.rest.items) own [] bytes c.self.inside.marked c.self.inside.shared c.self.invariant.0 p at refl refl refl some
    ∙ ap (with_piece bytes) c.self.view_is
