use Rattle.std.proofs.Common.{◌≡◌, rules, ◌<◌, ◌-◌, ◌∷◌, ◌++◌, [], length, refl, ap, ◌∙◌, arith, ℕ, List, take_all}
use Rattle.h1_output.specs.Queued.{with_piece}
use Rattle.h1_output.specs.OutputPieces.{in_row, queued}
use Rattle.h1_output.specs.declared.piece.Body.TheVariants.{Own}
use Rattle.h1_output.specs.declared.piece.Piece.{Piece}
use Rattle.h1_output.proofs.Moves.{piece_laid, piece_queued}
use Rattle.h1_output.proofs.queue.Segments.put_piece.Goals as goal

piece : ℕ → ℕ → List ℕ → Piece
piece len m bytes = record { before = len - m; body = Own (length bytes) }

pub invariant_of-self-2 : goal.invariant_of-self-2
invariant_of-self-2 c =
    let own = c.self.inside.own.items in
    let bytes = c.args.bytes.now in
    let some : 0 < length c.args.bytes.now = search rules in
    let p : Piece = record { before = c.len.result - c.self.inside.marked; body = Own (length bytes) } in
    let at : p.before ≡ length own - c.self.inside.marked = ap (λ n. n - c.self.inside.marked) c.len.ensures.value in
    let items = c.put_last.ensures.row ∙ ap (λ rest. in_row c.self.inside.first rest ++ p ∷ []) c.in_ok-reserve.ensures.items in
    let more = c.in_ok-extend_from_slice.ensures.ok in
    let is = piece_laid (in_row c.self.inside.first c.self.inside.rest.items) own bytes bytes c.self.inside.marked c.self.inside.shared c.self.invariant.0 p at refl (take_all (length bytes) bytes (omega arith)) refl some in
    let marked = c.len-self-inside.ensures.value ∙ ap length more in
    (rw (items, more, marked) (record { some = is.some; fits = is.fits; marked_is = is.marked_is; many_is = omega (arith, is.many_is) }), c.self.invariant.1, c.put_last.ensures.kept)

pub returns-clause-ok : goal.returns-clause-ok
returns-clause-ok c =
    let own = c.self.inside.own.items in
    let bytes = c.args.bytes.now in
    let some : 0 < length c.args.bytes.now = search rules in
    let p : Piece = record { before = c.len.result - c.self.inside.marked; body = Own (length bytes) } in
    let at : p.before ≡ length own - c.self.inside.marked = ap (λ n. n - c.self.inside.marked) c.len.ensures.value in
    let items = c.put_last.ensures.row ∙ ap (λ rest. in_row c.self.inside.first rest ++ p ∷ []) c.in_ok-reserve.ensures.items in
    let more = c.in_ok-extend_from_slice.ensures.ok in
    (λ i. queued (items i) (more i))
    ∙ piece_queued (in_row c.self.inside.first c.self.inside.rest.items) own bytes bytes c.self.inside.marked c.self.inside.shared c.self.invariant.0 p at refl (take_all (length bytes) bytes (omega arith)) refl some
    ∙ ap (with_piece bytes) c.self.view_is
