use Rattle.std.proofs.Common.{rules, ◌≡◌, ◌+◌, ◌-◌, ◌∷◌, ◌++◌, [], length, refl, sym, ap, ◌∙◌, append-nil}
use Rattle.h1_output.specs.declared.piece.Body.TheVariants.{Shared}
use Rattle.h1_output.specs.declared.piece.Piece.{Piece}
use Rattle.h1_output.specs.Queued.{with_text, with_piece}
use Rattle.h1_output.specs.OutputPieces.{in_row, queued}
use Rattle.h1_output.proofs.Framed.{framed_laid, framed_queued}
use Rattle.h1_output.proofs.queue.Segments.put_framed.Goals as goal

pub invariant_of-self-2 : goal.invariant_of-self-2
invariant_of-self-2 c =
    let row = in_row c.self.inside.first c.self.inside.rest.items in
    let own = c.self.inside.own.items in
    let bytes = c.args.bytes in
    let texted : c.extend_reserved.new.self.items ≡ own ++ c.args.before.now = c.extend_reserved.ensures.items ∙ ap (λ l. l ++ c.args.before.now) c.in_ok-reserve-2.ensures.items in
    let pieced : c.extend_reserved.new.self.items ≡ (own ++ c.args.before.now) ++ [] = texted ∙ sym (append-nil (own ++ c.args.before.now)) in
    let all : c.extend_reserved-2.new.self.items ≡ ((own ++ c.args.before.now) ++ []) ++ c.args.after.now = c.extend_reserved-2.ensures.items ∙ ap (λ l. l ++ c.args.after.now) pieced in
    let p : Piece = record { before = c.len-3.result - c.self.inside.marked; body = Shared bytes } in
    let at : p.before ≡ length (own ++ c.args.before.now) - c.self.inside.marked = ap (λ n. n - c.self.inside.marked) (c.len-3.ensures.value ∙ ap length texted) in
    let items = c.put_last.ensures.row ∙ ap (λ rest. in_row c.self.inside.first rest ++ p ∷ []) c.in_ok-reserve.ensures.items in
    let marked = c.len-self-inside.ensures.value ∙ ap length pieced in
    let many = ap (λ n. c.self.inside.shared + n) c.len-2.ensures.value in
    let is = framed_laid row own c.args.before.now [] bytes c.args.after.now c.self.inside.marked c.self.inside.shared c.self.invariant.0 p at refl refl refl c.requires.is_empty in
    (rw (items, all, marked, many) is, search rules, c.put_last.ensures.kept)

pub returns-clause-ok : goal.returns-clause-ok
returns-clause-ok c =
    let row = in_row c.self.inside.first c.self.inside.rest.items in
    let own = c.self.inside.own.items in
    let bytes = c.args.bytes in
    let texted : c.extend_reserved.new.self.items ≡ own ++ c.args.before.now = c.extend_reserved.ensures.items ∙ ap (λ l. l ++ c.args.before.now) c.in_ok-reserve-2.ensures.items in
    let pieced : c.extend_reserved.new.self.items ≡ (own ++ c.args.before.now) ++ [] = texted ∙ sym (append-nil (own ++ c.args.before.now)) in
    let all : c.extend_reserved-2.new.self.items ≡ ((own ++ c.args.before.now) ++ []) ++ c.args.after.now = c.extend_reserved-2.ensures.items ∙ ap (λ l. l ++ c.args.after.now) pieced in
    let p : Piece = record { before = c.len-3.result - c.self.inside.marked; body = Shared bytes } in
    let at : p.before ≡ length (own ++ c.args.before.now) - c.self.inside.marked = ap (λ n. n - c.self.inside.marked) (c.len-3.ensures.value ∙ ap length texted) in
    let items = c.put_last.ensures.row ∙ ap (λ rest. in_row c.self.inside.first rest ++ p ∷ []) c.in_ok-reserve.ensures.items in
    (λ i. queued (items i) (all i))
    ∙ framed_queued row own c.args.before.now [] bytes c.args.after.now c.self.inside.marked c.self.inside.shared c.self.invariant.0 p at refl refl refl c.requires.is_empty
    ∙ ap (λ q. with_text c.args.after.now (with_piece bytes (with_text c.args.before.now q))) c.self.view_is
