use Rattle.std.proofs.Common.{rules, ◌≡◌, ◌≤◌, ◌-◌, length, drop, refl, sym, ap, ◌∙◌, subst, arith}
use Rattle.std.proofs.lemmas.List.{length-drop}
use Rattle.h1_output.specs.Queued.{behind}
use Rattle.h1_output.specs.OutputPieces.{in_row}
use Rattle.h1_output.proofs.Moves.{none_laid, all_gone, none_fits, no_piece, no_pieces, behind_none, behind_part}
use Rattle.h1_output.proofs.queue.Segments.advance.Goals as goal

pub loop-left-preserved : goal.loop-left-preserved
loop-left-preserved c =
    let part = c.advance_first-left.ensures.count.1 in
    let rest = c.advance_first-left.ensures.rest in
    let size : length c.advance_first-left.new.self.bytes ≡ length (drop c.advance_first-left.result c.loop-left.self.bytes) = ap (λ q. length q.bytes) rest in
    let dropped = length-drop c.advance_first-left.result c.loop-left.self.bytes in
    (omega (arith, c.loop-left.invariant.0), omega (arith, size, dropped, c.loop-left.invariant.1), behind_part c.args.self.now c.loop-left.self c.advance_first-left.new.self c.args.count c.loop-left.left c.advance_first-left.result part c.loop-left.invariant.0 c.loop-left.invariant.2 rest)

pub pass-requires : goal.pass-requires
pass-requires c =
    let none = no_pieces (in_row c.self.inside.first c.self.inside.rest.items) c.self.inside.own.items c.self.inside.marked c.self.inside.shared c.self.invariant.0 (search rules) (search rules) in
    none_fits (in_row c.self.inside.first c.self.inside.rest.items) c.self.inside.own.items c.args.count none (subst (λ q. c.args.count ≤ length q.bytes) (sym c.self.view_is) c.requires)

pub loop-left-init : goal.loop-left-init
loop-left-init c =
    let zero : c.args.count - c.args.count ≡ 0 = omega arith in
    let same = sym c.self.view_is ∙ sym (behind_none (in_row c.self.inside.first c.self.inside.rest.items) c.self.inside.own.items c.self.invariant.0.some) ∙ ap (behind 0) c.self.view_is in
    (omega arith, c.requires, same ∙ ap (λ n. behind n c.args.self.now) (sym zero))

pub returns-then-self-eq0-2 : goal.returns-then-self-eq0-2
returns-then-self-eq0-2 c =
    let none = no_pieces (in_row c.self.inside.first c.self.inside.rest.items) c.self.inside.own.items c.self.inside.marked c.self.inside.shared c.self.invariant.0 (search rules) (search rules) in
    no_piece (in_row c.self.inside.first c.self.inside.rest.items) (in_row c.self.inside.first c.self.inside.rest.items) c.self.inside.own.items c.pass.new.own.items c.args.count none refl c.pass.ensures
    ∙ ap (behind c.args.count) c.self.view_is

pub invariant_of-self-then-count-len : goal.invariant_of-self-then-count-len
invariant_of-self-then-count-len c =
    let none : c.self.inside.shared ≡ 0 = search rules in
    rw none (none_laid c.clear-then-count-len.new.self.items c.clear.new.self.items c.clear-then-count-len.ensures.items c.clear.ensures.items, omega arith, c.clear-then-count-len.ensures.items)

pub returns-then-count-len : goal.returns-then-count-len
returns-then-count-len c =
    let none : c.self.inside.shared ≡ 0 = search rules in
    let all : c.args.count ≡ length c.self.inside.own.items = search rules in
    all_gone (in_row c.self.inside.first c.self.inside.rest.items) c.clear-then-count-len.new.self.items c.self.inside.own.items c.clear.new.self.items c.self.inside.marked c.self.inside.shared c.args.count c.self.invariant.0 none all c.clear-then-count-len.ensures.items c.clear.ensures.items
    ∙ ap (behind c.args.count) c.self.view_is
