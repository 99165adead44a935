use Rattle.std.proofs.Common.{rules, ◌≡◌, ◌≤◌, length, take, min, refl, sym, ap, ◌∙◌, subst, arith}
use Rattle.std.proofs.lemmas.List.{take_min, drop_all}
use Rattle.h1_output.specs.Queued.{behind}
use Rattle.h1_output.specs.OutputPieces.{in_row}
use Rattle.h1_output.proofs.Ends.{ok_leads, own_bytes_are}
use Rattle.h1_output.proofs.Moves.{no_pieces, no_piece, none_fits, none_laid, all_gone, all_own}
use Rattle.h1_output.proofs.queue.Segments.give.Goals as goal

pub give_own-requires : goal.give_own-requires
give_own-requires c =
    let none = no_pieces (in_row c.self.inside.first c.self.inside.rest.items) c.self.inside.own.items c.self.inside.marked c.self.inside.shared c.self.invariant.0 (search rules) (search rules) in
    let least : c.min-count.result ≤ c.len.result = search rules in
    let fits : c.min-count.result ≤ length c.args.self.now.bytes = omega (arith, least, c.len.ensures) in
    none_fits (in_row c.self.inside.first c.self.inside.rest.items) c.self.inside.own.items c.min-count.result none (subst (λ q. c.min-count.result ≤ length q.bytes) (sym c.self.view_is) fits)

pub returns-then-self-eq0-2-clause-ok : goal.returns-then-self-eq0-2-clause-ok
returns-then-self-eq0-2-clause-ok c =
    let none = no_pieces (in_row c.self.inside.first c.self.inside.rest.items) c.self.inside.own.items c.self.inside.marked c.self.inside.shared c.self.invariant.0 (search rules) (search rules) in
    let all = c.args.self.now.bytes in
    let own_is = own_bytes_are (in_row c.self.inside.first c.self.inside.rest.items) c.self.inside.own.items c.args.self.now none c.self.view_is in
    let count : c.min-count.result ≡ min c.args.limit (length all) = c.min-count.ensures ∙ ap (λ n. min c.args.limit n) c.len.ensures in
    ok_leads c.give_own.result c.give_own.ensures.ok (λ b is. is ∙ ap (take c.min-count.result) own_is ∙ ap (λ n. take n all) count ∙ take_min c.args.limit all)

pub returns-then-self-eq0-2-clause-rest : goal.returns-then-self-eq0-2-clause-rest
returns-then-self-eq0-2-clause-rest c =
    let row = in_row c.self.inside.first c.self.inside.rest.items in
    let none = no_pieces row c.self.inside.own.items c.self.inside.marked c.self.inside.shared c.self.invariant.0 (search rules) (search rules) in
    let count : c.min-count.result ≡ min c.args.limit (length c.args.self.now.bytes) = c.min-count.ensures ∙ ap (λ n. min c.args.limit n) c.len.ensures in
    ok_leads c.give_own.result c.give_own.ensures.rest (λ b is.
    no_piece row row c.self.inside.own.items c.give_own.new.own.items c.min-count.result none refl is ∙ ap (behind c.min-count.result) c.self.view_is ∙ ap (λ n. behind n c.args.self.now) count)

pub invariant_of-self-then-count-len : goal.invariant_of-self-then-count-len
invariant_of-self-then-count-len c =
    let none : c.self.inside.shared ≡ 0 = search rules in
    let all : c.min-count.result ≡ length c.self.inside.own.items = search rules in
    let gone = c.in_ok-given.ensures.rest ∙ drop_all c.min-count.result c.self.inside.own.items (omega (arith, all)) in
    rw none (none_laid c.clear.new.self.items c.give_own-then-count-len.new.own.items c.clear.ensures.items gone, omega arith, c.clear.ensures.items)

pub returns-then-count-len-clause-ok : goal.returns-then-count-len-clause-ok
returns-then-count-len-clause-ok c =
    let none : c.self.inside.shared ≡ 0 = search rules in
    let all = c.args.self.now.bytes in
    let own_is = all_own (in_row c.self.inside.first c.self.inside.rest.items) c.self.inside.own.items c.self.inside.marked c.self.inside.shared c.args.self.now c.self.invariant.0 none c.self.view_is in
    let count : c.min-count.result ≡ min c.args.limit (length all) = c.min-count.ensures ∙ ap (λ n. min c.args.limit n) c.len.ensures in
    c.in_ok-given.ensures.ok ∙ ap (take c.min-count.result) own_is ∙ ap (λ n. take n all) count ∙ take_min c.args.limit all

pub returns-then-count-len-clause-rest : goal.returns-then-count-len-clause-rest
returns-then-count-len-clause-rest c =
    let row = in_row c.self.inside.first c.self.inside.rest.items in
    let none : c.self.inside.shared ≡ 0 = search rules in
    let all : c.min-count.result ≡ length c.self.inside.own.items = search rules in
    let gone = c.in_ok-given.ensures.rest ∙ drop_all c.min-count.result c.self.inside.own.items (omega (arith, all)) in
    let count : c.min-count.result ≡ min c.args.limit (length c.args.self.now.bytes) = c.min-count.ensures ∙ ap (λ n. min c.args.limit n) c.len.ensures in
    all_gone row c.clear.new.self.items c.self.inside.own.items c.give_own-then-count-len.new.own.items c.self.inside.marked c.self.inside.shared c.min-count.result c.self.invariant.0 none all c.clear.ensures.items gone
    ∙ ap (behind c.min-count.result) c.self.view_is ∙ ap (λ n. behind n c.args.self.now) count
