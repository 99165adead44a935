use Rattle.std.proofs.Common.{rules, ◌≡◌, length, take, sym, ap, ◌∙◌, arith}
use Rattle.std.proofs.lemmas.Bool.Decides.{nat_tests}
use Rattle.std.proofs.lemmas.List.{length-take-le}
use Rattle.h1_output.specs.Queued.{front_of}
use Rattle.h1_output.specs.OutputPieces.{body_in, in_row, own_len}
use Rattle.h1_output.proofs.Moves.{empty_row, front_none, front_framing, front_body, first_fits, front_stretch}
use Rattle.h1_output.proofs.InOrder.{front_first}
use Rattle.h1_output.proofs.queue.Segments.front.Goals as goal

pub returns-in_default-clause-value : goal.returns-in_default-clause-value
returns-in_default-clause-value c =
    let none = empty_row c.self.inside.first c.self.inside.rest.items c.in_default.is c.self.invariant.2 in
    c.as_slice.ensures ∙ front_none (in_row c.self.inside.first c.self.inside.rest.items) c.self.inside.own.items none ∙ ap front_of c.self.view_is

pub slice_bounds-result-end : goal.slice_bounds-result-end
slice_bounds-result-end c =
    let items = ap (λ f. in_row f c.self.inside.rest.items) c.in-Some.is in
    let fits = first_fits (in_row c.self.inside.first c.self.inside.rest.items) c.self.inside.rest.items c.self.inside.own.items c.self.inside.marked c.self.inside.shared c.in-Some.piece.before c.in-Some.piece.body items c.self.invariant.0 in
    sym (length-take-le c.in-Some.piece.before c.as_slice-then-piece-gt0.result.now (omega (arith, fits, ap length c.as_slice-then-piece-gt0.ensures)))

pub returns-then-piece-gt0-clause-value : goal.returns-then-piece-gt0-clause-value
returns-then-piece-gt0-clause-value c =
    let items = ap (λ f. in_row f c.self.inside.rest.items) c.in-Some.is in
    let fits = first_fits (in_row c.self.inside.first c.self.inside.rest.items) c.self.inside.rest.items c.self.inside.own.items c.self.inside.marked c.self.inside.shared c.in-Some.piece.before c.in-Some.piece.body items c.self.invariant.0 in
    ap (take c.in-Some.piece.before) c.as_slice-then-piece-gt0.ensures
    ∙ front_framing (in_row c.self.inside.first c.self.inside.rest.items) c.self.inside.rest.items c.self.inside.own.items c.in-Some.piece.before c.in-Some.piece.body items (search rules) (omega (arith, fits))
    ∙ ap front_of c.self.view_is

pub slice_bounds-result-end-in-Own : goal.slice_bounds-result-end-in-Own
slice_bounds-result-end-in-Own c =
    let items = ap (λ f. in_row f c.self.inside.rest.items) c.in-Some.is in
    let fits = first_fits (in_row c.self.inside.first c.self.inside.rest.items) c.self.inside.rest.items c.self.inside.own.items c.self.inside.marked c.self.inside.shared c.in-Some.piece.before c.in-Some.piece.body items c.self.invariant.0 in
    sym (length-take-le c.in-Own.len c.as_slice-in-Own.result.now (omega (arith, fits, ap own_len c.in-Own.is, ap length c.as_slice-in-Own.ensures)))

pub returns-in-Own-clause-value : goal.returns-in-Own-clause-value
returns-in-Own-clause-value c =
    let items = ap (λ f. in_row f c.self.inside.rest.items) c.in-Some.is in
    let fits = first_fits (in_row c.self.inside.first c.self.inside.rest.items) c.self.inside.rest.items c.self.inside.own.items c.self.inside.marked c.self.inside.shared c.in-Some.piece.before c.in-Some.piece.body items c.self.invariant.0 in
    let none : c.in-Some.piece.before ≡ 0 = grind (arith, nat_tests, c.if-piece-gt0.false) in
    ap (take c.in-Own.len) c.as_slice-in-Own.ensures
    ∙ sym (ap (λ b. body_in b c.self.inside.own.items) c.in-Own.is)
    ∙ front_body (in_row c.self.inside.first c.self.inside.rest.items) c.self.inside.rest.items c.self.inside.own.items c.in-Some.piece.before c.in-Some.piece.body items none (omega (arith, fits))
    ∙ ap front_of c.self.view_is

pub returns-in-Shared-clause-value : goal.returns-in-Shared-clause-value
returns-in-Shared-clause-value c =
    let items = ap (λ f. in_row f c.self.inside.rest.items) c.in-Some.is in
    let fits = first_fits (in_row c.self.inside.first c.self.inside.rest.items) c.self.inside.rest.items c.self.inside.own.items c.self.inside.marked c.self.inside.shared c.in-Some.piece.before c.in-Some.piece.body items c.self.invariant.0 in
    let none : c.in-Some.piece.before ≡ 0 = grind (arith, nat_tests, c.if-piece-gt0.false) in
    c.as_slice-in-Shared.ensures
    ∙ sym (ap (λ b. body_in b c.self.inside.own.items) c.in-Shared.is)
    ∙ front_body (in_row c.self.inside.first c.self.inside.rest.items) c.self.inside.rest.items c.self.inside.own.items c.in-Some.piece.before c.in-Some.piece.body items none (omega (arith, fits))
    ∙ ap front_of c.self.view_is

pub returns-in_default-clause-stretch : goal.returns-in_default-clause-stretch
returns-in_default-clause-stretch c = front_stretch (in_row c.self.inside.first c.self.inside.rest.items) c.self.inside.own.items c.args.self.now _ c.self.invariant.0.some c.self.view_is (returns-in_default-clause-value c)

pub returns-then-piece-gt0-clause-stretch : goal.returns-then-piece-gt0-clause-stretch
returns-then-piece-gt0-clause-stretch c = front_stretch (in_row c.self.inside.first c.self.inside.rest.items) c.self.inside.own.items c.args.self.now _ c.self.invariant.0.some c.self.view_is (returns-then-piece-gt0-clause-value c)

pub returns-in-Own-clause-stretch : goal.returns-in-Own-clause-stretch
returns-in-Own-clause-stretch c = front_stretch (in_row c.self.inside.first c.self.inside.rest.items) c.self.inside.own.items c.args.self.now _ c.self.invariant.0.some c.self.view_is (returns-in-Own-clause-value c)

pub returns-in-Shared-clause-stretch : goal.returns-in-Shared-clause-stretch
returns-in-Shared-clause-stretch c = front_stretch (in_row c.self.inside.first c.self.inside.rest.items) c.self.inside.own.items c.args.self.now _ c.self.invariant.0.some c.self.view_is (returns-in-Shared-clause-value c)

pub returns-in_default-clause-first : goal.returns-in_default-clause-first
returns-in_default-clause-first c = front_first (in_row c.self.inside.first c.self.inside.rest.items) c.self.inside.own.items c.args.self.now _ c.self.invariant.0.some c.self.invariant.0.fits c.self.view_is (returns-in_default-clause-value c)

pub returns-then-piece-gt0-clause-first : goal.returns-then-piece-gt0-clause-first
returns-then-piece-gt0-clause-first c = front_first (in_row c.self.inside.first c.self.inside.rest.items) c.self.inside.own.items c.args.self.now _ c.self.invariant.0.some c.self.invariant.0.fits c.self.view_is (returns-then-piece-gt0-clause-value c)

pub returns-in-Own-clause-first : goal.returns-in-Own-clause-first
returns-in-Own-clause-first c = front_first (in_row c.self.inside.first c.self.inside.rest.items) c.self.inside.own.items c.args.self.now _ c.self.invariant.0.some c.self.invariant.0.fits c.self.view_is (returns-in-Own-clause-value c)

pub returns-in-Shared-clause-first : goal.returns-in-Shared-clause-first
returns-in-Shared-clause-first c = front_first (in_row c.self.inside.first c.self.inside.rest.items) c.self.inside.own.items c.args.self.now _ c.self.invariant.0.some c.self.invariant.0.fits c.self.view_is (returns-in-Shared-clause-value c)
