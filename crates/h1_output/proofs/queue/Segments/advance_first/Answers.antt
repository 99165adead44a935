use Rattle.std.proofs.Common.{rules, ◌≡◌, ◌≤◌, ◌<◌, ◌-◌, ◌∷◌, length, sym, ap, ◌∙◌, subst, arith}
use Rattle.std.proofs.lemmas.Bool.Decides.{nat_tests}
use Rattle.h1_output.specs.Queued.{behind}
use Rattle.h1_output.specs.OutputPieces.{IsInRow, body_len, in_row, queued, with_rest}
use Rattle.h1_output.specs.declared.piece.Body.TheVariants.{Shared}
use Rattle.h1_output.proofs.Moves.{empty_row, first_some, no_piece, none_fits, none_moved, framing_fits, framing_laid, framing_queued, own_fits, own_laid, own_queued, shared_fits, shared_laid, shared_queued}
use Rattle.h1_output.proofs.queue.Segments.advance_first.Goals as goal

-- where there is no piece

pub pass-requires : goal.pass-requires
pass-requires c =
    let empty = empty_row c.self.inside.first c.self.inside.rest.items (sym c.take.ensures.value ∙ c.in_default.is) c.self.invariant.2 in
    none_fits (in_row c.self.inside.first c.self.inside.rest.items) c.self.inside.own.items c.args.most empty (subst (λ q. c.args.most ≤ length q.bytes) (sym c.self.view_is) c.requires.1)

pub invariant_of-self : goal.invariant_of-self
invariant_of-self c =
    let none = sym c.take.ensures.value ∙ c.in_default.is in
    let empty = empty_row c.self.inside.first c.self.inside.rest.items none c.self.invariant.2 in
    let same = ap (λ f. in_row f c.self.inside.rest.items) (none ∙ sym c.take.ensures.after) in (
      none_moved (in_row c.self.inside.first c.self.inside.rest.items) (in_row c.take.new.self c.self.inside.rest.items) c.self.inside.own.items c.pass.new.own.items c.self.inside.marked c.self.inside.shared empty same c.self.invariant.0,
      c.self.invariant.1,
      subst (λ f. IsInRow f c.self.inside.rest.items) (none ∙ sym c.take.ensures.after) c.self.invariant.2,
    )

pub returns-in_default-clause-rest : goal.returns-in_default-clause-rest
returns-in_default-clause-rest c =
    let none = sym c.take.ensures.value ∙ c.in_default.is in
    let empty = empty_row c.self.inside.first c.self.inside.rest.items none c.self.invariant.2 in
    let same = ap (λ f. in_row f c.self.inside.rest.items) (none ∙ sym c.take.ensures.after) in
    no_piece (in_row c.self.inside.first c.self.inside.rest.items) (in_row c.take.new.self c.self.inside.rest.items) c.self.inside.own.items c.pass.new.own.items c.args.most empty same c.pass.ensures
    ∙ ap (behind c.args.most) c.self.view_is

-- the framing in front of a piece

pub pass-requires-then-before-gt0 : goal.pass-requires-then-before-gt0
pass-requires-then-before-gt0 c =
    let least : c.min-taken.result ≤ c.in-Some.piece.before = search rules in
    (framing_fits (in_row c.self.inside.first c.self.inside.rest.items) c.self.inside.rest.items c.self.inside.own.items c.self.inside.marked c.self.inside.shared c.in-Some.piece.before c.in-Some.piece.body (ap (λ f. in_row f c.self.inside.rest.items) (sym c.take.ensures.value ∙ c.in-Some.is)) c.self.invariant.0 c.min-taken.result least).0

pub overflow_sub-self : goal.overflow_sub-self
overflow_sub-self c =
    let least : c.min-taken.result ≤ c.in-Some.piece.before = search rules in
    (framing_fits (in_row c.self.inside.first c.self.inside.rest.items) c.self.inside.rest.items c.self.inside.own.items c.self.inside.marked c.self.inside.shared c.in-Some.piece.before c.in-Some.piece.body (ap (λ f. in_row f c.self.inside.rest.items) (sym c.take.ensures.value ∙ c.in-Some.is)) c.self.invariant.0 c.min-taken.result least).1

pub invariant_of-self-then-before-gt0 : goal.invariant_of-self-then-before-gt0
invariant_of-self-then-before-gt0 c =
    let least : c.min-taken.result ≤ c.in-Some.piece.before = search rules in
    let is = framing_laid (in_row c.self.inside.first c.self.inside.rest.items) c.self.inside.rest.items c.self.inside.own.items c.self.inside.marked c.self.inside.shared c.in-Some.piece.before c.in-Some.piece.body (ap (λ f. in_row f c.self.inside.rest.items) (sym c.take.ensures.value ∙ c.in-Some.is)) c.self.invariant.0 c.min-taken.result least in
    (rw c.pass-then-before-gt0.ensures is, c.self.invariant.1, tt)

pub returns-then-before-gt0-clause-rest : goal.returns-then-before-gt0-clause-rest
returns-then-before-gt0-clause-rest c =
    let least : c.min-taken.result ≤ c.in-Some.piece.before = search rules in
    ap (queued (record { before = c.in-Some.piece.before - c.min-taken.result; body = c.in-Some.piece.body } ∷ c.self.inside.rest.items)) c.pass-then-before-gt0.ensures
    ∙ framing_queued (in_row c.self.inside.first c.self.inside.rest.items) c.self.inside.rest.items c.self.inside.own.items c.self.inside.marked c.self.inside.shared c.in-Some.piece.before c.in-Some.piece.body (ap (λ f. in_row f c.self.inside.rest.items) (sym c.take.ensures.value ∙ c.in-Some.is)) c.self.invariant.0 c.min-taken.result least
    ∙ ap (behind c.min-taken.result) c.self.view_is

-- a piece in the buffer

pub pass-requires-in-Own : goal.pass-requires-in-Own
pass-requires-in-Own c =
    let least : c.min-taken-in-Own.result ≤ c.in-Own.len = search rules in
    let none : c.in-Some.piece.before ≡ 0 = grind (arith, nat_tests, c.if-before-gt0.false) in
    (own_fits (in_row c.self.inside.first c.self.inside.rest.items) c.self.inside.rest.items c.self.inside.own.items c.self.inside.marked c.self.inside.shared c.in-Some.piece.before c.in-Some.piece.body (ap (λ f. in_row f c.self.inside.rest.items) (sym c.take.ensures.value ∙ c.in-Some.is)) c.self.invariant.0 c.in-Own.len c.min-taken-in-Own.result none c.in-Own.is least).0

pub overflow_sub-self-in-Own : goal.overflow_sub-self-in-Own
overflow_sub-self-in-Own c =
    let least : c.min-taken-in-Own.result ≤ c.in-Own.len = search rules in
    let none : c.in-Some.piece.before ≡ 0 = grind (arith, nat_tests, c.if-before-gt0.false) in
    (own_fits (in_row c.self.inside.first c.self.inside.rest.items) c.self.inside.rest.items c.self.inside.own.items c.self.inside.marked c.self.inside.shared c.in-Some.piece.before c.in-Some.piece.body (ap (λ f. in_row f c.self.inside.rest.items) (sym c.take.ensures.value ∙ c.in-Some.is)) c.self.invariant.0 c.in-Own.len c.min-taken-in-Own.result none c.in-Own.is least).1

pub invariant_of-self-in-Own : goal.invariant_of-self-in-Own
invariant_of-self-in-Own c =
    let least : c.min-taken-in-Own.result ≤ c.in-Own.len = search rules in
    let none : c.in-Some.piece.before ≡ 0 = grind (arith, nat_tests, c.if-before-gt0.false) in
    let is = own_laid (in_row c.self.inside.first c.self.inside.rest.items) c.self.inside.rest.items c.self.inside.own.items c.self.inside.marked c.self.inside.shared c.in-Some.piece.before c.in-Some.piece.body (ap (λ f. in_row f c.self.inside.rest.items) (sym c.take.ensures.value ∙ c.in-Some.is)) c.self.invariant.0 c.in-Own.len c.min-taken-in-Own.result none c.in-Own.is least in
    (rw (c.left_of.ensures.row, c.pass-in-Own.ensures) is, c.self.invariant.1, c.left_of.ensures.kept)

pub returns-in-Own-clause-rest : goal.returns-in-Own-clause-rest
returns-in-Own-clause-rest c =
    let least : c.min-taken-in-Own.result ≤ c.in-Own.len = search rules in
    let none : c.in-Some.piece.before ≡ 0 = grind (arith, nat_tests, c.if-before-gt0.false) in
    (λ i. queued (c.left_of.ensures.row i) (c.pass-in-Own.ensures i))
    ∙ own_queued (in_row c.self.inside.first c.self.inside.rest.items) c.self.inside.rest.items c.self.inside.own.items c.self.inside.marked c.self.inside.shared c.in-Some.piece.before c.in-Some.piece.body (ap (λ f. in_row f c.self.inside.rest.items) (sym c.take.ensures.value ∙ c.in-Some.is)) c.self.invariant.0 c.in-Own.len c.min-taken-in-Own.result none c.in-Own.is least
    ∙ ap (behind c.min-taken-in-Own.result) c.self.view_is

-- a shared piece

pub overflow_sub-self-in-Shared : goal.overflow_sub-self-in-Shared
overflow_sub-self-in-Shared c =
    let least : c.min-taken-in-Shared.result ≤ length c.in-Shared.bytes = search rules in
    let none : c.in-Some.piece.before ≡ 0 = grind (arith, nat_tests, c.if-before-gt0.false) in
    shared_fits (in_row c.self.inside.first c.self.inside.rest.items) c.self.inside.rest.items c.self.inside.own.items c.self.inside.marked c.self.inside.shared c.in-Some.piece.before c.in-Some.piece.body (ap (λ f. in_row f c.self.inside.rest.items) (sym c.take.ensures.value ∙ c.in-Some.is)) c.self.invariant.0 c.in-Shared.bytes c.min-taken-in-Shared.result none c.in-Shared.is least

pub invariant_of-self-in-Shared : goal.invariant_of-self-in-Shared
invariant_of-self-in-Shared c =
    let least : c.min-taken-in-Shared.result ≤ length c.in-Shared.bytes = search rules in
    let none : c.in-Some.piece.before ≡ 0 = grind (arith, nat_tests, c.if-before-gt0.false) in
    let is = shared_laid (in_row c.self.inside.first c.self.inside.rest.items) c.self.inside.rest.items c.self.inside.own.items c.self.inside.marked c.self.inside.shared c.in-Some.piece.before c.in-Some.piece.body (ap (λ f. in_row f c.self.inside.rest.items) (sym c.take.ensures.value ∙ c.in-Some.is)) c.self.invariant.0 c.in-Shared.bytes c.min-taken-in-Shared.result none c.in-Shared.is least in
    (rw (c.left_of-in-Shared.ensures.row, c.advance.ensures) is, omega (arith, c.self.invariant.1), c.left_of-in-Shared.ensures.kept)

pub returns-in-Shared-clause-rest : goal.returns-in-Shared-clause-rest
returns-in-Shared-clause-rest c =
    let least : c.min-taken-in-Shared.result ≤ length c.in-Shared.bytes = search rules in
    let none : c.in-Some.piece.before ≡ 0 = grind (arith, nat_tests, c.if-before-gt0.false) in
    let items = c.left_of-in-Shared.ensures.row ∙ ap (λ b. with_rest (Shared b) c.self.inside.rest.items) c.advance.ensures in
    ap (λ ps. queued ps c.self.inside.own.items) items
    ∙ shared_queued (in_row c.self.inside.first c.self.inside.rest.items) c.self.inside.rest.items c.self.inside.own.items c.self.inside.marked c.self.inside.shared c.in-Some.piece.before c.in-Some.piece.body (ap (λ f. in_row f c.self.inside.rest.items) (sym c.take.ensures.value ∙ c.in-Some.is)) c.self.invariant.0 c.in-Shared.bytes c.min-taken-in-Shared.result none c.in-Shared.is least
    ∙ ap (behind c.min-taken-in-Shared.result) c.self.view_is

pub returns-in-Shared-clause-count : goal.returns-in-Shared-clause-count
returns-in-Shared-clause-count c =
    let items = ap (λ f. in_row f c.self.inside.rest.items) (sym c.take.ensures.value ∙ c.in-Some.is) in
    let some = first_some (in_row c.self.inside.first c.self.inside.rest.items) c.self.inside.rest.items c.self.inside.own.items c.self.inside.marked c.self.inside.shared c.in-Some.piece.before c.in-Some.piece.body items c.self.invariant.0 in
    let has : 0 < length c.in-Shared.bytes = subst (λ b. 0 < body_len b) c.in-Shared.is some in
    (omega (arith, c.min-taken-in-Shared.ensures, c.len.ensures.value, has, c.requires.0), omega (arith, c.min-taken-in-Shared.ensures))
