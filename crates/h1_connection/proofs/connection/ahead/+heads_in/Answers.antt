use Rattle.std.proofs.Common.{◌<◌, ◌-◌, ℕ, false, true, sym, ap, ◌∙◌, arith}
use Rattle.std.proofs.lemmas.List.{take_rest}
use Rattle.h1_connection.specs.Ahead.{heads_in}
use Rattle.h1_connection.proofs.AheadLemmas.{heads_zero, heads_none, none_found, one_some, one_bodied, one_more}
use Rattle.h1_connection.proofs.connection.ahead.+heads_in.Goals as goal

pub returns-then-limit-eq0-clause-value : goal.returns-then-limit-eq0-clause-value
returns-then-limit-eq0-clause-value t c = sym (ap (λ (n : ℕ). heads_in n c.args.bytes.now) c.if-limit-eq0.true ∙ heads_zero c.args.bytes.now)

pub returns-in_default-clause-value : goal.returns-in_default-clause-value
returns-in_default-clause-value t c =
    sym (heads_none c.args.limit c.args.bytes.now (none_found c.args.bytes.now c.scan_head.result c.scan_head.ensures.answer (λ start end is. c.in_default.not-Piece start end is)))

-- ---- a head stands there

pub returns-in_err-has_no_body-clause-no_memory_needed : goal.returns-in_err-has_no_body-clause-no_memory_needed
returns-in_err-has_no_body-clause-no_memory_needed t c = λ none.
    let some : 0 < heads_in c.args.limit c.args.bytes.now =
    one_some c.args.limit c.args.bytes.now c.in-Piece.start c.in-Piece.end c.in-Piece.ensures.answer (omega (arith, c.if-limit-eq0.false)) in
    absurd (omega (arith, none, some))

pub returns-in_err-behind-clause-no_memory_needed : goal.returns-in_err-behind-clause-no_memory_needed
returns-in_err-behind-clause-no_memory_needed t c = λ none.
    let some : 0 < heads_in c.args.limit c.args.bytes.now =
    one_some c.args.limit c.args.bytes.now c.in-Piece.start c.in-Piece.end c.in-Piece.ensures.answer (omega (arith, c.if-limit-eq0.false)) in
    absurd (omega (arith, none, some))

pub returns-then-not-branch-clause-value : goal.returns-then-not-branch-clause-value
returns-then-not-branch-clause-value t c =
    let judged = c.in_ok-has_no_body.ensures in
    sym (one_bodied c.args.limit c.args.bytes.now c.in-Piece.start c.in-Piece.end judged.0 c.if-limit-eq0.false c.in-Piece.ensures.answer judged.1 (sym judged.2 ∙ c.if-not-branch.true))

pub returns-clause-value : goal.returns-clause-value
returns-clause-value t c =
    let judged = c.in_ok-has_no_body.ensures in
    let more = one_more c.args.limit c.args.bytes.now c.in-Piece.start c.in-Piece.end judged.0 c.if-limit-eq0.false c.in-Piece.ensures.answer judged.1 (sym judged.2 ∙ c.if-not-branch.false) in
    let rest = c.in_ok-behind.ensures.value ∙ ap (λ l. heads_in (c.args.limit - 1) l) (take_rest c.args.bytes.now c.in-Piece.end) in
    omega (arith, more, rest)
