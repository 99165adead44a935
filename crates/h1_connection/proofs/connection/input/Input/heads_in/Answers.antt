use Rattle.std.proofs.Common.{◌≡◌, ◌<◌, ◌-◌, ◌++◌, List, ℕ, take, ap, sym, ◌∙◌, arith, subst}
use Rattle.std.specs.Prelude.{IfOk}
use Rattle.h1_connection.specs.Ahead.{heads_in}
use Rattle.h1_connection.proofs.AheadLemmas.{heads_zero, cut_none, cut_some, cut_bytes}
use Rattle.h1_connection.proofs.connection.input.Input.heads_in.Goals as goal

pub returns-then-mark-cut-clause-value : goal.returns-then-mark-cut-clause-value
returns-then-mark-cut-clause-value c =
    sym (cut_none c.args.limit c.args.mark c.self.inside.head_bytes c.self.inside.bytes.items c.self.inside.search c.args.self.now c.self.view_is c.self.invariant
    (omega (arith, c.if-mark-cut.true, c.len-cut.ensures.value)))

pub returns-then-limit-eq0-clause-value : goal.returns-then-limit-eq0-clause-value
returns-then-limit-eq0-clause-value c =
    let bytes = take c.args.mark c.args.self.now.unread in
    sym (ap (λ (n : ℕ). heads_in n bytes) c.if-limit-eq0.true ∙ heads_zero bytes)

-- ---- the first head was cut off

pub returns-in_err-all-clause-no_memory_needed : goal.returns-in_err-all-clause-no_memory_needed
returns-in_err-all-clause-no_memory_needed c = λ none.
    let some : 0 < heads_in c.args.limit (take c.args.mark c.args.self.now.unread) =
    cut_some c.args.limit c.args.mark c.self.inside.head_bytes c.self.inside.bytes.items c.self.inside.search c.args.self.now c.self.view_is c.self.invariant
    (λ empty. c.if-cut-eq0.false (c.len-cut.ensures.value ∙ empty)) (omega (arith, c.if-mark-cut.false, c.len-cut.ensures.value)) c.if-limit-eq0.false in
    absurd (omega (arith, none, some))

pub returns-clause-no_memory_needed : goal.returns-clause-no_memory_needed
returns-clause-no_memory_needed c = λ none.
    let some : 0 < heads_in c.args.limit (take c.args.mark c.args.self.now.unread) =
    cut_some c.args.limit c.args.mark c.self.inside.head_bytes c.self.inside.bytes.items c.self.inside.search c.args.self.now c.self.view_is c.self.invariant
    (λ empty. c.if-cut-eq0.false (c.len-cut.ensures.value ∙ empty)) (omega (arith, c.if-mark-cut.false, c.len-cut.ensures.value)) c.if-limit-eq0.false in
    absurd (omega (arith, none, some))

pub returns-clause-value : goal.returns-clause-value
returns-clause-value c =
    let front = c.self.inside.head_bytes in
    let bytes = c.self.inside.bytes.items in
    let copied : c.in_ok-all.all.items ≡ take c.args.mark c.args.self.now.unread =
    c.in_ok-all.ensures ∙ ap (λ (l : List ℕ). front ++ take (c.args.mark - c.len-cut.result) l) c.as_slice-2.ensures
    ∙ ap (λ (n : ℕ). front ++ take (c.args.mark - n) bytes) c.len-cut.ensures.value
    ∙ cut_bytes c.args.mark front bytes c.self.inside.search c.args.self.now c.self.view_is (omega (arith, c.if-mark-cut.false, c.len-cut.ensures.value)) in
    subst (λ (l : List ℕ). IfOk c.heads_in-2.result (λ count. count ≡ heads_in c.args.limit l)) (c.as_slice-3.ensures ∙ copied) c.heads_in-2.ensures.value
