use Rattle.std.proofs.Common.{sym, ◌∙◌}
use Rattle.http_types.proofs.TextLemmas.{word_behind, word_here, word_at_end}
use Rattle.http_types.proofs.text.has_word.Goals as goal

pub returns-then-begins_with : goal.returns-then-begins_with
returns-then-begins_with c = sym (word_here _ _ (sym c.begins_with.ensures ∙ c.if-begins_with.true)) ∙ c.loop-tail.invariant

pub loop-tail-preserved : goal.loop-tail-preserved
loop-tail-preserved c =
    sym (word_behind _ _ _ _ c.in-Some.ensures.cases.0 (sym c.begins_with.ensures ∙ c.if-begins_with.false)) ∙ c.loop-tail.invariant

pub returns : goal.returns
returns c = c.begins_with-2.ensures ∙ word_at_end _ _ c.in_default.ensures.cases ∙ c.loop-tail.invariant
