use Rattle.std.proofs.Common.{sym, ◌∙◌}
use Rattle.std.proofs.lemmas.Bool.{false≢true}
use Rattle.proxy.proofs.passing.may_send.Goals as goal

pub returns-then-sent-clause-none : goal.returns-then-sent-clause-none
returns-then-sent-clause-none c = λ _ whole _ _ _. false≢true (sym whole ∙ c.if-sent.true)

pub returns-then-sent-2-clause-none : goal.returns-then-sent-2-clause-none
returns-then-sent-2-clause-none c = λ _ _ broken _ _. false≢true (sym broken ∙ c.if-sent-2.true)

pub returns-clause-sends : goal.returns-clause-sends
returns-clause-sends c = c.sends_body.ensures.sends

pub returns-clause-more : goal.returns-clause-more
returns-clause-more c = λ _. (c.if-sent.false, c.if-sent-2.false)

pub returns-clause-none : goal.returns-clause-none
returns-clause-none c = λ is _ _ _. c.sends_body.ensures.none is
