use Rattle.std.proofs.Common.{[], sym, ◌∙◌}
use Rattle.std.proofs.lemmas.Bool.{false≢true}
use Rattle.proxy.proofs.upstream.sends_body.Goals as goal

pub returns-then-not-can_chunk-clause-none : goal.returns-then-not-can_chunk-clause-none
returns-then-not-can_chunk-clause-none c = λ _ sends. false≢true (sym c.if-not-can_chunk.true ∙ c.can_chunk.ensures [] ∙ sends.chunk [])

pub returns-clause-sends : goal.returns-clause-sends
returns-clause-sends c = λ is. record {
  chunk = λ bytes. sym (c.can_chunk.ensures bytes) ∙ c.if-not-can_chunk.false;
  ends = sym c.can_end_body.ensures.ends ∙ is;
}

pub returns-clause-none : goal.returns-clause-none
returns-clause-none c = λ is sends. false≢true (sym is ∙ c.can_end_body.ensures.ends ∙ sends.ends)
