use Rattle.std.proofs.lemmas.Result.{err_from_is_err_and}
use Rattle.raspcream.proofs.NamedLemmas.{no_code, fails_too, no_words}
use Rattle.raspcream.proofs.socket.close_of.Goals as goal

pub returns-in_default-clause-why : goal.returns-in_default-clause-why
returns-in_default-clause-why c = no_code _ _ c.if-code-eq0.false c.in_default.ensures

pub returns-in_err-text_of-clause-why : goal.returns-in_err-text_of-clause-why
returns-in_err-text_of-clause-why c = let p = err_from_is_err_and c.from_residual.result c.from_residual.ensures.1 in rw (p.1, p.2) (fails_too _ _ _ (no_words _ _ c.if-code-eq0.false) c.in_err-text_of.ensures.why)
