use Rattle.http_uri.specs.declared.uri.Uri.{Uri}
use Rattle.http_uri.specs.Uri.{Spells}
use Rattle.std.proofs.Common.{◌∙◌, refl, sym, subst}
use Rattle.raspcream.proofs.NamedLemmas.{fails_too, no_method, no_target, no_lines, names_request}
use Rattle.std.proofs.lemmas.Result.{err_from_is_err_and}
use Rattle.raspcream.proofs.request.request_head_of.Goals as goal

pub returns-in_default-clause-why : goal.returns-in_default-clause-why
returns-in_default-clause-why c = λ text. c.in_default.ensures.none refl _ _ _ text.pair

pub returns-in_err-method-clause-why : goal.returns-in_err-method-clause-why
returns-in_err-method-clause-why c = let p = err_from_is_err_and c.from_residual.result c.from_residual.ensures.1 in rw (p.1, p.2) (fails_too _ _ _ (no_method _ _ _ _ c.in-Some.ensures.some) c.in_err-method.ensures.why)

pub returns-in_err-uri-clause-why : goal.returns-in_err-uri-clause-why
returns-in_err-uri-clause-why c = let p = err_from_is_err_and c.from_residual-in_err-uri.result c.from_residual-in_err-uri.ensures.1 in rw (p.1, p.2) (fails_too _ _ _ (no_target _ _ _ _ c.in-Some.ensures.some) c.in_err-uri.ensures.why)

pub returns-in_err-headers-clause-why : goal.returns-in_err-headers-clause-why
returns-in_err-headers-clause-why c = let p = err_from_is_err_and c.from_residual-in_err-headers.result c.from_residual-in_err-headers.ensures.1 in rw (p.1, p.2) (fails_too _ _ _ (no_lines _ _ _ _ c.in-Some.ensures.some) c.in_err-headers.ensures.why)

pub returns-clause-ok : goal.returns-clause-ok
returns-clause-ok c = names_request _ _ _ _ _ _ c.head_with.result c.in-Some.ensures.some (c.head_with.ensures.method ∙ c.in_ok-method.ensures.ok) (subst (λ (u : Uri). Spells c.in-Some.first.value.now u) (sym c.head_with.ensures.uri) c.in_ok-uri.ensures.ok) (c.head_with.ensures.version ∙ c.version_of-version.ensures) c.head_with.ensures.headers c.head_with.ensures.flags c.in_ok-headers.ensures.ok
