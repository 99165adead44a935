use Rattle.std.proofs.Common.{◌∷◌, ℕ, List, subst, ◌∙◌}
use Rattle.http_values.specs.MediaTypeCuts.{IsTokenCut, IsValueCut}
use Rattle.http_values.proofs.MimeLemmas.{named_is, token_unique, behind_unique}
use Rattle.http_values.proofs.shared.mime.cut_parameter.Goals as goal

pub returns-in_default-cut_token : goal.returns-in_default-cut_token
returns-in_default-cut_token c = λ name value rest h.
    let named = named_is c.args.text.now c.cut_run.result.0.now c.cut_run.result.1.now c.in-Some.behind.now c.cut_run-2.result.0.now c.cut_run-2.result.1.now name value rest
    c.cut_run.ensures c.in-Some.ensures c.cut_run-2.ensures h in
    let P : List ℕ → Type 0 = λ t. IsTokenCut t name (61 ∷ h.valued) in c.in_default-cut_token.ensures name (61 ∷ h.valued) (subst P named h.name_is)

pub returns-in_default-cut_value : goal.returns-in_default-cut_value
returns-in_default-cut_value c = λ name value rest h.
    let named = named_is c.args.text.now c.cut_run.result.0.now c.cut_run.result.1.now c.in-Some.behind.now c.cut_run-2.result.0.now c.cut_run-2.result.1.now name value rest
    c.cut_run.ensures c.in-Some.ensures c.cut_run-2.ensures h in
    let P : List ℕ → Type 0 = λ t. IsTokenCut t name (61 ∷ h.valued) in
    let one = token_unique c.cut_run-2.result.1.now name (61 ∷ h.valued) c.in-Some-cut_token.name.now c.in-Some-cut_token.rest.now (subst P named h.name_is) c.in-Some-cut_token.ensures in
    let valued = behind_unique 61 h.valued c.in-Some-after.valued.now (one.1 ∙ c.in-Some-after.ensures) in
    let Q : List ℕ → Type 0 = λ t. IsValueCut t value rest in c.in_default-cut_value.ensures value rest (subst Q valued h.value_is)
