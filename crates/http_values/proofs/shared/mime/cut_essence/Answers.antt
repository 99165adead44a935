use Rattle.std.proofs.Common.{◌∷◌, ℕ, List, subst, ◌∙◌}
use Rattle.http_values.specs.MediaTypeCuts.{IsTokenCut}
use Rattle.http_values.proofs.MimeLemmas.{token_unique, behind_unique}
use Rattle.http_values.proofs.shared.mime.cut_essence.Goals as goal

pub returns-in_default : goal.returns-in_default
returns-in_default c = λ kind subtype rest h. c.in_default.ensures kind (47 ∷ h.behind) h.kind_is

pub returns-in_default-cut_token : goal.returns-in_default-cut_token
returns-in_default-cut_token c = λ kind subtype rest h.
    let one = token_unique c.args.text.now kind (47 ∷ h.behind) c.in-Some.kind.now c.in-Some.rest.now h.kind_is c.in-Some.ensures in
    let same = behind_unique 47 h.behind c.in-Some-after.behind.now (one.1 ∙ c.in-Some-after.ensures) in
    let P : List ℕ → Type 0 = λ t. IsTokenCut t subtype rest in c.in_default-cut_token.ensures subtype rest (subst P same h.subtype_is)
