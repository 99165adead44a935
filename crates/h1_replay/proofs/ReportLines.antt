-- The lines of a report, step by step.
use Rattle.std.proofs.Common.{◌≡◌, ℕ, List, [], ◌∷◌, ◌++◌, codes, refl, sym, ap, ◌∙◌, subst, append_assoc, append-nil}
use Rattle.http_map.specs.HeaderMap.{pairs}
use Rattle.h1_decoder.specs.declared.decoder.HeadItem.{HeadItem}
use Rattle.h1_connection.specs.declared.event.Outcome.{Outcome}
use Rattle.h1_connection.specs.declared.trace.Step.{Step}
use Rattle.h1_replay.specs.Report.{IsRequestPart, IsBodyPart, pair_words, IsHeadLine, IsOutcomeLine, AreStepLines}
use Rattle.h1_replay.specs.Text.{Adds}

regroup : (old a b c d : List ℕ) → old ++ a ++ b ++ c ++ d ≡ old ++ (a ++ b ++ c ++ d)
regroup old a b c d = simp append_assoc

-- a head's parts, one behind the other
pub Adds-head : (item : HeadItem) (old named requested bodied new : List ℕ)
    → named ≡ old ++ codes "head"
    → Adds (IsRequestPart item) named requested
    → Adds (IsBodyPart item) requested bodied
    → new ≡ bodied ++ pair_words (pairs item.head.headers)
    → Adds (IsHeadLine item) old new
Adds-head item old named requested bodied new name (request, is_request, with_request) (body, is_body, with_body) with_pairs =
    let ps = pair_words (pairs item.head.headers) in (
      codes "head" ++ request ++ body ++ ps,
      record { request = request; is_request = is_request; body = body; is_body = is_body; is_line = refl },
      with_pairs ∙ ap (λ (l : List ℕ). l ++ ps) (with_body ∙ ap (λ (l : List ℕ). l ++ body) (with_request ∙ ap (λ (l : List ℕ). l ++ request) name)) ∙ regroup old (codes "head") request body ps,
    )

-- the line of the next step: what was written goes on to be that of all
pub AreStepLines-next : (steps left later : List Step) (step : Step) (outcome : Outcome) (text line new : List ℕ)
    → ((rest : List ℕ) → AreStepLines left rest → AreStepLines steps (text ++ rest))
    → left ≡ step ∷ later → outcome ≡ step.outcome → IsOutcomeLine outcome line → new ≡ text ++ line ++ codes "\n"
    → (rest : List ℕ) → AreStepLines later rest → AreStepLines steps (new ++ rest)
AreStepLines-next steps left later step outcome text line new before left_is outcome_is is new_is rest lines =
    let of_step : IsOutcomeLine step.outcome line = subst (λ (o : Outcome). IsOutcomeLine o line) outcome_is is in
    let of_left : AreStepLines left (line ++ codes "\n" ++ rest) = subst (λ (l : List Step). AreStepLines l (line ++ codes "\n" ++ rest)) (sym left_is) (line, rest, of_step, lines, refl) in
    let parts : text ++ (line ++ codes "\n" ++ rest) ≡ text ++ line ++ codes "\n" ++ rest = simp append_assoc in
    let grouped = parts ∙ ap (λ (l : List ℕ). l ++ rest) (sym new_is) in
    subst (λ (l : List ℕ). AreStepLines steps l) grouped (before (line ++ codes "\n" ++ rest) of_left)

-- behind the last step it is all
pub AreStepLines-all : (steps left : List Step) (text : List ℕ) → ((rest : List ℕ) → AreStepLines left rest → AreStepLines steps (text ++ rest)) → left ≡ []
    → AreStepLines steps text
AreStepLines-all steps left text before none =
    let nothing : AreStepLines left [] = subst (λ (l : List Step). AreStepLines l []) (sym none) refl in
    subst (λ (l : List ℕ). AreStepLines steps l) (append-nil text) (before [] nothing)
