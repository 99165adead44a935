-- The answer that is found in all bytes.
use Rattle.std.proofs.Common.{◌≡◌, ℕ, List, [], ◌∷◌, refl, sym, ap, ◌∙◌}
use Rattle.model_client.specs.AnswerParse.{Received, is_interim}
use Rattle.model_client.proofs.AnswerLemmas.{answers_unique}
use Rattle.model_client.proofs.AnswerExistence.{answers_exist_from}
use Rattle.model_proxy.specs.Answers.{Found, found_from, IsAnswer}

pub answer_found : (r : Received) (method : List ℕ) → (found : Found) × IsAnswer r method found
answer_found r method =
    let all = answers_exist_from is_interim r 0 (method ∷ []) in
    (found_from r 0 all.0, (all.0, all.1, refl))

pub answer_unique : (r : Received) (method : List ℕ) (a b : Found) → IsAnswer r method a → IsAnswer r method b → a ≡ b
answer_unique r method a b x y = x.2 ∙ ap (found_from r 0) (answers_unique is_interim r 0 (method ∷ []) x.0 y.0 x.1 y.1) ∙ sym y.2
