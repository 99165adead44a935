-- How answers grow when bytes, or requests, follow: what was read stays, and the last body may go on.
use Rattle.std.specs.Prelude.{◌≡◌, ℕ, List, [], ◌∷◌, ⊤}
use Rattle.model_h1.specs.Laws.Growth.{BodyGrows}
use Rattle.model_client.specs.AnswerParse.{AnswerMessage}

-- the answer keeps its reading and its place
pub record AnswerGrows (front all : List ℕ) (m n : AnswerMessage) : Type 0 where
  pub reading : m.reading ≡ n.reading
  pub body_start : m.body_start ≡ n.body_start
  pub body : BodyGrows front all m.body n.body

-- each answer grows to the one in its place, and others may follow
abbrev pub AnswersGrow : List ℕ → List ℕ → List AnswerMessage → List AnswerMessage → Type 0
AnswersGrow front all [] ns = ⊤
AnswersGrow front all (m ∷ ms) [] = ⊥
AnswersGrow front all (m ∷ ms) (n ∷ ns) = AnswerGrows front all m n × AnswersGrow front all ms ns
