-- What was asked and said.
use Rattle.std.proofs.Common.{◌≡◌, ◌⊎◌, inl, inr, refl, ⊎_elim, ℕ, Option, Some, None, ◌++◌, ◌∷◌, [], ◌<◌, length}
use Rattle.model_h1.specs.Answer.{AnswerHead}
use Rattle.board.specs.declared.command.Command.{Command}
use Rattle.board.specs.Views.{Held, Kept}
use Rattle.board.specs.Table.{answer_with, count_answer, Called, NotCalled, Replies}

-- either no call was made or this one
pub calls_of : (asked : Option Command) (board : Kept) (pass : Held) (head : AnswerHead) (board' : Kept) (pass' : Held) → Replies asked board pass head board' pass'
    → NotCalled board pass board' pass' ⊎ ((command : Command) × (reply : ℕ) × (asked ≡ Some command) × Called board pass command reply board' pass')
calls_of None board pass head board' pass' said = inl said.1
calls_of (Some command) board pass head board' pass' said =
    ⊎_elim (λ (full : (head ≡ answer_with 503 []) × (length pass.entries ≡ 1048576) × NotCalled board pass board' pass'). inl full.2)
    (λ (one : (reply : ℕ) × (head ≡ count_answer reply) × Called board pass command reply board' pass'). inr (command, one.0, refl, one.2))
    said
