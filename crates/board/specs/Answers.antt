-- What requests ask of the board, and how they are answered.
use Rattle.std.specs.Prelude.{◌≡◌, ◌⊎◌, ℕ, Option, Some, None, List, [], ◌∷◌, ◌++◌, length}
use Rattle.http_types.specs.Request.{RequestParts}
use Rattle.http_types.specs.Response.{FullResponse}
use Rattle.h1_encoder.specs.Meaning.{answer_of}
use Rattle.model_h1.specs.Answer.{AnswerHead}
use Rattle.board.specs.declared.command.Command.{Command}
use Rattle.board.specs.declared.command.Entry.{Entry}
use Rattle.board.specs.Journal.{entry}
use Rattle.board.specs.Table.{command_of, answer_with, count_answer}

-- a request
abbrev pub Asking : Type 0
Asking = RequestParts Unit Unit

-- a request and its answer
abbrev pub Pair : Type 0
Pair = Asking × FullResponse Unit

-- What is asked is answered so, and the entries of the pass become these: 404 where nothing is asked, without a call; 503
-- where the pass has no room; else one call is made, and the answer has its reply.
abbrev pub AnswersBy : ℕ → Option Command → AnswerHead → List Entry → List Entry → Type 0
AnswersBy number None answer before after = (answer ≡ answer_with 404 []) × (after ≡ before)
AnswersBy number (Some command) answer before after =
    ((answer ≡ answer_with 503 []) × (length before ≡ 1048576) × (after ≡ before))
    ⊎ ((reply : ℕ) × (answer ≡ count_answer reply) × (after ≡ before ++ entry number command reply ∷ []))

abbrev pub Answered : ℕ → Pair → List Entry → List Entry → Type 0
Answered number pair before after = AnswersBy number (command_of pair.0.head) (answer_of pair.1.head) before after

-- one request after another, the first one first
abbrev pub AllAnswered : ℕ → List Pair → List Entry → List Entry → Type 0
AllAnswered number [] before after = after ≡ before
AllAnswered number (pair ∷ pairs) before after =
    (between : List Entry) × Answered number pair before between × AllAnswered number pairs between after

-- memory ran out: no call was made, or the one that is asked for
abbrev pub MayHaveCalled : ℕ → Option Command → List Entry → List Entry → Type 0
MayHaveCalled number None before after = after ≡ before
MayHaveCalled number (Some command) before after =
    (after ≡ before) ⊎ ((reply : ℕ) × (after ≡ before ++ entry number command reply ∷ []))
