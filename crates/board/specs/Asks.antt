-- What the board says to what is asked, and its answer's head.
use Rattle.std.specs.Prelude.{[], Option}
use Rattle.model_h1.specs.Answer.{AnswerHead}
use Rattle.board.specs.declared.command.Command.{Command}
use Rattle.board.specs.declared.table_connection.Answer.{Answer}
use Rattle.board.specs.declared.table_connection.Answer.TheVariants.{NotFound, Full, Count}
use Rattle.board.specs.Views.{Held, Kept}
use Rattle.board.specs.Table.{answer_with, count_answer, Replies}

-- the head that says so
abbrev pub head_by : Answer → AnswerHead
head_by NotFound = answer_with 404 []
head_by Full = answer_with 503 []
head_by (Count reply) = count_answer reply.0

-- what is asked was asked, and this is said to it
abbrev pub Asks : Option Command → Kept → Held → Answer → Kept → Held → Type 0
Asks asked board pass answer board' pass' = Replies asked board pass (head_by answer) board' pass'
