-- Answers counted from another place: each place lies as much further on as bytes stand in front.
use Rattle.std.specs.Prelude.{ℕ, ◌+◌}
use Rattle.model_h1.specs.Laws.Moved.{moved_body}
use Rattle.model_client.specs.AnswerParse.{AnswerMessage}

-- the answer, where so many bytes stand in front of those that it was read from
abbrev pub moved_answer : ℕ → AnswerMessage → AnswerMessage
moved_answer len m = record { reading = m.reading; body_start = len + m.body_start; body = moved_body len m.body }
