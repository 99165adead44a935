-- What a caller's own functions say of a connection, by this library's names alone.
use Rattle.model_h1.specs.Answer.{AnswerHead, BodySize}
use Rattle.model_h1.specs.Event as on
use Rattle.h1_connection.specs.State.{State, IsAllowed}

-- the open request may be answered, by whatever head and body
abbrev pub MayAnswer : State → Type 0
MayAnswer state = (head : AnswerHead) (size : BodySize) → IsAllowed state (on.answer head size)

-- a body of an answer is under way, which may end or fail
abbrev pub MayEndAnswer : State → Type 0
MayEndAnswer state = IsAllowed state on.body_end × IsAllowed state on.body_error
