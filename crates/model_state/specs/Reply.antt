-- What an answer, a piece of its body and its end do to a connection.
use Rattle.std.specs.Prelude.{ℕ, ◌-◌, not, ◌&&◌, List, [], ◌++◌, length, take, nat_lt, if◌then◌else◌, Option, Some, None}
use Rattle.std.specs.Option.{option_or}
use Rattle.model_h1.specs.Request.{ConnectionType}
use Rattle.model_h1.specs.Setting.{Setting}
use Rattle.model_h1.specs.Answer.{AnswerHead, BodySize, is_at_once, Asked, Shape, shape_length, shape_of, type_of}
use Rattle.model_h1.specs.AnswerText.{piece_text, end_text}
use Rattle.model_h1.specs.Text.{answer_head_text}
use Rattle.model_h1.specs.End as ends
use Rattle.model_h1.specs.End.{End}
use Rattle.model_state.specs.Kept.{Reply, sending, answered, Exchange, Kept, now}
use Rattle.model_state.specs.Body.{passing}

-- how many bytes a shape states
abbrev pub stated : Shape → ℕ
stated (shape_length n) = n
stated _ = 0

-- the answer is complete: that moment is noted, and the rest of its request's body passed
abbrev pub completing : ConnectionType → Exchange → Kept → Kept
completing kind x k =
    passing (record k { exchange = Some (record x { reply = answered kind }); clock = record k.clock { completed = k.clock.last } })

-- an answer is handed in
abbrev pub answering : Setting → AnswerHead → BodySize → Exchange → Kept → Kept
answering setting head size x k =
    let kind = type_of setting k.is_draining x.asked head size in
    let shape = shape_of x.asked head size in
    let next = record k { buffered = k.buffered ++ answer_head_text setting k.is_draining x.asked head size (now k) } in
    if is_at_once size then completing kind x next
    else record next { exchange = Some (record x { reply = sending shape kind (stated shape) }) }

-- what of a piece goes out: no more than is missing of a stated length, and nothing to a HEAD
abbrev pub piece_sent : Asked → Shape → ℕ → List ℕ → List ℕ
piece_sent asked shape missing bytes = if asked.is_head then [] else of_shape shape
  where
    of_shape : Shape → List ℕ
    of_shape (shape_length n) = take missing bytes
    of_shape other = piece_text other 0 bytes

-- a piece of the body is handed in
abbrev pub sending_piece : List ℕ → Exchange → Kept → Kept
sending_piece bytes x k = by_reply x.reply
  where
    by_reply : Reply → Kept
    by_reply (sending shape kind missing) =
        record k {
          buffered = k.buffered ++ piece_sent x.asked shape missing bytes;
          exchange = Some (record x { reply = sending shape kind (missing - length bytes) });
        }
    by_reply _ = k

-- bytes of a stated length are missing, where a body goes out at all
abbrev pub short_end : Asked → Shape → ℕ → Option End
short_end asked (shape_length n) missing = if not asked.is_head && nat_lt 0 missing then Some ends.body_short else None
short_end asked shape missing = None

-- the body has ended
abbrev pub ending_body : Exchange → Kept → Kept
ending_body x k = by_reply x.reply
  where
    by_reply : Reply → Kept
    by_reply (sending shape kind missing) =
        completing kind x (record k {
          buffered = k.buffered ++ (if x.asked.is_head then [] else end_text shape);
          failed = option_or (short_end x.asked shape missing) k.failed;
        })
    by_reply _ = k
