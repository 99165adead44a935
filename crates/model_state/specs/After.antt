-- What an event does to the runs of the bytes that wait, by what a connection keeps.
use Rattle.std.specs.Prelude.{ℕ, ◌+◌, List, [], ◌++◌, length, take, if◌then◌else◌, Option, Some, None}
use Rattle.model_h1.specs.Runs.{Run}
use Rattle.model_h1.specs.Parse.{run_between}
use Rattle.model_h1.specs.Answer.{Asked, Shape, shape_none, shape_length}
use Rattle.model_h1.specs.Event.{Event, Outcome}
use Rattle.model_h1.specs.Event as on
use Rattle.model_state.specs.Kept.{Reply, sending, Exchange, Kept}
use Rattle.model_state.specs.Runs.{runs_behind}
use Rattle.model_state.specs.Marks.{framing_len}

-- which of a piece's bytes go out, where so many of a stated length are missing
abbrev pub part_sent : Shape → ℕ → List ℕ → List ℕ
part_sent shape_none missing bytes = []
part_sent (shape_length n) missing bytes = take missing bytes
part_sent _ missing bytes = bytes

-- the place of these behind so many bytes that wait; HEAD has no body
abbrev pub run_sent : ℕ → Asked → Shape → ℕ → List ℕ → List Run
run_sent many asked shape missing bytes =
    let start = many + framing_len shape bytes in
    if asked.is_head then [] else run_between start (start + length (part_sent shape missing bytes))

-- what a piece of the body adds
abbrev pub added : List ℕ → Kept → List Run
added bytes k = of_exchange k.exchange
  where
    of_reply : Asked → Reply → List Run
    of_reply asked (sending shape kind missing) = run_sent (length k.buffered) asked shape missing bytes
    of_reply asked _ = []

    of_exchange : Option Exchange → List Run
    of_exchange None = []
    of_exchange (Some x) = of_reply x.asked x.reply

-- what is given away lets the first bytes go
abbrev pub after_outcome : Outcome → List Run → List Run
after_outcome (on.gave bytes) marks = runs_behind (length bytes) marks
after_outcome _ marks = marks

abbrev pub after_chunk : List ℕ → Kept → Outcome → List Run → List Run
after_chunk bytes k on.done marks = marks ++ added bytes k
after_chunk bytes k outcome marks = after_outcome outcome marks

-- the runs behind an event with its outcome
abbrev pub marks_after : Kept → Event → Outcome → List Run → List Run
marks_after k (on.chunk bytes) outcome marks = after_chunk bytes k outcome marks
marks_after k _ outcome marks = after_outcome outcome marks
