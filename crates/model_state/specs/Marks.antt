-- Which bytes of the text that a connection writes are bytes of a body, piece by piece as it was handed in.
use Rattle.std.specs.Prelude.{ℕ, ◌+◌, ◌-◌, true, List, [], ◌∷◌, ◌++◌, length, take, if◌then◌else◌, Option, Some}
use Rattle.std.specs.Fmt.{digits}
use Rattle.httparse.specs.Ascii.{crlf_bytes}
use Rattle.model_h1.specs.Runs.{Run}
use Rattle.model_h1.specs.Parse.{run_between}
use Rattle.model_h1.specs.Request.{Head}
use Rattle.model_h1.specs.Setting.{Setting}
use Rattle.model_h1.specs.Answer.{asked_of, shape_of, Shape, shape_none, shape_length, shape_chunked}
use Rattle.model_h1.specs.Event.{Event, Outcome}
use Rattle.model_h1.specs.Event as on
use Rattle.model_h1.specs.Sums.{Step, Answered, request, answered, answer_len, written}
use Rattle.model_h1.specs.Text.{text, buffered}
use Rattle.model_state.specs.Runs.{runs_behind, first_segment}

-- how many bytes of framing stand in front of a piece's bytes: those of a chunk's size line (RFC 7230, section 4.1)
abbrev pub framing_len : Shape → List ℕ → ℕ
framing_len shape_chunked bytes = length (digits 16 true (length bytes) ++ crlf_bytes)
framing_len _ bytes = 0

-- which of a piece's bytes go out, where so many bytes of the body came before it
abbrev pub body_part : Shape → ℕ → List ℕ → List ℕ
body_part shape_none before bytes = []
body_part (shape_length n) before bytes = take (n - before) bytes
body_part _ before bytes = bytes

-- the place of these in the text, where the piece's part of the text begins at a place
abbrev pub piece_run : ℕ → Shape → ℕ → List ℕ → List Run
piece_run place shape before bytes =
    let start = place + framing_len shape bytes in
    run_between start (start + length (body_part shape before bytes))

-- the same of a piece of an answer to a request; HEAD has no body
abbrev pub chunk_run : ℕ → ℕ → List ℕ → Option Head → Option Answered → List Run
chunk_run place before bytes (Some h) (Some a) =
    if (asked_of h).is_head then [] else piece_run place (shape_of (asked_of h) a.head a.size) before bytes
chunk_run place before bytes _ _ = []

-- what a step adds
unfoldable pub step_runs : Setting → List Step → Event → Outcome → List Run
step_runs setting before (on.chunk bytes) on.done =
    chunk_run (length (text setting before)) (answer_len before) bytes (request before) (answered before)
step_runs setting before _ _ = []

-- the body bytes of the text, a run for each piece of which some go out, in order
unfoldable pub body_runs : Setting → List Step → List Run
body_runs setting [] = []
body_runs setting (s ∷ before) = body_runs setting before ++ step_runs setting before s.event s.outcome

-- those of the bytes that wait to be written
abbrev pub buffered_runs : Setting → List Step → List Run
buffered_runs setting trace = runs_behind (length (written trace)) (body_runs setting trace)

-- the first segment of the bytes that wait
abbrev pub front_of : Setting → List Step → List ℕ
front_of setting trace = first_segment (buffered_runs setting trace) (buffered setting trace)
