-- What is put behind what waits: pieces of an answer's body, with the places of their bytes, and the head of an upgrade.
use Rattle.std.specs.Prelude.{ℕ, ◌+◌, List, ◌++◌, length}
use Rattle.model_h1.specs.Answer.{Asked, Shape, shape_chunked, shape_raw, size_stream}
use Rattle.model_h1.specs.AnswerText.{chunk_text, head_text}
use Rattle.model_h1.specs.Handshake.{accepting_head}
use Rattle.model_h1.specs.Parse.{run_between}
use Rattle.model_h1.specs.Request.{upgrade}
use Rattle.model_state.specs.Reply.{piece_sent}
use Rattle.model_state.specs.Marks.{framing_len}
use Rattle.model_state.specs.After.{run_sent}
use Rattle.h1_output.specs.Queued.{Queued}

abbrev pub with_sent : Asked → Shape → ℕ → List ℕ → Queued → Queued
with_sent asked shape missing bytes q =
    record {
      bytes = q.bytes ++ piece_sent asked shape missing bytes;
      marks = q.marks ++ run_sent (length q.bytes) asked shape missing bytes;
    }

-- a chunk, where one goes out
abbrev pub with_chunk : List ℕ → Queued → Queued
with_chunk bytes q =
    let start = length q.bytes + framing_len shape_chunked bytes in
    record { bytes = q.bytes ++ chunk_text bytes; marks = q.marks ++ run_between start (start + length bytes) }

-- The head that upgrades the connection, by the answer to a key. The settings are no matter, nor whether the connection drains.
abbrev pub accepting_text : Asked → List ℕ → ℕ → List ℕ
accepting_text asked key moment = head_text asked.minor (accepting_head key) shape_raw size_stream upgrade moment
