-- What contracts see of a table of connections over one board.
use Rattle.std.specs.Prelude.{ℕ, List, [], ◌∷◌, ◌++◌, ◌+◌, ◌<◌, ◌&&◌, ◌≡◌, ◌⊎◌, Bool, Option, Some, None, false, nat_lt, length, codes, decimal, if◌then◌else◌}
use Rattle.std.specs.List.{slice_get, slice_set}
use Rattle.std.specs.Str.{bytes_eq}
use Rattle.http_config.specs.Config.{Settings}
use Rattle.http_uri.specs.Uri.{uri_path}
use Rattle.http_types.specs.declared.requests.head.RequestHead.{RequestHead}
use Rattle.model_h1.specs.Answer.{AnswerHead, BodySize, size_of}
use Rattle.model_h1.specs.Event as on
use Rattle.model_h1.specs.Request.{Header}
use Rattle.h1_connection.specs.State.{State, fresh_state, IsAllowed, GoesOn, Is}
use Rattle.h1_connection.specs.EventMeaning.{SaysOutcome}
use Rattle.h1_connection.specs.declared.event.Outcome.{Outcome}
use Rattle.h1_connection.specs.declared.event.Outcome.TheVariants as out
use Rattle.board.specs.declared.command.Command.{Command}
use Rattle.board.specs.declared.command.Command.TheVariants.{Get, Add}
use Rattle.board.specs.Journal.{entry, reply_after}
use Rattle.board.specs.Views.{Held, Kept}

-- a connection, its pass, and what its last head asks of the board
pub record Seated : Type 0 where
  pub connection : State
  pub pass : Held
  pub asked : Option Command

-- a table: the settings of its connections, its board, and its connections by number
pub record Tabled : Type 0 where
  pub settings : Settings
  pub board : Kept
  pub seats : List Seated

-- a connection to which nothing came, with a pass that has no entry
abbrev pub fresh_seat : Settings → ℕ → Seated
fresh_seat settings number =
    record { connection = fresh_state settings; pass = record { number = number; entries = [] }; asked = None }

-- the connection of this number is such a one
abbrev pub At : Tabled → ℕ → (Seated → Type 0) → Type 0
At table id P = (seat : Seated) → slice_get table.seats id ≡ Some seat → P seat

-- the connection of this number goes on, and the others stay as they are, and the settings
pub record Moves (before : Tabled) (id : ℕ) (Leads : Seated → Seated → Type 0) (after : Tabled) : Type 0 where
  pub was : Seated
  pub now : Seated
  pub there : slice_get before.seats id ≡ Some was
  pub leads : Leads was now
  pub others : after.seats ≡ slice_set before.seats id now
  pub settings : after.settings ≡ before.settings

-- ---- what is asked

-- bytes that are a name
abbrev pub is_name : List ℕ → Bool
is_name bytes = nat_lt 0 (length bytes) && nat_lt (length bytes) 65

-- a GET asks for the counter that its path names, a POST adds one to it, and no other request asks anything
abbrev pub command_by : List ℕ → List ℕ → Option Command
command_by method path =
    if is_name path
    then (if bytes_eq method (codes "GET") then Some (Get path) else (if bytes_eq method (codes "POST") then Some (Add path) else None))
    else None

abbrev pub command_of : RequestHead → Option Command
command_of head = command_by head.method (uri_path head.uri)

-- what the last head asks, with this outcome
abbrev pub asked_after : Outcome → Option Command → Option Command
asked_after (out.Head item) asked = command_of item.head
asked_after _ asked = asked

-- the connection takes in an event, which is answered as the tables do over what happened to it
pub record Steps (event : on.Event) (outcome : Outcome) (was now : Seated) : Type 0 where
  pub stands : GoesOn was.connection event (SaysOutcome outcome) now.connection
  pub settings : now.connection.settings ≡ was.connection.settings
  pub pass : now.pass ≡ was.pass
  pub asked : now.asked ≡ asked_after outcome was.asked

-- ---- what is answered

-- a status with its own reason and no mark
abbrev pub answer_with : ℕ → List Header → AnswerHead
answer_with status headers =
    record {
      status = status;
      reason = None;
      closes = false;
      keeps_alive = false;
      upgrades = false;
      no_chunking = false;
      in_camel_case = false;
      headers = headers;
    }

-- 200 with the reply as `x-count`
abbrev pub count_answer : ℕ → AnswerHead
count_answer reply = answer_with 200 (record { name = codes "x-count"; value = decimal reply } ∷ [])

-- one call of the board with this pass was made: board and pass have one entry more, and it is the same
pub record Called (board : Kept) (pass : Held) (command : Command) (reply : ℕ) (board' : Kept) (pass' : Held) : Type 0 where
  pub reply_is : reply ≡ reply_after board.journal command
  pub room : length pass.entries < 1048576
  pub board_is : board' ≡ record board { journal = board.journal ++ entry pass.number command reply ∷ [] }
  pub pass_is : pass' ≡ record pass { entries = pass.entries ++ entry pass.number command reply ∷ [] }

-- no call was made
abbrev pub NotCalled : Kept → Held → Kept → Held → Type 0
NotCalled board pass board' pass' = (board' ≡ board) × (pass' ≡ pass)

-- The answer to what is asked: 404 where nothing is, without a call; 503 where the pass is full; else one call is made,
-- and the answer has its reply.
abbrev pub Replies : Option Command → Kept → Held → AnswerHead → Kept → Held → Type 0
Replies None board pass answer board' pass' = (answer ≡ answer_with 404 []) × NotCalled board pass board' pass'
Replies (Some command) board pass answer board' pass' =
    ((answer ≡ answer_with 503 []) × (length pass.entries ≡ 1048576) × NotCalled board pass board' pass')
    ⊎ ((reply : ℕ) × (answer ≡ count_answer reply) × Called board pass command reply board' pass')

-- the open request is answered so, with a body of no bytes whose length is told
pub record Handles (board board' : Kept) (was now : Seated) : Type 0 where
  pub answer : AnswerHead
  pub replies : Replies was.asked board was.pass answer board' now.pass
  pub answers : GoesOn was.connection (on.answer answer (size_of 0)) (Is on.done) now.connection
  pub settings : now.connection.settings ≡ was.connection.settings
  pub asked : now.asked ≡ was.asked

-- memory ran out: the connection is as it was, and no call was made or this one
pub record Fails (board board' : Kept) (was now : Seated) : Type 0 where
  pub connection : now.connection ≡ was.connection
  pub asked : now.asked ≡ was.asked
  pub calls : NotCalled board was.pass board' now.pass ⊎ ((command : Command) × (reply : ℕ) × (was.asked ≡ Some command) × Called board was.pass command reply board' now.pass)
