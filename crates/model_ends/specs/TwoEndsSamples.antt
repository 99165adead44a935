-- A sample history, for worked examples.
use Rattle.std.specs.Prelude.{ℕ, true, false, List, [], ◌∷◌, codes}
use Rattle.model_h1.specs.Request.{Head, fixed_body, no_body, keep_alive, head_is}
use Rattle.model_h1.specs.Answer.{size_none, size_of}
use Rattle.model_h1.specs.Event as server_on
use Rattle.model_h1.specs.Parse.{Message, content, ended_at}
use Rattle.model_h1.specs.Past.{ParsedStep, steps}
use Rattle.model_h1.specs.Sums.{Step}
use Rattle.model_h1.specs.Laws.ExampleTraces.{parsed, ok as ok_head}
use Rattle.model_client.specs.AnswerReading.{Answer}
use Rattle.model_client.specs.WrittenHead.{line_of}
use Rattle.model_client.specs.ClientEvent.{ClientRequest}
use Rattle.model_client.specs.ClientKept.{ClientKept, fresh_client, waiting_of}
use Rattle.model_client.specs.ClientStep.{asking, behind_final}
use Rattle.model_client.specs.ClientEvent as on
use Rattle.model_client.specs.ClientEvent.{ClientEvent, ClientOutcome}
use Rattle.model_client.specs.ClientTrace.{Happened}
use Rattle.model_client.specs.Examples.{request, ok}

-- an event and what was answered to it
abbrev pub happened : ClientEvent → ClientOutcome → Happened
happened event outcome = record { event = event; outcome = outcome }

-- a POST of three bytes of which one has come
abbrev pub begun_post : List Happened
begun_post = happened (on.chunk (codes "a")) on.done ∷ happened (on.ask (request (codes "POST") 1) (size_of 3)) on.done ∷ []

-- the same with all of them, and its answer of two bytes in two pieces, the newest first
abbrev pub whole_post : List Happened
whole_post =
    happened on.pull on.body_ended
    ∷ happened on.pull (on.bytes (codes "i"))
    ∷ happened on.pull (on.bytes (codes "h"))
    ∷ happened on.next (on.answer (ok (fixed_body 2)))
    ∷ happened on.body_end on.done
    ∷ happened (on.chunk (codes "bc")) on.done
    ∷ begun_post

-- ---- a whole exchange: a GET, from the event that asks it to the answer that is handed out

-- GET of `/`, on a connection that stays
abbrev pub get_asked : ClientRequest
get_asked = record {
  head = record {
    method = codes "GET";
    target = codes "/";
    minor = 1;
    in_camel_case = false;
    headers = line_of (codes "host") (codes "a") ∷ [];
  };
  connection = keep_alive;
}

-- 64 bytes
abbrev pub get_text : List ℕ
get_text = codes "GET / HTTP/1.1\r\nhost: a\r\ndate: Thu, 01 Jan 1970 00:00:00 GMT\r\n\r\n"

-- what a server reads in them
abbrev pub get_head : Head
get_head = record {
  method = codes "GET";
  target = codes "/";
  minor = 1;
  headers = line_of (codes "host") (codes "a") ∷ line_of (codes "date") (codes "Thu, 01 Jan 1970 00:00:00 GMT") ∷ [];
  body = no_body;
  connection = keep_alive;
  expects = false;
}

abbrev pub get_read : Message
get_read = record { reading = head_is get_head; body_start = 64; body = content [] (ended_at 64 []) }

-- 75 bytes
abbrev pub answer_text : List ℕ
answer_text = codes "HTTP/1.1 200 OK\r\ncontent-length: 0\r\ndate: Thu, 01 Jan 1970 00:00:00 GMT\r\n\r\n"

-- what a client reads in them
abbrev pub answer_read : Answer
answer_read = record {
  minor = 1;
  status = 200;
  reason = codes "OK";
  headers = line_of (codes "content-length") (codes "0") ∷ line_of (codes "date") (codes "Thu, 01 Jan 1970 00:00:00 GMT") ∷ [];
  body = no_body;
  connection = keep_alive;
  is_lax = false;
}

-- all that happened to the server, with what is parsed of the bytes taken by then, the newest first
abbrev pub served_past : List ParsedStep
served_past =
    parsed (server_on.write 200) (server_on.gave answer_text) (get_read ∷ [])
    ∷ parsed (server_on.answer ok_head (size_of 0)) server_on.done (get_read ∷ [])
    ∷ parsed server_on.next (server_on.head get_head) (get_read ∷ [])
    ∷ parsed (server_on.read get_text) (server_on.took 64) (get_read ∷ [])
    ∷ parsed (server_on.tick 0) server_on.done [] ∷ []

abbrev pub get_served : List Step
get_served = steps served_past

-- what the client keeps after each event, and all that happened to it
abbrev pub kept_asked : ClientKept
kept_asked = asking get_asked size_none fresh_client

abbrev pub kept_written : ClientKept
kept_written = record kept_asked { buffered = [] }

abbrev pub kept_read : ClientKept
kept_read = record kept_written { unread = answer_text; is_coming = true }

abbrev pub kept_answered : ClientKept
kept_answered = record (behind_final kept_read [] answer_read (waiting_of get_asked) []) { is_coming = false }

abbrev pub get_happened : List Happened
get_happened =
    happened on.next (on.answer answer_read)
    ∷ happened (on.read answer_text) (on.took 75)
    ∷ happened (on.write 64) (on.gave get_text)
    ∷ happened (on.ask get_asked size_none) on.done ∷ []
