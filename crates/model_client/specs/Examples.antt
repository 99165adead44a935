-- Values that the worked examples take.
use Rattle.std.specs.Prelude.{ℕ, Bool, true, false, List, [], ◌∷◌, codes, Some}
use Rattle.model_h1.specs.Place.{start}
use Rattle.model_h1.specs.Request.{raw_body, Header, keep_alive, BodyKind}
use Rattle.model_h1.specs.Setting.{Setting, disabled}
use Rattle.model_state.specs.Kept.{chunks_rest}
use Rattle.model_client.specs.AnswerTable.{answer_connection}
use Rattle.model_client.specs.AnswerReading.{Answer}
use Rattle.model_client.specs.WrittenHead.{line_of}
use Rattle.model_client.specs.ClientEvent.{ClientRequest}
use Rattle.model_client.specs.ClientKept.{Waiting, ClientKept, fresh_client}
use Rattle.model_client.specs.ClientStep.{behind_answer, pass}

-- a setting under which one byte fills what waits to be written
abbrev pub narrow : Setting
narrow = record {
  keep_alive = disabled;
  request_timeout = 0;
  disconnect_timeout = 0;
  allows_half_closed = false;
  write_buffer = 1;
  hold_size = 8192;
}

-- a request of this method and version without headers
abbrev pub request : List ℕ → ℕ → ClientRequest
request method minor = record {
  head = record { method = method; target = codes "/"; minor = minor; in_camel_case = false; headers = [] };
  connection = keep_alive;
}

-- a GET with an Upgrade of its own, on a connection that stays
abbrev pub upgrading : ClientRequest
upgrading = record {
  head = record { method = codes "GET"; target = codes "/"; minor = 1; in_camel_case = false; headers = line_of (codes "upgrade") (codes "websocket") ∷ [] };
  connection = keep_alive;
}

-- a connection on which this request waits
abbrev pub waits_for : Waiting → ClientKept
waits_for w = record fresh_client { waiting = w ∷ [] }

-- a connection on which a request of GET waits, that asks or doesn't ask that it closes
abbrev pub waits_for_get : Bool → ClientKept
waits_for_get closes = record fresh_client { waiting = (record { method = codes "GET"; closes = closes }) ∷ [] }

-- an answer 200 without headers, with this body
abbrev pub ok : BodyKind → Answer
ok kind = record { minor = 1; status = 200; reason = []; headers = []; body = kind; connection = keep_alive; is_lax = false }

-- an answer 200 in HTTP/1.minor with these lines and this body
abbrev pub answer : ℕ → List Header → BodyKind → Answer
answer minor lines kind = record {
  minor = minor;
  status = 200;
  reason = [];
  headers = lines;
  body = kind;
  connection = answer_connection minor 200 lines kind;
  is_lax = false;
}

-- an answer that goes over to another protocol, and names none
abbrev pub switched : Answer
switched = record (ok raw_body) { status = 101; connection = answer_connection 1 101 [] raw_body }

-- whether the connection closes after this answer to a request of this method that doesn't ask for it
abbrev pub closes_after : List ℕ → Answer → Bool
closes_after method a = (behind_answer fresh_client [] a (record { method = method; closes = false }) []).closes

-- a connection on which a body in chunks is read, of which these bytes are there
abbrev pub read_in_chunks : List ℕ → ClientKept
read_in_chunks bytes = record fresh_client { unread = bytes; reading = Some (record { rest = chunks_rest start []; is_done = false; was_dropped = false }) }

-- a connection of which a body in chunks is dropped, once these bytes of it have come
abbrev pub dropped_in_chunks : List ℕ → ClientKept
dropped_in_chunks bytes =
    pass (record fresh_client { unread = bytes; reading = Some (record { rest = chunks_rest start []; is_done = false; was_dropped = true }) })
