-- What the worked examples of traces share: a setting, requests with what is parsed of them, and answers.
use Rattle.std.specs.Prelude.{ℕ, List, [], ◌∷◌, None, Some, codes, true, false}
use Rattle.model_h1.specs.Request.{Header, no_body, fixed_body, chunked_body, raw_body, close, keep_alive, upgrade, Head, malformed, head_is, faulty}
use Rattle.model_h1.specs.Setting.{Setting, timeout}
use Rattle.model_h1.specs.Answer.{AnswerHead}
use Rattle.model_h1.specs.Frame.{unmasked_frame}
use Rattle.model_h1.specs.Parse.{Message, no_content, content, frames, ended_at, still_open, broken}
use Rattle.model_h1.specs.Event.{Event, Outcome}
use Rattle.model_h1.specs.Sums.{Step}
use Rattle.model_h1.specs.Past.{ParsedStep, steps, IsPast}
use Rattle.model_h1.specs.Trace.{IsTrace}

-- five seconds for a head and between two requests, and one second for a peer that takes no bytes
abbrev pub usual : Setting
usual = record {
  keep_alive = timeout 5000;
  request_timeout = 5000;
  disconnect_timeout = 1000;
  allows_half_closed = true;
  write_buffer = 32768;
  hold_size = 131072;
}

-- an event and its outcome
abbrev pub step : Event → Outcome → Step
step event outcome = record { event = event; outcome = outcome }

-- the same, and what is parsed of the bytes taken by then
abbrev pub parsed : Event → Outcome → List Message → ParsedStep
parsed event outcome messages = record { step = step event outcome; parse = messages }

-- the past is that of a trace: each event is allowed and has its outcome, and each parse is that of the bytes taken
pub record Happens (setting : Setting) (past : List ParsedStep) : Type 0 where
  pub trace : IsTrace setting (steps past)
  pub right : IsPast setting past

-- ---- a request without a body

-- 27 bytes
abbrev pub get_text : List ℕ
get_text = codes "GET / HTTP/1.1\r\nhost: a\r\n\r\n"

abbrev pub get_head : Head
get_head = record {
  method = codes "GET";
  target = codes "/";
  minor = 1;
  headers = record { name = codes "host"; value = codes "a" } ∷ [];
  body = no_body;
  connection = keep_alive;
  expects = false;
}

abbrev pub get : Message
get = record { reading = head_is get_head; body_start = 27; body = content [] (ended_at 27 []) }

-- ---- one that asks to close

-- 37 bytes
abbrev pub close_text : List ℕ
close_text = codes "GET / HTTP/1.1\r\nconnection: close\r\n\r\n"

abbrev pub close_head : Head
close_head = record {
  method = codes "GET";
  target = codes "/";
  minor = 1;
  headers = record { name = codes "connection"; value = codes "close" } ∷ [];
  body = no_body;
  connection = close;
  expects = false;
}

abbrev pub closing_get : Message
closing_get = record { reading = head_is close_head; body_start = 37; body = content [] (ended_at 37 []) }

-- ---- one with a body of three bytes, of which two have come

-- a head of 38 bytes, and two more
abbrev pub post_text : List ℕ
post_text = codes "POST / HTTP/1.1\r\ncontent-length: 3\r\n\r\nab"

abbrev pub post_head : Head
post_head = record {
  method = codes "POST";
  target = codes "/";
  minor = 1;
  headers = record { name = codes "content-length"; value = codes "3" } ∷ [];
  body = fixed_body 3;
  connection = keep_alive;
  expects = false;
}

abbrev pub open_post : Message
open_post = record { reading = head_is post_head; body_start = 38; body = content (record { start = 38; end = 40 } ∷ []) still_open }

-- ---- one with a body in chunks

-- a head of 47 bytes, a chunk of one byte, and the first byte of a size line
abbrev pub chunks_text : List ℕ
chunks_text = codes "POST / HTTP/1.1\r\ntransfer-encoding: chunked\r\n\r\n1\r\na\r\n0"

abbrev pub chunks_head : Head
chunks_head = record {
  method = codes "POST";
  target = codes "/";
  minor = 1;
  headers = record { name = codes "transfer-encoding"; value = codes "chunked" } ∷ [];
  body = chunked_body;
  connection = keep_alive;
  expects = false;
}

abbrev pub open_chunks : Message
open_chunks = record { reading = head_is chunks_head; body_start = 47; body = content (record { start = 50; end = 51 } ∷ []) still_open }

-- the rest of the body: a trailer line, and the empty line
abbrev pub rest_of_chunks : List ℕ
rest_of_chunks = codes "\r\nX: y \r\n\r\n"

abbrev pub trailer : Header
trailer = record { name = codes "x"; value = codes "y" }

abbrev pub whole_chunks : Message
whole_chunks =
    record { reading = head_is chunks_head; body_start = 47; body = content (record { start = 50; end = 51 } ∷ []) (ended_at 65 (trailer ∷ [])) }

-- the same head, and a byte that no size line begins with
abbrev pub broken_text : List ℕ
broken_text = codes "POST / HTTP/1.1\r\ntransfer-encoding: chunked\r\n\r\ng"

abbrev pub broken_chunks : Message
broken_chunks = record { reading = head_is chunks_head; body_start = 47; body = content [] broken }

-- ---- one that asks for a WebSocket

-- 131 bytes
abbrev pub socket_text : List ℕ
socket_text =
    codes
    "GET / HTTP/1.1\r\nupgrade: websocket\r\nconnection: upgrade\r\nsec-websocket-version: 13\r\nsec-websocket-key: dGhlIHNhbXBsZSBub25jZQ==\r\n\r\n"

abbrev pub socket_head : Head
socket_head = record {
  method = codes "GET";
  target = codes "/";
  minor = 1;
  headers = record { name = codes "upgrade"; value = codes "websocket" }
      ∷ record {
        name = codes "connection";
        value = codes "upgrade";
      } ∷ record {
        name = codes "sec-websocket-version";
        value = codes "13";
      } ∷ record {
        name = codes "sec-websocket-key";
        value = codes "dGhlIHNhbXBsZSBub25jZQ==";
      } ∷ [];
  body = raw_body;
  connection = upgrade;
  expects = false;
}

abbrev pub socket : Message
socket = record { reading = head_is socket_head; body_start = 131; body = content [] still_open }

-- once it is accepted: no frame yet, and then a frame without a mask
abbrev pub accepted_socket : Message
accepted_socket = record { reading = head_is socket_head; body_start = 131; body = frames [] None }

abbrev pub broken_socket : Message
broken_socket = record { reading = head_is socket_head; body_start = 131; body = frames [] (Some unmasked_frame) }

-- ---- a head that is refused

abbrev pub refused : Message
refused = record { reading = faulty malformed; body_start = 7; body = no_content }

-- ---- answers

-- 200, with no header of its own
abbrev pub ok : AnswerHead
ok = record {
  status = 200;
  reason = None;
  closes = false;
  keeps_alive = false;
  upgrades = false;
  no_chunking = false;
  in_camel_case = false;
  headers = [];
}

-- the same, and the connection is to close
abbrev pub ok_and_close : AnswerHead
ok_and_close = record ok { closes = true }
