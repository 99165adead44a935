-- What the worked examples share: requests, answers and histories.
use Rattle.std.specs.Prelude.{ℕ, Bool, true, false, List, [], ◌∷◌, ◌++◌, length, codes, Some}
use Rattle.model_h1.specs.Request.{Header, keep_alive, BodyKind, no_body, fixed_body, Head}
use Rattle.model_client.specs.AnswerReading.{Answer}
use Rattle.model_client.specs.AnswerParse.{Received}
use Rattle.model_client.specs.WrittenHead.{line_of}
use Rattle.model_proxy.specs.Edge.{Edge}
use Rattle.model_proxy.specs.Forward.{Sent}
use Rattle.model_proxy.specs.Past.{ProxyEvent, client, server, connected, ProxyOutcome, took, done, ProxyStep}
use Rattle.model_proxy.specs.Exchange.{Exchange}

-- What is told of a client that isn't trusted; and where it is, and heads are taken that RFC 9112 refuses.
abbrev pub usual_edge : Edge
usual_edge = record {
  address = codes "192.0.2.1";
  element = codes "for=_client;proto=http";
  host = codes "b:81";
  trusts = false;
  is_lax = false;
}

abbrev pub trusting_edge : Edge
trusting_edge = record usual_edge { trusts = true }

abbrev pub lax_edge : Edge
lax_edge = record usual_edge { is_lax = true }

-- a head of this method, target and lines, whose body ends there
abbrev pub plain_head : List ℕ → List ℕ → List Header → BodyKind → Head
plain_head method target headers body = record {
  method = method;
  target = target;
  minor = 1;
  headers = headers;
  body = body;
  connection = keep_alive;
  expects = false;
}

-- the same, and its first line names the host
abbrev pub head_for : List ℕ → List ℕ → List Header → BodyKind → Head
head_for method target headers body = plain_head method target (line_of (codes "host") (codes "a") ∷ headers) body

-- GET of /x, whose Connection line names another line, and Host
abbrev pub get_x : Head
get_x = head_for (codes "GET") (codes "/x") (line_of (codes "connection") (codes "X-A ,host") ∷ line_of (codes "x-a") (codes "1") ∷ []) no_body

-- GET of a client that tells of an earlier one
abbrev pub told_head : Head
told_head = head_for (codes "GET") (codes "/x")
    (line_of (codes "x-forwarded-for") (codes "10.0.0.1") ∷ line_of (codes "via") (codes "1.1 cache") ∷ line_of (codes "x-forwarded-proto") (codes "https") ∷ []) no_body

-- the lines that are added to a head which names this host, and the date of the first moment
abbrev pub added : List ℕ
added =
    codes "host: a\r\nvia: 1.1 raspcream\r\nx-forwarded-for: 192.0.2.1\r\nforwarded: for=_client;proto=http\r\nx-forwarded-proto: http\r\nx-forwarded-host: a\r\n"
    ++ codes "date: Thu, 01 Jan 1970 00:00:00 GMT\r\n\r\n"

-- what was sent of a head at the first moment
abbrev pub sent_now : Head → List (List ℕ) → Bool → Sent
sent_now h pieces is_whole = record { edge = usual_edge; head = h; moment = 0; pieces = pieces; is_whole = is_whole }

-- an answer of this status, reason and lines
abbrev pub answer_with : ℕ → List ℕ → List Header → BodyKind → Answer
answer_with status reason headers body = record {
  minor = 1;
  status = status;
  reason = reason;
  headers = headers;
  body = body;
  connection = keep_alive;
  is_lax = false;
}

-- bytes of a server of which at most 131,072 are held, and whether its input has ended
abbrev pub came : List ℕ → Bool → Received
came bytes ended = record { bytes = bytes; ended = ended; hold_size = Some 131072 }

-- 40 bytes, an answer with two of its body; and 26 more, with which some servers close a connection that isn't used
abbrev pub hi_text : List ℕ
hi_text = codes "HTTP/1.1 200 OK\r\ncontent-length: 2\r\n\r\nhi"

abbrev pub timeout_text : List ℕ
timeout_text = codes "HTTP/1.1 408 Timed out\r\n\r\n"

abbrev pub hi : Answer
hi = answer_with 200 (codes "OK") (line_of (codes "content-length") (codes "2") ∷ []) (fixed_body 2)

abbrev pub step : ProxyEvent → ProxyOutcome → ProxyStep
step event outcome = record { event = event; outcome = outcome }

-- a request was sent on by the second step, and a third one brings these bytes of the server
abbrev pub answered_by : List ℕ → List ProxyStep
answered_by bytes =
    step (server bytes) (took (length bytes))
    ∷ step connected done
    ∷ step (client (codes "GET /x HTTP/1.1\r\n\r\n")) (took 19) ∷ []

-- the same, and then a next request of the client, by which it is sent on
abbrev pub asked_again : List ℕ → List ProxyStep
asked_again bytes = step (client (codes "GET /x HTTP/1.1\r\n\r\n")) (took 19) ∷ answered_by bytes

-- a request for /x that was sent on the first server connection, by this step
abbrev pub exchange_at : ℕ → Exchange
exchange_at n = record {
  pulled = record { head = head_for (codes "GET") (codes "/x") [] no_body; pieces = []; is_ended = true; is_broken = false };
  server = Some 0;
  sent_at = n;
  was_refused = false;
}
