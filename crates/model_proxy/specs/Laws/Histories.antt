-- Whole histories for worked examples, with the past of the client's connection in each.
use Rattle.std.specs.Prelude.{ℕ, Bool, true, false, List, [], ◌∷◌, ◌++◌, take, codes, Option, Some, None}
use Rattle.model_h1.specs.Answer.{size_of, size_stream}
use Rattle.model_h1.specs.Event as on
use Rattle.model_h1.specs.Parse.{content, ended_at}
use Rattle.model_h1.specs.Request.{close, raw_body}
use Rattle.model_client.specs.AnswerReading.{Answer}
use Rattle.model_h1.specs.Past.{ParsedStep}
use Rattle.model_h1.specs.Laws.ExampleTraces.{parsed, get_text, get_head, get, close_text, close_head, closing_get, socket_text, socket_head, socket, broken_text, chunks_text, chunks_head, broken_chunks, open_chunks}
use Rattle.model_proxy.specs.Answers.{reply_head, own_head, refusal_head}
use Rattle.model_proxy.specs.Past.{client, server, client_eof, server_eof, connected, refused, to_client, to_server, tick, took, gave, done, ProxyStep}
use Rattle.model_proxy.specs.Exchange.{Exchange}
use Rattle.model_proxy.specs.Laws.Samples.{added, step, answer_with, hi_text, hi, timeout_text}

-- GET of `/` at the first moment: it is sent on the server connection with this number, by this step, or refused one
abbrev pub get_exchange : Option ℕ → ℕ → Bool → Exchange
get_exchange k n was_refused = record {
  pulled = record { head = get_head; pieces = []; is_ended = true; is_broken = false };
  server = k;
  sent_at = n;
  was_refused = was_refused;
}

-- ---- how each begins

-- the first moment, and then this is read, which a request is handed out for
abbrev pub ticked : List ProxyStep
ticked = step (tick 0) done ∷ []

abbrev pub ticked_past : List ParsedStep
ticked_past = parsed (on.tick 0) on.done [] ∷ []

abbrev pub asked_history : List ProxyStep
asked_history = step (client get_text) (took 27) ∷ ticked

abbrev pub asked_past : List ParsedStep
asked_past =
    parsed on.next (on.head get_head) (get ∷ [])
    ∷ parsed (on.read get_text) (on.took 27) (get ∷ [])
    ∷ ticked_past

-- ---- no server connection is to be had

abbrev pub bad_gateway_text : List ℕ
bad_gateway_text = codes "HTTP/1.1 502 Bad Gateway\r\ncontent-length: 0\r\ndate: Thu, 01 Jan 1970 00:00:00 GMT\r\n\r\n"

abbrev pub refused_history : List ProxyStep
refused_history =
    step (to_client 500) (gave bad_gateway_text)
    ∷ step refused done
    ∷ asked_history

abbrev pub refused_past : List ParsedStep
refused_past =
    parsed (on.write 500) (on.gave bad_gateway_text) (get ∷ [])
    ∷ parsed on.next on.pending (get ∷ [])
    ∷ parsed (on.answer (own_head 502) (size_of 0)) on.done (get ∷ [])
    ∷ asked_past

abbrev pub refused_exchanges : List Exchange
refused_exchanges = get_exchange None 0 true ∷ []

-- ---- a request is sent on, and its answer passed on

abbrev pub get_sent : List ℕ
get_sent = codes "GET / HTTP/1.1\r\n" ++ added

abbrev pub hi_passed : List ℕ
hi_passed = codes "HTTP/1.1 200 OK\r\ncontent-length: 2\r\nvia: 1.1 raspcream\r\ndate: Thu, 01 Jan 1970 00:00:00 GMT\r\n\r\nhi"

abbrev pub whole_history : List ProxyStep
whole_history =
    step (to_client 500) (gave hi_passed)
    ∷ step (server hi_text) (took 40)
    ∷ step (to_server 500) (gave get_sent)
    ∷ step connected done
    ∷ asked_history

abbrev pub whole_past : List ParsedStep
whole_past =
    parsed (on.write 500) (on.gave hi_passed) (get ∷ [])
    ∷ parsed on.next on.pending (get ∷ [])
    ∷ parsed on.body_end on.done (get ∷ [])
    ∷ parsed (on.chunk (codes "hi")) on.done (get ∷ [])
    ∷ parsed (on.answer (reply_head hi) (size_of 2)) on.done (get ∷ [])
    ∷ asked_past

abbrev pub whole_exchanges : List Exchange
whole_exchanges = get_exchange (Some 0) 3 false ∷ []

-- ---- a head without a host

abbrev pub bad_request_text : List ℕ
bad_request_text = codes "HTTP/1.1 400 Bad Request\r\ncontent-length: 0\r\nconnection: close\r\ndate: Thu, 01 Jan 1970 00:00:00 GMT\r\n\r\n"

abbrev pub hostless_history : List ProxyStep
hostless_history =
    step (to_client 500) (gave bad_request_text)
    ∷ step (client close_text) (took 37)
    ∷ ticked

abbrev pub hostless_past : List ParsedStep
hostless_past =
    parsed (on.write 500) (on.gave bad_request_text) (closing_get ∷ [])
    ∷ parsed (on.answer refusal_head (size_of 0)) on.done (closing_get ∷ [])
    ∷ parsed on.next (on.head close_head) (closing_get ∷ [])
    ∷ parsed (on.read close_text) (on.took 37) (closing_get ∷ [])
    ∷ ticked_past

abbrev pub hostless_exchanges : List Exchange
hostless_exchanges =
    record {
      pulled = record { head = close_head; pieces = []; is_ended = true; is_broken = false };
      server = None;
      sent_at = 0;
      was_refused = false;
    } ∷ []

-- ---- a request for another protocol

abbrev pub not_implemented_text : List ℕ
not_implemented_text =
    codes "HTTP/1.1 501 Not Implemented\r\ncontent-length: 0\r\nconnection: upgrade\r\ndate: Thu, 01 Jan 1970 00:00:00 GMT\r\n\r\n"

abbrev pub unforwardable_history : List ProxyStep
unforwardable_history =
    step (to_client 500) (gave not_implemented_text)
    ∷ step (client socket_text) (took 131)
    ∷ ticked

abbrev pub unforwardable_past : List ParsedStep
unforwardable_past =
    parsed (on.write 500) (on.gave not_implemented_text) (socket ∷ [])
    ∷ parsed (on.answer (own_head 501) (size_of 0)) on.done (socket ∷ [])
    ∷ parsed on.drop_body on.done (socket ∷ [])
    ∷ parsed on.next (on.head socket_head) (socket ∷ [])
    ∷ parsed (on.read socket_text) (on.took 131) (socket ∷ [])
    ∷ ticked_past

abbrev pub unforwardable_exchanges : List Exchange
unforwardable_exchanges =
    record {
      pulled = record { head = socket_head; pieces = []; is_ended = false; is_broken = false };
      server = None;
      sent_at = 0;
      was_refused = false;
    } ∷ []

-- ---- a body that breaks before its answer came: nothing was written towards the server yet

abbrev pub broken_text_answered : List ℕ
broken_text_answered = codes "HTTP/1.1 400 Bad Request\r\ncontent-length: 0\r\ndate: Thu, 01 Jan 1970 00:00:00 GMT\r\n\r\n"

abbrev pub broken_history : List ProxyStep
broken_history =
    step (to_client 500) (gave broken_text_answered)
    ∷ step connected done
    ∷ step (client broken_text) (took 48)
    ∷ ticked

abbrev pub broken_past : List ParsedStep
broken_past =
    parsed (on.write 500) (on.gave broken_text_answered) (broken_chunks ∷ [])
    ∷ parsed (on.answer (own_head 400) (size_of 0)) on.done (broken_chunks ∷ [])
    ∷ parsed on.pull (on.broken_by on.corrupted) (broken_chunks ∷ [])
    ∷ parsed on.next (on.head chunks_head) (broken_chunks ∷ [])
    ∷ parsed (on.read broken_text) (on.took 48) (broken_chunks ∷ [])
    ∷ ticked_past

abbrev pub broken_exchange : Exchange
broken_exchange = record {
  pulled = record { head = chunks_head; pieces = []; is_ended = false; is_broken = true };
  server = Some 0;
  sent_at = 3;
  was_refused = false;
}

abbrev pub broken_exchanges : List Exchange
broken_exchanges = broken_exchange ∷ []

-- ---- wrong forwarders

-- it answers 502, and no step said that no server connection can be had; its trace is `refused_past`
abbrev pub unasked_history : List ProxyStep
unasked_history = step (to_client 500) (gave bad_gateway_text) ∷ asked_history

-- it takes a whole answer, and then passes on what comes behind it
abbrev pub swallowed_history : List ProxyStep
swallowed_history =
    step (server timeout_text) (took 26)
    ∷ step (server hi_text) (took 40)
    ∷ step (to_server 500) (gave get_sent)
    ∷ step connected done
    ∷ asked_history

abbrev pub late_answer : Answer
late_answer = record (answer_with 408 (codes "Timed out") [] raw_body) { connection = close }

abbrev pub swallowed_past : List ParsedStep
swallowed_past =
    parsed on.next on.pending (get ∷ [])
    ∷ parsed (on.answer (reply_head late_answer) size_stream) on.done (get ∷ [])
    ∷ asked_past

-- its client's end comes, and isn't told to the client's connection, whose trace is `ticked_past`
abbrev pub ended_history : List ProxyStep
ended_history = step client_eof done ∷ ticked

-- it ends its client's connection unasked, behind the request
abbrev pub drained_past : List ParsedStep
drained_past = parsed on.drain on.done (get ∷ []) ∷ asked_past

-- A next request came behind the answer, and the server's input has ended: the request isn't read.
abbrev pub stuck_history : List ProxyStep
stuck_history = step server_eof done ∷ step (client get_text) (took 27) ∷ whole_history

abbrev pub stuck_past : List ParsedStep
stuck_past = parsed (on.read get_text) (on.took 27) (get ∷ record get { body_start = 54; body = content [] (ended_at 54 []) } ∷ []) ∷ whole_past

-- an answer has come in part, and all of that is passed on
abbrev pub cut_history : List ProxyStep
cut_history =
    step (server (take 39 hi_text)) (took 39)
    ∷ step (to_server 500) (gave get_sent)
    ∷ step connected done
    ∷ asked_history

abbrev pub cut_past : List ParsedStep
cut_past =
    parsed on.next on.pending (get ∷ [])
    ∷ parsed (on.chunk (codes "h")) on.done (get ∷ [])
    ∷ parsed (on.answer (reply_head hi) (size_of 2)) on.done (get ∷ [])
    ∷ asked_past

-- it sends a request on, and leaves the rest of its body
abbrev pub dropped_history : List ProxyStep
dropped_history = step connected done ∷ step (client chunks_text) (took 52) ∷ ticked

abbrev pub dropped_past : List ParsedStep
dropped_past =
    parsed on.drop_body on.done (open_chunks ∷ [])
    ∷ parsed on.next (on.head chunks_head) (open_chunks ∷ [])
    ∷ parsed (on.read chunks_text) (on.took 52) (open_chunks ∷ [])
    ∷ ticked_past

abbrev pub dropped_exchanges : List Exchange
dropped_exchanges = record broken_exchange { pulled = record { head = chunks_head; pieces = []; is_ended = false; is_broken = false } } ∷ []

-- an answer of no bytes that says that its server closes the connection
abbrev pub closing_text : List ℕ
closing_text = codes "HTTP/1.1 204 No Content\r\nconnection: close\r\n\r\n"

-- it closes the server connection as soon as it is there, and goes on to want one; its trace is `asked_past`
abbrev pub hung_up_history : List ProxyStep
hung_up_history = step connected done ∷ asked_history

-- the server's input ends before a request was sent on there, and then one is
abbrev pub dead_history : List ProxyStep
dead_history = step (tick 1) done ∷ step server_eof done ∷ step connected done ∷ asked_history

-- the server's input ends behind its answer; the client's trace is `whole_past`
abbrev pub idle_history : List ProxyStep
idle_history = step server_eof done ∷ whole_history
