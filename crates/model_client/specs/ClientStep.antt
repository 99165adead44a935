-- What the client's side of a connection answers to an allowed event, and what it keeps after it: a short case for each.
use Rattle.std.specs.Prelude.{◌≡◌, ℕ, ◌-◌, Bool, true, false, not, ◌&&◌, ◌||◌, List, [], ◌∷◌, ◌++◌, length, take, drop, min, slice_range, codes, nat_lt, ◌==◌, if◌then◌else◌, Option, Some, None}
use Rattle.std.specs.Option.{option_or}
use Rattle.model_h1.specs.HeadPiece.{IsHeadPiece}
use Rattle.model_h1.specs.Place.{broken}
use Rattle.model_h1.specs.Request.{Fault, malformed, too_large, has_body, ConnectionType}
use Rattle.model_h1.specs.LengthTable.{values_of, is_there}
use Rattle.model_h1.specs.Setting.{Setting}
use Rattle.model_h1.specs.Answer.{BodySize, is_at_once, Shape, shape_length}
use Rattle.model_h1.specs.AnswerText.{piece_text, end_text}
use Rattle.model_h1.specs.Closing.{is_kept}
use Rattle.model_h1.specs.Event as server
use Rattle.model_state.specs.Kept.{Rest, chunks_rest, whole_rest, rest_in, is_nothing}
use Rattle.model_state.specs.Body.{Passed, pass_rest}
use Rattle.model_state.specs.Pull.{Pulled, IsPull}
use Rattle.model_state.specs.Change.{IsComing}
use Rattle.model_state.specs.Reply.{stated}
use Rattle.model_client.specs.AnswerTable.{body_to, answer_connection}
use Rattle.model_client.specs.AnswerReading.{Answer, AnswerReading, answer_is, refused, IsAnswerReadingWithin}
use Rattle.model_client.specs.AnswerParse.{is_interim}
use Rattle.model_client.specs.RequestText.{request_text, asked_shape}
use Rattle.model_client.specs.ClientEvent as on
use Rattle.model_client.specs.ClientEvent.{ClientRequest, ClientEvent, ClientEnd, bad_answer, large_answer, broken_answer, failed_request, ClientOutcome}
use Rattle.model_client.specs.ClientKept.{Waiting, SendingBody, ReadingBody, ClientKept, is_free, client_closing, waiting_of}

-- an outcome, and what is kept after it
pub record ClientChange : Type 0 where
  pub outcome : ClientOutcome
  pub kept : ClientKept

-- it is done, and this is kept
abbrev pub doing : ClientKept → ClientChange
doing k = record { outcome = on.done; kept = k }

-- ---- a request

-- its body, unless it has none or ended with the head
abbrev pub begun_body : BodySize → Option SendingBody
begun_body size = if is_at_once size then None else Some (record { shape = asked_shape size; missing = stated (asked_shape size) })

-- its head is put behind what is to be written, and its method waits
abbrev pub asking : ClientRequest → BodySize → ClientKept → ClientKept
asking r size k = record k {
  buffered = k.buffered ++ request_text r.head (asked_shape size) size r.connection k.now;
  waiting = k.waiting ++ waiting_of r ∷ [];
  sending = begun_body size;
}

-- what goes out of a piece: no more than is missing of a stated length
abbrev pub piece_of : Shape → ℕ → List ℕ → List ℕ
piece_of (shape_length n) missing bytes = take missing bytes
piece_of shape missing bytes = piece_text shape 0 bytes

abbrev pub sending_piece : List ℕ → Option SendingBody → ClientKept → ClientKept
sending_piece bytes None k = k
sending_piece bytes (Some body) k = record k {
  buffered = k.buffered ++ piece_of body.shape body.missing bytes;
  sending = Some (record body { missing = body.missing - length bytes });
}

-- the body has ended; one that lacks bytes of its stated length has failed
abbrev pub ending_body : Option SendingBody → ClientKept → ClientKept
ending_body None k = k
ending_body (Some body) k = record k {
  buffered = k.buffered ++ end_text body.shape;
  sending = None;
  failed = option_or k.failed (if nat_lt 0 body.missing then Some failed_request else None);
}

-- ---- an answer's body

-- a body that breaks the grammar of chunks, so that its end can't be found
abbrev pub is_broken : Rest → Bool
is_broken (chunks_rest broken section) = true
is_broken _ = false

-- A dropped body is passed as far as it has come. It is done where it has ended, where it breaks, and where the input has
-- ended. Unless its end was there, the last two bring the end of the connection.
abbrev pub passed_body : Bool → ReadingBody → ClientKept → Passed → ClientKept
passed_body has_ended body k p = record k {
  unread = p.unread;
  reading = Some (record body { rest = p.rest; is_done = is_nothing p.rest || is_broken p.rest || has_ended });
  failed = option_or k.failed (if is_broken p.rest || (has_ended && not (is_nothing p.rest)) then Some broken_answer else None);
}

abbrev pub passing : Option ReadingBody → ClientKept → ClientKept
passing None k = k
passing (Some body) k =
    if body.was_dropped && not body.is_done then passed_body k.has_ended body k (pass_rest k.has_ended body.rest k.unread) else k

-- the same of what is kept
abbrev pub pass : ClientKept → ClientKept
pass k = passing k.reading k

abbrev pub dropping : Option ReadingBody → ClientKept → ClientKept
dropping None k = k
dropping (Some body) k = pass (record k { reading = Some (record body { was_dropped = true }) })

-- what a pull gives, in a client's words
abbrev pub outcome_of : server.Outcome → ClientOutcome
outcome_of (server.bytes given) = on.bytes given
outcome_of (server.trailers lines) = on.trailers lines
outcome_of server.body_ended = on.body_ended
outcome_of (server.broken_by fault) = on.broken_by fault
outcome_of _ = on.pending

-- the end that a broken body brings
abbrev pub end_of : server.Outcome → Option ClientEnd
end_of (server.broken_by fault) = Some broken_answer
end_of _ = None

abbrev pub pulled_from : ReadingBody → Pulled → ClientKept → ClientKept
pulled_from body p k = record k {
  unread = p.unread;
  reading = Some (record body { rest = p.rest; is_done = p.is_done });
  failed = option_or k.failed (end_of p.outcome);
}

abbrev pub IsPulling : ClientKept → Option ReadingBody → ClientChange → Type 0
IsPulling k None c = c ≡ record { outcome = on.pending; kept = k }
IsPulling k (Some body) c =
    (p : Pulled) × IsPull k.has_ended body.rest k.unread p × (c ≡ record { outcome = outcome_of p.outcome; kept = pulled_from body p k })

-- ---- bytes that come

-- as many bytes as there is room for
abbrev pub reading : Setting → List ℕ → ClientKept → ClientChange
reading setting bytes k =
    let n = min (length bytes) (setting.hold_size - length k.unread) in
    record { outcome = on.took n; kept = pass (record k { unread = k.unread ++ take n bytes }) }

abbrev pub body_at_end : List ℕ → Option ReadingBody → Option ReadingBody
body_at_end bytes None = None
body_at_end bytes (Some body) = Some (record body { rest = rest_in true bytes body.rest })

abbrev pub ending_input : ClientKept → ClientKept
ending_input k = pass (record k { has_ended = true; reading = body_at_end k.unread k.reading })

-- ---- the next answer

-- the end that a fault of a head brings
abbrev pub fault_end : Fault → ClientEnd
fault_end too_large = large_answer
fault_end malformed = bad_answer

-- the body of an answer of which nothing was read, where it isn't empty
abbrev pub new_body : Bool → List ℕ → List ℕ → Answer → ReadingBody
new_body has_ended unread method a =
    let kind = body_to method a.body in
    record { rest = rest_in has_ended unread (whole_rest kind); is_done = not (has_body kind); was_dropped = false }

-- What becomes of the connection after an answer to this method. A body that only the end of the input ends closes it; after
-- HEAD there is no body, so the lines decide.
abbrev pub connection_to : List ℕ → Answer → ConnectionType
connection_to method a = answer_connection a.minor a.status a.headers (body_to method a.body)

-- The lines name a coding in HTTP/1.0, or beside a length: other readers frame such an answer in another way, so that
-- nothing is read after it (RFC 9112, sections 6.1 and 6.3).
abbrev pub is_ambiguous : Answer → Bool
is_ambiguous a =
    is_there (values_of (codes "transfer-encoding") a.headers)
    && ((a.minor == 0) || is_there (values_of (codes "content-length") a.headers))

-- No answer is read after this one: it goes over to another protocol, whether its lines name one or not (RFC 9110, section
-- 15.2.2), or it is ambiguous.
abbrev pub is_last_answer : Answer → Bool
is_last_answer a = (a.status == 101) || is_ambiguous a

-- the connection closes after this answer
abbrev pub is_closed_after : Waiting → Answer → Bool
is_closed_after w a = w.closes || not (is_kept (connection_to w.method a)) || is_last_answer a

-- After a final answer its request waits no more; an interim one leaves it waiting, and has no body (RFC 7231, section 6.2).
abbrev pub behind_final : ClientKept → List ℕ → Answer → Waiting → List Waiting → ClientKept
behind_final k unread a w ws = record k {
  unread = unread;
  waiting = ws;
  closes = is_closed_after w a;
  reading = Some (new_body k.has_ended unread w.method a);
}

abbrev pub behind_answer : ClientKept → List ℕ → Answer → Waiting → List Waiting → ClientKept
behind_answer k unread a w ws = if is_interim a.status then record k { unread = unread } else behind_final k unread a w ws

-- a fault is told, and ends the connection; an answer is handed out
abbrev pub behind_head : ClientKept → ℕ → Waiting → List Waiting → AnswerReading → ClientChange
behind_head k end w ws (refused f) = record { outcome = on.fault f; kept = record k { failed = Some (fault_end f) } }
behind_head k end w ws (answer_is a) = record { outcome = on.answer a; kept = behind_answer k (drop end k.unread) a w ws }

-- no more bytes can be taken for a head, or none is there yet
abbrev pub without_head : Setting → ClientKept → ClientChange
without_head setting k =
    if length k.unread == setting.hold_size
    then record { outcome = on.fault too_large; kept = record k { failed = Some large_answer } }
    else record { outcome = on.pending; kept = k }

-- the next answer, where one is coming: nobody is answered who didn't ask
abbrev pub IsUpcoming : Setting → ClientKept → List Waiting → Bool → ClientChange → Type 0
IsUpcoming setting k waiting false c = c ≡ without_head setting k
IsUpcoming setting k [] true c = c ≡ record { outcome = on.pending; kept = k }
IsUpcoming setting k (w ∷ ws) true c =
    (start end : ℕ) × (what : AnswerReading) × IsHeadPiece k.unread start end
    × IsAnswerReadingWithin (Some setting.hold_size) (slice_range k.unread start end) what × (c ≡ behind_head k end w ws what)

abbrev pub IsNext : Setting → ClientKept → Option ClientEnd → ClientChange → Type 0
IsNext setting k (Some end) c = c ≡ record { outcome = on.closed end; kept = record k { is_over = true } }
IsNext setting k None c = IsUpcoming setting k k.waiting k.is_coming c

-- ---- all events

-- what an allowed event changes, but for whether a head is coming
abbrev pub IsClientChange : Setting → ClientKept → ClientEvent → ClientChange → Type 0
IsClientChange setting k (on.ask r size) c = c ≡ doing (asking r size k)
IsClientChange setting k (on.chunk bytes) c = c ≡ doing (sending_piece bytes k.sending k)
IsClientChange setting k on.body_end c = c ≡ doing (ending_body k.sending k)
IsClientChange setting k on.body_error c = c ≡ doing (record k { sending = None; failed = option_or k.failed (Some failed_request) })
IsClientChange setting k (on.read bytes) c = c ≡ reading setting bytes k
IsClientChange setting k on.eof c = c ≡ doing (ending_input k)
IsClientChange setting k on.next c = IsNext setting k (client_closing k) c
IsClientChange setting k on.pull c = IsPulling k k.reading c
IsClientChange setting k on.drop_body c = c ≡ doing (dropping k.reading k)
IsClientChange setting k (on.write n) c =
    c ≡ record { outcome = on.gave (take n k.buffered); kept = record k { buffered = drop n k.buffered } }
IsClientChange setting k (on.tick ms) c = c ≡ doing (record k { now = ms })

-- The step of the client's side of a connection.
pub record IsClientStep (setting : Setting) (k : ClientKept) (event : ClientEvent) (outcome : ClientOutcome) (next : ClientKept) : Type 0 where
  pub change : ClientChange
  pub coming : Bool
  pub changes : IsClientChange setting k event change
  pub answers : outcome ≡ change.outcome
  pub comes : IsComing (is_free change.kept) change.kept.unread coming
  pub keeps : next ≡ record change.kept { is_coming = coming }

-- it is known whether a head is coming, as it is after each step
abbrev pub KnowsComing : ClientKept → Type 0
KnowsComing k = IsComing (is_free k) k.unread k.is_coming
