-- What a connection answers to an allowed event, and what it keeps behind it: a short case for each event.
use Rattle.std.specs.Prelude.{◌≡◌, ℕ, ◌-◌, Bool, true, false, ◌||◌, List, ◌++◌, length, take, drop, min, slice_range, ◌==◌, if◌then◌else◌, Option, Some, None, is_some}
use Rattle.std.specs.Option.{option_or}
use Rattle.model_h1.specs.HeadPiece.{IsHeadPiece, HasNoHeadPiece}
use Rattle.model_h1.specs.Request.{too_large, Reading, head_is, faulty}
use Rattle.model_h1.specs.RequestHead.{IsReadingWithin}
use Rattle.model_h1.specs.Setting.{Setting}
use Rattle.model_h1.specs.Answer.{size_stream}
use Rattle.model_h1.specs.AnswerText.{interim_text}
use Rattle.model_h1.specs.Handshake.{HandshakeError, accepting_head}
use Rattle.model_h1.specs.Frame.{Message, ProtocolError}
use Rattle.model_h1.specs.FrameText.{send_error}
use Rattle.model_h1.specs.Text.{answer_head_text, fault_answer, message_text}
use Rattle.model_h1.specs.Sums.{under_way_behind}
use Rattle.model_h1.specs.Closing.{fault_end}
use Rattle.model_h1.specs.Event.{Event, Outcome}
use Rattle.model_h1.specs.Event as on
use Rattle.model_h1.specs.End as ends
use Rattle.model_h1.specs.End.{End}
use Rattle.model_state.specs.Kept.{frames_rest, Exchange, Kept, whole_rest, rest_in, new_exchange, is_free, now}
use Rattle.model_state.specs.Local.{closing_by}
use Rattle.model_state.specs.Body.{passing}
use Rattle.model_state.specs.Pull.{Pulled, IsPull}
use Rattle.model_state.specs.Reply.{answering, sending_piece, ending_body}
use Rattle.model_state.specs.Kept.{Change}
use Rattle.model_state.specs.Clock.{ticking}

-- it is done, and this is kept
abbrev pub doing : Kept → Change
doing k = record { outcome = on.done; kept = k }

-- what is done with the last request, where there is one, and all is as before where there is none
abbrev pub doing_with : (Exchange → Kept → Kept) → Kept → Change
doing_with act k = by_exchange k.exchange
  where
    by_exchange : Option Exchange → Change
    by_exchange None = doing k
    by_exchange (Some x) = doing (act x k)

-- ---- bytes that come

-- as many bytes as there is room for
abbrev pub reading : Setting → List ℕ → Kept → Change
reading setting bytes k =
    let n = min (length bytes) (setting.hold_size - length k.unread) in
    record { outcome = on.took n; kept = passing (record k { unread = k.unread ++ take n bytes }) }

abbrev pub exchange_at_end : List ℕ → Option Exchange → Option Exchange
exchange_at_end bytes None = None
exchange_at_end bytes (Some x) = Some (record x { rest = rest_in true bytes x.rest })

abbrev pub ending_input : Kept → Kept
ending_input k = passing (record k { has_ended = true; exchange = exchange_at_end k.unread k.exchange })

-- ---- the next head

-- a fault is told and answered; a head is handed out
abbrev pub behind_head : Kept → ℕ → Reading → Change
behind_head k end (faulty f) =
    record { outcome = on.fault f; kept = record k { failed = Some (fault_end f); buffered = k.buffered ++ fault_answer f (now k) } }
behind_head k end (head_is h) =
    let unread = drop end k.unread in
    record { outcome = on.head h; kept = record k { unread = unread; exchange = Some (new_exchange (rest_in k.has_ended unread (whole_rest h.body)) h) } }

-- no more bytes can be taken for a head, or none is there yet
abbrev pub without_head : Setting → Kept → Change
without_head setting k =
    if length k.unread == setting.hold_size then behind_head k 0 (faulty too_large) else record { outcome = on.pending; kept = k }

abbrev pub IsUpcoming : Setting → Kept → Bool → Change → Type 0
IsUpcoming setting k false c = c ≡ without_head setting k
IsUpcoming setting k true c =
    (start end : ℕ) × (what : Reading) × IsHeadPiece k.unread start end
    × IsReadingWithin setting.hold_size (slice_range k.unread start end) what × (c ≡ behind_head k end what)

abbrev pub IsNext : Setting → Kept → Option End → Change → Type 0
IsNext setting k (Some end) c = c ≡ record { outcome = on.closed end; kept = record k { is_over = true } }
IsNext setting k None c = IsUpcoming setting k k.is_coming c

-- ---- a body

abbrev pub pulled_from : Exchange → Pulled → Kept → Kept
pulled_from x p k =
    record k {
      unread = p.unread;
      exchange = Some (record x { rest = p.rest; was_pulled = true; body_is_done = x.body_is_done || p.is_done });
      failed = option_or p.failed k.failed;
    }

abbrev pub IsPulling : Kept → Option Exchange → Change → Type 0
IsPulling k None c = c ≡ record { outcome = on.pending; kept = k }
IsPulling k (Some x) c =
    (p : Pulled) × IsPull k.has_ended x.rest k.unread p × (c ≡ record { outcome = p.outcome; kept = pulled_from x p k })

-- ---- a WebSocket

-- it is refused, or accepted with a limit
abbrev pub accepting : Setting → ℕ → Exchange → Kept → Option HandshakeError → Change
accepting setting limit x k (Some error) = record { outcome = on.refused error; kept = k }
accepting setting limit x k None =
    doing (record k {
      buffered = k.buffered ++ answer_head_text setting k.is_draining x.asked (accepting_head x.accept_key) size_stream (now k);
      exchange = Some (record x { rest = frames_rest false limit });
    })

abbrev pub accepting_with : Setting → ℕ → Kept → Option Exchange → Change
accepting_with setting limit k None = doing k
accepting_with setting limit k (Some x) = accepting setting limit x k x.refusal

abbrev pub sending_message : Message → Kept → Option ProtocolError → Change
sending_message m k (Some error) = record { outcome = on.protocol error; kept = record k { failed = Some ends.protocol } }
sending_message m k None =
    doing (record k { buffered = k.buffered ++ message_text m; is_sending = under_way_behind k.is_sending (on.send m) on.done })

-- ---- all events

-- what an allowed event changes, but for whether a head is coming and since when the connection closes
abbrev pub IsChange : Setting → Kept → Event → Change → Type 0
IsChange setting k (on.read bytes) c = c ≡ reading setting bytes k
IsChange setting k on.eof c = c ≡ doing (ending_input k)
IsChange setting k on.drain c = c ≡ doing (record k { is_draining = true })
IsChange setting k on.next c = IsNext setting k (closing_by setting k) c
IsChange setting k on.pull c = IsPulling k k.exchange c
IsChange setting k on.drop_body c = c ≡ doing_with (λ x k. record k { exchange = Some (record x { was_dropped = true }) }) k
IsChange setting k on.send_continue c =
    c ≡ doing_with (λ x k. record k { buffered = k.buffered ++ interim_text; exchange = Some (record x { had_continue = true }) }) k
IsChange setting k (on.answer head size) c = c ≡ doing_with (answering setting head size) k
IsChange setting k (on.chunk bytes) c = c ≡ doing_with (sending_piece bytes) k
IsChange setting k on.body_end c = c ≡ doing_with ending_body k
IsChange setting k on.body_error c = c ≡ doing (record k { failed = Some ends.body })
IsChange setting k (on.write n) c =
    c ≡ record { outcome = on.gave (take n k.buffered); kept = record k { buffered = drop n k.buffered } }
IsChange setting k (on.tick ms) c = c ≡ ticking setting k (closing_by setting k) ms
IsChange setting k (on.accept limit) c = c ≡ accepting_with setting limit k k.exchange
IsChange setting k (on.send m) c = c ≡ sending_message m k (send_error k.is_sending m)

-- a head is coming where the last request is done with, and a whole head stands in the bytes
abbrev pub IsComing : Bool → List ℕ → Bool → Type 0
IsComing false bytes coming = coming ≡ false
IsComing true bytes true = (start end : ℕ) × IsHeadPiece bytes start end
IsComing true bytes false = HasNoHeadPiece bytes

-- where the connection closes, and since when isn't noted yet, the last tick is
abbrev pub noting_since : Setting → Kept → Kept
noting_since setting k =
    record k { closing_since = option_or k.closing_since (if is_some (closing_by setting k) then Some k.clock.last else None) }

-- The step of a connection.
pub record IsStep (setting : Setting) (k : Kept) (event : Event) (outcome : Outcome) (next : Kept) : Type 0 where
  pub change : Change
  pub coming : Bool
  pub changes : IsChange setting k event change
  pub answers : outcome ≡ change.outcome
  pub comes : IsComing (is_free change.kept) change.kept.unread coming
  pub keeps : next ≡ noting_since setting (record change.kept { is_coming = coming })
