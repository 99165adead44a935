-- What a connection's fields mean: what the machine keeps.
use Rattle.std.specs.Prelude.{◌≡◌, ℕ, ◌<◌, Bool, true, false, not, ◌&&◌, ◌||◌, List, [], ◌∷◌, length, replicate, Option, Some, None, option_map, is_some, if◌then◌else◌}
use Rattle.http_types.specs.declared.message.ConnectionType.{ConnectionType}
use Rattle.http_config.specs.Config.{Settings}
use Rattle.model_h1.specs.Limits.{MAX_MOMENT}
use Rattle.model_h1.specs.Setting.{Setting}
use Rattle.model_h1.specs.Event as on
use Rattle.model_h1.specs.Answer.{Asked}
use Rattle.h1_encoder.specs.Meaning.{model_type, model_shape}
use Rattle.model_state.specs.Kept as machine
use Rattle.model_state.specs.Kept.{Kept, is_free, is_nothing, is_answered, of_exchange, now, rest_in, unanswered, sending, answered}
use Rattle.model_state.specs.Local.{closing_by}
use Rattle.model_state.specs.Body.{Passed, pass_rest}
use Rattle.model_state.specs.Change.{noting_since, IsStep}
use Rattle.h1_connection.specs.Incoming.{is_coming_in}
use Rattle.h1_connection.specs.Stock.{IsFoundOf}
use Rattle.h1_connection.specs.EventMeaning.{setting_of, end_of, failing_of}
use Rattle.h1_connection.specs.declared.connection.clock.Clock.{Clock}
use Rattle.h1_connection.specs.declared.connection.exchange.Exchange.{Exchange}
use Rattle.h1_connection.specs.declared.connection.exchange.Reply.{Reply}
use Rattle.h1_connection.specs.declared.connection.exchange.Reply.TheVariants.{Unanswered, Sending as GoesOut, Answered}
use Rattle.h1_connection.specs.declared.connection.exchange.Sending.{Sending}
use Rattle.h1_connection.specs.declared.connection.parts.Parts.{Parts}
use Rattle.h1_connection.specs.declared.connection.request.Request.{Request}

-- ---- the last request

abbrev pub reply_of : Reply → machine.Reply
reply_of Unanswered = unanswered
reply_of (GoesOut s) = sending (model_shape s.shape) (model_type s.connection) s.missing
reply_of (Answered connection) = answered (model_type connection)

-- the answer to a key that is kept, and 28 zeros where none is
abbrev pub key_or_zeros : Option (List ℕ) → List ℕ
key_or_zeros None = replicate 28 0
key_or_zeros (Some key) = key

-- of a request that is raw, since no other may be upgraded
abbrev pub key_bytes : Bool → Option (List ℕ) → List ℕ
key_bytes is_raw key = if is_raw then key_or_zeros key else []

abbrev pub exchange_of : Exchange → machine.Exchange
exchange_of x =
    record {
      asked = x.request.asked;
      has_body = x.request.has_body;
      expects = x.request.expects;
      refusal = option_map failing_of x.request.refusal;
      accept_key = key_bytes x.request.asked.is_raw x.request.accept_key;
      rest = x.rest;
      reply = reply_of x.reply;
      was_pulled = x.was_pulled;
      was_dropped = x.was_dropped;
      had_continue = x.had_continue;
      body_is_done = x.body_is_done;
    }

-- the body of the answer that is going out
abbrev pub sending_by : Reply → Option Sending
sending_by (GoesOut s) = Some s
sending_by reply = None

-- nothing of it is left to do
abbrev pub is_done : Exchange → Bool
is_done x = is_answered (reply_of x.reply) && is_nothing x.rest

-- what is left of its body, and the bytes behind it, where the body is passed once the answer is complete
abbrev pub passed_by : Bool → Exchange → List ℕ → Passed
passed_by ended x bytes = if is_answered (reply_of x.reply) then pass_rest ended x.rest bytes else record { rest = x.rest; unread = bytes }

-- with the input a raw body ends of which no byte is left
abbrev pub ended_exchange : List ℕ → Option Exchange → Option Exchange
ended_exchange bytes None = None
ended_exchange bytes (Some x) = Some (record x { rest = rest_in true bytes x.rest })

-- the rest of its body isn't wanted; its client was told to go on
abbrev pub dropped : Option Exchange → Option Exchange
dropped None = None
dropped (Some x) = Some (record x { was_dropped = true })

abbrev pub with_continue : Option Exchange → Option Exchange
with_continue None = None
with_continue (Some x) = Some (record x { had_continue = true })

-- what an answer needs of it, all that is kept of its request, the body of its answer that is going out, and a further
-- state of its answer
abbrev pub asked_in : Option Exchange → Option Asked
asked_in None = None
asked_in (Some x) = Some x.request.asked

abbrev pub request_in : Option Exchange → Option Request
request_in None = None
request_in (Some x) = Some x.request

abbrev pub sending_in : Option Exchange → Option Sending
sending_in None = None
sending_in (Some x) = sending_by x.reply

abbrev pub replied : Reply → Option Exchange → Option Exchange
replied reply None = None
replied reply (Some x) = Some (record x { reply = reply })

-- ---- all of them

abbrev pub clock_of : Clock → machine.Clock
clock_of c = record { first = c.first; last = c.last; completed = c.completed }

abbrev pub kept_of : Parts → Kept
kept_of p =
    record {
      unread = p.input.unread;
      is_coming = is_coming_in p.input.piece;
      has_ended = p.has_ended;
      is_draining = p.is_draining;
      is_over = p.is_over;
      exchange = option_map exchange_of p.exchange;
      buffered = p.output.bytes;
      is_sending = p.is_sending;
      clock = clock_of p.clock;
      failed = option_map end_of p.failed;
      closing_since = p.closing_since;
    }

-- the answer is complete
abbrev pub completed : ConnectionType → Parts → Parts
completed connection p = record p { exchange = replied (Answered connection) p.exchange; clock = record p.clock { completed = p.clock.last } }

-- ---- what holds of them

-- something is left of the last request's body, or it may be upgraded
abbrev pub leaves_body : Kept → Bool
leaves_body k = of_exchange (λ x. x.asked.is_raw || not (is_nothing x.rest)) k

-- no head is counted behind it
abbrev pub HasNoneBehind : Kept → ℕ → Type 0
HasNoneBehind k ahead = leaves_body k ≡ true → ahead ≡ 0

-- a body isn't searched for a head, and none is counted behind it
pub record MayBeSearched (p : Parts) : Type 0 where
  pub searched : is_free (kept_of p) ≡ false → p.input.piece ≡ None
  pub behind : HasNoneBehind (kept_of p) p.input.ahead

-- since when it closes is noted, where it closes
abbrev pub IsNoted : Setting → Kept → Type 0
IsNoted setting k = is_some (closing_by setting k) ≡ true → is_some k.closing_since ≡ true

-- What holds of every connection between two events: the last tick is before the year 10000; a head is searched for, or
-- will be when it is asked for, where the last request is done with, and what is found is there; no head is counted
-- behind a body of which something is left; and since when it closes is noted.
pub record IsSound (settings : Settings) (p : Parts) : Type 0 where
  pub moment : now (kept_of p) < MAX_MOMENT
  pub searched : is_some p.input.piece ≡ is_free (kept_of p)
  pub scanned : IsFoundOf p.input
  pub behind : HasNoneBehind (kept_of p) p.input.ahead
  pub noted : IsNoted (setting_of settings) (kept_of p)

-- ---- what is brought up to date behind an event

-- a head is searched for where one may come, or will be when it is asked for
pub record IsSearchedFor (p q : Parts) : Type 0 where
  pub parts : q ≡ record p { input = q.input }
  pub unread : q.input.unread ≡ p.input.unread
  pub ahead : q.input.ahead ≡ p.input.ahead
  pub searched : is_some q.input.piece ≡ is_free (kept_of p)
  pub scanned : IsFoundOf q.input

-- Of what the machine keeps behind an event, it was searched for a head where one may come, and since when the
-- connection closes is noted.
pub record IsSettled (setting : Setting) (k : Kept) (q : Parts) : Type 0 where
  pub kept : kept_of q ≡ noting_since setting (record k { is_coming = is_coming_in q.input.piece })
  pub searched : is_some q.input.piece ≡ is_free k
  pub scanned : IsFoundOf q.input
  pub behind : HasNoneBehind k q.input.ahead

-- ---- a step

-- from these parts the event leads to those, with this outcome
abbrev pub Steps : Settings → Parts → on.Event → on.Outcome → Parts → Type 0
Steps settings p event outcome q = IsStep (setting_of settings) (kept_of p) event outcome (kept_of q)

-- Bytes that came from a source lead from these parts to those as an event that took them all. Of none there is no event.
abbrev pub StepsIn : Settings → Parts → List ℕ → Parts → Type 0
StepsIn settings p [] q = q ≡ p
StepsIn settings p (b ∷ bytes) q = Steps settings p (on.read (b ∷ bytes)) (on.took (length (b ∷ bytes))) q
