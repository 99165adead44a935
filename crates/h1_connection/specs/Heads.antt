-- What comes where the next head is asked for.
use Rattle.std.specs.Prelude.{◌≡◌, ℕ, ◌≤◌, ◌==◌, ◌⊎◌, Bool, true, false, not, ◌||◌, is_some, if◌then◌else◌, List, length, drop, Some, IsSome, option_map, ⊤}
use Rattle.http_config.specs.Config.{Settings}
use Rattle.http_framing.specs.Kinds.{kind_of}
use Rattle.model_h1.specs.Request.{Head, head_is, has_body, faulty}
use Rattle.model_h1.specs.RequestHead.{IsReading}
use Rattle.model_h1.specs.Setting.{Setting}
use Rattle.model_h1.specs.Answer.{asked_of}
use Rattle.model_h1.specs.Event as on
use Rattle.model_state.specs.Kept.{Kept, is_open, new_exchange, rest_in, whole_rest, refusal_of, key_answer_of}
use Rattle.model_state.specs.Local.{closing_by}
use Rattle.model_state.specs.Change.{behind_head}
use Rattle.h1_decoder.specs.HeadItem.{SaysHead, without_headers}
use Rattle.h1_decoder.specs.declared.decoder.HeadItem.{HeadItem}
use Rattle.h1_connection.specs.EventMeaning.{end_of, fault_of, failing_of}
use Rattle.h1_connection.specs.Parts.{key_bytes, Steps}
use Rattle.h1_connection.specs.Stock.{CountsOn}
use Rattle.h1_connection.specs.declared.connection.exchange.Exchange.{Exchange}
use Rattle.h1_connection.specs.declared.connection.exchange.Reply.TheVariants.{Unanswered}
use Rattle.h1_connection.specs.declared.connection.heads.NextHead.{NextHead}
use Rattle.h1_connection.specs.declared.connection.heads.NextHead.TheVariants as next
use Rattle.h1_connection.specs.declared.connection.heads.NextKind.{NextKind}
use Rattle.h1_connection.specs.declared.connection.heads.NextKind.TheVariants as next_kind
use Rattle.h1_connection.specs.declared.connection.parts.Parts.{Parts}
use Rattle.h1_connection.specs.declared.connection.request.Request.{Request}
use Rattle.h1_connection.specs.declared.event.HeadFault.{HeadFault}

-- what is kept of a request with this head: what its answer needs of it, and where it is raw, what an upgrade does
pub record IsAsked (h : Head) (request : Request) : Type 0 where
  pub asked : request.asked ≡ asked_of h
  pub body : request.has_body ≡ has_body h.body
  pub expects : request.expects ≡ h.expects
  pub refusal : option_map failing_of request.refusal ≡ refusal_of h
  pub accept_key : key_bytes (asked_of h).is_raw request.accept_key ≡ key_answer_of h

-- a request that was just opened by its head
pub record IsFresh (item : HeadItem) (ended : Bool) (unread : List ℕ) (x : Exchange) : Type 0 where
  pub rest : x.rest ≡ rest_in ended unread (whole_rest (kind_of item.body))
  pub asked : (piece : List ℕ) (h : Head) → IsReading piece (head_is h) → SaysHead item h → IsAsked h x.request
  pub plain : x ≡ record { request = x.request; rest = x.rest; reply = Unanswered; was_pulled = false; was_dropped = false; had_continue = false; body_is_done = false }

-- what is kept after its head
abbrev pub after_head : Kept → ℕ → Head → Kept
after_head k end h =
    record k {
      unread = drop end k.unread;
      is_coming = false;
      exchange = Some (new_exchange (rest_in k.has_ended (drop end k.unread) (whole_rest h.body)) h);
    }

-- what is kept behind a head that is none
abbrev pub refused : HeadFault → Kept → Kept
refused fault k = (behind_head k 0 (faulty (fault_of fault))).kept

-- no more bytes are held than may be
abbrev pub IsHeld : Settings → Parts → Type 0
IsHeld settings p = length p.input.unread ≤ settings.h1_hold_size

-- what comes is the machine's
abbrev pub IsNexted : Settings → Parts → NextHead → Parts → Type 0
IsNexted settings p (next.Head item) q = (h : Head) × SaysHead item h × Steps settings p on.next (on.head h) q
IsNexted settings p (next.Fault fault) q = Steps settings p on.next (on.fault (fault_of fault)) q
IsNexted settings p next.Pending q = Steps settings p on.next on.pending q
IsNexted settings p (next.Closed end) q = Steps settings p on.next (on.closed (end_of end)) q

-- the next head may be asked for: the connection closes, or no request is open
abbrev pub MayAsk : Setting → Kept → Type 0
MayAsk setting k = (is_some (closing_by setting k) || not (is_open k)) ≡ true

-- What becomes of the number of heads that stand ahead: behind a head there is one fewer, or where there was none, as
-- many as may be; behind a fault, which is the last of them, there is none; and else it stays.
abbrev pub NumberGoes : Settings → Parts → NextHead → Parts → Type 0
NumberGoes settings p (next.Head item) q = CountsOn p.input item q.input
NumberGoes settings p (next.Fault fault) q = (p.input.ahead ≤ 1) × (q.input.ahead ≡ 0)
NumberGoes settings p next.Pending q = q.input.ahead ≡ p.input.ahead
NumberGoes settings p (next.Closed end) q = q.input.ahead ≡ p.input.ahead

-- what comes where no whole head is there is the machine's
abbrev pub IsWaited : Settings → Parts → NextKind → Parts → Type 0
IsWaited settings p next_kind.Head q = ⊥
IsWaited settings p (next_kind.Fault fault) q = Steps settings p on.next (on.fault (fault_of fault)) q
IsWaited settings p next_kind.Pending q = Steps settings p on.next on.pending q
IsWaited settings p (next_kind.Closed end) q = ⊥

-- the connection closes, or there is no head and room for more bytes
abbrev pub NeedsNoMemory : Setting → Kept → Type 0
NeedsNoMemory setting k =
    IsSome (closing_by setting k) ⊎ ((k.is_coming ≡ false) × ((length k.unread == setting.hold_size) ≡ false))

-- what comes says what the model's does
abbrev pub SaysNext : NextHead → on.Outcome → Type 0
SaysNext (next.Head item) out = (h : Head) × SaysHead item h × (out ≡ on.head h)
SaysNext (next.Fault fault) out = out ≡ on.fault (fault_of fault)
SaysNext next.Pending out = out ≡ on.pending
SaysNext (next.Closed end) out = out ≡ on.closed (end_of end)

-- ---- a head that is written over another one

-- what comes, with the item that its head was written over
abbrev pub with_head : HeadItem → NextKind → NextHead
with_head item next_kind.Head = next.Head item
with_head item (next_kind.Fault fault) = next.Fault fault
with_head item next_kind.Pending = next.Pending
with_head item (next_kind.Closed end) = next.Closed end

-- Where no head came, the item is what it was; but a head that was found and is none takes the headers away.
abbrev pub KeepsItem : Bool → NextKind → HeadItem → HeadItem → Type 0
KeepsItem coming next_kind.Head was now = ⊤
KeepsItem coming (next_kind.Fault fault) was now = now ≡ (if coming then without_headers was else was)
KeepsItem coming next_kind.Pending was now = now ≡ was
KeepsItem coming (next_kind.Closed end) was now = now ≡ was

-- the item is what it was, or without headers where a head was found
abbrev pub LosesAtMostHeaders : Bool → HeadItem → HeadItem → Type 0
LosesAtMostHeaders coming was now = (now ≡ was) ⊎ ((coming ≡ true) × (now ≡ without_headers was))
