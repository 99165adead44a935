-- What a connection that is served stands for: what came out of its source, what went into its sink, which requests were
-- handed out, and which of them the handler was given.
use Rattle.std.specs.Prelude.{◌≡◌, ℕ, Bool, true, false, not, List, [], ◌∷◌, ◌++◌, if◌then◌else◌, Option, Some, None, is_none, is_some, option_and_then, IfSome, ⊤}
use Rattle.std.specs.Io.KnownBytes.{Consumes, Appends}
use Rattle.http_config.specs.Config.{Settings}
use Rattle.model_h1.specs.Event.{Event, Outcome}
use Rattle.model_h1.specs.Event as on
use Rattle.model_h1.specs.Request.{Head, has_body}
use Rattle.model_h1.specs.Sums.{Step, taken, written, has_ended}
use Rattle.model_h1.specs.Text.{text}
use Rattle.http_framing.specs.Kinds.{kind_of}
use Rattle.h1_connection.specs.EventMeaning.{setting_of, end_of}
use Rattle.h1_connection.specs.State.{State, IsAllowed, Stands, fresh_state}
use Rattle.h1_connection.specs.declared.event.End.{End}
use Rattle.h1_connection.specs.declared.event.HeadFault.{HeadFault}
use Rattle.h1_connection.specs.declared.connection.heads.NextKind.{NextKind}
use Rattle.h1_connection.specs.declared.connection.heads.NextKind.TheVariants as next_kind
use Rattle.h1_decoder.specs.HeadItem.{SaysHead}
use Rattle.h1_decoder.specs.declared.decoder.HeadItem.{HeadItem}
use Rattle.h1_strict.specs.Judgement.{status_of}
use Rattle.serve_blocking.specs.Judged.{doubt_if}

-- a connection, what is left in its source and what its sink was given, where they tell it, and whether heads are judged
pub record Line : Type 0 where
  pub state : State
  pub left : Option (List ℕ)
  pub given : Option (List ℕ)
  pub judges : Bool
  -- nothing of the last request's body is left to be given; a handler wants that body; its answer says that the
  -- connection ends with it, since there is a doubt about its head
  pub ended : Bool
  pub wanted : Bool
  pub closes : Bool

abbrev pub head_in : Outcome → List Head
head_in (on.head h) = h ∷ []
head_in _ = []

-- the heads of the requests that were handed out, the oldest first
unfoldable pub heads : List Step → List Head
heads [] = []
heads (s ∷ before) = heads before ++ head_in s.outcome

-- nothing of a body is left to be given: behind a head without one, behind its trailers and behind its end
abbrev pub given_by : Outcome → Bool → Bool
given_by (on.head h) before = not (has_body h.body)
given_by (on.trailers lines) before = true
given_by on.body_ended before = true
given_by _ before = before

-- the last request has no body, or its trailers or its end were given; or there is no request yet
unfoldable pub is_given : List Step → Bool
is_given [] = true
is_given (s ∷ before) = given_by s.outcome (is_given before)

-- the same, behind what was told of the next request
abbrev pub given_after : NextKind → HeadItem → Bool → Bool
given_after next_kind.Head item before = not (has_body (kind_of item.body))
given_after _ item before = before

-- what was there before the first byte came, and the heads of the requests that were handed out
pub record Base : Type 0 where
  pub left : Option (List ℕ)
  pub given : Option (List ℕ)
  pub judges : Bool
  pub handed : List Head

-- There is a trace of the connection's whose bytes taken are those that came out of the source, whose bytes written are
-- those that went into the sink, and whose requests are these. It says whether something of a body is left to be given.
pub record IsServed (base : Base) (line : Line) : Type 0 where
  pub trace : List Step
  pub stands : Stands line.state trace
  pub came : Consumes base.left line.left (taken trace)
  pub went : Appends base.given line.given (written trace)
  pub handed : heads trace ≡ base.handed
  pub judges : line.judges ≡ base.judges
  pub ended : line.ended ≡ is_given trace
  -- the input has ended only behind all bytes of the source
  pub at_end : has_ended trace ≡ true → IfSome base.left (λ bytes. bytes ≡ taken trace)

-- it is served behind this trace: its own is that one, and then these steps
pub record IsServedBehind (base : Base) (before : List Step) (line : Line) : Type 0 where
  pub more : List Step
  pub served : IsServed base line
  pub longer : served.trace ≡ more ++ before

-- what is served goes on, no request is handed out, and whether the open request's answer ends the connection stays as it is
pub record Follows (old new : Line) : Type 0 where
  pub goes : (base : Base) → (new.closes ≡ old.closes) × ((served : IsServed base old) → IsServedBehind base served.trace new)

-- ---- one event

-- this event came, with this outcome, and nothing else
pub record Adds (event : Event) (outcome : Outcome) (old new : Line) : Type 0 where
  pub goes : (base : Base) (served : IsServed base old)
      → (behind : IsServedBehind base served.trace new) × (behind.more ≡ record { event = event; outcome = outcome } ∷ [])
  pub closes : new.closes ≡ old.closes

-- ---- answers

-- the open request may be answered, by whatever head and body
abbrev pub MayAnswer : State → Type 0
MayAnswer state = (head : _) (size : _) → IsAllowed state (on.answer head size)

-- ---- requests

-- A connection whose next request has this head: its body isn't wanted yet, and where there is a doubt about the head, the
-- connection ends with its answer.
abbrev pub opened : Line → HeadItem → Line
opened line item = record line { wanted = false; closes = is_some (doubt_if line.judges item) }

-- the items say the heads, one by one
abbrev pub SayHeads : List HeadItem → List Head → Type 0
SayHeads [] [] = ⊤
SayHeads [] (h ∷ hs) = ⊥
SayHeads (item ∷ items) [] = ⊥
SayHeads (item ∷ items) (h ∷ hs) = SaysHead item h × SayHeads items hs

-- what a handler was given, where it tells it, grew by these
abbrev pub Notes : Option (List HeadItem) → Option (List HeadItem) → List HeadItem → Type 0
Notes None now items = ⊤
Notes (Some was) None items = ⊥
Notes (Some was) (Some now) items = now ≡ was ++ items

-- no doubt refuses the head, or heads aren't judged
abbrev pub is_admitted : Bool → HeadItem → Bool
is_admitted judges item = is_none (option_and_then status_of (doubt_if judges item))

-- the requests that go to the handler: all whose heads aren't refused, in order
abbrev pub admitted : Bool → List HeadItem → List HeadItem
admitted judges [] = []
admitted judges (item ∷ items) = if is_admitted judges item then item ∷ admitted judges items else admitted judges items

-- the item says a head, which is handed out behind the others
pub record HandsOutOne (old new : Line) (item : HeadItem) : Type 0 where
  pub goes : (base : Base) (served : IsServed base old)
      → (h : Head) × SaysHead item h × IsServedBehind (record base { handed = base.handed ++ (h ∷ []) }) served.trace new

-- what was told of the next request: one, or none, or that the connection has ended
pub record HandsOut (old new : Line) (kind : NextKind) (item : HeadItem) : Type 0 where
  pub head : kind ≡ next_kind.Head → HandsOutOne old new item
  pub fault : (f : HeadFault) → kind ≡ next_kind.Fault f → Follows old new
  pub pending : kind ≡ next_kind.Pending → Follows old new
  pub closed : (end : End) → kind ≡ next_kind.Closed end → Adds on.next (on.closed (end_of end)) old new

-- the requests that were handed out behind this trace are these, and those of them that aren't refused went to the
-- handler, once and in order
pub record IsHandled (base : Base) (before : List Step) (was now : Option (List HeadItem)) (line : Line) : Type 0 where
  pub heads : List Head
  pub items : List HeadItem
  pub said : SayHeads items heads
  pub noted : Notes was now (admitted base.judges items)
  pub behind : IsServedBehind (record base { handed = base.handed ++ heads }) before line

-- each request that is handed out and isn't refused goes to the handler, once and in order
pub record Handles (old : Line) (was : Option (List HeadItem)) (new : Line) (now : Option (List HeadItem)) : Type 0 where
  pub goes : (base : Base) (served : IsServed base old) → IsHandled base served.trace was now new

-- ---- the end

-- of each trace that the connection stands for, all that was to be written was written
pub record IsWritten (state : State) : Type 0 where
  pub all : (trace : List Step) → Stands state trace → written trace ≡ text (setting_of state.settings) trace

-- the requests went to the handler; the last that happened is that the connection ended, for this reason; and the bytes
-- written are the text of all answers
pub record IsHandledToEnd (base : Base) (before : List Step) (was now : Option (List HeadItem)) (end : End) (line : Line) : Type 0 where
  pub handled : IsHandled base before was now line
  pub last : List Step
  pub ended : handled.behind.served.trace ≡ record { event = on.next; outcome = on.closed (end_of end) } ∷ last
  pub all_written : written handled.behind.served.trace ≡ text (setting_of line.state.settings) handled.behind.served.trace

-- what is served goes to the handler until its end
pub record HandlesToEnd (old : Line) (was : Option (List HeadItem)) (end : End) (new : Line) (now : Option (List HeadItem)) : Type 0 where
  pub goes : (base : Base) (served : IsServed base old) → IsHandledToEnd base served.trace was now end new

-- ---- a socket

-- a connection with these settings over a socket, which tells no bytes, and to which nothing has come
abbrev pub socket_line : Settings → Bool → Line
socket_line settings judges =
    record { state = fresh_state settings; left = None; given = None; judges = judges; ended = true; wanted = false; closes = false }

-- the requests of one connection over a socket go to the handler
pub record Hosts (settings : Settings) (judges : Bool) (was now : Option (List HeadItem)) : Type 0 where
  pub line : Line
  pub handles : Handles (socket_line settings judges) was line now

-- the same until its end
pub record HostsToEnd (settings : Settings) (judges : Bool) (was : Option (List HeadItem)) (end : End) (now : Option (List HeadItem)) : Type 0 where
  pub line : Line
  pub ends : HandlesToEnd (socket_line settings judges) was end line now
