-- What the calls of the two connections leave to do, where more is asked for.
use Rattle.std.specs.Prelude.{◌≡◌, ℕ, ◌+◌, ◌<◌, ◌≤◌, true, false, List, length, None, is_some, ⊤}
use Rattle.model_h1.specs.Event as on
use Rattle.model_h1.specs.Sums as sums
use Rattle.model_state.specs.Local.{closing_by}
use Rattle.h1_payload.specs.declared.pulled.Pulled.{Pulled}
use Rattle.h1_payload.specs.declared.pulled.Pulled.TheVariants as pulled
use Rattle.h1_connection.specs.EventMeaning.{setting_of}
use Rattle.h1_connection.specs.State.{State, Stands, IsAllowed, IsNextAllowed}
use Rattle.h1_connection.specs.declared.connection.heads.NextHead.{NextHead}
use Rattle.h1_connection.specs.declared.connection.heads.NextHead.TheVariants as next
use Rattle.h1_client.specs.ClientMeaning as asking
use Rattle.h1_client.specs.State as servers
use Rattle.h1_client.specs.declared.event.NextAnswer.{NextAnswer}
use Rattle.h1_client.specs.declared.event.NextAnswer.TheVariants as answered
use Rattle.model_client.specs.ClientEvent as asked
use Rattle.model_client.specs.ClientKept.{client_closing}
use Rattle.model_client.specs.ClientTrace.{Happened}
use Rattle.model_proxy.specs.Left.{client_left, LacksBody, server_left, LacksPiece}

-- ---- the client's side

-- The next head may be asked for only where none is there whole, and where there is room for more bytes of it: else it would be told that it
-- is too large.
abbrev pub LacksHead : State → Type 0
LacksHead s = IsNextAllowed s → (s.kept.is_coming ≡ false) × (length s.kept.unread < s.settings.h1_hold_size)

-- Nothing of a request's body is there, where more of it may be asked for: no byte is, the input hasn't ended, and a further pull would tell
-- that nothing is there yet.
abbrev pub LacksMore : State → Type 0
LacksMore s = IsAllowed s on.drop_body → LacksBody (setting_of s.settings) s.kept

-- A head leaves less, by all its bytes; after a fault the connection is to end; where none is there, none is coming.
abbrev pub LeavesNext : NextHead → State → State → Type 0
LeavesNext (next.Head item) old new = (trace : List sums.Step) → Stands old trace → client_left new.kept + 15 ≤ client_left old.kept
LeavesNext (next.Fault fault) old new = (trace : List sums.Step) → Stands old trace → is_some (closing_by (setting_of old.settings) new.kept) ≡ true
LeavesNext next.Pending old new = (trace : List sums.Step) → Stands old trace → LacksHead new
LeavesNext (next.Closed end) old new = (trace : List sums.Step) → Stands old trace → LacksHead new

-- Bytes leave less, and so do trailers, which end the body; where nothing is there, a further pull would give nothing either, and a piece of
-- an answer may be handed in only where it might before.
abbrev pub LeavesPulled : Pulled → State → State → Type 0
LeavesPulled (pulled.Bytes bytes) old new = (trace : List sums.Step) → Stands old trace → client_left new.kept + 15 ≤ client_left old.kept
LeavesPulled (pulled.Trailers entries) old new = (trace : List sums.Step) → Stands old trace → client_left new.kept < client_left old.kept
LeavesPulled pulled.Pending old new =
    (trace : List sums.Step) → Stands old trace
    → LacksMore new × ((bytes : List ℕ) → IsAllowed new (on.chunk bytes) → IsAllowed old (on.chunk bytes))
LeavesPulled pulled old new = ⊤

-- ---- a server's side

-- The next answer may be asked for, and isn't there whole; and the connection isn't to end, and has room for more bytes of it: its input may
-- bring it yet. So a further call would tell that it isn't there yet, and no fault.
pub record IsAwaited (s : servers.State) : Type 0 where
  pub allowed : servers.IsAllowed s asked.next
  pub coming : s.kept.is_coming ≡ false
  pub going : client_closing s.kept ≡ None
  pub room : length s.kept.unread < s.settings.h1_hold_size

-- Nothing of the answer's body is there: more of it may be asked for, no byte is there, and the input hasn't ended; and a further pull would
-- tell that nothing is there yet: no bytes, no trailers, no end and no fault.
abbrev pub LacksBytes : servers.State → Type 0
LacksBytes s = LacksPiece (asking.setting_of s.settings) s.kept

abbrev pub LeavesAnswer : NextAnswer → servers.State → servers.State → Type 0
LeavesAnswer (answered.Answer item) old new = (trace : List Happened) → servers.Stands old trace → server_left new.kept + 15 ≤ server_left old.kept
LeavesAnswer answered.Pending old new = (trace : List Happened) → servers.Stands old trace → IsAwaited new
LeavesAnswer answer old new = ⊤

abbrev pub LeavesPiece : Pulled → servers.State → servers.State → Type 0
LeavesPiece (pulled.Bytes bytes) old new = (trace : List Happened) → servers.Stands old trace → server_left new.kept + 15 ≤ server_left old.kept
LeavesPiece (pulled.Trailers entries) old new = (trace : List Happened) → servers.Stands old trace → server_left new.kept < server_left old.kept
LeavesPiece pulled.Pending old new = (trace : List Happened) → servers.Stands old trace → LacksBytes new
LeavesPiece pulled old new = ⊤
