-- What a call gives of the next one's condition, so that it needn't be asked for again.
use Rattle.std.specs.Prelude.{◌≡◌, Bool, true, false, not, ◌&&◌, ◌||◌, ◌==◌, length, None, is_some}
use Rattle.model_h1.specs.Setting.{Setting}
use Rattle.model_h1.specs.Event as on
use Rattle.model_state.specs.Kept.{Kept, is_upgraded}
use Rattle.model_state.specs.Local.{closing_by, allowed_by, waits_for_answer}
use Rattle.h1_connection.specs.declared.connection.heads.NextHead.{NextHead}
use Rattle.h1_connection.specs.declared.connection.heads.NextHead.TheVariants as next
use Rattle.h1_connection.specs.declared.connection.heads.NextKind.{NextKind}
use Rattle.h1_connection.specs.declared.connection.heads.NextKind.TheVariants as next_kind

-- The next head may be asked for by the call of its own: the tables allow it, and where the connection closes, nothing
-- waits to be written, which could be written no more.
abbrev pub next_allowed : Setting → Kept → Bool
next_allowed setting k = allowed_by setting k on.next && (not (is_some (closing_by setting k)) || (length k.buffered == 0))

-- The next frame may be asked for: a WebSocket doesn't close.
abbrev pub frame_allowed : Setting → Kept → Bool
frame_allowed setting k = allowed_by setting k on.pull && is_upgraded k

-- a head came
abbrev pub is_head : NextHead → Bool
is_head (next.Head item) = true
is_head (next.Fault fault) = false
is_head next.Pending = false
is_head (next.Closed end) = false

abbrev pub is_head_kind : NextKind → Bool
is_head_kind next_kind.Head = true
is_head_kind (next_kind.Fault fault) = false
is_head_kind next_kind.Pending = false
is_head_kind (next_kind.Closed end) = false

-- a request waits for its answer in a connection that doesn't close, and that is over only if it was
pub record HasOpened (setting : Setting) (was_over : Bool) (k : Kept) : Type 0 where
  pub over : k.is_over ≡ was_over
  pub runs : closing_by setting k ≡ None
  pub waits : waits_for_answer k ≡ true
