-- How long is waited for a side.
use Rattle.std.specs.Prelude.{◌-◌, ℕ, Bool, true, false, ◌&&◌, ◌||◌, nat_le, nat_lt, if◌then◌else◌, Option, Some, None, is_none}
use Rattle.app_proxy.specs.declared.limits.Limits.{Limits}
use Rattle.app_proxy.specs.declared.standing.Pace.{Pace}
use Rattle.app_proxy.specs.declared.standing.Stage.{Stage}
use Rattle.app_proxy.specs.declared.standing.Stage.TheVariants.{Open, Lingering, Lost}

-- A side moved last at this moment, or now where it isn't waited for.
abbrev pub moved : Bool → ℕ → ℕ → ℕ
moved is_awaited last now = if is_awaited then last else now

-- that is so many milliseconds ago
abbrev pub silence : Bool → ℕ → ℕ → ℕ
silence is_awaited last now = now - moved is_awaited last now

-- no side is waited for longer than this
abbrev pub is_too_long : ℕ → ℕ → Bool
is_too_long most silent = nat_le most silent

-- ---- a client that is to send

-- the span in which its bytes are counted, which began at this moment, has come to its end
abbrev pub is_over : ℕ → Option ℕ → ℕ → Bool
is_over stall None now = false
is_over stall (Some since) now = nat_le stall (now - since)

-- fewer bytes came in a whole span than have to
abbrev pub is_slow : Limits → Pace → Bool → ℕ → Bool
is_slow limits pace is_to_send now = is_to_send && (is_over limits.stall pace.since now && nat_lt pace.moved limits.least)

-- a span that begins now, and none
abbrev pub fresh_pace : ℕ → Pace
fresh_pace now = record { since = Some now; moved = 0 }

abbrev pub no_pace : Pace
no_pace = record { since = None; moved = 0 }

-- A span begins where the client is first seen to have to send, and behind the last one. So it never holds time in which the client hadn't to.
abbrev pub paced : ℕ → Pace → Bool → ℕ → Pace
paced stall pace false now = no_pace
paced stall pace true now = if is_none pace.since || is_over stall pace.since now then fresh_pace now else pace

-- ---- the end of a client

-- a client that lingers is done with at its moment
abbrev pub lingered : Stage → ℕ → Stage
lingered Open now = Open
lingered (Lingering until) now = if nat_le until now then Lost else Lingering until
lingered Lost now = Lost

-- how long a client was waited for: to take what waits for it, to end the rest of a body behind its reply, and, once its input has ended, to get
-- the head of an answer
pub record Waited : Type 0 where
  pub silent : ℕ
  pub drained : ℕ
  pub gone : ℕ

-- longer than it may be
abbrev pub waits_too_long : Limits → Waited → Bool
waits_too_long limits waited =
    is_too_long limits.reader waited.silent || (is_too_long limits.drain waited.drained || is_too_long limits.gone waited.gone)

-- one that sends too little, or is waited for too long, is done with too
abbrev pub ticked : Limits → Stage → Waited → Bool → ℕ → Stage
ticked limits stage waited slow now = if slow || waits_too_long limits waited then Lost else lingered stage now
