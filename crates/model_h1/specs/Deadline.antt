-- The deadline of a connection: the least moment at which a tick may come and tells that a time has run out. No tick
-- before it does, so who drives a connection may sleep until then. It is never before now: where a time ran out while
-- it didn't count, as the one for the next request while chunks of the last one are still to come, now is the deadline.
use Rattle.std.specs.Prelude.{◌≡◌, ℕ, ◌+◌, max, Bool, true, false, List, length, nat_lt, nat_le, ◌==◌, if◌then◌else◌, Option, Some, None, unwrap_or}
use Rattle.std.specs.Option.{option_or}
use Rattle.model_h1.specs.Setting.{Setting, KeepAlive, timeout}
use Rattle.model_h1.specs.Limits.{MAX_MOMENT}
use Rattle.model_h1.specs.End.{End}
use Rattle.model_h1.specs.Event.{Outcome}
use Rattle.model_h1.specs.Event as on
use Rattle.model_h1.specs.Sums.{Step, first_tick, completed_at, now}
use Rattle.model_h1.specs.Past.{ParsedStep, steps, parse_of}
use Rattle.model_h1.specs.Text.{buffered}
use Rattle.model_h1.specs.Closing.{closing, closing_since}
use Rattle.model_h1.specs.Allowed.{is_over}
use Rattle.model_h1.specs.OutcomeTable.{Times, times_of}
use Rattle.model_h1.specs.Trace.{IsPastOf}

-- the outcome of a tick tells that a time has run out
abbrev pub tells_time_out : Outcome → Bool
tells_time_out (on.expired end) = true
tells_time_out on.abandoned = true
tells_time_out _ = false

-- there is a deadline, and it has come
abbrev pub is_due : Option ℕ → ℕ → Bool
is_due None ms = false
is_due (Some deadline) ms = nat_le deadline ms

-- ---- when a time runs out

-- So long behind the tick from which it counts. Before the first tick none counts yet: whichever tick comes first, no
-- time has run out at it, but for one of 0, which has.
abbrev pub runs_out_at : ℕ → Option ℕ → Option ℕ
runs_out_at wait None = if wait == 0 then Some 0 else None
runs_out_at wait (Some since) = Some (since + wait)

-- a timeout of 0 is off
abbrev pub timeout_at : ℕ → Option ℕ → Option ℕ
timeout_at wait since = if wait == 0 then None else runs_out_at wait since

abbrev pub kept_until : KeepAlive → Option ℕ → Option ℕ
kept_until (timeout wait) since = runs_out_at wait since
kept_until _ since = None

-- ---- which time counts; each from a tick, or from the first one where none came before

-- bytes are left that the peer doesn't take
abbrev pub abandoned_by : Setting → Times → Option ℕ → Option ℕ
abandoned_by setting t first = if t.is_written then None else timeout_at setting.disconnect_timeout (option_or t.closing_since first)

-- no head has come whole, or the next one is waited for
abbrev pub expires_by : Setting → Times → Option ℕ → Option ℕ
expires_by setting t first =
    if t.waits_for_first then timeout_at setting.request_timeout first
    else (if t.waits_for_next then kept_until setting.keep_alive (option_or t.completed first) else None)

abbrev pub times_out_by : Setting → Times → Option End → Option ℕ → Option ℕ
times_out_by setting t (Some end) first = abandoned_by setting t first
times_out_by setting t None first = expires_by setting t first

abbrev pub times_out_at : Setting → List ParsedStep → Option End → Option ℕ → Option ℕ
times_out_at setting past end first = times_out_by setting (times_of setting past) end first

-- ---- the deadline

-- The moment, but not before now. From the year 10000 on no tick comes, and so none from 2 ^ 64 on.
abbrev pub still_comes : ℕ → Option ℕ → Option ℕ
still_comes now None = None
still_comes now (Some ms) = if nat_lt (max now ms) MAX_MOMENT then Some (max now ms) else None

-- the deadline, and none once the connection is over
unfoldable pub deadline : Setting → List ParsedStep → Option ℕ
deadline setting past =
    if is_over (steps past) then None
    else still_comes (now (steps past)) (times_out_at setting past (closing setting past) (first_tick (steps past)))

-- the deadline behind the trace
abbrev pub IsDeadline : Setting → List Step → Option ℕ → Type 0
IsDeadline setting trace ms = (past : List ParsedStep) × IsPastOf setting trace past × (ms ≡ deadline setting past)
