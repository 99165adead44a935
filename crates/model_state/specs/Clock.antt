-- What a tick answers and does.
use Rattle.std.specs.Prelude.{ℕ, Bool, true, ◌++◌, if◌then◌else◌, Option, Some, None, unwrap_or}
use Rattle.std.specs.Option.{option_or}
use Rattle.model_h1.specs.Setting.{Setting}
use Rattle.model_h1.specs.AnswerText.{timeout_text}
use Rattle.model_h1.specs.Event as on
use Rattle.model_h1.specs.End as ends
use Rattle.model_h1.specs.End.{End}
use Rattle.model_h1.specs.OutcomeTable.{abandons, comes_late, idles}
use Rattle.model_state.specs.Kept.{Kept, Change}
use Rattle.model_state.specs.Deadline.{times_of}

-- bytes are left that the peer doesn't take; no head has come whole; the next request is waited for
abbrev pub is_abandoned : Setting → Kept → ℕ → ℕ → Bool
is_abandoned setting k first ms = abandons setting (times_of k) first ms

abbrev pub is_slow : Setting → Kept → ℕ → ℕ → Bool
is_slow setting k first ms = comes_late setting (times_of k) first ms

abbrev pub is_idle : Setting → Kept → ℕ → ℕ → Bool
is_idle setting k first ms = idles setting (times_of k) first ms

-- what a tick answers, but for its moment, which is kept in each case
abbrev pub expiring : Setting → Kept → Option End → ℕ → ℕ → Change
expiring setting k (Some end) first ms =
    if is_abandoned setting k first ms then record { outcome = on.abandoned; kept = record k { is_over = true } }
    else record { outcome = on.done; kept = k }
expiring setting k None first ms =
    if is_slow setting k first ms
    then record { outcome = on.expired ends.slow_request; kept = record k { failed = Some ends.slow_request; buffered = k.buffered ++ timeout_text ms } }
    else (if is_idle setting k first ms
    then record { outcome = on.expired ends.keep_alive_expired; kept = record k { failed = Some ends.keep_alive_expired } }
    else record { outcome = on.done; kept = k })

-- the moment is the last one now, and the first where none came before
abbrev pub at_moment : ℕ → Change → Change
at_moment ms c =
    record c { kept = record c.kept { clock = record c.kept.clock { first = option_or c.kept.clock.first (Some ms); last = Some ms } } }

abbrev pub ticking : Setting → Kept → Option End → ℕ → Change
ticking setting k closing ms = at_moment ms (expiring setting k closing (unwrap_or k.clock.first ms) ms)
