-- The deadline of a connection, of the parts alone.
use Rattle.std.specs.Prelude.{ℕ, Bool, not, ◌&&◌, length, ◌==◌, if◌then◌else◌, Option, None, is_none, unwrap_or}
use Rattle.model_h1.specs.Setting.{Setting}
use Rattle.model_h1.specs.End.{End}
use Rattle.model_h1.specs.OutcomeTable.{Times}
use Rattle.model_h1.specs.Deadline.{abandoned_by, expires_by, times_out_by, still_comes}
use Rattle.model_state.specs.Kept.{Kept, is_answered, is_nothing, of_exchange, now}
use Rattle.model_state.specs.Local.{closing_by}

-- no head was handed out, and none is coming
abbrev pub waits_for_first : Kept → Bool
waits_for_first k = is_none k.exchange && not k.is_coming

-- the last answer is complete, nothing is left of its request, and no byte of another one has come
abbrev pub waits_for_next : Kept → Bool
waits_for_next k = of_exchange (λ x. is_answered x.reply && is_nothing x.rest) k && (length k.unread == 0)

-- what decides which time runs
abbrev pub times_of : Kept → Times
times_of k =
    record {
      is_written = length k.buffered == 0;
      waits_for_first = waits_for_first k;
      waits_for_next = waits_for_next k;
      closing_since = unwrap_or k.closing_since None;
      completed = k.clock.completed;
    }

abbrev pub abandoned_at : Setting → Kept → Option ℕ
abandoned_at setting k = abandoned_by setting (times_of k) k.clock.first

abbrev pub expires_at : Setting → Kept → Option ℕ
expires_at setting k = expires_by setting (times_of k) k.clock.first

abbrev pub times_out_at : Setting → Kept → Option End → Option ℕ
times_out_at setting k end = times_out_by setting (times_of k) end k.clock.first

-- the least moment at which a tick may come and tells that a time has run out, if there is one
unfoldable pub deadline_by : Setting → Kept → Option ℕ
deadline_by setting k = if k.is_over then None else still_comes (now k) (times_out_at setting k (closing_by setting k))
