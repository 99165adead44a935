-- The deadline, where a moment may pass its type.
use Rattle.std.proofs.Common.{◌≡◌, ℕ, ◌+◌, ◌^◌, Bool, true, false, List, Option, Some, None, refl, sym, ap, ◌∙◌, arith, max}
use Rattle.std.proofs.lemmas.Bool.{ltb-false, le-ltb}
use Rattle.std.specs.Prelude.{nat_lt, ◌==◌, if◌then◌else◌}
use Rattle.http_config.specs.Deadline.{deadline_of}
use Rattle.model_h1.specs.Limits.{MAX_MOMENT}
use Rattle.model_h1.specs.Setting.{Setting}
use Rattle.model_h1.specs.Deadline.{timeout_at, still_comes, IsDeadline}
use Rattle.model_h1.specs.Sums as sums
use Rattle.model_state.specs.Kept.{Kept, now}
use Rattle.model_state.specs.Local.{closing_by}
use Rattle.model_state.proofs.DeadlineLemmas.{deadline_of_trace}
use Rattle.model_state.specs.Deadline.{times_out_at, deadline_by}
use Rattle.h1_connection.specs.EventMeaning.{setting_of}
use Rattle.h1_connection.specs.State.{State, Stands}
use Rattle.h1_connection.specs.Ticks.{clipped}

-- one that passes its type never comes
past_type : (now n : ℕ) (fits : Bool) → nat_lt n (2 ^ 64) ≡ fits → still_comes now (if fits then Some n else None) ≡ still_comes now (Some n)
past_type now n true is = refl
past_type now n false is =
    sym (ap (λ (b : Bool). if b then Some (max now n) else None) (le-ltb (max now n) MAX_MOMENT (omega (arith, ltb-false n (2 ^ 64) is))))

pub still_clipped : (now : ℕ) (o : Option ℕ) → still_comes now (clipped o) ≡ still_comes now o
still_clipped now None = refl
still_clipped now (Some n) = past_type now n (nat_lt n (2 ^ 64)) refl

-- a timeout from a tick
timeout_off : (off : Bool) (since wait : ℕ)
    → (if off then None else (if nat_lt (since + wait) (2 ^ 64) then Some (since + wait) else None)) ≡ clipped (if off then None else Some (since + wait))
timeout_off true since wait = refl
timeout_off false since wait = refl

pub timeout_clipped : (since wait : ℕ) → deadline_of since wait ≡ clipped (timeout_at wait (Some since))
timeout_clipped since wait = timeout_off (wait == 0) since wait

-- and from none
timeout_unset : (off : Bool) → None ≡ clipped (if off then None else (if off then Some 0 else None))
timeout_unset true = refl
timeout_unset false = refl

pub timeout_none : (wait : ℕ) → None ≡ clipped (timeout_at wait None)
timeout_none wait = timeout_unset (wait == 0)

-- ---- the deadline of what is kept

pub over_deadline : (set : Setting) (k : Kept) → k.is_over ≡ true → None ≡ deadline_by set k
unfolding deadline_by
over_deadline set k over = sym (ap (λ (b : Bool). if b then None else still_comes (now k) (times_out_at set k (closing_by set k))) over)

pub running_deadline : (set : Setting) (k : Kept) (moment : ℕ) (out result : Option ℕ) → k.is_over ≡ false → moment ≡ now k
    → out ≡ clipped (times_out_at set k (closing_by set k)) → result ≡ still_comes moment out → result ≡ deadline_by set k
unfolding deadline_by
running_deadline set k moment out result goes moment_is out_is result_is =
    result_is ∙ (λ i. still_comes (moment_is i) (out_is i)) ∙ still_clipped (now k) (times_out_at set k (closing_by set k))
    ∙ sym (ap (λ (b : Bool). if b then None else still_comes (now k) (times_out_at set k (closing_by set k))) goes)

-- it is the trace's
pub deadline_traced : (at : State) (trace : List sums.Step) → Stands at trace → IsDeadline (setting_of at.settings) trace (deadline_by (setting_of at.settings) at.kept)
deadline_traced at trace stands = deadline_of_trace (setting_of at.settings) at.kept trace stands
