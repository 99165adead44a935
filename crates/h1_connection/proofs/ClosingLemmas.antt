-- Why a connection closes, by its parts.
use Rattle.std.proofs.Common.{◌≡◌, Bool, true, false, Option, Some, None, refl, sym, ap, ◌∙◌}
use Rattle.std.specs.Prelude.{is_some}
use Rattle.std.specs.Option.{option_or}
use Rattle.model_h1.specs.End as ends
use Rattle.model_h1.specs.Setting.{Setting}
use Rattle.model_state.specs.Kept.{Kept, is_open, is_upgraded}
use Rattle.model_state.specs.Local.{drained_end, input_end, closing_by, answered_end}
use Rattle.h1_connection.specs.EventMeaning.{end_of}
use Rattle.h1_connection.specs.Parts.{kept_of, IsNoted}
use Rattle.h1_connection.specs.declared.connection.parts.Parts.{Parts}
use Rattle.h1_connection.specs.declared.event.End.{End}

-- by what failed
pub failed_end : (set : Setting) (p : Parts) (end : End) → p.failed ≡ Some end → Some (end_of end) ≡ closing_by set (kept_of p)
unfolding closing_by
failed_end set p end is = rw is refl

-- or else by another end
pub other_end : (set : Setting) (p : Parts) (e : Option ends.End) → p.failed ≡ None
    → e ≡ option_or (answered_end (kept_of p).exchange) (option_or (drained_end (kept_of p)) (input_end set (kept_of p))) → e ≡ closing_by set (kept_of p)
unfolding closing_by
other_end set p e is end = rw is end

-- where it isn't noted, none closes
pub unnoted : (set : Setting) (k : Kept) → IsNoted set k → k.closing_since ≡ None → None ≡ closing_by set k
unnoted set k noted none = nothing (closing_by set k) (λ is. sym (ap is_some none) ∙ noted is)
  where
    nothing : (o : Option ends.End) → (is_some o ≡ true → false ≡ true) → None ≡ o
    nothing None is = refl
    nothing (Some end) is = absurd (cc (is refl))

-- ---- behind a head that is handed out

first_none : (a b : Option ends.End) → option_or a b ≡ None → a ≡ None
first_none None b is = refl
first_none (Some end) b is = absurd (cc is)

second_none : (a b : Option ends.End) → option_or a b ≡ None → b ≡ None
second_none None b is = is
second_none (Some end) b is = absurd (cc is)

-- where nothing has failed, a request is open, and half-closed connections are kept if the input has ended, none closes
open_runs : (set : Setting) (k : Kept) (draining ended half : Bool) → k.is_draining ≡ draining → k.has_ended ≡ ended → set.allows_half_closed ≡ half
    → k.failed ≡ None → answered_end k.exchange ≡ None → is_open k ≡ true → is_upgraded k ≡ false → (ended ≡ true → half ≡ true) → closing_by set k ≡ None
unfolding closing_by
open_runs set k false false half d e h failed answered opened plain kept = rw (failed, answered, d, e) refl
open_runs set k true false half d e h failed answered opened plain kept = rw (failed, answered, d, e, opened, plain) refl
open_runs set k draining true false d e h failed answered opened plain kept = absurd (cc (kept refl))
open_runs set k false true true d e h failed answered opened plain kept = rw (failed, answered, d, e, h, opened, plain) refl
open_runs set k true true true d e h failed answered opened plain kept = rw (failed, answered, d, e, h, opened, plain) refl

half_kept : (set : Setting) (k : Kept) (ended half : Bool) → k.has_ended ≡ ended → set.allows_half_closed ≡ half → input_end set k ≡ None → ended ≡ true → half ≡ true
half_kept set k ended true e h none is = refl
half_kept set k true false e h none is = absurd (let no : Some ends.half_closed ≡ None = (rw (e, h) at none) in cc no)
half_kept set k false false e h none is = is

-- behind a head that is handed out while none closes, none does
pub handed_runs : (set : Setting) (k j : Kept) → closing_by set k ≡ None → j.failed ≡ k.failed → j.has_ended ≡ k.has_ended
    → answered_end j.exchange ≡ None → is_open j ≡ true → is_upgraded j ≡ false → closing_by set j ≡ None
unfolding closing_by
handed_runs set k j runs failed ended answered opened plain =
    let later = second_none k.failed _ runs in
    let none : input_end set k ≡ None = second_none (drained_end k) _ (second_none (answered_end k.exchange) _ later) in
    open_runs set j j.is_draining j.has_ended set.allows_half_closed refl refl refl (failed ∙ first_none k.failed _ runs) answered opened plain
    (λ is. half_kept set k k.has_ended set.allows_half_closed refl refl none (sym ended ∙ is))
