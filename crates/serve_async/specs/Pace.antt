-- Whether bytes move fast enough.
use Rattle.std.specs.Prelude.{ℕ, ◌+◌, ◌-◌, ◌^◌, min, Bool, ◌&&◌, ◌||◌, nat_le, nat_lt, if◌then◌else◌}
use Rattle.serve_async.specs.declared.pace.Pace.{Pace}
use Rattle.serve_async.specs.declared.limits.Limits.{Limits}

-- the last moment that is counted
abbrev pub latest : ℕ
latest = 2 ^ 64 - 1

-- no byte has moved since the last poll, and none for as long as may be
abbrev pub is_idle : Limits → Pace → ℕ → ℕ → Bool
is_idle limits p moment moved = nat_le moved p.moved && nat_le limits.idle (moment - p.seen)

-- it is time to look at how many have moved since the last look
abbrev pub is_to_look : Limits → Pace → ℕ → Bool
is_to_look limits p moment = nat_le limits.stall (moment - p.looked)

-- some have moved since then, but too few
abbrev pub is_slow : Limits → Pace → ℕ → Bool
is_slow limits p moved = nat_lt p.counted moved && nat_lt (moved - p.counted) limits.least

-- when a byte was last seen to have moved
abbrev pub seen_by : Pace → ℕ → ℕ → ℕ
seen_by p moment moved = if nat_le moved p.moved then p.seen else moment

-- The peer is given up: no byte has moved for too long, or too few have where it is time to look.
abbrev pub is_over : Limits → Pace → ℕ → ℕ → Bool
is_over limits p moment moved =
    if is_to_look limits p moment then (is_idle limits p moment moved || is_slow limits p moved) else is_idle limits p moment moved

-- after it was noted at this moment that so many bytes have moved
abbrev pub noted : Limits → Pace → ℕ → ℕ → Pace
noted limits p moment moved =
    if is_to_look limits p moment then record { moved = moved; seen = seen_by p moment moved; looked = moment; counted = moved }
    else record { moved = moved; seen = seen_by p moment moved; looked = p.looked; counted = p.counted }

-- when it is to be noted again: no later than either is due
abbrev pub next_note : Limits → Pace → ℕ
next_note limits p = min (min (p.seen + limits.idle) latest) (min (p.looked + limits.stall) latest)
