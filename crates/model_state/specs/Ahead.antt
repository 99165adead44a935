-- How many heads may be decoded ahead, behind the one that was handed out last.
use Rattle.std.specs.Prelude.{◌≡◌, ◌≤◌, ℕ, zero, suc, ◌<◌, Bool, true, false, not, IsTrue, List, [], ◌∷◌, length, map, take, drop, slice_range, Option, Some, None, ⊤}
use Rattle.std.specs.List.{AllByRecursion}
use Rattle.model_h1.specs.HeadPiece.{IsHeadPiece, HasNoHeadPiece}
use Rattle.model_h1.specs.Request.{Reading, head_is, faulty, has_body}
use Rattle.model_h1.specs.RequestHead.{IsReadingWithin}
use Rattle.model_h1.specs.Parse.{Message}
use Rattle.model_h1.specs.Setting.{Setting}
use Rattle.model_h1.specs.Event.{Event, Outcome}
use Rattle.model_h1.specs.Event as on
use Rattle.model_h1.specs.Sums.{Step}
use Rattle.model_h1.specs.Past.{ParsedStep, parse_of, current, steps, head_count}
use Rattle.model_h1.specs.Trace.{IsPastOf}

-- the most heads that are decoded ahead
abbrev pub MAX_AHEAD : ℕ
MAX_AHEAD = 16

-- it is a request without a body, so that the next head begins straight behind it
abbrev pub is_bodiless : Reading → Bool
is_bodiless (head_is h) = not (has_body h.body)
is_bodiless (faulty fault) = false

-- ---- by the messages of a parse

-- So many of the messages behind one may be decoded ahead: they are there, and that one and all of them but the last
-- have no body.
pub record MayFollow (bodiless : Bool) (behind : List Message) (n : ℕ) : Type 0 where
  pub there : n ≤ length behind
  pub are_bodiless : AllByRecursion (λ b. IsTrue b) (take n (bodiless ∷ map (λ m. is_bodiless m.reading) behind))

-- the greatest such number up to a limit
unfoldable pub following : ℕ → Bool → List Message → ℕ
following zero bodiless behind = 0
following (suc limit) false behind = 0
following (suc limit) true [] = 0
following (suc limit) true (m ∷ behind) = suc (following limit (is_bodiless m.reading) behind)

-- behind the message whose head was handed out last
abbrev pub decoded_behind : List ParsedStep → ℕ
decoded_behind past = behind_message (current past)
  where
    behind_message : Option Message → ℕ
    behind_message None = 0
    behind_message (Some m) = following MAX_AHEAD (is_bodiless m.reading) (drop (head_count (steps past)) (parse_of past))

-- ---- by the bytes

-- Heads that stand one after another in front of the bytes, by what each is read as. All but the last have no body.
abbrev pub StandAhead : ℕ → List ℕ → List Reading → Type 0
StandAhead hold_size bytes [] = ⊤
StandAhead hold_size bytes (what ∷ more) =
    (start end : ℕ) × IsHeadPiece bytes start end × IsReadingWithin hold_size (slice_range bytes start end) what
    × (0 < length more → IsTrue (is_bodiless what)) × StandAhead hold_size (drop end bytes) more

-- They are all that may be decoded of the bytes behind a head: no further one is whole, or the last has a body, or there
-- are as many as may be.
abbrev pub AreAhead : ℕ → ℕ → Bool → List ℕ → List Reading → Type 0
AreAhead hold_size zero bodiless bytes readings = readings ≡ []
AreAhead hold_size (suc limit) false bytes readings = readings ≡ []
AreAhead hold_size (suc limit) true bytes [] = HasNoHeadPiece bytes
AreAhead hold_size (suc limit) true bytes (what ∷ more) =
    (start end : ℕ) × IsHeadPiece bytes start end × IsReadingWithin hold_size (slice_range bytes start end) what
    × AreAhead hold_size limit (is_bodiless what) (drop end bytes) more

-- ---- over a trace

-- a head was handed out: where none was decoded, these are now, and else there is one fewer
abbrev pub ahead_after_head : ℕ → ℕ → ℕ
ahead_after_head zero decoded = decoded
ahead_after_head (suc fewer) decoded = fewer

-- a fault was, behind which nothing is decoded
abbrev pub ahead_after_fault : ℕ → ℕ
ahead_after_fault zero = zero
ahead_after_fault (suc fewer) = fewer

-- what becomes of the number behind an event; none changes it but a call for the next head that hands out something
abbrev pub ahead_after : Event → Outcome → ℕ → ℕ → ℕ
ahead_after on.next (on.head h) before decoded = ahead_after_head before decoded
ahead_after on.next (on.fault f) before decoded = ahead_after_fault before
ahead_after _ _ before decoded = before

-- how many heads are decoded ahead behind a past
unfoldable pub ahead : List ParsedStep → ℕ
ahead [] = 0
ahead (m ∷ before) = ahead_after m.step.event m.step.outcome (ahead before) (decoded_behind (m ∷ before))

-- behind a trace
abbrev pub IsAhead : Setting → List Step → ℕ → Type 0
IsAhead setting trace n = (past : List ParsedStep) × IsPastOf setting trace past × (n ≡ ahead past)
