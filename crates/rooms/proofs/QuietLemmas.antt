-- Frames without an effect.
use Rattle.std.proofs.Common.{◌≡◌, ◌<◌, ℕ, Bool, true, false, List, [], ◌∷◌, ◌++◌, length, get_or, Some, refl, sym, subst, if◌then◌else◌}
use Rattle.model_h1.specs.Frame.{Frame}
use Rattle.model_h1.specs.Frame as frames
use Rattle.model_h1.specs.Event as on
use Rattle.model_rooms.specs.Member.{Member, Effect, says, keeps, answers, leaves_with, nothing, invalid_close, size_close, said, kept, going_on, effect_in, member_at}
use Rattle.rooms.specs.QueuedFrames.{said_of}
use Rattle.rooms.proofs.RowLists.{element}

-- one of two effects that there are
either_tells : (b : Bool) (x y : Effect) → (x ≡ nothing → ⊥) → (y ≡ nothing → ⊥) → (if b then x else y) ≡ nothing → ⊥
either_tells true x y some_x some_y none = some_x none
either_tells false x y some_x some_y none = some_y none

leaving_tells : (f : Frame) → leaves_with f ≡ nothing → ⊥
leaving_tells f none = absurd (cc)

saying_tells : (fs : List Frame) → says fs ≡ nothing → ⊥
saying_tells fs none = absurd (cc)

keeping_tells : (fs : List Frame) → keeps fs ≡ nothing → ⊥
keeping_tells fs none = absurd (cc)

-- a whole message has an effect
pub said_tells : (fs : List Frame) → said fs ≡ nothing → ⊥
said_tells fs none = either_tells _ (leaves_with invalid_close) (says fs) (leaving_tells invalid_close) (saying_tells fs) none

-- so has a frame that is kept, or is one too many
pub kept_tells : (fs : List Frame) → kept fs ≡ nothing → ⊥
kept_tells fs none = either_tells _ (leaves_with size_close) (keeps fs) (leaving_tells size_close) (keeping_tells fs) none

-- a frame that goes on has none only where there is nothing to go on with
pub going_on_tells : (parts : List Frame) (f : Frame) → going_on parts f ≡ nothing → parts ≡ []
going_on_tells [] f none = refl
going_on_tells (p ∷ ps) (frames.last bytes) none = absurd (said_tells ((p ∷ ps) ++ frames.last bytes ∷ []) none)
going_on_tells (p ∷ ps) (frames.text bytes) none = absurd (kept_tells ((p ∷ ps) ++ frames.text bytes ∷ []) none)
going_on_tells (p ∷ ps) (frames.binary bytes) none = absurd (kept_tells ((p ∷ ps) ++ frames.binary bytes ∷ []) none)
going_on_tells (p ∷ ps) (frames.first_text bytes) none = absurd (kept_tells ((p ∷ ps) ++ frames.first_text bytes ∷ []) none)
going_on_tells (p ∷ ps) (frames.first_binary bytes) none = absurd (kept_tells ((p ∷ ps) ++ frames.first_binary bytes ∷ []) none)
going_on_tells (p ∷ ps) (frames.continuation bytes) none = absurd (kept_tells ((p ∷ ps) ++ frames.continuation bytes ∷ []) none)
going_on_tells (p ∷ ps) (frames.ping bytes) none = absurd (kept_tells ((p ∷ ps) ++ frames.ping bytes ∷ []) none)
going_on_tells (p ∷ ps) (frames.pong bytes) none = absurd (kept_tells ((p ∷ ps) ++ frames.pong bytes ∷ []) none)
going_on_tells (p ∷ ps) (frames.close reason) none = absurd (kept_tells ((p ∷ ps) ++ frames.close reason ∷ []) none)

-- ---- a row of a table

-- where the effect by a table's row is none, it is none by the row that stands there
pub quiet_row : (i : ℕ) (f : Frame) (ms rows : List Member) (was : Member) → rows ≡ ms → i < length ms → was ≡ get_or rows i was
    → effect_in (member_at i ms) (on.frame f) ≡ nothing → effect_in was (on.frame f) ≡ nothing
quiet_row i f ms rows was same h at none =
    subst (λ (m : Member). effect_in m (on.frame f) ≡ nothing) (sym (element i ms was h (subst (λ (l : List Member). was ≡ get_or l i was) same at))) none

-- what has no effect says nothing
pub quiet_says : (e : Effect) (fs : List Frame) → said_of e ≡ Some fs → e ≡ nothing → ⊥
quiet_says (says gs) fs said none = absurd (cc)
quiet_says (keeps gs) fs said none = absurd (cc)
quiet_says (answers f) fs said none = absurd (cc)
quiet_says (leaves_with f) fs said none = absurd (cc)
quiet_says nothing fs said none = absurd (cc)
