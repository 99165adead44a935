-- A pull that gives trailers or the end leaves nothing of the body.
use Rattle.std.proofs.Common.{◌≡◌, ℕ, Bool, false, List, [], ◌∷◌, ◌++◌, refl, sym, subst}
use Rattle.std.specs.Prelude.{⊤}
use Rattle.model_h1.specs.Place.{Place}
use Rattle.model_h1.specs.TakeNext.{Next, chunk, waits, ended, breaks, take_next}
use Rattle.model_h1.specs.Event.{Outcome}
use Rattle.model_h1.specs.Event as on
use Rattle.model_h1.specs.FrameText.{Front, partial, whole, breaks as breaks_rule, front_frame}
use Rattle.model_h1.specs.Parse.{connection_reader}
use Rattle.model_state.specs.Kept.{Rest, no_rest, raw_rest, fixed_rest, chunks_rest, frames_rest}
use Rattle.model_state.specs.Pull.{Pulled, pull_fixed, pull_raw, pull_front, EndsWith, IsPullOfChunks, IsPull}

-- after the trailers and after the end nothing is left
abbrev pub LeavesNone : Outcome → Rest → Type 0
LeavesNone on.body_ended rest = rest ≡ no_rest
LeavesNone (on.trailers headers) rest = rest ≡ no_rest
LeavesNone o rest = ⊤

abbrev Leaves : Pulled → Type 0
Leaves p = LeavesNone p.outcome p.rest

raw_leaves : (bytes : List ℕ) → Leaves (pull_raw false bytes)
raw_leaves [] = tt
raw_leaves (b ∷ bytes) = tt

fixed_leaves : (n : ℕ) (bytes : List ℕ) → Leaves (pull_fixed false n bytes)
fixed_leaves n [] = tt
fixed_leaves n (b ∷ bytes) = tt

front_leaves : (under_way : Bool) (limit : ℕ) (bytes : List ℕ) (f : Front) → Leaves (pull_front under_way limit bytes f)
front_leaves under_way limit bytes partial = tt
front_leaves under_way limit bytes (whole frame len) = tt
front_leaves under_way limit bytes (breaks_rule error) = tt

ends_leaves : (text behind : List ℕ) (p : Pulled) → EndsWith text behind p → Leaves p
ends_leaves [] behind p x = subst Leaves (sym x) refl
ends_leaves (b ∷ text) behind p x = subst Leaves (sym x.3) refl

chunks_leave : (place : Place) (section bytes : List ℕ) (next : Next) (noted : List ℕ) (p : Pulled)
    → IsPullOfChunks false place section bytes next noted p → Leaves p
chunks_leave place section bytes (chunk given next behind) noted p x = subst Leaves (sym x) tt
chunks_leave place section bytes (waits next) noted p x = subst Leaves (sym x) tt
chunks_leave place section bytes (ended behind) noted p x = ends_leaves (section ++ noted) behind p x
chunks_leave place section bytes breaks noted p x = subst Leaves (sym x) tt

pub an_end_leaves_none : (rest : Rest) (bytes : List ℕ) (p : Pulled) → IsPull false rest bytes p → LeavesNone p.outcome p.rest
an_end_leaves_none no_rest bytes p x = subst Leaves (sym x) refl
an_end_leaves_none raw_rest bytes p x = subst Leaves (sym x) (raw_leaves bytes)
an_end_leaves_none (fixed_rest n) bytes p x = subst Leaves (sym x) (fixed_leaves n bytes)
an_end_leaves_none (chunks_rest place section) bytes p x =
    chunks_leave place section bytes (take_next place bytes).next (take_next place bytes).trailers p x
an_end_leaves_none (frames_rest under_way limit) bytes p x =
    subst Leaves (sym x) (front_leaves under_way limit bytes (front_frame (connection_reader limit) under_way bytes))
