-- Which events may come next, by tests of the parts.
use Rattle.std.proofs.Common.{◌≡◌, Bool, true, false, not, ◌&&◌, ◌||◌, Option, Some, None, refl, ap, ◌∙◌}
use Rattle.std.specs.Prelude.{is_some, is_none, option_map, if◌then◌else◌}
use Rattle.model_h1.specs.Event as on
use Rattle.model_h1.specs.Setting.{Setting}
use Rattle.model_state.specs.Kept.{Rest, Kept, is_frames, is_upgraded}
use Rattle.model_state.specs.Local.{closing_by, allowed_by, has_body_left}
use Rattle.h1_connection.specs.Given.{frame_allowed}
use Rattle.h1_payload.specs.Kinds.{IsKind}
use Rattle.h1_payload.specs.declared.rest.RestKind.{RestKind}
use Rattle.h1_payload.specs.declared.rest.RestKind.TheVariants as kind

-- a request's body is never read as frames
pub plain_kind : (k : RestKind) (rest : Rest) → IsKind k rest → is_frames rest ≡ false
plain_kind kind.Nothing rest is = ap is_frames is
plain_kind kind.Raw rest is = ap is_frames is
plain_kind kind.Fixed rest is = ap is_frames is.1
plain_kind kind.Chunks rest is = ap is_frames is.3
plain_kind kind.Broken rest is = ap is_frames is.1

-- a test of a running connection
pub running_test : (over closes : Bool) (test : Bool) → ((not over && not closes) && test) ≡ (not over && (if closes then false else test))
running_test true closes test = refl
running_test false true test = refl
running_test false false test = refl

-- a test of a running WebSocket
pub frame_test : (over closes frames left : Bool)
    → ((not over && not closes) && frames) ≡ ((not over && (if closes then false else (frames || left))) && frames)
frame_test true closes frames left = refl
frame_test false true frames left = refl
frame_test false false true left = refl
frame_test false false false true = refl
frame_test false false false false = refl

-- a pull, of a body or of a frame
pub pull_test : (over closes frames left : Bool)
    → ((not over && (if closes then false else (not frames && left))) || ((not over && (if closes then false else (frames || left))) && frames))
    ≡ (not over && (if closes then false else (frames || left)))
pull_test true closes frames left = refl
pull_test false true frames left = refl
pull_test false false true left = refl
pull_test false false false true = refl
pull_test false false false false = refl

pub pull_either : (set : Setting) (k : Kept) (a b : Bool) → a ≡ allowed_by set k on.drop_body → b ≡ frame_allowed set k → (a || b) ≡ allowed_by set k on.pull
unfolding allowed_by
pull_either set k a b x y = (λ i. x i || y i) ∙ pull_test k.is_over (is_some (closing_by set k)) (is_upgraded k) (has_body_left k)

-- three tests, one after the other
pub three_tests : (a b c d : Bool) → (((a && b) && c) && d) ≡ ((a && b) && (c && d))
three_tests true true c d = refl
three_tests true false c d = refl
three_tests false b c d = refl

-- a test that matters only while it runs
pub closing_test : (over closes : Bool) (test : Bool) → (not over && (closes || test)) ≡ (not over && (if closes then true else test))
closing_test true closes test = refl
closing_test false true test = refl
closing_test false false test = refl

-- one that matters either way
pub any_test : (over closes : Bool) (test : Bool) → (not over && test) ≡ (not over && (if closes then test else test))
any_test true closes test = refl
any_test false true test = refl
any_test false false test = refl

pub no_test : (over closes : Bool) → not over ≡ (not over && (if closes then true else true))
no_test true closes = refl
no_test false true = refl
no_test false false = refl

pub not_some : {A : Type 0} (o : Option A) → is_none o ≡ not (is_some o)
not_some None = refl
not_some (Some x) = refl

-- the end that is told, and why it closes
pub some_mapped : {A B : Type 0} (f : A → B) (o : Option A) → is_some (option_map f o) ≡ is_some o
some_mapped f None = refl
some_mapped f (Some x) = refl
