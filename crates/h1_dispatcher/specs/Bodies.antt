-- What the bodies of answers give in the steps of a run.
use Rattle.std.specs.Prelude.{◌≡◌, Bool, true, false, ◌||◌, if◌then◌else◌, Option, Some, None, List, [], ◌∷◌, ◌++◌, ⊤}
use Rattle.std.specs.List.{AllByRecursion}
use Rattle.futures.specs.declared.task.Poll.TheVariants.{Ready, Pending}
use Rattle.http_bodies.specs.Giving.{Given, Giving, Piece, gave}
use Rattle.http_bodies.specs.Told.{Tells, led_by}
use Rattle.h1_dispatcher.specs.View.{View, Stage, free, waiting, calling, replying, sending, closes}
use Rattle.h1_dispatcher.specs.Steps.{Step, ticked, drained, written, shut, closed, replied, sent, failed_sent, asked_to_drain, asked_to_hold, declined, let_on}

-- what a body gave in this step
abbrev pub step_pieces : Step → List Given
step_pieces (sent piece) = gave piece
step_pieces (failed_sent piece) = gave piece
step_pieces step = []

-- it came to its end
abbrev pub is_end : Piece → Bool
is_end (Ready None) = true
is_end (Ready (Some x)) = false
is_end Pending = false

abbrev pub ends_body : Step → Bool
ends_body (sent piece) = is_end piece
ends_body step = false

-- the next answer was handed on
abbrev pub is_reply : Step → Bool
is_reply (replied answer) = true
is_reply step = false

-- up to the next answer: what the body gave, and whether it came to its end
abbrev pub pieces : List Step → List Given
pieces [] = []
pieces (d ∷ steps) = if is_reply d then [] else (step_pieces d ++ pieces steps)

abbrev pub has_end : List Step → Bool
has_end [] = false
has_end (d ∷ steps) = if is_reply d then false else (ends_body d || has_end steps)

-- whether there is a next answer
abbrev pub has_reply : List Step → Bool
has_reply [] = false
has_reply (d ∷ steps) = is_reply d || has_reply steps

-- Of what was still to come of a body, if that is known, its chunks were given once and in order, and this is left. Where
-- its end was handed on nothing is left, and where it still goes out it has what is left.
pub record GoesOut (coming : Option (List Given)) (steps : List Step) (w : View) : Type 0 where
  pub left : Option (List Given)
  pub gives : coming ≡ led_by (pieces steps) left
  pub whole : has_end steps ≡ true → Tells left []
  pub goes_on : has_reply steps ≡ false → (body : Giving) → w.stage ≡ sending body → left ≡ body.coming

-- a body that goes out from this stage on, up to the next answer; where none does, none is polled
abbrev pub SendsBody : Stage → List Step → View → Type 0
SendsBody free steps w = pieces steps ≡ []
SendsBody (waiting request) steps w = pieces steps ≡ []
SendsBody (calling took) steps w = pieces steps ≡ []
SendsBody (replying answer) steps w = pieces steps ≡ []
SendsBody (sending body) steps w = GoesOut body.coming steps w

-- what is left to a connection that closes: a moment comes, or the drain; what waits is written, its end is told, and the
-- transport is shut down; requests may be held back from then on, or none
abbrev pub IsOfEnd : Step → Type 0
IsOfEnd (ticked moment expiry) = ⊤
IsOfEnd drained = ⊤
IsOfEnd (written answer) = ⊤
IsOfEnd (shut answer) = ⊤
IsOfEnd (closed end) = ⊤
IsOfEnd asked_to_drain = ⊤
IsOfEnd (asked_to_hold upgrades expects) = ⊤
IsOfEnd declined = ⊤
IsOfEnd let_on = ⊤
IsOfEnd step = ⊥

-- The connection closes, and each of the steps is one of its end: no byte is read, no request is begun or answered, and no
-- body is polled.
pub record OnlyEnds (steps : List Step) (w : View) : Type 0 where
  pub closing : closes w ≡ true
  pub each : AllByRecursion IsOfEnd steps
