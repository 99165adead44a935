-- What one more step does to the sums of a past that is kept.
use Rattle.std.proofs.Common.{◌≡◌, ℕ, ◌+◌, Bool, true, false, List, [], ◌∷◌, ◌++◌, length, take, drop, Some, None, refl, sym, ap, ◌∙◌, append_assoc, append-nil}
use Rattle.std.specs.Prelude.{is_some, ◌||◌}
use Rattle.std.specs.List.{list_any}
use Rattle.std.specs.Option.{option_or}
use Rattle.std.proofs.lemmas.Bool.{cond-true, cond-false}
use Rattle.std.proofs.lemmas.List.{take-append-drop, drop_at}
use Rattle.model_h1.specs.Request.{Head}
use Rattle.model_h1.specs.Setting.{Setting}
use Rattle.model_h1.specs.Event.{Event, Outcome}
use Rattle.model_h1.specs.Sums.{Step, step_written, written, tick_of, first_tick, last_tick, head_of, request, since_head, answered_by, answered, is_draining, came_since_head, completes, completed_at, chunk_len, answer_len, under_way_behind, is_sending, received_behind, is_receiving}
use Rattle.model_h1.specs.Past.{ParsedStep, steps, IsPast}
use Rattle.model_h1.specs.Text.{step_text, text, buffered}
use Rattle.model_h1.specs.Closing.{told_end, told}
use Rattle.model_h1.specs.Trace.{IsPastOf, IsTrace}
use Rattle.model_h1.proofs.PastLemmas.{Legal}
use Rattle.model_h1.proofs.StepLemmas.{since_head-more}
use Rattle.model_h1.proofs.WrittenLemmas.{written-cons, text-cons, written_buffered}

-- ---- any step

-- the end that was told
pub told-cons : (s : Step) (before : List Step) → told (s ∷ before) ≡ option_or (told_end s.outcome) (told before)
unfolding told
told-cons s before = refl

-- the moments of ticks
pub first_tick-cons : (s : Step) (before : List Step) → first_tick (s ∷ before) ≡ option_or (first_tick before) (tick_of s.event)
unfolding first_tick
first_tick-cons s before = refl

-- and of the last one
pub last_tick-cons : (s : Step) (before : List Step) → last_tick (s ∷ before) ≡ option_or (tick_of s.event) (last_tick before)
unfolding last_tick
last_tick-cons s before = refl

-- the moment in front of the end of the last answer
pub completed_at-completes : (s : Step) (before : List Step) → completes s.event ≡ true → completed_at (s ∷ before) ≡ last_tick before
unfolding completed_at
completed_at-completes s before e = cond-true _ _ _ e

-- and where the step completes no answer
pub completed_at-more : (s : Step) (before : List Step) → completes s.event ≡ false → completed_at (s ∷ before) ≡ completed_at before
unfolding completed_at
completed_at-more s before e = cond-false _ _ _ e

-- messages in fragments
pub is_sending-cons : (s : Step) (before : List Step) → is_sending (s ∷ before) ≡ under_way_behind (is_sending before) s.event s.outcome
unfolding is_sending
is_sending-cons s before = refl

-- and those that come
pub is_receiving-cons : (s : Step) (before : List Step) → is_receiving (s ∷ before) ≡ received_behind (is_receiving before) s.outcome
unfolding is_receiving
is_receiving-cons s before = refl

-- ---- a step that hands out no head

-- the last request
pub request-cons : (s : Step) (before : List Step) → request (s ∷ before) ≡ option_or (head_of s.outcome) (request before)
unfolding request
request-cons s before = refl

-- its answer
pub answered-more : (s : Step) (before : List Step) → head_of s.outcome ≡ None
    → answered (s ∷ before) ≡ option_or (answered_by s.event (is_draining before)) (answered before)
unfolding answered
answered-more s before none = cond-false _ _ _ (ap is_some none)

-- which a new request has not
pub answered-head : (s : Step) (before : List Step) (h : Head) → head_of s.outcome ≡ Some h → answered (s ∷ before) ≡ None
unfolding answered
answered-head s before h some = cond-true _ _ _ (ap is_some some)

-- how much of the answer's body was handed in
pub answer_len-more : (s : Step) (before : List Step) → head_of s.outcome ≡ None → answer_len (s ∷ before) ≡ chunk_len s.event + answer_len before
unfolding answer_len
answer_len-more s before none = cond-false _ _ _ (ap is_some none)

-- whether an event of a kind came behind the head
pub came-more : (kind : Event → Bool) (s : Step) (before : List Step) → head_of s.outcome ≡ None
    → came_since_head kind (s ∷ before) ≡ (kind s.event || came_since_head kind before)
came-more kind s before none = ap (list_any (λ t. kind t.event)) (since_head-more s before none)

-- the same of a step's event and outcome
pub any-more : (kind : Event → Outcome → Bool) (s : Step) (before : List Step) → head_of s.outcome ≡ None
    → list_any (λ t. kind t.event t.outcome) (since_head (s ∷ before))
    ≡ (kind s.event s.outcome || list_any (λ t. kind t.event t.outcome) (since_head before))
any-more kind s before none = ap (list_any (λ t. kind t.event t.outcome)) (since_head-more s before none)

-- ---- what is to be written

-- a legal past is that of a trace
pub right : (setting : Setting) (past : List ParsedStep) → Legal setting past → IsPast setting past
right setting [] l = tt
right setting (m ∷ before) l = (l.0, right setting before l.3)

-- and that trace is one of a connection
pub traced : (setting : Setting) (past : List ParsedStep) → Legal setting past → IsTrace setting (steps past)
traced setting [] l = tt
traced setting (m ∷ before) l =
    let here : IsPastOf setting (steps before) before = record { same = refl; right = right setting before l.3 } in
    ((before, here, l.1), (before, here, l.2), traced setting before l.3)

-- a step that hands out nothing for writing adds its text
pub buffered-more : (setting : Setting) (s : Step) (before : List ParsedStep) → Legal setting before → step_written s.outcome ≡ []
    → buffered setting (s ∷ steps before) ≡ buffered setting (steps before) ++ step_text setting (steps before) s.event s.outcome
buffered-more setting s before l none =
    let t = steps before in
    let w = written t in
    let buffer = buffered setting t in
    let more = step_text setting t s.event s.outcome in
    let same : written (s ∷ t) ≡ w = written-cons s t ∙ ap (λ m. w ++ m) none ∙ append-nil w in
    let all : text setting (s ∷ t) ≡ w ++ (buffer ++ more) =
    text-cons setting s t ∙ ap (λ l. l ++ more) (sym (written_buffered setting t (traced setting before l))) ∙ append_assoc w buffer more in
    (λ i. drop (length (same i)) (all i)) ∙ drop_at w (buffer ++ more) (length w) refl

-- a step that hands out bytes for writing leaves the others
pub buffered-write : (setting : Setting) (s : Step) (n : ℕ) (before : List ParsedStep) → Legal setting before
    → step_written s.outcome ≡ take n (buffered setting (steps before)) → step_text setting (steps before) s.event s.outcome ≡ []
    → buffered setting (s ∷ steps before) ≡ drop n (buffered setting (steps before))
buffered-write setting s n before l given none =
    let t = steps before in
    let w = written t in
    let buffer = buffered setting t in
    let now = w ++ take n buffer in
    let same : written (s ∷ t) ≡ now = written-cons s t ∙ ap (λ m. w ++ m) given in
    let all : text setting (s ∷ t) ≡ now ++ drop n buffer =
    text-cons setting s t ∙ ap (λ m. text setting t ++ m) none ∙ append-nil (text setting t)
    ∙ sym (written_buffered setting t (traced setting before l)) ∙ ap (λ m. w ++ m) (sym (take-append-drop n buffer))
    ∙ sym (append_assoc w (take n buffer) (drop n buffer)) in
    (λ i. drop (length (same i)) (all i)) ∙ drop_at now (drop n buffer) (length now) refl
