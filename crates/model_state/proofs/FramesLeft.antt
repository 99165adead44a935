-- The frames of a WebSocket that are left: they are read from the place up to which the bytes are passed.
use Rattle.std.proofs.Common.{◌≡◌, ℕ, ◌≤◌, Bool, true, false, List, [], ◌∷◌, length, drop, Option, Some, None, refl, sym, ap, ◌∙◌, subst, subst₂, inl, inr, arith}
use Rattle.std.specs.Prelude.{IsTrue, ◌||◌, not, nat_lt, is_some, slice_get, unwrap_or}
use Rattle.std.specs.Option.{option_or}
use Rattle.std.proofs.lemmas.Bool.{cond-false, true≢false, false≢true, or_parts, lt-ltb, le-ltb, cases_lt}
use Rattle.std.proofs.lemmas.List.{drop_all, length-drop}
use Rattle.model_h1.specs.Request.{BodyKind, no_body, fixed_body, chunked_body, raw_body, is_raw_kind, is_chunked_kind, Head}
use Rattle.model_h1.specs.Setting.{Setting}
use Rattle.model_h1.specs.Frame.{ProtocolError}
use Rattle.model_h1.specs.FrameText.{Reader, Front, PlacedFrame, partial, whole, breaks, front_frame, StopsWith, ReadsFrames}
use Rattle.model_h1.specs.Parse.{Message, frames, frames_of, connection_reader}
use Rattle.model_h1.specs.Event.{Outcome}
use Rattle.model_h1.specs.Event as on
use Rattle.model_h1.specs.Sums.{Step, accepted, taken, is_receiving, is_upgraded, was_pulled, was_dropped}
use Rattle.model_h1.specs.Past.{ParsedStep, steps, current, given_frames, frame_end, has_chunks, pulled_to, passed}
use Rattle.model_h1.specs.Allowed.{is_allowed}
use Rattle.model_h1.specs.OutcomeTable.{frame_outcome, body_outcome, pull_outcome, outcome_of}
use Rattle.model_h1.proofs.PastLemmas.{Legal}
use Rattle.model_h1.proofs.PlaceLemmas.{frame_end-none}
use Rattle.model_h1.proofs.StepLemmas.{step, accepted-cons, given_frames-more, quiet, reads, stops, accepts, begins, pulls, step_case}
use Rattle.model_h1.proofs.PulledLemmas.{Idle, idle_pulled, pulled_to-more, unpulled_place}
use Rattle.model_h1.proofs.CarriedLemmas.{passed_pulled}
use Rattle.model_h1.proofs.HeldSteps.{quiet_idle, reads_idle, ends_idle, accepts_idle}
use Rattle.model_h1.proofs.HeldLemmas.{unpulled_given}
use Rattle.model_state.specs.Local.{is_partial}
use Rattle.model_state.proofs.Current.{Current}
use Rattle.model_state.proofs.Orderly.{orderly, waits_open, head_free}
use Rattle.model_state.proofs.Frames.{going, reads_on, framed, raw_head}
use Rattle.model_state.proofs.Received.{receives, unaccepting, upgraded_current}

-- ---- how far pulls pass on a WebSocket

-- a message that isn't in chunks is passed up to the end of the frames that were handed out
abbrev PassesFrames : Message → List Step → Type 0
PassesFrames n trace = pulled_to n trace ≡ frame_end n.body_start (given_frames trace) (frames_of n.body)

-- a step that is no pull leaves it
idle_passes : (n : Message) (s : Step) (before : List Step) → Idle s → PassesFrames n before → PassesFrames n (s ∷ before)
idle_passes n s before idle old =
    let given : given_frames (s ∷ before) ≡ given_frames before = omega (arith, given_frames-more s before idle.head, idle.frames) in
    idle_pulled n s before idle ∙ old ∙ ap (λ k. frame_end n.body_start k (frames_of n.body)) (sym given)

-- a pull of frames passes the one that it gives
pull_passes : (n : Message) (before : List Step) (fail : Option ProtocolError) (next : Option PlacedFrame) → has_chunks n.reading ≡ false
    → PassesFrames n before → PassesFrames n (step on.pull (frame_outcome fail next) ∷ before)
pull_passes n before fail (Some f) plain old = pulled_to-more n (step on.pull (on.frame f.frame)) before refl
pull_passes n before (Some e) None plain old =
    let s = step on.pull (on.protocol e) in
    let given : given_frames (s ∷ before) ≡ given_frames before = omega (arith, given_frames-more s before refl) in
    pulled_to-more n s before refl ∙ old ∙ ap (λ k. frame_end n.body_start k (frames_of n.body)) (sym given)
pull_passes n before None None plain old =
    let s = step on.pull on.pending in
    let given : given_frames (s ∷ before) ≡ given_frames before = omega (arith, given_frames-more s before refl) in
    pulled_to-more n s before refl ∙ ap (λ o. unwrap_or o (pulled_to n before)) (cond-false (has_chunks n.reading) _ _ plain)
    ∙ old ∙ ap (λ k. frame_end n.body_start k (frames_of n.body)) (sym given)

-- before any pull nothing is passed
fresh_passes : (n : Message) (trace : List Step) → was_pulled trace ≡ false → given_frames trace ≡ 0 → PassesFrames n trace
fresh_passes n trace unpulled none = unpulled_place n trace unpulled ∙ sym (frame_end-none n.body_start (given_frames trace) (frames_of n.body) none)

-- on no step
nothing_upgraded : is_upgraded [] ≡ true → ⊥
unfolding accepted
nothing_upgraded e = false≢true e

-- what an event that accepts nothing was behind
was_upgraded : (before : List ParsedStep) (s : Step) → accepted (s ∷ steps before) ≡ accepted (steps before) → is_upgraded (s ∷ steps before) ≡ true
    → is_upgraded (steps before) ≡ true
was_upgraded before s same up = sym (ap is_some same) ∙ up

-- each pull on a WebSocket
pull_step_passes : (setting : Setting) (before : List ParsedStep) (x : ParsedStep) (n : Message) → Legal setting (x ∷ before)
    → x.step.event ≡ on.pull → x.step.outcome ≡ pull_outcome (steps before) (current before) → is_upgraded (steps before) ≡ true
    → has_chunks n.reading ≡ false → PassesFrames n (steps before) → PassesFrames n (x.step ∷ steps before)
pull_step_passes setting before x n l event gives up plain old = go (accepted (steps before)) refl up
  where
    go : (u : Option ℕ) → accepted (steps before) ≡ u → is_some u ≡ true → PassesFrames n (x.step ∷ steps before)
    go None e some = absurd (false≢true some)
    go (Some limit) e some =
        let c = upgraded_current setting before l.3 up in
        let b = framed setting before c.0 c.1 limit l.3 c.2 e in
        let is = gives ∙ ap (pull_outcome (steps before)) c.2.current_is ∙ ap (body_outcome (steps before)) b.body in
        let next = slice_get b.placed (given_frames (steps before)) in
        let same : step on.pull (frame_outcome b.fail next) ≡ x.step = λ i. record { event = sym event i; outcome = sym is i } in
        subst (λ s. PassesFrames n (s ∷ steps before)) same (pull_passes n (steps before) b.fail next plain old)

-- every legal past of a WebSocket
pub passes_frames : (setting : Setting) (past : List ParsedStep) (n : Message) → Legal setting past → is_upgraded (steps past) ≡ true
    → has_chunks n.reading ≡ false → PassesFrames n (steps past)
passes_frames setting [] n l up plain = absurd (nothing_upgraded up)
passes_frames setting (x ∷ before) n l up plain =
    let t = steps before in
    elim (step_case setting before x.step.event x.step.outcome l.1 l.2) [
      | quiet q ↦
          let same = accepted-cons x.step t ∙ ap (λ o. option_or o (accepted t)) q.accepted in
          idle_passes n x.step t (quiet_idle before x.step q) (passes_frames setting before n l.3 (was_upgraded before x.step same up) plain)
      | reads r ↦
          let was = was_upgraded before x.step (unaccepting setting before x.step (on.read r.bytes) r.event refl) up in
          idle_passes n x.step t (reads_idle setting before x.step r) (passes_frames setting before n l.3 was plain)
      | stops r ↦
          let was = was_upgraded before x.step (unaccepting setting before x.step on.eof r.event refl) up in
          idle_passes n x.step t (ends_idle before x.step r) (passes_frames setting before n l.3 was plain)
      | accepts a ↦
          let unpulled = (or_parts (was_pulled t) (was_dropped t) a.unpulled).0 in
          idle_passes n x.step t (accepts_idle before x.step a) (fresh_passes n t unpulled (unpulled_given setting before l.3 unpulled).1)
      | begins b ↦
          let was = was_upgraded before x.step (unaccepting setting before x.step on.next b.event refl) up in
          let ok = subst (λ e. IsTrue (is_allowed setting before e)) b.event l.1 in
          let is = sym b.outcome ∙ l.2 ∙ ap (outcome_of setting before) b.event in
          let free = head_free setting before b.head ok is in
          absurd (true≢false (sym (waits_open t was ((orderly setting before l.3).upgraded was)) ∙ free))
      | pulls p ↦
          let was = was_upgraded before x.step (unaccepting setting before x.step on.pull p.event refl) up in
          pull_step_passes setting before x n l p.event p.outcome was plain (passes_frames setting before n l.3 was plain)
    ]

-- ---- the frames that are left

-- The body of the current message is frames, of which those behind the ones that were handed out are read from the
-- place that is passed.
pub record FramesLeft (setting : Setting) (past : List ParsedStep) (m : Message) (limit : ℕ) : Type 0 where
  pub placed : List PlacedFrame
  pub fail : Option ProtocolError
  pub body : m.body ≡ frames placed fail
  pub fits : given_frames (steps past) ≤ length placed
  pub left : ReadsFrames (connection_reader limit) (is_receiving (steps past)) (passed past) (taken (steps past)) (drop (given_frames (steps past)) placed) fail

-- a raw body comes in no chunks
raw_unchunked : (kind : BodyKind) → is_raw_kind kind ≡ true → is_chunked_kind kind ≡ false
raw_unchunked raw_body raw = refl
raw_unchunked no_body raw = refl
raw_unchunked (fixed_body n) raw = refl
raw_unchunked chunked_body raw = absurd (false≢true raw)

-- the frames of a WebSocket that are left
pub frames_left : (setting : Setting) (past : List ParsedStep) (m : Message) (h : Head) (limit : ℕ) → Legal setting past → Current setting past m h
    → accepted (steps past) ≡ Some limit → FramesLeft setting past m limit
frames_left setting past m h limit l c up =
    let t = steps past in
    let upgraded = ap is_some up in
    let o = orderly setting past l in
    let b = framed setting past m h limit l c up in
    let plain = ap has_chunks c.reading ∙ raw_unchunked h.body (raw_head past h o upgraded c.request_is) in
    let fits : given_frames t ≤ length b.placed = omega (arith, c.holds.frames_fit, ap (λ d. length (frames_of d)) b.body) in
    let place = c.passed_is ∙ passed_pulled past m (o.upgraded upgraded).incomplete ∙ passes_frames setting past m l upgraded plain
    ∙ ap (λ d. frame_end m.body_start (given_frames t) (frames_of d)) b.body in
    let under = (receives setting past l).framed m limit up c.current_is ∙ ap (λ d. going (given_frames t) (frames_of d) false) b.body in
    let rest = reads_on (connection_reader limit) false m.body_start (taken t) (given_frames t) b.placed b.fail fits b.reads in
    record {
      placed = b.placed;
      fail = b.fail;
      body = b.body;
      fits = fits;
      left = subst₂ (λ u p. ReadsFrames (connection_reader limit) u p (taken t) (drop (given_frames t) b.placed) b.fail) (sym under) (sym place) rest;
    }

-- a front with no whole frame breaks a rule or is partial
front_stops : (x : Front) (fail : Option ProtocolError) → StopsWith x fail → is_partial x ≡ not (is_some fail)
front_stops partial fail e = sym (ap (λ (o : Option ProtocolError). not (is_some o)) e)
front_stops (whole frame len) fail e = absurd e
front_stops (breaks error) fail e = sym (ap (λ (o : Option ProtocolError). not (is_some o)) e)

-- the front is partial where no frame is left and no rule is broken
pub front_partial : (reader : Reader) (u : Bool) (place : ℕ) (bytes : List ℕ) (k : ℕ) (placed : List PlacedFrame) (fail : Option ProtocolError)
    → ReadsFrames reader u place bytes (drop k placed) fail
    → is_partial (front_frame reader u (drop place bytes)) ≡ not (nat_lt k (length placed) || is_some fail)
front_partial reader u place bytes k placed fail x =
    elim (cases_lt k (length placed)) [
      | inr all ↦
          front_stops _ fail (subst (λ fs. ReadsFrames reader u place bytes fs fail) (drop_all k placed all) x)
          ∙ sym (ap (λ b. not (b || is_some fail)) (le-ltb k (length placed) all))
      | inl some ↦ go (drop k placed) x (omega (arith, length-drop k placed)) ∙ sym (ap (λ b. not (b || is_some fail)) (lt-ltb k (length placed) some))
    ]
  where
    go : (fs : List PlacedFrame) → ReadsFrames reader u place bytes fs fail → 1 ≤ length fs
        → is_partial (front_frame reader u (drop place bytes)) ≡ false
    go [] y long = absurd (omega arith)
    go (f ∷ fs) y long = ap is_partial y.1
