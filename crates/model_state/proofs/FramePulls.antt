-- Pulls on a WebSocket.
use Rattle.std.proofs.Common.{◌≡◌, ℕ, zero, suc, ◌+◌, ◌≤◌, true, List, [], ◌∷◌, length, drop, Some, None, refl, sym, ap, ◌∙◌, subst, arith, length-drop}
use Rattle.std.specs.Prelude.{slice_get, is_some}
use Rattle.std.proofs.lemmas.Bool.{false≢true}
use Rattle.std.proofs.lemmas.Option.{slice_get_past}
use Rattle.std.proofs.lemmas.List.{drop-drop}
use Rattle.model_h1.specs.Request.{BodyKind, no_body, fixed_body, chunked_body, raw_body, is_raw_kind, is_chunked_kind, Head}
use Rattle.model_h1.specs.Setting.{Setting}
use Rattle.model_h1.specs.FrameText.{Front, partial, whole, breaks as breaks_rule, front_frame, PlacedFrame, StopsWith, ReadsFrames}
use Rattle.model_h1.specs.Parse.{Message, frames_of, connection_reader}
use Rattle.model_h1.specs.Event.{Outcome}
use Rattle.model_h1.specs.Sums.{Step, taken, has_ended, accepted, is_receiving, received_behind}
use Rattle.model_h1.specs.Past.{ParsedStep, steps, step_frames, given_frames, frame_end, has_chunks, passed}
use Rattle.model_h1.specs.OutcomeTable.{frame_outcome, body_outcome}
use Rattle.model_h1.proofs.PastLemmas.{Legal}
use Rattle.model_h1.proofs.PlaceLemmas.{frame_end-at}
use Rattle.model_h1.proofs.StepLemmas.{accepted-cons, given_frames-more}
use Rattle.model_h1.proofs.CarriedLemmas.{passed_pulled}
use Rattle.model_state.specs.Kept.{frames_rest}
use Rattle.model_state.specs.Pull.{pull_front, IsPull}
use Rattle.model_state.specs.KeptOf.{raw_left, rest_of}
use Rattle.model_state.proofs.Changes.{Changes}
use Rattle.model_state.proofs.Current.{Current, current_with}
use Rattle.model_state.proofs.Orderly.{orderly}
use Rattle.model_state.proofs.Frames.{raw_head}
use Rattle.model_state.proofs.FramesLeft.{passes_frames, FramesLeft, frames_left}
use Rattle.model_state.proofs.Pulling.{pull_of, pull_headless, pull_current, pulling_with}

-- ---- lists

-- what comes next of a list
get_drop : {A : Type 0} (k : ℕ) (xs : List A) (y : A) (ys : List A) → drop k xs ≡ y ∷ ys → slice_get xs k ≡ Some y
get_drop zero [] y ys e = absurd (omega (arith, ap length e))
get_drop zero (x ∷ xs) y ys e = let same : x ≡ y = cc in ap Some same
get_drop (suc k) [] y ys e = absurd (omega (arith, ap length e))
get_drop (suc k) (x ∷ xs) y ys e = get_drop k xs y ys e

-- ---- a raw body

-- the one kind that is raw
pub raw_is : (kind : BodyKind) → is_raw_kind kind ≡ true → kind ≡ raw_body
raw_is raw_body raw = refl
raw_is no_body raw = absurd (false≢true raw)
raw_is (fixed_body n) raw = absurd (false≢true raw)
raw_is chunked_body raw = absurd (false≢true raw)

-- the last request on a WebSocket has one
pub upgraded_raw : (setting : Setting) (past : List ParsedStep) (m : Message) (h : Head) (limit : ℕ) → Legal setting past → Current setting past m h
    → accepted (steps past) ≡ Some limit → h.body ≡ raw_body
upgraded_raw setting past m h limit l c up = raw_is h.body (raw_head past h (orderly setting past l) (ap is_some up) c.request_is)

-- its frames that were handed out are passed
frames_passed : (setting : Setting) (past : List ParsedStep) (m : Message) (h : Head) (limit : ℕ) → Legal setting past → Current setting past m h
    → accepted (steps past) ≡ Some limit → passed past ≡ frame_end m.body_start (given_frames (steps past)) (frames_of m.body)
frames_passed setting past m h limit l c up =
    let upgraded = ap is_some up in
    let plain = ap has_chunks c.reading ∙ ap is_chunked_kind (upgraded_raw setting past m h limit l c up) in
    c.passed_is ∙ passed_pulled past m ((orderly setting past l).upgraded upgraded).incomplete ∙ passes_frames setting past m l upgraded plain

-- what is left of it
frames_rest_of : (setting : Setting) (past : List ParsedStep) (m : Message) (h : Head) (limit : ℕ) → h.body ≡ raw_body
    → accepted (steps past) ≡ Some limit
    → rest_of past m h.body ≡ frames_rest (is_receiving (steps past)) limit
frames_rest_of setting past m h limit kind up = ap (rest_of past m) kind ∙ ap (raw_left past m) up

-- whether a message in fragments is being received, of one more step
receiving-cons : (s : Step) (t : List Step) → is_receiving (s ∷ t) ≡ received_behind (is_receiving t) s.outcome
unfolding is_receiving
receiving-cons s t = refl

-- what such a pull has
record Framed (setting : Setting) (before : List ParsedStep) (o : Outcome) (parse : List Message) (m : Message) (h : Head) (limit : ℕ) : Type 0 where
  pub legal : Legal setting (pull_of o parse ∷ before)
  pub current : Current setting before m h
  pub upgraded : accepted (steps before) ≡ Some limit
  pub left : FramesLeft setting before m limit

-- what is left of it before the pull
framed_before : (setting : Setting) (before : List ParsedStep) (o : Outcome) (parse : List Message) (m : Message) (h : Head) (limit : ℕ)
    → Framed setting before o parse m h limit → rest_of before m h.body ≡ frames_rest (is_receiving (steps before)) limit
framed_before setting before o parse m h limit w =
    frames_rest_of setting before m h limit (upgraded_raw setting before m h limit w.legal.3 w.current w.upgraded) w.upgraded

-- and behind the pull
framed_behind : (setting : Setting) (before : List ParsedStep) (o p : Outcome) (parse : List Message) (m : Message) (h : Head) (limit : ℕ)
    → Framed setting before o parse m h limit
    → rest_of (pull_of p parse ∷ before) m h.body ≡ frames_rest (received_behind (is_receiving (steps before)) p) limit
framed_behind setting before o p parse m h limit w =
    let t = steps before in
    let x = pull_of p parse in
    frames_rest_of setting (x ∷ before) m h limit (upgraded_raw setting before m h limit w.legal.3 w.current w.upgraded) (accepted-cons x.step t ∙ w.upgraded)
    ∙ ap (λ u. frames_rest u limit) (receiving-cons x.step t)

-- the place behind the pull
framed_passed : (setting : Setting) (before : List ParsedStep) (o p : Outcome) (parse : List Message) (m : Message) (h : Head) (limit : ℕ)
    → Framed setting before o parse m h limit → Legal setting (pull_of p parse ∷ before)
    → passed (pull_of p parse ∷ before) ≡ frame_end m.body_start (given_frames (steps before) + step_frames p) (frames_of m.body)
framed_passed setting before o p parse m h limit w l =
    let t = steps before in
    let x = pull_of p parse in
    let c = current_with setting (x ∷ before) m l (pull_current setting before p parse m l w.current.current_is) in
    frames_passed setting (x ∷ before) m c.0 limit l c.1 (accepted-cons x.step t ∙ w.upgraded)
    ∙ ap (λ n. frame_end m.body_start n (frames_of m.body)) (given_frames-more x.step t (pull_headless setting before p parse l))

-- a pull that hands out no frame passes nothing
framed_stays : (setting : Setting) (before : List ParsedStep) (o p : Outcome) (parse : List Message) (m : Message) (h : Head) (limit : ℕ)
    → Framed setting before o parse m h limit → Legal setting (pull_of p parse ∷ before) → step_frames p ≡ 0
    → passed before ≡ passed (pull_of p parse ∷ before)
framed_stays setting before o p parse m h limit w l none =
    let same : given_frames (steps before) ≡ given_frames (steps before) + step_frames p = omega arith in
    frames_passed setting before m h limit w.legal.3 w.current w.upgraded
    ∙ ap (λ n. frame_end m.body_start n (frames_of m.body)) same ∙ sym (framed_passed setting before o p parse m h limit w l)

-- ---- what is pulled

-- the bytes at the front of those that aren't passed
abbrev pub front_of : List ParsedStep → ℕ → Front
front_of past limit = front_frame (connection_reader limit) (is_receiving (steps past)) (drop (passed past) (taken (steps past)))

-- what a front gives
framed_is : (setting : Setting) (before : List ParsedStep) (o : Outcome) (parse : List Message) (m : Message) (h : Head) (limit : ℕ) (front : Front)
    → Framed setting before o parse m h limit → front_of before limit ≡ front
    → IsPull (has_ended (steps before)) (rest_of before m h.body) (drop (passed before) (taken (steps before)))
    (pull_front (is_receiving (steps before)) limit (drop (passed before) (taken (steps before))) front)
framed_is setting before o parse m h limit front w e =
    let t = steps before in
    let u = drop (passed before) (taken t) in
    let p = pull_front (is_receiving t) limit u front in
    let is : IsPull (has_ended t) (frames_rest (is_receiving t) limit) u p = sym (ap (pull_front (is_receiving t) limit u) e) in
    subst (λ rest. IsPull (has_ended t) rest u p) (sym (framed_before setting before o parse m h limit w)) is

-- no frame is left
framed_stops : (setting : Setting) (before : List ParsedStep) (o : Outcome) (parse : List Message) (m : Message) (h : Head) (limit : ℕ) (front : Front)
    → (w : Framed setting before o parse m h limit) → front_of before limit ≡ front → StopsWith front w.left.fail
    → slice_get w.left.placed (given_frames (steps before)) ≡ None → Changes setting before (pull_of o parse)
framed_stops setting before o parse m h limit partial w e stops none =
    let t = steps before in
    let p = pull_front (is_receiving t) limit (drop (passed before) (taken t)) partial in
    pulling_with setting before o parse m h p w.legal w.current
    (ap (body_outcome t) w.left.body ∙ (λ i. frame_outcome (stops i) (none i)))
    (framed_is setting before o parse m h limit partial w e)
    (λ l'. record {
      rest = sym (framed_behind setting before o p.outcome parse m h limit w);
      unread = ap (λ k. drop k (taken t)) (framed_stays setting before o p.outcome parse m h limit w l' refl);
      done = refl;
      failed = refl;
      written = refl;
      over = refl;
    })
framed_stops setting before o parse m h limit (whole frame len) w e stops none = absurd stops
framed_stops setting before o parse m h limit (breaks_rule error) w e stops none =
    let t = steps before in
    let p = pull_front (is_receiving t) limit (drop (passed before) (taken t)) (breaks_rule error) in
    pulling_with setting before o parse m h p w.legal w.current
    (ap (body_outcome t) w.left.body ∙ (λ i. frame_outcome (stops i) (none i)))
    (framed_is setting before o parse m h limit (breaks_rule error) w e)
    (λ l'. record {
      rest = sym (framed_behind setting before o p.outcome parse m h limit w);
      unread = ap (λ k. drop k (taken t)) (framed_stays setting before o p.outcome parse m h limit w l' refl);
      done = refl;
      failed = refl;
      written = refl;
      over = refl;
    })

-- a frame is handed out
framed_gives : (setting : Setting) (before : List ParsedStep) (o : Outcome) (parse : List Message) (m : Message) (h : Head) (limit : ℕ) (f : PlacedFrame) (len : ℕ)
    → (w : Framed setting before o parse m h limit) → front_of before limit ≡ whole f.frame len → f.end ≡ passed before + len
    → slice_get w.left.placed (given_frames (steps before)) ≡ Some f → Changes setting before (pull_of o parse)
framed_gives setting before o parse m h limit f len w e end some =
    let t = steps before in
    let p = pull_front (is_receiving t) limit (drop (passed before) (taken t)) (whole f.frame len) in
    let more : given_frames t + 1 ≡ suc (given_frames t) = omega arith in
    pulling_with setting before o parse m h p w.legal w.current
    (ap (body_outcome t) w.left.body ∙ ap (frame_outcome w.left.fail) some)
    (framed_is setting before o parse m h limit (whole f.frame len) w e)
    (λ l'.
    let place : passed (pull_of p.outcome parse ∷ before) ≡ f.end = framed_passed setting before o p.outcome parse m h limit w l'
    ∙ (λ i. frame_end m.body_start (more i) (frames_of (w.left.body i))) ∙ frame_end-at m.body_start (given_frames t) w.left.placed f some in
    record {
      rest = sym (framed_behind setting before o p.outcome parse m h limit w);
      unread = drop-drop len (passed before) (taken t) ∙ ap (λ k. drop k (taken t)) (sym end ∙ sym place);
      done = refl;
      failed = refl;
      written = refl;
      over = refl;
    })

-- by the frames that are left
framed_by : (setting : Setting) (before : List ParsedStep) (o : Outcome) (parse : List Message) (m : Message) (h : Head) (limit : ℕ) (rest : List PlacedFrame)
    → (w : Framed setting before o parse m h limit) → drop (given_frames (steps before)) w.left.placed ≡ rest
    → ReadsFrames (connection_reader limit) (is_receiving (steps before)) (passed before) (taken (steps before)) rest w.left.fail
    → Changes setting before (pull_of o parse)
framed_by setting before o parse m h limit [] w e x =
    let all : length w.left.placed ≤ given_frames (steps before) = omega (arith, ap length e, length-drop (given_frames (steps before)) w.left.placed) in
    framed_stops setting before o parse m h limit (front_of before limit) w refl x (slice_get_past w.left.placed (given_frames (steps before)) all)
framed_by setting before o parse m h limit (f ∷ fs) w e x =
    framed_gives setting before o parse m h limit f x.0 w x.1 x.2 (get_drop (given_frames (steps before)) w.left.placed f fs e)

-- a pull on a WebSocket
pub frames_pull_changes : (setting : Setting) (before : List ParsedStep) (o : Outcome) (parse : List Message) (m : Message) (h : Head) (limit : ℕ)
    → Legal setting (pull_of o parse ∷ before) → Current setting before m h → accepted (steps before) ≡ Some limit
    → Changes setting before (pull_of o parse)
frames_pull_changes setting before o parse m h limit l c up =
    let left = frames_left setting before m h limit l.3 c up in
    framed_by setting before o parse m h limit (drop (given_frames (steps before)) left.placed)
    (record { legal = l; current = c; upgraded = up; left = left }) refl left.left
