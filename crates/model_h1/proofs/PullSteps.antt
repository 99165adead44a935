-- What a pull gives, passes and leaves.
use Rattle.std.proofs.Common.{◌≡◌, ℕ, suc, ◌+◌, ◌≤◌, Bool, true, false, List, [], ◌∷◌, length, slice_range, Option, Some, None, refl, sym, ap, ◌∙◌, subst, subst₂, inl, inr, arith, append-nil}
use Rattle.std.specs.Prelude.{unwrap_or, slice_get}
use Rattle.std.proofs.lemmas.Option.{none-some, same_Some, slice_get_within}
use Rattle.std.proofs.lemmas.Bool.{cond-true, cond-false, cases_Bool, true≢false, false≢true}
use Rattle.httparse.proofs.RunLemmas.{length-slice_range}
use Rattle.model_h1.specs.Request.{Header, Reading}
use Rattle.model_h1.specs.Frame.{ProtocolError}
use Rattle.model_h1.specs.FrameText.{PlacedFrame}
use Rattle.model_h1.specs.Runs.{Run}
use Rattle.model_h1.specs.Parse.{Message, Body, no_content, content, frames, Stop, ended_at, still_open, broken, cut, next_start, runs_of, frames_of}
use Rattle.model_h1.specs.Event.{Outcome}
use Rattle.model_h1.specs.Event as on
use Rattle.model_h1.specs.Sums.{Step, taken, head_of}
use Rattle.model_h1.specs.Past.{step_bytes, step_frames, given_bytes, given_frames, place_behind, frame_end, has_chunks, pulled_place, pulled_to}
use Rattle.model_h1.specs.OutcomeTable.{run_left, gave_trailers, ended_outcome, stop_outcome, run_outcome, frame_outcome, body_outcome}
use Rattle.model_h1.proofs.PlaceLemmas.{run_len, left_nothing, left_some, left_within, left_place, left_len, left_next, IsBeforeLeft, frame_end-at, frame_within, frame_next}
use Rattle.model_h1.proofs.BodySteps.{is_frames, Lies}
use Rattle.model_h1.proofs.StepLemmas.{step, taken-cons, given_bytes-more, given_frames-more}
use Rattle.model_h1.proofs.PulledLemmas.{pulled_to-more, PullFits, fit-more, Holds}

-- what holds behind a pull with this outcome, and that it passes no less
pub record Pulled (m : Message) (before : List Step) (o : Outcome) : Type 0 where
  pub holds : Holds (length (taken before)) m (step on.pull o ∷ before)
  pub passes : pulled_to m before ≤ pulled_to m (step on.pull o ∷ before)

-- a pull takes no bytes
pull_takes_none : (before : List Step) (o : Outcome) → taken (step on.pull o ∷ before) ≡ taken before
pull_takes_none before o = taken-cons (step on.pull o) before ∙ append-nil (taken before)

-- the place of a pull that passes something
pulled_at : (m : Message) (before : List Step) (o : Outcome) (place : ℕ) → head_of o ≡ None
    → pulled_place m (step on.pull o ∷ before) on.pull o ≡ Some place
    → pulled_to m (step on.pull o ∷ before) ≡ place
pulled_at m before o place none e = pulled_to-more m (step on.pull o) before none ∙ ap (λ p. unwrap_or p (pulled_to m before)) e

-- and of one that passes nothing
pulled_not : (m : Message) (before : List Step) (o : Outcome) → head_of o ≡ None → pulled_place m (step on.pull o ∷ before) on.pull o ≡ None
    → pulled_to m (step on.pull o ∷ before) ≡ pulled_to m before
pulled_not m before o none e = pulled_to-more m (step on.pull o) before none ∙ ap (λ p. unwrap_or p (pulled_to m before)) e

-- a pull that passes nothing and gives nothing
nothing_pulled : (m : Message) (before : List Step) (o : Outcome) → head_of o ≡ None → pulled_place m (step on.pull o ∷ before) on.pull o ≡ None
    → step_bytes o ≡ 0 → step_frames o ≡ 0 → PullFits m (step on.pull o ∷ before) on.pull o → Holds (length (taken before)) m before
    → Pulled m before o
nothing_pulled m before o none passes bytes count fits x =
    let s = step on.pull o in
    let place = pulled_not m before o none passes in
    let given : given_bytes (s ∷ before) ≡ given_bytes before = omega (arith, given_bytes-more s before none) in
    let given' : given_frames (s ∷ before) ≡ given_frames before = omega (arith, given_frames-more s before none) in
    record {
      holds = record {
        within = subst (λ n. n ≤ length (taken before)) (sym place) x.within;
        before_next = λ next e. subst (λ n. n ≤ next) (sym place) (x.before_next next e);
        before_left = subst₂ (λ n g. IsBeforeLeft n g (runs_of m.body)) (sym place) (sym given) x.before_left;
        before_frames = λ framed. subst₂ (λ n g. n ≤ frame_end m.body_start g (frames_of m.body)) (sym place) (sym given') (x.before_frames framed);
        bytes_fit = omega (arith, x.bytes_fit);
        frames_fit = omega (arith, x.frames_fit);
        pulls_fit = fit-more m s before none fits x.pulls_fit;
      };
      passes = omega arith;
    }

-- nothing is left to give now: a body in chunks is passed as far as it was taken
pending_pulled : (m : Message) (before : List Step) → next_start m.body ≡ None → run_left (given_bytes before) (runs_of m.body) ≡ None
    → (has_chunks m.reading ≡ true → is_frames m.body ≡ false) → Holds (length (taken before)) m before → Pulled m before on.pending
pending_pulled m before unended none_left unframed x =
    elim (cases_Bool (has_chunks m.reading)) [
      | inr plain ↦ nothing_pulled m before on.pending refl (cond-false (has_chunks m.reading) _ _ plain) refl refl tt x
      | inl chunks ↦
          let s = step on.pull on.pending in
          let place = pulled_at m before on.pending (length (taken (s ∷ before))) refl (cond-true (has_chunks m.reading) _ _ chunks) in
          let len = ap length (pull_takes_none before on.pending) in
          let given : given_bytes (s ∷ before) ≡ given_bytes before = omega (arith, given_bytes-more s before refl) in
          let given' : given_frames (s ∷ before) ≡ given_frames before = omega (arith, given_frames-more s before refl) in
          record {
            holds = record {
              within = omega arith;
              before_next = λ next e. absurd (none-some next (sym unended ∙ e));
              before_left = λ r e. absurd (none-some r (sym none_left ∙ ap (λ g. run_left g (runs_of m.body)) (sym given) ∙ e));
              before_frames = λ framed. absurd (false≢true (sym (unframed chunks) ∙ framed));
              bytes_fit = omega (arith, x.bytes_fit);
              frames_fit = omega (arith, x.frames_fit);
              pulls_fit = fit-more m s before refl tt x.pulls_fit;
            };
            passes = omega (arith, x.within);
          }
    ]

-- bytes are given
bytes_pulled : (m : Message) (before : List Step) (r : Run) → run_left (given_bytes before) (runs_of m.body) ≡ Some r → is_frames m.body ≡ false
    → Lies (length (taken before)) m.body_start m.body → Holds (length (taken before)) m before
    → Pulled m before (on.bytes (slice_range (taken before) r.start r.end))
bytes_pulled m before r left unframed lies x =
    let o : Outcome = on.bytes (slice_range (taken before) r.start r.end) in
    let s = step on.pull o in
    let runs = runs_of m.body in
    let some = left_some (given_bytes before) runs r left in
    let inside = left_within m.body_start (length (taken before)) (given_bytes before) runs r lies.runs left in
    let len = length-slice_range (taken before) r.start r.end (omega arith) inside.1 in
    let given : given_bytes (s ∷ before) ≡ given_bytes before + run_len r = given_bytes-more s before refl ∙ ap (λ n. given_bytes before + n) len in
    let given' : given_frames (s ∷ before) ≡ given_frames before = omega (arith, given_frames-more s before refl) in
    let place : pulled_to m (s ∷ before) ≡ r.end = pulled_at m before o (place_behind m.body_start (given_bytes (s ∷ before)) runs) refl refl
    ∙ ap (λ g. place_behind m.body_start g runs) given ∙ left_place m.body_start (given_bytes before) runs r left in
    let fits = left_len (given_bytes before) runs r left in
    record {
      holds = record {
        within = omega (arith, inside.1);
        before_next = λ next e.
            let upto = left_within m.body_start next (given_bytes before) runs r (lies.runs_next next e) left in omega (arith, upto.1);
        before_left = subst₂ (λ n g. IsBeforeLeft n g runs) (sym place) (sym given)
            (left_next m.body_start (length (taken before)) (given_bytes before) runs r lies.runs left);
        before_frames = λ framed. absurd (false≢true (sym unframed ∙ framed));
        bytes_fit = omega arith;
        frames_fit = omega (arith, x.frames_fit);
        pulls_fit = fit-more m s before refl (omega arith) x.pulls_fit;
      };
      passes = omega (arith, x.before_left r left);
    }

-- what is given passes the message up to its end: its trailers, or the end
end_pulled : (m : Message) (before : List Step) (o : Outcome) (place : ℕ) → head_of o ≡ None
    → pulled_place m (step on.pull o ∷ before) on.pull o ≡ next_start m.body → step_bytes o ≡ 0 → step_frames o ≡ 0
    → PullFits m (step on.pull o ∷ before) on.pull o → next_start m.body ≡ Some place → run_left (given_bytes before) (runs_of m.body) ≡ None
    → is_frames m.body ≡ false → Lies (length (taken before)) m.body_start m.body → Holds (length (taken before)) m before
    → Pulled m before o
end_pulled m before o place none passes bytes count fits next none_left unframed lies x =
    let s = step on.pull o in
    let at = pulled_at m before o place none (passes ∙ next) in
    let given : given_bytes (s ∷ before) ≡ given_bytes before = omega (arith, given_bytes-more s before none) in
    let given' : given_frames (s ∷ before) ≡ given_frames before = omega (arith, given_frames-more s before none) in
    let inside = lies.next place next in
    record {
      holds = record {
        within = omega (arith, inside.1);
        before_next = λ other e. let same : place ≡ other = same_Some place other (sym next ∙ e) in omega arith;
        before_left = λ r e. absurd (none-some r (sym none_left ∙ ap (λ g. run_left g (runs_of m.body)) (sym given) ∙ e));
        before_frames = λ framed. absurd (false≢true (sym unframed ∙ framed));
        bytes_fit = omega (arith, x.bytes_fit);
        frames_fit = omega (arith, x.frames_fit);
        pulls_fit = fit-more m s before none fits x.pulls_fit;
      };
      passes = omega (arith, x.before_next place next);
    }

-- a frame is given
frame_pulled : (m : Message) (before : List Step) (f : PlacedFrame) → slice_get (frames_of m.body) (given_frames before) ≡ Some f
    → next_start m.body ≡ None
    → is_frames m.body ≡ true → run_left (given_bytes before) (runs_of m.body) ≡ None → Lies (length (taken before)) m.body_start m.body
    → Holds (length (taken before)) m before → Pulled m before (on.frame f.frame)
frame_pulled m before f here unended framed none_left lies x =
    let o : Outcome = on.frame f.frame in
    let s = step on.pull o in
    let placed = frames_of m.body in
    let given : given_bytes (s ∷ before) ≡ given_bytes before = omega (arith, given_bytes-more s before refl) in
    let given' : given_frames (s ∷ before) ≡ suc (given_frames before) = omega (arith, given_frames-more s before refl) in
    let end = ap (λ g. frame_end m.body_start g placed) given' ∙ frame_end-at m.body_start (given_frames before) placed f here in
    let place : pulled_to m (s ∷ before) ≡ f.end = pulled_at m before o (frame_end m.body_start (given_frames (s ∷ before)) placed) refl refl ∙ end in
    let inside = frame_within m.body_start (length (taken before)) (given_frames before) placed f lies.frames here in
    let fits = slice_get_within placed (given_frames before) f here in
    record {
      holds = record {
        within = omega (arith, inside.1);
        before_next = λ next e. absurd (none-some next (sym unended ∙ e));
        before_left = λ r e. absurd (none-some r (sym none_left ∙ ap (λ g. run_left g (runs_of m.body)) (sym given) ∙ e));
        before_frames = λ _. omega arith;
        bytes_fit = omega (arith, x.bytes_fit);
        frames_fit = omega arith;
        pulls_fit = fit-more m s before refl (omega arith) x.pulls_fit;
      };
      passes = omega (arith, x.before_frames framed, frame_next m.body_start (length (taken before)) (given_frames before) placed f lies.frames here);
    }

-- a message by its parts
abbrev pub message : Reading → ℕ → Body → Message
message r place b = record { reading = r; body_start = place; body = b }

-- the trailers of an ended body, or its end
ended_pulled : (r : Reading) (place : ℕ) (runs : List Run) (end : ℕ) (trailers lines : List Header) (given : Bool) (before : List Step)
    → run_left (given_bytes before) runs ≡ None → Lies (length (taken before)) place (content runs (ended_at end trailers))
    → Holds (length (taken before)) (message r place (content runs (ended_at end trailers))) before
    → Pulled (message r place (content runs (ended_at end trailers))) before (ended_outcome given lines)
ended_pulled r place runs end trailers [] given before none_left lies x =
    end_pulled (message r place (content runs (ended_at end trailers))) before on.body_ended end refl refl refl refl refl refl none_left refl lies x
ended_pulled r place runs end trailers (line ∷ more) true before none_left lies x =
    end_pulled (message r place (content runs (ended_at end trailers))) before on.body_ended end refl refl refl refl refl refl none_left refl lies x
ended_pulled r place runs end trailers (line ∷ more) false before none_left lies x =
    end_pulled (message r place (content runs (ended_at end trailers))) before _ end refl refl refl refl refl refl none_left refl lies x

-- content, by how it stops, where all that is there was given
stop_pulled : (r : Reading) (place : ℕ) (runs : List Run) (stop : Stop) (given : Bool) (before : List Step)
    → run_left (given_bytes before) runs ≡ None
    → Lies (length (taken before)) place (content runs stop) → Holds (length (taken before)) (message r place (content runs stop)) before
    → Pulled (message r place (content runs stop)) before (stop_outcome given stop)
stop_pulled r place runs (ended_at end trailers) given before none_left lies x =
    ended_pulled r place runs end trailers trailers given before none_left lies x
stop_pulled r place runs broken given before none_left lies x = nothing_pulled (message r place (content runs broken)) before _ refl refl refl refl tt x
stop_pulled r place runs cut given before none_left lies x = nothing_pulled (message r place (content runs cut)) before _ refl refl refl refl tt x
stop_pulled r place runs still_open given before none_left lies x =
    pending_pulled (message r place (content runs still_open)) before refl none_left (λ _. refl) x

-- content, by the run in which the next byte lies
content_pulled : (r : Reading) (place : ℕ) (runs : List Run) (stop : Stop) (before : List Step) (left : Option Run)
    → run_left (given_bytes before) runs ≡ left
    → Lies (length (taken before)) place (content runs stop) → Holds (length (taken before)) (message r place (content runs stop)) before
    → Pulled (message r place (content runs stop)) before (run_outcome before stop left)
content_pulled r place runs stop before (Some q) e lies x = bytes_pulled (message r place (content runs stop)) before q e refl lies x
content_pulled r place runs stop before None e lies x = stop_pulled r place runs stop (gave_trailers before) before e lies x

-- frames, by the next one
frames_pulled : (r : Reading) (place : ℕ) (placed : List PlacedFrame) (fail : Option ProtocolError) (before : List Step) (next : Option PlacedFrame)
    → slice_get placed (given_frames before) ≡ next → has_chunks r ≡ false → Lies (length (taken before)) place (frames placed fail)
    → Holds (length (taken before)) (message r place (frames placed fail)) before
    → Pulled (message r place (frames placed fail)) before (frame_outcome fail next)
frames_pulled r place placed fail before (Some f) e plain lies x =
    frame_pulled (message r place (frames placed fail)) before f e refl refl (left_nothing (given_bytes before)) lies x
frames_pulled r place placed (Some error) before None e plain lies x =
    nothing_pulled (message r place (frames placed (Some error))) before _ refl refl refl refl tt x
frames_pulled r place placed None before None e plain lies x =
    pending_pulled (message r place (frames placed None)) before refl (left_nothing (given_bytes before)) (λ chunks. absurd (false≢true (sym plain ∙ chunks))) x

-- frames are of no message in chunks
plain_frames : (r : Reading) → (has_chunks r ≡ true → true ≡ false) → has_chunks r ≡ false
plain_frames r unframed =
    elim (cases_Bool (has_chunks r)) [
      | inl chunks ↦ absurd (true≢false (unframed chunks))
      | inr plain ↦ plain
    ]

-- any body
pub body_pulled : (r : Reading) (place : ℕ) (b : Body) (before : List Step) → (has_chunks r ≡ true → is_frames b ≡ false)
    → Lies (length (taken before)) place b
    → Holds (length (taken before)) (message r place b) before → Pulled (message r place b) before (body_outcome before b)
body_pulled r place no_content before unframed lies x =
    pending_pulled (message r place no_content) before refl (left_nothing (given_bytes before)) (λ _. refl) x
body_pulled r place (content runs stop) before unframed lies x =
    content_pulled r place runs stop before (run_left (given_bytes before) runs) refl lies x
body_pulled r place (frames placed fail) before unframed lies x =
    frames_pulled r place placed fail before (slice_get placed (given_frames before)) refl (plain_frames r unframed) lies x
