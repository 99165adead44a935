-- What was written, and what is to be written, is the text.
use Rattle.std.proofs.Common.{◌≡◌, ℕ, Bool, true, false, List, [], ◌∷◌, ◌++◌, length, take, drop, Option, Some, None, refl, sym, ap, ◌∙◌, subst, append_assoc, append-nil}
use Rattle.std.specs.Prelude.{unwrap_or, option_map, option_and_then, slice_get, ◌==◌}
use Rattle.std.proofs.lemmas.Bool.{cond_both}
use Rattle.std.proofs.lemmas.List.{take-append-drop, drop_at}
use Rattle.model_h1.specs.Setting.{Setting}
use Rattle.model_h1.specs.Request.{Header, too_large, Reading, head_is, faulty}
use Rattle.model_h1.specs.Frame.{ProtocolError}
use Rattle.model_h1.specs.FrameText.{PlacedFrame, send_error}
use Rattle.model_h1.specs.Runs.{Run}
use Rattle.model_h1.specs.Parse.{Message, Body, no_content, content, frames, Stop, ended_at, still_open, broken, cut}
use Rattle.model_h1.specs.Handshake.{HandshakeError, handshake_error}
use Rattle.model_h1.specs.End as ends
use Rattle.model_h1.specs.End.{End}
use Rattle.model_h1.specs.Event.{Event}
use Rattle.model_h1.specs.Event as on
use Rattle.model_h1.specs.Sums.{Step, step_written, written, request, is_sending}
use Rattle.model_h1.specs.Past.{ParsedStep, steps, current, upcoming, given_bytes, given_frames, held}
use Rattle.model_h1.specs.Handed.{Begins}
use Rattle.model_h1.specs.Text.{step_text, text, buffered}
use Rattle.model_h1.specs.Closing.{closing}
use Rattle.model_h1.specs.OutcomeTable.{head_outcome, upcoming_outcome, next_outcome, run_left, gave_trailers, ended_outcome, run_outcome, frame_outcome, body_outcome, pull_outcome, tick_outcome, is_abandoned, is_slow, is_idle, outcome_of}
use Rattle.model_h1.specs.Trace.{IsTrace}

-- ---- what one more step writes

-- the bytes handed out for writing
written-nil : written [] ≡ []
unfolding written
written-nil = refl

pub written-cons : (s : Step) (before : List Step) → written (s ∷ before) ≡ written before ++ step_written s.outcome
unfolding written
written-cons s before = refl

-- the text, of one more step
pub text-cons : (setting : Setting) (s : Step) (before : List Step)
    → text setting (s ∷ before) ≡ text setting before ++ step_text setting before s.event s.outcome
unfolding text
text-cons setting s before = refl

-- Write adds nothing to the text
write_adds_none : (setting : Setting) (before : List Step) (n : ℕ) (bytes : List ℕ) → step_text setting before (on.write n) (on.gave bytes) ≡ []
unfolding step_text
write_adds_none setting before n bytes = refl

-- ---- only Write hands out bytes for writing

-- Next
head_writes_none : (r : Reading) → step_written (head_outcome r) ≡ []
head_writes_none (head_is h) = refl
head_writes_none (faulty fault) = refl

-- nor does a call for the message that is to come
upcoming_writes_none : (setting : Setting) (past : List ParsedStep) (m : Option Message) → step_written (upcoming_outcome setting past m) ≡ []
upcoming_writes_none setting past (Some m) = head_writes_none m.reading
upcoming_writes_none setting past None =
    cond_both (held past == setting.hold_size) (on.fault too_large) on.pending (λ o. step_written o ≡ []) (λ _. refl) (λ _. refl)

-- nor any call for the next head
next_writes_none : (setting : Setting) (past : List ParsedStep) (end : Option End) → step_written (next_outcome setting past end) ≡ []
next_writes_none setting past (Some end) = refl
next_writes_none setting past None = upcoming_writes_none setting past (upcoming past)

-- Pull
ended_writes_none : (given : Bool) (lines : List Header) → step_written (ended_outcome given lines) ≡ []
ended_writes_none given [] = refl
ended_writes_none true (line ∷ more) = refl
ended_writes_none false (line ∷ more) = refl

-- nor what a pull gives of runs
run_writes_none : (trace : List Step) (stop : Stop) (left : Option Run) → step_written (run_outcome trace stop left) ≡ []
run_writes_none trace stop (Some r) = refl
run_writes_none trace (ended_at place trailers) None = ended_writes_none (gave_trailers trace) trailers
run_writes_none trace still_open None = refl
run_writes_none trace broken None = refl
run_writes_none trace cut None = refl

-- of frames
frame_writes_none : (fail : Option ProtocolError) (next : Option PlacedFrame) → step_written (frame_outcome fail next) ≡ []
frame_writes_none fail (Some f) = refl
frame_writes_none (Some e) None = refl
frame_writes_none None None = refl

-- of any body
body_writes_none : (trace : List Step) (b : Body) → step_written (body_outcome trace b) ≡ []
body_writes_none trace no_content = refl
body_writes_none trace (content runs stop) = run_writes_none trace stop (run_left (given_bytes trace) runs)
body_writes_none trace (frames placed fail) = frame_writes_none fail (slice_get placed (given_frames trace))

-- so that a pull hands out nothing for writing
pull_writes_none : (trace : List Step) (m : Option Message) → step_written (pull_outcome trace m) ≡ []
pull_writes_none trace None = refl
pull_writes_none trace (Some m) = body_writes_none trace m.body

-- Tick
tick_writes_none : (setting : Setting) (past : List ParsedStep) (end : Option End) (first ms : ℕ)
    → step_written (tick_outcome setting past end first ms) ≡ []
tick_writes_none setting past (Some end) first ms =
    cond_both (is_abandoned setting past first ms) on.abandoned on.done (λ o. step_written o ≡ []) (λ _. refl) (λ _. refl)
tick_writes_none setting past None first ms =
    cond_both (is_slow setting past first ms) (on.expired ends.slow_request) _ (λ o. step_written o ≡ []) (λ _. refl)
    (λ _. cond_both (is_idle setting past first ms) (on.expired ends.keep_alive_expired) on.done (λ o. step_written o ≡ []) (λ _. refl) (λ _. refl))

-- Accept and Send
refusal_writes_none : (e : Option HandshakeError) → step_written (unwrap_or (option_map on.refused e) on.done) ≡ []
refusal_writes_none (Some e) = refl
refusal_writes_none None = refl

-- nor a message that is sent
send_writes_none : (e : Option ProtocolError) → step_written (unwrap_or (option_map on.protocol e) on.done) ≡ []
send_writes_none (Some e) = refl
send_writes_none None = refl

-- ---- the text begins with what was written

-- a step that writes nothing
silent_begins : (w t more added : List ℕ) → more ≡ [] → Begins w t → Begins (w ++ more) (t ++ added)
silent_begins w t more added none x =
    (x.0 ++ added, ap (λ l. l ++ added) x.1 ∙ append_assoc w x.0 added ∙ ap (λ l. l ++ (x.0 ++ added)) (sym (append-nil w) ∙ ap (λ l. w ++ l) (sym none)))

-- bytes of the text that weren't written yet are written
write_begins : (w t : List ℕ) (n : ℕ) → Begins w t → Begins (w ++ take n (drop (length w) t)) t
write_begins w t n x =
    let left : drop (length w) t ≡ x.0 = ap (drop (length w)) x.1 ∙ drop_at w x.0 (length w) refl in (
      drop n x.0,
      x.1 ∙ ap (λ l. w ++ l) (sym (take-append-drop n x.0)) ∙ sym (append_assoc w (take n x.0) (drop n x.0))
          ∙ ap (λ l. (w ++ take n l) ++ drop n x.0) (sym left),
    )

-- each event, behind a past
event_begins : (setting : Setting) (past : List ParsedStep) (e : Event) → Begins (written (steps past)) (text setting (steps past))
    → Begins (written (steps past) ++ step_written (outcome_of setting past e)) (text setting (steps past) ++ step_text setting (steps past) e (outcome_of setting past e))
unfolding outcome_of
event_begins setting past (on.write n) x =
    let t = steps past in
    let more = take n (buffered setting t) in
    subst (Begins (written t ++ more)) (sym (append-nil (text setting t)) ∙ ap (λ l. text setting t ++ l) (sym (write_adds_none setting t n more))) (write_begins (written t) (text setting t) n x)
event_begins setting past on.next x = silent_begins _ _ _ _ (next_writes_none setting past (closing setting past)) x
event_begins setting past on.pull x = silent_begins _ _ _ _ (pull_writes_none (steps past) (current past)) x
event_begins setting past (on.tick ms) x = silent_begins _ _ _ _ (tick_writes_none setting past (closing setting past) _ ms) x
event_begins setting past (on.accept limit) x = silent_begins _ _ _ _ (refusal_writes_none (option_and_then handshake_error (request (steps past)))) x
event_begins setting past (on.send m) x = silent_begins _ _ _ _ (send_writes_none (send_error (is_sending (steps past)) m)) x
event_begins setting past _ x = silent_begins _ _ _ _ refl x

-- each trace
written_begins : (setting : Setting) (trace : List Step) → IsTrace setting trace → Begins (written trace) (text setting trace)
written_begins setting [] x = subst (λ w. Begins w (text setting [])) (sym written-nil) (text setting [], refl)
written_begins setting (s ∷ before) x =
    let past = x.1.0 in
    let same = x.1.1.same in
    let outcome = x.1.2 in
    let old = subst (λ t. Begins (written t) (text setting t)) (sym same) (written_begins setting before x.2) in
    let new = event_begins setting past s.event old in
    let new' = subst (λ o. Begins (written (steps past) ++ step_written o) (text setting (steps past) ++ step_text setting (steps past) s.event o)) (sym outcome) new in
    let here = subst (λ t. Begins (written t ++ step_written s.outcome) (text setting t ++ step_text setting t s.event s.outcome)) same new' in
    subst (Begins (written (s ∷ before))) (sym (text-cons setting s before))
    (subst (λ w. Begins w (text setting before ++ step_text setting before s.event s.outcome)) (sym (written-cons s before)) here)

-- what was written and what is to be written
pub written_buffered : (setting : Setting) (trace : List Step) → IsTrace setting trace → written trace ++ buffered setting trace ≡ text setting trace
written_buffered setting trace x =
    let b = written_begins setting trace x in
    let left : buffered setting trace ≡ b.0 = ap (drop (length (written trace))) b.1 ∙ drop_at (written trace) b.0 (length (written trace)) refl in
    ap (λ l. written trace ++ l) left ∙ sym b.1
