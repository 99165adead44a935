-- The body bytes stand in order and apart.
use Rattle.std.proofs.Common.{◌≡◌, ℕ, ◌+◌, ◌-◌, ◌<◌, ◌≤◌, Bool, true, false, List, [], ◌∷◌, ◌++◌, length, nat_lt, Option, Some, None, refl, sym, subst, arith, length-append}
use Rattle.std.specs.Prelude.{if◌then◌else◌}
use Rattle.std.specs.Fmt.{digits}
use Rattle.std.proofs.lemmas.Bool.Decides.{nat_tests}
use Rattle.httparse.specs.Ascii.{crlf_bytes}
use Rattle.model_h1.specs.Runs.{Run}
use Rattle.model_h1.specs.Parse.{run_between}
use Rattle.model_h1.specs.Request.{Head}
use Rattle.model_h1.specs.Answer.{Shape, shape_none, shape_length, shape_chunked, shape_raw, asked_of, shape_of}
use Rattle.model_h1.specs.AnswerText.{piece_text}
use Rattle.model_h1.specs.Setting.{Setting}
use Rattle.model_h1.specs.Event.{Event, Outcome}
use Rattle.model_h1.specs.Event as on
use Rattle.model_h1.specs.Sums.{Step, Answered, request, answered, answer_len, written}
use Rattle.model_h1.specs.Text.{text, step_text, chunk_sent}
use Rattle.model_state.specs.Runs.{runs_behind, AreInOrder}
use Rattle.model_state.specs.Marks.{framing_len, body_part, piece_run, chunk_run, step_runs, body_runs, buffered_runs}

-- ---- runs

pub wider : (p q bound : ℕ) (rs : List Run) → bound ≤ q → AreInOrder p bound rs → AreInOrder p q rs
wider p q bound [] more are = omega arith
wider p q bound (r ∷ rs) more are = (are.0, are.1, wider r.end q bound rs more are.2)

pub in_order-append : (p bound q : ℕ) (rs more : List Run) → AreInOrder p bound rs → AreInOrder bound q more → AreInOrder p q (rs ++ more)
in_order-append p bound q [] more are next = lower p bound q more are next
  where
    lower : (p bound q : ℕ) (more : List Run) → p ≤ bound → AreInOrder bound q more → AreInOrder p q more
    lower p bound q [] less are = omega arith
    lower p bound q (r ∷ rs) less are = (omega (arith, are.0), are.1, are.2)
in_order-append p bound q (r ∷ rs) more are next = (are.0, are.1, in_order-append r.end bound q rs more are.2 next)

between_in_order : (p start len bound : ℕ) → p ≤ start → start + len ≤ bound → (t : Bool) → nat_lt start (start + len) ≡ t → AreInOrder p bound (run_between start (start + len))
between_in_order p start len bound low high true some = rw some (low, grind (arith, nat_tests), high)
between_in_order p start len bound low high false none = rw none (omega arith)

-- ---- a piece's bytes stand in what of it goes out

piece_fits : (shape : Shape) (before : ℕ) (bytes : List ℕ) → 0 < length (body_part shape before bytes) → framing_len shape bytes + length (body_part shape before bytes) ≤ length (piece_text shape before bytes)
piece_fits shape_none before bytes some = absurd (omega arith)
piece_fits (shape_length n) before bytes some = omega arith
piece_fits shape_raw before bytes some = omega arith
piece_fits shape_chunked before [] some = absurd (omega arith)
piece_fits shape_chunked before (b ∷ bytes) some =
    let line = digits 16 true (length (b ∷ bytes)) in
    omega (
      arith,
      length-append line (crlf_bytes ++ (b ∷ bytes ++ crlf_bytes)),
      length-append line crlf_bytes,
      length-append crlf_bytes (b ∷ bytes ++ crlf_bytes),
      length-append (b ∷ bytes) crlf_bytes,
    )

piece_in_order : (place : ℕ) (shape : Shape) (before : ℕ) (bytes : List ℕ) → AreInOrder place (place + length (piece_text shape before bytes)) (piece_run place shape before bytes)
piece_in_order place shape before bytes = by_test (nat_lt start (start + len)) refl
  where
    start : ℕ
    start = place + framing_len shape bytes

    len : ℕ
    len = length (body_part shape before bytes)

    by_test : (t : Bool) → nat_lt start (start + len) ≡ t → AreInOrder place (place + length (piece_text shape before bytes)) (run_between start (start + len))
    by_test true some =
        let has : 0 < len = grind (arith, nat_tests) in
        between_in_order place start len (place + length (piece_text shape before bytes)) (omega arith) (omega (arith, piece_fits shape before bytes has)) true some
    by_test false none = rw none (omega arith)

head_in_order : (place : ℕ) (head : Bool) (shape : Shape) (before : ℕ) (bytes : List ℕ)
    → AreInOrder place (place + length (if head then [] else piece_text shape before bytes)) (if head then [] else piece_run place shape before bytes)
head_in_order place true shape before bytes = omega arith
head_in_order place false shape before bytes = piece_in_order place shape before bytes

pub chunk_in_order : (place before : ℕ) (bytes : List ℕ) (h : Option Head) (a : Option Answered) → AreInOrder place (place + length (chunk_sent before bytes h a)) (chunk_run place before bytes h a)
chunk_in_order place before bytes (Some h) (Some a) = head_in_order place (asked_of h).is_head (shape_of (asked_of h) a.head a.size) before bytes
chunk_in_order place before bytes (Some h) None = omega arith
chunk_in_order place before bytes None a = omega arith

-- ---- of a trace

step_in_order : (setting : Setting) (before : List Step) (event : Event) (outcome : Outcome) → AreInOrder (length (text setting before))
    (length (text setting before) + length (step_text setting before event outcome)) (step_runs setting before event outcome)
unfolding step_runs step_text
step_in_order setting before (on.chunk bytes) on.done = chunk_in_order (length (text setting before)) (answer_len before) bytes (request before) (answered before)
step_in_order setting before (on.chunk bytes) (on.took n) = omega arith
step_in_order setting before (on.chunk bytes) (on.head h) = omega arith
step_in_order setting before (on.chunk bytes) (on.bytes b) = omega arith
step_in_order setting before (on.chunk bytes) (on.trailers l) = omega arith
step_in_order setting before (on.chunk bytes) on.body_ended = omega arith
step_in_order setting before (on.chunk bytes) (on.frame f) = omega arith
step_in_order setting before (on.chunk bytes) on.pending = omega arith
step_in_order setting before (on.chunk bytes) (on.closed e) = omega arith
step_in_order setting before (on.chunk bytes) (on.fault f) = omega arith
step_in_order setting before (on.chunk bytes) (on.broken_by f) = omega arith
step_in_order setting before (on.chunk bytes) (on.protocol e) = omega arith
step_in_order setting before (on.chunk bytes) (on.refused e) = omega arith
step_in_order setting before (on.chunk bytes) (on.gave b) = omega arith
step_in_order setting before (on.chunk bytes) (on.expired e) = omega arith
step_in_order setting before (on.chunk bytes) on.abandoned = omega arith
step_in_order setting before (on.read b) outcome = omega arith
step_in_order setting before on.eof outcome = omega arith
step_in_order setting before on.next outcome = omega arith
step_in_order setting before on.pull outcome = omega arith
step_in_order setting before on.drop_body outcome = omega arith
step_in_order setting before on.send_continue outcome = omega arith
step_in_order setting before (on.answer head size) outcome = omega arith
step_in_order setting before on.body_end outcome = omega arith
step_in_order setting before on.body_error outcome = omega arith
step_in_order setting before (on.write n) outcome = omega arith
step_in_order setting before (on.tick ms) outcome = omega arith
step_in_order setting before on.drain outcome = omega arith
step_in_order setting before (on.accept limit) outcome = omega arith
step_in_order setting before (on.send m) outcome = omega arith

-- the body bytes stand in order and apart in the text
pub runs_in_order : (setting : Setting) (trace : List Step) → AreInOrder 0 (length (text setting trace)) (body_runs setting trace)
unfolding text body_runs
runs_in_order setting [] = omega arith
runs_in_order setting (s ∷ before) =
    let size : length (text setting before) + length (step_text setting before s.event s.outcome) ≡ length (text setting before ++ step_text setting before s.event s.outcome) =
    sym (length-append (text setting before) (step_text setting before s.event s.outcome)) in
    in_order-append 0 (length (text setting before)) (length (text setting before ++ step_text setting before s.event s.outcome))
    (body_runs setting before) (step_runs setting before s.event s.outcome) (runs_in_order setting before)
    (subst (λ q. AreInOrder (length (text setting before)) q (step_runs setting before s.event s.outcome)) size (step_in_order setting before s.event s.outcome))

-- ---- those that wait

behind_tested : (n p q : ℕ) (r : Run) (rs : List Run) (t : Bool) → nat_lt n r.end ≡ t → AreInOrder p q (r ∷ rs)
    → AreInOrder (r.end - n) (q - n) (runs_behind n rs) → AreInOrder (p - n) (q - n) (runs_behind n (r ∷ rs))
unfolding runs_behind
behind_tested n p q r rs true some are rest = rw some (omega (arith, are.0), grind (arith, nat_tests, are.1), rest)
behind_tested n p q r rs false none are rest = rw none (sooner (runs_behind n rs) rest)
  where
    sooner : (rs : List Run) → AreInOrder (r.end - n) (q - n) rs → AreInOrder (p - n) (q - n) rs
    sooner [] are' = omega (arith, are.0, are.1)
    sooner (x ∷ xs) are' = (omega (arith, are'.0, are.0, are.1), are'.1, are'.2)

pub behind_in_order : (n p q : ℕ) (rs : List Run) → AreInOrder p q rs → AreInOrder (p - n) (q - n) (runs_behind n rs)
unfolding runs_behind
behind_in_order n p q [] are = omega (arith, are)
behind_in_order n p q (r ∷ rs) are = behind_tested n p q r rs (nat_lt n r.end) refl are (behind_in_order n r.end q rs are.2)

pub waiting_in_order : (setting : Setting) (trace : List Step) → AreInOrder 0 (length (text setting trace) - length (written trace)) (buffered_runs setting trace)
waiting_in_order setting trace =
    let n = length (written trace) in
    let zero : 0 - n ≡ 0 = omega arith in
    subst (λ p. AreInOrder p (length (text setting trace) - n) (buffered_runs setting trace)) zero
    (behind_in_order n 0 (length (text setting trace)) (body_runs setting trace) (runs_in_order setting trace))
