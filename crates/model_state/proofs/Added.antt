-- What a piece of a body adds to the runs of the bytes that wait.
use Rattle.std.proofs.Common.{◌≡◌, ℕ, ◌+◌, ◌-◌, Bool, true, false, List, [], length, refl, sym, ap, ◌∙◌, inl, inr, arith, length-append}
use Rattle.std.specs.Prelude.{IsTrue, is_some, if◌then◌else◌}
use Rattle.std.proofs.lemmas.Bool.{and_parts, false≢true}
use Rattle.model_h1.specs.Parse.{run_between}
use Rattle.model_h1.specs.Setting.{Setting}
use Rattle.model_h1.specs.Answer.{Shape, shape_none, shape_length, shape_chunked, shape_raw, asked_of}
use Rattle.model_h1.specs.Event as on
use Rattle.model_h1.specs.Sums.{Step, request, answered as answer_of, is_answering, answer_len, written}
use Rattle.model_h1.specs.Past.{ParsedStep, steps}
use Rattle.model_h1.specs.Text.{text, buffered}
use Rattle.model_h1.specs.Allowed.{is_allowed, has_room}
use Rattle.model_h1.proofs.PastLemmas.{Legal}
use Rattle.model_h1.proofs.StepLemmas.{allowed_open}
use Rattle.model_h1.proofs.WrittenLemmas.{written_buffered}
use Rattle.model_state.specs.Reply.{stated}
use Rattle.model_state.specs.KeptOf.{kept_of}
use Rattle.model_state.proofs.Current.{current_of}
use Rattle.model_state.proofs.ExchangeChanges.{going_out, shape_by, kept_sending}
use Rattle.model_state.proofs.Parts.{none_answered}
use Rattle.model_state.proofs.StepSums.{traced}
use Rattle.model_state.specs.Runs.{runs_behind}
use Rattle.model_state.specs.Marks.{framing_len, body_part, piece_run, chunk_run, step_runs}
use Rattle.model_state.specs.After.{part_sent, added}
use Rattle.model_state.proofs.Behind.{run_between_behind}

-- a piece goes out in both alike
part_same : (shape : Shape) (len : ℕ) (bytes : List ℕ) → body_part shape len bytes ≡ part_sent shape (stated shape - len) bytes
part_same shape_none len bytes = refl
part_same shape_chunked len bytes = refl
part_same shape_raw len bytes = refl
part_same (shape_length n) len bytes = refl

-- its run, seen from the first byte that waits
run_same : (w all many : ℕ) (shape : Shape) (len : ℕ) (bytes : List ℕ) → all ≡ w + many
    → runs_behind w (piece_run all shape len bytes)
    ≡ run_between (many + framing_len shape bytes) (many + framing_len shape bytes + length (part_sent shape (stated shape - len) bytes))
run_same w all many shape len bytes sum =
    let start : all + framing_len shape bytes - w ≡ many + framing_len shape bytes = omega (arith, sum) in
    run_between_behind w (all + framing_len shape bytes) (length (body_part shape len bytes)) (omega (arith, sum))
    ∙ (λ i. run_between (start i) (start i + length (part_same shape len bytes i)))

-- of an answer to a request
run_or_none : (w all many : ℕ) (head : Bool) (shape : Shape) (len : ℕ) (bytes : List ℕ) → all ≡ w + many
    → runs_behind w (if head then [] else piece_run all shape len bytes)
    ≡ (if head then [] else run_between (many + framing_len shape bytes) (many + framing_len shape bytes + length (part_sent shape (stated shape - len) bytes)))
unfolding runs_behind
run_or_none w all many true shape len bytes sum = refl
run_or_none w all many false shape len bytes sum = run_same w all many shape len bytes sum

step_is : (setting : Setting) (before : List Step) (bytes : List ℕ)
    → step_runs setting before (on.chunk bytes) on.done ≡ chunk_run (length (text setting before)) (answer_len before) bytes (request before) (answer_of before)
unfolding step_runs
step_is setting before bytes = refl

-- behind a past where a piece is allowed
pub added_is : (setting : Setting) (past : List ParsedStep) (bytes : List ℕ) → Legal setting past → IsTrue (is_allowed setting past (on.chunk bytes))
    → runs_behind (length (written (steps past))) (step_runs setting (steps past) (on.chunk bytes) on.done) ≡ added bytes (kept_of setting past)
added_is setting past bytes l allowed =
    let t = steps past in
    let ok = (and_parts (is_answering t) (has_room setting t) (allowed_open setting past (on.chunk bytes) refl allowed)).0 in
    let out = going_out t ok in
    elim (current_of setting past l) [
      | inl none ↦ absurd (false≢true (sym (none_answered setting past l none) ∙ ap is_some out.0.1))
      | inr (m, h, c) ↦
          let a = out.0.0 in
          let shape = shape_by h a in
          let w = length (written t) in
          let all = length (text setting t) in
          let many = length (buffered setting t) in
          let sum : all ≡ w + many = ap length (sym (written_buffered setting t (traced setting past l))) ∙ length-append (written t) (buffered setting t) in
          let request_is = c.request_is in
          let answer_is = out.0.1 in
          let run : step_runs setting t (on.chunk bytes) on.done ≡ (if (asked_of h).is_head then [] else piece_run all shape (answer_len t) bytes) =
          step_is setting t bytes ∙ (λ i. chunk_run all (answer_len t) bytes (request_is i) (answer_is i)) in
          ap (runs_behind w) run ∙ run_or_none w all many (asked_of h).is_head shape (answer_len t) bytes sum
          ∙ sym (ap (added bytes) (kept_sending setting past m h a c out.0.1 out.1))
    ]
