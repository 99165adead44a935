-- What a pull gives of a body in chunks, in each case of what comes next.
use Rattle.std.proofs.Common.{◌≡◌, ℕ, ◌+◌, Bool, true, false, List, [], ◌∷◌, ◌++◌, length, drop, map, Some, None, refl, sym, ap, ◌∙◌, subst, arith, append-nil, length-append}
use Rattle.std.specs.Prelude.{slice_range, unwrap_or}
use Rattle.std.specs.List.{AllByRecursion}
use Rattle.std.proofs.lemmas.List.{drop_all}
use Rattle.model_h1.specs.ChunkedText.{Trailer, IsTrailer, trailer_text, section_text}
use Rattle.model_h1.specs.Runs.{Run}
use Rattle.model_h1.specs.Chunked.{Chunked, not_chunked, IsChunked}
use Rattle.model_h1.specs.Place.{Place, start, after}
use Rattle.model_h1.specs.Reading as readings
use Rattle.model_h1.specs.Reading.{read}
use Rattle.model_h1.specs.TakeNext.{Next, chunk, waits, ended, breaks}
use Rattle.model_h1.proofs.ReadSteps.{read-nil}
use Rattle.model_h1.specs.Request.{Header, Reading}
use Rattle.model_h1.specs.Parse.{Input, Message, content, open_or_cut, shifted, trailer_header, chunked_stop, next_start}
use Rattle.model_h1.specs.Event.{BodyFault, corrupted, incomplete}
use Rattle.model_h1.specs.Event as on
use Rattle.model_h1.specs.Sums.{Step, step_written, taken, has_ended}
use Rattle.model_h1.specs.Past.{given_bytes, has_chunks, pulled_place, pulled_to}
use Rattle.model_h1.specs.Closing.{told_end}
use Rattle.model_h1.specs.Allowed.{is_over_by}
use Rattle.model_h1.specs.OutcomeTable.{run_left, gave_trailers, ended_outcome, stop_outcome, pull_outcome}
use Rattle.model_h1.proofs.StepLemmas.{step}
use Rattle.model_state.specs.Kept.{Rest, no_rest, chunks_rest}
use Rattle.model_state.specs.Pull.{Pulled, gives as giving, finishes, EndsWith, IsPullOfChunks, IsPull}
use Rattle.model_state.specs.KeptOf.{is_passed, tells_done}
use Rattle.model_state.proofs.ChunkStops.{IsWholeTaken}
use Rattle.model_state.proofs.PassedText.{part_all}
use Rattle.model_state.proofs.ChunkGives.{IsGiven, IsWaiting, next_of}
use Rattle.model_state.proofs.ChunkOutcomes.{outcome_given, outcome_waits, outcome_ended, outcome_breaks, place_given, place_pending}
use Rattle.model_state.proofs.ChunkRests.{of_chunks, NotBehind, not_done_unpassed, unfinished_unpassed, whole_passed, behind_whole, rest_upto, rest_passed, rest_left}

-- What a pull gives of a message of which this is left, and what it passes.
pub record Fits (m : Message) (trace : List Step) (rest : Rest) : Type 0 where
  pub pulled : Pulled
  pub outcome : pull_outcome trace (Some m) ≡ pulled.outcome
  pub pulls : IsPull (has_ended trace) rest (drop (pulled_to m trace) (taken trace)) pulled
  pub upto : ℕ
  pub passes : unwrap_or (pulled_place m (step on.pull pulled.outcome ∷ trace) on.pull pulled.outcome) (pulled_to m trace) ≡ upto
  pub rest_is : NotBehind upto m → pulled.rest ≡ rest_upto m upto (taken trace)
  pub unread : pulled.unread ≡ drop upto (taken trace)
  pub done : pulled.is_done ≡ tells_done on.pull pulled.outcome
  pub failed : pulled.failed ≡ told_end pulled.outcome
  pub written : step_written pulled.outcome ≡ []
  pub over : is_over_by pulled.outcome ≡ false

-- the text that is passed of a message
abbrev pub text_of : Message → List Step → List ℕ
text_of m trace = slice_range (taken trace) m.body_start (pulled_to m trace)

-- what is left of one that isn't passed
abbrev pub left_of : Message → List Step → Rest
left_of m trace = chunks_rest (after start (text_of m trace)) (read start (text_of m trace)).trailers

-- what comes next in it
abbrev pub coming_of : Message → List Step → Next
coming_of m trace = (next_of m.body_start (pulled_to m trace) (taken trace)).next

-- the text of trailer lines in front of it
abbrev pub lines_of : Message → List Step → List ℕ
lines_of m trace = (next_of m.body_start (pulled_to m trace) (taken trace)).trailers

-- what a pull gives is told by what comes next
pulls_next : (m : Message) (trace : List Step) (next : Next) (is_ended : Bool) (p : Pulled) → coming_of m trace ≡ next → has_ended trace ≡ is_ended
    → IsPullOfChunks is_ended (after start (text_of m trace)) (read start (text_of m trace)).trailers
    (drop (pulled_to m trace) (taken trace)) next (lines_of m trace) p
    → IsPull (has_ended trace) (left_of m trace) (drop (pulled_to m trace) (taken trace)) p
pulls_next m trace next is_ended p e f x =
    let bytes = drop (pulled_to m trace) (taken trace) in
    let at = after start (text_of m trace) in
    let section = (read start (text_of m trace)).trailers in
    let here = subst (λ b. IsPullOfChunks b at section bytes next (lines_of m trace) p) (sym f) x in
    subst (λ n. IsPullOfChunks (has_ended trace) at section bytes n (lines_of m trace) p) (sym e) here

-- ---- bytes

-- what is given is the rest of the run
pub fits_chunk : (r : Reading) (place : ℕ) (runs : List Run) (i : Input) (a : Chunked) (trace : List Step) (given : List ℕ)
    (next : Place) (behind : List ℕ)
    → IsChunked (drop place (taken trace)) a runs → coming_of (of_chunks r place runs i a) trace ≡ chunk given next behind
    → IsGiven place (pulled_to (of_chunks r place runs i a) trace) (taken trace) (lines_of (of_chunks r place runs i a) trace)
    (run_left (given_bytes trace) (shifted place runs)) given next behind
    → Fits (of_chunks r place runs i a) trace (left_of (of_chunks r place runs i a) trace)
fits_chunk r place runs i a trace given next behind x e g =
    let m = of_chunks r place runs i a in
    let bytes = taken trace in
    let upto = pulled_to m trace in
    let section = (read start (text_of m trace)).trailers in
    let text = lines_of m trace in
    let left = run_left (given_bytes trace) (shifted place runs) in
    let lines : (read start (slice_range bytes place (upto + g.size))).trailers ≡ section ++ text =
    ap (λ (q : readings.Reading). q.trailers) g.reads ∙ ap (λ l. section ++ l) (append-nil text) in
    record {
      pulled = giving (on.bytes given) (chunks_rest next (section ++ text)) behind;
      outcome = outcome_given trace (chunked_stop i place a) place upto text left given next behind g;
      pulls = pulls_next m trace (chunk given next behind) (has_ended trace) _ e refl refl;
      upto = upto + g.size;
      passes = place_given r place runs (chunked_stop i place a) trace text given next behind g;
      rest_is = λ before.
          let unpassed = not_done_unpassed r place runs i bytes a (upto + g.size) x before (λ d. g.lives.not_done (sym g.next_is ∙ d)) in
          (λ j. chunks_rest (sym g.next_is j) (sym lines j)) ∙ sym (rest_left m (upto + g.size) bytes unpassed);
      unread = g.behind_is;
      done = refl;
      failed = refl;
      written = refl;
      over = refl;
    }

-- ---- a fault

-- a fault leaves all
pub fits_fault : (r : Reading) (place : ℕ) (runs : List Run) (i : Input) (a : Chunked) (trace : List Step) (fault : BodyFault)
    → is_passed (pulled_to (of_chunks r place runs i a) trace) (of_chunks r place runs i a) ≡ false
    → pull_outcome trace (Some (of_chunks r place runs i a)) ≡ on.broken_by fault
    → IsPull (has_ended trace) (left_of (of_chunks r place runs i a) trace) (drop (pulled_to (of_chunks r place runs i a) trace) (taken trace))
    (finishes (on.broken_by fault) (left_of (of_chunks r place runs i a) trace) (drop (pulled_to (of_chunks r place runs i a) trace) (taken trace)))
    → Fits (of_chunks r place runs i a) trace (left_of (of_chunks r place runs i a) trace)
fits_fault r place runs i a trace fault unpassed e x =
    let m = of_chunks r place runs i a in
    let upto = pulled_to m trace in
    record {
      pulled = finishes (on.broken_by fault) (left_of m trace) (drop upto (taken trace));
      outcome = e;
      pulls = x;
      upto = upto;
      passes = refl;
      rest_is = λ _. sym (rest_left m upto (taken trace) unpassed);
      unread = refl;
      done = refl;
      failed = refl;
      written = refl;
      over = refl;
    }

-- the body is broken
pub fits_breaks : (r : Reading) (place : ℕ) (runs : List Run) (i : Input) (a : Chunked) (trace : List Step)
    → is_passed (pulled_to (of_chunks r place runs i a) trace) (of_chunks r place runs i a) ≡ false
    → coming_of (of_chunks r place runs i a) trace ≡ breaks → run_left (given_bytes trace) (shifted place runs) ≡ None → a ≡ not_chunked
    → Fits (of_chunks r place runs i a) trace (left_of (of_chunks r place runs i a) trace)
fits_breaks r place runs i a trace unpassed e none_left kind =
    let m = of_chunks r place runs i a in
    fits_fault r place runs i a trace corrupted unpassed
    (outcome_breaks trace i place a (run_left (given_bytes trace) (shifted place runs)) none_left kind)
    (pulls_next m trace breaks (has_ended trace) _ e refl refl)

-- ---- nothing comes

-- by whether the input has ended
pub fits_wait : (r : Reading) (place : ℕ) (runs : List Run) (i : Input) (a : Chunked) (trace : List Step) (next : Place) (is_ended : Bool)
    → has_chunks r ≡ true → i.ended ≡ is_ended → has_ended trace ≡ is_ended
    → coming_of (of_chunks r place runs i a) trace ≡ waits next
    → IsWaiting place (pulled_to (of_chunks r place runs i a) trace) (taken trace) (lines_of (of_chunks r place runs i a) trace) a
    (run_left (given_bytes trace) (shifted place runs)) next
    → Fits (of_chunks r place runs i a) trace (left_of (of_chunks r place runs i a) trace)
fits_wait r place runs i a trace next true chunks f f' e w =
    let m = of_chunks r place runs i a in
    let left = run_left (given_bytes trace) (shifted place runs) in
    let told = outcome_waits trace i place (pulled_to m trace) (lines_of m trace) a left next w
    ∙ ap (λ b. stop_outcome (gave_trailers trace) (open_or_cut b)) f in
    fits_fault r place runs i a trace incomplete (unfinished_unpassed r place runs i a (pulled_to m trace) w.kind) told
    (pulls_next m trace (waits next) true _ e f' refl)
fits_wait r place runs i a trace next false chunks f f' e w =
    let m = of_chunks r place runs i a in
    let bytes = taken trace in
    let section = (read start (text_of m trace)).trailers in
    let text = lines_of m trace in
    let left = run_left (given_bytes trace) (shifted place runs) in
    let all = part_all bytes place in
    let here : after start (slice_range bytes place (length bytes)) ≡ next = ap (after start) all ∙ w.next_is in
    let lines : (read start (slice_range bytes place (length bytes))).trailers ≡ section ++ text =
    ap (λ l. (read start l).trailers) all ∙ ap (λ (q : readings.Reading). q.trailers) w.reads
    ∙ ap (λ (q : readings.Reading). section ++ (text ++ q.trailers)) (read-nil next) ∙ ap (λ l. section ++ l) (append-nil text) in
    record {
      pulled = giving on.pending (chunks_rest next (section ++ text)) [];
      outcome = outcome_waits trace i place (pulled_to m trace) text a left next w ∙ ap (λ b. stop_outcome (gave_trailers trace) (open_or_cut b)) f;
      pulls = pulls_next m trace (waits next) false _ e f' refl;
      upto = length bytes;
      passes = place_pending r place runs (chunked_stop i place a) trace chunks;
      rest_is = λ _. (λ j. chunks_rest (sym here j) (sym lines j))
          ∙ sym (rest_left m (length bytes) bytes (unfinished_unpassed r place runs i a (length bytes) w.kind));
      unread = sym (drop_all (length bytes) bytes (omega arith));
      done = refl;
      failed = refl;
      written = refl;
      over = refl;
    }

-- ---- the end

-- the end of a body with these trailers
abbrev ending : List Trailer → List ℕ → Pulled
ending [] behind = finishes on.body_ended no_rest behind
ending (t ∷ ts) behind = giving (on.trailers (map trailer_header (t ∷ ts))) no_rest behind

-- a section with a line has a byte
no_line : (t : Trailer) (ts : List Trailer) → section_text (t ∷ ts) ≡ [] → ⊥
no_line t ts e =
    omega (arith, ap length e, length-append (trailer_text t) (section_text ts), length-append t.name (58 ∷ (t.value ++ (13 ∷ (10 ∷ [])))))

-- no text is none with a byte
no_byte : (b : ℕ) (section : List ℕ) → [] ≡ b ∷ section → ⊥
no_byte b section e = cc

-- it is told by the text of their lines
ends_with : (ts : List Trailer) (section behind : List ℕ) → AllByRecursion IsTrailer ts → section_text ts ≡ section
    → EndsWith section behind (ending ts behind)
ends_with [] [] behind x e = refl
ends_with [] (b ∷ section) behind x e = absurd (no_byte b section e)
ends_with (t ∷ ts) [] behind x e = absurd (no_line t ts e)
ends_with (t ∷ ts) (b ∷ section) behind x e = (t ∷ ts, x, e, refl)

-- by the trailers
fits_ending : (r : Reading) (place : ℕ) (runs : List Run) (i : Input) (a : Chunked) (trace : List Step) (ts : List Trailer) (behind : List ℕ) (upto : ℕ)
    → next_start (content (shifted place runs) (chunked_stop i place a)) ≡ Some upto → is_passed upto (of_chunks r place runs i a) ≡ true
    → behind ≡ drop upto (taken trace)
    → pull_outcome trace (Some (of_chunks r place runs i a)) ≡ ended_outcome false (map trailer_header ts)
    → IsPull (has_ended trace) (left_of (of_chunks r place runs i a) trace) (drop (pulled_to (of_chunks r place runs i a) trace) (taken trace))
    (ending ts behind)
    → Fits (of_chunks r place runs i a) trace (left_of (of_chunks r place runs i a) trace)
fits_ending r place runs i a trace [] behind upto next is after_end e x =
    let m = of_chunks r place runs i a in
    record {
      pulled = finishes on.body_ended no_rest behind;
      outcome = e;
      pulls = x;
      upto = upto;
      passes = ap (λ o. unwrap_or o (pulled_to m trace)) next;
      rest_is = λ _. sym (rest_passed m upto (taken trace) is);
      unread = after_end;
      done = refl;
      failed = refl;
      written = refl;
      over = refl;
    }
fits_ending r place runs i a trace (t ∷ ts) behind upto next is after_end e x =
    let m = of_chunks r place runs i a in
    record {
      pulled = giving (on.trailers (map trailer_header (t ∷ ts))) no_rest behind;
      outcome = e;
      pulls = x;
      upto = upto;
      passes = ap (λ o. unwrap_or o (pulled_to m trace)) next;
      rest_is = λ _. sym (rest_passed m upto (taken trace) is);
      unread = after_end;
      done = refl;
      failed = refl;
      written = refl;
      over = refl;
    }

-- where a whole body ends
whole_next : (place : ℕ) (runs : List Run) (i : Input) (bytes front text : List ℕ) (a : Chunked) (behind : List ℕ)
    → (w : IsWholeTaken bytes front text a behind)
    → next_start (content (shifted place runs) (chunked_stop i place a)) ≡ Some (place + w.size)
whole_next place runs i bytes front text a behind w = ap (λ b. next_start (content (shifted place runs) (chunked_stop i place b))) w.kind

-- the trailers weren't given yet
pub fits_end : (r : Reading) (place : ℕ) (runs : List Run) (i : Input) (a : Chunked) (trace : List Step) (behind : List ℕ)
    → gave_trailers trace ≡ false
    → coming_of (of_chunks r place runs i a) trace ≡ ended behind → run_left (given_bytes trace) (shifted place runs) ≡ None
    → IsWholeTaken (drop place (taken trace)) (text_of (of_chunks r place runs i a) trace) (lines_of (of_chunks r place runs i a) trace) a behind
    → Fits (of_chunks r place runs i a) trace (left_of (of_chunks r place runs i a) trace)
fits_end r place runs i a trace behind untold e none_left w =
    let m = of_chunks r place runs i a in
    let bytes = taken trace in
    let front = text_of m trace in
    let text = lines_of m trace in
    let left = run_left (given_bytes trace) (shifted place runs) in
    let lines = map trailer_header w.trailers in
    fits_ending r place runs i a trace w.trailers behind (place + w.size)
    (whole_next place runs i (drop place bytes) front text a behind w) (whole_passed r place runs i (drop place bytes) front text a behind w)
    (behind_whole place bytes front text a behind w)
    (outcome_ended trace i place (drop place bytes) front text a left behind none_left w ∙ ap (λ b. ended_outcome b lines) untold)
    (pulls_next m trace (ended behind) (has_ended trace) _ e refl (ends_with w.trailers ((read start front).trailers ++ text) behind w.lines w.section))

-- behind the trailers comes the end
told_end_next : (told : Bool) (lines : List Header) → told ≡ true → ended_outcome told lines ≡ on.body_ended
told_end_next told [] e = refl
told_end_next true (line ∷ lines) e = refl
told_end_next false (line ∷ lines) e = cc

-- they were given
pub fits_told : (r : Reading) (place : ℕ) (runs : List Run) (i : Input) (a : Chunked) (trace : List Step) → gave_trailers trace ≡ true
    → run_left (given_bytes trace) (shifted place runs) ≡ None
    → IsWholeTaken (drop place (taken trace)) (text_of (of_chunks r place runs i a) trace) [] a
    (drop (pulled_to (of_chunks r place runs i a) trace) (taken trace))
    → Fits (of_chunks r place runs i a) trace no_rest
fits_told r place runs i a trace told none_left w =
    let m = of_chunks r place runs i a in
    let bytes = taken trace in
    let behind = drop (pulled_to m trace) bytes in
    let front = text_of m trace in
    let left = run_left (given_bytes trace) (shifted place runs) in
    record {
      pulled = finishes on.body_ended no_rest behind;
      outcome = outcome_ended trace i place (drop place bytes) front [] a left behind none_left w
          ∙ told_end_next (gave_trailers trace) (map trailer_header w.trailers) told;
      pulls = refl;
      upto = place + w.size;
      passes = ap (λ o. unwrap_or o (pulled_to m trace)) (whole_next place runs i (drop place bytes) front [] a behind w);
      rest_is = λ _. sym (rest_passed m (place + w.size) bytes (whole_passed r place runs i (drop place bytes) front [] a behind w));
      unread = behind_whole place bytes front [] a behind w;
      done = refl;
      failed = refl;
      written = refl;
      over = refl;
    }
