-- What comes next behind the text that pulls passed, by the parse of the body.
use Rattle.std.proofs.Common.{◌≡◌, ℕ, ◌+◌, ◌-◌, ◌≤◌, Bool, List, length, take, drop, Option, Some, None, sym, ap, ◌∙◌, subst, arith, length-drop}
use Rattle.std.specs.Prelude.{slice_range}
use Rattle.std.proofs.lemmas.List.{drop-drop}
use Rattle.model_h1.specs.Runs.{Run}
use Rattle.model_h1.specs.Chunked.{Chunked, unfinished, not_chunked, IsChunked}
use Rattle.model_h1.specs.Place.{Place, broken, start, after}
use Rattle.model_h1.specs.Reading.{only, with_bytes, with_trailers, at_end, read}
use Rattle.model_h1.specs.TakeNext.{Next, chunk, waits, ended, breaks, Taken, take_next}
use Rattle.model_h1.proofs.ReadAfter.{after-append, read-append, joined}
use Rattle.model_h1.proofs.Verdicts.{IsLive}
use Rattle.model_h1.specs.Parse.{shifted}
use Rattle.model_h1.specs.OutcomeTable.{run_left}
use Rattle.model_state.proofs.NextRun.{next_run, IsChunkTaken, TakesNext, next_taken}
use Rattle.model_state.proofs.GivenRuns.{moved_run, left_of_body}
use Rattle.model_state.proofs.ChunkStops.{read_with, read_by_next, IsWholeTaken, StopsAs, WaitsLive, stops_as}
use Rattle.model_state.proofs.PassedText.{part_and_rest, part_longer, part_length, Follows}

-- a run is left, and its bytes are the next ones
pub record IsGiven (place upto : ℕ) (bytes text : List ℕ) (left : Option Run) (given : List ℕ) (next : Place) (behind : List ℕ) : Type 0 where
  pub size : ℕ
  pub run : Run
  pub run_is : left ≡ Some run
  pub end_is : run.end ≡ upto + size
  pub within : upto + size ≤ length bytes
  pub given_is : slice_range bytes run.start run.end ≡ given
  pub behind_is : behind ≡ drop (upto + size) bytes
  pub next_is : after start (slice_range bytes place (upto + size)) ≡ next
  pub lives : IsLive next
  pub reads : read start (slice_range bytes place (upto + size))
      ≡ joined (read start (slice_range bytes place upto)) (with_trailers text (with_bytes given (only (at_end next))))

-- no run is left, and more may come
pub record IsWaiting (place upto : ℕ) (bytes text : List ℕ) (a : Chunked) (left : Option Run) (next : Place) : Type 0 where
  pub none_left : left ≡ None
  pub kind : a ≡ unfinished
  pub next_is : after start (drop place bytes) ≡ next
  pub lives : IsLive next
  pub reads : read start (drop place bytes) ≡ read_with (slice_range bytes place upto) text (waits next)

-- what comes next, by the run that is left and the kind of the body
abbrev pub Gives : ℕ → ℕ → List ℕ → List ℕ → Chunked → Option Run → Next → Type 0
Gives place upto bytes text a left (chunk given next behind) = IsGiven place upto bytes text left given next behind
Gives place upto bytes text a left (waits next) = IsWaiting place upto bytes text a left next
Gives place upto bytes text a left (ended behind) = (left ≡ None) × IsWholeTaken (drop place bytes) (slice_range bytes place upto) text a behind
Gives place upto bytes text a left breaks = (left ≡ None) × (a ≡ not_chunked)

-- ---- each case

-- bytes of a chunk
chunk_gives : (place upto : ℕ) (bytes text : List ℕ) (left run : Option Run) (given : List ℕ) (next : Place) (behind : List ℕ)
    → place ≤ upto → upto ≤ length bytes → (after start (slice_range bytes place upto) ≡ broken → ⊥) → left ≡ moved_run place run
    → IsChunkTaken (length (slice_range bytes place upto)) (after start (slice_range bytes place upto)) (drop upto bytes) text run given next behind
    → IsGiven place upto bytes text left given next behind
chunk_gives place upto bytes text left run given next behind order within unbroken e x =
    let front = slice_range bytes place upto in
    let rest = drop upto bytes in
    let len : length front ≡ upto - place = part_length bytes place upto within in
    let from : place + (length front + x.from) ≡ upto + x.from = omega arith in
    let end : place + (length front + x.size) ≡ upto + x.size = omega arith in
    let count : place + (length front + x.size) - (place + (length front + x.from)) ≡ x.size - x.from = omega arith in
    let longer = part_longer bytes place upto x.size order in
    let fits = x.within in
    record {
      size = x.size;
      run = record { start = place + (length front + x.from); end = place + (length front + x.size) };
      run_is = e ∙ ap (moved_run place) x.run_is;
      end_is = end;
      within = omega (arith, length-drop upto bytes);
      given_is = (λ i. take (count i) (drop (from i) bytes)) ∙ ap (take (x.size - x.from)) (sym (drop-drop x.from upto bytes)) ∙ sym x.given_is;
      behind_is = x.behind_is ∙ drop-drop x.size upto bytes;
      next_is = ap (after start) longer ∙ after-append start front (take x.size rest) ∙ sym x.next_is;
      lives = x.lives;
      reads = ap (read start) longer ∙ read-append start front (take x.size rest) unbroken ∙ ap (joined (read start front)) x.reads;
    }

-- where bytes wait, the place goes on
live_of : (place : ℕ) (at : Place) (bytes text : List ℕ) (run : Option Run) (next : Next) → TakesNext place at bytes text run next → WaitsLive next
live_of place at bytes text run (waits next) x = x.2
live_of place at bytes text run (chunk given next behind) x = tt
live_of place at bytes text run (ended behind) x = tt
live_of place at bytes text run breaks x = tt

-- anything
gives_by : (place upto : ℕ) (bytes text : List ℕ) (a : Chunked) (left run : Option Run) (next : Next)
    → place ≤ upto → upto ≤ length bytes → (after start (slice_range bytes place upto) ≡ broken → ⊥) → left ≡ moved_run place run
    → TakesNext (length (slice_range bytes place upto)) (after start (slice_range bytes place upto)) (drop upto bytes) text run next
    → read start (drop place bytes) ≡ read_with (slice_range bytes place upto) text next
    → StopsAs (drop place bytes) (slice_range bytes place upto) text a next → Gives place upto bytes text a left next
gives_by place upto bytes text a left run (chunk given next behind) order within unbroken e x r s =
    chunk_gives place upto bytes text left run given next behind order within unbroken e x
gives_by place upto bytes text a left run (waits next) order within unbroken e x r s =
    let front = slice_range bytes place upto in
    record {
      none_left = e ∙ ap (moved_run place) x.0;
      kind = s;
      next_is = ap (after start) (sym (part_and_rest bytes place upto order)) ∙ after-append start front (drop upto bytes) ∙ sym x.1;
      lives = x.2;
      reads = r;
    }
gives_by place upto bytes text a left run (ended behind) order within unbroken e x r s = (e ∙ ap (moved_run place) x, s)
gives_by place upto bytes text a left run breaks order within unbroken e x r s = (e ∙ ap (moved_run place) x, s)

-- what comes next, from the place to which the passed text leads
abbrev pub next_of : ℕ → ℕ → List ℕ → Taken
next_of place upto bytes = take_next (after start (slice_range bytes place upto)) (drop upto bytes)

-- What comes next is what the parse says.
pub gives : (place upto given : ℕ) (bytes : List ℕ) (told finished : Bool) (a : Chunked) (runs : List Run) → IsChunked (drop place bytes) a runs
    → Follows place upto bytes given told finished
    → Gives place upto bytes (next_of place upto bytes).trailers a (run_left given (shifted place runs)) (next_of place upto bytes).next
gives place upto given bytes told finished a runs x f =
    let front = slice_range bytes place upto in
    let rest = drop upto bytes in
    let at = after start front in
    let parts = part_and_rest bytes place upto f.order in
    let here = subst (λ l. IsChunked l a runs) (sym parts) x in
    let run = next_run (length front) at rest in
    let left : run_left given (shifted place runs) ≡ moved_run place run =
    ap (λ n. run_left n (shifted place runs)) (sym f.given_is) ∙ left_of_body place front rest a runs here f.unbroken in
    let takes = next_taken rest (length front) at in
    let t = take_next at rest in
    let reads = ap (read start) (sym parts) ∙ read_by_next front rest f.unbroken in
    gives_by place upto bytes t.trailers a (run_left given (shifted place runs)) run t.next f.order f.within f.unbroken left takes reads
    (stops_as (drop place bytes) front t.trailers a runs t.next x (live_of (length front) at rest t.trailers run t.next takes) reads)
