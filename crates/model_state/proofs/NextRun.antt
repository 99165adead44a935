-- What comes next in the bytes of a body in chunks stands in the next run that the walk finds, up to the end of the
-- bytes.
use Rattle.std.proofs.Common.{◌≡◌, ℕ, suc, ◌+◌, ◌-◌, ◌<◌, ◌≤◌, false, ltb, min, List, [], ◌∷◌, ◌++◌, length, take, drop, Option, Some, None, refl, sym, ap, ◌∙◌, subst, inl, inr, arith, append-nil, length-take}
use Rattle.std.specs.Prelude.{slice_range}
use Rattle.std.proofs.lemmas.Bool.{cond-true, cond-false, cases_lt, lt-ltb, le-ltb}
use Rattle.std.proofs.lemmas.List.{take_all, drop_all}
use Rattle.model_h1.specs.Runs.{Run, cut_runs}
use Rattle.model_h1.specs.Place.{InLine, Place, in_bytes, bytes_end, in_section, done, broken, step, after}
use Rattle.model_h1.specs.Reading.{Ending, only, with_bytes, with_trailers, noted, at_end, read}
use Rattle.model_h1.specs.TakeNext.{Next, chunk, waits, ended, breaks, Taken, of_chunk, noted_line, stops_at, take_next, says}
use Rattle.model_h1.proofs.ReadSteps.{HasNext, read-nil, read-cons}
use Rattle.model_h1.proofs.ReadAfter.{after-nil, after-cons}
use Rattle.model_h1.proofs.Complete.{bytes_read}
use Rattle.model_h1.proofs.TakenReads.{taken_is_read}
use Rattle.model_h1.proofs.TakenPlaces.{after_all, after_some}
use Rattle.model_h1.proofs.Verdicts.{IsLive}
use Rattle.model_h1.proofs.RunPlaces.{runs_of, runs_of-nil, runs_of-cons, runs_of_late}
use Rattle.model_h1.proofs.RunBytes.{in_chunk, current, opened_is_current}
use Rattle.model_h1.specs.OutcomeTable.{run_left}
use Rattle.model_h1.proofs.RunLemmas.{cut_more, cut_end, cut_nil}
use Rattle.model_h1.proofs.PlaceLemmas.{left-within}

-- the runs from a place on, up to the end of the bytes
abbrev pub walked : ℕ → ℕ → Place → List ℕ → List Run
walked len place at bytes = cut_runs len (current place at ++ runs_of place at bytes)

-- the first of them
abbrev pub next_run : ℕ → Place → List ℕ → Option Run
next_run place at bytes = run_left 0 (walked (place + length bytes) place at bytes)

-- of no run nothing is left
pub left-nil : (given : ℕ) → run_left given [] ≡ None
unfolding run_left
left-nil given = refl

-- ---- what stands there

-- A chunk as it was taken: the part of the bytes in which it stands, which is the run; the place behind it, and what
-- is read up to there.
pub record IsChunkTaken (place : ℕ) (at : Place) (bytes text : List ℕ) (run : Option Run) (given : List ℕ) (next : Place) (behind : List ℕ)
    : Type 0 where
  pub from : ℕ
  pub size : ℕ
  pub run_is : run ≡ Some (record { start = place + from; end = place + size })
  pub given_is : given ≡ slice_range bytes from size
  pub order : from < size
  pub within : size ≤ length bytes
  pub next_is : next ≡ after at (take size bytes)
  pub lives : IsLive next
  pub behind_is : behind ≡ drop size bytes
  pub reads : read at (take size bytes) ≡ with_trailers text (with_bytes given (only (at_end next)))

-- what was taken, by the run that is next
abbrev pub TakesNext : ℕ → Place → List ℕ → List ℕ → Option Run → Next → Type 0
TakesNext place at bytes text run (chunk given next behind) = IsChunkTaken place at bytes text run given next behind
TakesNext place at bytes text run (waits next) = (run ≡ None) × (next ≡ after at bytes) × IsLive next
TakesNext place at bytes text run (ended behind) = run ≡ None
TakesNext place at bytes text run breaks = run ≡ None

-- ---- one byte outside of a chunk

-- the runs from there on are those from the next place on
pub walked_on : (len place : ℕ) (at : Place) (b : ℕ) (bytes : List ℕ) → in_chunk at ≡ false
    → walked len place at (b ∷ bytes) ≡ walked len (place + 1) (step at b) bytes
walked_on len place (in_bytes more) b bytes outside = cc
walked_on len place at b bytes outside =
    ap (cut_runs len) (runs_of-cons place at b bytes ∙ ap (λ l. l ++ runs_of (place + 1) (step at b) bytes) (opened_is_current place at b refl))

-- so is the first of them
next_on : (place : ℕ) (at : Place) (b : ℕ) (bytes : List ℕ) → in_chunk at ≡ false
    → next_run (place + 1) (step at b) bytes ≡ next_run place at (b ∷ bytes)
next_on place at b bytes outside =
    let len : place + 1 + length bytes ≡ place + suc (length bytes) = omega arith in
    ap (λ n. run_left 0 (walked n (place + 1) (step at b) bytes)) len
    ∙ ap (run_left 0) (sym (walked_on (place + suc (length bytes)) place at b bytes outside))

-- what is noted of a byte, and of what is taken behind it
abbrev NotesAlike : Place → ℕ → List ℕ → List ℕ → Type 0
NotesAlike at b text text' = (body : List ℕ) (ending : Ending)
    → noted at (step at b) b (with_trailers text (with_bytes body (only ending))) ≡ with_trailers text' (with_bytes body (only ending))

-- a chunk behind that byte
chunk_on : (place : ℕ) (at : Place) (b : ℕ) (bytes text text' : List ℕ) (run : Option Run) (given : List ℕ) (next : Place) (behind : List ℕ)
    → HasNext at → NotesAlike at b text text'
    → IsChunkTaken (place + 1) (step at b) bytes text run given next behind → IsChunkTaken place at (b ∷ bytes) text' run given next behind
chunk_on place at b bytes text text' run given next behind more alike x =
    let start : place + 1 + x.from ≡ place + suc x.from = omega arith in
    let end : place + 1 + x.size ≡ place + suc x.size = omega arith in
    let count : x.size - x.from ≡ suc x.size - suc x.from = omega arith in
    let order = x.order in
    let within = x.within in
    record {
      from = suc x.from;
      size = suc x.size;
      run_is = x.run_is ∙ (λ i. Some (record { start = start i; end = end i }));
      given_is = x.given_is ∙ ap (λ n. take n (drop x.from bytes)) count;
      order = omega arith;
      within = omega arith;
      next_is = x.next_is ∙ sym (after-cons at b (take x.size bytes));
      lives = x.lives;
      behind_is = x.behind_is;
      reads = read-cons at b (take x.size bytes) more ∙ ap (noted at (step at b) b) x.reads ∙ alike given (at_end next);
    }

-- anything behind it
taken_on : (place : ℕ) (at : Place) (b : ℕ) (bytes text text' : List ℕ) (run : Option Run) (next : Next)
    → HasNext at → NotesAlike at b text text'
    → TakesNext (place + 1) (step at b) bytes text run next → TakesNext place at (b ∷ bytes) text' run next
taken_on place at b bytes text text' run (chunk given next behind) more alike x =
    chunk_on place at b bytes text text' run given next behind more alike x
taken_on place at b bytes text text' run (waits next) more alike x = (x.0, x.1 ∙ sym (after-cons at b bytes), x.2)
taken_on place at b bytes text text' run (ended behind) more alike x = x
taken_on place at b bytes text text' run breaks more alike x = x

-- a byte of a trailer line changes nothing but the text
line_on : (place : ℕ) (at : InLine) (lines room : ℕ) (q : Place) (b : ℕ) (bytes : List ℕ) (t : Taken) (run : Option Run)
    → step (in_section at lines room) b ≡ q → TakesNext (place + 1) q bytes t.trailers run t.next
    → TakesNext place (in_section at lines room) (b ∷ bytes) (noted_line (in_section at lines room) q b t).trailers run
    (noted_line (in_section at lines room) q b t).next
line_on place at lines room (in_section at' lines' room') b bytes t run e x =
    let here = subst (λ q. TakesNext (place + 1) q bytes t.trailers run t.next) (sym e) x in
    let alike : NotesAlike (in_section at lines room) b t.trailers (b ∷ t.trailers) = λ body ending.
    ap (λ q. noted (in_section at lines room) q b (with_trailers t.trailers (with_bytes body (only ending)))) e in
    taken_on place (in_section at lines room) b bytes t.trailers (b ∷ t.trailers) run t.next tt alike here
line_on place at lines room q b bytes t run e x =
    let here = subst (λ q. TakesNext (place + 1) q bytes t.trailers run t.next) (sym e) x in
    let alike : NotesAlike (in_section at lines room) b t.trailers t.trailers = λ body ending.
    ap (λ q. noted (in_section at lines room) q b (with_trailers t.trailers (with_bytes body (only ending)))) e in
    taken_on place (in_section at lines room) b bytes t.trailers t.trailers run t.next tt alike here

-- ---- bytes of a chunk

-- the run that goes on there
chunk_run : (place more size b : ℕ) (bytes : List ℕ) → min (more + 1) (suc (length bytes)) ≡ size
    → next_run place (in_bytes more) (b ∷ bytes) ≡ Some (record { start = place + 0; end = place + size })
chunk_run place more size b bytes e =
    let len = place + suc (length bytes) in
    let end : min (place + more + 1) len ≡ place + size = omega arith in
    ap (run_left 0) (cut_more len (record { start = place; end = place + more + 1 }) (runs_of place (in_bytes more) (b ∷ bytes)) (omega arith))
    ∙ left-within 0 (record { start = place; end = min (place + more + 1) len })
    (cut_runs len (runs_of place (in_bytes more) (b ∷ bytes))) (omega arith)
    ∙ ap (λ n. Some (record { start = place + 0; end = n })) end

-- all bytes of the chunk are there
chunk_all : (place more b : ℕ) (bytes : List ℕ) → more < suc (length bytes)
    → IsChunkTaken place (in_bytes more) (b ∷ bytes) [] (next_run place (in_bytes more) (b ∷ bytes))
    (take (more + 1) (b ∷ bytes)) bytes_end (drop (more + 1) (b ∷ bytes))
chunk_all place more b bytes fits =
    let front = take (more + 1) (b ∷ bytes) in
    let size : length front ≡ more + 1 = omega (arith, length-take (more + 1) (b ∷ bytes)) in
    let count : more + 1 ≡ more + 1 - 0 = omega arith in
    record {
      from = 0;
      size = more + 1;
      run_is = chunk_run place more (more + 1) b bytes (omega arith);
      given_is = ap (λ n. take n (b ∷ bytes)) count;
      order = omega arith;
      within = omega arith;
      next_is = sym (after_all front more size);
      lives = record { not_done = λ e. cc; not_broken = λ e. cc };
      behind_is = refl;
      reads = ap (read (in_bytes more)) (sym (append-nil front)) ∙ bytes_read front more [] size ∙ ap (with_bytes front) (read-nil bytes_end);
    }

-- what is read of the bytes that are there
some_read : (more b : ℕ) (bytes : List ℕ) → suc (length bytes) ≤ more
    → read (in_bytes more) (b ∷ bytes) ≡ with_bytes (b ∷ bytes) (only (at_end (in_bytes (more - suc (length bytes)))))
unfolding take_next
some_read more b bytes past =
    let all = b ∷ bytes in
    let part : Next = chunk all (in_bytes (more - suc (length bytes))) [] in
    ap (read (in_bytes more)) (sym (append-nil all)) ∙ taken_is_read all (in_bytes more) []
    ∙ ap (λ (n : Next). says n []) (cond-false (ltb more (suc (length bytes)))
    (chunk (take (more + 1) all) bytes_end (drop (more + 1) all)) part (le-ltb more (suc (length bytes)) past))
    ∙ ap (with_bytes all) (read-nil (in_bytes (more - suc (length bytes))))

-- some of its bytes are there
chunk_some : (place more b : ℕ) (bytes : List ℕ) → suc (length bytes) ≤ more
    → IsChunkTaken place (in_bytes more) (b ∷ bytes) [] (next_run place (in_bytes more) (b ∷ bytes))
    (b ∷ bytes) (in_bytes (more - suc (length bytes))) []
chunk_some place more b bytes past =
    let all = b ∷ bytes in
    let size = suc (length bytes) in
    let front : take size all ≡ all = take_all size all (omega arith) in
    let count : size ≡ size - 0 = omega arith in
    record {
      from = 0;
      size = size;
      run_is = chunk_run place more size b bytes (omega arith);
      given_is = sym front ∙ ap (λ n. take n all) count;
      order = omega arith;
      within = omega arith;
      next_is = sym (ap (after (in_bytes more)) front ∙ after_some all more past);
      lives = record { not_done = λ e. cc; not_broken = λ e. cc };
      behind_is = sym (drop_all size all (omega arith));
      reads = ap (read (in_bytes more)) front ∙ some_read more b bytes past;
    }

-- any of its bytes are
chunk_taken : (place more b : ℕ) (bytes : List ℕ)
    → TakesNext place (in_bytes more) (b ∷ bytes) [] (next_run place (in_bytes more) (b ∷ bytes)) (of_chunk more (b ∷ bytes))
chunk_taken place more b bytes = elim (cases_lt more (suc (length bytes))) [
  | inl fits ↦
      subst (TakesNext place (in_bytes more) (b ∷ bytes) [] (next_run place (in_bytes more) (b ∷ bytes)))
      (sym (cond-true (ltb more (suc (length bytes))) _ (chunk (b ∷ bytes) (in_bytes (more - suc (length bytes))) [])
      (lt-ltb more (suc (length bytes)) fits)))
      (chunk_all place more b bytes fits)
  | inr past ↦
      subst (TakesNext place (in_bytes more) (b ∷ bytes) [] (next_run place (in_bytes more) (b ∷ bytes)))
      (sym (cond-false (ltb more (suc (length bytes)))
      (chunk (take (more + 1) (b ∷ bytes)) bytes_end (drop (more + 1) (b ∷ bytes))) _ (le-ltb more (suc (length bytes)) past)))
      (chunk_some place more b bytes past)
]

-- ---- no byte, and any bytes

-- no run is left where no byte is
nothing_left : (place : ℕ) (at : Place) → next_run place at [] ≡ None
nothing_left place (in_bytes more) =
    ap (run_left 0) (cut_end (place + 0) (record { start = place; end = place + more + 1 }) (runs_of place (in_bytes more) []) (omega arith))
    ∙ left-nil 0
nothing_left place at = ap (λ l. run_left 0 (cut_runs (place + 0) l)) (runs_of-nil place at) ∙ ap (run_left 0) (cut_nil (place + 0)) ∙ left-nil 0

-- nor behind the body's end, or where it is broken
late_left : (place : ℕ) (at : Place) (bytes : List ℕ) → current place at ++ runs_of place at bytes ≡ [] → next_run place at bytes ≡ None
late_left place at bytes none =
    ap (λ l. run_left 0 (cut_runs (place + length bytes) l)) none ∙ ap (run_left 0) (cut_nil (place + length bytes)) ∙ left-nil 0

-- what is taken of no byte
nothing_taken : (place : ℕ) (at : Place) → TakesNext place at [] [] (next_run place at []) (stops_at at)
nothing_taken place done = nothing_left place done
nothing_taken place broken = nothing_left place broken
nothing_taken place at =
    (nothing_left place at, sym (after-nil at), record { not_done = λ e. cc; not_broken = λ e. cc })

-- What comes next is what stands in the next run.
pub next_taken : (bytes : List ℕ) (place : ℕ) (at : Place)
    → TakesNext place at bytes (take_next at bytes).trailers (next_run place at bytes) (take_next at bytes).next
unfolding take_next
next_taken [] place at = nothing_taken place at
next_taken (b ∷ bytes) place done = late_left place done (b ∷ bytes) (runs_of_late place done (b ∷ bytes) refl)
next_taken (b ∷ bytes) place broken = late_left place broken (b ∷ bytes) (runs_of_late place broken (b ∷ bytes) refl)
next_taken (b ∷ bytes) place (in_bytes more) = chunk_taken place more b bytes
next_taken (b ∷ bytes) place (in_section at lines room) =
    let q = step (in_section at lines room) b in
    line_on place at lines room q b bytes (take_next q bytes) (next_run place (in_section at lines room) (b ∷ bytes)) refl
    (subst (λ run. TakesNext (place + 1) q bytes (take_next q bytes).trailers run (take_next q bytes).next)
    (next_on place (in_section at lines room) b bytes refl) (next_taken bytes (place + 1) q))
next_taken (b ∷ bytes) place at =
    let t = take_next (step at b) bytes in
    taken_on place at b bytes t.trailers t.trailers (next_run place at (b ∷ bytes)) t.next tt (λ body ending. refl)
    (subst (λ run. TakesNext (place + 1) (step at b) bytes t.trailers run t.next)
    (next_on place at b bytes refl) (next_taken bytes (place + 1) (step at b)))
