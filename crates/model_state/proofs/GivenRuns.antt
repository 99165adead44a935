-- The run in which the next byte of a body in chunks lies, where so many bytes were given as the passed text holds,
-- is the next one from the place that this text leads to.
use Rattle.std.proofs.Common.{◌≡◌, ℕ, suc, ◌+◌, ◌-◌, ◌<◌, false, eqb, min, List, [], ◌∷◌, ◌++◌, length, Option, Some, None, refl, sym, ap, ◌∙◌, inl, inr, arith}
use Rattle.std.proofs.lemmas.Bool.{cond-true, cond-false, cases_lt, cases_eq, eq-eqb, ne_eqb}
use Rattle.model_h1.specs.Runs.{Run, cut_runs}
use Rattle.model_h1.specs.Chunked.{Chunked, IsChunked}
use Rattle.model_h1.specs.Place.{Place, in_bytes, bytes_end, in_section, broken, start, bytes_step, step, after}
use Rattle.model_h1.specs.Reading.{Reading, noted, read}
use Rattle.model_h1.proofs.ReadSteps.{has_next, read-nil, read-cons}
use Rattle.model_h1.proofs.ReadAfter.{after-nil, after-cons, done_stops}
use Rattle.model_h1.proofs.RunPlaces.{runs_of, runs_of-nil, runs_of-cons}
use Rattle.model_h1.proofs.RunBytes.{in_chunk, current}
use Rattle.model_h1.proofs.WalkedRuns.{runs_cut}
use Rattle.model_h1.specs.Parse.{shifted}
use Rattle.model_h1.specs.OutcomeTable.{run_left}
use Rattle.model_h1.proofs.RunLemmas.{cut_more, cut_end, cut_nil}
use Rattle.model_h1.proofs.PlaceLemmas.{run_len, left-within, left-past}
use Rattle.model_state.proofs.NextRun.{walked, next_run, left-nil, walked_on}

-- ---- one byte of a run

-- one byte more was given, of a run that begins one byte sooner
one_more : (from to given : ℕ) (rs : List Run) → from < to
    → run_left (suc given) (record { start = from; end = to } ∷ rs) ≡ run_left given (record { start = from + 1; end = to } ∷ rs)
one_more from to given rs less =
    let long : Run = record { start = from; end = to } in
    let short : Run = record { start = from + 1; end = to } in
    elim (cases_lt (suc given) (to - from)) [
      | inl here ↦
          let place : from + suc given ≡ from + 1 + given = omega arith in
          left-within (suc given) long rs here ∙ ap (λ n. Some (record { start = n; end = to })) place
          ∙ sym (left-within given short rs (omega arith))
      | inr past ↦
          let count : suc given - (to - from) ≡ given - (to - (from + 1)) = omega arith in
          left-past (suc given) long rs past ∙ ap (λ n. run_left n rs) count ∙ sym (left-past given short rs (omega arith))
    ]

-- the runs from a place in a chunk
chunk_walked : (len place more b : ℕ) (rest : List ℕ) → place < len
    → walked len place (in_bytes more) (b ∷ rest)
    ≡ record { start = place; end = min (place + more + 1) len } ∷ cut_runs len (runs_of (place + 1) (bytes_step more) rest)
chunk_walked len place more b rest within =
    ap (λ l. cut_runs len (record { start = place; end = place + more + 1 } ∷ l)) (runs_of-cons place (in_bytes more) b rest)
    ∙ cut_more len (record { start = place; end = place + more + 1 }) (runs_of (place + 1) (bytes_step more) rest) within

-- the last byte of a chunk was given
last_given : (len place given b more : ℕ) (rest : List ℕ) → place < len → more ≡ 0
    → run_left (suc given) (walked len place (in_bytes more) (b ∷ rest)) ≡ run_left given (walked len (place + 1) (bytes_step more) rest)
last_given len place given b more rest within zero =
    let next : bytes_step more ≡ bytes_end = cond-true (eqb more 0) bytes_end (in_bytes (more - 1)) (eq-eqb more 0 zero) in
    let runs = cut_runs len (runs_of (place + 1) (bytes_step more) rest) in
    let last : Run = record { start = place; end = min (place + more + 1) len } in
    let count : suc given - (min (place + more + 1) len - place) ≡ given = omega arith in
    ap (run_left (suc given)) (chunk_walked len place more b rest within) ∙ left-past (suc given) last runs (omega arith)
    ∙ ap (λ n. run_left n runs) count
    ∙ sym (ap (λ p. run_left given (cut_runs len (current (place + 1) p ++ runs_of (place + 1) (bytes_step more) rest))) next)

-- a byte of a chunk that goes on was given, and others follow it
inner_given : (place given b c more : ℕ) (rest : List ℕ) → 0 < more
    → run_left (suc given) (walked (place + suc (suc (length rest))) place (in_bytes more) (b ∷ c ∷ rest))
    ≡ run_left given (walked (place + suc (suc (length rest))) (place + 1) (bytes_step more) (c ∷ rest))
inner_given place given b c more rest some =
    let len = place + suc (suc (length rest)) in
    let next : bytes_step more ≡ in_bytes (more - 1) = cond-false (eqb more 0) bytes_end (in_bytes (more - 1)) (ne_eqb more 0 (omega arith)) in
    let runs = runs_of (place + 1) (bytes_step more) (c ∷ rest) in
    let end : min (place + more + 1) len ≡ min (place + 1 + (more - 1) + 1) len = omega arith in
    ap (run_left (suc given)) (chunk_walked len place more b (c ∷ rest) (omega arith))
    ∙ one_more place (min (place + more + 1) len) given (cut_runs len runs) (omega arith)
    ∙ ap (λ n. run_left given (record { start = place + 1; end = n } ∷ cut_runs len runs)) end
    ∙ ap (run_left given) (sym (cut_more len (record { start = place + 1; end = place + 1 + (more - 1) + 1 }) runs (omega arith)))
    ∙ sym (ap (λ p. run_left given (cut_runs len (current (place + 1) p ++ runs))) next)

-- and none follows it
end_given : (place given b more : ℕ) → 0 < more
    → run_left (suc given) (walked (place + 1) place (in_bytes more) (b ∷ [])) ≡ run_left given (walked (place + 1) (place + 1) (bytes_step more) [])
end_given place given b more some =
    let len = place + 1 in
    let next : bytes_step more ≡ in_bytes (more - 1) = cond-false (eqb more 0) bytes_end (in_bytes (more - 1)) (ne_eqb more 0 (omega arith)) in
    let runs = runs_of (place + 1) (bytes_step more) [] in
    let none : cut_runs len runs ≡ [] = ap (cut_runs len) (runs_of-nil (place + 1) (bytes_step more)) ∙ cut_nil len in
    let last : Run = record { start = place; end = min (place + more + 1) len } in
    let after_all : run_left given (walked len (place + 1) (bytes_step more) []) ≡ None =
    ap (λ p. run_left given (cut_runs len (current (place + 1) p ++ runs))) next
    ∙ ap (run_left given) (cut_end len (record { start = place + 1; end = place + 1 + (more - 1) + 1 }) runs (omega arith)) ∙ left-nil given in
    ap (run_left (suc given)) (chunk_walked len place more b [] (omega arith)) ∙ left-past (suc given) last (cut_runs len runs) (omega arith)
    ∙ ap (run_left (suc given - (min (place + more + 1) len - place))) none ∙ left-nil (suc given - (min (place + more + 1) len - place))
    ∙ sym after_all

-- a byte of a chunk was given
byte_given : (place given b more : ℕ) (rest : List ℕ)
    → run_left (suc given) (walked (place + suc (length rest)) place (in_bytes more) (b ∷ rest))
    ≡ run_left given (walked (place + suc (length rest)) (place + 1) (bytes_step more) rest)
byte_given place given b more [] = elim (cases_eq more 0) [
  | inl zero ↦ last_given (place + suc (length {A = ℕ} [])) place given b more [] (omega arith) zero
  | inr some ↦ end_given place given b more (omega arith)
]
byte_given place given b more (c ∷ rest) = elim (cases_eq more 0) [
  | inl zero ↦ last_given (place + suc (suc (length rest))) place given b more (c ∷ rest) (omega arith) zero
  | inr some ↦ inner_given place given b c more rest (omega arith)
]

-- ---- the passed text

-- a byte outside of a chunk is none of the body's
outside_body : (at next : Place) (b : ℕ) (r : Reading) → in_chunk at ≡ false → (noted at next b r).body ≡ r.body
outside_body (in_bytes more) next b r outside = cc
outside_body (in_section at lines room) (in_section at' lines' room') b r outside = refl
outside_body at next b r outside = refl

-- what one more byte leaves, by what the next place does
left_on : (place : ℕ) (at : Place) (b : ℕ) (front rest : List ℕ)
    → run_left (length (noted at (step at b) b (read (step at b) front)).body) (walked (place + suc (length rest)) place at (b ∷ rest))
    ≡ run_left (length (read (step at b) front).body) (walked (place + suc (length rest)) (place + 1) (step at b) rest)
left_on place (in_bytes more) b front rest = byte_given place (length (read (bytes_step more) front).body) b more rest
left_on place at b front rest =
    ap (λ l. run_left (length l) (walked (place + suc (length rest)) place at (b ∷ rest))) (outside_body at (step at b) b (read (step at b) front) refl)
    ∙ ap (run_left (length (read (step at b) front).body)) (walked_on (place + suc (length rest)) place at b rest refl)

-- so many bytes given as a front holds, the run is the next one behind it
pub left_behind : (front rest : List ℕ) (place : ℕ) (at : Place) → (after at front ≡ broken → ⊥)
    → run_left (length (read at front).body) (walked (place + length (front ++ rest)) place at (front ++ rest))
    ≡ next_run (place + length front) (after at front) rest
left_behind [] rest place at unbroken =
    let here : place ≡ place + 0 = omega arith in
    ap (λ (r : Reading). run_left (length r.body) (walked (place + length rest) place at rest)) (read-nil at)
    ∙ (λ i. next_run (here i) (sym (after-nil at) i) rest)
left_behind (b ∷ front) rest place at unbroken =
    let next = step at b in
    let more = has_next at (λ e. unbroken (ap (λ p. after p (b ∷ front)) e ∙ done_stops (b ∷ front) (omega arith))) in
    let further : after next front ≡ broken → ⊥ = λ e. unbroken (after-cons at b front ∙ e) in
    let size : place + suc (length (front ++ rest)) ≡ place + 1 + length (front ++ rest) = omega arith in
    let behind : place + 1 + length front ≡ place + suc (length front) = omega arith in
    ap (λ (r : Reading). run_left (length r.body) (walked (place + suc (length (front ++ rest))) place at (b ∷ (front ++ rest))))
    (read-cons at b front more)
    ∙ left_on place at b front (front ++ rest)
    ∙ ap (λ n. run_left (length (read next front).body) (walked n (place + 1) next (front ++ rest))) size
    ∙ left_behind front rest (place + 1) next further
    ∙ (λ i. next_run (behind i) (sym (after-cons at b front) i) rest)

-- ---- runs that are counted from a place

-- a run where there is one
abbrev pub moved_run : ℕ → Option Run → Option Run
moved_run place None = None
moved_run place (Some r) = Some (record { start = place + r.start; end = place + r.end })

-- the run of the next byte is counted from there too
pub left_shifted : (place given : ℕ) (rs : List Run) → run_left given (shifted place rs) ≡ moved_run place (run_left given rs)
left_shifted place given [] = left-nil given ∙ sym (ap (moved_run place) (left-nil given))
left_shifted place given (r ∷ rs) =
    let q : Run = record { start = place + r.start; end = place + r.end } in
    elim (cases_lt given (run_len r)) [
      | inl here ↦
          let from : place + r.start + given ≡ place + (r.start + given) = omega arith in
          left-within given q (shifted place rs) (omega arith) ∙ ap (λ n. Some (record { start = n; end = place + r.end })) from
          ∙ sym (ap (moved_run place) (left-within given r rs here))
      | inr past ↦
          let count : given - (place + r.end - (place + r.start)) ≡ given - run_len r = omega arith in
          left-past given q (shifted place rs) (omega arith) ∙ ap (λ n. run_left n (shifted place rs)) count
          ∙ left_shifted place (given - run_len r) rs ∙ sym (ap (moved_run place) (left-past given r rs past))
    ]

-- The next byte of a body that begins at a place: its run is the next one behind the passed text.
pub left_of_body : (place : ℕ) (front rest : List ℕ) (a : Chunked) (runs : List Run) → IsChunked (front ++ rest) a runs
    → (after start front ≡ broken → ⊥)
    → run_left (length (read start front).body) (shifted place runs) ≡ moved_run place (next_run (length front) (after start front) rest)
left_of_body place front rest a runs x unbroken =
    let given = length (read start front).body in
    let size : length (front ++ rest) ≡ 0 + length (front ++ rest) = omega arith in
    let behind : 0 + length front ≡ length front = omega arith in
    left_shifted place given runs
    ∙ ap (moved_run place)
    (ap (run_left given) (runs_cut (front ++ rest) a runs x ∙ ap (λ n. walked n 0 start (front ++ rest)) size)
    ∙ left_behind front rest 0 start unbroken ∙ ap (λ n. next_run n (after start front) rest) behind)
