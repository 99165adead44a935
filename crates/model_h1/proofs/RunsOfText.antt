-- The walk over a whole text finds the runs of its segments.
use Rattle.std.proofs.Common.{◌≡◌, ℕ, suc, ◌+◌, ◌-◌, ◌<◌, List, [], ◌∷◌, ◌++◌, length, refl, sym, ap, ◌∙◌, subst, arith}
use Rattle.std.specs.Prelude.{flat_map}
use Rattle.std.specs.List.{AllByRecursion}
use Rattle.std.proofs.lemmas.List.{append_assoc, append-nil, length-append}
use Rattle.std.proofs.lemmas.Bool.{ne_eqb, eq-eqb, lt-ltb, cond-true, cond-false}
use Rattle.httparse.specs.Ascii.{crlf_bytes}
use Rattle.model_h1.specs.ChunkedText.{SaysSize, Segment, IsSegment, segment_text, section_text, ChunkedText, chunked_text, IsChunkedText}
use Rattle.model_h1.specs.Runs.{Run, segment_runs}
use Rattle.model_h1.specs.Place.{Place, in_size, in_blanks, in_extension, size_cr, in_bytes, bytes_end, bytes_cr, start, after_line, step, after}
use Rattle.model_h1.proofs.ReadAfter.{after-nil, after-cons, after-append}
use Rattle.model_h1.proofs.SizeLines.{Leads, size_line}
use Rattle.model_h1.proofs.RunPlaces.{run_at, opened, runs_of, runs_of-nil, runs_of-cons, runs_of-append, runs_of_late}

-- the text leads from s to t, and a run of so many bytes begins behind it
pub record Passes (s : Place) (text : List ℕ) (t : Place) (n : ℕ) : Type 0 where
  pub ends : after s text ≡ t
  pub runs : (place : ℕ) → runs_of place s text ≡ run_at (place + length text) n

-- no text
passes_none : (s : Place) → Passes s [] s 0
passes_none s = record { ends = after-nil s; runs = λ place. runs_of-nil place s }

-- one more byte in front
passes_more : (s next t : Place) (b : ℕ) (text : List ℕ) (n : ℕ) → step s b ≡ next → ((place : ℕ) → opened place s b ≡ []) → Passes next text t n
    → Passes s (b ∷ text) t n
passes_more s next t b text n e quiet p = record {
  ends = after-cons s b text ∙ ap (λ u. after u text) e ∙ p.ends;
  runs = λ place.
      let same : place + 1 + length text ≡ place + suc (length text) = omega arith in
      runs_of-cons place s b text
      ∙ ap (λ l. l ++ runs_of (place + 1) (step s b) text) (quiet place)
      ∙ ap (λ u. runs_of (place + 1) u text) e
      ∙ p.runs (place + 1)
      ∙ ap (λ q. run_at q n) same;
}

-- ---- size lines

-- the LF of a size line
passes_line_feed : (n : ℕ) → Passes (size_cr n) (10 ∷ []) (after_line n) n
passes_line_feed n = record {
  ends = after-cons (size_cr n) 10 [] ∙ after-nil (after_line n);
  runs = λ place.
      runs_of-cons place (size_cr n) 10 []
      ∙ ap (λ l. run_at (place + 1) n ++ l) (runs_of-nil (place + 1) (after_line n))
      ∙ append-nil (run_at (place + 1) n);
}

-- bytes in a size line
passes_within : (text : List ℕ) (p q : Place) → Leads p text q → Passes p text q 0
passes_within [] p q l = subst (λ t. Passes p [] t 0) l (passes_none p)
passes_within (b ∷ text) (in_size n) q l = passes_more _ _ q b text 0 refl (λ _. refl) (passes_within text _ q l.1)
passes_within (b ∷ text) (in_blanks n) q l = passes_more _ _ q b text 0 refl (λ _. refl) (passes_within text _ q l.1)
passes_within (b ∷ text) (in_extension n) q l = passes_more _ _ q b text 0 refl (λ _. refl) (passes_within text _ q l.1)
passes_within (b ∷ text) p q l = absurd l.0

-- text without a run, and text with one behind it
passes_both : (s t u : Place) (xs ys : List ℕ) (n : ℕ) → Passes s xs t 0 → Passes t ys u n → Passes s (xs ++ ys) u n
passes_both s t u xs ys n first second = record {
  ends = after-append s xs ys ∙ ap (λ p. after p ys) first.ends ∙ second.ends;
  runs = λ place.
      let same : place + length xs + length ys ≡ place + length (xs ++ ys) = omega (arith, length-append xs ys) in
      runs_of-append place s xs ys
      ∙ ap (λ l. l ++ runs_of (place + length xs) (after s xs) ys) (first.runs place)
      ∙ ap (λ p. runs_of (place + length xs) p ys) first.ends
      ∙ second.runs (place + length xs)
      ∙ ap (λ q. run_at q n) same;
}

-- a size line
passes_size_line : (line : List ℕ) (size : ℕ) → SaysSize line size → Passes start line (after_line size) size
passes_size_line line size ok =
    let l = size_line line size ok in
    subst (λ x. Passes start x (after_line size) size) (sym l.spelled)
    (passes_both start (size_cr size) (after_line size) l.front (10 ∷ []) size (passes_within l.front start (size_cr size) l.leads)
    (passes_line_feed size))

-- ---- segments

-- CR LF behind a chunk's bytes
passes_bytes_end : Passes bytes_end crlf_bytes start 0
passes_bytes_end =
    passes_more _ bytes_cr _ 13 _ 0 refl (λ _. refl) (passes_more _ start _ 10 _ 0 refl (λ _. refl) (passes_none start))

-- the bytes of a chunk, and CR LF
passes_bytes : (bytes : List ℕ) (k : ℕ) → length bytes ≡ k + 1 → Passes (in_bytes k) (bytes ++ crlf_bytes) start 0
passes_bytes [] k sized = absurd (omega arith)
passes_bytes (b ∷ []) k sized =
    passes_more _ _ _ b _ 0 (cond-true _ _ _ (eq-eqb k 0 (omega arith))) (λ _. refl) passes_bytes_end
passes_bytes (b ∷ c ∷ bs) k sized =
    passes_more _ _ _ b _ 0 (cond-false _ _ _ (ne_eqb k 0 (omega arith))) (λ _. refl) (passes_bytes (c ∷ bs) (k - 1) (omega arith))

-- behind the size line of a segment
after_line_bytes : (n : ℕ) → 0 < n → after_line n ≡ in_bytes (n - 1)
after_line_bytes n some = cond-false _ _ _ (ne_eqb n 0 (omega arith))

-- the run of some bytes
run_at_some : (place n : ℕ) → 0 < n → run_at place n ≡ record { start = place; end = place + n } ∷ []
run_at_some place n some = cond-true _ _ _ (lt-ltb 0 n some)

-- a segment leads back to the start
after-segment : (s : Segment) → IsSegment s → after start (segment_text s) ≡ start
after-segment s ok =
    let size = length s.bytes in
    let some : 0 < size = ok.1 in
    let bytes = passes_bytes s.bytes (size - 1) (omega (arith, some)) in
    after-append start s.line _
    ∙ ap (λ p. after p (s.bytes ++ crlf_bytes)) ((passes_size_line s.line size ok.0).ends ∙ after_line_bytes size some)
    ∙ bytes.ends

-- the run of a segment at a place
abbrev run_of : ℕ → Segment → Run
run_of place s = record { start = place + length s.line; end = place + length s.line + length s.bytes }

-- the walk finds the run of a segment
runs_of-segment : (place : ℕ) (s : Segment) → IsSegment s → runs_of place start (segment_text s) ≡ run_of place s ∷ []
runs_of-segment place s ok =
    let size = length s.bytes in
    let line = passes_size_line s.line size ok.0 in
    let from = place + length s.line in
    let some : 0 < size = ok.1 in
    let bytes = passes_bytes s.bytes (size - 1) (omega (arith, some)) in
    runs_of-append place start s.line _
    ∙ ap (λ l. l ++ runs_of from (after start s.line) (s.bytes ++ crlf_bytes)) (line.runs place ∙ run_at_some from size some)
    ∙ ap (λ p. run_of place s ∷ runs_of from p (s.bytes ++ crlf_bytes)) (line.ends ∙ after_line_bytes size some)
    ∙ ap (λ l. run_of place s ∷ l) (bytes.runs from)

-- the walk finds the runs of the segments, if what follows has none
runs_of-segments : (ss : List Segment) (place : ℕ) (rest : List ℕ) → AllByRecursion IsSegment ss → ((at : ℕ) → runs_of at start rest ≡ [])
    → runs_of place start (flat_map segment_text ss ++ rest) ≡ segment_runs place ss
unfolding segment_runs
runs_of-segments [] place rest ok quiet = quiet place
runs_of-segments (s ∷ ss) place rest ok quiet =
    let next = place + length (segment_text s) in
    let others = flat_map segment_text ss ++ rest in
    ap (runs_of place start) (append_assoc (segment_text s) (flat_map segment_text ss) rest)
    ∙ runs_of-append place start (segment_text s) others
    ∙ ap (λ l. l ++ runs_of next (after start (segment_text s)) others) (runs_of-segment place s ok.0)
    ∙ ap (λ p. run_of place s ∷ runs_of next p others) (after-segment s ok.0)
    ∙ ap (λ l. run_of place s ∷ l) (runs_of-segments ss next rest ok.1 quiet)

-- ---- texts

-- the last size line and what follows it hold no run
runs_of-last : (last rest : List ℕ) (place : ℕ) → SaysSize last 0 → runs_of place start (last ++ rest) ≡ []
runs_of-last last rest place ok =
    let line = passes_size_line last 0 ok in
    let at = place + length last in
    runs_of-append place start last rest
    ∙ ap (λ r. r ++ runs_of at (after start last) rest) (line.runs place)
    ∙ ap (λ p. runs_of at p rest) line.ends
    ∙ runs_of_late at (after_line 0) rest refl

-- the walk finds the runs of a whole text, whatever follows
pub runs_of-text : (t : ChunkedText) (rest : List ℕ) → IsChunkedText t → runs_of 0 start (chunked_text t ++ rest) ≡ segment_runs 0 t.segments
runs_of-text t rest ok =
    let tail = section_text t.trailers ++ crlf_bytes in
    let regrouped : chunked_text t ++ rest ≡ flat_map segment_text t.segments ++ (t.last ++ (tail ++ rest)) =
    append_assoc (flat_map segment_text t.segments) (t.last ++ tail) rest
    ∙ ap (λ l. flat_map segment_text t.segments ++ l) (append_assoc t.last tail rest) in
    ap (runs_of 0 start) regrouped
    ∙ runs_of-segments t.segments 0 (t.last ++ (tail ++ rest)) ok.segments (λ at. runs_of-last t.last (tail ++ rest) at ok.last)
