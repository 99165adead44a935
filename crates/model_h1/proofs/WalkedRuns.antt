-- The runs of bytes are those that the walk finds, as far as the text is that of a body.
use Rattle.std.proofs.Common.{◌≡◌, ℕ, ◌+◌, ◌-◌, ◌<◌, ◌≤◌, false, eqb, ltb, min, List, [], ◌∷◌, ◌++◌, length, take, drop, refl, sym, ap, ◌∙◌, subst, arith, inl, inr}
use Rattle.std.specs.Prelude.{flat_map}
use Rattle.std.specs.List.{AllByRecursion}
use Rattle.std.proofs.lemmas.Bool.{cond-true, cond-false, lt-ltb, ne_eqb, cases_eq}
use Rattle.std.proofs.lemmas.List.{append-nil, length-append, length-take, length-take-le, take_all, take-append-drop}
use Rattle.httparse.specs.Ascii.{crlf_bytes}
use Rattle.model_h1.specs.ChunkedText.{Trailer, Segment, segment_text, section_text, ChunkedText}
use Rattle.model_h1.specs.Runs.{Run, segment_runs, cut_runs}
use Rattle.model_h1.specs.Chunked.{Chunked, whole, unfinished, not_chunked, Spells, IsLongestBeginning, IsChunked}
use Rattle.model_h1.specs.Place.{Place, in_bytes, bytes_end, broken, start, bytes_step, step, after}
use Rattle.model_h1.proofs.RunPlaces.{runs_of, runs_of-append, runs_of_late}
use Rattle.model_h1.proofs.RunBytes.{in_chunk, current, opened_is_current}
use Rattle.model_h1.proofs.Beginnings.{runs_of-body, runs_of-whole, begins_runs, begins_take_runs}
use Rattle.model_h1.proofs.Verdicts.{IsLive, begins_live, next_breaks}
use Rattle.model_h1.proofs.Agreement.{bytes_unbroken, one_more}

-- a run that ends within a length is not cut there
cut_within : (len : ℕ) (r : Run) (rs : List Run) → r.start < len → r.end ≤ len → cut_runs len rs ≡ rs → cut_runs len (r ∷ rs) ≡ r ∷ rs
unfolding cut_runs
cut_within len r rs starts ends e =
    let same : min r.end len ≡ r.end = omega arith in
    cond-true (ltb r.start len) _ [] (lt-ltb r.start len starts) ∙ (λ i. record { start = r.start; end = same i } ∷ e i)

-- so no run of the segments is, where these end within it
pub cut_segments : (ss : List Segment) (place len : ℕ) → place + length (flat_map segment_text ss) ≤ len
    → cut_runs len (segment_runs place ss) ≡ segment_runs place ss
unfolding segment_runs cut_runs
cut_segments [] place len within = refl
cut_segments (s ∷ ss) place len within =
    let whole_length = length-append (segment_text s) (flat_map segment_text ss) in
    let line_length = length-append s.line (s.bytes ++ crlf_bytes) in
    let bytes_length = length-append s.bytes crlf_bytes in
    let next = place + length (segment_text s) in
    cut_within len (record { start = place + length s.line; end = place + length s.line + length s.bytes }) (segment_runs next ss)
    (omega arith) (omega arith) (cut_segments ss next len (omega arith))

-- the runs of a whole body lie within it
pub cut_whole : (bytes : List ℕ) (t : ChunkedText) → Spells bytes t → cut_runs (length bytes) (segment_runs 0 t.segments) ≡ segment_runs 0 t.segments
cut_whole bytes t x =
    let size = ap length x.1 ∙ length-append (flat_map segment_text t.segments) (t.last ++ (section_text t.trailers ++ crlf_bytes)) in
    cut_segments t.segments 0 (length bytes) (omega arith)

-- how far the bytes are the text of a body
abbrev pub reach : (bytes : List ℕ) (a : Chunked) (runs : List Run) → IsChunked bytes a runs → ℕ
reach bytes (whole k trailers) runs x = k
reach bytes unfinished runs x = length bytes
reach bytes not_chunked runs x = x.1

-- the runs are those that the walk finds so far, whatever the kind of the bytes
pub runs_walked : (bytes : List ℕ) (a : Chunked) (runs : List Run) (x : IsChunked bytes a runs)
    → runs ≡ cut_runs (reach bytes a runs x) (runs_of 0 start (take (reach bytes a runs x) bytes))
runs_walked bytes (whole k trailers) runs x =
    x.4 ∙ sym (cut_whole (take k bytes) x.0 x.2)
    ∙ (λ i. cut_runs (length-take-le k bytes x.1 i) (sym (runs_of-body (take k bytes) x.0 x.2) i))
runs_walked bytes unfinished runs x =
    x.2 ∙ begins_runs bytes x.0 x.1
    ∙ ap (λ l. cut_runs (length bytes) (runs_of 0 start l)) (sym (take_all (length bytes) bytes (omega arith)))
runs_walked bytes not_chunked runs x = x.4 ∙ begins_take_runs x.1 bytes x.0 (omega (arith, x.2.within)) x.2.begins

-- those of a whole body are all that the walk finds in the bytes, and in the body alone
pub whole_runs : (bytes : List ℕ) (k : ℕ) (trailers : List Trailer) (runs : List Run) → IsChunked bytes (whole k trailers) runs
    → (runs ≡ runs_of 0 start bytes) × (runs ≡ runs_of 0 start (take k bytes))
whole_runs bytes k trailers runs x = (
  x.4 ∙ sym (runs_of-whole bytes k x.0 x.2),
  x.4 ∙ sym (runs_of-body (take k bytes) x.0 x.2),
)

-- ---- without a cut

-- runs that lie within a length
abbrev AllWithin : ℕ → List Run → Type 0
AllWithin len runs = AllByRecursion (λ r. (r.start < len) × (r.end ≤ len)) runs

-- they are not cut there
cut_all_within : (len : ℕ) (runs : List Run) → AllWithin len runs → cut_runs len runs ≡ runs
unfolding cut_runs
cut_all_within len [] within = refl
cut_all_within len (r ∷ runs) within = cut_within len r runs within.0.0 within.0.1 (cut_all_within len runs within.1)

-- no run goes on outside of a chunk
within_at_end : (len place : ℕ) (at : Place) → in_chunk at ≡ false → AllWithin len (current place at ++ [])
within_at_end len place (in_bytes more) outside = cc
within_at_end len place at outside = tt

-- one more byte of a chunk
within_chunk : (len place more : ℕ) (runs : List Run) → place < len → AllWithin len (current (place + 1) (bytes_step more) ++ runs)
    → AllWithin len (current place (in_bytes more) ++ runs)
within_chunk len place more runs starts x = elim (cases_eq more 0) [
  | inl zero ↦
      let rest = subst (λ n. AllWithin len (current (place + 1) (bytes_step n) ++ runs)) zero x in
      ((starts, omega arith), rest)
  | inr some ↦
      let next = cond-false (eqb more 0) bytes_end (in_bytes (more - 1)) (ne_eqb more 0 some) in
      let rest = subst (λ p. AllWithin len (current (place + 1) p ++ runs)) next x in
      ((starts, omega (arith, rest.0.1)), rest.1)
]

-- where the bytes don't end in a chunk, each run ends within them
within_walk : (text : List ℕ) (place len : ℕ) (at : Place) → place + length text ≤ len → in_chunk (after at text) ≡ false
    → AllWithin len (current place at ++ runs_of place at text)
unfolding runs_of after
within_walk [] place len at size outside = within_at_end len place at outside
within_walk (b ∷ text) place len (in_bytes more) size outside =
    within_chunk len place more (runs_of (place + 1) (bytes_step more) text) (omega arith)
    (within_walk text (place + 1) len (bytes_step more) (omega arith) outside)
within_walk (b ∷ text) place len at size outside =
    subst (λ l. AllWithin len (l ++ runs_of (place + 1) (step at b) text)) (sym (opened_is_current place at b refl))
    (within_walk text (place + 1) len (step at b) (omega arith) outside)

-- where the next byte breaks the body, it isn't in a chunk
breaks_outside : (at : Place) (bytes : List ℕ) → IsLive at → after at (take 1 bytes) ≡ broken → in_chunk at ≡ false
unfolding after
breaks_outside (in_bytes more) [] live e = cc
breaks_outside (in_bytes more) (b ∷ bytes) live e = absurd (bytes_unbroken more e)
breaks_outside at bytes live e = refl

-- and no run follows
breaks_runs : (place : ℕ) (at : Place) (bytes : List ℕ) → in_chunk at ≡ false → after at (take 1 bytes) ≡ broken → runs_of place at bytes ≡ []
unfolding after runs_of
breaks_runs place at [] outside e = refl
breaks_runs place at (b ∷ bytes) outside e =
    (λ i. (opened_is_current place at b outside ∙ ap (current (place + 1)) e) i ++ runs_of (place + 1) (e i) bytes)
    ∙ runs_of_late (place + 1) broken bytes refl

-- the byte that breaks the body stands outside of a chunk
longest_outside : (bytes : List ℕ) (len : ℕ) (t : ChunkedText) → IsLongestBeginning bytes len t
    → after (after start (take len bytes)) (take 1 (drop len bytes)) ≡ broken → in_chunk (after start (take len bytes)) ≡ false
longest_outside bytes len t x breaks =
    breaks_outside (after start (take len bytes)) (drop len bytes) (begins_live (take len bytes) t x.begins) breaks

-- so the walk finds no more runs than in the longest beginning, and all lie within it
longest_runs : (bytes : List ℕ) (len n : ℕ) (t : ChunkedText) → IsLongestBeginning bytes len t
    → ((k : ℕ) (u : ChunkedText) → ¬ (Spells (take k bytes) u)) → len ≤ n
    → (runs_of 0 start (take len bytes) ≡ runs_of 0 start bytes) × (cut_runs n (runs_of 0 start (take len bytes)) ≡ runs_of 0 start (take len bytes))
longest_runs bytes len n t x none longer =
    let front = take len bytes in
    let at = after start front in
    let breaks = one_more bytes len ∙ next_breaks bytes len t x none in
    let outside = longest_outside bytes len t x breaks in
    let size : 0 + length front ≤ n = omega (arith, length-take len bytes) in (
      sym (append-nil (runs_of 0 start front))
          ∙ ap (λ l. runs_of 0 start front ++ l) (sym (breaks_runs (0 + length front) at (drop len bytes) outside breaks))
          ∙ sym (runs_of-append 0 start front (drop len bytes)) ∙ ap (runs_of 0 start) (take-append-drop len bytes),
      cut_all_within n (runs_of 0 start front) (within_walk front 0 n start size outside),
    )

-- the runs of bytes that begin no body are all that the walk finds in them
pub broken_runs : (bytes : List ℕ) (runs : List Run) → IsChunked bytes not_chunked runs → runs ≡ runs_of 0 start bytes
broken_runs bytes runs x =
    let walked = longest_runs bytes x.1 x.1 x.0 x.2 x.3 (omega arith) in
    runs_walked bytes not_chunked runs x ∙ walked.1 ∙ walked.0

-- the runs of any bytes are those that the walk finds in them, as far as they reach
pub runs_cut : (bytes : List ℕ) (a : Chunked) (runs : List Run) → IsChunked bytes a runs → runs ≡ cut_runs (length bytes) (runs_of 0 start bytes)
runs_cut bytes (whole k trailers) runs x =
    let size = ap length x.2.1 ∙ length-append (flat_map segment_text x.0.segments) (x.0.last ++ (section_text x.0.trailers ++ crlf_bytes)) in
    let within : 0 + length (flat_map segment_text x.0.segments) ≤ length bytes = omega (arith, length-take k bytes) in
    x.4 ∙ sym (cut_segments x.0.segments 0 (length bytes) within)
    ∙ ap (cut_runs (length bytes)) (sym x.4 ∙ (whole_runs bytes k trailers runs x).0)
runs_cut bytes unfinished runs x = x.2 ∙ begins_runs bytes x.0 x.1
runs_cut bytes not_chunked runs x =
    let walked = longest_runs bytes x.1 (length bytes) x.0 x.2 x.3 (omega (arith, x.2.within)) in
    broken_runs bytes runs x ∙ sym walked.0 ∙ sym walked.1 ∙ ap (cut_runs (length bytes)) walked.0
