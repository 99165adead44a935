-- The grammar and the reading agree, byte by byte.
use Rattle.std.proofs.Common.{◌≡◌, ℕ, ◌+◌, ◌-◌, eqb, List, [], ◌∷◌, ◌++◌, length, take, drop, refl, sym, ap, ◌∙◌, arith}
use Rattle.std.proofs.lemmas.Bool.{cond_both}
use Rattle.std.proofs.lemmas.List.{append-nil, take-take, take_all, drop-take, take-append-drop}
use Rattle.model_h1.specs.ChunkedText.{Trailer, ChunkedText, section_text, content}
use Rattle.model_h1.specs.Runs.{Run, segment_runs, cut_runs, run_bytes}
use Rattle.model_h1.specs.Chunked.{Chunked, whole, unfinished, not_chunked, Spells, IsLongestBeginning, IsChunked}
use Rattle.model_h1.specs.Place.{Place, in_bytes, bytes_end, in_section, broken, start, bytes_step, step, after}
use Rattle.model_h1.specs.Reading.{goes_on, is_broken, ends_before, Reading, only, noted, read}
use Rattle.model_h1.proofs.ReadSteps.{has_next, read-cons, read_broken}
use Rattle.model_h1.proofs.ReadAfter.{after-nil, after-cons, after-append, read-append, joined, ending_after}
use Rattle.model_h1.proofs.RunPlaces.{runs_of}
use Rattle.model_h1.proofs.RunBytes.{cut_bytes, body_is_walked}
use Rattle.model_h1.proofs.Beginnings.{front_read, body_read, runs_of-body, runs_of-whole, begins_runs, begins_take_runs}
use Rattle.model_h1.proofs.Verdicts.{IsLive, live_end, begins_live, unfinished_after, next_breaks}

-- ---- whole bodies

-- what is read where a front of the bytes is a whole body
pub read_whole : (bytes : List ℕ) (k : ℕ) (t : ChunkedText) → Spells (take k bytes) t
    → read start bytes ≡ record { body = content t; trailers = section_text t.trailers; ending = ends_before (drop k bytes) }
read_whole bytes k t x =
    ap (read start) (sym (take-append-drop k bytes)) ∙ front_read (take k bytes) (drop k bytes) t x

-- a whole body's end and trailers
pub whole_read : (bytes : List ℕ) (k : ℕ) (trailers : List Trailer) (runs : List Run) → IsChunked bytes (whole k trailers) runs
    → ((read start bytes).ending ≡ ends_before (drop k bytes)) × ((read start bytes).trailers ≡ section_text trailers)
whole_read bytes k trailers runs x =
    let r = read_whole bytes k x.0 x.2 in
    (ap (λ (r : Reading). r.ending) r, ap (λ (r : Reading). r.trailers) r ∙ ap section_text (sym x.3))

-- the runs of a whole body hold its bytes
pub runs_hold : (bytes : List ℕ) (t : ChunkedText) → Spells bytes t → run_bytes bytes (segment_runs 0 t.segments) ≡ content t
runs_hold bytes t x =
    ap (run_bytes bytes) (sym (runs_of-body bytes t x)) ∙ sym (body_is_walked bytes)
    ∙ ap (λ (r : Reading). r.body) (body_read bytes t x)

-- its runs hold what is read as the body
whole_bytes : (bytes : List ℕ) (k : ℕ) (t : ChunkedText) → Spells (take k bytes) t
    → (read start bytes).body ≡ run_bytes bytes (segment_runs 0 t.segments)
whole_bytes bytes k t x = body_is_walked bytes ∙ ap (run_bytes bytes) (runs_of-whole bytes k t x)

-- ---- beginnings

-- an unfinished body goes on
pub unfinished_read : (bytes : List ℕ) (runs : List Run) → IsChunked bytes unfinished runs → (read start bytes).ending ≡ goes_on
unfinished_read bytes runs x =
    let live = unfinished_after bytes runs x in
    ending_after start bytes live.not_broken ∙ live_end (after start bytes) live

-- the runs cut to a length hold what is read of a front of that length
cut_read : (bytes : List ℕ) (n : ℕ) → run_bytes bytes (cut_runs n (runs_of 0 start (take n bytes))) ≡ (read start (take n bytes)).body
cut_read bytes n = cut_bytes (take n bytes) bytes n 0 start ∙ sym (body_is_walked (take n bytes))

-- the same of all bytes
cut_read_all : (bytes : List ℕ) → run_bytes bytes (cut_runs (length bytes) (runs_of 0 start bytes)) ≡ (read start bytes).body
cut_read_all bytes =
    cut_bytes bytes bytes (length bytes) 0 start
    ∙ ap (λ l. run_bytes l (runs_of 0 start bytes)) (take_all (length bytes) bytes (omega arith)) ∙ sym (body_is_walked bytes)

-- ---- what is broken

-- a byte of a chunk breaks nothing
pub bytes_unbroken : (more : ℕ) → bytes_step more ≡ broken → ⊥
bytes_unbroken more = cond_both (eqb more 0) bytes_end (in_bytes (more - 1)) (λ p. p ≡ broken → ⊥) (λ _ e. cc) (λ _ e. cc)

-- the byte that breaks is none of the body's
noted_broken : (place next : Place) (b : ℕ) (r : Reading) → step place b ≡ next → next ≡ broken → noted place next b r ≡ r
noted_broken (in_bytes more) next b r e breaks = absurd (bytes_unbroken more (e ∙ breaks))
noted_broken (in_section at lines room) (in_section at' lines' room') b r e breaks = cc
noted_broken place next b r e breaks = refl

-- where the next byte breaks a body that goes on, nothing more is read
read_breaks : (place : Place) (bytes : List ℕ) → IsLive place → after place (take 1 bytes) ≡ broken → read place bytes ≡ only is_broken
read_breaks place [] live e = absurd (live.not_broken (sym (after-nil place) ∙ e))
read_breaks place (b ∷ bytes) live e =
    let breaks : step place b ≡ broken = sym (after-nil (step place b)) ∙ sym (after-cons place b []) ∙ e in
    read-cons place b bytes (has_next place live.not_done)
    ∙ noted_broken place (step place b) b (read (step place b) bytes) refl breaks
    ∙ ap (λ p. read p bytes) breaks ∙ read_broken bytes

-- the byte behind a front
pub one_more : (bytes : List ℕ) (n : ℕ) → after (after start (take n bytes)) (take 1 (drop n bytes)) ≡ after start (take (n + 1) bytes)
one_more bytes n =
    let front = take-take n (n + 1) bytes (omega arith) in
    let last = drop-take n 1 bytes in
    sym (after-append start (take n bytes) (take 1 (drop n bytes)))
    ∙ ap (after start) ((λ i. sym front i ++ sym last i) ∙ take-append-drop n (take (n + 1) bytes))

-- what is read of bytes that begin no body is what is read of their longest beginning, and that it is broken
read_longest : (bytes : List ℕ) (len : ℕ) (t : ChunkedText) → IsLongestBeginning bytes len t
    → ((k : ℕ) (u : ChunkedText) → ¬ (Spells (take k bytes) u)) → read start bytes ≡ joined (read start (take len bytes)) (only is_broken)
read_longest bytes len t x none =
    let front = take len bytes in
    let live = begins_live front t x.begins in
    ap (read start) (sym (take-append-drop len bytes))
    ∙ read-append start front (drop len bytes) live.not_broken
    ∙ ap (joined (read start front)) (read_breaks (after start front) (drop len bytes) live (one_more bytes len ∙ next_breaks bytes len t x none))

-- bytes that begin no body are broken
pub broken_read : (bytes : List ℕ) (runs : List Run) → IsChunked bytes not_chunked runs → (read start bytes).ending ≡ is_broken
broken_read bytes runs x = ap (λ (r : Reading). r.ending) (read_longest bytes x.1 x.0 x.2 x.3)

-- ---- the body's bytes

-- the runs hold what is read as the body, whatever the kind of the bytes
pub runs_read : (bytes : List ℕ) (a : Chunked) (runs : List Run) → IsChunked bytes a runs → (read start bytes).body ≡ run_bytes bytes runs
runs_read bytes (whole k trailers) runs x = whole_bytes bytes k x.0 x.2 ∙ ap (run_bytes bytes) (sym x.4)
runs_read bytes unfinished runs x =
    sym (cut_read_all bytes) ∙ ap (run_bytes bytes) (sym (begins_runs bytes x.0 x.1) ∙ sym x.2)
runs_read bytes not_chunked runs x =
    ap (λ (r : Reading). r.body) (read_longest bytes x.1 x.0 x.2 x.3) ∙ append-nil (read start (take x.1 bytes)).body
    ∙ sym (cut_read bytes x.1)
    ∙ ap (run_bytes bytes) (sym (begins_take_runs x.1 bytes x.0 (omega (arith, x.2.within)) x.2.begins) ∙ sym x.4)
