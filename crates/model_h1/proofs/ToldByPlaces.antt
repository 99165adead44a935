-- What the places that some bytes lead to tell of them, in the form in which examples are stated.
use Rattle.std.proofs.Common.{◌≡◌, ℕ, ◌<◌, List, [], ◌∷◌, ◌++◌, length, take, refl, sym, ap, ◌∙◌, subst, arith}
use Rattle.std.specs.List.{AllByRecursion}
use Rattle.std.proofs.lemmas.List.{length-append, length-take-le, take_at}
use Rattle.model_h1.specs.ChunkedText.{Trailer, IsTrailer, section_text}
use Rattle.model_h1.specs.Runs.{cut_runs}
use Rattle.model_h1.specs.Chunked.{whole, unfinished, not_chunked, Spells, IsChunked}
use Rattle.model_h1.specs.Place.{Place, done, broken, start, step, after}
use Rattle.model_h1.specs.Reading.{Reading, goes_on, at_end, read}
use Rattle.model_h1.proofs.ReadAfter.{after-nil, after-cons, after-append}
use Rattle.model_h1.proofs.Trailers.{section_tells}
use Rattle.model_h1.proofs.RunPlaces.{runs_of}
use Rattle.model_h1.proofs.Beginnings.{body_read, runs_of-body, spells_begins}
use Rattle.model_h1.proofs.Verdicts.{IsLive, spells_from_done, unfinished_from_live, not_chunked_from_broken}

-- a place where a reading goes on
live_from : (place : Place) → at_end place ≡ goes_on → IsLive place
live_from place e = record {
  not_done = λ ends.
      let other = ap at_end ends in
      cc;
  not_broken = λ breaks.
      let other = ap at_end breaks in
      cc;
}

-- bytes that lead behind a body are whole, with the trailers that are read of them, whatever follows
pub whole_told : (bytes rest : List ℕ) (trailers : List Trailer) → after start bytes ≡ done → AllByRecursion IsTrailer trailers
    → (read start bytes).trailers ≡ section_text trailers → IsChunked (bytes ++ rest) (whole (length bytes) trailers) (runs_of 0 start bytes)
whole_told bytes rest trailers e ok told =
    let t = spells_from_done bytes e in
    let same = section_tells trailers t.0.trailers ok t.1.0.trailers (sym told ∙ ap (λ (r : Reading). r.trailers) (body_read bytes t.0 t.1)) in (
      t.0,
      omega (arith, length-append bytes rest),
      subst (λ l. Spells l t.0) (sym (take_at bytes rest (length bytes) refl)) t.1,
      same,
      runs_of-body bytes t.0 t.1,
    )

-- a proper front of bytes that lead behind a body is unfinished, with the runs as far as it reaches
pub front_told : (k : ℕ) (bytes : List ℕ) → after start bytes ≡ done → k < length bytes
    → IsChunked (take k bytes) unfinished (cut_runs k (runs_of 0 start bytes))
front_told k bytes e short =
    let t = spells_from_done bytes e in
    let reaches : length (take k bytes) ≡ k = length-take-le k bytes (omega arith) in
    (t.0, spells_begins k bytes t.0 short t.1, λ i. cut_runs (sym reaches i) (runs_of-body bytes t.0 t.1 i))

-- bytes behind which a reading goes on are unfinished
pub unfinished_told : (bytes : List ℕ) → at_end (after start bytes) ≡ goes_on
    → IsChunked bytes unfinished (cut_runs (length bytes) (runs_of 0 start bytes))
unfinished_told bytes e = unfinished_from_live bytes (live_from (after start bytes) e)

-- a byte that breaks a reading which goes on in front of it
pub broken_told : (front rest : List ℕ) (b : ℕ) → at_end (after start front) ≡ goes_on → step (after start front) b ≡ broken
    → IsChunked (front ++ b ∷ rest) not_chunked (cut_runs (length front) (runs_of 0 start front))
broken_told front rest b e breaks =
    not_chunked_from_broken front rest b (live_from (after start front) e)
    (after-append start front (b ∷ []) ∙ after-cons (after start front) b [] ∙ after-nil (step (after start front) b) ∙ breaks)
