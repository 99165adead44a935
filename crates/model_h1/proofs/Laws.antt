-- The laws of bodies in chunks: bytes stand to them in one way, and the bytes that follow only add to it.
use Rattle.std.proofs.Common.{◌≡◌, ℕ, ◌<◌, ◌≤◌, List, ◌++◌, length, take, refl, sym, ap, ◌∙◌, subst, arith, inl, inr}
use Rattle.std.proofs.lemmas.List.{take-append-le, take-take, take_all, take_at, length-take, length-append, append-nil, nil_from_length}
use Rattle.std.proofs.lemmas.Bool.{cases_lt, cases_order}
use Rattle.model_h1.specs.ChunkedText.{Trailer, ChunkedText}
use Rattle.model_h1.specs.Runs.{Run, segment_runs, cut_runs}
use Rattle.model_h1.specs.Chunked.{Chunked, whole, unfinished, not_chunked, Spells, IsBeginning, IsLongestBeginning, IsChunked}
use Rattle.model_h1.specs.Place.{start}
use Rattle.model_h1.specs.Reading.{Reading}
use Rattle.model_h1.proofs.Trailers.{section_tells}
use Rattle.model_h1.proofs.RunPlaces.{runs_of}
use Rattle.model_h1.proofs.Cuts.{cut_runs-cut_runs}
use Rattle.model_h1.proofs.Beginnings.{body_read, runs_of-body, begins_front, begins_take, whole_begins, longer_begins, spells_begins, whole_not_begun, begins_runs, begins_take_runs}

-- ---- one way

-- two whole bodies at the front of the bytes end at one place
same_end : (bytes : List ℕ) (j k : ℕ) (t u : ChunkedText) → j ≤ length bytes → k ≤ length bytes → Spells (take j bytes) t → Spells (take k bytes) u
    → j ≡ k
same_end bytes j k t u j_in k_in x y = elim (cases_order j k) [
  | inl same ↦ same
  | inr (inl less) ↦ absurd (whole_not_begun (take j bytes) t u x (whole_begins j k bytes u less k_in y))
  | inr (inr less) ↦ absurd (whole_not_begun (take k bytes) u t y (whole_begins k j bytes t less j_in x))
]

-- two bodies of the same bytes have the same trailers, as these are read of them
same_trailers : (bytes : List ℕ) (t u : ChunkedText) → Spells bytes t → Spells bytes u → t.trailers ≡ u.trailers
same_trailers bytes t u x y =
    section_tells t.trailers u.trailers x.0.trailers y.0.trailers
    (ap (λ (r : Reading). r.trailers) (sym (body_read bytes t x) ∙ body_read bytes u y))

-- two longest beginnings are of one length
same_front : (bytes : List ℕ) (j k : ℕ) (t u : ChunkedText) → IsLongestBeginning bytes j t → IsLongestBeginning bytes k u → j ≡ k
same_front bytes j k t u x y = elim (cases_order j k) [
  | inl same ↦ same
  | inr (inl less) ↦ absurd (x.longest k less (omega (arith, y.within)) u y.begins)
  | inr (inr less) ↦ absurd (y.longest j less (omega (arith, x.within)) t x.begins)
]

-- bytes that begin a body have no longest beginning before their end
no_longest : (bytes : List ℕ) (t u : ChunkedText) (n : ℕ) → IsBeginning bytes t → IsLongestBeginning bytes n u → ⊥
no_longest bytes t u n x y =
    y.longest (length bytes) y.within (omega arith) t (subst (λ l. IsBeginning l t) (sym (take_all (length bytes) bytes (omega arith))) x)

-- two whole bodies at the front of the bytes
whole_unique : (bytes : List ℕ) (j k : ℕ) (a b : List Trailer) (runs runs' : List Run) → IsChunked bytes (whole j a) runs
    → IsChunked bytes (whole k b) runs' → (whole j a ≡ whole k b) × (runs ≡ runs')
whole_unique bytes j k a b runs runs' x y =
    let same = same_end bytes j k x.0 y.0 x.1 y.1 x.2 y.2 in
    let trailers = same_trailers (take j bytes) x.0 y.0 x.2 (subst (λ n. Spells (take n bytes) y.0) (sym same) y.2) in
    let both : a ≡ b = x.3 ∙ trailers ∙ sym y.3 in (
      λ i. whole (same i) (both i),
      x.4 ∙ sym (runs_of-body (take j bytes) x.0 x.2) ∙ ap (λ n. runs_of 0 start (take n bytes)) same
          ∙ runs_of-body (take k bytes) y.0 y.2 ∙ sym y.4,
    )

-- bytes stand in one way to the bodies in chunks, and have one list of runs: two kinds exclude each other
pub chunked_unique : (bytes : List ℕ) (a b : Chunked) (runs runs' : List Run) → IsChunked bytes a runs → IsChunked bytes b runs'
    → (a ≡ b) × (runs ≡ runs')
chunked_unique bytes (whole j a) (whole k b) runs runs' x y = whole_unique bytes j k a b runs runs' x y
chunked_unique bytes (whole j a) unfinished runs runs' x y =
    absurd (whole_not_begun (take j bytes) x.0 y.0 x.2 (begins_take j bytes y.0 y.1))
chunked_unique bytes (whole j a) not_chunked runs runs' x y = absurd (y.3 j x.0 x.2)
chunked_unique bytes unfinished (whole k b) runs runs' x y =
    absurd (whole_not_begun (take k bytes) y.0 x.0 y.2 (begins_take k bytes x.0 x.1))
chunked_unique bytes unfinished unfinished runs runs' x y =
    (refl, x.2 ∙ begins_runs bytes x.0 x.1 ∙ sym (begins_runs bytes y.0 y.1) ∙ sym y.2)
chunked_unique bytes unfinished not_chunked runs runs' x y = absurd (no_longest bytes x.0 y.0 y.1 x.1 y.2)
chunked_unique bytes not_chunked (whole k b) runs runs' x y = absurd (x.3 k y.0 y.2)
chunked_unique bytes not_chunked unfinished runs runs' x y = absurd (no_longest bytes y.0 x.0 x.1 y.1 x.2)
chunked_unique bytes not_chunked not_chunked runs runs' x y =
    let same = same_front bytes x.1 y.1 x.0 y.0 x.2 y.2 in (
      refl,
      x.4 ∙ begins_take_runs x.1 bytes x.0 (omega (arith, x.2.within)) x.2.begins
          ∙ ap (λ n. cut_runs n (runs_of 0 start (take n bytes))) same
          ∙ sym (begins_take_runs y.1 bytes y.0 (omega (arith, y.2.within)) y.2.begins) ∙ sym y.4,
    )

-- ---- when bytes follow

-- a whole body stays
pub whole_stays : (bytes more : List ℕ) (k : ℕ) (trailers : List Trailer) (runs : List Run) → IsChunked bytes (whole k trailers) runs
    → IsChunked (bytes ++ more) (whole k trailers) runs
whole_stays bytes more k trailers runs x =
    (x.0, omega (arith, x.1, length-append bytes more), subst (λ l. Spells l x.0) (sym (take-append-le k bytes more x.1)) x.2, x.3, x.4)

-- a front of the bytes is a front of the longer text
begins_shorter : (bytes more : List ℕ) (n : ℕ) (t : ChunkedText) → n ≤ length bytes → IsBeginning (take n (bytes ++ more)) t
    → IsBeginning (take n bytes) t
begins_shorter bytes more n t within x = subst (λ l. IsBeginning l t) (take-append-le n bytes more within) x

-- the longer text has no longer beginning
longest_stays : (bytes more : List ℕ) (len n : ℕ) (t u : ChunkedText) → IsLongestBeginning bytes len t → len < n
    → IsBeginning (take n (bytes ++ more)) u
    → ⊥
longest_stays bytes more len n t u x longer y = elim (cases_lt (length bytes) n) [
  | inl past ↦
      let begun = longer_begins (length bytes) n (bytes ++ more) u (omega arith) y in
      x.longest (length bytes) x.within (omega arith) u (begins_shorter bytes more (length bytes) u (omega arith) begun)
  | inr within ↦ x.longest n longer within u (begins_shorter bytes more n u within y)
]

-- where some bytes follow, no front of the longer text is a whole body
no_whole_longer : (bytes more : List ℕ) (len k : ℕ) (t u : ChunkedText) → IsLongestBeginning bytes len t
    → ((j : ℕ) (d : ChunkedText) → ¬ (Spells (take j bytes) d)) → 0 < length more → Spells (take k (bytes ++ more)) u → ⊥
no_whole_longer bytes more len k t u x none some y = elim (cases_lt (length bytes) k) [
  | inl past ↦
      let text = take k (bytes ++ more) in
      let longer : length bytes < length text = omega (arith, length-take k (bytes ++ more), length-append bytes more) in
      let front = take-take (length bytes) k (bytes ++ more) (omega arith) in
      let begun = subst (λ l. IsBeginning l u) front (spells_begins (length bytes) text u longer y) in
      longest_stays bytes more len (length bytes) t u x x.within begun
  | inr within ↦ none k u (subst (λ l. Spells l u) (take-append-le k bytes more within) y)
]

-- nor where none follow
no_whole_stays : (bytes more : List ℕ) (len k : ℕ) (t u : ChunkedText) → IsLongestBeginning bytes len t
    → ((j : ℕ) (d : ChunkedText) → ¬ (Spells (take j bytes) d)) → Spells (take k (bytes ++ more)) u → ⊥
no_whole_stays bytes more len k t u x none y = elim (cases_lt 0 (length more)) [
  | inl some ↦ no_whole_longer bytes more len k t u x none some y
  | inr empty ↦
      let same : bytes ++ more ≡ bytes = ap (λ l. bytes ++ l) (nil_from_length more (omega arith)) ∙ append-nil bytes in
      none k u (subst (λ l. Spells (take k l) u) same y)
]

-- bytes that begin no body stay so: the same tree, length and runs serve the longer text
pub broken_stays : (bytes more : List ℕ) (runs : List Run) → IsChunked bytes not_chunked runs → IsChunked (bytes ++ more) not_chunked runs
broken_stays bytes more runs x = (
  x.0,
  x.1,
  record {
    within = omega (arith, length-append bytes more, x.2.within);
    begins = subst (λ l. IsBeginning l x.0) (sym (take-append-le x.1 bytes more (omega (arith, x.2.within)))) x.2.begins;
    longest = λ n longer _ c. longest_stays bytes more x.1 n x.0 c x.2 longer;
  },
  λ k c. no_whole_stays bytes more x.1 k x.0 c x.2 x.3,
  x.4,
)

-- ---- runs when bytes follow

-- bytes at the front of a text, as a beginning
front_begins : (bytes more : List ℕ) (t : ChunkedText) → IsBeginning (take (length bytes) (bytes ++ more)) t → IsBeginning bytes t
front_begins bytes more t x = subst (λ l. IsBeginning l t) (take_at bytes more (length bytes) refl) x

-- a body that is whole in the longer text ends behind the beginning
ends_later : (bytes more : List ℕ) (k : ℕ) (t u : ChunkedText) → IsBeginning bytes t → Spells (take k (bytes ++ more)) u → length bytes < k
ends_later bytes more k t u x y = elim (cases_lt (length bytes) k) [
  | inl later ↦ later
  | inr within ↦
      let shorter = subst (λ l. Spells l u) (take-append-le k bytes more within) y in
      absurd (whole_not_begun (take k bytes) u t shorter (begins_take k bytes t x))
]

-- a longest beginning of the longer text is no shorter than the bytes
reaches : (bytes more : List ℕ) (len : ℕ) (t u : ChunkedText) → IsBeginning bytes t → IsLongestBeginning (bytes ++ more) len u → length bytes ≤ len
reaches bytes more len t u x y = elim (cases_lt len (length bytes)) [
  | inl short ↦
      let begun = subst (λ l. IsBeginning l t) (sym (take_at bytes more (length bytes) refl)) x in
      absurd (y.longest (length bytes) short (omega (arith, length-append bytes more)) t begun)
  | inr long ↦ long
]

-- the runs of two bodies that the bytes begin
same_runs : (bytes : List ℕ) (t u : ChunkedText) → IsBeginning bytes t → IsBeginning bytes u
    → cut_runs (length bytes) (segment_runs 0 t.segments) ≡ cut_runs (length bytes) (segment_runs 0 u.segments)
same_runs bytes t u x y = begins_runs bytes t x ∙ sym (begins_runs bytes u y)

-- the runs of a beginning are those of any longer text, as far as it reaches
pub runs_grow : (bytes more : List ℕ) (a : Chunked) (runs runs' : List Run) → IsChunked bytes unfinished runs → IsChunked (bytes ++ more) a runs'
    → runs ≡ cut_runs (length bytes) runs'
runs_grow bytes more (whole k trailers) runs runs' x y =
    let later = ends_later bytes more k x.0 y.0 x.1 y.2 in
    let begun = front_begins bytes more y.0 (whole_begins (length bytes) k (bytes ++ more) y.0 later y.1 y.2) in
    x.2 ∙ same_runs bytes x.0 y.0 x.1 begun ∙ ap (cut_runs (length bytes)) (sym y.4)
runs_grow bytes more unfinished runs runs' x y =
    let n = length bytes in
    let within : n ≤ length (bytes ++ more) = omega (arith, length-append bytes more) in
    x.2 ∙ same_runs bytes x.0 y.0 x.1 (begins_front bytes more y.0 y.1)
    ∙ sym (ap (cut_runs n) y.2 ∙ cut_runs-cut_runs (segment_runs 0 y.0.segments) n (length (bytes ++ more)) within)
runs_grow bytes more not_chunked runs runs' x y =
    let n = length bytes in
    let within = reaches bytes more y.1 x.0 y.0 x.1 y.2 in
    let begun = front_begins bytes more y.0 (longer_begins n y.1 (bytes ++ more) y.0 within y.2.begins) in
    x.2 ∙ same_runs bytes x.0 y.0 x.1 begun
    ∙ sym (ap (cut_runs n) y.4 ∙ cut_runs-cut_runs (segment_runs 0 y.0.segments) n y.1 within)
