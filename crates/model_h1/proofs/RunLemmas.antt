-- The runs of a body and their bytes, when bytes follow.
use Rattle.std.proofs.Common.{◌≡◌, ℕ, ◌+◌, ◌-◌, ◌<◌, ◌≤◌, min, List, [], ◌∷◌, ◌++◌, length, take, drop, slice_range, nat_lt, refl, sym, ap, ap₂, ◌∙◌, subst, inl, inr, arith, append_assoc, append-nil, length-append, le-ltb, lt-ltb}
use Rattle.std.specs.Prelude.{flat_map}
use Rattle.std.proofs.lemmas.Bool.{cond-true, cond-false, cases_lt}
use Rattle.std.proofs.lemmas.List.{take-append-drop, take-take, drop-drop, length-take}
use Rattle.model_h1.specs.ChunkedText.{Segment, segment_text, section_text}
use Rattle.model_h1.specs.Chunked.{Chunked, whole, unfinished, not_chunked, IsChunked}
use Rattle.model_h1.specs.Runs.{Run, segment_runs, cut_runs, run_bytes}
use Rattle.httparse.specs.Ascii.{crlf_bytes}
use Rattle.model_h1.specs.Parse.{shifted, run_between}
use Rattle.model_h1.specs.Handed.{Begins}
use Rattle.model_h1.proofs.HeadPieceLemmas.{slice_range-append}

-- ---- a list that begins another

-- a list begins the same list
pub begins_same : {A : Type 0} → (a b : List A) → a ≡ b → Begins a b
begins_same a b e = ([], sym e ∙ sym (append-nil a))

-- fewer elements of a list begin more of them
take_longer : (m n : ℕ) (text : List ℕ) → m ≤ n → Begins (take m text) (take n text)
take_longer m n text less =
    (drop m (take n text), sym (take-append-drop m (take n text)) ∙ ap (λ (t : List ℕ). t ++ drop m (take n text)) (take-take m n text less))

-- a part begins the part that ends later
pub slice_longer : (text : List ℕ) (s e e' : ℕ) → e ≤ e' → Begins (slice_range text s e) (slice_range text s e')
slice_longer text s e e' less = take_longer (e - s) (e' - s) (drop s text) (omega arith)

-- ---- runs in order

-- the runs stand one behind another, from a place on and up to another
abbrev pub IsOrdered : ℕ → ℕ → List Run → Type 0
IsOrdered from upto [] = from ≤ upto
IsOrdered from upto (r ∷ rs) = (from ≤ r.start) × (r.start ≤ r.end) × IsOrdered r.end upto rs

-- they end behind their first place
pub ordered_bound : (from upto : ℕ) (rs : List Run) → IsOrdered from upto rs → from ≤ upto
ordered_bound from upto [] x = x
ordered_bound from upto (r ∷ rs) x = let later = ordered_bound r.end upto rs x.2 in omega (arith, x.0, x.1)

-- they may end later
pub ordered_wider : (from upto to : ℕ) (rs : List Run) → upto ≤ to → IsOrdered from upto rs → IsOrdered from to rs
ordered_wider from upto to [] less x = omega arith
ordered_wider from upto to (r ∷ rs) less x = (x.0, x.1, ordered_wider r.end upto to rs less x.2)

-- they may begin sooner
pub ordered_sooner : (sooner from upto : ℕ) (rs : List Run) → sooner ≤ from → IsOrdered from upto rs → IsOrdered sooner upto rs
ordered_sooner sooner from upto [] less x = omega arith
ordered_sooner sooner from upto (r ∷ rs) less x = (omega (arith, x.0), x.1, x.2)

-- the runs of segments are in order, within the text of the segments
segment_runs_ordered : (place : ℕ) (segments : List Segment)
    → IsOrdered place (place + length (flat_map segment_text segments)) (segment_runs place segments)
unfolding segment_runs
segment_runs_ordered place [] = omega arith
segment_runs_ordered place (s ∷ more) =
    let len = length-append s.line (s.bytes ++ crlf_bytes) in
    let len' = length-append s.bytes crlf_bytes in
    let behind = place + length (segment_text s) in
    let all = length-append (segment_text s) (flat_map segment_text more) in
    let others = ordered_wider behind (behind + length (flat_map segment_text more)) (place + length (segment_text s ++ flat_map segment_text more))
    (segment_runs behind more) (omega arith) (segment_runs_ordered behind more) in
    (omega arith, omega arith, ordered_sooner (place + length s.line + length s.bytes) behind _ (segment_runs behind more) (omega arith) others)

-- a run that begins before the cut
pub cut_more : (n : ℕ) (r : Run) (rs : List Run) → r.start < n → cut_runs n (r ∷ rs) ≡ record { start = r.start; end = min r.end n } ∷ cut_runs n rs
unfolding cut_runs
cut_more n r rs less = cond-true (nat_lt r.start n) _ _ (lt-ltb r.start n less)

-- a run that begins behind it
pub cut_end : (n : ℕ) (r : Run) (rs : List Run) → n ≤ r.start → cut_runs n (r ∷ rs) ≡ []
unfolding cut_runs
cut_end n r rs past = cond-false (nat_lt r.start n) _ _ (le-ltb r.start n past)

-- no run
pub cut_nil : (n : ℕ) → cut_runs n [] ≡ []
unfolding cut_runs
cut_nil n = refl

-- of runs behind the cut none is left
pub cut_none : (n from upto : ℕ) (rs : List Run) → n ≤ from → IsOrdered from upto rs → cut_runs n rs ≡ []
cut_none n from upto [] past x = cut_nil n
cut_none n from upto (r ∷ rs) past x = cut_end n r rs (omega (arith, x.0))

-- what is left is in order, up to the cut
pub cut_ordered : (n from upto : ℕ) (rs : List Run) → from ≤ n → IsOrdered from upto rs → IsOrdered from n (cut_runs n rs)
cut_ordered n from upto [] less x = subst (IsOrdered from n) (sym (cut_nil n)) less
cut_ordered n from upto (r ∷ rs) less x =
    elim (cases_lt r.start n) [
      | inr past ↦ subst (IsOrdered from n) (sym (cut_end n r rs past)) less
      | inl before ↦ subst (IsOrdered from n) (sym (cut_more n r rs before)) (
        x.0,
        omega (arith, x.1),
        elim (cases_lt n r.end) [
          | inl past ↦ subst (IsOrdered (min r.end n) n) (sym (cut_none n r.end upto rs (omega arith) x.2)) (omega arith)
          | inr fits ↦ ordered_sooner (min r.end n) r.end n (cut_runs n rs) (omega arith) (cut_ordered n r.end upto rs fits x.2)
        ],
      )
    ]

-- the runs of a text in chunks are in order and within the text
pub chunked_ordered : (bytes : List ℕ) (a : Chunked) (runs : List Run) → IsChunked bytes a runs → IsOrdered 0 (length bytes) runs
chunked_ordered bytes (whole k trailers) runs x =
    let t = x.0 in
    let text = ap length x.2.1 in
    let parts = length-append (flat_map segment_text t.segments) (t.last ++ (section_text t.trailers ++ crlf_bytes)) in
    subst (IsOrdered 0 (length bytes)) (sym x.4)
    (ordered_wider 0 (0 + length (flat_map segment_text t.segments)) (length bytes) (segment_runs 0 t.segments) (omega (arith, length-take k bytes))
    (segment_runs_ordered 0 t.segments))
chunked_ordered bytes unfinished runs x =
    subst (IsOrdered 0 (length bytes)) (sym x.2)
    (cut_ordered (length bytes) 0 _ (segment_runs 0 x.0.segments) (omega arith) (segment_runs_ordered 0 x.0.segments))
chunked_ordered bytes not_chunked runs x =
    let cut = cut_ordered x.1 0 _ (segment_runs 0 x.0.segments) (omega arith) (segment_runs_ordered 0 x.0.segments) in
    subst (IsOrdered 0 (length bytes)) (sym x.4) (ordered_wider 0 x.1 (length bytes) _ (omega (arith, x.2.within)) cut)

-- ---- their bytes

-- the bytes of runs within the first bytes are the same when bytes follow
pub runs_more : (bytes more : List ℕ) (from upto : ℕ) (rs : List Run) → upto ≤ length bytes → IsOrdered from upto rs
    → run_bytes (bytes ++ more) rs ≡ run_bytes bytes rs
runs_more bytes more from upto [] within x = refl
runs_more bytes more from upto (r ∷ rs) within x =
    let bound = ordered_bound r.end upto rs x.2 in
    ap₂ (λ (a b : List ℕ). a ++ b) (slice_range-append bytes more r.start r.end x.1 (omega arith)) (runs_more bytes more r.end upto rs within x.2)

-- one run's bytes, and what follows them
begins_more : (front a b : List ℕ) → Begins a b → Begins (front ++ a) (front ++ b)
begins_more front a b x = (x.0, ap (λ (t : List ℕ). front ++ t) x.1 ∙ sym (append_assoc front a x.0))

-- a list begins what that list and more is
begins_front : (a b more : List ℕ) → Begins a b → Begins (a ++ []) (b ++ more)
begins_front a b more x =
    (x.0 ++ more, ap (λ (t : List ℕ). t ++ more) x.1 ∙ append_assoc a x.0 more ∙ ap (λ (t : List ℕ). t ++ (x.0 ++ more)) (sym (append-nil a)))

-- the bytes of the runs up to a cut begin those of the runs
pub cut_begins : (text : List ℕ) (n from upto : ℕ) (rs : List Run) → IsOrdered from upto rs
    → Begins (run_bytes text (cut_runs n rs)) (run_bytes text rs)
cut_begins text n from upto [] x = begins_same _ _ (ap (run_bytes text) (cut_nil n))
cut_begins text n from upto (r ∷ rs) x =
    elim (cases_lt r.start n) [
      | inr past ↦ subst (λ cut. Begins (run_bytes text cut) (run_bytes text (r ∷ rs))) (sym (cut_end n r rs past)) (run_bytes text (r ∷ rs), refl)
      | inl before ↦ subst (λ cut. Begins (run_bytes text cut) (run_bytes text (r ∷ rs))) (sym (cut_more n r rs before)) (elim (cases_lt n r.end) [
        | inl past ↦ subst (λ cut. Begins (slice_range text r.start (min r.end n) ++ run_bytes text cut) (run_bytes text (r ∷ rs)))
            (sym (cut_none n r.end upto rs (omega arith) x.2))
            (begins_front (slice_range text r.start (min r.end n)) (slice_range text r.start r.end) (run_bytes text rs) (slice_longer text r.start (min r.end n) r.end (omega arith)))
        | inr fits ↦
            let same : min r.end n ≡ r.end = omega arith in
            subst (λ e. Begins (slice_range text r.start e ++ run_bytes text (cut_runs n rs)) (run_bytes text (r ∷ rs))) (sym same)
            (begins_more (slice_range text r.start r.end) _ _ (cut_begins text n r.end upto rs x.2))
      ])
    ]

-- a part behind a place
slice_shifted : (text : List ℕ) (place s e : ℕ) → slice_range text (place + s) (place + e) ≡ slice_range (drop place text) s e
slice_shifted text place s e =
    let len : (place + e) - (place + s) ≡ e - s = omega arith in
    ap₂ (λ n (t : List ℕ). take n t) len (sym (drop-drop s place text))

-- the bytes of runs that are counted from a place
pub run_bytes_shifted : (text : List ℕ) (place : ℕ) (rs : List Run) → run_bytes text (shifted place rs) ≡ run_bytes (drop place text) rs
run_bytes_shifted text place [] = refl
run_bytes_shifted text place (r ∷ rs) = ap₂ (λ (a b : List ℕ). a ++ b) (slice_shifted text place r.start r.end) (run_bytes_shifted text place rs)

-- the bytes of the one run between two places
pub run_bytes_between : (text : List ℕ) (s e : ℕ) → run_bytes text (run_between s e) ≡ slice_range text s e
run_bytes_between text s e =
    elim (cases_lt s e) [
      | inl some ↦ ap (run_bytes text) (cond-true (nat_lt s e) (record { start = s; end = e } ∷ []) [] (lt-ltb s e some)) ∙ append-nil (slice_range text s e)
      | inr none ↦
          let empty : e - s ≡ 0 = omega arith in
          ap (run_bytes text) (cond-false (nat_lt s e) (record { start = s; end = e } ∷ []) [] (le-ltb s e none)) ∙ ap (λ n. take n (drop s text)) (sym empty)
    ]
