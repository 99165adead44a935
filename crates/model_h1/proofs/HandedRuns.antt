-- What a pull hands out of a body: the bytes behind those that were given, and the next frame.
use Rattle.std.proofs.Common.{◌≡◌, ℕ, zero, suc, ◌+◌, ◌-◌, ◌<◌, ◌≤◌, List, [], ◌∷◌, ◌++◌, length, take, drop, map, slice_range, Some, None, refl, sym, ap, ◌∙◌, inl, inr, arith, append-nil, length-drop}
use Rattle.std.specs.Prelude.{slice_get}
use Rattle.std.proofs.lemmas.Option.{none-some, same_Some}
use Rattle.std.proofs.lemmas.Bool.{cases_lt}
use Rattle.std.proofs.lemmas.List.{drop_at, drop-drop, drop-take, drop-append-le, drop_all, length-take-le}
use Rattle.model_h1.specs.FrameText.{PlacedFrame}
use Rattle.model_h1.specs.Runs.{Run, run_bytes}
use Rattle.model_h1.specs.Handed.{Item, item_frame, Begins}
use Rattle.model_h1.specs.OutcomeTable.{run_left}
use Rattle.model_h1.proofs.RunLemmas.{IsOrdered, ordered_bound}
use Rattle.model_h1.proofs.PlaceLemmas.{run_len, left-within, left-past, left-none, same_run, left_some, left_within}

-- ---- more of a list that was begun

-- what follows the beginning
begun_rest : {A : Type 0} (front all : List A) (n : ℕ) (x : Begins front all) → length front ≡ n → drop n all ≡ x.0
begun_rest front all n x len = ap (drop n) x.1 ∙ drop_at front x.0 n len

-- so all is the beginning and what follows
pub given_then : {A : Type 0} (front all rest : List A) (n : ℕ) → Begins front all → length front ≡ n → drop n all ≡ rest → all ≡ front ++ rest
given_then front all rest n x len e = x.1 ∙ ap (λ (t : List _). front ++ t) (sym (begun_rest front all n x len) ∙ e)

-- nothing follows
pub given_all : {A : Type 0} (front all : List A) (n : ℕ) → Begins front all → length front ≡ n → drop n all ≡ [] → front ≡ all
given_all front all n x len e =
    sym (append-nil front) ∙ ap (λ (t : List _). front ++ t) (sym e ∙ begun_rest front all n x len) ∙ sym x.1

-- ---- the bytes of a part

-- their number
slice_len : (text : List ℕ) (s e : ℕ) → e ≤ length text → length (slice_range text s e) ≡ e - s
slice_len text s e within = length-take-le (e - s) (drop s text) (omega (arith, length-drop s text))

-- all but the first of them
slice_from : (text : List ℕ) (s e n : ℕ) → n ≤ e - s → drop n (slice_range text s e) ≡ slice_range text (s + n) e
slice_from text s e n less =
    let parts : e - s ≡ n + (e - (s + n)) = omega arith in
    ap (λ len. drop n (take len (drop s text))) parts ∙ drop-take n (e - (s + n)) (drop s text) ∙ ap (take (e - (s + n))) (drop-drop n s text)

-- ---- the bytes that are left of runs

-- past the first list of two
drop_past : (n : ℕ) (a b : List ℕ) → length a ≤ n → drop n (a ++ b) ≡ drop (n - length a) b
drop_past n a b past =
    let parts : n ≡ length a + (n - length a) = omega arith in
    ap (λ k. drop k (a ++ b)) parts ∙ sym (drop-drop (n - length a) (length a) (a ++ b)) ∙ ap (drop (n - length a)) (drop_at a b (length a) refl)

-- behind the first run
runs_past : (text : List ℕ) (given : ℕ) (q : Run) (rs : List Run) → q.end ≤ length text → run_len q ≤ given
    → drop given (run_bytes text (q ∷ rs)) ≡ drop (given - run_len q) (run_bytes text rs)
runs_past text given q rs within past =
    let len = slice_len text q.start q.end within in
    drop_past given (slice_range text q.start q.end) (run_bytes text rs) (omega arith) ∙ ap (λ n. drop (given - n) (run_bytes text rs)) len

-- behind the bytes that were given stand those of the run that is left
pub left_bytes : (text : List ℕ) (from upto given : ℕ) (rs : List Run) (r : Run) → upto ≤ length text → IsOrdered from upto rs
    → run_left given rs ≡ Some r → (rest : List ℕ) × (drop given (run_bytes text rs) ≡ slice_range text r.start r.end ++ rest)
left_bytes text from upto given [] r within x e = absurd (left-none given r e)
left_bytes text from upto given (q ∷ rs) r within x e =
    let bound = ordered_bound q.end upto rs x.2 in
    elim (cases_lt given (run_len q)) [
      | inl here ↦
          let same = same_run _ r (sym (left-within given q rs here) ∙ e) in
          let len = slice_len text q.start q.end (omega arith) in (
            run_bytes text rs,
            drop-append-le given (slice_range text q.start q.end) (run_bytes text rs) (omega arith)
                ∙ ap (λ (t : List ℕ). t ++ run_bytes text rs)
                (slice_from text q.start q.end given (omega arith) ∙ ap (λ (s : Run). slice_range text s.start s.end) same),
          )
      | inr past ↦
          let later = left_bytes text q.end upto (given - run_len q) rs r within x.2 (sym (left-past given q rs past) ∙ e) in
          (later.0, runs_past text given q rs (omega arith) past ∙ later.1)
    ]

-- these are some
pub left_more : (text : List ℕ) (from upto given : ℕ) (rs : List Run) (r : Run) → upto ≤ length text → IsOrdered from upto rs
    → run_left given rs ≡ Some r → 0 < length (slice_range text r.start r.end)
left_more text from upto given rs r within x e =
    omega (arith, slice_len text r.start r.end (omega (arith, (left_within from upto given rs r x e).1)), left_some given rs r e)

-- where no run is left all bytes were given
pub left_all : (text : List ℕ) (from upto given : ℕ) (rs : List Run) → upto ≤ length text → IsOrdered from upto rs → run_left given rs ≡ None
    → drop given (run_bytes text rs) ≡ []
left_all text from upto given [] within x e = drop_all given [] (omega arith)
left_all text from upto given (q ∷ rs) within x e =
    let bound = ordered_bound q.end upto rs x.2 in
    elim (cases_lt given (run_len q)) [
      | inl here ↦ absurd (none-some _ (sym e ∙ left-within given q rs here))
      | inr past ↦ runs_past text given q rs (omega arith) past
          ∙ left_all text q.end upto (given - run_len q) rs within x.2 (sym (left-past given q rs past) ∙ e)
    ]

-- ---- the next frame

-- behind the frames that were given stands the next one
pub left_frames : (fs : List PlacedFrame) (given : ℕ) (f : PlacedFrame) → slice_get fs given ≡ Some f
    → (rest : List Item) × (drop given (map (λ (p : PlacedFrame). item_frame p.frame) fs) ≡ item_frame f.frame ∷ rest)
left_frames [] given f e = absurd (none-some f e)
left_frames (g ∷ fs) zero f e = (
  map (λ (p : PlacedFrame). item_frame p.frame) fs,
  ap (λ (h : PlacedFrame). item_frame h.frame ∷ map (λ (p : PlacedFrame). item_frame p.frame) fs) (same_Some g f e),
)
left_frames (g ∷ fs) (suc k) f e = left_frames fs k f e
