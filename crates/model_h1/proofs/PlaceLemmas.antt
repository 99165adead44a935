-- Places in the runs of a body and behind its frames.
use Rattle.std.proofs.Common.{◌≡◌, ℕ, zero, suc, ◌+◌, ◌-◌, ◌<◌, ◌≤◌, min, eqb, ltb, leb, List, [], ◌∷◌, ◌++◌, length, Some, None, refl, sym, ap, ◌∙◌, subst, inl, inr, arith}
use Rattle.std.specs.Prelude.{slice_get}
use Rattle.std.proofs.lemmas.Option.{slice_get_within, none-some}
use Rattle.std.proofs.lemmas.Bool.{cond-true, cond-false, cases_lt, cases_eq, le-ltb, lt-ltb, le-leb, lt-leb, eq-eqb, ne_eqb}
use Rattle.model_h1.specs.Runs.{Run, cut_runs}
use Rattle.model_h1.specs.FrameText.{PlacedFrame}
use Rattle.model_h1.specs.Parse.{shifted, run_between}
use Rattle.model_h1.specs.Past.{place_behind, frame_end}
use Rattle.model_h1.specs.OutcomeTable.{run_left}
use Rattle.model_h1.proofs.RunLemmas.{IsOrdered, ordered_bound, cut_more, cut_end, cut_nil, cut_none}

-- how many bytes a run has
abbrev pub run_len : Run → ℕ
run_len r = r.end - r.start

-- how many bytes the runs have
abbrev pub runs_len : List Run → ℕ
runs_len [] = 0
runs_len (r ∷ rs) = run_len r + runs_len rs

-- the run as far as a cut
abbrev cut_run : ℕ → Run → Run
cut_run n r = record { start = r.start; end = min r.end n }

-- ---- one run after another

-- no run
behind-nil : (place given : ℕ) → place_behind place given [] ≡ place
unfolding place_behind
behind-nil place given = refl

-- nothing was given
behind-zero : (place given : ℕ) (r : Run) (rs : List Run) → given ≡ 0 → place_behind place given (r ∷ rs) ≡ place
unfolding place_behind
behind-zero place given r rs none = cond-true (eqb given 0) _ _ (eq-eqb given 0 none)

-- what was given ends in the first run
behind-within : (place given : ℕ) (r : Run) (rs : List Run) → 0 < given → given ≤ run_len r → place_behind place given (r ∷ rs) ≡ r.start + given
unfolding place_behind
behind-within place given r rs some fits =
    cond-false (eqb given 0) _ _ (ne_eqb given 0 (omega arith)) ∙ cond-true (leb given (run_len r)) _ _ (le-leb given (run_len r) fits)

-- it ends behind the first run
behind-past : (place given : ℕ) (r : Run) (rs : List Run) → run_len r < given
    → place_behind place given (r ∷ rs) ≡ place_behind r.end (given - run_len r) rs
unfolding place_behind
behind-past place given r rs past =
    cond-false (eqb given 0) _ _ (ne_eqb given 0 (omega arith)) ∙ cond-false (leb given (run_len r)) _ _ (lt-leb given (run_len r) past)

-- the next byte is in the first run
pub left-within : (given : ℕ) (r : Run) (rs : List Run) → given < run_len r
    → run_left given (r ∷ rs) ≡ Some (record { start = r.start + given; end = r.end })
unfolding run_left
left-within given r rs fits = cond-true (ltb given (run_len r)) _ _ (lt-ltb given (run_len r) fits)

-- it is behind the first run
pub left-past : (given : ℕ) (r : Run) (rs : List Run) → run_len r ≤ given → run_left given (r ∷ rs) ≡ run_left (given - run_len r) rs
unfolding run_left
left-past given r rs past = cond-false (ltb given (run_len r)) _ _ (le-ltb given (run_len r) past)

-- no run, no byte
pub left_nothing : (given : ℕ) → run_left given [] ≡ None
unfolding run_left
left_nothing given = refl

-- so that there is no run of it
pub left-none : (given : ℕ) (r : Run) → run_left given [] ≡ Some r → ⊥
unfolding run_left
left-none given r e = cc

-- the run of Some
pub same_run : (r s : Run) → Some r ≡ Some s → r ≡ s
same_run r s e = cc

-- ---- the run in which the next byte lies

-- it has bytes
pub left_some : (given : ℕ) (rs : List Run) (r : Run) → run_left given rs ≡ Some r → r.start < r.end
left_some given [] r e = absurd (left-none given r e)
left_some given (q ∷ rs) r e =
    elim (cases_lt given (run_len q)) [
      | inl here ↦
          let same = same_run _ r (sym (left-within given q rs here) ∙ e) in
          subst (λ (s : Run). s.start < s.end) same (omega arith)
      | inr past ↦ left_some (given - run_len q) rs r (sym (left-past given q rs past) ∙ e)
    ]

-- it lies within the runs
pub left_within : (from upto given : ℕ) (rs : List Run) (r : Run) → IsOrdered from upto rs → run_left given rs ≡ Some r
    → (from ≤ r.start) × (r.end ≤ upto)
left_within from upto given [] r x e = absurd (left-none given r e)
left_within from upto given (q ∷ rs) r x e =
    elim (cases_lt given (run_len q)) [
      | inl here ↦
          let same = same_run _ r (sym (left-within given q rs here) ∙ e) in
          let bound = ordered_bound q.end upto rs x.2 in
          subst (λ (s : Run). (from ≤ s.start) × (s.end ≤ upto)) same (omega (arith, x.0), bound)
      | inr past ↦
          let later = left_within q.end upto (given - run_len q) rs r x.2 (sym (left-past given q rs past) ∙ e) in
          (omega (arith, x.0, x.1, later.0), later.1)
    ]

-- all of it given, its end is the place behind what was given
pub left_place : (place given : ℕ) (rs : List Run) (r : Run) → run_left given rs ≡ Some r → place_behind place (given + run_len r) rs ≡ r.end
left_place place given [] r e = absurd (left-none given r e)
left_place place given (q ∷ rs) r e =
    elim (cases_lt given (run_len q)) [
      | inl here ↦
          let same = same_run _ r (sym (left-within given q rs here) ∙ e) in
          let len : given + (q.end - (q.start + given)) ≡ run_len q = omega arith in
          let end : q.start + run_len q ≡ q.end = omega arith in
          subst (λ (s : Run). place_behind place (given + run_len s) (q ∷ rs) ≡ s.end) same
          (ap (λ n. place_behind place n (q ∷ rs)) len ∙ behind-within place (run_len q) q rs (omega arith) (omega arith) ∙ end)
      | inr past ↦
          let rest = sym (left-past given q rs past) ∙ e in
          let some = left_some (given - run_len q) rs r rest in
          let len : given + run_len r - run_len q ≡ given - run_len q + run_len r = omega arith in
          behind-past place (given + run_len r) q rs (omega arith) ∙ ap (λ n. place_behind q.end n rs) len ∙ left_place q.end (given - run_len q) rs r rest
    ]

-- no more is given than there is
pub left_len : (given : ℕ) (rs : List Run) (r : Run) → run_left given rs ≡ Some r → given + run_len r ≤ runs_len rs
left_len given [] r e = absurd (left-none given r e)
left_len given (q ∷ rs) r e =
    elim (cases_lt given (run_len q)) [
      | inl here ↦
          let same = same_run _ r (sym (left-within given q rs here) ∙ e) in
          subst (λ (s : Run). given + run_len s ≤ runs_len (q ∷ rs)) same (omega arith)
      | inr past ↦
          let rest = left_len (given - run_len q) rs r (sym (left-past given q rs past) ∙ e) in omega arith
    ]

-- the run in which the next byte lies begins at the place or behind it
abbrev pub IsBeforeLeft : ℕ → ℕ → List Run → Type 0
IsBeforeLeft place given rs = (r : Run) → run_left given rs ≡ Some r → place ≤ r.start

-- the next run stands behind the one that was given
pub left_next : (from upto given : ℕ) (rs : List Run) (r : Run) → IsOrdered from upto rs → run_left given rs ≡ Some r
    → IsBeforeLeft r.end (given + run_len r) rs
left_next from upto given [] r x e s f = absurd (left-none given r e)
left_next from upto given (q ∷ rs) r x e s f =
    elim (cases_lt given (run_len q)) [
      | inl here ↦
          let same = same_run _ r (sym (left-within given q rs here) ∙ e) in
          let end : q.end ≡ r.end = ap (λ (t : Run). t.end) same in
          let start : q.start + given ≡ r.start = ap (λ (t : Run). t.start) same in
          let len : given + run_len r - run_len q ≡ 0 = omega arith in
          let rest = sym (ap (λ n. run_left n rs) len) ∙ sym (left-past (given + run_len r) q rs (omega arith)) ∙ f in
          let later = left_within q.end upto 0 rs s x.2 rest in
          omega (arith, later.0)
      | inr past ↦
          let here = sym (left-past given q rs past) ∙ e in
          let len : given + run_len r - run_len q ≡ given - run_len q + run_len r = omega arith in
          let rest = sym (ap (λ n. run_left n rs) len) ∙ sym (left-past (given + run_len r) q rs (omega arith)) ∙ f in
          left_next q.end upto (given - run_len q) rs r x.2 here s rest
    ]

-- ---- runs as far as a cut, and whole ones

-- a cut leaves no more bytes
pub cut_len : (n : ℕ) (rs : List Run) → runs_len (cut_runs n rs) ≤ runs_len rs
cut_len n [] = subst (λ l. runs_len l ≤ 0) (sym (cut_nil n)) (omega arith)
cut_len n (r ∷ rs) =
    elim (cases_lt r.start n) [
      | inl here ↦ let rest = cut_len n rs in subst (λ l. runs_len l ≤ runs_len (r ∷ rs)) (sym (cut_more n r rs here)) (omega arith)
      | inr past ↦ subst (λ l. runs_len l ≤ runs_len (r ∷ rs)) (sym (cut_end n r rs past)) (omega arith)
    ]

-- a run that ends before the cut stays
cut_whole : (n : ℕ) (r : Run) (rs : List Run) → r.start < n → r.end ≤ n → cut_runs n (r ∷ rs) ≡ r ∷ cut_runs n rs
cut_whole n r rs here fits =
    let end : min r.end n ≡ r.end = omega arith in
    cut_more n r rs here ∙ ap (λ e. record { start = r.start; end = e } ∷ cut_runs n rs) end

-- a run that goes on behind the cut is the last
cut_last : (n upto : ℕ) (r : Run) (rs : List Run) → r.start < n → n < r.end → IsOrdered r.end upto rs
    → cut_runs n (r ∷ rs) ≡ record { start = r.start; end = n } ∷ []
cut_last n upto r rs here past x =
    let end : min r.end n ≡ n = omega arith in
    cut_more n r rs here ∙ ap (λ e. record { start = r.start; end = e } ∷ cut_runs n rs) end
    ∙ ap (λ l. record { start = r.start; end = n } ∷ l) (cut_none n r.end upto rs (omega arith) x)

-- what was given ends in a run that goes on behind the cut
cut_place_last : (n place upto given : ℕ) (r : Run) (rs : List Run) → r.start < n → n < r.end → IsOrdered r.end upto rs
    → given ≤ runs_len (cut_runs n (r ∷ rs)) → place_behind place given (cut_runs n (r ∷ rs)) ≡ place_behind place given (r ∷ rs)
cut_place_last n place upto given r rs here past x less =
    let cut = cut_last n upto r rs here past x in
    let short : given ≤ n - r.start = omega (arith, subst (λ l. given ≤ runs_len l) cut less) in
    let q : Run = record { start = r.start; end = n } in
    ap (place_behind place given) cut ∙ elim (cases_eq given 0) [
      | inl none ↦ behind-zero place given q [] none ∙ sym (behind-zero place given r rs none)
      | inr some ↦ behind-within place given q [] (omega arith) short ∙ sym (behind-within place given r rs (omega arith) (omega arith))
    ]

-- it ends in a run that ends before the cut, or behind it
cut_place_more : (n place given : ℕ) (r : Run) (rs : List Run) → r.start < n → r.end ≤ n
    → (run_len r < given → place_behind r.end (given - run_len r) (cut_runs n rs) ≡ place_behind r.end (given - run_len r) rs)
    → place_behind place given (cut_runs n (r ∷ rs)) ≡ place_behind place given (r ∷ rs)
cut_place_more n place given r rs here fits more =
    let cut = cut_whole n r rs here fits in
    ap (place_behind place given) cut ∙ elim (cases_eq given 0) [
      | inl none ↦ behind-zero place given r (cut_runs n rs) none ∙ sym (behind-zero place given r rs none)
      | inr some ↦ elim (cases_lt (run_len r) given) [
        | inl behind ↦ behind-past place given r (cut_runs n rs) behind ∙ more behind ∙ sym (behind-past place given r rs behind)
        | inr within ↦ behind-within place given r (cut_runs n rs) (omega arith) within ∙ sym (behind-within place given r rs (omega arith) within)
      ]
    ]

-- what was given of the cut runs ends at the same place in the whole ones
pub cut_place : (n place from upto given : ℕ) (rs : List Run) → IsOrdered from upto rs → given ≤ runs_len (cut_runs n rs)
    → place_behind place given (cut_runs n rs) ≡ place_behind place given rs
cut_place n place from upto given [] x less = ap (place_behind place given) (cut_nil n)
cut_place n place from upto given (r ∷ rs) x less =
    elim (cases_lt r.start n) [
      | inr past ↦
          let cut = cut_end n r rs past in
          let none : given ≡ 0 = omega (arith, subst (λ l. given ≤ runs_len l) cut less) in
          ap (place_behind place given) cut ∙ behind-nil place given ∙ sym (behind-zero place given r rs none)
      | inl here ↦ elim (cases_lt n r.end) [
        | inl past ↦ cut_place_last n place upto given r rs here past x.2 less
        | inr fits ↦ cut_place_more n place given r rs here fits
            (λ behind. cut_place n r.end r.end upto (given - run_len r) rs x.2
            (omega (arith, behind, subst (λ l. given ≤ runs_len l) (cut_whole n r rs here fits) less)))
      ]
    ]

-- not all of a run that goes on behind the cut was given
cut_short : (n upto given : ℕ) (r : Run) (rs : List Run) → r.start < n → n < r.end → IsOrdered r.end upto rs → run_len r ≤ given
    → given ≤ runs_len (cut_runs n (r ∷ rs)) → ⊥
cut_short n upto given r rs here past x behind less =
    omega (arith, subst (λ l. given ≤ runs_len l) (cut_last n upto r rs here past x) less)

-- the next byte lies in a run that begins before the cut
cut_before_within : (n place upto given : ℕ) (r : Run) (rs : List Run) (s : Run) → r.start < n → given < run_len r → IsOrdered r.end upto rs
    → place ≤ n → given ≤ runs_len (cut_runs n (r ∷ rs)) → IsBeforeLeft place given (cut_runs n (r ∷ rs)) → run_left given (r ∷ rs) ≡ Some s
    → place ≤ s.start
cut_before_within n place upto given r rs s here inside x within less before e =
    let start : r.start + given ≡ s.start = ap (λ (t : Run). t.start) (same_run _ s (sym (left-within given r rs inside) ∙ e)) in
    elim (cases_lt (r.start + given) n) [
      | inr past ↦ omega arith
      | inl early ↦
          let q : Run = cut_run n r in
          let left = ap (run_left given) (cut_more n r rs here) ∙ left-within given q (cut_runs n rs) (omega arith) in
          let found = before (record { start = q.start + given; end = q.end }) left in
          omega (arith, found)
    ]

-- a place in front of what is left of the cut runs, and within the cut, is in front of what is left of the whole ones
pub cut_before : (n place from upto given : ℕ) (rs : List Run) → IsOrdered from upto rs → place ≤ n → given ≤ runs_len (cut_runs n rs)
    → IsBeforeLeft place given (cut_runs n rs) → IsBeforeLeft place given rs
cut_before n place from upto given [] x within less before s e = absurd (left-none given s e)
cut_before n place from upto given (r ∷ rs) x within less before s e =
    elim (cases_lt r.start n) [
      | inr past ↦
          let later = left_within r.start upto given (r ∷ rs) s (omega arith, x.1, x.2) e in omega (arith, later.0)
      | inl here ↦ elim (cases_lt given (run_len r)) [
        | inl inside ↦ cut_before_within n place upto given r rs s here inside x.2 within less before e
        | inr behind ↦ elim (cases_lt n r.end) [
          | inl past ↦ absurd (cut_short n upto given r rs here past x.2 behind less)
          | inr fits ↦
              let cut = cut_whole n r rs here fits in
              let rest = subst (λ l. IsBeforeLeft place given l) cut before in
              cut_before n place r.end upto (given - run_len r) rs x.2 within
              (omega (arith, subst (λ l. given ≤ runs_len l) cut less))
              (λ t f. rest t (left-past given r (cut_runs n rs) behind ∙ f)) s (sym (left-past given r rs behind) ∙ e)
        ]
      ]
    ]

-- runs counted from a place, and the cut too
pub cut_shifted : (n place : ℕ) (rs : List Run) → shifted place (cut_runs n rs) ≡ cut_runs (place + n) (shifted place rs)
cut_shifted n place [] = ap (shifted place) (cut_nil n) ∙ sym (cut_nil (place + n))
cut_shifted n place (r ∷ rs) =
    elim (cases_lt r.start n) [
      | inl here ↦
          let end : place + min r.end n ≡ min (place + r.end) (place + n) = omega arith in
          ap (shifted place) (cut_more n r rs here)
          ∙ (λ i. record { start = place + r.start; end = end i } ∷ cut_shifted n place rs i)
          ∙ sym (cut_more (place + n) (record { start = place + r.start; end = place + r.end }) (shifted place rs) (omega arith))
      | inr past ↦
          let q : Run = record { start = place + r.start; end = place + r.end } in
          ap (shifted place) (cut_end n r rs past) ∙ sym (cut_end (place + n) q (shifted place rs) (omega arith))
    ]

-- the run between two places with bytes between them
pub between-some : (start end : ℕ) → start < end → run_between start end ≡ record { start = start; end = end } ∷ []
between-some start end some = cond-true (ltb start end) _ _ (lt-ltb start end some)

-- there is none where there are none
pub between-none : (start end : ℕ) → end ≤ start → run_between start end ≡ []
between-none start end none = cond-false (ltb start end) _ _ (le-ltb start end none)

-- the run between two places lies between them
pub between_ordered : (start end : ℕ) → start ≤ end → IsOrdered start end (run_between start end)
between_ordered start end less =
    elim (cases_lt start end) [
      | inl some ↦ subst (IsOrdered start end) (sym (between-some start end some)) (omega arith, omega arith, omega arith)
      | inr none ↦ subst (IsOrdered start end) (sym (between-none start end none)) less
    ]

-- runs counted from a place are in order
pub shifted_ordered : (place from upto : ℕ) (rs : List Run) → IsOrdered from upto rs → IsOrdered (place + from) (place + upto) (shifted place rs)
shifted_ordered place from upto [] x = omega arith
shifted_ordered place from upto (r ∷ rs) x = (omega (arith, x.0), omega (arith, x.1), shifted_ordered place r.end upto rs x.2)

-- the run between two places, as far as a cut between them
pub cut_between : (n start end : ℕ) → n ≤ end → cut_runs n (run_between start end) ≡ run_between start n
cut_between n start end less =
    elim (cases_lt start n) [
      | inl here ↦
          let least : min end n ≡ n = omega arith in
          ap (cut_runs n) (between-some start end (omega arith)) ∙ cut_more n (record { start = start; end = end }) [] here
          ∙ (λ i. record { start = start; end = least i } ∷ cut_nil n i) ∙ sym (between-some start n here)
      | inr past ↦ elim (cases_lt start end) [
        | inl some ↦ ap (cut_runs n) (between-some start end some) ∙ cut_end n (record { start = start; end = end }) [] past ∙ sym (between-none start n past)
        | inr none ↦ ap (cut_runs n) (between-none start end none) ∙ cut_nil n ∙ sym (between-none start n past)
      ]
    ]

-- ---- frames

-- the frames end one behind another, from a place on and up to another
abbrev pub AreOrdered : ℕ → ℕ → List PlacedFrame → Type 0
AreOrdered from upto [] = from ≤ upto
AreOrdered from upto (f ∷ fs) = (from ≤ f.end) × AreOrdered f.end upto fs

-- they end behind their first place
pub frames_bound : (from upto : ℕ) (fs : List PlacedFrame) → AreOrdered from upto fs → from ≤ upto
frames_bound from upto [] x = x
frames_bound from upto (f ∷ fs) x = let later = frames_bound f.end upto fs x.1 in omega (arith, x.0)

-- behind no frame
pub frame_end-none : (place count : ℕ) (fs : List PlacedFrame) → count ≡ 0 → frame_end place count fs ≡ place
frame_end-none place count fs none = cond-true (eqb count 0) _ _ (eq-eqb count 0 none)

-- behind the frame at a place of the list
pub frame_end-at : (place k : ℕ) (fs : List PlacedFrame) (f : PlacedFrame) → slice_get fs k ≡ Some f → frame_end place (suc k) fs ≡ f.end
frame_end-at place k fs f e =
    let last : suc k - 1 ≡ k = omega arith in
    rw (last, e) (cond-false _ _ _ (ne_eqb (suc k) 0 (omega arith)))

-- no frame
no_frame : (k : ℕ) (f : PlacedFrame) → slice_get [] k ≡ Some f → ⊥
no_frame k f e = cc

-- the frame of Some
same_frame : (f g : PlacedFrame) → Some f ≡ Some g → f ≡ g
same_frame f g e = cc

-- a frame that is there ends within, and behind the first place
pub frame_within : (from upto k : ℕ) (fs : List PlacedFrame) (f : PlacedFrame) → AreOrdered from upto fs → slice_get fs k ≡ Some f
    → (from ≤ f.end) × (f.end ≤ upto)
frame_within from upto k [] f x e = absurd (no_frame k f e)
frame_within from upto zero (g ∷ fs) f x e =
    let bound = frames_bound g.end upto fs x.1 in
    subst (λ (h : PlacedFrame). (from ≤ h.end) × (h.end ≤ upto)) (same_frame g f e) (x.0, bound)
frame_within from upto (suc k) (g ∷ fs) f x e =
    let later = frame_within g.end upto k fs f x.1 e in (omega (arith, x.0, later.0), later.1)

-- a frame ends behind those in front of it
pub frame_later : (from upto k : ℕ) (fs : List PlacedFrame) (f g : PlacedFrame) → AreOrdered from upto fs → slice_get fs k ≡ Some f
    → slice_get fs (suc k) ≡ Some g → f.end ≤ g.end
frame_later from upto k [] f g x e h = absurd (no_frame k f e)
frame_later from upto zero (q ∷ fs) f g x e h =
    subst (λ (r : PlacedFrame). r.end ≤ g.end) (same_frame q f e) (frame_within q.end upto 0 fs g x.1 h).0
frame_later from upto (suc k) (q ∷ fs) f g x e h = frame_later q.end upto k fs f g x.1 e h

-- in front of an element that is there stands another
pub get_before : {A : Type 0} (xs : List A) (k : ℕ) → suc k ≤ length xs → (x : A) × (slice_get xs k ≡ Some x)
get_before [] k less = absurd (omega arith)
get_before (x ∷ xs) zero less = (x, refl)
get_before (x ∷ xs) (suc k) less = get_before xs k (omega arith)

-- the place behind so many frames is not behind the next one
pub frame_next : (from upto count : ℕ) (fs : List PlacedFrame) (f : PlacedFrame) → AreOrdered from upto fs → slice_get fs count ≡ Some f
    → frame_end from count fs ≤ f.end
frame_next from upto zero fs f x e = (frame_within from upto 0 fs f x e).0
frame_next from upto (suc k) fs f x e =
    let here = get_before fs k (omega (arith, slice_get_within fs (suc k) f e)) in
    subst (λ n. n ≤ f.end) (sym (frame_end-at from k fs here.0 here.1)) (frame_later from upto k fs here.0 f x here.1 e)

-- the place is not in front of the first one, nor behind the last
pub frame_end_within : (from upto count : ℕ) (fs : List PlacedFrame) → AreOrdered from upto fs → count ≤ length fs
    → (from ≤ frame_end from count fs) × (frame_end from count fs ≤ upto)
frame_end_within from upto zero fs x fits = (omega arith, frames_bound from upto fs x)
frame_end_within from upto (suc k) fs x fits =
    let here = get_before fs k fits in
    subst (λ n. (from ≤ n) × (n ≤ upto)) (sym (frame_end-at from k fs here.0 here.1)) (frame_within from upto k fs here.0 x here.1)

-- an element that is there stays when others follow
pub get_append : {A : Type 0} (xs ys : List A) (k : ℕ) (x : A) → slice_get xs k ≡ Some x → slice_get (xs ++ ys) k ≡ Some x
get_append [] ys k x e = absurd (none-some x e)
get_append (z ∷ xs) ys zero x e = e
get_append (z ∷ xs) ys (suc k) x e = get_append xs ys k x e

-- frames that follow leave it
pub frame_end-append : (place count : ℕ) (fs rest : List PlacedFrame) → count ≤ length fs
    → frame_end place count (fs ++ rest) ≡ frame_end place count fs
frame_end-append place zero fs rest fits = refl
frame_end-append place (suc k) fs rest fits =
    let here = get_before fs k fits in
    frame_end-at place k (fs ++ rest) here.0 (get_append fs rest k here.0 here.1) ∙ sym (frame_end-at place k fs here.0 here.1)
