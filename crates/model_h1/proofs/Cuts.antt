-- The runs as far as some bytes reach.
use Rattle.std.proofs.Common.{◌≡◌, ℕ, ◌+◌, ◌≤◌, cond, eqb, ltb, min, List, [], ◌∷◌, ◌++◌, length, refl, sym, ap, ◌∙◌, arith}
use Rattle.std.proofs.lemmas.Bool.{le-ltb, cond-false, cond_both, ltb-false}
use Rattle.model_h1.specs.Runs.{Run, cut_runs}
use Rattle.model_h1.specs.Place.{Place, size_cr, start, step}
use Rattle.model_h1.proofs.RunPlaces.{run_at, opened, runs_of, runs_of-nil, runs_of-cons, runs_of-append}

-- a run that begins behind the cut is left out, with what follows it
pub cut_runs-past : (len : ℕ) (r : Run) (rs : List Run) → len ≤ r.start → cut_runs len (r ∷ rs) ≡ []
unfolding cut_runs
cut_runs-past len r rs past = cond-false (ltb r.start len) _ _ (le-ltb r.start len past)

-- runs of so many bytes behind the cut
run_at_past : (len place n : ℕ) (rest : List Run) → len ≤ place → cut_runs len rest ≡ [] → cut_runs len (run_at place n ++ rest) ≡ []
run_at_past len place n rest past e =
    cond_both (ltb 0 n) _ _ (λ l. cut_runs len (l ++ rest) ≡ []) (λ _. cut_runs-past len _ rest past) (λ _. e)

-- a run that the walk finds begins behind its byte
opened_past : (at : Place) (b place len : ℕ) (rest : List Run) → len ≤ place + 1 → cut_runs len rest ≡ []
    → cut_runs len (opened place at b ++ rest) ≡ []
opened_past (size_cr n) b place len rest past e =
    cond_both (eqb b 10) _ _ (λ l. cut_runs len (l ++ rest) ≡ []) (λ _. run_at_past len (place + 1) n rest past e) (λ _. e)
opened_past at b place len rest past e = e

-- no run that is found in bytes behind the cut, or at it, is kept
pub runs_of_past : (text : List ℕ) (place len : ℕ) (at : Place) → len ≤ place + 1 → cut_runs len (runs_of place at text) ≡ []
unfolding cut_runs
runs_of_past [] place len at past = ap (cut_runs len) (runs_of-nil place at)
runs_of_past (b ∷ text) place len at past =
    ap (cut_runs len) (runs_of-cons place at b text)
    ∙ opened_past at b place len _ past (runs_of_past text (place + 1) len (step at b) (omega arith))

-- runs of which none is kept may follow
cut_runs-append : (len : ℕ) (xs ys : List Run) → cut_runs len ys ≡ [] → cut_runs len (xs ++ ys) ≡ cut_runs len xs
unfolding cut_runs
cut_runs-append len [] ys e = e
cut_runs-append len (r ∷ xs) ys e =
    ap (λ l. cond (ltb r.start len) (record { start = r.start; end = min r.end len } ∷ l) []) (cut_runs-append len xs ys e)

-- the runs that begin within a front of the bytes are found in it
pub cut_runs_front : (front rest : List ℕ)
    → cut_runs (length front) (runs_of 0 start (front ++ rest)) ≡ cut_runs (length front) (runs_of 0 start front)
cut_runs_front front rest =
    ap (cut_runs (length front)) (runs_of-append 0 start front rest)
    ∙ cut_runs-append (length front) _ _ (runs_of_past rest (0 + length front) (length front) _ (omega arith))

-- one run cut twice
cut_twice_more : (r : Run) (len longer : ℕ) (twice once : List Run) → len ≤ longer → twice ≡ once
    → cond (ltb r.start len) (record { start = r.start; end = min (min r.end longer) len } ∷ twice) []
    ≡ cond (ltb r.start len) (record { start = r.start; end = min r.end len } ∷ once) []
cut_twice_more r len longer twice once short e =
    let same : min (min r.end longer) len ≡ min r.end len = omega arith in
    λ i. cond (ltb r.start len) (record { start = r.start; end = same i } ∷ e i) []

-- the same, for a run that the longer cut keeps or leaves out
cut_twice_cons : (r : Run) (len longer : ℕ) (rs : List Run) → len ≤ longer → cut_runs len (cut_runs longer rs) ≡ cut_runs len rs
    → cut_runs len (cut_runs longer (r ∷ rs)) ≡ cut_runs len (r ∷ rs)
unfolding cut_runs
cut_twice_cons r len longer rs short e =
    cond_both (ltb r.start longer) _ _ (λ l. cut_runs len l ≡ cut_runs len (r ∷ rs))
    (λ _. cut_twice_more r len longer _ _ short e)
    (λ late. sym (cut_runs-past len r rs (omega (arith, ltb-false r.start longer late))))

-- a shorter cut of a longer one is the shorter cut
pub cut_runs-cut_runs : (rs : List Run) (len longer : ℕ) → len ≤ longer → cut_runs len (cut_runs longer rs) ≡ cut_runs len rs
unfolding cut_runs
cut_runs-cut_runs [] len longer short = refl
cut_runs-cut_runs (r ∷ rs) len longer short = cut_twice_cons r len longer rs short (cut_runs-cut_runs rs len longer short)
