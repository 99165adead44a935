-- Runs from a place on.
use Rattle.std.proofs.Common.{◌≡◌, ℕ, ◌+◌, ◌-◌, ◌≤◌, Bool, true, false, List, [], ◌∷◌, ◌++◌, nat_lt, refl, arith}
use Rattle.std.proofs.lemmas.Bool.Decides.{nat_tests}
use Rattle.model_h1.specs.Runs.{Run}
use Rattle.model_h1.specs.Parse.{run_between}
use Rattle.model_state.specs.Runs.{runs_behind}

less_end : (a b end : ℕ) → nat_lt a end ≡ true → nat_lt b (end - a) ≡ nat_lt (a + b) end
less_end a b end more = grind (arith, nat_tests)

less_run : (a b : ℕ) (r : Run) → ◌≡◌ {A = Run} (record { start = r.start - a - b; end = r.end - a - b }) (record { start = r.start - (a + b); end = r.end - (a + b) })
less_run a b r =
    let s : r.start - a - b ≡ r.start - (a + b) = omega arith in
    let e : r.end - a - b ≡ r.end - (a + b) = omega arith in
    λ i. record { start = s i; end = e i }

runs_tested : (a b : ℕ) (r : Run) (rs : List Run) (t : Bool) → nat_lt a r.end ≡ t → runs_behind b (runs_behind a rs) ≡ runs_behind (a + b) rs
    → runs_behind b (runs_behind a (r ∷ rs)) ≡ runs_behind (a + b) (r ∷ rs)
unfolding runs_behind
runs_tested a b r rs true more rest = rw (more, less_end a b r.end more, rest, less_run a b r) refl
runs_tested a b r rs false past rest =
    let gone : nat_lt (a + b) r.end ≡ false = grind (arith, nat_tests) in
    rw (past, gone) rest

-- a place and a further one behind it are one
pub runs_behind_more : (a b : ℕ) (rs : List Run) → runs_behind b (runs_behind a rs) ≡ runs_behind (a + b) rs
unfolding runs_behind
runs_behind_more a b [] = refl
runs_behind_more a b (r ∷ rs) = runs_tested a b r rs (nat_lt a r.end) refl (runs_behind_more a b rs)

both_tested : (n : ℕ) (r : Run) (rs more : List Run) (t : Bool) → nat_lt n r.end ≡ t → runs_behind n (rs ++ more) ≡ runs_behind n rs ++ runs_behind n more
    → runs_behind n ((r ∷ rs) ++ more) ≡ runs_behind n (r ∷ rs) ++ runs_behind n more
unfolding runs_behind
both_tested n r rs more true is rest = rw (is, rest) refl
both_tested n r rs more false is rest = rw (is, rest) refl

pub runs_behind-append : (n : ℕ) (rs more : List Run) → runs_behind n (rs ++ more) ≡ runs_behind n rs ++ runs_behind n more
unfolding runs_behind
runs_behind-append n [] more = refl
runs_behind-append n (r ∷ rs) more = both_tested n r rs more (nat_lt n r.end) refl (runs_behind-append n rs more)

-- a run of a piece, seen from the first byte that waits
between_tested : (w start len : ℕ) (t : Bool) → nat_lt start (start + len) ≡ t → w ≤ start → runs_behind w (run_between start (start + len)) ≡ run_between (start - w) (start - w + len)
unfolding runs_behind
between_tested w start len true some fits =
    let here : nat_lt (start - w) (start - w + len) ≡ true = grind (arith, nat_tests) in
    let stays : nat_lt w (start + len) ≡ true = grind (arith, nat_tests) in
    let end : start + len - w ≡ start - w + len = omega arith in
    rw (some, here, stays, end) refl
between_tested w start len false none fits =
    let here : nat_lt (start - w) (start - w + len) ≡ false = grind (arith, nat_tests) in
    rw (none, here) refl

pub run_between_behind : (w start len : ℕ) → w ≤ start → runs_behind w (run_between start (start + len)) ≡ run_between (start - w) (start - w + len)
run_between_behind w start len fits = between_tested w start len (nat_lt start (start + len)) refl fits
