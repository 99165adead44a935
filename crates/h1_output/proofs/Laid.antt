-- Pieces and the buffer behind them, laid out as one list.
use Rattle.std.proofs.Common.{◌≡◌, ℕ, ◌+◌, ◌-◌, ◌≤◌, Bool, true, false, List, [], ◌∷◌, ◌++◌, length, take, drop, nat_lt, All, refl, ap, ◌∙◌, arith, append_assoc, append-nil, length-append}
use Rattle.std.proofs.lemmas.List.{take-append-le, drop-append-le, length-drop, length-take-le, drop_all, take_all}
use Rattle.std.proofs.lemmas.List.Elements.{All-head, All-rest}
use Rattle.std.proofs.lemmas.Bool.Decides.{nat_tests}
use Rattle.std.proofs.lemmas.List.{drop-drop}
use Rattle.model_h1.specs.Runs.{Run}
use Rattle.model_state.specs.Runs.{runs_behind}
use Rattle.h1_output.specs.Queued.{Queued, behind}
use Rattle.h1_output.specs.OutputPieces.{HasBytes, body_in, body_len, laid, marks_from, own_len, shared, shared_len, used}
use Rattle.h1_output.specs.declared.piece.Body.{Body}
use Rattle.h1_output.specs.declared.piece.Body.TheVariants.{Own, Shared}
use Rattle.h1_output.specs.declared.piece.Piece.{Piece}

-- how many bytes a piece has
pub body_sum : (b : Body) → body_len b ≡ own_len b + shared_len b
body_sum (Own n) = omega arith
body_sum (Shared b) = omega arith

-- ---- a text behind them

body_text : (b : Body) (own text : List ℕ) → own_len b ≤ length own → body_in b (own ++ text) ≡ body_in b own
body_text (Own n) own text fits = take-append-le n own text fits
body_text (Shared b) own text fits = refl

pub laid_text : (ps : List Piece) (own text : List ℕ) → used ps ≤ length own → laid ps (own ++ text) ≡ laid ps own ++ text
unfolding laid used
laid_text [] own text fits = refl
laid_text (p ∷ ps) own text fits =
    let m = p.before + own_len p.body in
    let sizes = length-drop p.before own in
    let rest = length-drop m own in
    rw (
      take-append-le p.before own text (omega arith),
      drop-append-le p.before own text (omega arith),
      drop-append-le m own text (omega arith),
      body_text p.body (drop p.before own) text (omega arith),
      laid_text ps (drop m own) text (omega arith),
      append_assoc (take p.before own) (body_in p.body (drop p.before own) ++ laid ps (drop m own)) text,
      append_assoc (body_in p.body (drop p.before own)) (laid ps (drop m own)) text,
    ) refl

-- ---- how many bytes there are

pub body_size : (b : Body) (own : List ℕ) → own_len b ≤ length own → length (body_in b own) ≡ body_len b
body_size (Own n) own fits = length-take-le n own fits
body_size (Shared b) own fits = refl

pub laid_size : (ps : List Piece) (own : List ℕ) → used ps ≤ length own → length (laid ps own) ≡ length own + shared ps
unfolding laid used shared
laid_size [] own fits = omega arith
laid_size (p ∷ ps) own fits =
    let m = p.before + own_len p.body in
    let cut = length-drop p.before own in
    let rest = length-drop m own in
    let body = body_in p.body (drop p.before own) in
    let more = laid ps (drop m own) in
    omega (
      arith,
      length-append (take p.before own) (body ++ more),
      length-append body more,
      length-take-le p.before own (omega arith),
      body_size p.body (drop p.before own) (omega arith),
      body_sum p.body,
      laid_size ps (drop m own) (omega arith),
    )

-- ---- a piece behind them

pub used_more : (ps : List Piece) (p : Piece) → used (ps ++ p ∷ []) ≡ used ps + p.before + own_len p.body
unfolding used
used_more [] p = omega arith
used_more (q ∷ ps) p = omega (arith, used_more ps p)

pub shared_more : (ps : List Piece) (p : Piece) → shared (ps ++ p ∷ []) ≡ shared ps + shared_len p.body
unfolding shared
shared_more [] p = omega arith
shared_more (q ∷ ps) p = omega (arith, shared_more ps p)

pub marks_more : (place : ℕ) (ps : List Piece) (p : Piece)
    → marks_from place (ps ++ p ∷ [])
    ≡ marks_from place ps ++ record { start = place + used ps + shared ps + p.before; end = place + used ps + shared ps + p.before + body_len p.body } ∷ []
unfolding marks_from used shared
marks_more place [] p = let e : place + 0 + 0 ≡ place = omega arith in rw e refl
marks_more place (q ∷ ps) p =
    let next = place + q.before + body_len q.body in
    let e : next + used ps + shared ps ≡ place + (q.before + own_len q.body + used ps) + (shared_len q.body + shared ps) = omega (arith, body_sum q.body) in
    rw (marks_more next ps p, e) refl

-- the piece's bytes stand at the end of the buffer, or in no buffer
body_at_end : (b : Body) (own more bytes : List ℕ) → own_len b ≡ length more → body_in b more ≡ bytes → body_in b (drop (length own) (own ++ more)) ≡ bytes
body_at_end b own more bytes size is = rw (drop-append-le (length own) own more (omega arith), drop_all (length own) own (omega arith)) is

pub laid_more : (ps : List Piece) (p : Piece) (own more bytes : List ℕ) → used ps + p.before ≡ length own → own_len p.body ≡ length more → body_in p.body more ≡ bytes
    → laid (ps ++ p ∷ []) (own ++ more) ≡ laid ps own ++ bytes
unfolding laid used
laid_more [] p own more bytes fits size is =
    let before : p.before ≡ length own = omega arith in
    let all : drop (p.before + own_len p.body) (own ++ more) ≡ [] = drop_all (p.before + own_len p.body) (own ++ more) (omega (arith, length-append own more)) in
    let front : take p.before (own ++ more) ≡ own = take-append-le p.before own more (omega arith) ∙ take_all p.before own (omega arith) in
    let body : body_in p.body (drop p.before (own ++ more)) ≡ bytes =
    ap (λ n. body_in p.body (drop n (own ++ more))) before ∙ body_at_end p.body own more bytes size is in
    rw (front, body, all, append-nil bytes) refl
laid_more (q ∷ ps) p own more bytes fits size is =
    let m = q.before + own_len q.body in
    let cut = length-drop q.before own in
    let rest = length-drop m own in
    rw (
      take-append-le q.before own more (omega arith),
      drop-append-le q.before own more (omega arith),
      drop-append-le m own more (omega arith),
      body_text q.body (drop q.before own) more (omega arith),
      laid_more ps p (drop m own) more bytes (omega arith) size is,
      append_assoc (take q.before own) (body_in q.body (drop q.before own) ++ laid ps (drop m own)) bytes,
      append_assoc (body_in q.body (drop q.before own)) (laid ps (drop m own)) bytes,
    ) refl

-- ---- the first bytes go

less_end : (a b end : ℕ) → nat_lt a end ≡ true → nat_lt b (end - a) ≡ nat_lt (a + b) end
less_end a b end more = grind (arith, nat_tests)

less_run : (a b : ℕ) (r : Run) → ◌≡◌ {A = Run} (record { start = r.start - a - b; end = r.end - a - b }) (record { start = r.start - (a + b); end = r.end - (a + b) })
less_run a b r =
    let s : r.start - a - b ≡ r.start - (a + b) = omega arith in
    let e : r.end - a - b ≡ r.end - (a + b) = omega arith in
    λ i. record { start = s i; end = e i }

runs_tested : (a b : ℕ) (r : Run) (rs : List Run) (t : Bool) → nat_lt a r.end ≡ t → runs_behind b (runs_behind a rs) ≡ runs_behind (a + b) rs
    → runs_behind b (runs_behind a (r ∷ rs)) ≡ runs_behind (a + b) (r ∷ rs)
unfolding runs_behind
runs_tested a b r rs true more rest = rw (more, less_end a b r.end more, rest, less_run a b r) refl
runs_tested a b r rs false past rest =
    let gone : nat_lt (a + b) r.end ≡ false = grind (arith, nat_tests) in
    rw (past, gone) rest

pub runs_behind_more : (a b : ℕ) (rs : List Run) → runs_behind b (runs_behind a rs) ≡ runs_behind (a + b) rs
unfolding runs_behind
runs_behind_more a b [] = refl
runs_behind_more a b (r ∷ rs) = runs_tested a b r rs (nat_lt a r.end) refl (runs_behind_more a b rs)

pub behind_more : (a b : ℕ) (q : Queued) → behind b (behind a q) ≡ behind (a + b) q
behind_more a b q = λ i. record { bytes = drop-drop b a q.bytes i; marks = runs_behind_more a b q.marks i }

-- pieces that stand behind what goes
pub marks_behind : (n place : ℕ) (ps : List Piece) → All HasBytes ps → runs_behind n (marks_from (n + place) ps) ≡ marks_from place ps
unfolding runs_behind marks_from
marks_behind n place [] some = refl
marks_behind n place (p ∷ ps) some =
    let here = All-head HasBytes p ps some in
    let start : n + place + p.before - n ≡ place + p.before = omega arith in
    let end : n + place + p.before + body_len p.body - n ≡ place + p.before + body_len p.body = omega arith in
    let next : n + place + p.before + body_len p.body ≡ n + (place + p.before + body_len p.body) = omega arith in
    let test : nat_lt n (n + place + p.before + body_len p.body) ≡ true = grind (arith, nat_tests) in
    rw (test, start, end, next, marks_behind n (place + p.before + body_len p.body) ps (All-rest HasBytes p ps (p ∷ ps) refl some)) refl
