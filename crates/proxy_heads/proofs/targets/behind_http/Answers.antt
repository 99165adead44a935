use Rattle.std.proofs.Common.{◌≡◌, ℕ, Bool, true, false, List, take, drop, codes, sym, ap, ◌∙◌, subst}
use Rattle.std.specs.Prelude.{bytes_eq}
use Rattle.std.specs.Bool.{Decides, one_answer}
use Rattle.std.proofs.lemmas.Slice.Eq.{bytes_eq-Decides}
use Rattle.http_uri.specs.ByteClasses.{lowercase}
use Rattle.http_uri.specs.Grammar.{scheme_len}
use Rattle.proxy_heads.proofs.TargetLemmas.{no_http, no_marks, is_behind}
use Rattle.proxy_heads.proofs.targets.behind_http.Goals as goal

-- the bytes before `://` are `http`, whatever their case, exactly where the code says so
name_is : (target scheme : List ℕ) (n : ℕ) (t : Bool) → n ≡ scheme_len target → scheme ≡ take n target → Decides t (lowercase scheme ≡ codes "http")
    → bytes_eq (lowercase (take (scheme_len target) target)) (codes "http") ≡ t
name_is target scheme n t is front test =
    let same : scheme ≡ take (scheme_len target) target = front ∙ ap (λ (k : ℕ). take k target) is in
    let P : List ℕ → Type 0 = λ s. Decides t (lowercase s ≡ codes "http") in
    one_answer _ _ (bytes_eq-Decides (lowercase (take (scheme_len target) target)) (codes "http")) (subst P same test)

marks_are : (target rest : List ℕ) (n : ℕ) (t : Bool) → n ≡ scheme_len target → rest ≡ drop n target → bytes_eq (take 3 rest) (codes "://") ≡ t
    → bytes_eq (take 3 (drop (scheme_len target) target)) (codes "://") ≡ t
marks_are target rest n t is back e = ap (λ (r : List ℕ). bytes_eq (take 3 r) (codes "://")) (sym (back ∙ ap (λ (k : ℕ). drop k target) is)) ∙ e

pub returns-then-not-is_http : goal.returns-then-not-is_http
returns-then-not-is_http c =
    no_http c.args.target.now c.eq_ignore_ascii_case-is_http.result
    (name_is c.args.target.now c.split_at.result.0.now c.scheme_len.result c.eq_ignore_ascii_case-is_http.result c.scheme_len.ensures.value c.split_at.ensures.front c.eq_ignore_ascii_case-is_http.ensures.test)
    c.if-not-is_http.true

pub returns-in-Some : goal.returns-in-Some
returns-in-Some c =
    let n = c.scheme_len.ensures.value in
    is_behind c.args.target.now c.in-Some.behind.now
    (name_is c.args.target.now c.split_at.result.0.now c.scheme_len.result c.eq_ignore_ascii_case-is_http.result n c.split_at.ensures.front c.eq_ignore_ascii_case-is_http.ensures.test
    ∙ c.if-not-is_http.false)
    (marks_are c.args.target.now c.split_at.result.1.now c.scheme_len.result true n c.split_at.ensures.back c.in-Some.ensures.cases.0)
    (c.in-Some.ensures.cases.1 ∙ ap (drop 3) (c.split_at.ensures.back ∙ ap (λ (k : ℕ). drop k c.args.target.now) n))

pub returns-in-None : goal.returns-in-None
returns-in-None c =
    let n = c.scheme_len.ensures.value in
    no_marks c.args.target.now
    (name_is c.args.target.now c.split_at.result.0.now c.scheme_len.result c.eq_ignore_ascii_case-is_http.result n c.split_at.ensures.front c.eq_ignore_ascii_case-is_http.ensures.test
    ∙ c.if-not-is_http.false)
    (marks_are c.args.target.now c.split_at.result.1.now c.scheme_len.result false n c.split_at.ensures.back c.in-None.ensures.cases)
