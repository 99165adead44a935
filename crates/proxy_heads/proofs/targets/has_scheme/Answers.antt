use Rattle.std.proofs.Common.{◌≡◌, ℕ, Bool, true, false, ◌&&◌, List, take, drop, codes, sym, ap, ◌∙◌}
use Rattle.std.specs.Prelude.{bytes_eq, nat_lt}
use Rattle.http_uri.specs.Grammar.{scheme_len}
use Rattle.proxy_heads.proofs.targets.has_scheme.Goals as goal

-- what stands behind the scheme
marks : (target rest : List ℕ) (n : ℕ) (t : Bool) → n ≡ scheme_len target → rest ≡ drop n target → bytes_eq (take 3 rest) (codes "://") ≡ t
    → bytes_eq (take 3 (drop (scheme_len target) target)) (codes "://") ≡ t
marks target rest n t is back e = ap (λ (r : List ℕ). bytes_eq (take 3 r) (codes "://")) (sym (back ∙ ap (λ (k : ℕ). drop k target) is)) ∙ e

pub returns-in-Some : goal.returns-in-Some
returns-in-Some c =
    let is = marks c.args.target.now c.split_at.result.1.now c.scheme_len-len.result true c.scheme_len-len.ensures.value c.split_at.ensures.back c.in-Some.ensures.cases.0 in
    λ i. sym is i && nat_lt 0 (c.scheme_len-len.ensures.value i)

pub returns-in-None : goal.returns-in-None
returns-in-None c =
    let is = marks c.args.target.now c.split_at.result.1.now c.scheme_len-len.result false c.scheme_len-len.ensures.value c.split_at.ensures.back c.in-None.ensures.cases in
    λ i. sym is i && nat_lt 0 (scheme_len c.args.target.now)
