use Rattle.std.proofs.Common.{ℕ, List, length, drop, sym, ap, ◌∙◌}
use Rattle.std.specs.Prelude.{◌==◌}
use Rattle.http_uri.specs.Grammar.{without_fragment}
use Rattle.model_proxy.specs.Targets.{has_no_path}
use Rattle.proxy_heads.proofs.targets.has_no_path.Goals as goal

pub returns-in-Some : goal.returns-in-Some
returns-in-Some c =
    c.keeps_nothing.ensures
    ∙ ap (λ (t : List ℕ). length (without_fragment t) == 0)
    (c.split_at.ensures.back ∙ ap (λ (k : ℕ). drop k c.in-Some.rest.now) c.authority_len.ensures.value)
    ∙ sym (ap has_no_path c.in-Some.ensures)

pub returns-in-None : goal.returns-in-None
returns-in-None c = sym (ap has_no_path c.in-None.ensures)
