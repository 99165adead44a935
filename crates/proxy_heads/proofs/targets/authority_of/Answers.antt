use Rattle.std.proofs.Common.{ℕ, take, sym, ap, ◌∙◌, Some}
use Rattle.std.specs.Prelude.{option_map}
use Rattle.model_proxy.specs.Targets.{authority_in}
use Rattle.proxy_heads.proofs.targets.authority_of.Goals as goal

pub returns-in-Some : goal.returns-in-Some
returns-in-Some c =
    ap (option_map authority_in) c.in-Some.ensures
    ∙ ap Some (sym (c.split_at.ensures.front ∙ ap (λ (k : ℕ). take k c.in-Some.rest.now) c.authority_len.ensures.value))

pub returns-in-None : goal.returns-in-None
returns-in-None c = ap (option_map authority_in) c.in-None.ensures
