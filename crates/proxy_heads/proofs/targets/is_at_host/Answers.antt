use Rattle.std.proofs.Common.{sym, ap, ◌∙◌}
use Rattle.model_proxy.specs.Targets.{is_at_host}
use Rattle.proxy_heads.proofs.targets.is_at_host.Goals as goal

pub returns-in-Some : goal.returns-in-Some
returns-in-Some c = c.names_host.ensures ∙ sym (ap is_at_host c.in-Some.ensures)

pub returns-in-None : goal.returns-in-None
returns-in-None c = sym (ap is_at_host c.in-None.ensures)
