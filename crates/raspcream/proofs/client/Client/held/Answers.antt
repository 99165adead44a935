use Rattle.raspcream.proofs.AskedLemmas.{has_held, left_over}
use Rattle.std.proofs.Common.{arith, rules, ◌∙◌}
use Rattle.raspcream.proofs.client.Client.held.Goals as goal

pub returns-in_default-clause-refused : goal.returns-in_default-clause-refused
returns-in_default-clause-refused c = omega (arith, c.in_default.ensures)

pub returns-clause-stands : goal.returns-clause-stands
returns-clause-stands c = has_held _ _ _ _ _ c.self.view_is c.tell_bytes.ensures.kind (search rules) (c.tell_bytes.ensures.len ∙ left_over _ _ _ _ c.held_bytes-held.ensures c.min.ensures)
