use Rattle.model_client.specs.ClientEvent as on
use Rattle.std.proofs.Common.{rules, sym, ◌∙◌, arith}
use Rattle.raspcream.proofs.AskedLemmas.{has_written, barred}
use Rattle.raspcream.proofs.client.Client.advance.Goals as goal

pub returns-clause-stands : goal.returns-clause-stands
returns-clause-stands c = has_written _ _ _ _ _ _ c.self.view_is c.tell.ensures.kind (search rules) (search rules) c.advance.ensures.stands

pub advance-requires-clause-can_write : goal.advance-requires-clause-can_write
advance-requires-clause-can_write c = sym (c.can_write.ensures c.in-Ok.length) ∙ c.if-not-can_write.false

pub returns-then-not-can_write-clause-refused : goal.returns-then-not-can_write-clause-refused
returns-then-not-can_write-clause-refused c = barred _ _ (on.write c.args.count) _ c.self.view_is (c.can_write.ensures c.args.count) c.if-not-can_write.true

pub returns-in_default-clause-refused : goal.returns-in_default-clause-refused
returns-in_default-clause-refused c = absurd (omega (arith, c.in_default.ensures))
