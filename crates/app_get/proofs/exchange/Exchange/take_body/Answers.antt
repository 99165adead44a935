use Rattle.std.proofs.Common.{ℕ, Some, refl, sym, ap, ◌∙◌}
use Rattle.std.proofs.KnownBytes.{Keeps-refl}
use Rattle.app_get.specs.Exchange.{has_none_wanted}
use Rattle.app_get.proofs.Stopping.{protocol_stops, unwanted_stops}
use Rattle.app_get.proofs.exchange.Exchange.take_body.Goals as goal

pub returns-then-status-eq101-clause-stops : goal.returns-then-status-eq101-clause-stops
returns-then-status-eq101-clause-stops g c = protocol_stops _ _ _ refl (c.requires ∙ ap (λ (n : ℕ). Some n) c.if-status-eq101.true) (Keeps-refl _)

pub returns-then-is_unwanted-clause-stops : goal.returns-then-is_unwanted-clause-stops
returns-then-is_unwanted-clause-stops g c = unwanted_stops _ _ c.requires (sym c.is_unwanted.ensures ∙ c.if-is_unwanted.true)

pub pull-requires-clause-wanted : goal.pull-requires-clause-wanted
pull-requires-clause-wanted g c = ap (has_none_wanted c.args.self.now.wanted) c.requires ∙ sym c.is_unwanted.ensures ∙ c.if-is_unwanted.false

pub finish-requires-clause-wanted : goal.finish-requires-clause-wanted
finish-requires-clause-wanted g c = sym c.is_unwanted.ensures ∙ c.if-is_unwanted.false
