use Rattle.rooms.proofs.KeptLemmas.{closes_by, closes_traced}
use Rattle.rooms.proofs.seat.Seat.closes.Goals as goal

pub returns-clause-value : goal.returns-clause-value
returns-clause-value c = closes_by _ c.args.self.now c.is_some.result c.closing.result c.self.view_is c.is_some.ensures c.closing.ensures.value

pub returns-clause-traced : goal.returns-clause-traced
returns-clause-traced c =
    closes_traced c.args.self.now c.is_some.result
    (closes_by _ c.args.self.now c.is_some.result c.closing.result c.self.view_is c.is_some.ensures c.closing.ensures.value)
