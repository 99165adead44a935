use Rattle.std.proofs.Common.{drop}
use Rattle.rooms.proofs.RowLists.{set_only}
use Rattle.rooms.proofs.rooms.Rooms.sent.Goals as goal

pub returns : goal.returns
returns c =
    set_only c.args.number (λ m. record m { waiting = drop 1 m.waiting }) c.args.self.now c.self.inside.rows.items c.index_mut-row.result.now c.sent.new.self c.self.view_is c.requires.known
    c.index_mut-row.ensures.value c.sent.ensures
