use Rattle.std.proofs.Common.{Some}
use Rattle.rooms.proofs.RowLists.{set_only}
use Rattle.rooms.proofs.rooms.Rooms.join.Goals as goal

pub returns : goal.returns
returns c =
    set_only c.args.number (λ m. record m { room = Some c.args.room }) c.args.self.now c.self.inside.rows.items c.index_mut-row.result.now c.join.new.self c.self.view_is c.requires.known
    c.index_mut-row.ensures.value c.join.ensures
