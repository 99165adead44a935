use Rattle.std.proofs.Common.{true}
use Rattle.model_rooms.specs.Member.{with_end}
use Rattle.rooms.proofs.RowLists.{set_only}
use Rattle.rooms.proofs.rooms.Rooms.leave.Goals as goal

pub returns : goal.returns
returns c =
    set_only c.args.number (with_end true) c.args.self.now c.self.inside.rows.items c.index_mut-row.result.now c.leave.new.self c.self.view_is c.requires.known
    c.index_mut-row.ensures.value c.leave.ensures
