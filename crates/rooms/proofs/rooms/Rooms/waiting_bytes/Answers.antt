use Rattle.std.proofs.Common.{◌≡◌, ◌^◌, ◌-◌, List, ap, subst, ◌∙◌, get_or, min}
use Rattle.model_rooms.specs.Member.{Member, byte_count}
use Rattle.rooms.proofs.RowLists.{element}
use Rattle.rooms.proofs.rooms.Rooms.waiting_bytes.Goals as goal

pub returns : goal.returns
returns c =
    let at = subst (λ (l : List Member). c.index.result.now ≡ get_or l c.args.number c.index.result.now) c.self.view_is c.index.ensures in
    c.waiting_bytes.ensures
    ∙ ap (λ (m : Member). min (byte_count m.waiting) (2 ^ 64 - 1)) (element c.args.number c.args.self.now c.index.result.now c.requires.known at)
