use Rattle.std.proofs.Common.{◌≡◌, List, ap, subst, ◌∙◌, get_or, length}
use Rattle.model_rooms.specs.Member.{Member}
use Rattle.rooms.proofs.RowLists.{element}
use Rattle.rooms.proofs.rooms.Rooms.waiting.Goals as goal

pub returns : goal.returns
returns c =
    let at = subst (λ (l : List Member). c.index.result.now ≡ get_or l c.args.number c.index.result.now) c.self.view_is c.index.ensures in
    c.waiting.ensures
    ∙ ap (λ (m : Member). length m.waiting) (element c.args.number c.args.self.now c.index.result.now c.requires.known at)
