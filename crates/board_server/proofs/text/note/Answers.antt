use Rattle.std.proofs.Common.{◌≡◌, List, ℕ, Some, cond, subst}
use Rattle.std.specs.BTreeMap as tree
use Rattle.std.specs.Cmp.Lexicographic.{slice_cmp}
use Rattle.std.specs.Ordering.{nat_cmp}
use Rattle.std.specs.Str.{bytes_eq}
use Rattle.board_server.proofs.Tally.{noted}
use Rattle.board_server.proofs.text.note.Goals as goal

pub returns-in-Ok : goal.returns-in-Ok
returns-in-Ok c = λ name.
    let f = tree.get (slice_cmp nat_cmp) c.args.counts.now in
    let g = tree.get (slice_cmp nat_cmp) c.insert.new.self in
    subst (λ (k : List ℕ). g name ≡ cond (bytes_eq k name) (Some c.args.entry.now.reply.0) (f name)) c.name_in-name.ensures
    (noted f g c.name_in-name.result c.args.entry.now.reply.0 c.in-Ok.ensures.updates.0 name)
