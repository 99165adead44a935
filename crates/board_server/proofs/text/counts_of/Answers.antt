use Rattle.std.specs.BTreeMap as tree
use Rattle.std.specs.Cmp.Lexicographic.{slice_cmp}
use Rattle.std.specs.Ordering.{nat_cmp}
use Rattle.board_server.proofs.Tally.{told_more}
use Rattle.board_server.proofs.text.counts_of.Goals as goal

pub loop-entry-preserved : goal.loop-entry-preserved
loop-entry-preserved c =
    told_more (tree.get (slice_cmp nat_cmp) c.loop-entry.counts) (tree.get (slice_cmp nat_cmp) c.note.new.counts) c.args.journal.now c.loop-entry.entry-index c.entry-item.result c.loop-entry-test.true
    c.entry-item.is c.requires.right c.loop-entry.invariant c.in_ok-note.ensures
