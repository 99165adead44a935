use Rattle.std.proofs.Common.{refl, sym, subst}
use Rattle.serve_blocking.specs.Served.{Line}
use Rattle.serve_blocking.specs.Acts.{Drops}
use Rattle.serve_blocking.proofs.Dropped.{drops_none, drops_then, waits_drop}
use Rattle.serve_blocking.proofs.Settled.{ended_by}
use Rattle.serve_blocking.proofs.body.Body.pass_over.Goals as goal
use Rattle.serve_blocking.proofs.body.Body.pass_over.Goals.{in-Bytes+else-count-left+in-Some-1, in-Bytes+else-count-left+in-None-1, in-Pending+else-count-self+else-time_since-ge-PATIENCE+in_ok-flush-in-Pending+in_ok-fill-in-Pending+else-not-branch}

pub loop-init : goal.loop-init
loop-init g c = record { drops = drops_none _ }

pub loop-preserved : goal.loop-preserved
loop-preserved g c =
    let start = c.args.self.now in
    let pulled : Drops start c.pull.new.self = drops_then _ _ _ c.loop.invariant.drops c.in_ok-bytes.ensures.drops in
    elim c.match-branch-2.branch [
      | in-Bytes+else-count-left+in-Some-1 w ↦ record { drops = subst (λ (l : Line). Drops start l) (sym w.self-is) pulled }
      | in-Bytes+else-count-left+in-None-1 w ↦ record { drops = subst (λ (l : Line). Drops start l) (sym w.self-is) pulled }
      | in-Pending+else-count-self+else-time_since-ge-PATIENCE+in_ok-flush-in-Pending+in_ok-fill-in-Pending+else-not-branch w ↦ record {
        drops = subst (λ (l : Line). Drops start l) (sym w.self-is)
            (drops_then _ _ _ (drops_then _ _ _ pulled (waits_drop _ _ w.in_ok-flush-in-Pending.ensures.waits)) (waits_drop _ _ w.in_ok-fill-in-Pending.ensures.waits));
      }
    ]

pub returns-in-Trailers-clause-passed : goal.returns-in-Trailers-clause-passed
returns-in-Trailers-clause-passed g c = λ holds. ended_by _ _ _ _ _ c.in-Trailers.is refl c.loop.invariant.drops c.in_ok-bytes.ensures.pulls

pub returns-in-End-clause-passed : goal.returns-in-End-clause-passed
returns-in-End-clause-passed g c = λ holds. ended_by _ _ _ _ _ c.in-End.is refl c.loop.invariant.drops c.in_ok-bytes.ensures.pulls

pub returns-then-count-left-clause-drops : goal.returns-then-count-left-clause-drops
returns-then-count-left-clause-drops g c = drops_then _ _ _ c.loop.invariant.drops c.in_ok-bytes.ensures.drops

pub returns-in-Trailers-clause-drops : goal.returns-in-Trailers-clause-drops
returns-in-Trailers-clause-drops g c = drops_then _ _ _ c.loop.invariant.drops c.in_ok-bytes.ensures.drops

pub returns-in-End-clause-drops : goal.returns-in-End-clause-drops
returns-in-End-clause-drops g c = drops_then _ _ _ c.loop.invariant.drops c.in_ok-bytes.ensures.drops

pub returns-in-Broken-clause-drops : goal.returns-in-Broken-clause-drops
returns-in-Broken-clause-drops g c = drops_then _ _ _ c.loop.invariant.drops c.in_ok-bytes.ensures.drops

pub returns-then-count-self-clause-drops : goal.returns-then-count-self-clause-drops
returns-then-count-self-clause-drops g c = drops_then _ _ _ c.loop.invariant.drops c.in_ok-bytes.ensures.drops

pub returns-in_err-flush-in-Pending-clause-drops : goal.returns-in_err-flush-in-Pending-clause-drops
returns-in_err-flush-in-Pending-clause-drops g c =
    drops_then _ _ _ (drops_then _ _ _ c.loop.invariant.drops c.in_ok-bytes.ensures.drops) (waits_drop _ _ c.in_err-flush-in-Pending.ensures.waits)

pub returns-in_err-fill-in-Pending-clause-drops : goal.returns-in_err-fill-in-Pending-clause-drops
returns-in_err-fill-in-Pending-clause-drops g c =
    drops_then _ _ _ (drops_then _ _ _ (drops_then _ _ _ c.loop.invariant.drops c.in_ok-bytes.ensures.drops) (waits_drop _ _ c.in_ok-flush-in-Pending.ensures.waits))
    (waits_drop _ _ c.in_err-fill-in-Pending.ensures.waits)

pub returns-then-not-branch-clause-drops : goal.returns-then-not-branch-clause-drops
returns-then-not-branch-clause-drops g c =
    drops_then _ _ _ (drops_then _ _ _ (drops_then _ _ _ c.loop.invariant.drops c.in_ok-bytes.ensures.drops) (waits_drop _ _ c.in_ok-flush-in-Pending.ensures.waits))
    (waits_drop _ _ c.in_ok-fill-in-Pending.ensures.waits)
