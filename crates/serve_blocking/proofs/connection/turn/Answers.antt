use Rattle.serve_blocking.proofs.Followed.{adds_follow, follows_equal, follows_then}
use Rattle.serve_blocking.proofs.Handled.{handles_follow, handles_one, handles_both, ends_here, to_its_end}
use Rattle.serve_blocking.proofs.Waited.{waits_follow}
use Rattle.serve_blocking.proofs.connection.turn.Goals as goal

pub returns-in_err-flush_if_due-clause-handles : goal.returns-in_err-flush_if_due-clause-handles
returns-in_err-flush_if_due-clause-handles g c = handles_follow _ _ _ (waits_follow _ _ c.in_err-flush_if_due.ensures.waits)

pub returns-then-not-can_next-clause-handles : goal.returns-then-not-can_next-clause-handles
returns-then-not-can_next-clause-handles g c = handles_follow _ _ _ (waits_follow _ _ c.in_ok-flush_if_due.ensures.waits)

pub returns-in_err-next_head-clause-handles : goal.returns-in_err-next_head-clause-handles
returns-in_err-next_head-clause-handles g c =
    handles_follow _ _ _ (follows_then _ _ _ (waits_follow _ _ c.in_ok-flush_if_due.ensures.waits) (follows_equal _ _ c.in_err-next_head.ensures.err))

-- ---- a request

pub returns-in_err-take-in-Head-clause-handles : goal.returns-in_err-take-in-Head-clause-handles
returns-in_err-take-in-Head-clause-handles g c =
    handles_both _ _ _ _ _ _ (handles_follow _ _ _ (waits_follow _ _ c.in_ok-flush_if_due.ensures.waits))
    (handles_one _ c.next_head.new.self _ _ _ c.next_head.new.item (c.in_ok-next_head.ensures.hands_out.head c.in-Head.is)
    c.in_err-take-in-Head.ensures.handled c.in_err-take-in-Head.ensures.follows)

pub returns-in_ok-take-in-Head-clause-handles : goal.returns-in_ok-take-in-Head-clause-handles
returns-in_ok-take-in-Head-clause-handles g c =
    handles_both _ _ _ _ _ _ (handles_follow _ _ _ (waits_follow _ _ c.in_ok-flush_if_due.ensures.waits))
    (handles_one _ c.next_head.new.self _ _ _ c.next_head.new.item (c.in_ok-next_head.ensures.hands_out.head c.in-Head.is)
    c.in_ok-take-in-Head.ensures.handled c.in_ok-take-in-Head.ensures.follows)

-- ---- none

pub returns-in_err-flush-in-Pending-clause-handles : goal.returns-in_err-flush-in-Pending-clause-handles
returns-in_err-flush-in-Pending-clause-handles g c =
    handles_follow _ _ _ (follows_then _ _ _ (follows_then _ _ _ (waits_follow _ _ c.in_ok-flush_if_due.ensures.waits) (c.in_ok-next_head.ensures.hands_out.pending c.in-Pending.is))
    (waits_follow _ _ c.in_err-flush-in-Pending.ensures.waits))

pub returns-in_err-_came-in-Pending-clause-handles : goal.returns-in_err-_came-in-Pending-clause-handles
returns-in_err-_came-in-Pending-clause-handles g c =
    handles_follow _ _ _ (follows_then _ _ _ (follows_then _ _ _ (follows_then _ _ _ (waits_follow _ _ c.in_ok-flush_if_due.ensures.waits)
    (c.in_ok-next_head.ensures.hands_out.pending c.in-Pending.is)) (waits_follow _ _ c.in_ok-flush-in-Pending.ensures.waits)) (waits_follow _ _ c.in_err-_came-in-Pending.ensures.waits))

pub returns-in_ok-_came-in-Pending-clause-handles : goal.returns-in_ok-_came-in-Pending-clause-handles
returns-in_ok-_came-in-Pending-clause-handles g c =
    handles_follow _ _ _ (follows_then _ _ _ (follows_then _ _ _ (follows_then _ _ _ (waits_follow _ _ c.in_ok-flush_if_due.ensures.waits)
    (c.in_ok-next_head.ensures.hands_out.pending c.in-Pending.is)) (waits_follow _ _ c.in_ok-flush-in-Pending.ensures.waits)) (waits_follow _ _ c.in_ok-_came-in-Pending.ensures.waits))

pub returns-in-Fault-clause-handles : goal.returns-in-Fault-clause-handles
returns-in-Fault-clause-handles g c =
    handles_follow _ _ _ (follows_then _ _ _ (waits_follow _ _ c.in_ok-flush_if_due.ensures.waits) (c.in_ok-next_head.ensures.hands_out.fault _ c.in-Fault.is))

-- ---- the end

pub returns-in-Closed-clause-handles : goal.returns-in-Closed-clause-handles
returns-in-Closed-clause-handles g c =
    handles_follow _ _ _ (follows_then _ _ _ (waits_follow _ _ c.in_ok-flush_if_due.ensures.waits) (adds_follow _ _ _ _ (c.in_ok-next_head.ensures.hands_out.closed _ c.in-Closed.is)))

pub returns-in-Closed-2-clause-handles : goal.returns-in-Closed-2-clause-handles
returns-in-Closed-2-clause-handles g c =
    handles_follow _ _ _ (follows_then _ _ _ (waits_follow _ _ c.in_ok-flush_if_due.ensures.waits) (adds_follow _ _ _ _ (c.in_ok-next_head.ensures.hands_out.closed _ c.in-Closed-2.is)))

pub returns-in-Closed-clause-ends : goal.returns-in-Closed-clause-ends
returns-in-Closed-clause-ends g c =
    to_its_end _ _ _ _ _ _ (handles_follow _ _ _ (waits_follow _ _ c.in_ok-flush_if_due.ensures.waits))
    (ends_here _ _ _ (c.in_ok-next_head.ensures.hands_out.closed _ c.in-Closed.is) (c.has_written_all.ensures c.if-has_written_all.true))
