use Rattle.std.proofs.Common.{sym, ◌∙◌}
use Rattle.board_server.proofs.Acts.{ends_stuck, ends_by, waits_on, none_below}
use Rattle.board_server.proofs.connection.poll_to_end.Goals as goal

pub returns-then-is_stuck : goal.returns-then-is_stuck
returns-then-is_stuck g c = record {
  ends =
      ends_stuck c.args.polls c.loop-count.count (g.K.Clock.may_give c.args.clock) (g.K.Clock.may_give c.loop-count.clock) _ _ _ c.poll_once-polled.result c.loop-count.invariant.waits
      c.loop-count-test.true c.loop-count.invariant.same c.poll_once-polled.ensures.polls (sym c.is_stuck.ensures ∙ c.if-is_stuck.true);
}

pub loop-count-preserved : goal.loop-count-preserved
loop-count-preserved g c = record {
  waits =
      waits_on c.args.polls c.loop-count.count (g.K.Clock.may_give c.args.clock) (g.K.Clock.may_give c.loop-count.clock) _ _ _ c.loop-count.invariant.waits c.loop-count.invariant.same
      c.in-Pending.ensures.polls;
  open_call = c.poll_once-polled.ensures.open;
  answered = none_below _ (sym c.is_stuck.ensures ∙ c.if-is_stuck.false);
  same = λ moment. c.poll_once-polled.ensures.same moment ∙ c.loop-count.invariant.same moment;
}

pub returns-in-Ready : goal.returns-in-Ready
returns-in-Ready g c = record {
  ends =
      ends_by c.args.polls c.loop-count.count (g.K.Clock.may_give c.args.clock) (g.K.Clock.may_give c.loop-count.clock) _ _ _ c.poll_once-polled.result c.in-Ready.ended c.told.result c.loop-count.invariant.waits
      c.loop-count-test.true c.loop-count.invariant.same c.poll_once-polled.ensures.polls (sym c.is_stuck.ensures ∙ c.if-is_stuck.false) c.in-Ready.is c.told.ensures;
}
