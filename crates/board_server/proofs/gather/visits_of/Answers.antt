use Rattle.std.proofs.Common.{rules, arith}
use Rattle.board_server.specs.Visits.{WasServed}
use Rattle.board_server.proofs.Kept.{all_fewer}
use Rattle.board_server.proofs.Matched.{matched_more}
use Rattle.board_server.proofs.gather.visits_of.Goals as goal

pub loop-one-preserved : goal.loop-one-preserved
loop-one-preserved g c =
    let serving = c.args.serving.now in
    record {
      served =
          all_fewer (λ s. WasServed serving.config serving.polls (g.K.Clock.may_give serving.clock) (g.W.Transport.wiring s.transport) (g.L.Recorder.noted s.recorder) s.pass.pass s.end) c.pop.new.self.items c.in-Some.one
          (rw c.in-Some.ensures.items at c.loop-one.invariant.served);
      matched =
          rw (c.push_reserved.ensures.items, c.push_reserved-in-Some.ensures.items)
          (matched_more serving.config serving.polls (g.K.Clock.may_give serving.clock) g.W.Transport.wiring g.L.Recorder.noted _ _ _ _ c.loop-one.invariant.matched c.visit_of-visit.ensures);
      count_visits = search (rules, arith);
      count_passes = search (rules, arith);
      room_for_visits = search (rules, arith);
      room_for_passes = search (rules, arith);
      room = search (rules, arith);
    }
