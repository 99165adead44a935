use Rattle.std.proofs.Common.{inl, inr, arith}
use Rattle.rooms.proofs.CallLemmas.{sends_unknown, sends_unseen, sends_call, failed_call, hub_of}
use Rattle.rooms.proofs.hub.Hub.send_first.Goals as goal
use Rattle.rooms.proofs.hub.Hub.send_first.Goals.{then-number-len-via-then-number-len, then-number-len-via-else-number-len+then-number-len-2}

pub returns-then-number-len-clause-sent : goal.returns-then-number-len-clause-sent
returns-then-number-len-clause-sent c =
    let here = hub_of c.self.inside.config c.self.inside.seats.items c.self.inside.rooms in
    elim c.then-number-len.branch [
      | then-number-len-via-then-number-len w ↦
          sends_unknown here c.args.self.now c.args.number c.self.view_is (omega (arith, w.if-number-len.true))
      | then-number-len-via-else-number-len+then-number-len-2 w ↦
          sends_unseen here c.args.self.now c.args.number c.self.view_is (omega (arith, w.if-number-len-2.true))
    ]

pub returns-clause-sent : goal.returns-clause-sent
returns-clause-sent c =
    sends_call c.send_first.result c.args.self.now c.self.inside.config c.self.inside.seats.items c.self.inside.rooms c.send_first.new.rooms c.args.number
    c.index_mut.result.now c.send_first.new.seat c.self.view_is (omega arith) c.index_mut.ensures.value c.send_first.ensures.sent c.send_first.ensures.settings

pub returns-clause-err : goal.returns-clause-err
returns-clause-err c =
    failed_call c.send_first.result c.args.self.now c.self.inside.config c.self.inside.seats.items c.self.inside.rooms c.send_first.new.rooms c.args.number
    c.index_mut.result.now c.send_first.new.seat c.self.view_is (omega arith) c.index_mut.ensures.value c.send_first.ensures.err
