use Rattle.std.proofs.Common.{inl, inr, arith}
use Rattle.model_h1.specs.Event as on
use Rattle.model_rooms.specs.Hub.{turns}
use Rattle.rooms.proofs.HubLemmas.{unknown}
use Rattle.rooms.proofs.CallLemmas.{takes_call, refused_call, refused_turn, hub_of}
use Rattle.rooms.proofs.hub.Hub.turn.Goals as goal
use Rattle.rooms.proofs.hub.Hub.turn.Goals.{then-number-len-via-then-number-len, then-number-len-via-else-number-len+then-number-len-2}

pub returns-then-number-len-clause-turned : goal.returns-then-number-len-clause-turned
returns-then-number-len-clause-turned c =
    let here = hub_of c.self.inside.config c.self.inside.seats.items c.self.inside.rooms in
    elim c.then-number-len.branch [
      | then-number-len-via-then-number-len w ↦
          refused_call here c.args.self.now (turns c.args.number) c.self.view_is
          (unknown here c.args.number on.eof (inl (omega (arith, w.if-number-len.true)))).1
      | then-number-len-via-else-number-len+then-number-len-2 w ↦
          refused_call here c.args.self.now (turns c.args.number) c.self.view_is
          (unknown here c.args.number on.eof (inr (omega (arith, w.if-number-len-2.true)))).1
    ]

pub returns-clause-turned : goal.returns-clause-turned
returns-clause-turned c =
    takes_call c.take_turn.result c.args.self.now c.self.inside.config c.self.inside.seats.items c.self.inside.rooms c.take_turn.new.rooms c.args.number
    c.index_mut.result.now c.take_turn.new.seat c.self.view_is (omega arith) c.index_mut.ensures.value c.take_turn.ensures.taken c.take_turn.ensures.settings

pub returns-clause-no_memory_needed : goal.returns-clause-no_memory_needed
returns-clause-no_memory_needed c =
    refused_turn c.take_turn.result c.args.self.now c.self.inside.config c.self.inside.seats.items c.self.inside.rooms c.args.number c.index_mut.result.now
    c.self.view_is (omega arith) c.index_mut.ensures.value c.take_turn.ensures.no_memory_needed
