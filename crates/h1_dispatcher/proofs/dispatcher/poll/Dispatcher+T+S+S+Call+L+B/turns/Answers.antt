use Rattle.std.proofs.Common.{rules, arith}
use Rattle.h1_dispatcher.specs.View.{view_of}
use Rattle.h1_dispatcher.proofs.Turns.{no_turn, turns_idle, turns_over, turns_on, turns_spent}
use Rattle.h1_dispatcher.proofs.dispatcher.poll.Dispatcher+T+S+S+Call+L+B.turns.Goals as goal

pub returns-in-Idle-clause-says : goal.returns-in-Idle-clause-says
returns-in-Idle-clause-says g c =
    let v = view_of g.T.Transport.wiring g.S.Service.served g.S.Service.calling g.B.MessageBody.gives g.L.Recorder.noted g.L.Recorder.is_listening c.args.self.now in
    let u = view_of g.T.Transport.wiring g.S.Service.served g.S.Service.calling g.B.MessageBody.gives g.L.Recorder.noted g.L.Recorder.is_listening c.loop-turn.self in
    let w = view_of g.T.Transport.wiring g.S.Service.served g.S.Service.calling g.B.MessageBody.gives g.L.Recorder.noted g.L.Recorder.is_listening c.turn.new.self in
    turns_idle v u w c.turn.new.cx c.loop-turn.turn (search (rules, arith)) c.loop-turn.invariant.goes.goes c.in-Idle.ensures.says

pub returns-in-Over-clause-says : goal.returns-in-Over-clause-says
returns-in-Over-clause-says g c =
    let v = view_of g.T.Transport.wiring g.S.Service.served g.S.Service.calling g.B.MessageBody.gives g.L.Recorder.noted g.L.Recorder.is_listening c.args.self.now in
    let u = view_of g.T.Transport.wiring g.S.Service.served g.S.Service.calling g.B.MessageBody.gives g.L.Recorder.noted g.L.Recorder.is_listening c.loop-turn.self in
    let w = view_of g.T.Transport.wiring g.S.Service.served g.S.Service.calling g.B.MessageBody.gives g.L.Recorder.noted g.L.Recorder.is_listening c.turn.new.self in
    turns_over v u w c.turn.new.cx c.loop-turn.turn c.in-Over.result (search (rules, arith)) c.loop-turn.invariant.goes.goes c.in-Over.ensures.says

pub loop-turn-preserved : goal.loop-turn-preserved
loop-turn-preserved g c =
    let v = view_of g.T.Transport.wiring g.S.Service.served g.S.Service.calling g.B.MessageBody.gives g.L.Recorder.noted g.L.Recorder.is_listening c.args.self.now in
    let u = view_of g.T.Transport.wiring g.S.Service.served g.S.Service.calling g.B.MessageBody.gives g.L.Recorder.noted g.L.Recorder.is_listening c.loop-turn.self in
    let w = view_of g.T.Transport.wiring g.S.Service.served g.S.Service.calling g.B.MessageBody.gives g.L.Recorder.noted g.L.Recorder.is_listening c.turn.new.self in
    record {
      goes = turns_on v u w c.loop-turn.turn c.loop-turn.invariant.goes c.in-Counted.ensures.says;
      open_call = c.turn.ensures.open;
      kept = search rules;
    }

pub loop-turn-init : goal.loop-turn-init
loop-turn-init g c = record { goes = no_turn _; open_call = c.requires.open; kept = search rules }

pub returns-clause-says : goal.returns-clause-says
returns-clause-says g c =
    let v = view_of g.T.Transport.wiring g.S.Service.served g.S.Service.calling g.B.MessageBody.gives g.L.Recorder.noted g.L.Recorder.is_listening c.args.self.now in
    let w = view_of g.T.Transport.wiring g.S.Service.served g.S.Service.calling g.B.MessageBody.gives g.L.Recorder.noted g.L.Recorder.is_listening c.loop-turn.self in
    turns_spent v w c.yield_now.new.self c.loop-turn.turn c.yield_now.result (search (rules, arith)) c.loop-turn.invariant.goes (search rules) (search rules)
