use Rattle.std.proofs.Common.{rules, arith, [], refl, inl, inr}
use Rattle.ws_dispatcher.specs.View.{view_of}
use Rattle.ws_dispatcher.proofs.Turns.{poll_idle, poll_over, poll_counted, poll_spent}
use Rattle.ws_dispatcher.specs.Steps.{Unwritten}
use Rattle.ws_dispatcher.proofs.inner.poll.Dispatcher+S+S+Call+T+U+U+Item+I+S+Error.poll.Goals as goal

pub returns-in-Idle-clause-says : goal.returns-in-Idle-clause-says
returns-in-Idle-clause-says g c =
    let v = view_of g.T.Transport.wiring g.S.Service.served c.args.self.now in
    let u = view_of g.T.Transport.wiring g.S.Service.served c.loop-turn.self in
    let w = view_of g.T.Transport.wiring g.S.Service.served c.turn.new.self in
    let run = c.loop-turn.invariant.run in
    poll_idle g.U.Decoder.reads g.U.Decoder.given g.U.Decoder.nothing g.U.Decoder.breaks g.U.Decoder.lacks g.U.Decoder.seen g.U.Decoder.leaves g.U.Encoder.writes (Unwritten g.U.Encoder.refuses g.U.Encoder.lacks g.U.Encoder.leaves) v u w run.0 run.1 run.2 c.turn.new.cx c.loop-turn.turn (search (rules, arith)) run.3 run.4 c.in-Idle.ensures.says

pub returns-in-Over-clause-says : goal.returns-in-Over-clause-says
returns-in-Over-clause-says g c =
    let v = view_of g.T.Transport.wiring g.S.Service.served c.args.self.now in
    let u = view_of g.T.Transport.wiring g.S.Service.served c.loop-turn.self in
    let w = view_of g.T.Transport.wiring g.S.Service.served c.turn.new.self in
    let run = c.loop-turn.invariant.run in
    poll_over g.U.Decoder.reads g.U.Decoder.given g.U.Decoder.nothing g.U.Decoder.breaks g.U.Decoder.lacks g.U.Decoder.seen g.U.Decoder.leaves g.U.Encoder.writes (Unwritten g.U.Encoder.refuses g.U.Encoder.lacks g.U.Encoder.leaves) v u w run.0 run.1 run.2 c.turn.new.cx c.loop-turn.turn c.in-Over.result (search (rules, arith)) run.3 run.4 c.in-Over.ensures.says

pub loop-turn-preserved : goal.loop-turn-preserved
loop-turn-preserved g c =
    let v = view_of g.T.Transport.wiring g.S.Service.served c.args.self.now in
    let u = view_of g.T.Transport.wiring g.S.Service.served c.loop-turn.self in
    let w = view_of g.T.Transport.wiring g.S.Service.served c.turn.new.self in
    let run = c.loop-turn.invariant.run in
    record {
      run = poll_counted g.U.Decoder.reads g.U.Decoder.given g.U.Decoder.nothing g.U.Decoder.breaks g.U.Decoder.lacks g.U.Decoder.seen g.U.Decoder.leaves g.U.Encoder.writes (Unwritten g.U.Encoder.refuses g.U.Encoder.lacks g.U.Encoder.leaves) v u w run.0 run.1 run.2 c.turn.new.cx c.loop-turn.turn run.3 run.4 run.5 c.in-Counted.ensures.says;
      open_call = c.turn.ensures.open;
      kept = search rules;
    }

pub loop-turn-init : goal.loop-turn-init
loop-turn-init g c = record { run = ([], refl, tt, omega arith, omega arith, inr (inl tt)); open_call = c.requires.open; kept = search rules }

pub returns-clause-says : goal.returns-clause-says
returns-clause-says g c =
    let v = view_of g.T.Transport.wiring g.S.Service.served c.args.self.now in
    let u = view_of g.T.Transport.wiring g.S.Service.served c.loop-turn.self in
    let run = c.loop-turn.invariant.run in
    poll_spent g.U.Decoder.reads g.U.Decoder.given g.U.Decoder.nothing g.U.Decoder.breaks g.U.Decoder.lacks g.U.Decoder.seen g.U.Decoder.leaves g.U.Encoder.writes (Unwritten g.U.Encoder.refuses g.U.Encoder.lacks g.U.Encoder.leaves) v u u run.0 run.1 run.2 c.yield_now.new.self c.loop-turn.turn c.yield_now.result (search (rules, arith)) run.3 run.4 run.5 (search rules) (search rules)
