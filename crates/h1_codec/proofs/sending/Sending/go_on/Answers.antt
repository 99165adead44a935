use Rattle.std.proofs.Common.{rules, arith}
use Rattle.h1_codec.specs.View.{view_of}
use Rattle.h1_codec.proofs.Behind.{rests_behind, over_behind, over_says, spent_behind}
use Rattle.h1_codec.proofs.Whole.{none_few, sends_on}
use Rattle.h1_codec.specs.Turns.{MAX_TURNS}
use Rattle.h1_codec.proofs.sending.Sending.go_on.Goals as goal

pub loop-turn-init : goal.loop-turn-init
loop-turn-init g c =
    let none = none_few g.U.Encoder.writes (view_of g.T.Transport.wiring g.B.MessageBody.gives c.args.self.now) c.requires.begun in
    record {
      sent = (none.0, omega arith, omega (arith, none.1));
      kept = search rules;
    }

pub loop-turn-preserved : goal.loop-turn-preserved
loop-turn-preserved g c =
    let v = view_of g.T.Transport.wiring g.B.MessageBody.gives c.args.self.now in
    let u = view_of g.T.Transport.wiring g.B.MessageBody.gives c.loop-turn.self in
    let w = view_of g.T.Transport.wiring g.B.MessageBody.gives c.turn.new.self in
    let before = c.loop-turn.invariant.sent in
    let more = c.in-Goes.ensures.says in
    let all = sends_on g.U.Encoder.writes v u w before.0 more.0 in
    record {
      sent = (all.0, omega (arith, before.1, more.1, all.1), omega (arith, before.2, more.2, all.3));
      kept = search rules;
    }

pub returns-in-Waits-clause-says : goal.returns-in-Waits-clause-says
returns-in-Waits-clause-says g c =
    let v = view_of g.T.Transport.wiring g.B.MessageBody.gives c.args.self.now in
    let u = view_of g.T.Transport.wiring g.B.MessageBody.gives c.loop-turn.self in
    let w = view_of g.T.Transport.wiring g.B.MessageBody.gives c.turn.new.self in
    rests_behind g.U.Encoder.writes g.U.Encoder.refuses g.U.Encoder.lacks g.U.Encoder.leaves c.loop-turn.turn 1 MAX_TURNS (omega (arith, c.loop-turn-test.true)) v u w c.loop-turn.invariant.sent.0 c.loop-turn.invariant.sent.2
    c.turn.new.cx.is_woken c.in-Waits.ensures.says

pub returns-in-Over-clause-says : goal.returns-in-Over-clause-says
returns-in-Over-clause-says g c =
    let v = view_of g.T.Transport.wiring g.B.MessageBody.gives c.args.self.now in
    let u = view_of g.T.Transport.wiring g.B.MessageBody.gives c.loop-turn.self in
    let w = view_of g.T.Transport.wiring g.B.MessageBody.gives c.turn.new.self in
    over_says g.U.Encoder.writes g.U.Encoder.refuses g.U.Encoder.lacks g.U.Encoder.leaves v w c.turn.new.cx.is_woken c.in-Over.result
    (over_behind g.U.Encoder.writes g.U.Encoder.refuses g.U.Encoder.lacks g.U.Encoder.leaves c.loop-turn.turn 1 MAX_TURNS (omega (arith, c.loop-turn-test.true)) v u w c.loop-turn.invariant.sent.0 c.loop-turn.invariant.sent.2
    (omega arith) c.turn.new.cx.is_woken c.in-Over.result c.in-Over.ensures.says)

pub returns-clause-says : goal.returns-clause-says
returns-clause-says g c =
    let v = view_of g.T.Transport.wiring g.B.MessageBody.gives c.args.self.now in
    let u = view_of g.T.Transport.wiring g.B.MessageBody.gives c.loop-turn.self in
    let w = view_of g.T.Transport.wiring g.B.MessageBody.gives c.rest.new.self in
    spent_behind g.U.Encoder.writes g.U.Encoder.refuses g.U.Encoder.lacks g.U.Encoder.leaves v u w c.loop-turn.invariant.sent.0 (omega (arith, c.loop-turn.invariant.sent.2)) c.rest.new.cx.is_woken c.rest.result
    (omega (arith, c.loop-turn.invariant.sent.1)) c.rest.ensures.says
