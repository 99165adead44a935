use Rattle.std.proofs.Common.{◌≡◌, false, map, string_bytes, refl}
use Rattle.std.specs.Result.{is_err}
use Rattle.board_server.proofs.Running.{usage_said, acceptor_opens, told_said}
use Rattle.board_server.proofs.run.serve_run.Goals as goal

pub returns-in_default-clause-status : goal.returns-in_default-clause-status
returns-in_default-clause-status g c =
    usage_said (map (λ w. string_bytes w) c.args.words.now) (g.D.Acceptor.opening c.args.acceptor) (g.D.Acceptor.opening c.args.acceptor) c.say.result (g.O.Sink.given c.args.output.now) (g.O.Sink.given c.say.new.output)
    (g.O.Sink.faults c.args.output.now) (g.O.Sink.faults c.say.new.output) (c.in_default.ensures.none refl) refl c.say.ensures

pub returns-clause-end : goal.returns-clause-end
returns-clause-end g c =
    let none : is_err c.open.result ≡ false = cc (c.is_err.ensures.value, c.if-is_err.false) in
    record {
      port = c.in-Some.words.port;
      most = c.in-Some.words.most;
      polls = c.in-Some.words.polls;
      words_are = c.in-Some.ensures.some;
      opened = g.D.Acceptor.opening c.open.new.self;
      opens = acceptor_opens (g.D.Acceptor.opening c.args.acceptor) (g.D.Acceptor.opening c.open.new.self) c.open.result c.open.ensures.says none;
      says = rw c.default.ensures at c.serve-ran.ensures;
    }

pub returns-clause-status : goal.returns-clause-status
returns-clause-status g c =
    let words = c.in-Some.words in
    told_said (map (λ w. string_bytes w) c.args.words.now) (g.D.Acceptor.opening c.args.acceptor) (g.D.Acceptor.opening c.serve-ran.result.acceptor) c.tell-status.result (g.O.Sink.given c.args.output.now)
    (g.O.Sink.given c.tell-status.new.output) (g.O.Sink.faults c.args.output.now) (g.O.Sink.faults c.tell-status.new.output) c.default.result words.polls (g.K.Clock.may_give c.args.clock) g.W.Transport.wiring
    g.L.Recorder.noted words.most (g.D.Acceptor.opening c.open.new.self) c.serve-ran.result.end (words.port, words.most, words.polls, c.in-Some.ensures.some) c.open.ensures.says.never_falls c.serve-ran.ensures
    c.tell-status.ensures
