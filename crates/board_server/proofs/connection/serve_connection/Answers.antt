use Rattle.board_server.proofs.Told.{told}
use Rattle.board_server.proofs.connection.serve_connection.Goals as goal

pub returns-clause-told : goal.returns-clause-told
returns-clause-told g c = λ unnoted.
    let served = c.poll_service.result in
    told (g.W.Transport.wiring c.args.transport) (g.W.Transport.wiring served.transport) (g.W.Transport.peer c.args.transport) c.args.pass.number c.args.config (g.L.Recorder.noted c.args.recorder) (g.L.Recorder.noted served.recorder)
    (g.L.Recorder.is_listening c.args.recorder) c.args.polls (g.K.Clock.may_give c.args.clock) served.pass.pass served.end (c.poll_service.ensures.stands unnoted) c.poll_service.ensures.served
