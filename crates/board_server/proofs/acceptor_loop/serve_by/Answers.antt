use Rattle.std.proofs.Common.{◌≡◌, ℕ, rules, subst}
use Rattle.board_server.specs.Reports.{SaysRan}
use Rattle.board_server.proofs.acceptor_loop.serve_by.Goals as goal

pub returns-in-Ok-serve_all : goal.returns-in-Ok-serve_all
returns-in-Ok-serve_all g c =
    let made : c.from_board-shared.result.made ≡ c.args.most = search rules in
    subst
    (λ (n : ℕ). SaysRan c.args.config c.args.polls (g.K.Clock.may_give c.args.clock) g.W.Transport.wiring g.L.Recorder.noted n (g.D.Acceptor.opening c.args.acceptor) (g.D.Acceptor.opening c.finish.result.acceptor) c.finish.result.end)
    made (c.finish.ensures (g.D.Acceptor.opening c.args.acceptor) c.in-Ok-serve_all.ensures.taken)
