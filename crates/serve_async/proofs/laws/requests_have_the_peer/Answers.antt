use Rattle.h1_dispatcher.specs.View.{view_of, parts_of, MayBePolled}
use Rattle.std.specs.Prelude.{None, false}
use Rattle.serve_async.proofs.Jobs.{told}
use Rattle.serve_async.proofs.laws.requests_have_the_peer.Goals as goal

pub returns : goal.returns
returns g c = λ job lives.
    told (λ j. view_of g.T.Transport.wiring g.S.Service.served g.S.Service.calling g.B.MessageBody.gives (λ _. None) (λ _. false) j.dispatcher) (λ j. g.T.Transport.peer (parts_of j.dispatcher).0) _ job lives
