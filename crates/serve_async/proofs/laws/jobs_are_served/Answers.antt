use Rattle.h1_dispatcher.specs.View.{view_of, parts_of, MayBePolled}
use Rattle.std.specs.Prelude.{None, false}
use Rattle.serve_async.proofs.Jobs.{served}
use Rattle.serve_async.proofs.laws.jobs_are_served.Goals as goal

pub returns : goal.returns
returns g c = λ job lives. served (λ j. view_of g.T.Transport.wiring g.S.Service.served g.S.Service.calling g.B.MessageBody.gives (λ _. None) (λ _. false) j.dispatcher) (λ j. g.T.Transport.peer (parts_of j.dispatcher).0) _ job lives
