use Rattle.h1_dispatcher.specs.View.{view_of}
use Rattle.std.specs.Prelude.{None, false}
use Rattle.serve_async.proofs.Jobs.{cause}
use Rattle.serve_async.proofs.laws.ends_have_causes.Goals as goal

pub returns : goal.returns
returns g c = λ a b moment output ends. cause (λ j. view_of g.T.Transport.wiring g.S.Service.served g.S.Service.calling g.B.MessageBody.gives (λ _. None) (λ _. false) j.dispatcher) a b moment output ends
