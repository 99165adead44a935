use Rattle.std.proofs.Common.{false, ap}
use Rattle.serve_blocking.specs.Served.{Line}
use Rattle.serve_blocking.proofs.body.Body.begin_request.Goals as goal

pub returns : goal.returns
returns g c = ap (λ (l : Line). record l { wanted = false; closes = c.args.closes }) c.self.view_is
