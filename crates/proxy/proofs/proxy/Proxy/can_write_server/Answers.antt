use Rattle.std.proofs.Common.{sym, ap, ◌∙◌, Option}
use Rattle.model_client.specs.ClientEvent as asked
use Rattle.h1_client.specs.State as servers
use Rattle.proxy.specs.Kept.{server_allows}
use Rattle.proxy.proofs.proxy.Proxy.can_write_server.Goals as goal

pub returns-in-Some : goal.returns-in-Some
returns-in-Some c = λ limit.
    c.can_write.ensures limit ∙ ap (λ (o : Option servers.State). server_allows o (asked.write limit)) (sym c.in-Some.is)
