use Rattle.std.proofs.Common.{ap, ◌∙◌}
use Rattle.model_client.specs.ClientEvent as on
use Rattle.model_client.specs.ClientKept.{client_allows}
use Rattle.h1_client.specs.ClientMeaning.{setting_of}
use Rattle.h1_client.specs.State.{State}
use Rattle.h1_client.proofs.connection.ClientConnection.can_write.Goals as goal

pub returns : goal.returns
returns c = λ limit. c.can_write.ensures (setting_of c.self.inside.config) limit ∙ ap (λ (s : State). client_allows (setting_of s.settings) s.kept (on.write limit)) c.self.view_is
