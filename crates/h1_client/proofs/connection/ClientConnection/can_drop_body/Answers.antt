use Rattle.std.proofs.Common.{ap, ◌∙◌}
use Rattle.model_client.specs.ClientEvent as on
use Rattle.model_client.specs.ClientKept.{client_allows}
use Rattle.h1_client.specs.ClientMeaning.{setting_of}
use Rattle.h1_client.specs.State.{State}
use Rattle.h1_client.proofs.connection.ClientConnection.can_drop_body.Goals as goal

pub returns : goal.returns
returns c = c.can_drop_body.ensures (setting_of c.self.inside.config) ∙ ap (λ (s : State). client_allows (setting_of s.settings) s.kept on.drop_body) c.self.view_is
