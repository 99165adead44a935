use Rattle.std.proofs.Common.{ap, ◌∙◌}
use Rattle.model_client.specs.ClientEvent as on
use Rattle.model_client.specs.ClientKept.{client_allows}
use Rattle.h1_client.specs.ClientMeaning.{setting_of}
use Rattle.h1_client.specs.State.{State}
use Rattle.h1_client.proofs.connection.ClientConnection.can_end_body.Goals as goal

pub returns-clause-ends : goal.returns-clause-ends
returns-clause-ends c = c.can_end_body.ensures.ends (setting_of c.self.inside.config) ∙ ap (λ (s : State). client_allows (setting_of s.settings) s.kept on.body_end) c.self.view_is

pub returns-clause-fails : goal.returns-clause-fails
returns-clause-fails c = c.can_end_body.ensures.fails (setting_of c.self.inside.config) ∙ ap (λ (s : State). client_allows (setting_of s.settings) s.kept on.body_error) c.self.view_is
