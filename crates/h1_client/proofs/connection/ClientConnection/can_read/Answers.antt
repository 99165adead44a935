use Rattle.std.proofs.Common.{ap, ◌∙◌}
use Rattle.model_client.specs.ClientEvent as on
use Rattle.model_client.specs.ClientKept.{client_allows}
use Rattle.h1_client.specs.ClientMeaning.{setting_of}
use Rattle.h1_client.specs.State.{State}
use Rattle.h1_client.proofs.connection.ClientConnection.can_read.Goals as goal

pub returns-clause-read : goal.returns-clause-read
returns-clause-read c = λ bytes. c.can_read.ensures.read (setting_of c.self.inside.config) bytes ∙ ap (λ (s : State). client_allows (setting_of s.settings) s.kept (on.read bytes)) c.self.view_is

pub returns-clause-eof : goal.returns-clause-eof
returns-clause-eof c = c.can_read.ensures.eof (setting_of c.self.inside.config) ∙ ap (λ (s : State). client_allows (setting_of s.settings) s.kept on.eof) c.self.view_is
