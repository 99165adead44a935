use Rattle.h1_client.specs.ClientMeaning.{setting_of}
use Rattle.h1_client.proofs.GoesOnLemmas.{on_map, goes_so}
use Rattle.h1_client.proofs.connection.ClientConnection.end_body.Goals as goal

pub returns-clause-stands : goal.returns-clause-stands
returns-clause-stands c =
    on_map c.end_body.result _ _ (λ steps. goes_so _ c.self.inside.config c.self.inside.parts c.end_body.new.self _ _ c.self.view_is c.requires.can_end_body (steps (setting_of c.self.inside.config))) c.end_body.ensures.ok
