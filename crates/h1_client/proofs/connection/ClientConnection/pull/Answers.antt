use Rattle.model_client.specs.ClientEvent as on
use Rattle.h1_client.specs.Bodies.{SaysPulled}
use Rattle.h1_client.specs.ClientMeaning.{setting_of}
use Rattle.h1_client.proofs.GoesOnLemmas.{ok_map, goes_on}
use Rattle.h1_client.proofs.connection.ClientConnection.pull.Goals as goal

pub returns-clause-stands : goal.returns-clause-stands
returns-clause-stands c =
    ok_map c.pull.result _ _
    (λ answer pulled. let x = pulled (setting_of c.self.inside.config) in
    goes_on _ c.self.inside.config c.self.inside.parts c.pull.new.self on.pull x.0 (SaysPulled answer) c.self.view_is c.requires.can_pull x.1 x.2) c.pull.ensures.ok
