use Rattle.h1_connection.proofs.StepLemmas.{new_sound}
use Rattle.h1_connection.proofs.connection.parts.Parts.new.Goals as goal

pub returns-clause-sound : goal.returns-clause-sound
returns-clause-sound c = λ settings. new_sound settings _ _ _ c.new.ensures.value c.new.ensures.scanned c.new-3.ensures
