use Rattle.h1_connection.specs.Parts.{kept_of}
use Rattle.h1_connection.proofs.ClosingLemmas.{unnoted}
use Rattle.h1_connection.proofs.StepLemmas.{sound_may}
use Rattle.h1_connection.proofs.connection.parts.Parts.noted_closing.Goals as goal

pub returns-in-None : goal.returns-in-None
returns-in-None c = unnoted _ (kept_of c.args.self.now) c.requires.noted c.in-None.is

pub closing-requires : goal.closing-requires
closing-requires c = sound_may c.args.config.now c.args.self.now c.requires
