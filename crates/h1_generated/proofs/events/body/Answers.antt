use Rattle.h1_generated.proofs.Lists.{body_cut}
use Rattle.h1_generated.proofs.events.body.Goals as goal

pub returns : goal.returns
returns c = body_cut _ _ _ c.requires.letters c.requires.short c.in_ok-body.ensures.ok
