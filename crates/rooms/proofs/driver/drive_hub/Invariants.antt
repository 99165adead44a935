use Rattle.rooms.proofs.RunLemmas.{IsDrivenTo}
use Rattle.rooms.proofs.driver.drive_hub.Given as goal

abbrev pub invariant-loop-index : goal.invariant-loop-index
invariant-loop-index l = IsDrivenTo l.config l.events l.index l.steps.items l.hub
