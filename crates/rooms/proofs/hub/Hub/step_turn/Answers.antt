use Rattle.std.proofs.Common.{refl}
use Rattle.model_rooms.specs.Hub.{turns}
use Rattle.rooms.proofs.CallLemmas.{as_value}
use Rattle.rooms.proofs.hub.Hub.step_turn.Goals as goal

pub returns-clause-steps : goal.returns-clause-steps
returns-clause-steps c =
    as_value c.args.self.now c.turn.new.self (turns c.args.number) _ _ _ c.in_ok-boxed.boxed refl c.in_ok-boxed.ensures
    (rw c.in-Some.is at c.in_ok-turn.ensures.turned)
