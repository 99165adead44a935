use Rattle.std.proofs.Common.{[], sym, subst}
use Rattle.rooms.specs.Hub.{HubState, HubStands}
use Rattle.rooms.proofs.RunLemmas.{fresh_hub_stands}
use Rattle.rooms.proofs.hub.Hub.new.Goals as goal

pub returns-clause-stands : goal.returns-clause-stands
returns-clause-stands c =
    subst (λ (hub : HubState). HubStands hub [])
    (sym (λ i. record { settings = c.args.config; seats = c.new.ensures.items i; members = c.new-2.ensures i })) (fresh_hub_stands c.args.config)
