use Rattle.std.proofs.Common.{◌≡◌, ◌++◌, [], ◌∷◌, ◌<◌, length, ap, ◌∙◌, arith}
use Rattle.model_rooms.specs.Hub.{opens, opened, MAX_CONNECTIONS}
use Rattle.rooms.specs.Seat.{SeatState}
use Rattle.rooms.proofs.HubLemmas.{hub_opened}
use Rattle.rooms.proofs.CallLemmas.{takes_opening, goes_call, hub_of}
use Rattle.rooms.proofs.hub.Hub.open.Goals as goal

pub returns-clause-opened : goal.returns-clause-opened
returns-clause-opened c =
    let count : c.len-number.result ≡ length c.self.inside.seats.items = omega arith in
    goes_call _ c.args.self.now c.self.inside.config _ _ _ _ opens (λ out. out ≡ opened c.len-number.result) c.self.view_is
    (c.in_ok-push.ensures.items ∙ ap (λ (s : SeatState). c.self.inside.seats.items ++ s ∷ []) c.new.ensures.value) c.in_ok-open.ensures.ok
    (hub_opened (hub_of c.self.inside.config c.self.inside.seats.items c.self.inside.rooms) c.len-number.result count (omega arith))

pub returns-in_err-open-clause-no_memory_needed : goal.returns-in_err-open-clause-no_memory_needed
returns-in_err-open-clause-no_memory_needed c =
    let few : length c.self.inside.seats.items < MAX_CONNECTIONS = omega arith in
    λ seen x refused. absurd (takes_opening (hub_of c.self.inside.config c.self.inside.seats.items c.self.inside.rooms) c.args.self.now c.self.view_is few seen x refused)

pub returns-in_err-push-clause-no_memory_needed : goal.returns-in_err-push-clause-no_memory_needed
returns-in_err-push-clause-no_memory_needed c =
    let few : length c.self.inside.seats.items < MAX_CONNECTIONS = omega arith in
    λ seen x refused. absurd (takes_opening (hub_of c.self.inside.config c.self.inside.seats.items c.self.inside.rooms) c.args.self.now c.self.view_is few seen x refused)
