use Rattle.std.proofs.Common.{true, false, refl, sym, ◌∙◌, inl, inr, arith}
use Rattle.h1_connection.specs.EventMeaning.{event_of}
use Rattle.model_rooms.specs.Hub.{feeds}
use Rattle.rooms.specs.Hub.{SaysCore}
use Rattle.rooms.proofs.HubLemmas.{unknown, not_fed, not_allowed, hub_fed}
use Rattle.rooms.proofs.CallLemmas.{takes_fed, goes_call, refused_call, refused_at, seat_at, set_kept, allowed_in, hub_of}
use Rattle.rooms.proofs.hub.Hub.feed.Goals as goal
use Rattle.rooms.proofs.hub.Hub.feed.Goals.{then-number-len-via-then-number-len, then-number-len-via-else-number-len+then-number-len-2}

pub returns-then-number-len-clause-fed : goal.returns-then-number-len-clause-fed
returns-then-number-len-clause-fed c =
    let here = hub_of c.self.inside.config c.self.inside.seats.items c.self.inside.rooms in
    elim c.then-number-len.branch [
      | then-number-len-via-then-number-len w ↦
          refused_call here c.args.self.now (feeds c.args.number (event_of c.args.event.now)) c.self.view_is
          (unknown here c.args.number (event_of c.args.event.now) (inl (omega (arith, w.if-number-len.true)))).0
      | then-number-len-via-else-number-len+then-number-len-2 w ↦
          refused_call here c.args.self.now (feeds c.args.number (event_of c.args.event.now)) c.self.view_is
          (unknown here c.args.number (event_of c.args.event.now) (inr (omega (arith, w.if-number-len-2.true)))).0
    ]

pub returns-then-not-is_fed-clause-fed : goal.returns-then-not-is_fed-clause-fed
returns-then-not-is_fed-clause-fed c =
    refused_call _ c.args.self.now (feeds c.args.number (event_of c.args.event.now)) c.self.view_is
    (not_fed _ c.args.number _ (sym c.is_fed.ensures ∙ c.if-not-is_fed.true))

pub step-requires : goal.step-requires
step-requires c = record { allowed = allowed_in _ _ _ true _ c.connection.ensures c.allowed.ensures.value c.if-not-allowed.false }

pub returns-then-not-allowed-clause-fed : goal.returns-then-not-allowed-clause-fed
returns-then-not-allowed-clause-fed c =
    refused_at c.args.self.now c.self.inside.config c.self.inside.seats.items _ c.self.inside.rooms _ (feeds c.args.number (event_of c.args.event.now))
    c.self.view_is (set_kept c.args.number c.self.inside.seats.items c.index_mut-seat.result.now (omega arith) c.index_mut-seat.ensures.value) refl
    (not_allowed _ c.args.number c.index_mut-seat.result.now _ (seat_at c.args.number c.self.inside.seats.items c.index_mut-seat.result.now (omega arith) c.index_mut-seat.ensures.value)
    (allowed_in _ _ _ false _ c.connection.ensures c.allowed.ensures.value c.if-not-allowed.true))

pub returns-clause-fed : goal.returns-clause-fed
returns-clause-fed c =
    goes_call _ c.args.self.now c.self.inside.config _ _ _ _ (feeds c.args.number (event_of c.args.event.now))
    (SaysCore (event_of c.args.event.now) c.in_ok-outcome.outcome) c.self.view_is refl refl
    (hub_fed (hub_of c.self.inside.config c.self.inside.seats.items c.self.inside.rooms) c.follow.new.rooms c.args.number c.index_mut-seat.result.now
    c.step.new.self c.args.event.now c.in_ok-outcome.outcome (seat_at c.args.number c.self.inside.seats.items c.index_mut-seat.result.now (omega arith) c.index_mut-seat.ensures.value)
    (sym c.is_fed.ensures ∙ c.if-not-is_fed.false)
    (allowed_in _ _ _ true _ c.connection.ensures c.allowed.ensures.value c.if-not-allowed.false)
    c.in_ok-outcome.ensures.stands c.step.ensures.settings c.in_ok-follow.ensures)

pub returns-in_err-outcome-clause-no_memory_needed : goal.returns-in_err-outcome-clause-no_memory_needed
returns-in_err-outcome-clause-no_memory_needed c = λ seen x refused.
    absurd (takes_fed (hub_of c.self.inside.config c.self.inside.seats.items c.self.inside.rooms) c.args.self.now c.args.number c.index_mut-seat.result.now
    (event_of c.args.event.now) c.self.view_is (seat_at c.args.number c.self.inside.seats.items c.index_mut-seat.result.now (omega arith) c.index_mut-seat.ensures.value)
    (sym c.is_fed.ensures ∙ c.if-not-is_fed.false) (allowed_in _ _ _ true _ c.connection.ensures c.allowed.ensures.value c.if-not-allowed.false) seen x refused)

pub returns-in_err-follow-clause-no_memory_needed : goal.returns-in_err-follow-clause-no_memory_needed
returns-in_err-follow-clause-no_memory_needed c = λ seen x refused.
    absurd (takes_fed (hub_of c.self.inside.config c.self.inside.seats.items c.self.inside.rooms) c.args.self.now c.args.number c.index_mut-seat.result.now
    (event_of c.args.event.now) c.self.view_is (seat_at c.args.number c.self.inside.seats.items c.index_mut-seat.result.now (omega arith) c.index_mut-seat.ensures.value)
    (sym c.is_fed.ensures ∙ c.if-not-is_fed.false) (allowed_in _ _ _ true _ c.connection.ensures c.allowed.ensures.value c.if-not-allowed.false) seen x refused)
