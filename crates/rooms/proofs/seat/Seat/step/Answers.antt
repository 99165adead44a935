use Rattle.std.proofs.Common.{◌≡◌, List, sym, subst}
use Rattle.std.proofs.lemmas.Bool.{false≢true}
use Rattle.model_h1.specs.Event as on
use Rattle.model_h1.specs.Sums.{Step}
use Rattle.h1_connection.specs.EventMeaning.{event_of}
use Rattle.h1_connection.specs.State.{TakesNoMemory}
use Rattle.rooms.specs.Seat.{SeatState, SeatStands}
use Rattle.rooms.proofs.KeptLemmas.{seat_stepped}
use Rattle.rooms.proofs.HeadLemmas.{on_err, no_head_of_other}
use Rattle.rooms.proofs.seat.Seat.step.Goals as goal

pub returns-clause-stands : goal.returns-clause-stands
returns-clause-stands c =
    seat_stepped c.args.self.now _ _ c.args.event.now c.in_ok-outcome.outcome c.step.new.self c.self.view_is c.in_ok-outcome.ensures.stands
    c.in_ok-note.ensures.noted

pub returns-in_err-note-clause-err : goal.returns-in_err-note-clause-err
returns-in_err-note-clause-err c =
    let same : (trace : List Step) → SeatStands c.args.self.now trace → (event_of c.args.event.now ≡ on.next → ⊥) → c.note.new.self ≡ c.args.self.now =
    λ trace s other. absurd (no_head_of_other c.args.self.now _ (event_of c.args.event.now) c.in_ok-outcome.outcome c.step.new.self c.self.view_is
    c.in_ok-outcome.ensures.stands c.in_err-note.ensures.err trace s other) in
    on_err _ same

pub returns-in_err-note-clause-no_memory_needed : goal.returns-in_err-note-clause-no_memory_needed
returns-in_err-note-clause-no_memory_needed c = λ trace s other light.
    absurd (no_head_of_other c.args.self.now _ (event_of c.args.event.now) c.in_ok-outcome.outcome c.step.new.self c.self.view_is
    c.in_ok-outcome.ensures.stands c.in_err-note.ensures.err trace s other)

pub returns-in_err-outcome-clause-no_memory_needed : goal.returns-in_err-outcome-clause-no_memory_needed
returns-in_err-outcome-clause-no_memory_needed c = λ trace s other light.
    absurd (false≢true (c.in_err-outcome.ensures.no_memory_needed
    (subst (λ (x : SeatState). TakesNoMemory x.connection (event_of c.args.event.now)) (sym c.self.view_is) light)))
