use Rattle.std.proofs.Common.{Option, Some, None, refl, sym, subst}
use Rattle.std.proofs.lemmas.Bool.{false≢true}
use Rattle.model_h1.specs.Frame.{Message}
use Rattle.rooms.specs.Turn.{asked_by, IsAsked, TurnsBy}
use Rattle.rooms.proofs.AskLemmas.{none_not_some}
use Rattle.rooms.proofs.moves.take_turn.Goals as goal

pub returns-in_default-clause-taken : goal.returns-in_default-clause-taken
returns-in_default-clause-taken c = (
  subst (λ (m : Option Message). TurnsBy c.args.seat.now m None c.turn.new.self) c.front.ensures (rw c.in_default.is at c.in_ok-turn.ensures.turned),
  refl,
)

pub returns-clause-taken : goal.returns-clause-taken
returns-clause-taken c = (
  subst (λ (m : Option Message). TurnsBy c.args.seat.now m (Some c.in-Some.turn) c.turn.new.self) c.front.ensures
      (rw c.in-Some.is at c.in_ok-turn.ensures.turned),
  c.in_ok-follow.ensures,
)

pub returns-in_err-turn-clause-no_memory_needed : goal.returns-in_err-turn-clause-no_memory_needed
returns-in_err-turn-clause-no_memory_needed c = λ none.
    absurd (false≢true (c.in_err-turn.ensures.no_memory_needed
    (subst (λ (m : Option Message). IsAsked c.args.seat.now.connection (asked_by c.args.seat.now m) None) (sym c.front.ensures) none)))

pub returns-in_err-follow-clause-no_memory_needed : goal.returns-in_err-follow-clause-no_memory_needed
returns-in_err-follow-clause-no_memory_needed c = λ none.
    let asked = rw c.in-Some.is at c.in_ok-turn.ensures.asked in
    absurd (none_not_some c.args.seat.now _ c.in-Some.turn.event
    (subst (λ (m : Option Message). IsAsked c.args.seat.now.connection (asked_by c.args.seat.now m) (Some c.in-Some.turn.event)) c.front.ensures asked.0) none)
