use Rattle.std.proofs.Common.{true, false, sym, ap, ◌∙◌}
use Rattle.std.specs.Prelude.{option_map}
use Rattle.std.specs.Option.{option_copied}
use Rattle.model_h1.specs.Answer.{size_of}
use Rattle.model_h1.specs.Event as on
use Rattle.ws_frames.specs.Sent.{message_says}
use Rattle.model_rooms.specs.Turn.{answer_head}
use Rattle.rooms.specs.Turn.{limit_of, answer_by}
use Rattle.rooms.proofs.AskLemmas.{next_asked, accept_asked, answer_asked, socket_or, socket_none, none_not_answer, allowed_is}
use Rattle.rooms.proofs.TurnLemmas.{holds_of}
use Rattle.rooms.proofs.seat.Seat.turn_event.Goals as goal

pub returns-then-allowed-clause-asked : goal.returns-then-allowed-clause-asked
returns-then-allowed-clause-asked c =
    next_asked c.args.self.now (option_map message_says (option_copied c.args.front))
    (allowed_is _ c.args.self.now c.allowed.result true on.next c.self.view_is c.allowed.ensures.value c.if-allowed.true)

pub returns-then-may_accept-clause-asked : goal.returns-then-may_accept-clause-asked
returns-then-may_accept-clause-asked c =
    accept_asked c.args.self.now (option_map message_says (option_copied c.args.front)) c.self.inside.limit
    (c.self.invariant.limit_is ∙ ap limit_of c.self.view_is)
    (allowed_is _ c.args.self.now c.allowed.result false on.next c.self.view_is c.allowed.ensures.value c.if-allowed.false)
    (sym c.may_accept.ensures ∙ c.if-may_accept.true)

pub returns-then-can_answer-clause-asked : goal.returns-then-can_answer-clause-asked
returns-then-can_answer-clause-asked c =
    answer_asked c.args.self.now (option_map message_says (option_copied c.args.front)) c.in_ok-event.event c.in_ok-event.ensures
    (allowed_is _ c.args.self.now c.allowed.result false on.next c.self.view_is c.allowed.ensures.value c.if-allowed.false)
    (sym c.may_accept.ensures ∙ c.if-may_accept.false)
    (allowed_is _ c.args.self.now c.can_answer.result true (answer_by c.args.self.now) c.self.view_is
    (c.can_answer.ensures (answer_head c.args.self.now.refusal) (size_of 0)) c.if-can_answer.true)

pub returns-clause-asked : goal.returns-clause-asked
returns-clause-asked c =
    socket_or c.args.self.now (option_map message_says (option_copied c.args.front)) c.socket_event.result c.socket_event.ensures.asked
    (allowed_is _ c.args.self.now c.allowed.result false on.next c.self.view_is c.allowed.ensures.value c.if-allowed.false)
    (sym c.may_accept.ensures ∙ c.if-may_accept.false)
    (allowed_is _ c.args.self.now c.can_answer.result false (answer_by c.args.self.now) c.self.view_is
    (c.can_answer.ensures (answer_head c.args.self.now.refusal) (size_of 0)) c.if-can_answer.false)

pub returns-then-allowed-clause-holds : goal.returns-then-allowed-clause-holds
returns-then-allowed-clause-holds c = holds_of _ _ c.args.self.now c.self.view_is c.self.invariant

pub returns-then-may_accept-clause-holds : goal.returns-then-may_accept-clause-holds
returns-then-may_accept-clause-holds c = holds_of _ _ c.args.self.now c.self.view_is c.self.invariant

pub returns-in_err-event-clause-holds : goal.returns-in_err-event-clause-holds
returns-in_err-event-clause-holds c = holds_of _ _ c.args.self.now c.self.view_is c.self.invariant

pub returns-then-can_answer-clause-holds : goal.returns-then-can_answer-clause-holds
returns-then-can_answer-clause-holds c = holds_of _ _ c.args.self.now c.self.view_is c.self.invariant

pub returns-clause-holds : goal.returns-clause-holds
returns-clause-holds c = holds_of _ _ c.args.self.now c.self.view_is c.self.invariant

pub returns-in_err-event-clause-no_memory_needed : goal.returns-in_err-event-clause-no_memory_needed
returns-in_err-event-clause-no_memory_needed c = λ none.
    absurd (none_not_answer c.args.self.now (option_map message_says (option_copied c.args.front))
    (allowed_is _ c.args.self.now c.allowed.result false on.next c.self.view_is c.allowed.ensures.value c.if-allowed.false)
    (sym c.may_accept.ensures ∙ c.if-may_accept.false)
    (allowed_is _ c.args.self.now c.can_answer.result true (answer_by c.args.self.now) c.self.view_is
    (c.can_answer.ensures (answer_head c.args.self.now.refusal) (size_of 0)) c.if-can_answer.true) none)

pub returns-clause-no_memory_needed : goal.returns-clause-no_memory_needed
returns-clause-no_memory_needed c = λ none.
    c.socket_event.ensures.no_memory_needed
    (socket_none c.args.self.now (option_map message_says (option_copied c.args.front))
    (allowed_is _ c.args.self.now c.allowed.result false on.next c.self.view_is c.allowed.ensures.value c.if-allowed.false)
    (sym c.may_accept.ensures ∙ c.if-may_accept.false)
    (allowed_is _ c.args.self.now c.can_answer.result false (answer_by c.args.self.now) c.self.view_is
    (c.can_answer.ensures (answer_head c.args.self.now.refusal) (size_of 0)) c.if-can_answer.false) none)
