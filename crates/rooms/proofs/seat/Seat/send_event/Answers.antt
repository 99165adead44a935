use Rattle.std.proofs.Common.{true, false, ◌∙◌}
use Rattle.model_h1.specs.Frame as frames
use Rattle.model_h1.specs.Event as on
use Rattle.ws_frames.specs.Sent.{message_says}
use Rattle.rooms.proofs.AskLemmas.{send_asked, pull_after, allowed_is, none_not_send}
use Rattle.rooms.proofs.seat.Seat.send_event.Goals as goal

pub returns-then-can_send-clause-asked : goal.returns-then-can_send-clause-asked
returns-then-can_send-clause-asked c =
    send_asked c.args.self.now c.new.result (message_says c.args.message.now) (c.new.ensures ∙ c.in_ok-copy.ensures.0)
    (λ m. allowed_is _ c.args.self.now c.can_send.result true (on.send m) c.self.view_is (c.can_send.ensures m) c.if-can_send.true)

pub returns-clause-asked : goal.returns-clause-asked
returns-clause-asked c =
    pull_after c.args.self.now (message_says c.args.message.now) c.pull_event.result
    (allowed_is _ c.args.self.now c.can_send.result false (on.send frames.nop) c.self.view_is (c.can_send.ensures frames.nop) c.if-can_send.false)
    c.pull_event.ensures

pub returns-in_err-copy-clause-no_memory_needed : goal.returns-in_err-copy-clause-no_memory_needed
returns-in_err-copy-clause-no_memory_needed c = λ none.
    absurd (none_not_send c.args.self.now (message_says c.args.message.now)
    (allowed_is _ c.args.self.now c.can_send.result true (on.send frames.nop) c.self.view_is (c.can_send.ensures frames.nop) c.if-can_send.true) none)
