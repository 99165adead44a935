use Rattle.std.proofs.Common.{true, false, refl}
use Rattle.model_h1.specs.Frame as frames
use Rattle.model_h1.specs.Event as on
use Rattle.ws_frames.specs.Sent.{message_says}
use Rattle.rooms.proofs.AskLemmas.{allowed_is}
use Rattle.rooms.proofs.TurnLemmas.{holds_of}
use Rattle.rooms.proofs.SendLemmas.{sent_turn}
use Rattle.rooms.proofs.seat.Seat.send_front.Goals as goal

pub returns-then-not-can_send-clause-turned : goal.returns-then-not-can_send-clause-turned
returns-then-not-can_send-clause-turned c =
    (refl, allowed_is _ c.args.self.now c.can_send.result false (on.send frames.nop) c.self.view_is (c.can_send.ensures frames.nop) c.if-not-can_send.true)

pub returns-clause-turned : goal.returns-clause-turned
returns-clause-turned c =
    sent_turn c.args.self.now _ (message_says c.args.front.now) c.in_ok-sent.sent c.send.new.self (holds_of _ _ c.args.self.now c.self.view_is c.self.invariant)
    c.self.view_is
    (λ m. allowed_is _ c.args.self.now c.can_send.result true (on.send m) c.self.view_is (c.can_send.ensures m) c.if-not-can_send.false)
    c.in_ok-sent.ensures.stands
