use Rattle.std.proofs.Common.{◌≡◌, Option, Some, None, refl, sym, inl, inr, subst}
use Rattle.model_h1.specs.Frame.{Message}
use Rattle.ws_frames.specs.Sent.{message_says}
use Rattle.rooms.specs.Turn.{sending, TurnsBy}
use Rattle.rooms.proofs.moves.send_first.Goals as goal

pub returns-in_default-clause-sent : goal.returns-in_default-clause-sent
returns-in_default-clause-sent c = (inl (sym (rw c.in_default.is at c.front.ensures)), refl, refl)

pub returns-in_default-2-clause-sent : goal.returns-in_default-2-clause-sent
returns-in_default-2-clause-sent c =
    let none = rw c.in_default-2.is at c.in_ok-sent.ensures.turned in (inr none.1, none.0, refl)

pub returns-clause-sent : goal.returns-clause-sent
returns-clause-sent c =
    let said = message_says c.in-Some.message.now in
    let waits = rw c.in-Some.is at c.front.ensures in
    let sent = rw c.in-Some-2.is at c.in_ok-sent.ensures.turned in
    let turned = subst (λ (m : Option Message). TurnsBy c.args.seat.now m (Some (sending said c.in-Some-2.sent)) c.send_front.new.self) waits sent in
    (said, (turned, c.follow_sent.ensures said))
