use Rattle.h1_replay.proofs.HubAnswering.{answered_by}
use Rattle.h1_replay.proofs.hub_program.reply_to.Goals as goal

pub returns-in-Ok : goal.returns-in-Ok
returns-in-Ok g c =
    let is_reply = rw c.deref.ensures.value at c.hub_replay.ensures in
    answered_by _ _ _ c.in-Ok.text.items c.hub_replay.result (c.is_replay.ensures.0 c.if-not-is_replay.false) c.in-Ok.ensures.whole is_reply
