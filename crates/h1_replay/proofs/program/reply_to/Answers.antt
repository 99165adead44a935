use Rattle.h1_replay.proofs.Answering.{IsAnswer-reply}
use Rattle.h1_replay.proofs.program.reply_to.Goals as goal

pub returns-in-Ok : goal.returns-in-Ok
returns-in-Ok g c =
    let is_reply = rw c.deref.ensures.value at c.replay.ensures in
    IsAnswer-reply _ _ _ c.in-Ok.text.items c.replay.result (c.is_replay.ensures.0 c.if-not-is_replay.false) c.in-Ok.ensures.whole is_reply

pub returns-then-not-is_replay : goal.returns-then-not-is_replay
returns-then-not-is_replay g c = c.reply_unread.ensures _
