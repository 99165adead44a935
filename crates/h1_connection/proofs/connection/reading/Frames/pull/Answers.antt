use Rattle.h1_connection.proofs.FrontLemmas.{taken_frame, taken_none, taken_rule}
use Rattle.h1_connection.proofs.connection.reading.Frames.pull.Goals as goal

pub returns-in-Ok-Some-clause-pulled : goal.returns-in-Ok-Some-clause-pulled
returns-in-Ok-Some-clause-pulled c =
    taken_frame _ _ _ _ _ _ c.take_frame.ensures.piece c.take_frame.ensures.ahead
    (rw c.in-Ok-Some.field-0-is at c.in-Ok-Some.ensures.taken) (rw c.in-Ok-Some.field-0-is at c.in-Ok-Some.ensures.named)

pub returns-in-Ok-None-clause-pulled : goal.returns-in-Ok-None-clause-pulled
returns-in-Ok-None-clause-pulled c = taken_none _ _ _ _ c.take_frame.ensures.piece c.take_frame.ensures.ahead (rw c.in-Ok-None.field-0-is at c.in-Ok-None.ensures.taken)

pub returns-in_default-clause-pulled : goal.returns-in_default-clause-pulled
returns-in_default-clause-pulled c = taken_rule _ _ _ _ _ c.take_frame.ensures.piece c.take_frame.ensures.ahead c.in_default.not-NoMemory c.in-Err.ensures.taken
