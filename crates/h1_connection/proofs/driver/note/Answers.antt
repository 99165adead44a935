use Rattle.h1_connection.proofs.driver.note.Goals as goal

pub returns : goal.returns
returns c = record { last = c.in_ok-noted.noted; is_last = c.in_ok-noted.ensures; are = c.in_ok-push.ensures.items }
