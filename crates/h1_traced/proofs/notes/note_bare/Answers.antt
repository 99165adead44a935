use Rattle.std.proofs.Common.{sym}
use Rattle.h1_traced.proofs.TracedLaws.{heard, grows_unheard}
use Rattle.h1_traced.proofs.notes.note_bare.Goals as goal

pub returns-then-not-listens-clause-ok : goal.returns-then-not-listens-clause-ok
returns-then-not-listens-clause-ok g c = grows_unheard _ _ _ _ c.listens.ensures.value c.if-not-listens.true c.listens.ensures.unheard

pub returns-clause-no_memory_needed : goal.returns-clause-no_memory_needed
returns-clause-no_memory_needed g c = λ unheard. heard _ _ c.listens.ensures.value c.if-not-listens.false unheard

pub returns-clause-ok : goal.returns-clause-ok
returns-clause-ok g c = rw (sym c.event.ensures) c.note_made.ensures.ok
