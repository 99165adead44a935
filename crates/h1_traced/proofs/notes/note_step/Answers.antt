use Rattle.h1_traced.proofs.TracedLaws.{heard, grows_unheard}
use Rattle.h1_traced.proofs.notes.note_step.Goals as goal

pub returns-then-not-listens-clause-ok : goal.returns-then-not-listens-clause-ok
returns-then-not-listens-clause-ok g c = grows_unheard _ _ _ _ c.listens.ensures.value c.if-not-listens.true c.listens.ensures.unheard

pub returns-in_err-note-clause-no_memory_needed : goal.returns-in_err-note-clause-no_memory_needed
returns-in_err-note-clause-no_memory_needed g c = λ unheard. heard _ _ c.listens.ensures.value c.if-not-listens.false unheard
