use Rattle.std.proofs.Common.{sym}
use Rattle.http_bodies.proofs.Histories.{grown-none}
use Rattle.h1_traced.proofs.TracedLaws.{any_err, heard, grows_unheard}
use Rattle.h1_traced.proofs.notes.note_next.Goals as goal

pub returns-then-not-listens-clause-ok : goal.returns-then-not-listens-clause-ok
returns-then-not-listens-clause-ok g c = grows_unheard _ _ _ _ c.listens.ensures.value c.if-not-listens.true c.listens.ensures.unheard

pub returns-in_err-outcome-clause-err : goal.returns-in_err-outcome-clause-err
returns-in_err-outcome-clause-err g c = any_err _ (grown-none _)

pub returns-in_err-outcome-clause-no_memory_needed : goal.returns-in_err-outcome-clause-no_memory_needed
returns-in_err-outcome-clause-no_memory_needed g c = λ unheard. heard _ _ c.listens.ensures.value c.if-not-listens.false unheard

pub returns-in_err-note_made-clause-no_memory_needed : goal.returns-in_err-note_made-clause-no_memory_needed
returns-in_err-note_made-clause-no_memory_needed g c = λ unheard. heard _ _ c.listens.ensures.value c.if-not-listens.false unheard

pub returns-clause-ok : goal.returns-clause-ok
returns-clause-ok g c = rw (sym c.in_ok-outcome.ensures) c.in_ok-note_made.ensures.ok
