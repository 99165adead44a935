use Rattle.std.proofs.Common.{sym}
use Rattle.http_bodies.proofs.Histories.{grown-none}
use Rattle.h1_traced.proofs.TracedLaws.{any_err, grows_unheard}
use Rattle.h1_traced.proofs.notes.note_read.Goals as goal

pub returns-then-not-listens-clause-ok : goal.returns-then-not-listens-clause-ok
returns-then-not-listens-clause-ok g c = grows_unheard _ _ _ _ c.listens.ensures.value c.if-not-listens.true c.listens.ensures.unheard

pub returns-clause-ok : goal.returns-clause-ok
returns-clause-ok g c = rw (sym c.in_ok-copy_from_slice.ensures) c.note_made.ensures.ok

pub returns-in_err-copy_from_slice-clause-err : goal.returns-in_err-copy_from_slice-clause-err
returns-in_err-copy_from_slice-clause-err g c = any_err _ (grown-none _)
