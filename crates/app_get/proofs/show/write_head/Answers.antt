use Rattle.std.proofs.KnownBytes.{Keeps-refl}
use Rattle.app_get.specs.declared.error.GetError.TheVariants as get_error
use Rattle.app_get.proofs.Shown.{written_head}
use Rattle.app_get.proofs.Stopping.{err_as, unshown}
use Rattle.app_get.proofs.show.write_head.Goals as goal

pub returns-in_err-text-clause-err : goal.returns-in_err-text-clause-err
returns-in_err-text-clause-err g c = err_as _ get_error.NoMemory _ c.from_residual.ensures.1 (Keeps-refl _)

pub returns-clause-ok : goal.returns-clause-ok
returns-clause-ok g c = written_head _ _ _ _ _ _ c.in_ok-text.ensures c.as_slice.ensures c.write_all.ensures.ok

pub returns-clause-err : goal.returns-clause-err
returns-clause-err g c = unshown _ _ _ _ _ c.write_all.ensures.cause
