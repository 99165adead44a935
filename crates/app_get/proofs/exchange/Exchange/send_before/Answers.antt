use Rattle.app_get.proofs.Sending.{sent_goes, sent_waits, late_unsent}
use Rattle.app_get.proofs.Results.{ok_always}
use Rattle.app_get.proofs.Stopping.{err_stops}
use Rattle.app_get.proofs.exchange.Exchange.send_before.Goals as goal

pub returns-clause-goes : goal.returns-clause-goes
returns-clause-goes g c = ok_always _ _ (sent_goes _ _ _ c.send.ensures)

pub returns-clause-waiting : goal.returns-clause-waiting
returns-clause-waiting g c = ok_always _ _ (sent_waits _ _ _ c.requires c.send.ensures)

pub returns-in_err-left-in-NotNow-clause-stops : goal.returns-in_err-left-in-NotNow-clause-stops
returns-in_err-left-in-NotNow-clause-stops g c =
    err_stops _ _ _ _ c.from_residual.ensures.1 (late_unsent _ _ _ c.in_err-left-in-NotNow.ensures c.requires c.in-NotNow.ensures)

pub returns-in_err-left-in-Nothing-clause-stops : goal.returns-in_err-left-in-Nothing-clause-stops
returns-in_err-left-in-Nothing-clause-stops g c =
    err_stops _ _ _ _ c.from_residual-in_err-left-in-Nothing.ensures.1 (late_unsent _ _ _ c.in_err-left-in-Nothing.ensures c.requires c.in-Nothing.ensures)
