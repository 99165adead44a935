use Rattle.app_get.proofs.Going.{goes_then}
use Rattle.app_get.proofs.Stopping.{err_stops, stops_then}
use Rattle.app_get.proofs.exchange.Exchange.listen.Goals as goal

pub returns-clause-goes : goal.returns-clause-goes
returns-clause-goes g c = goes_then _ _ _ c.in_ok-wait.ensures.goes c.in_ok-read_more.ensures.goes

pub returns-in_err-read_more-clause-stops : goal.returns-in_err-read_more-clause-stops
returns-in_err-read_more-clause-stops g c =
    err_stops _ _ _ _ c.from_residual-in_err-read_more.ensures.1 (stops_then _ _ _ _ c.in_ok-wait.ensures.goes c.in_err-read_more.ensures.stops)

pub returns-in_err-wait-clause-stops : goal.returns-in_err-wait-clause-stops
returns-in_err-wait-clause-stops g c = err_stops _ _ _ _ c.from_residual.ensures.1 c.in_err-wait.ensures.stops
