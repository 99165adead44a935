use Rattle.app_get.proofs.Going.{ok_acts_then}
use Rattle.app_get.proofs.Stopping.{err_stops, err_then}
use Rattle.app_get.proofs.exchange.Exchange.fill_room.Goals as goal

pub returns-clause-acts : goal.returns-clause-acts
returns-clause-acts g c = ok_acts_then _ _ _ _ c.in_ok-hand_in.ensures.acts c.end_body.ensures.goes

pub returns-clause-stops : goal.returns-clause-stops
returns-clause-stops g c = err_then _ _ _ _ c.in_ok-hand_in.ensures.acts.goes c.end_body.ensures.stops

pub returns-in_err-hand_in-clause-stops : goal.returns-in_err-hand_in-clause-stops
returns-in_err-hand_in-clause-stops g c = err_stops _ _ _ _ c.from_residual.ensures.1 c.in_err-hand_in.ensures.stops
