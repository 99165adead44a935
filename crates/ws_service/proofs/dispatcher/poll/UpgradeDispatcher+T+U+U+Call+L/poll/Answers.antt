use Rattle.std.proofs.Common.{rules, inl, inr, refl}
use Rattle.ws_service.specs.View.{view_of}
use Rattle.ws_service.proofs.dispatcher.poll.UpgradeDispatcher+T+U+U+Call+L.poll.Goals as goal

pub returns-in-Ok-clause-says : goal.returns-in-Ok-clause-says
returns-in-Ok-clause-says g c =
    inr (search rules, inr (view_of g.T.Transport.wiring g.U.Service.served g.L.Recorder.noted g.L.Recorder.is_listening c.begin.new.self, c.in-Ok.ensures.says, c.turns.ensures.says))

pub returns-in-Err-clause-says : goal.returns-in-Err-clause-says
returns-in-Err-clause-says g c = inr (search rules, inl (refl, c.in-Err.ensures.says))

pub returns-then-is_broken-clause-says : goal.returns-then-is_broken-clause-says
returns-then-is_broken-clause-says g c = inl (search rules, refl, refl)
