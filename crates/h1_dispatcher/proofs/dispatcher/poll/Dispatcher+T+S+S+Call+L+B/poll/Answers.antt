use Rattle.std.proofs.Common.{rules, inl, inr, refl}
use Rattle.h1_dispatcher.specs.View.{view_of}
use Rattle.h1_dispatcher.proofs.dispatcher.poll.Dispatcher+T+S+S+Call+L+B.poll.Goals as goal

pub returns-in-Ok-clause-says : goal.returns-in-Ok-clause-says
returns-in-Ok-clause-says g c = inr (search rules, inr (view_of g.T.Transport.wiring g.S.Service.served g.S.Service.calling g.B.MessageBody.gives g.L.Recorder.noted g.L.Recorder.is_listening c.begin.new.self, c.in-Ok.ensures.says, c.turns.ensures.says))

pub returns-in-Err-clause-says : goal.returns-in-Err-clause-says
returns-in-Err-clause-says g c = inr (search rules, inl (refl, c.in-Err.ensures.says))

pub returns-then-is_broken-clause-says : goal.returns-then-is_broken-clause-says
returns-then-is_broken-clause-says g c = inl (search rules, refl, refl)
