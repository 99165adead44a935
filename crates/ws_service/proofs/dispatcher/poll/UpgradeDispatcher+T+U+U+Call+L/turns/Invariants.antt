use Rattle.futures.specs.Task.{Keeps}
use Rattle.ws_service.specs.View.{view_of, MayBePolled}
use Rattle.ws_service.proofs.Turns.{Turns}
use Rattle.ws_service.proofs.dispatcher.poll.UpgradeDispatcher+T+U+U+Call+L.turns.Given as goal

-- each turn so far was progress, of at most four steps, and the first wrote first
abbrev pub invariant-loop-turn : goal.invariant-loop-turn
invariant-loop-turn g l = record {
  goes : Turns (view_of g.T.Transport.wiring g.U.Service.served g.L.Recorder.noted g.L.Recorder.is_listening l.fn.self) (view_of g.T.Transport.wiring g.U.Service.served g.L.Recorder.noted g.L.Recorder.is_listening l.self) l.turn;
  open_call : MayBePolled g.U.Service.calling l.self;
  kept : Keeps l.fn.cx l.cx;
}
