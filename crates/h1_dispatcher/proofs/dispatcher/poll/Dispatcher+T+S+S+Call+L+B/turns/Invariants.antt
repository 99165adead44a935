use Rattle.futures.specs.Task.{Keeps}
use Rattle.h1_dispatcher.specs.View.{view_of, MayBePolled}
use Rattle.h1_dispatcher.proofs.Turns.{Turns}
use Rattle.h1_dispatcher.proofs.dispatcher.poll.Dispatcher+T+S+S+Call+L+B.turns.Given as goal

-- each turn so far was progress, of at most five steps, and the first wrote first
abbrev pub invariant-loop-turn : goal.invariant-loop-turn
invariant-loop-turn g l = record {
  goes : Turns (view_of g.T.Transport.wiring g.S.Service.served g.S.Service.calling g.B.MessageBody.gives g.L.Recorder.noted g.L.Recorder.is_listening l.fn.self) (view_of g.T.Transport.wiring g.S.Service.served g.S.Service.calling g.B.MessageBody.gives g.L.Recorder.noted g.L.Recorder.is_listening l.self) l.turn;
  open_call : MayBePolled g.S.Service.calling l.self;
  kept : Keeps l.fn.cx l.cx;
}
