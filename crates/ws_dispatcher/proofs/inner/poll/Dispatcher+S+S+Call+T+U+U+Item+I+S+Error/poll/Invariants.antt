use Rattle.std.proofs.Common.{List, ◌≤◌, ◌*◌, length}
use Rattle.futures.specs.Task.{Keeps}
use Rattle.ws_dispatcher.specs.View.{view_of}
use Rattle.ws_dispatcher.specs.Steps.{Step, IsRun}
use Rattle.ws_dispatcher.specs.Polls.{MayBePolled, AllContinue, progress, SendsFirst}
use Rattle.ws_dispatcher.specs.Steps.{Unwritten}
use Rattle.ws_dispatcher.proofs.inner.poll.Dispatcher+S+S+Call+T+U+U+Item+I+S+Error.poll.Given as goal

-- each turn so far was progress, of at most two steps, and what waited to be sent went out first
abbrev pub invariant-loop-turn : goal.invariant-loop-turn
invariant-loop-turn g l = record {
  run : (steps : List (Step g.row.U-Item.Denot g.row.I.Denot g.row.S-Error.Denot))
      × IsRun g.U.Decoder.reads g.U.Decoder.given g.U.Decoder.nothing g.U.Decoder.breaks g.U.Decoder.lacks g.U.Decoder.seen g.U.Decoder.leaves g.U.Encoder.writes (Unwritten g.U.Encoder.refuses g.U.Encoder.lacks g.U.Encoder.leaves)
      (view_of g.T.Transport.wiring g.S.Service.served l.fn.self) steps (view_of g.T.Transport.wiring g.S.Service.served l.self)
      × AllContinue steps
      × (l.turn ≤ progress steps)
      × (length steps ≤ 2 * l.turn)
      × SendsFirst (view_of g.T.Transport.wiring g.S.Service.served l.fn.self) steps;
  open_call : MayBePolled g.S.Service.calling l.self;
  kept : Keeps l.fn.cx l.cx;
}
