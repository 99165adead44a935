use Rattle.std.proofs.Common.{◌≤◌}
use Rattle.futures.specs.Task.{Keeps}
use Rattle.h1_codec.specs.View.{view_of}
use Rattle.h1_codec.specs.Sends.{given_count, Sends}
use Rattle.h1_codec.specs.Turns.{moved}
use Rattle.h1_codec.proofs.sending.Sending.go_on.Given as goal

abbrev pub invariant-loop-turn : goal.invariant-loop-turn
invariant-loop-turn g l = record {
  sent : (sends : Sends g.U.Encoder.writes (view_of g.T.Transport.wiring g.B.MessageBody.gives l.fn.self) (view_of g.T.Transport.wiring g.B.MessageBody.gives l.self))
      × (l.turn ≤ moved sends.given sends.gave l.fn.self.is_ended l.self.is_ended)
      × (given_count sends.given l.fn.self.is_ended l.self.is_ended ≤ l.turn);
  kept : Keeps l.fn.cx l.cx;
}
