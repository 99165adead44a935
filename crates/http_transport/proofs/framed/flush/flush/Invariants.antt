use Rattle.std.proofs.Common.{ℕ, List}
use Rattle.futures.specs.Task.{Keeps}
use Rattle.http_transport.proofs.SendOn.{Sent}
use Rattle.http_transport.proofs.framed.flush.flush.Given as goal

abbrev pub invariant-loop-turn : goal.invariant-loop-turn
invariant-loop-turn g l = record {
  sent : (gave : List ℕ) × Sent (g.T.Transport.wiring l.fn.io) (g.T.Transport.wiring l.io) l.fn.unsent.items l.turn gave l.unsent.items;
  kept : Keeps l.fn.cx l.cx;
}
