use Rattle.std.proofs.Common.{◌≡◌, ℕ, List}
use Rattle.futures.specs.Task.{Keeps}
use Rattle.http_transport.proofs.ReadOn.{Turned}
use Rattle.http_transport.proofs.framed.read.next_item.Given as goal

abbrev pub invariant-loop-turn : goal.invariant-loop-turn
invariant-loop-turn g l = record {
  turned : (came : List ℕ) × Turned g.U.Decoder.reads g.U.Decoder.given g.U.Decoder.nothing g.U.Decoder.breaks g.U.Decoder.lacks g.U.Decoder.seen
      g.U.Decoder.leaves (g.T.Transport.wiring l.fn.io) (g.T.Transport.wiring l.io) l.fn.codec l.fn.unread.items l.turn came l.codec l.unread.items;
  beside : g.U.Decoder.beside l.codec ≡ g.U.Decoder.beside l.fn.codec;
  kept : Keeps l.fn.cx l.cx;
}
