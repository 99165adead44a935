use Rattle.std.proofs.Common.{◌≡◌, ◌≤◌, length, List, []}
use Rattle.futures.specs.Task.{Keeps}
use Rattle.http_bodies.specs.Told.{led_by}
use Rattle.http_bodies.specs.Giving.{Given}
use Rattle.http_bodies.specs.Gather.{gathering_of, known, all_of}
use Rattle.http_bodies.proofs.body.gatherer.Gatherer.gather.Given as goal

abbrev pub invariant-loop : goal.invariant-loop
invariant-loop g l = record {
  all : all_of (known g.B.MessageBody.gives (gathering_of l.self)) ≡ all_of (known g.B.MessageBody.gives (gathering_of l.fn.self));
  held : l.self.held ≡ [];
  limit : l.self.limit ≡ l.fn.self.limit;
  size : l.self.size ≡ l.fn.self.size;
  faults : (g.B.MessageBody.gives l.fn.self.body).faults ≤ (g.B.MessageBody.gives l.self.body).faults;
  waits : (g.B.MessageBody.gives l.self.body).waits ≡ (g.B.MessageBody.gives l.fn.self.body).waits;
  left : (came : List Given) × ((g.B.MessageBody.gives l.fn.self.body).coming ≡ led_by came (g.B.MessageBody.gives l.self.body).coming) × (length came ≡ l.counter);
  kept : Keeps l.fn.cx l.cx;
}
