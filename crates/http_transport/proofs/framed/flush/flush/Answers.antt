use Rattle.std.proofs.Common.{◌++◌, List, ℕ, take, subst, rules, Ok}
use Rattle.futures.specs.declared.task.Poll.TheVariants.{Ready}
use Rattle.http_transport.specs.Wiring.{WriteSays}
use Rattle.http_transport.proofs.SendOn.{more_sent}
use Rattle.http_transport.proofs.framed.flush.flush.Goals as goal

pub loop-turn-preserved : goal.loop-turn-preserved
loop-turn-preserved g c =
    let inv = c.loop-turn.invariant in
    let count = c.in-Ready-Ok.count in
    let left = c.loop-turn.unsent.items in
    let says = rw c.in-Ready-Ok.field-0-is at c.in-Ready-Ok.ensures.says in
    let wrote = subst (λ (l : List ℕ). WriteSays (g.T.Transport.wiring c.loop-turn.io) (g.T.Transport.wiring c.poll_write.new.self) (Ready (Ok count)) l) c.as_slice.ensures says in
    record {
      sent = (
        inv.sent.0 ++ take count left,
        more_sent (g.T.Transport.wiring c.args.io.now) (g.T.Transport.wiring c.loop-turn.io) (g.T.Transport.wiring c.poll_write.new.self) c.args.unsent.now.items
            c.loop-turn.turn inv.sent.0 left inv.sent.1 count c.advance.new.self.items wrote (search rules) c.advance.ensures.items,
      );
      kept = search rules;
    }
