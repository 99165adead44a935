use Rattle.std.proofs.Common.{◌∙◌, rules}
use Rattle.http_bodies.proofs.Wholes.{gathered_in, came_in}
use Rattle.http_bodies.proofs.body.gatherer.Gatherer.gather.Goals as goal

pub loop-preserved : goal.loop-preserved
loop-preserved g c =
    let says = rw (c.in-Ready-Some-Ok.field-0-is, c.in-Ready-Some-Ok.field-0-0-is) at c.in-Ready-Some-Ok.ensures.says in
    record {
      all = gathered_in g.B.MessageBody.gives _ _ _ _ _ _ says.gives c.keep.ensures.all c.keep.ensures.others.0 ∙ c.loop.invariant.all;
      held = search rules;
      limit = search rules;
      size = search rules;
      faults = search rules;
      waits = search rules;
      left = came_in g.B.MessageBody.gives _ _ _ _ _ _ c.loop.invariant.left says.gives c.keep.ensures.others.0;
      kept = search rules;
    }
