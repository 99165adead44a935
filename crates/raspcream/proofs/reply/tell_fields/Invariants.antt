use Rattle.raspcream.specs.Shown.{KeepsRest}
use Rattle.raspcream.proofs.reply.tell_fields.Given as goal

abbrev pub invariant-loop-name : goal.invariant-loop-name
invariant-loop-name l = KeepsRest l.initial.out l.out
