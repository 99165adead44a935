use Rattle.raspcream.proofs.ShownLemmas.{keeps_all, keeps_on}
use Rattle.raspcream.proofs.reply.tell_fields.Goals as goal

pub loop-name-init : goal.loop-name-init
loop-name-init c = keeps_all _

pub loop-name-preserved : goal.loop-name-preserved
loop-name-preserved c = keeps_on _ _ _ c.loop-name.invariant c.put_field.ensures

pub returns-clause-rest : goal.returns-clause-rest
returns-clause-rest c =
    let k = c.loop-name.invariant in
    record { kind = k.kind; reason = k.reason; number = k.number; method = k.method; target = k.target; minor = k.minor; body = k.body }
