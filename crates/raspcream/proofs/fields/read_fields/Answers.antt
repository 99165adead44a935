use Rattle.raspcream.proofs.NamedLemmas.{fails_too}
use Rattle.std.proofs.lemmas.Result.{err_from_is_err_and}
use Rattle.std.proofs.Common.{refl, rules}
use Rattle.raspcream.proofs.PackedLemmas.{nothing_read, stuck, wrong_line, line_read, all_read, shrinks}
use Rattle.raspcream.proofs.fields.read_fields.Goals as goal

pub loop-rest-init : goal.loop-rest-init
loop-rest-init c = nothing_read _ _ c.new-map.ensures

pub returns-in_default-clause-why : goal.returns-in_default-clause-why
returns-in_default-clause-why c = stuck _ _ _ c.loop-rest.invariant (search rules) (c.in_default.ensures.none refl)

pub returns-in_err-put-clause-why : goal.returns-in_err-put-clause-why
returns-in_err-put-clause-why c = let p = err_from_is_err_and c.from_residual.result c.from_residual.ensures.1 in rw (p.1, p.2) (fails_too _ _ _ (wrong_line _ _ _ _ _ _ c.loop-rest.invariant c.in-Some.ensures.some) c.in_err-put.ensures.why)

pub loop-rest-preserved : goal.loop-rest-preserved
loop-rest-preserved c = line_read _ _ _ _ _ _ _ c.loop-rest.invariant c.in-Some.ensures.some c.in_ok-put.ensures.name c.in_ok-put.ensures.value c.in_ok-put.ensures.put

pub returns-clause-ok : goal.returns-clause-ok
returns-clause-ok c = all_read _ _ _ c.loop-rest.invariant (search rules)

pub loop-rest-smaller : goal.loop-rest-smaller
loop-rest-smaller c = shrinks _ _ _ _ c.in-Some.ensures.some
