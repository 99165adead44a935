use Rattle.std.proofs.Common.{[], refl, rules, ◌≤◌, ◌<◌, length}
use Rattle.std.proofs.lemmas.List.{take_rest}
use Rattle.h1_replay.specs.Output.{nothing}
use Rattle.h1_replay.proofs.Writing.{writes_more}
use Rattle.h1_replay.proofs.output.write_all.Goals as goal

pub loop-rest-init : goal.loop-rest-init
loop-rest-init g c = ([], refl, nothing)

pub loop-rest-preserved : goal.loop-rest-preserved
loop-rest-preserved g c =
    let some : 0 < c.in_ok-count.count = search rules in
    let within : c.in_ok-count.count ≤ length c.loop-rest.rest.now = search rules in
    let more = writes_more _ _ _ _ _ _ c.loop-rest.invariant some within (record { written = c.in_ok-count.ensures.bytes; faults = search rules; calls = c.write.ensures.asked }) in
    simp take_rest more
