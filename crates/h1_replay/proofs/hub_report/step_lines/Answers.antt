use Rattle.std.proofs.Common.{◌<◌, ◌≤◌, length, arith}
use Rattle.h1_replay.proofs.HubReportLines.{more_lines, all_lines}
use Rattle.h1_replay.proofs.hub_report.step_lines.Goals as goal

pub loop-step-preserved : goal.loop-step-preserved
loop-step-preserved c =
    let within : c.loop-step.step-index < length c.args.steps.now = omega arith in
    more_lines _ _ _ _ _ _ within c.step-item.is c.loop-step.invariant c.in_ok-put_step.ensures c.in_ok-extend_from_slice.ensures.items

pub returns : goal.returns
returns c =
    let all : length c.args.steps.now ≤ c.loop-step.step-index = omega arith in
    all_lines _ _ _ all c.loop-step.invariant
