-- What was found is what stands at the front.
use Rattle.std.proofs.Common.{sym, ap, ◌∙◌}
use Rattle.ws_frames.specs.Fronts.{is_partial}
use Rattle.ws_frames.proofs.ParsedFronts.{front_of_parsed}
use Rattle.ws_frames.proofs.EarlyFronts.{front_is_early, judged_is_there}
use Rattle.ws_frames.proofs.front.waits_for_frame.Goals as goal

pub returns-in-Waits : goal.returns-in-Waits
returns-in-Waits c = λ u.
    sym (ap is_partial (front_is_early c.args.server u c.args.limit c.args.src.now ∙ ap (front_of_parsed u) c.in-Waits.ensures))

pub returns-in-Refuses : goal.returns-in-Refuses
returns-in-Refuses c = λ u.
    sym (ap is_partial (front_is_early c.args.server u c.args.limit c.args.src.now ∙ ap (front_of_parsed u) c.in-Refuses.ensures.refused))

pub returns-in-Takes : goal.returns-in-Takes
returns-in-Takes c = λ u.
    judged_is_there _ _
    ∙ sym (ap is_partial (front_is_early c.args.server u c.args.limit c.args.src.now ∙ ap (front_of_parsed u) c.in-Takes.ensures.taken))
