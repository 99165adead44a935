use Rattle.std.proofs.Common.{◌<◌, ◌≤◌, length, refl, arith}
use Rattle.std.proofs.lemmas.Option.{slice_get_read}
use Rattle.rooms.proofs.RunLemmas.{driven_new, driven_more, whole_of, misplaced_of}
use Rattle.rooms.proofs.FirstLemmas.{none_refused, first_refused, not_whole}
use Rattle.rooms.proofs.driver.drive_hub.Goals as goal

pub loop-index-init : goal.loop-index-init
loop-index-init c = driven_new _ _ _ _ c.new-steps.ensures.items c.new-hub.ensures.value

pub returns-in_default-clause-stopped : goal.returns-in_default-clause-stopped
returns-in_default-clause-stopped c =
    let in_range : c.loop-index.index < length c.args.events.now = omega arith in
    misplaced_of _ _ _ _ c.loop-index.hub c.step.new.self _ c.index-events-index.result c.loop-index.invariant refl c.in_ok-buffered.ensures
    (slice_get_read _ _ _ _ refl in_range c.index-events-index.is) (rw c.in_default.is at c.in_ok-outcome.ensures.steps)

pub returns-in_default-clause-complete : goal.returns-in_default-clause-complete
returns-in_default-clause-complete c = λ allowed. none_refused _ _ _ _ (returns-in_default-clause-stopped c) allowed

pub returns-in_default-clause-first : goal.returns-in_default-clause-first
returns-in_default-clause-first c = λ index refused. first_refused _ _ _ index _ (returns-in_default-clause-stopped c) refused

pub loop-index-preserved : goal.loop-index-preserved
loop-index-preserved c =
    let in_range : c.loop-index.index < length c.args.events.now = omega arith in
    driven_more _ _ _ _ _ c.loop-index.hub c.step.new.self _ _ in_range c.index-events-index.is c.loop-index.invariant
    (rw c.in-Some.is at c.in_ok-outcome.ensures.steps) c.step.ensures.settings c.in_ok-note.ensures

pub returns-clause-ok : goal.returns-clause-ok
returns-clause-ok c =
    let all : length c.args.events.now ≤ c.loop-index.index = omega arith in
    whole_of _ _ _ _ _ _ c.loop-index.invariant refl c.in_ok-buffered-2.ensures all

pub returns-clause-first : goal.returns-clause-first
returns-clause-first c = λ index refused. not_whole _ _ index _ (returns-clause-ok c) refused
