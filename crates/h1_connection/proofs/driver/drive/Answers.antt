use Rattle.std.proofs.Common.{◌<◌, ◌≤◌, length, refl, sym, ◌∙◌, arith}
use Rattle.std.proofs.lemmas.Option.{slice_get_read}
use Rattle.h1_connection.proofs.RunLemmas.{noted_new, noted_more, whole_of, misplaced_of}
use Rattle.h1_connection.proofs.LawLemmas.{none_refused, first_refused, not_whole}
use Rattle.h1_connection.proofs.driver.drive.Goals as goal

pub loop-index-init : goal.loop-index-init
loop-index-init c = noted_new _ _ _ _ c.in_ok-outcomes.ensures.items c.new-connection.ensures

pub trace_of-requires : goal.trace_of-requires
trace_of-requires c = omega (arith, c.loop-index.invariant.counted)

pub returns-then-not-allowed-clause-stopped : goal.returns-then-not-allowed-clause-stopped
returns-then-not-allowed-clause-stopped c =
    let kept = c.in_ok-trace.ensures in
    let in_range : c.loop-index.index < length c.args.events.now = omega arith in
    misplaced_of _ _ _ _ _ _ c.index-events-index.result c.loop-index.invariant.driven kept.steps kept.buffered kept.closing
    (slice_get_read _ _ _ _ refl in_range c.index-events-index.is) (sym c.allowed.ensures.value ∙ c.if-not-allowed.true)

pub returns-then-not-allowed-clause-complete : goal.returns-then-not-allowed-clause-complete
returns-then-not-allowed-clause-complete c = λ allowed. none_refused _ _ _ _ (returns-then-not-allowed-clause-stopped c) allowed

pub returns-then-not-allowed-clause-first : goal.returns-then-not-allowed-clause-first
returns-then-not-allowed-clause-first c = λ index refused. first_refused _ _ _ index _ (returns-then-not-allowed-clause-stopped c) refused

pub loop-index-preserved : goal.loop-index-preserved
loop-index-preserved c =
    let in_range : c.loop-index.index < length c.args.events.now = omega arith in
    noted_more _ _ _ _ _ c.loop-index.connection c.step.new.self _ _ in_range c.index-events-index.is c.loop-index.invariant
    c.in_ok-outcome.ensures.stands c.step.ensures.settings c.in_ok-note.ensures

pub returns-clause-ok : goal.returns-clause-ok
returns-clause-ok c =
    let kept = c.in_ok-trace-2.ensures in
    let all : length c.args.events.now ≤ c.loop-index.index = omega arith in
    whole_of _ _ _ _ _ _ c.loop-index.invariant.driven kept.steps kept.buffered kept.closing all

pub returns-clause-first : goal.returns-clause-first
returns-clause-first c = λ index refused. not_whole _ _ index _ (returns-clause-ok c) refused
