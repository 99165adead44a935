use Rattle.std.proofs.Common.{◌≡◌, ◌∙◌, ap, map, codes}
use Rattle.h1_connection.specs.EventMeaning.{event_of}
use Rattle.h1_generated.specs.Summary.{summary_text}
use Rattle.h1_generated.specs.GeneratedMeaning.{model_counts}
use Rattle.h1_generated.specs.Run.{IsSummary}
use Rattle.h1_generated.proofs.Totals.{generated_fits, generated_sums}
use Rattle.h1_connection.proofs.ResultLemmas.{ok_map}
use Rattle.h1_generated.proofs.summary.summary_of.Goals as goal

pub counts_of-requires : goal.counts_of-requires
counts_of-requires c =
    let made = ap (map event_of) c.as_slice.ensures.value ∙ c.in_ok-events.ensures in
    generated_fits c.args.seed c.args.count c.as_slice.result.now c.in-Ok.trace c.requires.few made c.in-Ok.ensures.ok

pub returns-in-Ok : goal.returns-in-Ok
returns-in-Ok c =
    let made = ap (map event_of) c.as_slice.ensures.value ∙ c.in_ok-events.ensures in
    ok_map c.summary_text.result (λ text. text.items ≡ summary_text (model_counts c.counts_of.result) (codes "open")) (λ text. IsSummary c.args.seed c.args.count text.items)
    (λ text is. generated_sums c.args.seed c.args.count c.as_slice.result.now c.in-Ok.trace text.items (model_counts c.counts_of.result) c.requires.few made c.in-Ok.ensures.ok
    c.counts_of.ensures is)
    c.summary_text.ensures
