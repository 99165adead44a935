use Rattle.std.proofs.Common.{refl, sym, ap, ◌∙◌, arith}
use Rattle.std.specs.Prelude.{slice_get}
use Rattle.std.proofs.lemmas.Option.{slice_get_past, slice_get_read}
use Rattle.h1_connection.specs.Steps.{paired}
use Rattle.h1_connection.proofs.TraceLemmas.{length-paired, paired_at}
use Rattle.h1_connection.proofs.trace.Steps.get.Goals as goal

pub returns-in_err-event : goal.returns-in_err-event
returns-in_err-event c =
    let events = c.self.inside.events.now in
    let noted = c.self.inside.outcomes.items in
    let past = c.in_err-event.ensures.lookup.3 in
    c.from_residual.ensures
    ∙ sym (slice_get_past (paired events noted) c.args.index (omega (arith, length-paired events noted c.self.invariant, c.self.invariant, past)))
    ∙ ap (λ l. slice_get l c.args.index) c.self.view_is

pub returns : goal.returns
returns c =
    let events = c.self.inside.events.now in
    let noted = c.self.inside.outcomes.items in
    let event = c.in_ok-event.ensures.lookup in
    let outcome = rw c.deref.ensures.value at c.in_ok-outcome.ensures.lookup in
    sym (paired_at events noted c.args.index c.in_ok-event.event.now c.in_ok-outcome.outcome.now
    (slice_get_read events _ c.args.index _ refl event.3.0 event.1) (slice_get_read noted _ c.args.index _ refl outcome.3.0 outcome.1))
    ∙ ap (λ l. slice_get l c.args.index) c.self.view_is
