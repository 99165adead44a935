use Rattle.std.proofs.Common.{refl, sym}
use Rattle.std.proofs.lemmas.Bool.{false≢true}
use Rattle.h1_connection.specs.EventMeaning.{event_of, SaysOutcome}
use Rattle.h1_traced.proofs.TracedLaws.{any_err, ok_given, traced_steps, fails_before, fails_noting}
use Rattle.h1_traced.proofs.traced.Traced.step.Goals as goal

pub returns-clause-stands : goal.returns-clause-stands
returns-clause-stands g c =
    rw (sym c.self.view_is) (ok_given c.note_step.result c.in_ok-outcome.outcome _ c.note_step.ensures.same c.note_step.ensures.ok
    (λ grows. traced_steps c.self.inside.connection c.step.new.self _ _ _ _ (record { event = c.args.event.now; outcome = c.in_ok-outcome.outcome }) (event_of c.args.event.now) (SaysOutcome c.in_ok-outcome.outcome) c.in_ok-outcome.ensures.stands c.in_ok-outcome.ensures.settings grows (λ out says. record { event = refl; outcome = says })))

pub returns-clause-err : goal.returns-clause-err
returns-clause-err g c =
    rw (sym c.self.view_is) (fails_noting c.note_step.result c.self.inside.connection c.step.new.self _ _ _ _ (event_of c.args.event.now) (SaysOutcome c.in_ok-outcome.outcome) c.in_ok-outcome.ensures.stands c.note_step.ensures.err c.note_step.ensures.no_memory_needed)

pub returns-in_err-outcome-clause-err : goal.returns-in_err-outcome-clause-err
returns-in_err-outcome-clause-err g c =
    rw (sym c.self.view_is) (any_err _ (fails_before c.self.inside.connection c.step.new.self _ _ (event_of c.args.event.now) c.in_err-outcome.ensures.err (λ unheard takes. false≢true (c.in_err-outcome.ensures.no_memory_needed takes))))
