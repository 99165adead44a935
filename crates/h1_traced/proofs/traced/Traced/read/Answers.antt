use Rattle.std.proofs.Common.{refl, sym}
use Rattle.model_h1.specs.Event as on
use Rattle.h1_connection.specs.State.{Is}
use Rattle.h1_connection.specs.declared.event.Event.TheVariants.{Read}
use Rattle.h1_connection.specs.declared.event.Outcome.TheVariants.{Took}
use Rattle.h1_traced.proofs.TracedLaws.{any_err, traced_steps, fails_before, fails_after}
use Rattle.h1_traced.proofs.traced.Traced.read.Goals as goal

pub returns-clause-stands : goal.returns-clause-stands
returns-clause-stands g c =
    rw (sym c.self.view_is) (traced_steps c.self.inside.connection c.read.new.self _ _ _ _ (record { event = (Read c.args.bytes.now); outcome = (Took c.in_ok-count.count) }) (on.read c.args.bytes.now) (Is (on.took c.in_ok-count.count))
    c.in_ok-count.ensures.stands c.in_ok-count.ensures.settings c.in_ok-note_read.ensures.ok (λ out is. record { event = refl; outcome = is }))

pub returns-in_err-note_read-clause-err : goal.returns-in_err-note_read-clause-err
returns-in_err-note_read-clause-err g c =
    rw (sym c.self.view_is) (any_err _ (fails_after c.self.inside.connection c.read.new.self _ _ _ _ (on.read c.args.bytes.now) (Is (on.took c.in_ok-count.count)) c.in_ok-count.ensures.stands c.in_err-note_read.ensures.err (λ unheard takes. takes)))

pub returns-in_err-count-clause-err : goal.returns-in_err-count-clause-err
returns-in_err-count-clause-err g c =
    rw (sym c.self.view_is) (any_err _ (fails_before c.self.inside.connection c.read.new.self _ _ (on.read c.args.bytes.now) c.in_err-count.ensures.err (λ unheard takes. takes)))
