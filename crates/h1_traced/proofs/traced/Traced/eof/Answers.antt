use Rattle.std.proofs.Common.{refl, sym}
use Rattle.model_h1.specs.Event as on
use Rattle.h1_connection.specs.State.{Is}
use Rattle.h1_connection.specs.declared.event.Event.TheVariants.{Eof}
use Rattle.h1_connection.specs.declared.event.Outcome.TheVariants.{Done}
use Rattle.h1_traced.proofs.TracedLaws.{when_ok, traced_steps, fails_noting}
use Rattle.h1_traced.proofs.traced.Traced.eof.Goals as goal

pub returns-clause-stands : goal.returns-clause-stands
returns-clause-stands g c =
    rw (sym c.self.view_is) (when_ok c.note_bare.result c.note_bare.ensures.ok (λ grows. traced_steps c.self.inside.connection c.eof.new.self _ _ _ _ (record { event = Eof; outcome = Done }) on.eof (Is on.done)
    c.eof.ensures.stands c.eof.ensures.settings grows (λ out is. record { event = refl; outcome = is })))

pub returns-clause-err : goal.returns-clause-err
returns-clause-err g c =
    rw (sym c.self.view_is) (fails_noting c.note_bare.result c.self.inside.connection c.eof.new.self _ _ _ _ on.eof (Is on.done) c.eof.ensures.stands c.note_bare.ensures.err c.note_bare.ensures.no_memory_needed)
