use Rattle.std.proofs.Common.{refl, sym}
use Rattle.std.proofs.lemmas.Bool.{false≢true}
use Rattle.model_h1.specs.Event as on
use Rattle.h1_connection.specs.State.{Is}
use Rattle.h1_connection.specs.declared.event.Event.TheVariants.{BodyEnd}
use Rattle.h1_connection.specs.declared.event.Outcome.TheVariants.{Done}
use Rattle.h1_traced.proofs.TracedLaws.{any_err, when_ok, traced_steps, fails_before, fails_noting}
use Rattle.h1_traced.proofs.traced.Traced.end_answer.Goals as goal

pub returns-clause-stands : goal.returns-clause-stands
returns-clause-stands g c =
    rw (sym c.self.view_is) (when_ok c.note_bare.result c.note_bare.ensures.ok (λ grows. traced_steps c.self.inside.connection c.end_answer.new.self _ _ _ _ (record { event = BodyEnd; outcome = Done }) on.body_end (Is on.done)
    c.in_ok-end_answer.ensures.stands c.in_ok-end_answer.ensures.settings grows (λ out is. record { event = refl; outcome = is })))

pub returns-clause-err : goal.returns-clause-err
returns-clause-err g c =
    rw (sym c.self.view_is) (fails_noting c.note_bare.result c.self.inside.connection c.end_answer.new.self _ _ _ _ on.body_end (Is on.done) c.in_ok-end_answer.ensures.stands c.note_bare.ensures.err c.note_bare.ensures.no_memory_needed)

pub returns-in_err-end_answer-clause-err : goal.returns-in_err-end_answer-clause-err
returns-in_err-end_answer-clause-err g c =
    rw (sym c.self.view_is) (any_err _ (fails_before c.self.inside.connection c.end_answer.new.self _ _ on.body_end c.in_err-end_answer.ensures.err (λ unheard takes. false≢true (c.in_err-end_answer.ensures.no_memory_needed takes))))
