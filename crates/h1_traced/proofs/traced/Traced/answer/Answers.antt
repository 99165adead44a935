use Rattle.std.proofs.Common.{refl, sym}
use Rattle.h1_encoder.specs.Meaning.{answer_of, size_of}
use Rattle.model_h1.specs.Event as on
use Rattle.h1_connection.specs.State.{Is}
use Rattle.h1_connection.specs.declared.event.Event.TheVariants.{Answer}
use Rattle.h1_connection.specs.declared.event.Outcome.TheVariants.{Done}
use Rattle.h1_traced.proofs.TracedLaws.{any_err, when_ok, when_err, traced_steps, fails_before, fails_after}
use Rattle.h1_traced.proofs.traced.Traced.answer.Goals as goal

pub returns-clause-stands : goal.returns-clause-stands
returns-clause-stands g c =
    rw (sym c.self.view_is) (when_ok c.note_answer.result c.note_answer.ensures.ok (λ grows. traced_steps c.self.inside.connection c.answer.new.self _ _ _ _ (record { event = (Answer c.args.head.now c.args.size); outcome = Done }) (on.answer (answer_of c.args.head.now) (size_of c.args.size)) (Is on.done)
    c.in_ok-answer.ensures.stands c.in_ok-answer.ensures.settings grows (λ out is. record { event = refl; outcome = is })))

pub returns-clause-err : goal.returns-clause-err
returns-clause-err g c =
    rw (sym c.self.view_is) (when_err c.note_answer.result c.note_answer.ensures.err (λ grows. fails_after c.self.inside.connection c.answer.new.self _ _ _ _ (on.answer (answer_of c.args.head.now) (size_of c.args.size)) (Is on.done) c.in_ok-answer.ensures.stands grows (λ unheard takes. takes)))

pub returns-in_err-answer-clause-err : goal.returns-in_err-answer-clause-err
returns-in_err-answer-clause-err g c =
    rw (sym c.self.view_is) (any_err _ (fails_before c.self.inside.connection c.answer.new.self _ _ (on.answer (answer_of c.args.head.now) (size_of c.args.size)) c.in_err-answer.ensures.err (λ unheard takes. takes)))
