use Rattle.std.proofs.Common.{sym}
use Rattle.std.proofs.lemmas.Bool.{false≢true}
use Rattle.model_h1.specs.Event as on
use Rattle.h1_connection.specs.State.{Is}
use Rattle.h1_traced.proofs.TracedLaws.{any_err, when_ok, when_err, give_steps, fails_before, fails_after, never}
use Rattle.h1_traced.proofs.traced.Traced.give.Goals as goal

pub returns-clause-stands : goal.returns-clause-stands
returns-clause-stands g c =
    rw (sym c.self.view_is) (when_ok c.note_made.result c.note_made.ensures.ok
    (λ grows. give_steps c.self.inside.connection c.write.new.self _ _ _ _ c.args.count c.in_ok-bytes.bytes c.in_ok-bytes.ensures.stands c.in_ok-bytes.ensures.settings grows))

pub returns-clause-err : goal.returns-clause-err
returns-clause-err g c =
    let heard = rw (sym c.self.view_is) at c.requires.heard in
    rw (sym c.self.view_is) (when_err c.note_made.result c.note_made.ensures.err
    (λ grows. fails_after c.self.inside.connection c.write.new.self _ _ _ _ (on.write c.args.count) (Is (on.gave c.in_ok-bytes.bytes)) c.in_ok-bytes.ensures.stands grows (λ unheard takes. never _ heard unheard)))

pub returns-in_err-bytes-clause-err : goal.returns-in_err-bytes-clause-err
returns-in_err-bytes-clause-err g c =
    rw (sym c.self.view_is) (any_err _ (fails_before c.self.inside.connection c.write.new.self _ _ (on.write c.args.count) c.in_err-bytes.ensures.err (λ unheard takes. false≢true (c.in_err-bytes.ensures.no_memory_needed takes))))
