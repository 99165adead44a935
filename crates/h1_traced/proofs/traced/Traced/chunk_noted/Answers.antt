use Rattle.std.proofs.Common.{refl, sym, ap}
use Rattle.std.proofs.lemmas.Bool.{false≢true}
use Rattle.model_h1.specs.Event as on
use Rattle.h1_connection.specs.State.{Is}
use Rattle.h1_connection.specs.declared.event.Event.TheVariants.{Chunk}
use Rattle.h1_connection.specs.declared.event.Outcome.TheVariants.{Done}
use Rattle.h1_traced.proofs.TracedLaws.{any_err, when_ok, when_err, traced_steps, fails_before, fails_after, never}
use Rattle.h1_traced.proofs.traced.Traced.chunk_noted.Goals as goal

pub returns-clause-stands : goal.returns-clause-stands
returns-clause-stands g c =
    rw (sym c.self.view_is) (when_ok c.note_made.result c.note_made.ensures.ok (λ grows. traced_steps c.self.inside.connection c.chunk_bytes.new.self _ _ _ _ (record { event = (Chunk c.in_ok-noted.noted); outcome = Done }) (on.chunk c.args.bytes) (Is on.done)
    c.in_ok-chunk_bytes.ensures.stands c.in_ok-chunk_bytes.ensures.settings grows (λ out is. record { event = ap on.chunk (sym c.in_ok-noted.ensures.cases); outcome = is })))

pub returns-clause-err : goal.returns-clause-err
returns-clause-err g c =
    let heard = rw (sym c.self.view_is) at c.requires.heard in
    rw (sym c.self.view_is) (when_err c.note_made.result c.note_made.ensures.err (λ grows. fails_after c.self.inside.connection c.chunk_bytes.new.self _ _ _ _ (on.chunk c.args.bytes) (Is on.done) c.in_ok-chunk_bytes.ensures.stands grows (λ unheard takes. never _ heard unheard)))

pub returns-in_err-chunk_bytes-clause-err : goal.returns-in_err-chunk_bytes-clause-err
returns-in_err-chunk_bytes-clause-err g c =
    rw (sym c.self.view_is) (any_err _ (fails_before c.self.inside.connection c.chunk_bytes.new.self _ _ (on.chunk c.args.bytes) c.in_err-chunk_bytes.ensures.err (λ unheard takes. false≢true (c.in_err-chunk_bytes.ensures.no_memory_needed takes))))

pub returns-in_err-noted-clause-err : goal.returns-in_err-noted-clause-err
returns-in_err-noted-clause-err g c = any_err _ (fails_before c.args.self.now.connection c.args.self.now.connection _ _ (on.chunk c.args.bytes) refl (λ unheard takes. never _ c.requires.heard unheard))
