use Rattle.std.proofs.Common.{sym}
use Rattle.model_h1.specs.Event as on
use Rattle.h1_connection.specs.State.{Is}
use Rattle.h1_traced.proofs.TracedLaws.{unheard, when_ok, traced_steps_unheard, fails_at_once}
use Rattle.h1_traced.proofs.traced.Traced.chunk.Goals as goal

pub returns-clause-stands : goal.returns-clause-stands
returns-clause-stands g c =
    rw (sym c.self.view_is) (when_ok c.chunk_bytes.result c.chunk_bytes.ensures.stands (λ goes. traced_steps_unheard c.self.inside.connection c.chunk_bytes.new.self _ _ (on.chunk c.args.bytes) (Is on.done)
    goes c.chunk_bytes.ensures.settings (unheard _ _ _ c.listens.ensures.value c.if-listens.false c.listens.ensures.unheard)))

pub returns-clause-err : goal.returns-clause-err
returns-clause-err g c =
    rw (sym c.self.view_is) (fails_at_once c.chunk_bytes.result c.self.inside.connection c.chunk_bytes.new.self _ _ (on.chunk c.args.bytes) c.chunk_bytes.ensures.err c.chunk_bytes.ensures.no_memory_needed)
