use Rattle.model_h1.specs.Event as on
use Rattle.serve_blocking.specs.declared.error.HandleError.TheVariants as handle_error
use Rattle.serve_blocking.specs.Fails.{Fails, IsFull, NoChunk}
use Rattle.serve_blocking.proofs.Answered.{seen_may, sends_one}
use Rattle.serve_blocking.proofs.Failed.{loss_fails}
use Rattle.serve_blocking.proofs.Results.{err_as, on_err}
use Rattle.serve_blocking.proofs.Waited.{waits_then, waits_equal}
use Rattle.serve_blocking.proofs.body.Body.send_piece.Goals as goal

pub returns-clause-sends : goal.returns-clause-sends
returns-clause-sends g c = sends_one _ _ _ _ c.in_ok-make_room.ensures.waits c.in_ok-hand_in.ensures.adds

pub returns-in_err-hand_in-clause-none : goal.returns-in_err-hand_in-clause-none
returns-in_err-hand_in-clause-none g c =
    on_err c.from_residual-in_err-hand_in.result (waits_then _ _ _ c.in_ok-make_room.ensures.waits (waits_equal _ _ c.in_err-hand_in.ensures.err))

-- ---- why it wasn't handed in

pub returns-in_err-make_room-clause-fails : goal.returns-in_err-make_room-clause-fails
returns-in_err-make_room-clause-fails g c =
    err_as c.from_residual.result c.in_err-make_room.field-0.0 (λ e. Fails (NoChunk c.make_room.new.self.state) (IsFull c.args.self.now.state) e)
    c.from_residual.ensures.1
    (loss_fails _ _ c.in_err-make_room.field-0.0 c.in_err-make_room.ensures.lost c.in_err-make_room.ensures.full)

pub returns-then-not-can_chunk-clause-fails : goal.returns-then-not-can_chunk-clause-fails
returns-then-not-can_chunk-clause-fails g c = λ bytes.
    seen_may c.make_room.new.self _ (on.chunk bytes) _ _ c.self.view_is (c.can_chunk.ensures bytes) c.if-not-can_chunk.true

pub returns-in_err-hand_in-clause-fails : goal.returns-in_err-hand_in-clause-fails
returns-in_err-hand_in-clause-fails g c =
    err_as c.from_residual-in_err-hand_in.result handle_error.NoMemory (λ e. Fails (NoChunk c.hand_in.new.self.state) (IsFull c.args.self.now.state) e)
    c.from_residual-in_err-hand_in.ensures.1 tt
