use Rattle.std.proofs.Common.{List, ℕ, subst}
use Rattle.std.specs.Prelude.{IfErr}
use Rattle.model_h1.specs.Request.{faulty}
use Rattle.model_h1.specs.RequestHead.{IsReading}
use Rattle.h1_decoder.specs.Refusal.{UnlessNoMemory, fault_of}
use Rattle.h1_connection.proofs.InputLemmas.{from_start}
use Rattle.h1_connection.proofs.connection.front_head.read_piece.Goals as goal

pub returns-clause-fault : goal.returns-clause-fault
returns-clause-fault c =
    subst (λ (head : List ℕ). IfErr c.read_head_into.result (λ e. UnlessNoMemory e (IsReading head (faulty (fault_of e)))))
    (from_start c.args.bytes.now c.args.start c.if-start-gt0.false) c.read_head_into.ensures.fault
