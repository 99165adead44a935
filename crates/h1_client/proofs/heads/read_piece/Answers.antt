use Rattle.std.proofs.Common.{ℕ, List, subst}
use Rattle.std.specs.Prelude.{IfErr}
use Rattle.model_client.specs.AnswerReading.{refused, IsAnswerReading}
use Rattle.h1_decoder.specs.Refusal as decode
use Rattle.h1_decoder.specs.Refusal.{UnlessNoMemory}
use Rattle.h1_client.proofs.heads.read_piece.Goals as goal

pub returns-in-Ok-clause-fault : goal.returns-in-Ok-clause-fault
returns-in-Ok-clause-fault c =
    subst (λ (p : List ℕ). IfErr c.response_head.result (λ e. UnlessNoMemory e (IsAnswerReading p (refused (decode.fault_of e))))) c.in-Ok.ensures c.response_head.ensures.fault
