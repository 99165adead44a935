use Rattle.std.proofs.Common.{List, ℕ, ap, ◌∙◌, subst}
use Rattle.std.specs.Prelude.{IfErr, slice_range}
use Rattle.model_h1.specs.Request.{faulty}
use Rattle.model_h1.specs.RequestHead.{IsReading}
use Rattle.h1_decoder.specs.Refusal.{UnlessNoMemory, fault_of}
use Rattle.h1_connection.proofs.connection.front_head.read_behind_blank_lines.Goals as goal

pub returns-clause-fault : goal.returns-clause-fault
returns-clause-fault c =
    subst (λ (head : List ℕ). IfErr c.read_head_into.result (λ e. UnlessNoMemory e (IsReading head (faulty (fault_of e)))))
    (c.in-Ok.ensures.ok ∙ ap (λ (n : ℕ). slice_range c.args.bytes.now c.args.start n) c.len.ensures.value) c.read_head_into.ensures.fault
