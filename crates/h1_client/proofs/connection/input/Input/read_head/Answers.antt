use Rattle.std.proofs.Common.{List, ℕ, Some, ap, ◌∙◌, subst}
use Rattle.std.specs.Prelude.{IfErr, slice_range}
use Rattle.model_client.specs.AnswerReading.{refused, IsAnswerReadingWithin}
use Rattle.h1_decoder.specs.Refusal.{UnlessNoMemory, fault_of}
use Rattle.h1_client.specs.Incoming.{Incoming}
use Rattle.h1_client.proofs.connection.input.Input.read_head.Goals as goal

pub returns-clause-fault : goal.returns-clause-fault
returns-clause-fault c =
    subst (λ (l : List ℕ). IfErr c.read_answer.result (λ e. UnlessNoMemory e (IsAnswerReadingWithin (Some c.args.hold_size) (slice_range l c.args.start c.args.end) (refused (fault_of e)))))
    (c.as_slice.ensures ∙ ap (λ (i : Incoming). i.unread) c.self.view_is) c.read_answer.ensures.fault
