use Rattle.std.proofs.Common.{sym, ◌∙◌}
use Rattle.model_h1.specs.LengthTable.{connection_of}
use Rattle.model_client.specs.AnswerTable.{body_to, ends_with_input}
use Rattle.model_client.specs.ClientStep.{is_last_answer}
use Rattle.h1_client.proofs.AfterLemmas.{closed_by_request, closed_by_end, closed_by_lines, closed_by_doubt}
use Rattle.h1_client.proofs.after.closes_after.Goals as goal

pub returns-then-closes : goal.returns-then-closes
returns-then-closes c = λ piece a w reading says closes head.
    closed_by_request w.closes (ends_with_input a.status (body_to w.method a.body)) (connection_of a.minor a.headers) (is_last_answer a) (closes ∙ c.if-closes.true)

pub returns-then-ends : goal.returns-then-ends
returns-then-ends c = λ piece a w reading says closes head.
    closed_by_end w.closes (ends_with_input a.status (body_to w.method a.body)) (connection_of a.minor a.headers) (is_last_answer a)
    (sym (c.ends_with_input-ends.ensures a w.method says head) ∙ c.if-ends.true)

pub returns-then-keeps : goal.returns-then-keeps
returns-then-keeps c = λ piece a w reading says closes head.
    c.is_last_answer-is_last.ensures piece a reading says
    ∙ closed_by_doubt w.closes (ends_with_input a.status (body_to w.method a.body)) (connection_of a.minor a.headers) (is_last_answer a)
    (closes ∙ c.if-closes.false) (sym (c.ends_with_input-ends.ensures a w.method says head) ∙ c.if-ends.false)
    (sym (c.keeps_by_lines-keeps.ensures piece a reading says) ∙ c.if-keeps.true)

pub returns : goal.returns
returns c = λ piece a w reading says closes head.
    closed_by_lines w.closes (ends_with_input a.status (body_to w.method a.body)) (connection_of a.minor a.headers) (is_last_answer a)
    (sym (c.keeps_by_lines-keeps.ensures piece a reading says) ∙ c.if-keeps.false)
