use Rattle.std.proofs.Common.{refl, sym, ◌∙◌, inl, inr, [], ◌∷◌}
use Rattle.model_h1.specs.Event as on
use Rattle.h1_encoder.specs.Meaning.{answer_of, size_of}
use Rattle.proxy.proofs.Sides.{client_plain}
use Rattle.proxy.proofs.Wants.{has_head, head_not_wanted}
use Rattle.model_proxy.specs.Parts.{begins}
use Rattle.proxy.proofs.Puts.{one_puts}
use Rattle.proxy.proofs.downstream.put_head.Goals as goal

pub returns-then-not-can_answer-clause-wants : goal.returns-then-not-can_answer-clause-wants
returns-then-not-can_answer-clause-wants c = λ trace stands.
    head_not_wanted (answer_of c.args.head.now) (size_of c.args.size) c.args.client.now
    (sym (c.can_answer.ensures (answer_of c.args.head.now) (size_of c.args.size)) ∙ c.if-not-can_answer.true)

pub returns-clause-brings : goal.returns-clause-brings
returns-clause-brings c = client_plain c.args.client.now (on.answer (answer_of c.args.head.now) (size_of c.args.size)) on.done c.answer.new.self c.answer.ensures.settings c.in_ok-answer.ensures.stands refl refl refl tt

pub returns-clause-wants : goal.returns-clause-wants
returns-clause-wants c =
    has_head (answer_of c.args.head.now) (size_of c.args.size) c.args.client.now c.answer.new.self c.answer.ensures.settings c.in_ok-answer.ensures.stands
    (sym (c.can_answer.ensures (answer_of c.args.head.now) (size_of c.args.size)) ∙ c.if-not-can_answer.false)

pub returns-then-not-can_answer-clause-puts : goal.returns-then-not-can_answer-clause-puts
returns-then-not-can_answer-clause-puts c =
    inl (sym (c.can_answer.ensures (answer_of c.args.head.now) (size_of c.args.size)) ∙ c.if-not-can_answer.true, refl)

pub returns-clause-puts : goal.returns-clause-puts
returns-clause-puts c =
    inr (one_puts c.args.client.now (on.answer (answer_of c.args.head.now) (size_of c.args.size)) _ c.answer.new.self
    (begins (record { head = answer_of c.args.head.now; size = size_of c.args.size }) ∷ []) c.answer.ensures.settings c.in_ok-answer.ensures.stands (λ o says. refl))
