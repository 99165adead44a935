use Rattle.std.proofs.Common.{refl, sym, ◌∙◌, inl, inr, [], ◌∷◌}
use Rattle.model_h1.specs.Event as on
use Rattle.proxy.proofs.Sides.{client_plain}
use Rattle.proxy.proofs.Wants.{was_cut, end_not_wanted}
use Rattle.proxy.proofs.Puts.{one_puts}
use Rattle.model_proxy.specs.Parts.{breaks_off}
use Rattle.proxy.proofs.downstream.cut_reply.Goals as goal

pub returns-then-not-can_end_answer-clause-wants : goal.returns-then-not-can_end_answer-clause-wants
returns-then-not-can_end_answer-clause-wants c = λ trace stands.
    end_not_wanted c.args.client.now (sym c.can_end_answer.ensures.ends ∙ c.if-not-can_end_answer.true)

pub returns-clause-brings : goal.returns-clause-brings
returns-clause-brings c = client_plain c.args.client.now on.body_error on.done c.fail_answer.new.self c.fail_answer.ensures.settings c.fail_answer.ensures.stands refl refl refl tt

pub returns-clause-wants : goal.returns-clause-wants
returns-clause-wants c = was_cut c.args.client.now c.fail_answer.new.self c.fail_answer.ensures.settings c.fail_answer.ensures.stands

pub returns-then-not-can_end_answer-clause-puts : goal.returns-then-not-can_end_answer-clause-puts
returns-then-not-can_end_answer-clause-puts c = inl (sym c.can_end_answer.ensures.fails ∙ c.if-not-can_end_answer.true, refl)

pub returns-clause-puts : goal.returns-clause-puts
returns-clause-puts c = inr (one_puts c.args.client.now on.body_error _ c.fail_answer.new.self (breaks_off ∷ []) c.fail_answer.ensures.settings c.fail_answer.ensures.stands (λ o says. refl))
