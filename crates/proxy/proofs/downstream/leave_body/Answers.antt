use Rattle.std.proofs.Common.{inl, inr, refl, sym, ◌∙◌, [], ◌∷◌}
use Rattle.model_h1.specs.Event as on
use Rattle.proxy.proofs.Sides.{client_plain}
use Rattle.proxy.proofs.Wants.{wants_same, client_wants}
use Rattle.model_proxy.specs.Parts.{leaves_rest}
use Rattle.proxy.proofs.Puts.{one_puts}
use Rattle.proxy.proofs.downstream.leave_body.Goals as goal

pub returns-then-not-can_pull-clause-wants : goal.returns-then-not-can_pull-clause-wants
returns-then-not-can_pull-clause-wants c = λ trace stands. wants_same c.args.client.now

pub returns-clause-brings : goal.returns-clause-brings
returns-clause-brings c = client_plain c.args.client.now on.drop_body on.done c.drop_body.new.self c.drop_body.ensures.settings c.drop_body.ensures.stands refl refl refl tt

pub returns-clause-wants : goal.returns-clause-wants
returns-clause-wants c =
    client_wants c.args.client.now on.drop_body on.done c.drop_body.new.self c.drop_body.ensures.settings c.drop_body.ensures.stands tt
    (sym c.can_pull.ensures.value ∙ c.if-not-can_pull.false)

pub returns-then-not-can_pull-clause-puts : goal.returns-then-not-can_pull-clause-puts
returns-then-not-can_pull-clause-puts c = inl (refl, sym c.can_pull.ensures.value ∙ c.if-not-can_pull.true)

pub returns-clause-puts : goal.returns-clause-puts
returns-clause-puts c = inr (one_puts c.args.client.now on.drop_body _ c.drop_body.new.self (leaves_rest ∷ []) c.drop_body.ensures.settings c.drop_body.ensures.stands (λ o says. refl))
