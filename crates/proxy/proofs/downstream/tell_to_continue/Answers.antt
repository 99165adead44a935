use Rattle.std.proofs.Common.{refl, sym, ◌∙◌, [], ◌∷◌, inl, inr}
use Rattle.model_h1.specs.Event as on
use Rattle.proxy.proofs.Sides.{client_plain}
use Rattle.proxy.proofs.Wants.{wants_same, client_wants, continue_told, continue_not_wanted}
use Rattle.model_proxy.specs.Parts.{goes_on}
use Rattle.proxy.proofs.Puts.{one_puts}
use Rattle.proxy.proofs.downstream.tell_to_continue.Goals as goal

pub returns-then-not-can_continue-clause-wants : goal.returns-then-not-can_continue-clause-wants
returns-then-not-can_continue-clause-wants c = λ trace stands. wants_same c.args.client.now

pub returns-clause-brings : goal.returns-clause-brings
returns-clause-brings c = client_plain c.args.client.now on.send_continue on.done c.send_continue.new.self c.send_continue.ensures.settings c.in_ok-send_continue.ensures.stands refl refl refl tt

pub returns-clause-wants : goal.returns-clause-wants
returns-clause-wants c =
    client_wants c.args.client.now on.send_continue on.done c.send_continue.new.self c.send_continue.ensures.settings c.in_ok-send_continue.ensures.stands tt
    (sym c.can_continue.ensures ∙ c.if-not-can_continue.false)

pub returns-then-not-can_continue-clause-told : goal.returns-then-not-can_continue-clause-told
returns-then-not-can_continue-clause-told c = λ trace stands. continue_not_wanted c.args.client.now (sym c.can_continue.ensures ∙ c.if-not-can_continue.true)

pub returns-clause-told : goal.returns-clause-told
returns-clause-told c = continue_told c.args.client.now c.send_continue.new.self c.send_continue.ensures.settings c.in_ok-send_continue.ensures.stands

pub returns-then-not-can_continue-clause-puts : goal.returns-then-not-can_continue-clause-puts
returns-then-not-can_continue-clause-puts c = inl (sym c.can_continue.ensures ∙ c.if-not-can_continue.true, refl)

pub returns-clause-puts : goal.returns-clause-puts
returns-clause-puts c = inr (one_puts c.args.client.now on.send_continue _ c.send_continue.new.self (goes_on ∷ []) c.send_continue.ensures.settings c.in_ok-send_continue.ensures.stands (λ o says. refl))
