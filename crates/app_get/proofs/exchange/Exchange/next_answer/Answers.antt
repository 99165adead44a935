use Rattle.std.proofs.Common.{◌≡◌, true, [], refl, sym, ap, subst, ◌∙◌}
use Rattle.std.proofs.KnownBytes.{Consumes-nil, Appends-nil, Keeps-refl}
use Rattle.model_client.specs.ClientEvent as on
use Rattle.app_get.specs.Exchange.{Ends, led_by, is_unread, has_none_wanted}
use Rattle.app_get.proofs.Steps.{ends_none, quiet_still, one_act, next_moves}
use Rattle.app_get.proofs.Stopping.{err_always, heard_as}
use Rattle.app_get.proofs.exchange.Exchange.next_answer.Goals as goal

pub returns-clause-heard : goal.returns-clause-heard
returns-clause-heard g c =
    heard_as _ _ _ _ c.self.view_is
    (one_act _ _ _ on.next _ [] [] [] [] c.self.view_is c.in_ok-next.ensures.stands (next_moves _ _ _ _ _ c.noted-self-inside.ensures
    (λ o says. c.in_ok-self-inside.ensures o says ∙ ap (led_by o) c.take.ensures.value))
    (Consumes-nil _) (Appends-nil _) (Consumes-nil _) (λ _. Appends-nil _) (ends_none on.next _ _ refl refl refl) (quiet_still _ _ refl (Keeps-refl _)
    (λ _. subst (λ (e : Ends). is_unread e ≡ true) (sym c.self.view_is) (ap (has_none_wanted c.args.self.now.wanted) c.requires.none))) refl)
    c.in_ok-next.ensures.stands c.noted-self-inside.ensures (Keeps-refl _)

pub returns-in_err-next-clause-err : goal.returns-in_err-next-clause-err
returns-in_err-next-clause-err g c = err_always _ _ (ap (λ (e : Ends). e.out) c.self.view_is)
