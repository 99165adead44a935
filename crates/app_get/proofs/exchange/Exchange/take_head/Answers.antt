use Rattle.std.proofs.Common.{◌≡◌, false, refl, sym, subst, ap, ◌∙◌, inl}
use Rattle.std.proofs.KnownBytes.{Keeps-refl}
use Rattle.h1_client.specs.ClientMeaning.{setting_of}
use Rattle.h1_client.specs.declared.event.NextAnswer.TheVariants as next
use Rattle.model_client.specs.ClientEvent as on
use Rattle.model_client.specs.ClientKept.{client_allows}
use Rattle.app_get.specs.Exchange.{Ends}
use Rattle.app_get.proofs.Stopping.{err_stops, err_then, keeps_equal, no_memory, stuck_stops, heard_ends, heard_malformed, heard_too_large}
use Rattle.app_get.proofs.Taking.{pending_head, shown_taken}
use Rattle.app_get.proofs.exchange.Exchange.take_head.Goals as goal

pub returns-then-not-can_next-clause-stops : goal.returns-then-not-can_next-clause-stops
returns-then-not-can_next-clause-stops g c =
    stuck_stops _ _ _ refl
    (inl (c.requires, subst (λ (e : Ends). client_allows (setting_of e.state.settings) e.state.kept on.next ≡ false) c.self.view_is (sym c.can_next.ensures ∙ c.if-not-can_next.true)))
    (Keeps-refl _)

pub returns-in_err-item-clause-stops : goal.returns-in_err-item-clause-stops
returns-in_err-item-clause-stops g c =
    err_stops _ _ _ _ c.from_residual.ensures.1 (no_memory _ _ _ _ refl refl (keeps_equal _ _ c.in_err-item.ensures.err))

pub returns-in-Answer-clause-taken : goal.returns-in-Answer-clause-taken
returns-in-Answer-clause-taken g c = shown_taken _ _ _ _ c.in_ok-item.ensures.heard.acts c.show.ensures.part

pub returns-in-Answer-clause-stops : goal.returns-in-Answer-clause-stops
returns-in-Answer-clause-stops g c = err_then _ _ _ _ c.in_ok-item.ensures.heard.acts.goes c.show.ensures.stops

pub returns-in-Pending-clause-taken : goal.returns-in-Pending-clause-taken
returns-in-Pending-clause-taken g c = pending_head _ _ _ c.requires c.in_ok-item.ensures.heard c.in-Pending.is

pub returns-in-Fault-Malformed-clause-stops : goal.returns-in-Fault-Malformed-clause-stops
returns-in-Fault-Malformed-clause-stops g c =
    heard_malformed _ _ _ c.in_ok-item.ensures.heard (c.in-Fault-Malformed.is ∙ ap next.Fault c.in-Fault-Malformed.field-0-is)

pub returns-in-Fault-TooLarge-clause-stops : goal.returns-in-Fault-TooLarge-clause-stops
returns-in-Fault-TooLarge-clause-stops g c =
    heard_too_large _ _ _ c.in_ok-item.ensures.heard (c.in-Fault-TooLarge.is ∙ ap next.Fault c.in-Fault-TooLarge.field-0-is)

pub returns-in-Closed-clause-stops : goal.returns-in-Closed-clause-stops
returns-in-Closed-clause-stops g c = heard_ends _ _ _ _ _ c.requires c.in_ok-item.ensures.heard c.in-Closed.is c.error_of.ensures
