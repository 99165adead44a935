use Rattle.std.proofs.Common.{◌≡◌, false, Some, IsTrue, refl, sym, ap, subst, ◌∙◌, inl, inr, rules}
use Rattle.std.proofs.KnownBytes.{Keeps-refl}
use Rattle.h1_client.specs.ClientMeaning.{setting_of}
use Rattle.model_client.specs.ClientEvent as on
use Rattle.model_client.specs.ClientKept.{client_allows, client_closing}
use Rattle.app_get.specs.Exchange.{Ends, is_failure}
use Rattle.app_get.proofs.Stopping.{stuck_stops, failed_stops, short_stops}
use Rattle.app_get.proofs.Taking.{whole_at_end, whole_for_next}
use Rattle.app_get.proofs.exchange.Exchange.finish.Goals as goal

pub returns-in-None-clause-taken : goal.returns-in-None-clause-taken
returns-in-None-clause-taken g c =
    whole_for_next c.args.self.now c.args.status c.requires.nothing_left (search rules)
    (subst (λ (e : Ends). IsTrue (client_allows (setting_of e.state.settings) e.state.kept on.next)) c.self.view_is (sym c.can_next.ensures ∙ c.if-can_next.true))
    c.requires.noted c.requires.plain c.requires.wanted

pub returns-in-None-2-clause-stops : goal.returns-in-None-2-clause-stops
returns-in-None-2-clause-stops g c =
    stuck_stops _ _ _ refl
    (inr (inl (
      c.requires.nothing_left,
      subst (λ (e : Ends). client_allows (setting_of e.state.settings) e.state.kept on.next ≡ false) c.self.view_is (sym c.can_next.ensures ∙ c.if-can_next.false),
    )))
    (Keeps-refl _)

pub returns-in-Some-Asked-clause-taken : goal.returns-in-Some-Asked-clause-taken
returns-in-Some-Asked-clause-taken g c =
    whole_at_end c.args.self.now c.args.status on.asked c.requires.nothing_left (search rules) refl c.requires.noted c.requires.plain c.requires.wanted

pub returns-in-Some-Unasked-clause-taken : goal.returns-in-Some-Unasked-clause-taken
returns-in-Some-Unasked-clause-taken g c =
    whole_at_end c.args.self.now c.args.status on.unasked c.requires.nothing_left (search rules) refl c.requires.noted c.requires.plain c.requires.wanted

pub returns-in-Some-InputEnded-clause-taken : goal.returns-in-Some-InputEnded-clause-taken
returns-in-Some-InputEnded-clause-taken g c =
    whole_at_end c.args.self.now c.args.status on.input_ended c.requires.nothing_left (search rules) refl c.requires.noted c.requires.plain c.requires.wanted

pub returns-in-Some-FailedRequest-clause-stops : goal.returns-in-Some-FailedRequest-clause-stops
returns-in-Some-FailedRequest-clause-stops g c = short_stops c.args.self.now (search rules)

pub returns-in-Some-BadAnswer-clause-stops : goal.returns-in-Some-BadAnswer-clause-stops
returns-in-Some-BadAnswer-clause-stops g c =
    let e : client_closing c.args.self.now.state.kept ≡ Some on.bad_answer = search rules in failed_stops c.args.self.now (ap is_failure e)

pub returns-in-Some-LargeAnswer-clause-stops : goal.returns-in-Some-LargeAnswer-clause-stops
returns-in-Some-LargeAnswer-clause-stops g c =
    let e : client_closing c.args.self.now.state.kept ≡ Some on.large_answer = search rules in failed_stops c.args.self.now (ap is_failure e)

pub returns-in-Some-BrokenAnswer-clause-stops : goal.returns-in-Some-BrokenAnswer-clause-stops
returns-in-Some-BrokenAnswer-clause-stops g c =
    let e : client_closing c.args.self.now.state.kept ≡ Some on.broken_answer = search rules in failed_stops c.args.self.now (ap is_failure e)
