-- What has happened once something is asked.
use Rattle.std.specs.Prelude.{◌≡◌, ℕ, Bool, true, false, List, ◌∷◌, ◌++◌}
use Rattle.std.proofs.Common.{sym, subst}
use Rattle.h1_client.specs.ClientMeaning.{setting_of}
use Rattle.h1_client.specs.State.{State, Stands, GoesOn, Is}
use Rattle.model_client.specs.ClientEvent as on
use Rattle.model_client.specs.ClientEvent.{ClientEvent, ClientOutcome}
use Rattle.model_client.specs.ClientKept.{client_allows}
use Rattle.model_client.specs.ClientTrace.{Happened}
use Rattle.app_get.specs.Asking.{done, told_if, TellsTime}

pub done_stands : (old new : State) (event : ClientEvent) → GoesOn old event (Is on.done) new → (before : List Happened) → Stands old before
    → Stands new (done event ∷ before)
done_stands old new event goes before stands =
    subst (λ (o : ClientOutcome). Stands new (record { event = event; outcome = o } ∷ before)) goes.says (goes.stands before stands)

pub time_may_be_told : (old new : State) (moment : ℕ) → client_allows (setting_of old.settings) old.kept (on.tick moment) ≡ true
    → GoesOn old (on.tick moment) (Is on.done) new → TellsTime old moment new
time_may_be_told old new moment may goes = λ before stands.
    subst (λ (test : Bool). Stands new (told_if test moment ++ before)) (sym may) (done_stands old new (on.tick moment) goes before stands)

pub time_stays_untold : (old new : State) (moment : ℕ) → client_allows (setting_of old.settings) old.kept (on.tick moment) ≡ false → new ≡ old
    → TellsTime old moment new
time_stays_untold old new moment may same = λ before stands.
    subst (λ (test : Bool). Stands new (told_if test moment ++ before)) (sym may) (subst (λ (s : State). Stands s before) (sym same) stands)
