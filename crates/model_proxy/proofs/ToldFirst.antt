-- Steps of worked histories are steps as they may be.
use Rattle.std.proofs.Common.{ℕ, ◌<◌, List, [], ◌∷◌, ◌++◌, filter, reverse, refl, arith, inr, Option, None}
use Rattle.std.proofs.lemmas.Bool.{false≢true}
use Rattle.model_h1.specs.Event as on
use Rattle.model_h1.specs.Sums.{Step}
use Rattle.model_proxy.specs.Past.{ProxyStep, client, to_client, took, gave}
use Rattle.model_proxy.specs.Exchange.{Exchange, is_on}
use Rattle.model_proxy.specs.Forwarding.{BeginsWith, IsStepOf, IsStep, IsCleanAtFirst}
use Rattle.model_proxy.specs.Laws.Samples.{step}

begins : (event : on.Event) (outcome : on.Outcome) (more : List Step)
    → BeginsWith (IsStepOf event outcome) (more ++ record { event = event; outcome = outcome } ∷ [])
begins event outcome more = (more, record { event = event; outcome = outcome }, refl, (refl, refl))

-- bytes are taken, and these steps come of it, where there is no server connection
pub takes : (bytes : List ℕ) (n : ℕ) (more : List Step)
    → IsStep (step (client bytes) (took n)) None None (more ++ record { event = on.read bytes; outcome = on.took n } ∷ [])
takes bytes n more = record { told = inr (begins (on.read bytes) (on.took n) more); gave = tt; opened = λ e. absurd (false≢true e) }

-- bytes are given, and nothing comes of it
pub gives : (n : ℕ) (bytes : List ℕ) (waiting : Option (List ℕ))
    → IsStep (step (to_client n) (gave bytes)) waiting waiting (record { event = on.write n; outcome = on.gave bytes } ∷ [])
gives n bytes waiting = record { told = begins (on.write n) (on.gave bytes) []; gave = tt; opened = λ e. e }

-- there is no server connection yet
pub none_clean : (history : List ProxyStep) (xs : List Exchange) (k : ℕ) → k < 0 → IsCleanAtFirst history k (reverse (filter (is_on k) xs))
none_clean history xs k low = let none : ⊥ = omega (arith, low) in absurd none
