-- What is asked.
use Rattle.std.specs.Prelude.{◌≡◌, ℕ, ◌⊎◌, Bool, true, false, List, [], ◌∷◌, ◌++◌}
use Rattle.h1_client.specs.ClientMeaning.{setting_of}
use Rattle.h1_client.specs.State.{State, Stands}
use Rattle.model_h1.specs.Answer.{BodySize}
use Rattle.model_client.specs.ClientEvent as on
use Rattle.model_client.specs.ClientEvent.{ClientEvent, ClientRequest}
use Rattle.model_client.specs.ClientKept.{client_allows}
use Rattle.model_client.specs.ClientTrace.{Happened}
use Rattle.app_get.specs.declared.error.GetError.{GetError}
use Rattle.app_get.specs.declared.error.GetError.TheVariants as get_error

-- an event that is done
abbrev pub done : ClientEvent → Happened
done event = record { event = event; outcome = on.done }

-- the time, where it may be told
abbrev pub told_if : Bool → ℕ → List Happened
told_if true moment = done (on.tick moment) ∷ []
told_if false moment = []

abbrev pub time_told : State → ℕ → List Happened
time_told state moment = told_if (client_allows (setting_of state.settings) state.kept (on.tick moment)) moment

-- the connection is told the time, where it may be, and nothing else
abbrev pub TellsTime : State → ℕ → State → Type 0
TellsTime old moment new = (before : List Happened) → Stands old before → Stands new (time_told old moment ++ before)

-- the time is told, and then the request is asked, with a body of this size
abbrev pub Asks : State → ℕ → ClientRequest → BodySize → State → Type 0
Asks old moment request size new =
    (before : List Happened) → Stands old before → Stands new (done (on.ask request size) ∷ (time_told old moment ++ before))

-- it isn't asked: memory has run out, or it may not be asked
abbrev pub IsUnasked : State → ClientRequest → BodySize → GetError → Type 0
IsUnasked state request size error =
    (error ≡ get_error.NoMemory)
    ⊎ ((error ≡ get_error.Request) × (client_allows (setting_of state.settings) state.kept (on.ask request size) ≡ false))
