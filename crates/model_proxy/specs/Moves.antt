-- What one side does between two events of a forwarder.
use Rattle.std.specs.Prelude.{◌≡◌, List, [], ◌∷◌}
use Rattle.model_h1.specs.Setting.{Setting}
use Rattle.model_h1.specs.Event as on
use Rattle.model_h1.specs.Sums as sums
use Rattle.model_state.specs.Kept.{Kept}
use Rattle.model_state.specs.StandsFor.{StandsFor}
use Rattle.model_client.specs.ClientEvent as asked
use Rattle.model_client.specs.ClientKept.{ClientKept}
use Rattle.model_client.specs.ClientTrace.{Happened, IsClientTrace, sending_of, taken, written, text_of, requests_of}
use Rattle.model_proxy.specs.Exchange.{Pulled, pulled, newest_pulled, with_head}
use Rattle.model_proxy.specs.Happenings.{server_of}

-- the outcome that came last brings this of the requests
abbrev pub after_outcome : on.Outcome → List Pulled → List Pulled
after_outcome o ps = with_head (sums.head_of o) (newest_pulled o ps)

-- Nothing was taken or given, no end and no moment came, and of the requests came what this outcome brings.
pub record HasBrought (o : on.Outcome) (old new : List sums.Step) : Type 0 where
  pub taken : sums.taken new ≡ sums.taken old
  pub written : sums.written new ≡ sums.written old
  pub moment : sums.now new ≡ sums.now old
  pub ended : sums.has_ended new ≡ sums.has_ended old
  pub pulled : pulled new ≡ after_outcome o (pulled old)

-- the client's connection did something of its own, which brought this outcome
abbrev pub Brings : Setting → on.Outcome → Kept → Kept → Type 0
Brings setting o a b =
    (trace : List sums.Step) → StandsFor setting a trace → (new : List sums.Step) × StandsFor setting b new × HasBrought o trace new

-- Nothing came from a server or was written towards it, or is to be, and nothing was asked.
pub record IsQuiet (old new : List Happened) : Type 0 where
  pub taken : taken new ≡ taken old
  pub written : written new ≡ written old
  pub ended : (server_of (record { happened = new; sent = [] })).ended ≡ (server_of (record { happened = old; sent = [] })).ended
  pub text : text_of new ≡ text_of old
  pub sending : sending_of new ≡ sending_of old
  pub asked : requests_of new ≡ requests_of old

-- a connection to a server did something of its own
abbrev pub Stays : Setting → ClientKept → ClientKept → Type 0
Stays setting a b =
    (trace : List Happened) → IsClientTrace setting trace a → (new : List Happened) × IsClientTrace setting new b × IsQuiet trace new

-- the client's connection made the step of this event
abbrev pub Does : Setting → on.Event → on.Outcome → Kept → Kept → Type 0
Does setting event o a b =
    (trace : List sums.Step) → StandsFor setting a trace → StandsFor setting b (record { event = event; outcome = o } ∷ trace)

-- a connection to a server did
abbrev pub DoesAsked : Setting → asked.ClientEvent → asked.ClientOutcome → ClientKept → ClientKept → Type 0
DoesAsked setting event o a b =
    (trace : List Happened) → IsClientTrace setting trace a → IsClientTrace setting (record { event = event; outcome = o } ∷ trace) b
