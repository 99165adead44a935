-- What a WebSocket gives, and what is sent on it.
use Rattle.std.specs.Prelude.{◌≡◌, ℕ, Bool, true, false, ◌||◌, List, Option, Some, None, is_some, ⊤}
use Rattle.model_h1.specs.Frame.{Message, frame, nop}
use Rattle.model_h1.specs.FrameText.{send_error}
use Rattle.model_h1.specs.End as ends
use Rattle.model_h1.specs.Event as on
use Rattle.model_state.specs.Kept as machine
use Rattle.model_state.specs.Kept.{Kept, frames_rest, is_frames, of_exchange}
use Rattle.model_state.specs.Pull as pulls
use Rattle.model_state.specs.Pull.{IsPull}
use Rattle.h1_payload.specs.Rests.{IsLight}
use Rattle.ws_frames.specs.Codec.{frame_says, IsNamed}
use Rattle.h1_connection.specs.Stock.{Stock}
use Rattle.h1_connection.specs.EventMeaning.{failing_of, SaysRule}
use Rattle.h1_connection.specs.declared.connection.exchange.Exchange.{Exchange}
use Rattle.h1_connection.specs.declared.connection.frames.Accepted.{Accepted}
use Rattle.h1_connection.specs.declared.connection.frames.Accepted.TheVariants as accepted
use Rattle.h1_connection.specs.declared.connection.frames.PulledFrame.{PulledFrame}
use Rattle.h1_connection.specs.declared.connection.frames.PulledFrame.TheVariants as pulled
use Rattle.h1_connection.specs.declared.connection.frames.Sent.{Sent}
use Rattle.h1_connection.specs.declared.connection.frames.Sent.TheVariants as sent

-- ---- an upgrade

-- it was accepted, or refused for this check
abbrev pub accepted_of : Accepted → on.Outcome
accepted_of accepted.Done = on.done
accepted_of (accepted.Refused error) = on.refused (failing_of error)

-- it was accepted
abbrev pub is_done : Accepted → Bool
is_done accepted.Done = true
is_done (accepted.Refused error) = false

-- from now on frames are read
abbrev pub with_frames : ℕ → Option Exchange → Option Exchange
with_frames limit None = None
with_frames limit (Some x) = Some (record x { rest = frames_rest false limit })

-- the last request is raw
abbrev pub is_raw_request : Kept → Bool
is_raw_request k = of_exchange (λ x. x.asked.is_raw) k

-- an upgrade of it is refused
abbrev pub is_refused : Kept → Bool
is_refused k = of_exchange (λ x. is_some x.refusal) k

-- ---- frames

-- the answer of a pull is this outcome, and a Close has the code that its number names
abbrev pub SaysFrame : PulledFrame → on.Outcome → Type 0
SaysFrame (pulled.Frame given) out = (out ≡ on.frame (frame_says given)) × IsNamed given
SaysFrame (pulled.Protocol error) out = SaysRule error out
SaysFrame pulled.Pending out = out ≡ on.pending

-- a Close that it gives has the code that its number names
abbrev pub IsPulledNamed : PulledFrame → Type 0
IsPulledNamed (pulled.Frame given) = IsNamed given
IsPulledNamed (pulled.Protocol error) = ⊤
IsPulledNamed pulled.Pending = ⊤

-- the end that it brings
abbrev pub frame_end : PulledFrame → Option ends.End
frame_end (pulled.Frame given) = None
frame_end (pulled.Protocol error) = Some ends.protocol
frame_end pulled.Pending = None

-- the answer, and what is then left, are those of a pull
pub record IsFramePulled (was : machine.Rest) (bytes : List ℕ) (answer : PulledFrame) (rest : machine.Rest) (after : Stock) : Type 0 where
  pub of : pulls.Pulled
  pub is_pull : (ended : Bool) → IsPull ended was bytes of
  pub says : SaysFrame answer of.outcome
  pub rest_is : rest ≡ of.rest
  pub after_is : after ≡ record { unread = of.unread; piece = None; ahead = 0 }
  pub not_done : of.is_done ≡ false
  pub failed : of.failed ≡ frame_end answer

-- what the next frame of this exchange gives leads to that one, and leaves those bytes
pub record IsFrameFrom (x : Exchange) (bytes : List ℕ) (answer : PulledFrame) (y : Exchange) (after : Stock) : Type 0 where
  pub pulled : IsFramePulled x.rest bytes answer y.rest after
  pub exchange : y ≡ record x { rest = y.rest; was_pulled = true }
  pub frames : is_frames y.rest ≡ true

-- it needs no memory: no whole frame stands in front
abbrev pub IsLightFrame : machine.Rest → List ℕ → Type 0
IsLightFrame rest bytes = (ended : Bool) × (p : pulls.Pulled) × IsPull ended rest bytes p × IsLight rest p.outcome p.rest

-- ---- messages

-- what a send answers is this outcome
abbrev pub SaysSent : Sent → on.Outcome → Type 0
SaysSent sent.Done out = out ≡ on.done
SaysSent (sent.Protocol error) out = SaysRule error out

-- nothing is sent: a message that says nothing, or one that is refused
abbrev pub sends_nothing : Kept → Message → Bool
sends_nothing k m = is_nop m || is_some (send_error k.is_sending m)
  where
    is_nop : Message → Bool
    is_nop nop = true
    is_nop (frame f) = false
