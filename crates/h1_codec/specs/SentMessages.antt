-- A message that is sent: what its polls answer.
use Rattle.std.specs.Prelude.{◌≡◌, ℕ, Bool, false, not, ◌&&◌, Option, Some, None, is_some, option_map, List, Result, Ok, Err}
use Rattle.futures.specs.declared.task.Poll.{Poll}
use Rattle.futures.specs.declared.task.Poll.TheVariants.{Ready, Pending}
use Rattle.http_bodies.specs.Giving.{Giving}
use Rattle.http_framing.specs.declared.body.size.BodySize.{BodySize}
use Rattle.http_transport.specs.Parts.{Parts}
use Rattle.http_transport.specs.Wiring.{Wiring}
use Rattle.h1_codec.specs.declared.framed_message.Message.{Message}
use Rattle.h1_codec.specs.View.{View, view_of}
use Rattle.h1_codec.specs.Turns.{MAX_TURNS, IsDone, SendsFew, FailSays, SendSays}
use Rattle.h1_codec.specs.declared.send_error.SendError.{SendError}
use Rattle.h1_codec.specs.declared.send_message.SendMessage.{SendMessage}

-- it may be polled
abbrev pub is_open : {T U H B : Type 0} → SendMessage T U H B → Bool
is_open m = is_some m.sending && not m.has_failed

-- the framed transport, until it is given back
abbrev pub transport_left : {T U H B : Type 0} → SendMessage T U H B → Option (Parts T U)
transport_left m = option_map (λ s. s.framed) m.sending

-- what is left to send, until the transport is given back
abbrev pub message_view : {T U H B : Type 0} → (T → Wiring) → (B → Giving) → SendMessage T U H B → Option (View U H)
message_view wiring gives m = option_map (view_of wiring gives) m.sending

-- of this head and this body nothing was written
abbrev pub view_begun : {T U H B : Type 0} → (T → Wiring) → (B → Giving) → Parts T U → H → B → View U H
view_begun wiring gives framed head body =
    record {
      transport = wiring framed.io;
      codec = framed.codec;
      unread = framed.unread;
      unsent = framed.unsent;
      head = Some (head, (gives body).size);
      body = gives body;
      is_ended = false;
    }

-- the framed transport is that of the view
pub record IsTransport {T U H : Type 0} (wiring : T → Wiring) (v : View U H) (framed : Parts T U) : Type 0 where
  pub transport : wiring framed.io ≡ v.transport
  pub codec : framed.codec ≡ v.codec
  pub unread : framed.unread ≡ v.unread
  pub unsent : framed.unsent ≡ v.unsent

-- A poll. Once all is sent the transport is given back, and else it stays.
abbrev pub PollSays : {T U H E : Type 0} → (U → Message (H × BodySize) → List ℕ → U → Type 0) → (E → U → Message (H × BodySize) → Type 0) → (E → Type 0)
    → (E → U → U → Type 0) → (T → Wiring) → Option (View U H) → Option (View U H) → Bool → Poll (Result (Parts T U) (SendError E)) → Type 0
PollSays writes refuses lacks leaves wiring (Some old) (Some new) woken Pending = SendSays writes refuses lacks leaves old new woken Pending
PollSays writes refuses lacks leaves wiring (Some old) (Some new) woken (Ready (Err error)) = FailSays writes refuses lacks leaves MAX_TURNS old new error
PollSays {T} {U} {H} writes refuses lacks leaves wiring (Some old) None woken (Ready (Ok framed)) =
    (new : View U H) × SendsFew writes MAX_TURNS old new × IsDone new × IsTransport wiring new framed
PollSays writes refuses lacks leaves wiring old new woken result = ⊥
