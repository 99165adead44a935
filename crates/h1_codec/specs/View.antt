-- What is left to send of a message, and what is known of the transport and the body.
use Rattle.std.specs.Prelude.{ℕ, Bool, Option, List}
use Rattle.http_bodies.specs.Giving.{Giving}
use Rattle.http_framing.specs.declared.body.size.BodySize.{BodySize}
use Rattle.http_transport.specs.Wiring.{Wiring}
use Rattle.h1_codec.specs.declared.sending.Sending.{Sending}

-- The transport; the codec, the bytes that were read and not decoded, and those that were written and not sent; the head,
-- until it is written, with the size of the body; what the body gives; and whether its end was written.
pub record View (U H : Type 0) : Type 0 where
  pub transport : Wiring
  pub codec : U
  pub unread : List ℕ
  pub unsent : List ℕ
  pub head : Option (H × BodySize)
  pub body : Giving
  pub is_ended : Bool

abbrev pub view_of : {T U H B : Type 0} → (T → Wiring) → (B → Giving) → Sending T U H B → View U H
view_of wiring gives s =
    record {
      transport = wiring s.framed.io;
      codec = s.framed.codec;
      unread = s.framed.unread;
      unsent = s.framed.unsent;
      head = s.head;
      body = gives s.body;
      is_ended = s.is_ended;
    }
