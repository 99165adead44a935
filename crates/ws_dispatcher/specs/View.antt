-- What a dispatcher keeps, and what is known of what it stands on.
use Rattle.std.specs.Prelude.{◌≡◌, ◌<◌, ◌≤◌, ◌⊎◌, Bool, true, false, ℕ, Option, Some, None, is_some, List, [], ◌∷◌, ◌++◌, length, Result}
use Rattle.http_services.specs.Serving.{Serving}
use Rattle.http_transport.specs.Parts.{Parts}
use Rattle.http_transport.specs.Wiring.{Wiring}
use Rattle.ws_dispatcher.specs.Queued.{queued}
use Rattle.ws_dispatcher.specs.declared.inner.queue.Message.{Message}
use Rattle.ws_dispatcher.specs.declared.inner.dispatcher.Dispatcher.{Dispatcher}
use Rattle.ws_dispatcher.specs.declared.inner.dispatcher.End.{End}
use Rattle.ws_dispatcher.specs.declared.inner.dispatcher.End.TheVariants.{Open, Closed, Failed}

-- The transport; the codec, the bytes that were read and not decoded, and those that were written and not sent; the service;
-- the item that it is to be asked next, and whether a call is in progress; the queue; that the input has ended; that a
-- Close was taken; the error that is to be reported; and that the last flush isn't done, so that the transport may hold bytes
-- that it hasn't passed on.
pub record View (U Q I E : Type 0) : Type 0 where
  pub transport : Wiring
  pub codec : U
  pub unread : List ℕ
  pub unsent : List ℕ
  pub service : Serving Q I E
  pub waiting : Option Q
  pub calling : Bool
  pub queue : List (Result (Message I) E)
  pub ended : Bool
  pub closing : Bool
  pub failing : Option E
  pub flushing : Bool

abbrev pub is_closed : {E : Type 0} → End E → Bool
is_closed Closed = true
is_closed Open = false
is_closed (Failed e) = false

abbrev pub error_kept : {E : Type 0} → End E → Option E
error_kept Closed = None
error_kept Open = None
error_kept (Failed e) = Some e

abbrev pub view_of : {S C T U Q I E : Type 0} → (T → Wiring) → (S → Serving Q I E) → Dispatcher S C T U Q I E → View U Q I E
view_of wiring served w =
    record {
      transport = wiring w.framed.io;
      codec = w.framed.codec;
      unread = w.framed.unread;
      unsent = w.framed.unsent;
      service = served w.service;
      waiting = w.waiting;
      calling = is_some w.call;
      queue = queued w.queue;
      ended = w.ended;
      closing = is_closed w.end;
      failing = error_kept w.end;
      flushing = w.flushing;
    }

-- a new dispatcher over this framed transport and this service, with this queue
abbrev pub view_begun : {T U Q I E : Type 0} → (T → Wiring) → Parts T U → Serving Q I E → List (Result (Message I) E) → View U Q I E
view_begun wiring framed service queue =
    record {
      transport = wiring framed.io;
      codec = framed.codec;
      unread = framed.unread;
      unsent = framed.unsent;
      service = service;
      waiting = None;
      calling = false;
      queue = queue;
      ended = false;
      closing = false;
      failing = None;
      flushing = false;
    }

-- nothing is buffered, and the transport has passed on all that it took, as far as it said so
pub record IsSent {U Q I E : Type 0} (v : View U Q I E) : Type 0 where
  pub unsent : v.unsent ≡ []
  pub flushed : v.flushing ≡ false

-- something is to be sent: bytes are buffered, or the last flush isn't done
abbrev pub HasToSend : {U Q I E : Type 0} → View U Q I E → Type 0
HasToSend v = (0 < length v.unsent) ⊎ (v.flushing ≡ true)

-- nothing more can be buffered: nothing is queued, or 8192 bytes or more wait to be sent
abbrev pub IsSettled : {U Q I E : Type 0} → View U Q I E → Type 0
IsSettled v = (v.queue ≡ []) ⊎ (8192 ≤ length v.unsent)

-- the view with this at the end of the queue
abbrev pub with_queued : {U Q I E : Type 0} → Result (Message I) E → View U Q I E → View U Q I E
with_queued item v = record v { queue = v.queue ++ item ∷ [] }

-- the framed transport and the service
abbrev pub parts_of : {S C T U Q I E : Type 0} → Dispatcher S C T U Q I E → Parts T U × S
parts_of d = (d.framed, d.service)
