-- What a dispatcher of an upgraded connection keeps, and what is known of what it stands on.
use Rattle.std.specs.Prelude.{◌≡◌, ◌-◌, ◌⊎◌, ℕ, Bool, true, false, Option, Some, None, is_some, List, length, ⊤}
use Rattle.http_types.specs.Request.{RequestParts}
use Rattle.http_types.specs.declared.error.Error.{Error}
use Rattle.http_services.specs.Serving.{Serving, Calling}
use Rattle.http_transport.specs.Wiring.{Wiring}
use Rattle.ws_frames.specs.declared.message.Message.{Message}
use Rattle.model_state.specs.Kept.{is_upgraded}
use Rattle.model_state.specs.Local.{closing_by, allowed_by}
use Rattle.model_h1.specs.Event as on
use Rattle.model_h1.specs.Frame as said
use Rattle.h1_connection.specs.Given.{next_allowed, frame_allowed}
use Rattle.h1_connection.specs.EventMeaning.{setting_of}
use Rattle.h1_connection.specs.Steps.{Pair}
use Rattle.h1_traced.specs.Traced.{TracedView, traced_of}
use Rattle.ws_service.specs.declared.item.UpgradeItem.{UpgradeItem}
use Rattle.ws_service.specs.declared.item.UpgradeItem.TheVariants as items
use Rattle.ws_service.specs.declared.dispatcher.UpgradeDispatcher.{UpgradeDispatcher}
use Rattle.ws_service.specs.declared.dispatcher.Ending.{Ending}
use Rattle.ws_service.specs.declared.dispatcher.Ending.TheVariants.{Closed, Abandoned, Broken}
use Rattle.ws_service.specs.declared.dispatcher.Work.{Work}
use Rattle.ws_service.specs.declared.dispatcher.Work.TheVariants.{Free, Waiting, Calling as Called, Sending}

-- what is known of the service
abbrev pub Upgrading : Type 0
Upgrading = Serving UpgradeItem Message Error

-- How far the service is: nothing waits; it is to be called with this; a call is in progress; this answer is to be sent.
pub data Stage : Type 0 where
  free : Stage
  waiting : (item : UpgradeItem) → Stage
  calling : Stage
  sending : (message : Message) → Stage

abbrev pub is_waiting : Stage → Bool
is_waiting (waiting item) = true
is_waiting stage = false

abbrev pub is_calling : Stage → Bool
is_calling calling = true
is_calling stage = false

abbrev pub is_sending : Stage → Bool
is_sending (sending message) = true
is_sending stage = false

abbrev pub stage_of : {C : Type 0} → Work C → Stage
stage_of Free = free
stage_of (Waiting item) = waiting item
stage_of (Called call) = calling
stage_of (Sending message) = sending message

-- The connection with the steps that were noted, and whether who notes them listens; the transport; the service, and how far it is;
-- how the connection has ended; that it is to be drained; and that the transport has shown the end of the input.
pub record View : Type 0 where
  pub traced : TracedView
  pub listening : Bool
  pub transport : Wiring
  pub service : Upgrading
  pub stage : Stage
  pub ending : Option Ending
  pub draining : Bool
  pub input_ended : Bool

abbrev pub view_of : {T U C L : Type 0} → (T → Wiring) → (U → Upgrading) → (L → Option (List Pair)) → (L → Bool) → UpgradeDispatcher T U C L → View
view_of wiring served noted is_listening d =
    record {
      traced = traced_of noted is_listening d.traced;
      listening = is_listening d.traced.recorder;
      transport = wiring d.transport;
      service = served d.service;
      stage = stage_of d.work;
      ending = d.ending;
      draining = d.is_draining;
      input_ended = d.is_input_ended;
    }

-- a new one, which has this request to give to the service
abbrev pub view_begun : RequestParts Unit Unit → TracedView → Bool → Wiring → Upgrading → View
view_begun request traced listening transport service =
    record {
      traced = traced;
      listening = listening;
      transport = transport;
      service = service;
      stage = waiting (items.Open request);
      ending = None;
      draining = false;
      input_ended = false;
    }

-- the same, to be drained
abbrev pub with_drain : View → View
with_drain v = record v { draining = true }

-- the transport, the service and the recorder
abbrev pub parts_of : {T U C L : Type 0} → UpgradeDispatcher T U C L → T × U × L
parts_of d = (d.transport, d.service, d.traced.recorder)

-- memory ran out
abbrev pub is_broken : Option Ending → Bool
is_broken None = false
is_broken (Some (Closed end)) = false
is_broken (Some Abandoned) = false
is_broken (Some Broken) = true

-- a call in progress may be polled
abbrev pub IsCallOpen : {C : Type 0} → (C → Calling UpgradeItem) → Work C → Type 0
IsCallOpen calls Free = ⊤
IsCallOpen calls (Waiting item) = ⊤
IsCallOpen calls (Called call) = (calls call).is_open ≡ true
IsCallOpen calls (Sending message) = ⊤

abbrev pub MayBePolled : {T U C L : Type 0} → (C → Calling UpgradeItem) → UpgradeDispatcher T U C L → Type 0
MayBePolled calls d = IsCallOpen calls d.work

-- ---- of the connection

-- it closes
abbrev pub closes : View → Bool
closes v = is_some (closing_by (setting_of v.traced.state.settings) v.traced.state.kept)

-- the event may come
abbrev pub allows : View → on.Event → Bool
allows v event = allowed_by (setting_of v.traced.state.settings) v.traced.state.kept event

-- a connection that closes may be asked for its end: all is written
abbrev pub allows_next : View → Bool
allows_next v = next_allowed (setting_of v.traced.state.settings) v.traced.state.kept

-- the next frame may be asked for
abbrev pub allows_pull : View → Bool
allows_pull v = frame_allowed (setting_of v.traced.state.settings) v.traced.state.kept

-- a message may be sent, whichever it is: there is room
abbrev pub allows_send : View → Bool
allows_send v = allows v (on.send said.nop)

-- the bytes that wait to be written
abbrev pub buffered : View → List ℕ
buffered v = v.traced.state.kept.buffered

-- how many more bytes may be held
abbrev pub room : View → ℕ
room v = v.traced.state.settings.h1_hold_size - length v.traced.state.kept.unread

-- nothing waits to be written, or nothing may be written any more
abbrev pub HasNoOutput : View → Type 0
HasNoOutput v = (length (buffered v) ≡ 0) ⊎ (allows v (on.write 0) ≡ false)

-- no byte may be read, or none held, or none comes any more
abbrev pub HasNoInput : View → Type 0
HasNoInput v = (allows v on.eof ≡ false) ⊎ ((room v ≡ 0) ⊎ (v.input_ended ≡ true))

-- the connection doesn't speak WebSocket, or nothing is allowed any more
abbrev pub IsForeign : View → Type 0
IsForeign v = (is_upgraded v.traced.state.kept ≡ false) ⊎ (v.traced.state.kept.is_over ≡ true)
