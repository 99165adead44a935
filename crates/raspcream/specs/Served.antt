-- What a server's side has done at a call.
use Rattle.std.specs.Prelude.{◌≡◌, ◌≢◌, ◌≤◌, ◌<◌, ◌-◌, ℕ, List, length, take, Some, None, false, unwrap_or}
use Rattle.model_h1.specs.Answer as answers
use Rattle.model_h1.specs.Event as on
use Rattle.model_h1.specs.Frame.{CloseReason, Frame, Message, text, binary, first_text, first_binary, continuation, last, ping, pong, close, frame, nop}
use Rattle.model_h1.specs.FrameText.{description_of}
use Rattle.model_h1.specs.Sums as sums
use Rattle.model_state.specs.Ahead.{IsAhead}
use Rattle.model_state.specs.Deadline.{deadline_by}
use Rattle.model_state.specs.Kept.{is_free}
use Rattle.model_state.specs.Local.{closing_by}
use Rattle.h1_decoder.specs.declared.decoder.HeadItem.{HeadItem}
use Rattle.ws_frames.specs.Protocol.{close_number, close_code}
use Rattle.h1_payload.specs.Rests.{SaysPulled}
use Rattle.h1_payload.specs.declared.pulled.Pulled.{Pulled}
use Rattle.h1_connection.specs.EventMeaning.{setting_of}
use Rattle.h1_connection.specs.Frames.{accepted_of, SaysFrame, SaysSent}
use Rattle.h1_connection.specs.Heads.{SaysNext, with_head}
use Rattle.h1_connection.specs.State.{State, GoesOn, Is, IsCounted}
use Rattle.h1_connection.specs.Ticks.{expiry_of}
use Rattle.h1_connection.specs.declared.connection.frames.Accepted.{Accepted}
use Rattle.h1_connection.specs.declared.connection.frames.PulledFrame.{PulledFrame}
use Rattle.h1_connection.specs.declared.connection.frames.Sent.{Sent}
use Rattle.h1_connection.specs.declared.connection.heads.NextKind.{NextKind}
use Rattle.h1_connection.specs.declared.connection.ticks.Expiry.{Expiry}
use Rattle.raspcream.specs.Bits.{calls_said}
use Rattle.raspcream.specs.Named.{NamesAnswer}
use Rattle.raspcream.specs.Numbers.{size_said, reason_said, kind_of, pulled_kind, expiry_kind, accepted_kind, frame_kind, sent_kind}
use Rattle.raspcream.specs.Shown.{ShowsNext, ShowsPulled, ShowsExpiry, ShowsAccepted, ShowsPulledFrame, ShowsSent}
use Rattle.raspcream.specs.declared.op.Op.{Op}
use Rattle.raspcream.specs.declared.op.Op.TheVariants as asks
use Rattle.raspcream.specs.declared.reply.Numbers.{Numbers}
use Rattle.raspcream.specs.declared.reply.Reply.{Reply}

-- the event's step, whose outcome says no more, and so the reply
pub record HasMade (event : on.Event) (reply : Reply) (before after : State) : Type 0 where
  pub told : reply.kind ≡ 0
  pub stands : GoesOn before event (Is on.done) after

-- a read's: so many of the bytes were taken as the reply says
pub record HasRead (input : List ℕ) (reply : Reply) (before after : State) : Type 0 where
  pub count : ℕ
  pub kind : reply.kind ≡ 1
  pub told : reply.number ≡ count
  pub stands : GoesOn before (on.read input) (Is (on.took count)) after

-- that of a next head: its outcome is of the kind that the reply says, a head, a fault, nothing yet or an end
pub record HasNext (reply : Reply) (before after : State) : Type 0 where
  pub item : HeadItem
  pub kind : NextKind
  pub told : reply.kind ≡ kind_of kind
  pub shown : ShowsNext item kind reply
  pub stands : GoesOn before on.next (SaysNext (with_head item kind)) after

-- that of a body
pub record HasPulled (reply : Reply) (before after : State) : Type 0 where
  pub answer : Pulled
  pub told : reply.kind ≡ pulled_kind answer
  pub shown : ShowsPulled answer reply
  pub stands : GoesOn before on.pull (SaysPulled answer) after

-- an answer's, with the head that is named, and with the size that the number names
pub record HasAnswered (arg number : ℕ) (input : List ℕ) (reply : Reply) (before after : State) : Type 0 where
  pub told : reply.kind ≡ 0
  pub head : answers.AnswerHead
  pub named : NamesAnswer arg input head
  pub size : answers.BodySize
  pub said : size ≡ size_said number
  pub stands : GoesOn before (on.answer head size) (Is on.done) after

-- a write's: the bytes in front were written, of which there are as many
pub record HasWritten (number : ℕ) (reply : Reply) (before after : State) : Type 0 where
  pub told : reply.kind ≡ 0
  pub count : ℕ
  pub said : count ≡ number
  pub fits : count ≤ length before.kept.buffered
  pub stands : GoesOn before (on.write count) (Is (on.gave (take count before.kept.buffered))) after

-- a moment's: the reply says whether a time ran out
pub record HasTicked (moment : ℕ) (reply : Reply) (before after : State) : Type 0 where
  pub expiry : Expiry
  pub told : reply.kind ≡ expiry_kind expiry
  pub shown : ShowsExpiry expiry reply
  pub stands : GoesOn before (on.tick moment) (Is (expiry_of expiry)) after

-- that of an upgrade to WebSocket
pub record HasAccepted (number : ℕ) (reply : Reply) (before after : State) : Type 0 where
  pub limit : ℕ
  pub said : limit ≡ number
  pub answer : Accepted
  pub told : reply.kind ≡ accepted_kind answer
  pub shown : ShowsAccepted answer reply
  pub stands : GoesOn before (on.accept limit) (Is (accepted_of answer)) after

-- a frame's
pub record HasFramed (reply : Reply) (before after : State) : Type 0 where
  pub answer : PulledFrame
  pub told : reply.kind ≡ frame_kind answer
  pub shown : ShowsPulledFrame answer reply
  pub stands : GoesOn before on.pull (SaysFrame answer) after

-- the reason of a Close, by its code and its text
pub record IsReasonOf (code : ℕ) (input : List ℕ) (reason : CloseReason) : Type 0 where
  pub number : reason.code ≡ close_number (close_code code)
  pub words : reason.description ≡ description_of input

-- the message that an opcode, a Close's code and bytes name
abbrev pub IsFrameOf : ℕ → ℕ → List ℕ → Frame → Type 0
IsFrameOf opcode code input (text payload) = (opcode ≡ 1) × (payload ≡ input)
IsFrameOf opcode code input (binary payload) = (opcode ≡ 2) × (payload ≡ input)
IsFrameOf opcode code input (first_text payload) = (opcode ≡ 17) × (payload ≡ input)
IsFrameOf opcode code input (first_binary payload) = (opcode ≡ 18) × (payload ≡ input)
IsFrameOf opcode code input (continuation payload) = (opcode ≡ 16) × (payload ≡ input)
IsFrameOf opcode code input (last payload) = (opcode ≡ 0) × (payload ≡ input)
IsFrameOf opcode code input (ping payload) = (opcode ≡ 9) × (payload ≡ input)
IsFrameOf opcode code input (pong payload) = (opcode ≡ 10) × (payload ≡ input)
IsFrameOf opcode code input (close None) = (opcode ≡ 8) × (code ≡ 0)
IsFrameOf opcode code input (close (Some reason)) = (opcode ≡ 8) × (code ≢ 0) × IsReasonOf code input reason

abbrev pub IsMessageOf : ℕ → ℕ → List ℕ → Message → Type 0
IsMessageOf opcode code input (frame f) = IsFrameOf opcode code input f
IsMessageOf opcode code input nop = ⊥

-- that of a message, which is the one that is named
pub record HasSent (arg number : ℕ) (input : List ℕ) (reply : Reply) (before after : State) : Type 0 where
  pub message : Message
  pub named : IsMessageOf arg number input message
  pub answer : Sent
  pub told : reply.kind ≡ sent_kind answer
  pub shown : ShowsSent answer reply
  pub stands : GoesOn before (on.send message) (SaysSent answer) after

-- the question what is to be written: it tells some of what waits, and nothing only where nothing does
pub record HasGiven (reply : Reply) (before after : State) : Type 0 where
  pub same : after ≡ before
  pub kind : reply.kind ≡ 10
  pub fits : reply.bytes.len ≤ length before.kept.buffered
  pub some : reply.bytes.len ≡ 0 → length before.kept.buffered ≡ 0

-- that for the bytes that are held from a place on: some of them, and all where nothing is left to do for a request that hands the connection over
pub record HasHeld (place : ℕ) (reply : Reply) (before after : State) : Type 0 where
  pub same : after ≡ before
  pub kind : reply.kind ≡ 17
  pub start : ℕ
  pub said : start ≡ place
  pub fits : reply.bytes.len ≤ length before.kept.unread - start
  pub some : start < length before.kept.unread → 0 < reply.bytes.len
  pub whole : is_free before.kept ≡ false → reply.bytes.len ≡ length before.kept.unread - start

-- the numbers of a connection, and which calls may come next: requests wait for answers at a client alone
pub record AreNumbersOf (s : State) (numbers : Numbers) : Type 0 where
  pub calls : numbers.can ≡ calls_said s
  pub waiting : numbers.waiting ≡ 0
  pub buffered : numbers.buffered ≡ length s.kept.buffered
  pub write_room : numbers.write_room ≡ s.settings.h1_write_buffer_size - length s.kept.buffered
  pub held : numbers.held ≡ length s.kept.unread
  pub read_room : numbers.read_room ≡ s.settings.h1_hold_size - length s.kept.unread
  pub deadline : numbers.deadline ≡ unwrap_or (deadline_by (setting_of s.settings) s.kept) 18446744073709551615

-- that for these numbers, and for why the connection is to end
pub record HasStated (reply : Reply) (before after : State) : Type 0 where
  pub same : after ≡ before
  pub kind : reply.kind ≡ 16
  pub reason : reply.reason ≡ reason_said (closing_by (setting_of before.settings) before.kept)
  pub numbers : AreNumbersOf before reply.state

-- that for the heads that stand ahead: their number is the one behind what happened
pub record HasCounted (reply : Reply) (before after : State) : Type 0 where
  pub same : after ≡ before
  pub kind : reply.kind ≡ 18
  pub told : reply.number ≡ before.ahead
  pub counted : (trace : List sums.Step) → IsCounted before trace → IsAhead (setting_of before.settings) trace reply.number

-- Each call's. A question changes nothing.
abbrev pub HasServed : Op → ℕ → ℕ → List ℕ → Reply → State → State → Type 0
HasServed asks.Read arg number input reply before after = HasRead input reply before after
HasServed asks.Eof arg number input reply before after = HasMade on.eof reply before after
HasServed asks.Next arg number input reply before after = HasNext reply before after
HasServed asks.Pull arg number input reply before after = HasPulled reply before after
HasServed asks.DropBody arg number input reply before after = HasMade on.drop_body reply before after
HasServed asks.Continue arg number input reply before after = HasMade on.send_continue reply before after
HasServed asks.Head arg number input reply before after = HasAnswered arg number input reply before after
HasServed asks.Chunk arg number input reply before after = HasMade (on.chunk input) reply before after
HasServed asks.End arg number input reply before after = HasMade on.body_end reply before after
HasServed asks.Fail arg number input reply before after = HasMade on.body_error reply before after
HasServed asks.Front arg number input reply before after = HasGiven reply before after
HasServed asks.Advance arg number input reply before after = HasWritten number reply before after
HasServed asks.Tick arg number input reply before after = HasTicked number reply before after
HasServed asks.Drain arg number input reply before after = HasMade on.drain reply before after
HasServed asks.Accept arg number input reply before after = HasAccepted number reply before after
HasServed asks.Frame arg number input reply before after = HasFramed reply before after
HasServed asks.Send arg number input reply before after = HasSent arg number input reply before after
HasServed asks.State arg number input reply before after = HasStated reply before after
HasServed asks.Held arg number input reply before after = HasHeld number reply before after
HasServed asks.Ahead arg number input reply before after = HasCounted reply before after
