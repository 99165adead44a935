-- What a client's side has done at a call.
use Rattle.std.specs.Prelude.{◌≡◌, ◌≤◌, ◌-◌, ℕ, List, length, take, min}
use Rattle.model_h1.specs.Answer as answers
use Rattle.model_client.specs.ClientEvent as on
use Rattle.model_client.specs.ClientEvent.{ClientRequest}
use Rattle.model_client.specs.ClientKept.{client_closing}
use Rattle.h1_payload.specs.declared.pulled.Pulled.{Pulled}
use Rattle.h1_client.specs.Answers.{SaysNext}
use Rattle.h1_client.specs.Bodies.{SaysPulled}
use Rattle.h1_client.specs.State.{State, GoesOn, Is}
use Rattle.h1_client.specs.declared.event.NextAnswer.{NextAnswer}
use Rattle.raspcream.specs.Bits.{requests_said}
use Rattle.raspcream.specs.Named.{NamesRequest}
use Rattle.raspcream.specs.Numbers.{size_said, client_reason_said, answer_kind, pulled_kind}
use Rattle.raspcream.specs.Shown.{ShowsNextAnswer, ShowsPulled}
use Rattle.raspcream.specs.declared.op.Op.{Op}
use Rattle.raspcream.specs.declared.op.Op.TheVariants as asks
use Rattle.raspcream.specs.declared.reply.Numbers.{Numbers}
use Rattle.raspcream.specs.declared.reply.Reply.{Reply}

-- the event's step, whose outcome says no more, and so the reply
pub record HasMade (event : on.ClientEvent) (reply : Reply) (before after : State) : Type 0 where
  pub told : reply.kind ≡ 0
  pub stands : GoesOn before event (Is on.done) after

-- a read's: so many of the bytes were taken as the reply says
pub record HasRead (input : List ℕ) (reply : Reply) (before after : State) : Type 0 where
  pub count : ℕ
  pub kind : reply.kind ≡ 1
  pub told : reply.number ≡ count
  pub stands : GoesOn before (on.read input) (Is (on.took count)) after

-- that of a next answer: its outcome is of the kind that the reply says, a head, a fault, nothing yet or an end
pub record HasNext (reply : Reply) (before after : State) : Type 0 where
  pub next : NextAnswer
  pub told : reply.kind ≡ answer_kind next
  pub shown : ShowsNextAnswer next reply
  pub stands : GoesOn before on.next (SaysNext next) after

-- that of a body
pub record HasPulled (reply : Reply) (before after : State) : Type 0 where
  pub answer : Pulled
  pub told : reply.kind ≡ pulled_kind answer
  pub shown : ShowsPulled answer reply
  pub stands : GoesOn before on.pull (SaysPulled answer) after

-- a request's, with the head that is named, and with the size that the number names
pub record HasRequested (arg number : ℕ) (input : List ℕ) (reply : Reply) (before after : State) : Type 0 where
  pub told : reply.kind ≡ 0
  pub request : ClientRequest
  pub named : NamesRequest arg input request
  pub size : answers.BodySize
  pub said : size ≡ size_said number
  pub stands : GoesOn before (on.ask request size) (Is on.done) after

-- a write's: the bytes in front were written, of which there are as many
pub record HasWritten (number : ℕ) (reply : Reply) (before after : State) : Type 0 where
  pub told : reply.kind ≡ 0
  pub count : ℕ
  pub said : count ≡ number
  pub fits : count ≤ length before.kept.buffered
  pub stands : GoesOn before (on.write count) (Is (on.gave (take count before.kept.buffered))) after

-- the question what is to be written: it tells all that waits
pub record HasGiven (reply : Reply) (before after : State) : Type 0 where
  pub same : after ≡ before
  pub kind : reply.kind ≡ 10
  pub whole : reply.bytes.len ≡ length before.kept.buffered

-- that for the bytes that are held from a place on
pub record HasHeld (place : ℕ) (reply : Reply) (before after : State) : Type 0 where
  pub same : after ≡ before
  pub kind : reply.kind ≡ 17
  pub start : ℕ
  pub said : start ≡ place
  pub whole : reply.bytes.len ≡ length before.kept.unread - start

-- the numbers of a connection, and which calls may come next: a client's side counts no time
pub record AreNumbersOf (c : State) (numbers : Numbers) : Type 0 where
  pub calls : numbers.can ≡ requests_said c
  pub waiting : numbers.waiting ≡ min (length c.kept.waiting) 4294967295
  pub buffered : numbers.buffered ≡ length c.kept.buffered
  pub write_room : numbers.write_room ≡ c.settings.h1_write_buffer_size - length c.kept.buffered
  pub held : numbers.held ≡ length c.kept.unread
  pub read_room : numbers.read_room ≡ c.settings.h1_hold_size - length c.kept.unread
  pub deadline : numbers.deadline ≡ 18446744073709551615

-- that for these numbers, and for why the connection is to end
pub record HasStated (reply : Reply) (before after : State) : Type 0 where
  pub same : after ≡ before
  pub kind : reply.kind ≡ 16
  pub reason : reply.reason ≡ client_reason_said (client_closing before.kept)
  pub numbers : AreNumbersOf before reply.state

-- Each call's. A question changes nothing, and what a server alone may be asked is never done.
abbrev pub HasAsked : Op → ℕ → ℕ → List ℕ → Reply → State → State → Type 0
HasAsked asks.Read arg number input reply before after = HasRead input reply before after
HasAsked asks.Eof arg number input reply before after = HasMade on.eof reply before after
HasAsked asks.Next arg number input reply before after = HasNext reply before after
HasAsked asks.Pull arg number input reply before after = HasPulled reply before after
HasAsked asks.DropBody arg number input reply before after = HasMade on.drop_body reply before after
HasAsked asks.Continue arg number input reply before after = ⊥
HasAsked asks.Head arg number input reply before after = HasRequested arg number input reply before after
HasAsked asks.Chunk arg number input reply before after = HasMade (on.chunk input) reply before after
HasAsked asks.End arg number input reply before after = HasMade on.body_end reply before after
HasAsked asks.Fail arg number input reply before after = HasMade on.body_error reply before after
HasAsked asks.Front arg number input reply before after = HasGiven reply before after
HasAsked asks.Advance arg number input reply before after = HasWritten number reply before after
HasAsked asks.Tick arg number input reply before after = HasMade (on.tick number) reply before after
HasAsked asks.Drain arg number input reply before after = ⊥
HasAsked asks.Accept arg number input reply before after = ⊥
HasAsked asks.Frame arg number input reply before after = ⊥
HasAsked asks.Send arg number input reply before after = ⊥
HasAsked asks.State arg number input reply before after = HasStated reply before after
HasAsked asks.Held arg number input reply before after = HasHeld number reply before after
HasAsked asks.Ahead arg number input reply before after = ⊥
