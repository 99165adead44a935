-- What came of one connection, by the trace of its events: the requests that it handed out, their answers, and the calls of
-- the board that they stand for.
use Rattle.std.specs.Prelude.{◌≡◌, Bool, true, Option, None, List, [], ◌∷◌, ◌++◌, map, option_to_list, IsTrue, ⊤, Result, Ok, Err}
use Rattle.http_config.specs.Causes.{Rose}
use Rattle.http_config.specs.Config.{Settings}
use Rattle.http_types.specs.Response.{FullResponse}
use Rattle.http_types.specs.declared.error.DispatchError.TheVariants as error
use Rattle.http_bodies.specs.Told.{Grows}
use Rattle.http_transport.specs.Peer.{PeerAddress}
use Rattle.http_transport.specs.Wiring.{Wiring}
use Rattle.h1_encoder.specs.Meaning.{answer_of}
use Rattle.model_h1.specs.Answer.{size_of}
use Rattle.model_h1.specs.Event as on
use Rattle.model_h1.specs.Request.{Head}
use Rattle.model_h1.specs.Sums as sums
use Rattle.model_h1.specs.Sums.{taken, written}
use Rattle.model_h1.specs.Trace.{IsTrace}
use Rattle.h1_connection.specs.EventMeaning.{setting_of}
use Rattle.h1_connection.specs.Steps as noted
use Rattle.h1_traced.specs.Traced.{SaysNoted}
use Rattle.h1_dispatcher.specs.Peers.{AreFrom}
use Rattle.h1_dispatcher.specs.Traces.{HasHead, answers_in, requests_in}
use Rattle.board.specs.declared.command.Entry.{Entry}
use Rattle.board.specs.Views.{Held}
use Rattle.board.specs.Answers.{Asking, Pair, AllAnswered}
use Rattle.board.specs.Work.{Went}
use Rattle.board_server.specs.declared.error.ServeError.{ServeError}
use Rattle.board_server.specs.declared.error.ServeError.TheVariants.{Dispatch, Budget, NoMemory}

-- each request is that of the head at its place, and there is no other
abbrev pub AreHeads : List Asking → List Head → Type 0
AreHeads [] [] = ⊤
AreHeads [] (h ∷ heads) = ⊥
AreHeads (asking ∷ askings) [] = ⊥
AreHeads (asking ∷ askings) (h ∷ heads) = HasHead asking h × AreHeads askings heads

-- the heads among what came of requests
abbrev pub head_in : on.Outcome → List Head
head_in (on.head h) = h ∷ []
head_in out = []

abbrev pub heads_in : List on.Outcome → List Head
heads_in [] = []
heads_in (out ∷ outs) = head_in out ++ heads_in outs

-- the event by which an answer is handed on: it has no byte of a body, and its length is told
abbrev pub event_of : FullResponse Unit → on.Event
event_of response = on.answer (answer_of response.head) (size_of 0)

-- memory didn't run out, neither in the connection nor in the service
abbrev pub HadMemory : Result Unit ServeError → Type 0
HadMemory (Ok x) = ⊤
HadMemory (Err (Dispatch error.NoMemory)) = ⊥
HadMemory (Err (Dispatch e)) = ⊤
HadMemory (Err Budget) = ⊤
HadMemory (Err NoMemory) = ⊥

-- What the transport shows of an end: that it was shut down, or that it failed.
abbrev pub Shows : Wiring → Wiring → Result Unit ServeError → Type 0
Shows was now (Ok x) = IsTrue now.shut
Shows was now (Err (Dispatch error.Io)) = Rose was.faults now.faults
Shows was now (Err (Dispatch error.NoMemory)) = ⊤
Shows was now (Err (Dispatch error.DisconnectTimeout)) = ⊤
Shows was now (Err (Dispatch error.SlowRequestTimeout)) = IsTrue now.shut
Shows was now (Err (Dispatch error.Body)) = IsTrue now.shut
Shows was now (Err (Dispatch (error.Parse e))) = IsTrue now.shut
Shows was now (Err (Dispatch e)) = ⊥
Shows was now (Err Budget) = ⊤
Shows was now (Err NoMemory) = ⊤

-- A connection with these settings and this peer was served, with a pass that is now this, from that transport on to this. What was noted is a
-- trace of it, the newest step first. Its reads took what the transport gave, all of it and in order, and what the transport took is
-- what it wrote, where memory didn't run out. The requests of its heads are those that were answered, each with its answer,
-- and at most one more, and all are from that peer. Its answers are theirs, in order; where memory ran out the last one may not be among them. The pass has one entry
-- for each answer of a call, in order, with the command of its request and the reply of its answer, and no other; but where
-- memory ran out with the request that waits it may have the entry of that one.
pub record IsTold (settings : Settings) (was now : Wiring) (peer : PeerAddress) (noted : Option (List noted.Pair)) (pass : Held) (end : Result Unit ServeError) : Type 0 where
  pub trace : List sums.Step
  pub traced : IsTrace (setting_of settings) trace
  pub notes : SaysNoted noted trace
  pub moved : HadMemory end → Grows was.received now.received (taken trace) × Grows was.sent now.sent (written trace)
  pub shows : Shows was now end
  pub answered : List Pair
  pub waiting : Option Asking
  pub requests : AreHeads (map (λ p. p.0) answered ++ option_to_list waiting) (heads_in (requests_in trace))
  pub sender : AreFrom peer (map (λ p. p.0) answered ++ option_to_list waiting)
  pub last : Option on.Event
  pub answers : answers_in trace ++ option_to_list last ≡ map (λ p. event_of p.1) answered
  pub handed : HadMemory end → last ≡ None
  pub entries : List Entry
  pub calls : AllAnswered pass.number answered [] entries
  pub broke : Bool
  pub went : Went broke pass.number waiting entries pass.entries
  pub only_so : broke ≡ true → end ≡ Err NoMemory
