-- Which parts of replies a call puts towards the client, and what a call of a server's connection hands out, whatever happened before.
use Rattle.std.specs.Prelude.{◌≡◌, ◌⊎◌, ℕ, Bool, true, false, List, [], ◌∷◌, ◌++◌, Option, Some, None, is_some}
use Rattle.model_h1.specs.Event as on
use Rattle.model_h1.specs.Request.{Head}
use Rattle.model_h1.specs.Sums.{Step}
use Rattle.model_state.specs.Local.{allowed_by, closing_by}
use Rattle.h1_payload.specs.Rests.{fault_of}
use Rattle.h1_payload.specs.declared.pulled.Pulled.{Pulled}
use Rattle.h1_payload.specs.declared.pulled.Pulled.TheVariants as pulled
use Rattle.h1_decoder.specs.HeadItem.{SaysHead}
use Rattle.h1_decoder.specs.ResponseItem.{SaysAnswer}
use Rattle.h1_connection.specs.EventMeaning.{setting_of}
use Rattle.h1_connection.specs.State.{State, Stands}
use Rattle.h1_connection.specs.declared.connection.heads.NextHead.{NextHead}
use Rattle.h1_connection.specs.declared.connection.heads.NextHead.TheVariants as next
use Rattle.h1_client.specs.HeadMeaning as heads
use Rattle.model_client.specs.AnswerReading.{Answer, answer_is, IsAnswerReading}
use Rattle.model_client.specs.ClientEvent as asked
use Rattle.model_client.specs.ClientKept.{client_allows, client_closing}
use Rattle.model_client.specs.ClientTrace.{Happened}
use Rattle.model_proxy.specs.Parts.{Part, begins, continues, ends, goes_on, takes, takes_end, request_breaks, leaves_rest, has_closed, parts_of, Handed, body_bytes, body_end, body_fault, handed_of}
use Rattle.h1_client.specs.ClientMeaning as asking
use Rattle.h1_client.specs.State as servers
use Rattle.h1_client.specs.declared.event.NextAnswer.{NextAnswer}
use Rattle.h1_client.specs.declared.event.NextAnswer.TheVariants as answered

-- ---- the client's side

-- More happened on the client's connection, by the same settings: parts that are so, the newest first, and no others. So no events came but a
-- forwarder's own.
abbrev pub PutsFor : (List Part → Type 0) → State → State → Type 0
PutsFor Are old new =
    (new.settings ≡ old.settings)
    × ((trace : List Step) → Stands old trace → (more : List Step) × Stands new (more ++ trace) × Are (parts_of more))

-- these parts
abbrev pub Puts : List Part → State → State → Type 0
Puts parts old new = PutsFor (λ all. all ≡ parts) old new

-- the event by which a part of a reply is put
abbrev pub event_of : Part → on.Event
event_of (begins put) = on.answer put.head put.size
event_of (continues bytes) = on.chunk bytes
event_of ends = on.body_end
event_of goes_on = on.send_continue
event_of part = on.body_error

-- it may not be put
abbrev pub IsRefused : Part → State → Type 0
IsRefused part s = allowed_by (setting_of s.settings) s.kept (event_of part) ≡ false

-- a part was put; none is where none may be
abbrev pub MayPut : Part → State → State → Type 0
MayPut part old new = (IsRefused part old × (new ≡ old)) ⊎ Puts (part ∷ []) old new

-- the rest of the request's body was left; nothing was done where it can't be
abbrev pub MayLeave : State → State → Type 0
MayLeave old new = ((new ≡ old) × (allowed_by (setting_of old.settings) old.kept on.drop_body ≡ false)) ⊎ Puts (leaves_rest ∷ []) old new

-- the connection handed out a head, as this one or another
abbrev pub HandsHead : (Head → Type 0) → State → State → Type 0
HandsHead Is old new =
    (new.settings ≡ old.settings)
    × ((trace : List Step) → Stands old trace → (h : Head) × Is h × Stands new (record { event = on.next; outcome = on.head h } ∷ trace))

-- No part of a reply is put where the next request or more of its body is asked for. A connection has closed only where it is to end.
abbrev pub HandsNext : NextHead → State → State → Type 0
HandsNext (next.Head item) old new = HandsHead (SaysHead item) old new
HandsNext (next.Fault fault) old new = Puts [] old new
HandsNext next.Pending old new = Puts [] old new
HandsNext (next.Closed end) old new =
    Puts (has_closed ∷ []) old new × ((trace : List Step) → Stands old trace → is_some (closing_by (setting_of old.settings) old.kept) ≡ true)

abbrev pub HandsPulled : Pulled → State → State → Type 0
HandsPulled (pulled.Bytes bytes) old new = Puts (takes bytes ∷ []) old new
HandsPulled (pulled.Trailers entries) old new = Puts [] old new
HandsPulled pulled.End old new = Puts (takes_end ∷ []) old new
HandsPulled (pulled.Broken fault) old new = Puts (request_breaks (fault_of fault) ∷ []) old new
HandsPulled pulled.Pending old new = Puts [] old new

-- ---- a server's side

-- More happened on the server's connection, and this was handed out, the newest first, and nothing else. So no events came but a forwarder's
-- own.
abbrev pub Hands : List Handed → servers.State → servers.State → Type 0
Hands handed old new =
    (new.settings ≡ old.settings)
    × ((trace : List Happened) → servers.Stands old trace → (more : List Happened) × servers.Stands new (more ++ trace) × (handed_of more ≡ handed))

abbrev pub HandsNone : servers.State → servers.State → Type 0
HandsNone old new = Hands [] old new

-- asked for the next answer, the connection told this
abbrev pub Tells : asked.ClientOutcome → servers.State → servers.State → Type 0
Tells o old new =
    (new.settings ≡ old.settings)
    × ((trace : List Happened) → servers.Stands old trace → servers.Stands new (record { event = asked.next; outcome = o } ∷ trace))

-- an answer was handed out as it was read from a piece of what came
abbrev pub IsRead : Answer → Type 0
IsRead a = (piece : List ℕ) × IsAnswerReading piece (answer_is a)

-- the next answer can't be asked for
abbrev pub CannotTell : servers.State → Type 0
CannotTell s = client_allows (asking.setting_of s.settings) s.kept asked.next ≡ false

-- what the connection told is what the call answers
abbrev pub HandsAnswer : NextAnswer → servers.State → servers.State → Type 0
HandsAnswer (answered.Answer item) old new = (a : Answer) × SaysAnswer item a × IsRead a × Tells (asked.answer a) old new
HandsAnswer (answered.Fault fault) old new = Tells (asked.fault (heads.fault_of fault)) old new
HandsAnswer (answered.Closed end) old new = CannotTell old ⊎ Tells (asked.closed (asking.end_of end)) old new
HandsAnswer answered.Pending old new = HandsNone old new

-- no more of the answer's body can be asked for
abbrev pub CannotPull : servers.State → Type 0
CannotPull s = client_allows (asking.setting_of s.settings) s.kept asked.pull ≡ false

-- no fault brings the connection's end
abbrev pub is_plain : asked.ClientEnd → Bool
is_plain asked.asked = true
is_plain asked.unasked = true
is_plain asked.input_ended = true
is_plain end = false

abbrev pub is_sound : Option asked.ClientEnd → Bool
is_sound None = true
is_sound (Some end) = is_plain end

-- The last answer is read to its end: the next one may be asked for, and no fault brings the connection's end.
pub record IsReadUp (s : servers.State) : Type 0 where
  pub next : client_allows (asking.setting_of s.settings) s.kept asked.next ≡ true
  pub sound : is_sound (client_closing s.kept) ≡ true

-- Asked for more of the answer's body, the connection handed out what the call answers. The end is also that of a body that was read before
-- or isn't there, and a fault that of one which wasn't, and of which no more can be asked for.
abbrev pub HandsPiece : Pulled → servers.State → servers.State → Type 0
HandsPiece (pulled.Bytes bytes) old new = Hands (body_bytes bytes ∷ []) old new
HandsPiece (pulled.Trailers entries) old new = HandsNone old new
HandsPiece pulled.End old new = Hands (body_end ∷ []) old new ⊎ ((new ≡ old) × IsReadUp old)
HandsPiece (pulled.Broken fault) old new = Hands (body_fault (fault_of fault) ∷ []) old new ⊎ ((new ≡ old) × CannotPull old × (IsReadUp old → ⊥))
HandsPiece pulled.Pending old new = HandsNone old new
