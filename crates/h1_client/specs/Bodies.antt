-- What is done with the body of the last answer.
use Rattle.std.specs.Prelude.{◌≡◌, ℕ, Bool, true, false, not, ◌&&◌, ◌||◌, if◌then◌else◌, List, Option, Some, None, ⊤}
use Rattle.std.specs.Option.{option_or}
use Rattle.model_h1.specs.Request.{Header}
use Rattle.model_h1.specs.Setting.{Setting}
use Rattle.model_state.specs.Kept.{Rest, is_nothing, rest_in}
use Rattle.model_state.specs.Pull as pulls
use Rattle.model_state.specs.Pull.{IsPull}
use Rattle.http_framing.specs.HeaderLines.{header_map}
use Rattle.h1_payload.specs.Rests.{fault_of, IsLight}
use Rattle.h1_payload.specs.Rests as server
use Rattle.h1_payload.specs.declared.pulled.Pulled.{Pulled}
use Rattle.h1_payload.specs.declared.pulled.Pulled.TheVariants as pulled
use Rattle.model_client.specs.ClientEvent as on
use Rattle.model_client.specs.ClientKept.{ReadingBody, ClientKept}
use Rattle.model_client.specs.ClientStep.{is_broken, pass}
use Rattle.h1_client.specs.Incoming.{Incoming}
use Rattle.h1_client.specs.Parts.{kept_of, FitsIn, Steps}
use Rattle.h1_client.specs.declared.connection.bodies.Reading.{Reading}
use Rattle.h1_client.specs.declared.connection.parts.Parts.{Parts}
use Rattle.h1_client.specs.declared.event.ClientEnd.{ClientEnd}

-- ---- what is told

-- the answer of a pull is this outcome
abbrev pub SaysPulled : Pulled → on.ClientOutcome → Type 0
SaysPulled (pulled.Bytes bytes) out = out ≡ on.bytes bytes
SaysPulled (pulled.Trailers entries) out = (headers : List Header) × (out ≡ on.trailers headers) × (entries ≡ header_map headers)
SaysPulled pulled.End out = out ≡ on.body_ended
SaysPulled (pulled.Broken fault) out = out ≡ on.broken_by (fault_of fault)
SaysPulled pulled.Pending out = out ≡ on.pending

-- the end or the fault of the body is told
abbrev pub tells_done : Pulled → Bool
tells_done pulled.End = true
tells_done (pulled.Broken fault) = true
tells_done answer = false

-- its fault is
abbrev pub breaks_body : Pulled → Bool
breaks_body (pulled.Broken fault) = true
breaks_body answer = false

-- where this holds the connection ends so, unless it already ends by a fault
abbrev pub failing : Bool → ClientEnd → Option ClientEnd → Option ClientEnd
failing fails end failed = option_or failed (if fails then Some end else None)

-- what a pull of this body gives leads to that one, and leaves those bytes
pub record IsPulledFrom (r : Reading) (p : pulls.Pulled) (answer : Pulled) (after : Reading) (left : Incoming) : Type 0 where
  pub outcome : server.SaysPulled answer p.outcome
  pub reading : after ≡ record r { rest = p.rest; is_done = tells_done answer }
  pub unread : left.unread ≡ p.unread

-- a pull leads from these parts to those, and gives such an outcome
abbrev pub IsPulledIn : Setting → Parts → Pulled → Parts → Type 0
IsPulledIn setting p answer q = (out : on.ClientOutcome) × SaysPulled answer out × Steps setting p on.pull out q

-- It needs no memory: it tells the end or a fault, or gives nothing and has no text of trailers to keep.
abbrev pub IsLightFrom : ClientKept → Option ReadingBody → Type 0
IsLightFrom k None = ⊤
IsLightFrom k (Some body) = (p : pulls.Pulled) × IsPull k.has_ended body.rest k.unread p × IsLight body.rest p.outcome p.rest

abbrev pub IsLightPull : ClientKept → Type 0
IsLightPull k = IsLightFrom k k.reading

-- ---- what is done

-- the rest isn't wanted
abbrev pub dropped_reading : Option Reading → Option Reading
dropped_reading None = None
dropped_reading (Some r) = Some (record r { was_dropped = true })

abbrev pub is_dropped_in : Option Reading → Bool
is_dropped_in None = false
is_dropped_in (Some r) = r.was_dropped

-- with the input a raw body ends of which no byte is left
abbrev pub ended_reading : List ℕ → Option Reading → Option Reading
ended_reading bytes None = None
ended_reading bytes (Some r) = Some (record r { rest = rest_in true bytes r.rest })

-- a passed body is done with, and ends without its end
abbrev pub passed_is_done : Bool → Rest → Bool
passed_is_done has_ended rest = is_nothing rest || is_broken rest || has_ended

abbrev pub passed_breaks : Bool → Rest → Bool
passed_breaks has_ended rest = is_broken rest || (has_ended && not (is_nothing rest))

-- what has come of a body that isn't wanted is passed
pub record IsPassedBody (p q : Parts) : Type 0 where
  pub kept : kept_of q ≡ pass (kept_of p)
  pub piece : q.input.piece ≡ p.input.piece
  pub last : q.is_last ≡ p.is_last
  pub fits : FitsIn p.reading → FitsIn q.reading
