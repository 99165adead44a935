-- What is left of a body, and what a pull answers.
use Rattle.std.specs.Prelude.{◌≡◌, ℕ, List, [], ⊤}
use Rattle.model_h1.specs.Request.{Header}
use Rattle.model_h1.specs.Event.{Outcome, corrupted, incomplete}
use Rattle.model_h1.specs.Event as on
use Rattle.model_state.specs.Kept as machine
use Rattle.model_state.specs.Pull as pulls
use Rattle.http_framing.specs.HeaderLines.{header_map}
use Rattle.h1_payload.specs.declared.pulled.BodyFault.{BodyFault}
use Rattle.h1_payload.specs.declared.pulled.BodyFault.TheVariants.{Corrupted, Incomplete}
use Rattle.h1_payload.specs.declared.pulled.Pulled.{Pulled}
use Rattle.h1_payload.specs.declared.pulled.Pulled.TheVariants as pulled
use Rattle.h1_payload.specs.declared.rest.Left.{Left}
use Rattle.h1_payload.specs.declared.rest.Left.TheVariants as left

-- what is left of a body
abbrev pub rest_of : Left → machine.Rest
rest_of left.Nothing = machine.no_rest
rest_of left.Raw = machine.raw_rest
rest_of (left.Fixed n) = machine.fixed_rest n
rest_of (left.Chunks reader) = machine.chunks_rest reader.place reader.section

-- what is wrong with a body
abbrev pub fault_of : BodyFault → on.BodyFault
fault_of Corrupted = corrupted
fault_of Incomplete = incomplete

-- the answer of a pull is this outcome
abbrev pub SaysPulled : Pulled → Outcome → Type 0
SaysPulled (pulled.Bytes bytes) o = o ≡ on.bytes bytes
SaysPulled (pulled.Trailers entries) o = (headers : List Header) × (o ≡ on.trailers headers) × (entries ≡ header_map headers)
SaysPulled pulled.End o = o ≡ on.body_ended
SaysPulled (pulled.Broken fault) o = o ≡ on.broken_by (fault_of fault)
SaysPulled pulled.Pending o = o ≡ on.pending

-- the answer, and what is then left of the body and of the bytes, are those of a pull
pub record IsPulled (p : pulls.Pulled) (answer : Pulled) (rest : machine.Rest) (unread : List ℕ) : Type 0 where
  pub outcome : SaysPulled answer p.outcome
  pub rest_is : rest ≡ p.rest
  pub unread_is : unread ≡ p.unread

-- the text of a trailer section that is kept
abbrev pub section_of : machine.Rest → List ℕ
section_of (machine.chunks_rest place section) = section
section_of rest = []

-- a pull that gives the end, a fault or a broken rule needs no memory, and one that gives nothing none, where it has no
-- text of a trailer section to keep
abbrev pub IsLight : machine.Rest → Outcome → machine.Rest → Type 0
IsLight old on.body_ended rest = ⊤
IsLight old (on.broken_by fault) rest = ⊤
IsLight old (on.protocol error) rest = ⊤
IsLight old on.pending rest = section_of rest ≡ section_of old
IsLight old o rest = ⊥
