-- What bytes say to a codec: messages one after another, each a head and what came of its body, and where they stop.
use Rattle.std.specs.Prelude.{◌≡◌, ℕ, Bool, true, false, List, [], ◌∷◌, ◌++◌, drop, slice_range, Option, Some, None}
use Rattle.http_types.specs.declared.error.ParseError.{ParseError}
use Rattle.http_types.specs.declared.error.ParseError.TheVariants.{Chunk as broken_chunk}
use Rattle.model_h1.specs.Reading.{Ending, goes_on, is_broken, ends_before}
use Rattle.h1_decoder.specs.Refusal.{fault_of}
use Rattle.h1_payload.specs.Decoding.{Decoding, Payload}
use Rattle.h1_payload.specs.Decoding as bodies
use Rattle.h1_codec.specs.Kind.{Kind}
use Rattle.h1_codec.specs.Heads.{Search, HasSeen, IsItemOf, IsNext, Stop, waits, refused, Stops}
use Rattle.h1_codec.specs.declared.payload_type.PayloadType.{PayloadType}
use Rattle.h1_codec.specs.declared.payload_type.PayloadType.TheVariants as payload
use Rattle.h1_codec.specs.declared.framed_message.Message.{Message}
use Rattle.h1_codec.specs.declared.framed_message.Message.TheVariants.{Item, Chunk}

-- what follows the bytes of a body: nothing yet, its end, or that it is broken; and what no bytes say
pub data Closing : Type 0 where
  no_end an_end a_fault never_said : Closing

-- the bytes of a body, and what follows them; where a head has no body, nothing does
pub record Part : Type 0 where
  pub bytes : List ℕ
  pub closing : Closing

abbrev pub no_part : Part
no_part = record { bytes = []; closing = no_end }

-- what came of the body that is open, the messages after it, and where they stop
pub record Messages (I : Type 0) : Type 0 where
  pub part : Part
  pub messages : List (I × Part)
  pub stop : Stop

-- what follows a body with this chunk in front: no bytes say an empty one
abbrev pub chunk_in_front : List ℕ → Closing → Closing
chunk_in_front [] closing = never_said
chunk_in_front (b ∷ bytes) closing = closing

-- what follows a body that has its end in front: no bytes say more of it after the end
abbrev pub end_in_front : List ℕ → Closing → Closing
end_in_front [] no_end = an_end
end_in_front bytes closing = never_said

-- an item in front of what is said
abbrev pub given : {I : Type 0} → Message I → Messages I → Messages I
given (Item i) t = record { part = no_part; messages = (i, t.part) ∷ t.messages; stop = t.stop }
given (Chunk (Some bytes)) t = record t { part = record { bytes = bytes ++ t.part.bytes; closing = chunk_in_front bytes t.part.closing } }
given (Chunk None) t = record t { part = record { bytes = []; closing = end_in_front t.part.bytes t.part.closing } }

-- no item yet
abbrev pub nothing : {I : Type 0} → Messages I
nothing = record { part = no_part; messages = []; stop = waits }

-- the next head is refused for this fault, by the name of the error; or the open body is broken
abbrev pub Breaks : {I : Type 0} → ParseError → Messages I → Type 0
Breaks broken_chunk all = all ≡ record { part = record { bytes = []; closing = a_fault }; messages = []; stop = waits }
Breaks error all = all ≡ record { part = no_part; messages = []; stop = refused (fault_of error) }

-- ---- bodies

-- what follows a body that stops so
abbrev pub closing_of : Ending → Closing
closing_of goes_on = no_end
closing_of is_broken = a_fault
closing_of (ends_before rest) = an_end

abbrev pub part_of : Payload → Part
part_of p = record { bytes = p.body; closing = closing_of p.ending }

-- what reads the body after a head, if one follows; is_bare says that none does
abbrev pub body_of : Bool → PayloadType → Option Decoding
body_of true kind = None
body_of false payload.None = None
body_of false (payload.Payload d) = Some d
body_of false (payload.Stream d) = Some d

-- where the body ends so: what goes on in front of these bytes, or what stays
abbrev pub After : Ending → (List ℕ → Type 0) → Type 0 → Type 0
After goes_on goes stays = stays
After is_broken goes stays = stays
After (ends_before left) goes stays = goes left

-- the part is what bytes say of a body, if one is open, and what follows goes on after its end
abbrev pub IsPart : Option Decoding → List ℕ → Part → (List ℕ → Type 0) → Type 0 → Type 0
IsPart None bytes part goes stays = (part ≡ no_part) × goes bytes
IsPart (Some d) bytes part goes stays =
    (p : Payload) × bodies.Reads d bytes p × (part ≡ part_of p) × After p.ending goes stays

-- ---- messages

-- each head is the next of the bytes, and after it stands its body; after one that hasn't ended nothing is read
abbrev pub AreMessages : {I : Type 0} → Kind I → Bool → ℕ → List ℕ → List (I × Part) → Stop → Type 0
AreMessages k is_bare limit bytes [] stop = Stops k limit bytes stop
AreMessages k is_bare limit bytes (m ∷ ms) stop =
    (start end : ℕ) × (kind : PayloadType) × IsNext limit bytes start end × IsItemOf k (slice_range bytes start end) (m.0, kind)
    × IsPart (body_of is_bare kind) (drop end bytes) m.1 (λ left. AreMessages k is_bare limit left ms stop) ((ms ≡ []) × (stop ≡ waits))

-- where a decoder stands: how far the search for the next head has come, and the body that is open
pub record Standing : Type 0 where
  pub search : Search
  pub body : Option Decoding

-- what bytes say from there
abbrev pub Reads : {I : Type 0} → Kind I → Bool → Standing → List ℕ → Messages I → Type 0
Reads k is_bare s bytes all =
    IsPart s.body bytes all.part (λ left. HasSeen s.search left → AreMessages k is_bare s.search.limit left all.messages all.stop)
    ((all.messages ≡ []) × (all.stop ≡ waits))

-- the bytes begin with those that were looked at and not taken: in a body there are none
abbrev pub HasLooked : Option Decoding → Search → List ℕ → Type 0
HasLooked None search bytes = HasSeen search bytes
HasLooked (Some d) search bytes = (b : List ℕ) → HasSeen search b

abbrev pub Looked : Standing → List ℕ → Type 0
Looked s bytes = HasLooked s.body s.search bytes
