-- What a decoder of messages reads in bytes: heads, one behind the other, each with what reads its body.
use Rattle.std.specs.Prelude.{⊤, ◌≡◌, ◌⊎◌, ℕ, ◌<◌, ◌≤◌, ◌==◌, List, [], ◌∷◌, length, take, drop, slice_range, false, if◌then◌else◌}
use Rattle.http_types.specs.declared.error.ParseError.{ParseError}
use Rattle.http_types.specs.declared.error.ParseError.TheVariants.{TooLarge}
use Rattle.model_h1.specs.Place.{start}
use Rattle.model_h1.specs.HeadPiece.{IsHeadPiece, HasNoHeadPiece}
use Rattle.model_h1.specs.Request.{BodyKind, no_body, fixed_body, chunked_body, raw_body, Fault, too_large}
use Rattle.model_state.specs.Kept.{no_rest, fixed_rest, chunks_rest, raw_rest}
use Rattle.h1_decoder.specs.HeadPosition.{HeadPosition, IsSeenIn}
use Rattle.h1_decoder.specs.Refusal.{fault_of}
use Rattle.h1_codec.specs.Kind.{says_head, says_fault, Kind}
use Rattle.h1_codec.specs.declared.payload_type.PayloadType.{PayloadType}
use Rattle.h1_codec.specs.declared.payload_type.PayloadType.TheVariants as payload

-- within how many bytes a head has to end, and how far the search for the next one has come
pub record Search : Type 0 where
  pub limit : ℕ
  pub position : HeadPosition

-- where as many bytes are there as it has seen, they are those
abbrev pub HasSeen : Search → List ℕ → Type 0
HasSeen search bytes = IsSeenIn search.position bytes

-- ---- the next head

-- what reads a body of this kind, from its first byte on
abbrev pub payload_of : BodyKind → PayloadType
payload_of no_body = payload.None
payload_of (fixed_body n) = payload.Payload (record { rest = if n == 0 then no_rest else fixed_rest n; is_broken = false })
payload_of chunked_body = payload.Payload (record { rest = chunks_rest start []; is_broken = false })
payload_of raw_body = payload.Stream (record { rest = raw_rest; is_broken = false })

-- a head, and what reads its body
abbrev pub Item : Type 0 → Type 0
Item I = I × PayloadType

-- the piece is the head that the item says
pub record IsItemOf {I : Type 0} (k : Kind I) (piece : List ℕ) (item : Item I) : Type 0 where
  pub head : k.Head
  pub reading : k.reads piece (says_head head)
  pub says : k.says item.0 head
  pub payload : item.1 ≡ payload_of (k.body head)

-- the first head is whole, and ends within the limit
pub record IsNext (limit : ℕ) (bytes : List ℕ) (start end : ℕ) : Type 0 where
  pub piece : IsHeadPiece bytes start end
  pub within : end ≤ limit

-- no head is whole, and there are fewer bytes than the limit
abbrev pub IsWaiting : ℕ → List ℕ → Type 0
IsWaiting limit bytes = HasNoHeadPiece bytes × (length bytes < limit)

-- as many bytes as the limit are there, and no head ends within the first so many
abbrev pub IsTooLong : ℕ → List ℕ → Type 0
IsTooLong limit bytes = (limit ≤ length bytes) × HasNoHeadPiece (take limit bytes)

-- the item is the first head's, and this is what stands behind it
abbrev pub IsNextItem : {I : Type 0} → Kind I → ℕ → List ℕ → List ℕ → Item I → Type 0
IsNextItem k limit bytes rest item =
    (start end : ℕ) × IsNext limit bytes start end × IsItemOf k (slice_range bytes start end) item × (rest ≡ drop end bytes)

-- why there is none, by the name of the error: the limit is judged before the head
abbrev pub RefusesNext : {I : Type 0} → Kind I → ParseError → ℕ → List ℕ → Type 0
RefusesNext k e limit bytes =
    (IsTooLong limit bytes × (e ≡ TooLarge))
    ⊎ ((start end : ℕ) × IsNext limit bytes start end × k.refuses e (slice_range bytes start end))

-- ---- all heads, as if no body stood between them

-- what stands behind the last head: no further one is whole yet, or the next is refused
pub data Stop : Type 0 where
  waits : Stop
  refused : Fault → Stop

abbrev pub Stops : {I : Type 0} → Kind I → ℕ → List ℕ → Stop → Type 0
Stops k limit bytes waits = IsWaiting limit bytes
Stops k limit bytes (refused fault) =
    (IsTooLong limit bytes × (fault ≡ too_large))
    ⊎ ((start end : ℕ) × IsNext limit bytes start end × k.reads (slice_range bytes start end) (says_fault fault))

abbrev pub AreHeads : {I : Type 0} → Kind I → ℕ → List ℕ → List (Item I) → Stop → Type 0
AreHeads k limit bytes [] stop = Stops k limit bytes stop
AreHeads k limit bytes (item ∷ items) stop =
    (start end : ℕ) × IsNext limit bytes start end × IsItemOf k (slice_range bytes start end) item
    × AreHeads k limit (drop end bytes) items stop

-- item by item, the same head is said, and the same reads its body
abbrev pub SayTheSame : {I : Type 0} → Kind I → List (Item I) → List (Item I) → Type 0
SayTheSame k [] [] = ⊤
SayTheSame k (x ∷ xs) (y ∷ ys) = ((head : k.Head) × k.says x.0 head × k.says y.0 head × (x.1 ≡ y.1)) × SayTheSame k xs ys
SayTheSame k xs ys = ⊥

-- what bytes say
pub record Heads (I : Type 0) : Type 0 where
  pub items : List (Item I)
  pub stop : Stop

-- what bytes say to a decoder that has seen the first of them
abbrev pub Reads : {I : Type 0} → Kind I → Search → List ℕ → Heads I → Type 0
Reads k search bytes heads = HasSeen search bytes → AreHeads k search.limit bytes heads.items heads.stop

-- an answered head in front of what is said
abbrev pub given : {I : Type 0} → Item I → Heads I → Heads I
given item heads = record heads { items = item ∷ heads.items }

-- no head yet
abbrev pub no_heads : {I : Type 0} → Heads I
no_heads = record { items = []; stop = waits }

-- no head, and the next one is refused for the fault that the error names
abbrev pub Breaks : {I : Type 0} → ParseError → Heads I → Type 0
Breaks error heads = heads ≡ record { items = []; stop = refused (fault_of error) }

-- an error changes nothing
abbrev pub LeftAfter : ParseError → Search → List ℕ → Search → List ℕ → Type 0
LeftAfter error old bytes new rest = (new ≡ old) × (rest ≡ bytes)
