-- What is written and sent of a message.
use Rattle.std.specs.Prelude.{◌≡◌, ◌<◌, ◌≤◌, ◌⊎◌, ℕ, ◌+◌, Bool, true, false, Option, Some, None, List, [], ◌∷◌, ◌++◌, length, ⊤}
use Rattle.http_bodies.specs.Giving.{Given, chunk, fault}
use Rattle.http_bodies.specs.Told.{Grows, Tells, led_by}
use Rattle.http_transport.specs.Flushes.{OnlyWrote}
use Rattle.http_framing.specs.declared.body.size.BodySize.{BodySize}
use Rattle.h1_codec.specs.declared.framed_message.Message.{Message}
use Rattle.h1_codec.specs.declared.framed_message.Message.TheVariants.{Item, Chunk}
use Rattle.h1_codec.specs.View.{View}

-- the items are written one after another, together as this text, and leave the codec so
abbrev pub AreWritten : {U I : Type 0} → (U → I → List ℕ → U → Type 0) → U → List I → List ℕ → U → Type 0
AreWritten writes codec [] text after = (text ≡ []) × (after ≡ codec)
AreWritten {U} writes codec (item ∷ items) text after =
    (first rest : List ℕ) × (mid : U) × (text ≡ first ++ rest) × writes codec item first mid × AreWritten writes mid items rest after

-- the head, where it isn't written yet
abbrev pub heads : {A : Type 0} → Option A → List (Message A)
heads None = []
heads (Some head) = Item head ∷ []

-- the chunks that have bytes
abbrev pub pieces : {A : Type 0} → List Given → List (Message A)
pieces [] = []
pieces (chunk [] ∷ more) = pieces more
pieces (chunk (b ∷ bytes) ∷ more) = Chunk (Some (b ∷ bytes)) ∷ pieces more
pieces (fault n ∷ more) = pieces more

-- the same as lists of bytes
abbrev pub filled : List Given → List (List ℕ)
filled [] = []
filled (chunk [] ∷ more) = filled more
filled (chunk (b ∷ bytes) ∷ more) = (b ∷ bytes) ∷ filled more
filled (fault n ∷ more) = filled more

-- the end, where it was written meanwhile
abbrev pub ends : {A : Type 0} → Bool → Bool → List (Message A)
ends false true = Chunk None ∷ []
ends false false = []
ends true now = []

-- how many answers the body gave: its chunks, with its fault, and its end, where it was written meanwhile
abbrev pub given_count : List Given → Bool → Bool → ℕ
given_count given before now = length given + length (ends {A = Unit} before now)

-- The last of these items found fewer than 8192 bytes that wait to be sent: with its own text fewer than that many and
-- its length wait.
pub record FoundRoom {U I : Type 0} (writes : U → I → List ℕ → U → Type 0) (codec : U) (items : List I) (text : List ℕ) (after : U) (unsent : List ℕ) : Type 0 where
  pub front : List I
  pub last : I
  pub are : items ≡ front ++ last ∷ []
  pub before : List ℕ
  pub own : List ℕ
  pub mid : U
  pub text_is : text ≡ before ++ own
  pub front_written : AreWritten writes codec front before mid
  pub written : writes mid last own after
  pub room : length unsent < 8192 + length own

-- nothing of the body was written, or its last item found room in the buffer
abbrev pub HasRoom : {U I : Type 0} → (U → I → List ℕ → U → Type 0) → U → List I → List I → List ℕ → U → List ℕ → Type 0
HasRoom writes codec head body text after unsent = (body ≡ []) ⊎ FoundRoom writes codec (head ++ body) text after unsent

-- the end is written only where nothing is to come of the body, and after it the body gives nothing more
abbrev pub EndsSo : Bool → Bool → List Given → Option (List Given) → Type 0
EndsSo false false given coming = ⊤
EndsSo false true given coming = Tells coming []
EndsSo true false given coming = ⊥
EndsSo true true given coming = given ≡ []

-- the counts never fall
pub record Later {U H : Type 0} (old new : View U H) : Type 0 where
  pub transport_faults : old.transport.faults ≤ new.transport.faults
  pub write_waits : old.transport.write_waits ≤ new.transport.write_waits
  pub flush_waits : old.transport.flush_waits ≤ new.transport.flush_waits
  pub body_faults : old.body.faults ≤ new.body.faults
  pub body_waits : old.body.waits ≤ new.body.waits
  pub takes_memory : new.body.takes_memory ≡ old.body.takes_memory

-- The head was written, if it wasn't yet, then each chunk that the body gave and that has bytes, and then the end, if it
-- was; of what was buffered and that text the transport took the front, and the rest is buffered. Nothing of the body is asked for
-- but where there is room in the buffer.
pub record Sends {U H : Type 0} (writes : U → Message (H × BodySize) → List ℕ → U → Type 0) (old new : View U H) : Type 0 where
  pub given : List Given
  pub text : List ℕ
  pub gave : List ℕ
  pub written : AreWritten writes old.codec (heads old.head ++ (pieces given ++ ends old.is_ended new.is_ended)) text new.codec
  pub buffered : old.unsent ++ text ≡ gave ++ new.unsent
  pub room : HasRoom writes old.codec (heads old.head) (pieces given ++ ends old.is_ended new.is_ended) text new.codec new.unsent
  pub sent : Grows old.transport.sent new.transport.sent gave
  pub coming : old.body.coming ≡ led_by given new.body.coming
  pub begun : new.head ≡ None
  pub ended : EndsSo old.is_ended new.is_ended given new.body.coming
  pub unread : new.unread ≡ old.unread
  pub others : OnlyWrote old.transport new.transport
  pub later : Later old new

-- the head is written, and the end isn't
abbrev pub IsAmid : {U H : Type 0} → View U H → Type 0
IsAmid v = (v.head ≡ None) × (v.is_ended ≡ false)

-- the item is the next of the message
abbrev pub IsNext : {U H : Type 0} → View U H → Message (H × BodySize) → View U H → Type 0
IsNext old (Item head) new = (old.head ≡ Some head) × (new.body ≡ old.body)
IsNext old (Chunk (Some bytes)) new = IsAmid old × (old.body.coming ≡ led_by (chunk bytes ∷ []) new.body.coming)
IsNext old (Chunk None) new = IsAmid old × Tells old.body.coming [] × (new.body.coming ≡ old.body.coming)

-- The codec refuses the next item, or had no memory for it. Then it is as it says that this error leaves it, and transport and
-- buffers are as before.
pub record IsUnwritten {U H E : Type 0} (refuses : E → U → Message (H × BodySize) → Type 0) (lacks : E → Type 0) (leaves : E → U → U → Type 0)
    (error : E) (old new : View U H) : Type 0 where
  pub item : Message (H × BodySize)
  pub next : IsNext old item new
  pub refused : ¬ (lacks error) → refuses error old.codec item
  pub lacking : lacks error → new.codec ≡ old.codec
  pub left : leaves error old.codec new.codec
  pub transport : new.transport ≡ old.transport
  pub unsent : new.unsent ≡ old.unsent
  pub unread : new.unread ≡ old.unread

-- The head isn't written; or some was sent, and then an item isn't written. With that item the body gave at most so many
-- answers.
abbrev pub IsLost : {U H E : Type 0} → (U → Message (H × BodySize) → List ℕ → U → Type 0) → (E → U → Message (H × BodySize) → Type 0) → (E → Type 0)
    → (E → U → U → Type 0) → ℕ → E → View U H → View U H → Type 0
IsLost {U} {H} writes refuses lacks leaves most error old new =
    IsUnwritten refuses lacks leaves error old new
    ⊎ ((mid : View U H) × (sends : Sends writes old mid) × (given_count sends.given old.is_ended mid.is_ended < most) × IsUnwritten refuses lacks leaves error mid new)
