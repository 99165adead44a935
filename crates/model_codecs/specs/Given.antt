-- Messages that were sent one after another, and what is given of them.
use Rattle.std.specs.Prelude.{◌≡◌, ◌⊎◌, ⊤, ℕ, Bool, true, false, List, [], ◌∷◌, ◌++◌}
use Rattle.model_h1.specs.Request.{BodyKind, no_body, has_body}
use Rattle.model_h1.specs.Handed.{Begins}
use Rattle.h1_codec.specs.Kind.{Kind}
use Rattle.h1_codec.specs.Heads.{waits}
use Rattle.h1_codec.specs.FramedMessages.{no_end, an_end, Part, no_part}
use Rattle.model_codecs.specs.Acts.{Act, all_told, HaveNoFault, EndsWaiting}

-- the body that follows a head of this kind: none, where none follows whatever the head says
abbrev pub kind_to : Bool → BodyKind → BodyKind
kind_to true kind = no_body
kind_to false kind = kind

-- a message as it was sent: the texts of its head and of its body, what the head says, and the bytes that the body carries
pub record Sent {I : Type 0} (k : Kind I) : Type 0 where
  pub head : List ℕ
  pub body : List ℕ
  pub says : k.Head
  pub bytes : List ℕ

-- the texts of all, one after another
abbrev pub texts : {I : Type 0} → (k : Kind I) → List (Sent k) → List ℕ
texts k [] = []
texts k (s ∷ ss) = s.head ++ (s.body ++ texts k ss)

-- ---- what is given

-- all bytes of a body, and its end
abbrev pub whole_part : List ℕ → Part
whole_part bytes = record { bytes = bytes; closing = an_end }

-- the same, if there is a body
abbrev pub part_if : Bool → List ℕ → Part
part_if true bytes = whole_part bytes
part_if false bytes = no_part

module _ {I : Type 0} (k : Kind I) (is_bare : Bool) where
  -- a body follows the head
  abbrev pub has_part : Sent k → Bool
  has_part s = has_body (kind_to is_bare (k.body s.says))

  -- what came of a body, and the messages behind it: all of it and its end, and then these are given so; or a beginning of its
  -- bytes, and then there are none
  abbrev pub IsPartGiven : (List (I × Part) → Type 0) → List ℕ → Part → List (I × Part) → Type 0
  IsPartGiven Others bytes part ms =
      ((part ≡ whole_part bytes) × Others ms) ⊎ ((part.closing ≡ no_end) × Begins part.bytes bytes × (ms ≡ []))

  abbrev pub IsBodyGiven : Bool → (List (I × Part) → Type 0) → List ℕ → Part → List (I × Part) → Type 0
  IsBodyGiven true Others bytes part ms = IsPartGiven Others bytes part ms
  IsBodyGiven false Others bytes part ms = (part ≡ no_part) × Others ms

  -- The first of the messages that were sent are given, in their order: each head as it was sent, with all bytes of its body and
  -- its end; of the newest one, perhaps, only the first bytes of its body.
  abbrev pub AreBegun : List (I × Part) → List (Sent k) → Type 0
  AreBegun [] ss = ⊤
  AreBegun (m ∷ ms) [] = ⊥
  AreBegun (m ∷ ms) (s ∷ ss) = k.says m.0 s.says × IsBodyGiven (has_part s) (λ others. AreBegun others ss) s.bytes m.1 ms

  -- what is given of a message all of which is given
  abbrev pub part_of : Sent k → Part
  part_of s = part_if (has_part s) s.bytes

  -- these messages are given, each whole, and no other
  abbrev pub AreWhole : List (I × Part) → List (Sent k) → Type 0
  AreWhole [] [] = ⊤
  AreWhole (m ∷ ms) (s ∷ ss) = k.says m.0 s.says × (m.1 ≡ part_of s) × AreWhole ms ss
  AreWhole ms ss = ⊥

  -- What was given are the messages that were sent, the first of them, and nothing else; no error was answered but that memory
  -- ran out. Where all bytes came and there was no further item, all messages are given, each whole.
  pub record AreGiven (ss : List (Sent k)) (acts : List (Act I)) (more : List ℕ) : Type 0 where
    pub messages : List (I × Part)
    pub are : all_told acts ≡ record { part = no_part; messages = messages; stop = waits }
    pub begun : AreBegun messages ss
    pub no_fault : HaveNoFault acts
    pub all : more ≡ [] → EndsWaiting acts → AreWhole messages ss
