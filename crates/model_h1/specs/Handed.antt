-- What was handed out, and when that is the beginning of a parse.
use Rattle.std.specs.Prelude.{◌≡◌, ℕ, ◌<◌, ◌≤◌, Bool, true, false, List, [], ◌∷◌, ◌++◌, length, take, drop, map, reverse, IsTrue, IsSome, unwrap_or, flat_map, ⊤}
use Rattle.std.specs.List.{AllByRecursion}
use Rattle.model_h1.specs.Runs.{run_bytes}
use Rattle.model_h1.specs.HeadPiece.{HasNoHeadPiece}
use Rattle.model_h1.specs.Request.{Header, too_large, Reading, head_is, faulty}
use Rattle.model_h1.specs.Setting.{Setting}
use Rattle.model_h1.specs.Frame.{Frame}
use Rattle.model_h1.specs.Parse.{Message, Body, no_content, content, frames, Stop, ended_at, still_open, broken, cut, next_start, runs_of}
use Rattle.model_h1.specs.Event.{Outcome, BodyFault, corrupted, incomplete}
use Rattle.model_h1.specs.Event as on
use Rattle.model_h1.specs.Sums.{Step, completes, taken}

-- what is handed out of a body: some of its bytes, its trailers, its end or its fault, a frame
pub data Item : Type 0 where
  item_bytes : List ℕ → Item
  item_trailers : List Header → Item
  item_end : Item
  item_fault : BodyFault → Item
  item_frame : Frame → Item

-- What was handed out of one message: its head or fault, and items of its body, in order. Answered says that
-- its answer is complete.
pub record Handed : Type 0 where
  pub reading : Reading
  pub items : List Item
  pub answered : Bool

-- All that was handed out: items with no message in front of them, and the messages, the newest first.
pub record HandedOut : Type 0 where
  pub stray : List Item
  pub messages : List Handed

abbrev pub nothing_handed : HandedOut
nothing_handed = record { stray = []; messages = [] }

abbrev pub newly_handed : Reading → Handed
newly_handed reading = record { reading = reading; items = []; answered = false }

-- a further message
abbrev pub with_message : Reading → HandedOut → HandedOut
with_message reading out = record out { messages = newly_handed reading ∷ out.messages }

-- a further item, of the newest message
abbrev pub with_item : Item → HandedOut → HandedOut
with_item item out = put out.stray out.messages
  where
    put : List Item → List Handed → HandedOut
    put stray [] = record { stray = stray ++ item ∷ []; messages = [] }
    put stray (m ∷ ms) = record { stray = stray; messages = record m { items = m.items ++ item ∷ [] } ∷ ms }

-- what an outcome adds
abbrev pub handing : Outcome → HandedOut → HandedOut
handing (on.head h) out = with_message (head_is h) out
handing (on.fault f) out = with_message (faulty f) out
handing (on.bytes more) out = with_item (item_bytes more) out
handing (on.trailers lines) out = with_item (item_trailers lines) out
handing on.body_ended out = with_item item_end out
handing (on.broken_by f) out = with_item (item_fault f) out
handing (on.frame f) out = with_item (item_frame f) out
handing _ out = out

-- the answer to the newest message is complete
abbrev pub marking_answered : Bool → HandedOut → HandedOut
marking_answered false out = out
marking_answered true out = record out { messages = mark out.messages }
  where
    mark : List Handed → List Handed
    mark [] = []
    mark (m ∷ ms) = record m { answered = true } ∷ ms

-- what a trace handed out
unfoldable pub handed_out : List Step → HandedOut
handed_out [] = nothing_handed
handed_out (s ∷ before) = marking_answered (completes s.event) (handing s.outcome (handed_out before))

-- ---- against a parse

abbrev pub body_bytes : List ℕ → Body → List ℕ
body_bytes bytes body = run_bytes bytes (runs_of body)

-- the list is the beginning of the other
abbrev pub Begins : {A : Type 0} → List A → List A → Type 0
Begins {A} front all = (rest : List A) × (all ≡ front ++ rest)

-- trailers are an item only where there are some
abbrev pub trailer_items : List Header → List Item
trailer_items [] = []
trailer_items (line ∷ more) = item_trailers (line ∷ more) ∷ []

abbrev pub stop_items : Stop → List Item
stop_items (ended_at place lines) = trailer_items lines ++ item_end ∷ []
stop_items broken = item_fault corrupted ∷ []
stop_items cut = item_fault incomplete ∷ []
stop_items still_open = []

-- what a body hands out behind its bytes, in order
abbrev pub last_items : Body → List Item
last_items no_content = []
last_items (content runs stop) = stop_items stop
last_items (frames placed fail) = map (λ p. item_frame p.frame) placed

-- The items are the body's: pieces of its bytes, in order, each with some bytes, and behind all its bytes a
-- beginning of what follows these. So nothing stands behind an end, and nothing comes twice.
pub record AreItemsOf (taken : List ℕ) (body : Body) (items : List Item) : Type 0 where
  pub pieces : List (List ℕ)
  pub last : List Item
  pub are : items ≡ map item_bytes pieces ++ last
  pub some : AllByRecursion (λ piece. 0 < length piece) pieces
  pub begins : Begins (flat_map (λ piece. piece) pieces) (body_bytes taken body)
  pub behind : 0 < length last → flat_map (λ piece. piece) pieces ≡ body_bytes taken body
  pub follow : Begins last (last_items body)

-- what was handed out of a message is its own
pub record Agrees (taken : List ℕ) (h : Handed) (m : Message) : Type 0 where
  pub reading : h.reading ≡ m.reading
  pub items : AreItemsOf taken m.body h.items

-- a message that isn't the last has ended, and is answered
abbrev pub IsLastOrEnded : Handed → Message → List Handed → Type 0
IsLastOrEnded h m [] = ⊤
IsLastOrEnded h m (next ∷ more) = IsSome (next_start m.body) × IsTrue h.answered

-- One last fault may stand behind the parse: as many bytes as may be held that hold no whole head.
abbrev pub IsOversized : ℕ → List ℕ → List Handed → Type 0
IsOversized hold_size bytes [] = ⊤
IsOversized hold_size bytes (h ∷ []) =
    (h ≡ newly_handed (faulty too_large)) × (hold_size ≤ length bytes) × HasNoHeadPiece (take hold_size bytes)
IsOversized hold_size bytes (h ∷ second ∷ more) = ⊥

-- What was handed out, the oldest first, is the beginning of the messages, of which the first starts at
-- the place.
abbrev pub IsPrefixFrom : ℕ → List ℕ → ℕ → List Handed → List Message → Type 0
IsPrefixFrom hold_size bytes place handed [] = IsOversized hold_size (drop place bytes) handed
IsPrefixFrom hold_size bytes place [] (m ∷ ms) = ⊤
IsPrefixFrom hold_size bytes place (h ∷ hs) (m ∷ ms) =
    Agrees bytes h m × IsLastOrEnded h m hs × IsPrefixFrom hold_size bytes (unwrap_or (next_start m.body) place) hs ms

-- the same of all messages, with no item that has none
abbrev pub IsPrefixOf : ℕ → List ℕ → HandedOut → List Message → Type 0
IsPrefixOf hold_size bytes out messages =
    (out.stray ≡ []) × IsPrefixFrom hold_size bytes 0 (reverse out.messages) messages

-- all that a trace handed out is the beginning of the parse
abbrev pub HandsOutPrefix : Setting → List Step → List Message → Type 0
HandsOutPrefix setting trace parse = IsPrefixOf setting.hold_size (taken trace) (handed_out trace) parse
