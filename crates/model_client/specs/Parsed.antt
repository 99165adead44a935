-- When what a client handed out is the beginning of the answers in all bytes that it took.
use Rattle.std.specs.Prelude.{◌≡◌, ℕ, ◌≤◌, Bool, true, false, ◌||◌, List, [], ◌∷◌, ◌++◌, length, take, drop, map, flat_map, reverse, Some, IsSome, unwrap_or, ⊤}
use Rattle.model_h1.specs.HeadPiece.{HasNoHeadPiece}
use Rattle.model_h1.specs.Request.{too_large}
use Rattle.model_h1.specs.Setting.{Setting}
use Rattle.model_h1.specs.Parse.{next_start}
use Rattle.model_h1.specs.Handed.{item_bytes, AreItemsOf, body_bytes, last_items}
use Rattle.model_client.specs.AnswerReading.{refused}
use Rattle.model_client.specs.AnswerParse.{Received, AnswerMessage, is_interim, AreAnswersIn}
use Rattle.model_client.specs.ClientEvent as on
use Rattle.model_client.specs.ClientEvent.{ClientEvent}
use Rattle.model_client.specs.ClientTrace.{Happened, taken, requests_of}
use Rattle.model_client.specs.ReadOut.{ReadAnswer, newly_read, ReadOut, read_out}

-- ---- what a client received, and asked

-- the input ends with this event
abbrev pub ends_input : ClientEvent → Bool
ends_input on.eof = true
ends_input _ = false

-- the input has ended
abbrev pub has_ended : List Happened → Bool
has_ended [] = false
has_ended (s ∷ before) = ends_input s.event || has_ended before

-- all bytes that were taken, whether the input has ended, and how many bytes may be held
abbrev pub received_of : Setting → List Happened → Received
received_of setting trace = record { bytes = taken trace; ended = has_ended trace; hold_size = Some setting.hold_size }

-- the methods of all requests, in the order in which they were asked
abbrev pub methods_of : List Happened → List (List ℕ)
methods_of trace = map (λ w. w.method) (requests_of trace)

-- The answers in all bytes that were taken, each to its own request: an interim one leaves its request waiting.
abbrev pub AreAnswersTaken : Setting → List Happened → List AnswerMessage → Type 0
AreAnswersTaken setting trace ms = AreAnswersIn is_interim (received_of setting trace) (methods_of trace) ms

-- ---- against them

-- What was handed out of an answer is its own: the same head, or what is wrong with it, and items of its body. These are
-- pieces of the body's bytes, in order, and behind all of them its trailers and its end, or its fault.
pub record IsReadOf (taken : List ℕ) (h : ReadAnswer) (m : AnswerMessage) : Type 0 where
  pub reading : h.reading ≡ m.reading
  pub items : AreItemsOf taken m.body h.items

-- an answer after which others were handed out has ended
abbrev pub IsLastOrEnded : AnswerMessage → List ReadAnswer → Type 0
IsLastOrEnded m [] = ⊤
IsLastOrEnded m (next ∷ more) = IsSome (next_start m.body)

-- One last refusal may stand after them: as many bytes as may be held hold no whole head.
abbrev pub IsOversized : ℕ → List ℕ → List ReadAnswer → Type 0
IsOversized hold_size bytes [] = ⊤
IsOversized hold_size bytes (h ∷ []) = (h ≡ newly_read (refused too_large)) × (hold_size ≤ length bytes) × HasNoHeadPiece (take hold_size bytes)
IsOversized hold_size bytes (h ∷ second ∷ more) = ⊥

-- What was handed out, the oldest first, is the beginning of these answers, of which the first starts at the place.
abbrev pub IsPrefixFrom : ℕ → List ℕ → ℕ → List ReadAnswer → List AnswerMessage → Type 0
IsPrefixFrom hold_size bytes place handed [] = IsOversized hold_size (drop place bytes) handed
IsPrefixFrom hold_size bytes place [] (m ∷ ms) = ⊤
IsPrefixFrom hold_size bytes place (h ∷ hs) (m ∷ ms) =
    IsReadOf bytes h m × IsLastOrEnded m hs × IsPrefixFrom hold_size bytes (unwrap_or (next_start m.body) place) hs ms

-- the same of all that was handed out, with no item that has no answer
abbrev pub IsPrefixOf : ℕ → List ℕ → ReadOut → List AnswerMessage → Type 0
IsPrefixOf hold_size bytes out ms = (out.stray ≡ []) × IsPrefixFrom hold_size bytes 0 (reverse out.answers) ms

-- all that was handed out is the beginning of these answers
abbrev pub ReadsPrefix : Setting → List Happened → List AnswerMessage → Type 0
ReadsPrefix setting trace ms = IsPrefixOf setting.hold_size (taken trace) (read_out trace) ms

-- ---- all of them

-- The newest answer is the last of these. All bytes of its body that were taken are handed out, and nothing follows them yet.
pub record IsNewestHanded (taken : List ℕ) (outs : List ReadAnswer) (ms : List AnswerMessage) : Type 0 where
  pub newest : ReadAnswer
  pub older : List ReadAnswer
  pub outs_are : outs ≡ newest ∷ older
  pub front : List AnswerMessage
  pub last : AnswerMessage
  pub are : ms ≡ front ++ last ∷ []
  pub as_many : length front ≡ length older
  pub pieces : List (List ℕ)
  pub items : newest.items ≡ map item_bytes pieces
  pub all : flat_map (λ piece. piece) pieces ≡ body_bytes taken last.body
  pub goes_on : last_items last.body ≡ []
