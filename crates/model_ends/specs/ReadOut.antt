-- The bytes that a client has read, and what it handed out of them.
use Rattle.std.specs.Prelude.{◌≡◌, ℕ, Bool, false, List, [], ◌∷◌, ◌++◌, length, map, take, ⊤}
use Rattle.model_h1.specs.Handed.{item_bytes}
use Rattle.model_client.specs.AnswerReading.{answer_is}
use Rattle.model_client.specs.RequestText.{joined}
use Rattle.model_client.specs.ClientEvent as on
use Rattle.model_client.specs.ClientEvent.{ClientEvent, ClientOutcome}
use Rattle.model_client.specs.ClientTrace.{Happened}
use Rattle.model_ends.specs.SentAnswer.{SentAnswer}
use Rattle.model_client.specs.ReadOut.{ReadAnswer}
use Rattle.model_ends.specs.HandedBody.{IsHandedBody}

-- the bytes taken so far
abbrev pub taken_by : ClientEvent → ClientOutcome → List ℕ
taken_by (on.read bytes) (on.took n) = take n bytes
taken_by _ _ = []

unfoldable pub bytes_taken : List Happened → List ℕ
bytes_taken [] = []
bytes_taken (s ∷ before) = bytes_taken before ++ taken_by s.event s.outcome

-- ---- against what was sent

-- an answer is handed out as it was sent: its head, and its body as far as it came
pub record IsReadOut (has_ended : Bool) (a : ReadAnswer) (s : SentAnswer) : Type 0 where
  pub reading : a.reading ≡ answer_is s.answer
  pub body : IsHandedBody has_ended s.is_whole s.bytes a.items

-- so are the first of them, in their order
abbrev pub AreReadOut : Bool → List ReadAnswer → List SentAnswer → Type 0
AreReadOut has_ended [] ss = ⊤
AreReadOut has_ended (a ∷ outs) [] = ⊥
AreReadOut has_ended (a ∷ outs) (s ∷ ss) = IsReadOut has_ended a s × AreReadOut has_ended outs ss

-- The newest answer is the last that was sent, and its end wasn't sent yet; all bytes of its body that were are handed out.
pub record IsAllHanded (outs : List ReadAnswer) (ss : List SentAnswer) : Type 0 where
  pub newest : ReadAnswer
  pub older : List ReadAnswer
  pub outs_are : outs ≡ newest ∷ older
  pub front : List SentAnswer
  pub last : SentAnswer
  pub sent_are : ss ≡ front ++ last ∷ []
  pub as_many : length front ≡ length older
  pub pieces : List (List ℕ)
  pub items : newest.items ≡ map item_bytes pieces
  pub all : joined pieces ≡ last.bytes
  pub part : last.is_whole ≡ false

-- the last answer that was sent is still under way: its end wasn't sent
abbrev pub IsPartSent : List SentAnswer → Type 0
IsPartSent ss = (front : List SentAnswer) × (last : SentAnswer) × (ss ≡ front ++ last ∷ []) × (last.is_whole ≡ false)
