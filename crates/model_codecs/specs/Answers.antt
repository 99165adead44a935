-- Answers that a server sent, and what a client's codecs give of them.
use Rattle.std.specs.Prelude.{◌≡◌, ⊤, ℕ, suc, ◌≤◌, Bool, true, List, [], ◌∷◌, ◌++◌, map, codes, bytes_eq, Option, Some, None, Result, Ok, Err}
use Rattle.std.specs.List.{AllByRecursion}
use Rattle.http_types.specs.declared.error.ParseError.{ParseError}
use Rattle.model_ends.specs.SentAnswer.{SentAnswer}
use Rattle.h1_decoder.specs.ResponseItem.{SaysAnswer}
use Rattle.h1_decoder.specs.declared.response.ResponseItem.{ResponseItem}
use Rattle.h1_codec.specs.Heads.{waits}
use Rattle.h1_codec.specs.Kinds.{answers}
use Rattle.h1_codec.specs.FramedMessages.{no_part, Standing}
use Rattle.h1_codec.specs.declared.framed_message.Message.{Message}
use Rattle.h1_codec.specs.declared.framed_message.Message.TheVariants.{Item}
use Rattle.h1_codec.specs.ClientPieces.{as_head, as_chunk}
use Rattle.h1_codec.specs.declared.client_error.ClientError.{ClientError}
use Rattle.h1_codec.specs.declared.client_error.ClientError.TheVariants.{Parse, Misplaced}
use Rattle.model_codecs.specs.Acts.{Act, asked, bytes_came, all_told, HaveNoFault, IsRun}
use Rattle.model_codecs.specs.Given.{Sent, part_of, AreGiven}

-- ---- what the codecs answer, as items of messages

-- The answer of the codec of heads, and of that of bodies. That the other codec reads what comes next is no answer.
abbrev pub IsHeadAsked : Result (Option ResponseItem) ClientError → Result (Option (Message ResponseItem)) ParseError → Type 0
IsHeadAsked (Ok answer) item = item ≡ Ok (as_head answer)
IsHeadAsked (Err (Parse e)) item = item ≡ Err e
IsHeadAsked (Err Misplaced) item = ⊥

abbrev pub IsChunkAsked : Result (Option (Option (List ℕ))) ClientError → Result (Option (Message ResponseItem)) ParseError → Type 0
IsChunkAsked (Ok answer) item = item ≡ Ok (as_chunk answer)
IsChunkAsked (Err (Parse e)) item = item ≡ Err e
IsChunkAsked (Err Misplaced) item = ⊥

-- ---- turns

-- the method is HEAD, to which an answer has no body (RFC 7231, section 4.3.2)
abbrev pub is_head : List ℕ → Bool
is_head method = bytes_eq method (codes "HEAD")

-- A request by this method is written, and then bytes come and items are asked for, up to the next request; and where that left
-- the codecs.
pub record Turn : Type 0 where
  pub method : List ℕ
  pub acts : List (Act ResponseItem)
  pub standing : Standing
  pub rest : List ℕ

-- how many heads are given
abbrev pub heads_given : {I : Type 0} → List (Act I) → ℕ
heads_given [] = 0
heads_given (asked (Ok (Some (Item i))) ∷ acts) = suc (heads_given acts)
heads_given (act ∷ acts) = heads_given acts

-- Each turn goes on where the one before it ended, and one answer is read in it at most. The next one begins once that is read to
-- its end: its head was given, and no body is open.
abbrev pub AreTurns : Standing → List ℕ → List Turn → Type 0
AreTurns standing left [] = ⊤
AreTurns standing left (t ∷ []) = IsRun answers (is_head t.method) standing left t.acts t.standing t.rest × (heads_given t.acts ≤ 1)
AreTurns standing left (t ∷ next ∷ turns) =
    IsRun answers (is_head t.method) standing left t.acts t.standing t.rest × (heads_given t.acts ≡ 1) × (t.standing.body ≡ None)
    × AreTurns t.standing t.rest (next ∷ turns)

-- all bytes that came
abbrev pub all_came : List Turn → List ℕ
all_came [] = []
all_came (t ∷ turns) = bytes_came t.acts ++ all_came turns

-- each answer is to the request of its turn
abbrev pub AreToTurns : List SentAnswer → List Turn → Type 0
AreToTurns [] turns = ⊤
AreToTurns ss [] = ⊤
AreToTurns (s ∷ ss) (t ∷ turns) = (s.method ≡ t.method) × AreToTurns ss turns

-- ---- what is given

-- an answer as a message that was sent
abbrev pub answer_of : SentAnswer → Sent answers
answer_of s = record { head = s.head; body = s.body; says = s.answer; bytes = s.bytes }

-- the turn gives the answer and nothing else: its head as it was sent, all bytes of its body, and the end of that
pub record IsRead (s : SentAnswer) (t : Turn) : Type 0 where
  pub item : ResponseItem
  pub says : SaysAnswer item s.answer
  pub are : all_told t.acts ≡ record { part = no_part; messages = (item, part_of answers (is_head t.method) (answer_of s)) ∷ []; stop = waits }
  pub no_fault : HaveNoFault t.acts

-- Each turn gives its own answer, whole, and the newest one as much of its answer as came.
abbrev pub AreRead : List SentAnswer → List Turn → List ℕ → Type 0
AreRead ss [] more = ⊤
AreRead ss (t ∷ []) more = AreGiven answers (is_head t.method) (map answer_of ss) t.acts more
AreRead [] (t ∷ next ∷ turns) more = ⊥
AreRead (s ∷ ss) (t ∷ next ∷ turns) more = IsRead s t × AreRead ss (next ∷ turns) more

-- all of each answer was sent
abbrev pub AreAllWhole : List SentAnswer → Type 0
AreAllWhole ss = AllByRecursion (λ s. s.is_whole ≡ true) ss
