-- What a client reads: answers one after another, each with its body, and each to the method of its own request
-- (RFC 7230, sections 3.3 and 5.6).
use Rattle.std.specs.Prelude.{◌≡◌, ℕ, ◌+◌, Bool, false, not, ◌&&◌, List, [], ◌∷◌, drop, slice_range, nat_le, nat_lt, ◌==◌, if◌then◌else◌, Option, None, MatchOption}
use Rattle.model_h1.specs.HeadPiece.{IsHeadPiece, HasNoHeadPiece}
use Rattle.model_h1.specs.Parse.{Input, Body, no_content, next_start, IsBodyOf}
use Rattle.model_client.specs.AnswerTable.{body_to}
use Rattle.model_client.specs.AnswerReading.{AnswerReading, answer_is, refused, IsAnswerReadingWithin}

-- all bytes that came, whether the input has ended, and the most bytes that may be held, if there is such a limit
pub record Received : Type 0 where
  pub bytes : List ℕ
  pub ended : Bool
  pub hold_size : Option ℕ

-- bytes that go on, without a limit
abbrev pub so_far : List ℕ → Received
so_far bytes = record { bytes = bytes; ended = false; hold_size = None }

-- the same bytes as an input of bodies, none of which is frames
abbrev pub body_input : Received → Input
body_input r = record { bytes = r.bytes; upgraded = None; ended = r.ended; hold_size = 0 }

-- an answer with its body, whose first byte is at body_start
pub record AnswerMessage : Type 0 where
  pub reading : AnswerReading
  pub body_start : ℕ
  pub body : Body

-- the body that follows the head of an answer to this method; a head that was refused has none
abbrev pub IsAnswerBody : Received → List ℕ → AnswerReading → ℕ → Body → Type 0
IsAnswerBody r method (refused fault) place body = body ≡ no_content
IsAnswerBody r method (answer_is a) place body = IsBodyOf (body_input r) (body_to method a.body) place body

-- the answer at the place, to a request of this method
pub record IsAnswerAt (r : Received) (place : ℕ) (method : List ℕ) (m : AnswerMessage) : Type 0 where
  pub start : ℕ
  pub end : ℕ
  pub piece : IsHeadPiece (drop place r.bytes) start end
  pub body_start : m.body_start ≡ place + end
  pub reading : IsAnswerReadingWithin r.hold_size (slice_range (drop place r.bytes) start end) m.reading
  pub body : IsAnswerBody r method m.reading m.body_start m.body

-- a status after which the request still waits for its answer: 1xx, but for a 101 (RFC 7231, section 6.2)
abbrev pub is_interim : ℕ → Bool
is_interim status = nat_le 100 status && nat_lt status 200 && not (status == 101)

-- no status lets the request wait: each answer is counted
abbrev pub counts_each : ℕ → Bool
counts_each status = false

-- the methods that wait after this answer to the first of them, where a status of this test lets it wait on
abbrev pub left_waiting : (ℕ → Bool) → AnswerReading → List ℕ → List (List ℕ) → List (List ℕ)
left_waiting waits (answer_is a) method methods = if waits a.status then method ∷ methods else methods
left_waiting waits (refused fault) method methods = methods

-- the answers from the place on to requests of these methods, in their order, as far as the bytes reach
abbrev pub AreAnswersFrom : (ℕ → Bool) → Received → ℕ → List (List ℕ) → List AnswerMessage → Type 0
AreAnswersFrom waits r place [] ms = ms ≡ []
AreAnswersFrom waits r place (method ∷ methods) [] = HasNoHeadPiece (drop place r.bytes)
AreAnswersFrom waits r place (method ∷ methods) (m ∷ ms) =
    IsAnswerAt r place method m
    × MatchOption (next_start m.body) (ms ≡ []) (λ next. AreAnswersFrom waits r next (left_waiting waits m.reading method methods) ms)

-- the answers of all that was received
abbrev pub AreAnswersIn : (ℕ → Bool) → Received → List (List ℕ) → List AnswerMessage → Type 0
AreAnswersIn waits r methods ms = AreAnswersFrom waits r 0 methods ms

-- the same of bytes that go on, where each answer is counted
abbrev pub AreTheAnswers : List ℕ → List (List ℕ) → List AnswerMessage → Type 0
AreTheAnswers bytes methods ms = AreAnswersIn counts_each (so_far bytes) methods ms
