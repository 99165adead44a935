-- What the parse of all bytes has of each message, as a codec may give it, and what was given of that.
use Rattle.std.specs.Prelude.{◌≡◌, ◌⊎◌, ⊤, ℕ, ◌<◌, Bool, true, false, List, [], ◌∷◌, ◌++◌, drop, slice_range, Option, Some, None, Result, Ok, Err}
use Rattle.http_types.specs.declared.error.ParseError.{ParseError}
use Rattle.http_types.specs.declared.error.ParseError.TheVariants.{Chunk as broken_chunk}
use Rattle.model_h1.specs.HeadPiece.{IsHeadPiece, HasNoHeadPiece}
use Rattle.model_h1.specs.Request.{Fault, too_large, Head, Reading, head_is, faulty, has_body}
use Rattle.model_h1.specs.Parse as parse
use Rattle.model_h1.specs.Parse.{Message, Body}
use Rattle.model_h1.specs.Handed.{body_bytes, Begins}
use Rattle.model_h1.specs.Reading.{Ending}
use Rattle.model_h1.specs.Reading as reading
use Rattle.model_client.specs.AnswerParse.{AnswerMessage}
use Rattle.model_client.specs.AnswerReading.{Answer, AnswerReading, answer_is, refused}
use Rattle.h1_decoder.specs.Refusal.{UnlessNoMemory, fault_of}
use Rattle.h1_payload.specs.Decoding.{Decoding, reading_of}
use Rattle.h1_codec.specs.Kind.{says_head, says_fault, Kind}
use Rattle.h1_codec.specs.Heads.{HasSeen, payload_of, IsTooLong, waits}
use Rattle.h1_codec.specs.FramedMessages.{Closing, no_end, an_end, a_fault, never_said, Part, no_part, closing_of, body_of, After, Standing}
use Rattle.model_codecs.specs.Acts.{Act, comes, asked, all_told, EndsWaiting}
use Rattle.model_codecs.specs.Given.{kind_to}

-- ---- a server's parse

-- what follows the bytes of a body that stops so; none is cut, since more bytes may come
abbrev pub closing_at : parse.Stop → Closing
closing_at (parse.ended_at place trailers) = an_end
closing_at parse.still_open = no_end
closing_at parse.broken = a_fault
closing_at parse.cut = no_end

abbrev pub closing_in : Body → Closing
closing_in parse.no_content = no_end
closing_in (parse.content runs stop) = closing_at stop
closing_in (parse.frames placed fail) = no_end

-- all bytes of the body that came, and what follows them; where the head has no body, nothing
abbrev pub part_in : Bool → List ℕ → Body → Part
part_in true bytes body = record { bytes = body_bytes bytes body; closing = closing_in body }
part_in false bytes body = no_part

-- the heads up to the first that is refused, each with its body
abbrev pub heard_first : List ℕ → Reading → Body → List (Head × Part) → List (Head × Part)
heard_first bytes (head_is h) body others = (h, part_in (has_body h.body) bytes body) ∷ others
heard_first bytes (faulty fault) body others = []

abbrev pub heard : List ℕ → List Message → List (Head × Part)
heard bytes [] = []
heard bytes (m ∷ ms) = heard_first bytes m.reading m.body (heard bytes ms)

-- why that one is refused, if one is
abbrev pub refusal_first : Reading → Option Fault → Option Fault
refusal_first (head_is h) others = others
refusal_first (faulty fault) others = Some fault

abbrev pub refusal : List Message → Option Fault
refusal [] = None
refusal (m ∷ ms) = refusal_first m.reading (refusal ms)

-- ---- a client's parse

-- the same of answers, to requests of a method to which none has a body, or each as its head says
abbrev pub heard_answer : Bool → List ℕ → AnswerReading → Body → List (Answer × Part) → List (Answer × Part)
heard_answer is_bare bytes (answer_is a) body others = (a, part_in (has_body (kind_to is_bare a.body)) bytes body) ∷ others
heard_answer is_bare bytes (refused fault) body others = []

abbrev pub heard_answers : Bool → List ℕ → List AnswerMessage → List (Answer × Part)
heard_answers is_bare bytes [] = []
heard_answers is_bare bytes (m ∷ ms) = heard_answer is_bare bytes m.reading m.body (heard_answers is_bare bytes ms)

abbrev pub answer_refused : AnswerReading → Option Fault → Option Fault
answer_refused (answer_is a) others = others
answer_refused (refused fault) others = Some fault

abbrev pub answer_refusal : List AnswerMessage → Option Fault
answer_refusal [] = None
answer_refusal (m ∷ ms) = answer_refused m.reading (answer_refusal ms)

-- no body is open, these bytes are left, and heads end within so many bytes
pub record IsIdle (standing : Standing) (limit : ℕ) (left : List ℕ) : Type 0 where
  pub body : standing.body ≡ None
  pub limit_is : standing.search.limit ≡ limit
  pub seen : (bytes : List ℕ) → HasSeen standing.search (left ++ bytes)

-- ---- against what bytes say

-- what bytes say of a body, without its trailers
abbrev pub part_read : reading.Reading → Part
part_read r = record { bytes = r.body; closing = closing_of r.ending }

-- the same, if one is open, and what follows goes on after its end
abbrev pub IsHeardPart : Option Decoding → List ℕ → Part → (List ℕ → Type 0) → Type 0 → Type 0
IsHeardPart None bytes part goes stays = (part ≡ no_part) × goes bytes
IsHeardPart (Some d) bytes part goes stays =
    (part ≡ part_read (reading_of d.rest bytes)) × After (reading_of d.rest bytes).ending goes stays

-- of a body all is given that can be: its bytes, and its end; that it is broken is an error, and no item
abbrev pub given_closing : Closing → Closing
given_closing a_fault = no_end
given_closing closing = closing

abbrev pub all_given : Part → Part
all_given part = record { bytes = part.bytes; closing = given_closing part.closing }

-- each error but that memory ran out has this cause
abbrev pub HaveCauses : {I : Type 0} → (ParseError → Type 0) → List (Act I) → Type 0
HaveCauses P [] = ⊤
HaveCauses P (comes bytes ∷ acts) = HaveCauses P acts
HaveCauses P (asked (Ok item) ∷ acts) = HaveCauses P acts
HaveCauses P (asked (Err e) ∷ acts) = UnlessNoMemory e (P e) × HaveCauses P acts

module _ {I : Type 0} (k : Kind I) (is_bare : Bool) (limit : ℕ) where
  -- Each head is the next of the bytes, and behind it stands its body. Behind the last that is heard no head is whole yet, or it is
  -- refused, as one that is longer than the limit is.
  abbrev pub AreHeard : List ℕ → List (k.Head × Part) → Option Fault → Type 0
  AreHeard bytes [] None = HasNoHeadPiece bytes
  AreHeard bytes [] (Some fault) =
      (start end : ℕ) × IsHeadPiece bytes start end × (((limit < end) × (fault ≡ too_large)) ⊎ k.reads (slice_range bytes start end) (says_fault fault))
  AreHeard bytes (h ∷ hs) stop =
      (start end : ℕ) × IsHeadPiece bytes start end × k.reads (slice_range bytes start end) (says_head h.0)
      × IsHeardPart (body_of is_bare (payload_of (k.body h.0))) (drop end bytes) h.1 (λ left. AreHeard left hs stop) ((hs ≡ []) × (stop ≡ None))

  -- ---- what was given of it

  -- all of a body, and then these messages; or only the first of its bytes, and none
  abbrev pub IsGivenOf : Part → Part → (List (I × Part) → Type 0) → List (I × Part) → Type 0
  IsGivenOf part all Others others =
      ((part ≡ all_given all) × Others others) ⊎ ((part.closing ≡ no_end) × Begins part.bytes all.bytes × (others ≡ []))

  -- the first messages are given, in order: each head, the bytes of its body, and its end; of the newest perhaps only the first
  -- bytes
  abbrev pub AreFirstOf : List (I × Part) → List (k.Head × Part) → Type 0
  AreFirstOf [] hs = ⊤
  AreFirstOf (m ∷ ms) [] = ⊥
  AreFirstOf (m ∷ ms) (h ∷ hs) = k.says m.0 h.0 × IsGivenOf m.1 h.1 (λ others. AreFirstOf others hs) ms

  -- these are given, all of each
  abbrev pub AreAllOf : List (I × Part) → List (k.Head × Part) → Type 0
  AreAllOf [] [] = ⊤
  AreAllOf (m ∷ ms) (h ∷ hs) = k.says m.0 h.0 × (m.1 ≡ all_given h.1) × AreAllOf ms hs
  AreAllOf ms hs = ⊥

  -- the last body is broken
  abbrev pub EndsBroken : List (k.Head × Part) → Type 0
  EndsBroken [] = ⊥
  EndsBroken (h ∷ []) = h.1.closing ≡ a_fault
  EndsBroken (h ∷ next ∷ hs) = EndsBroken (next ∷ hs)

  -- Why an error is answered: all was given, and then the last body is broken, or the next head is refused for the fault that the
  -- error names. Or behind what was given as many bytes as the limit are left, in which no head ends.
  abbrev pub IsCauseOf : List ℕ → ParseError → List (I × Part) → List (k.Head × Part) → Option Fault → Type 0
  IsCauseOf left error ms hs stop =
      (AreAllOf ms hs × (((error ≡ broken_chunk) × EndsBroken hs) ⊎ (stop ≡ Some (fault_of error))))
      ⊎ ((front behind : List (k.Head × Part)) × (hs ≡ front ++ behind) × AreAllOf ms front × IsTooLong limit left × (fault_of error ≡ too_large))

  -- What was given is the beginning of what is heard, and nothing else; these bytes are left unread. Where all bytes came and there
  -- was no further item, it is all of that, and nothing is refused.
  pub record AreGivenOf (hs : List (k.Head × Part)) (stop : Option Fault) (acts : List (Act I)) (more left : List ℕ) : Type 0 where
    pub messages : List (I × Part)
    pub are : all_told acts ≡ record { part = no_part; messages = messages; stop = waits }
    pub first : AreFirstOf messages hs
    pub causes : HaveCauses (λ e. IsCauseOf left e messages hs stop) acts
    pub all : more ≡ [] → EndsWaiting acts → AreAllOf messages hs × (stop ≡ None) × ¬ (EndsBroken hs)
