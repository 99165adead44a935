-- What is heard of a client's parse is what its bytes say.
use Rattle.std.proofs.Common.{◌≡◌, ◌⊎◌, inl, inr, ℕ, zero, suc, ◌+◌, ◌-◌, ◌<◌, ◌≤◌, cond, Bool, true, false, List, [], ◌∷◌, length, drop, replicate, slice_range, refl, sym, ap, ◌∙◌, subst, subst₂, arith, length-drop}
use Rattle.std.specs.Prelude.{Option, Some, None, MatchOption}
use Rattle.std.proofs.lemmas.List.{drop-drop, length-take}
use Rattle.model_h1.specs.Request.{BodyKind, no_body, has_body, Fault, too_large}
use Rattle.model_h1.specs.Parse.{Body, IsBodyOf, next_start}
use Rattle.model_client.specs.AnswerParse.{Received, AnswerMessage, counts_each, left_waiting, IsAnswerBody, AreAnswersFrom}
use Rattle.model_client.specs.AnswerReading.{AnswerReading, answer_is, refused, IsAnswerReadingWithin}
use Rattle.h1_payload.specs.Decoding.{Decoding}
use Rattle.h1_codec.specs.Heads.{payload_of}
use Rattle.h1_codec.specs.Kinds.{answers}
use Rattle.h1_codec.specs.FramedMessages.{body_of}
use Rattle.model_codecs.specs.Answers.{is_head}
use Rattle.model_codecs.specs.Given.{kind_to}
use Rattle.model_codecs.specs.Heard.{part_in, heard_answer, heard_answers, answer_refused, answer_refusal, IsHeardPart, AreHeard}
use Rattle.model_codecs.proofs.ParseHeard.{all_so_far, body_heard, some_left}

-- to HEAD there is no body
kind_is : (b : Bool) (kind : BodyKind) → cond b no_body kind ≡ kind_to b kind
kind_is true kind = refl
kind_is false kind = refl

opens : (b : Bool) (kind : BodyKind) → body_of false (payload_of (kind_to b kind)) ≡ body_of b (payload_of kind)
opens true kind = refl
opens false kind = refl

module _ (bytes : List ℕ) (limit : ℕ) (method : List ℕ) where
  -- more bytes may come
  abbrev pub received : Received
  received = record { bytes = bytes; ended = false; hold_size = Some limit }

  abbrev Heard : ℕ → List AnswerMessage → Type 0
  Heard place ms = AreHeard answers (is_head method) limit (drop place bytes) (heard_answers (is_head method) bytes ms) (answer_refusal ms)

  pub answers_heard : (place count : ℕ) (ms : List AnswerMessage) → length ms < count → AreAnswersFrom counts_each received place (replicate count method) ms
      → Heard place ms
  answers_heard place zero ms few are = absurd (omega (arith, few))
  answers_heard place (suc count) [] few none = none
  answers_heard place (suc count) (m ∷ ms) few (x, on) =
      by_reading (λ n are. answers_heard n count ms (omega (arith, few)) are) m.reading m.body x.reading x.body on
    where
      here : m.body_start ≤ length bytes
      here = omega (arith, x.body_start, x.piece.in_range, length-drop place bytes, some_left bytes 0 place x.start x.end x.piece)

      behind : drop m.body_start bytes ≡ drop x.end (drop place bytes)
      behind = ap (λ (n : ℕ). drop n bytes) x.body_start ∙ sym (drop-drop x.end place bytes)

      -- what follows, heard
      others : ((n : ℕ) → AreAnswersFrom counts_each received n (replicate count method) ms → Heard n ms)
          → (next : Option ℕ) → MatchOption next (ms ≡ []) (λ n. AreAnswersFrom counts_each received n (replicate count method) ms)
          → MatchOption next ((heard_answers (is_head method) bytes ms ≡ []) × (answer_refusal ms ≡ None)) (λ n. Heard n ms)
      others go None none = (ap (heard_answers (is_head method) bytes) none, ap answer_refusal none)
      others go (Some n) are = go n are

      by_reading : ((n : ℕ) → AreAnswersFrom counts_each received n (replicate count method) ms → Heard n ms)
          → (r : AnswerReading) (body : Body) → IsAnswerReadingWithin (Some limit) (slice_range (drop place bytes) x.start x.end) r
          → IsAnswerBody received method r m.body_start body
          → MatchOption (next_start body) (ms ≡ []) (λ n. AreAnswersFrom counts_each received n (left_waiting counts_each r method (replicate count method)) ms)
          → AreHeard answers (is_head method) limit (drop place bytes) (heard_answer (is_head method) bytes r body (heard_answers (is_head method) bytes ms))
          (answer_refused r (answer_refusal ms))
      by_reading go (answer_is a) body (inl (fits, reads)) is next =
          let kind = kind_to (is_head method) a.body in
          let framed : IsBodyOf (all_so_far bytes 0) kind m.body_start body =
          subst (λ (y : BodyKind). IsBodyOf (all_so_far bytes 0) y m.body_start body) (kind_is (is_head method) a.body) is in (
            x.start,
            x.end,
            x.piece,
            reads,
            subst₂
                (λ (d : Option Decoding) (l : List ℕ). IsHeardPart d l (part_in (has_body kind) bytes body)
                (λ left. AreHeard answers (is_head method) limit left (heard_answers (is_head method) bytes ms) (answer_refusal ms))
                ((heard_answers (is_head method) bytes ms ≡ []) × (answer_refusal ms ≡ None)))
                (opens (is_head method) a.body) behind
                (body_heard bytes 0 ((heard_answers (is_head method) bytes ms ≡ []) × (answer_refusal ms ≡ None))
                (λ left. AreHeard answers (is_head method) limit left (heard_answers (is_head method) bytes ms) (answer_refusal ms)) m.body_start
                kind body here framed (others go (next_start body) next)),
          )
      by_reading go (answer_is a) body (inr (long, is_large)) is next = absurd (cc is_large)
      by_reading go (refused fault) body (inl (fits, reads)) is next = (x.start, x.end, x.piece, inr reads)
      by_reading go (refused fault) body (inr (long, is_large)) is next =
          let named : fault ≡ too_large = cc is_large in
          (x.start, x.end, x.piece, inl (omega (arith, long, length-take (x.end - x.start) (drop x.start (drop place bytes))), named))
