-- Answers are read in one way.
use Rattle.std.proofs.Common.{◌≡◌, ℕ, ◌+◌, Bool, false, List, [], ◌∷◌, drop, map, slice_range, Option, Some, None, MatchOption, refl, sym, ap, ◌∙◌, subst, subst₂, inl, inr, arith}
use Rattle.httparse.specs.Grammar.{ResponseHead, status_code, reason_phrase}
use Rattle.httparse.proofs.GrammarLemmas.{response_unique}
use Rattle.model_h1.specs.Request.{BodyKind, Head, head_is, keep_alive, malformed, too_large}
use Rattle.model_h1.specs.RequestHead.{header_of}
use Rattle.model_h1.specs.Parse.{Body, next_start}
use Rattle.model_h1.proofs.HeadPieceLemmas.{head_piece_unique}
use Rattle.model_h1.proofs.BodyLemmas.{body_unique}
use Rattle.model_client.specs.AnswerTable.{answer_kind, answer_connection, body_to}
use Rattle.model_client.specs.AnswerReading.{Answer, AnswerReading, answer_is, refused, IsTextOf, IsAnswerOf, IsAnswerReading, IsAnswerReadingWithin}
use Rattle.model_client.specs.AnswerParse.{Received, body_input, AnswerMessage, IsAnswerBody, IsAnswerAt, left_waiting, AreAnswersFrom}

-- ---- readings

-- a text is that of one head, for each of both readings
text_unique : (piece : List ℕ) (a b : Answer) → a.is_lax ≡ b.is_lax → IsTextOf piece a → IsTextOf piece b → a ≡ b
text_unique piece a b lax x y =
    let text = (response_unique piece x.text y.text _ _ x.reads y.reads).0 in
    let minor : a.minor ≡ b.minor = x.minor_is ∙ ap (λ (t : ResponseHead). t.minor) text ∙ sym y.minor_is in
    let status : a.status ≡ b.status = x.status_is.1 ∙ ap (λ (t : ResponseHead). status_code t) text ∙ sym y.status_is.1 in
    let reason : a.reason ≡ b.reason = x.reason_is ∙ ap (λ (t : ResponseHead). reason_phrase t.reason) text ∙ sym y.reason_is in
    let headers : a.headers ≡ b.headers = x.headers_are ∙ ap (λ (t : ResponseHead). map header_of t.fields) text ∙ sym y.headers_are in
    let body' : Some a.body ≡ Some b.body = sym x.body_is ∙ (λ i. answer_kind (minor i) (status i) (headers i)) ∙ y.body_is in
    let body : a.body ≡ b.body = cc in
    let connection : a.connection ≡ b.connection =
    x.connection_is ∙ (λ i. answer_connection (minor i) (status i) (headers i) (body i)) ∙ sym y.connection_is in
    λ i. record {
      minor = minor i;
      status = status i;
      reason = reason i;
      headers = headers i;
      body = body i;
      connection = connection i;
      is_lax = lax i;
    }

-- a piece is read as one head
pub answer_unique : (piece : List ℕ) (a b : Answer) → IsAnswerOf piece a → IsAnswerOf piece b → a ≡ b
answer_unique piece a b (inl x) (inl y) = text_unique piece a b (x.0 ∙ sym y.0) x.1 y.1
answer_unique piece a b (inl x) (inr y) = absurd (y.1 x.1.text x.1.reads)
answer_unique piece a b (inr x) (inl y) = absurd (x.1 y.1.text y.1.reads)
answer_unique piece a b (inr x) (inr y) = text_unique _ a b (x.0 ∙ sym y.0) x.2 y.2

-- a piece has one reading
pub answer_reading_unique : (piece : List ℕ) (a b : AnswerReading) → IsAnswerReading piece a → IsAnswerReading piece b → a ≡ b
answer_reading_unique piece (refused too_large) (refused too_large) x y = refl
answer_reading_unique piece (refused too_large) (refused malformed) x y = absurd (omega (arith, y.0))
answer_reading_unique piece (refused too_large) (answer_is k) x y = absurd (omega (arith, y.0))
answer_reading_unique piece (refused malformed) (refused too_large) x y = absurd (omega (arith, x.0))
answer_reading_unique piece (refused malformed) (refused malformed) x y = refl
answer_reading_unique piece (refused malformed) (answer_is k) x y = absurd (x.1 k y.1)
answer_reading_unique piece (answer_is h) (refused too_large) x y = absurd (omega (arith, x.0))
answer_reading_unique piece (answer_is h) (refused malformed) x y = absurd (y.1 h x.1)
answer_reading_unique piece (answer_is h) (answer_is k) x y = ap answer_is (answer_unique piece h k x.1 y.1)

-- and one within a limit
pub answer_within_unique : (limit : Option ℕ) (piece : List ℕ) (a b : AnswerReading) → IsAnswerReadingWithin limit piece a
    → IsAnswerReadingWithin limit piece b → a ≡ b
answer_within_unique None piece a b x y = answer_reading_unique piece a b x y
answer_within_unique (Some size) piece a b (inl x) (inl y) = answer_reading_unique piece a b x.1 y.1
answer_within_unique (Some size) piece a b (inl x) (inr y) = absurd (omega (arith, x.0, y.0))
answer_within_unique (Some size) piece a b (inr x) (inl y) = absurd (omega (arith, x.0, y.0))
answer_within_unique (Some size) piece a b (inr x) (inr y) = x.1 ∙ sym y.1

-- ---- bodies, as those of a request of this kind

-- a head with a body of this kind
abbrev pub of_kind : BodyKind → Head
of_kind kind = record { method = []; target = []; minor = 1; headers = []; body = kind; connection = keep_alive; expects = false }

-- after a reading there is one body
answer_body_unique : (r : Received) (method : List ℕ) (reading : AnswerReading) (place : ℕ) (a b : Body)
    → IsAnswerBody r method reading place a → IsAnswerBody r method reading place b → a ≡ b
answer_body_unique r method (refused fault) place a b x y = x ∙ sym y
answer_body_unique r method (answer_is h) place a b x y =
    body_unique (body_input r) (head_is (of_kind (body_to method h.body))) place a b x y

-- ---- answers

-- at one place there is one answer
answer_at_unique : (r : Received) (place : ℕ) (method : List ℕ) (m n : AnswerMessage)
    → IsAnswerAt r place method m → IsAnswerAt r place method n → m ≡ n
answer_at_unique r place method m n x y =
    let bytes = drop place r.bytes in
    let piece = head_piece_unique bytes x.start x.end y.start y.end x.piece y.piece in
    let body_start : m.body_start ≡ n.body_start = x.body_start ∙ ap (λ e. place + e) piece.1 ∙ sym y.body_start in
    let read = subst₂ (λ s e. IsAnswerReadingWithin r.hold_size (slice_range bytes s e) n.reading) (sym piece.0) (sym piece.1) y.reading in
    let reading = answer_within_unique r.hold_size (slice_range bytes x.start x.end) m.reading n.reading x.reading read in
    let there = subst₂ (λ k p. IsAnswerBody r method k p n.body) (sym reading) (sym body_start) y.body in
    let body = answer_body_unique r method m.reading m.body_start m.body n.body x.body there in
    λ j. record { reading = reading j; body_start = body_start j; body = body j }

-- what follows a body is one list, if that of the answers from each place on is
rest_unique : (waits : ℕ → Bool) (r : Received) (methods : List (List ℕ)) (next : Option ℕ) (ms ns : List AnswerMessage)
    → ((place : ℕ) → AreAnswersFrom waits r place methods ms → AreAnswersFrom waits r place methods ns → ms ≡ ns)
    → MatchOption next (ms ≡ []) (λ place. AreAnswersFrom waits r place methods ms)
    → MatchOption next (ns ≡ []) (λ place. AreAnswersFrom waits r place methods ns) → ms ≡ ns
rest_unique waits r methods None ms ns same x y = x ∙ sym y
rest_unique waits r methods (Some place) ms ns same x y = same place x y

-- from one place on there is one list of answers
pub answers_unique : (waits : ℕ → Bool) (r : Received) (place : ℕ) (methods : List (List ℕ)) (ms ns : List AnswerMessage)
    → AreAnswersFrom waits r place methods ms → AreAnswersFrom waits r place methods ns → ms ≡ ns
answers_unique waits r place [] ms ns x y = x ∙ sym y
answers_unique waits r place (method ∷ methods) [] [] x y = refl
answers_unique waits r place (method ∷ methods) [] (n ∷ ns) x y = absurd (x y.0.start y.0.end y.0.piece)
answers_unique waits r place (method ∷ methods) (m ∷ ms) [] x y = absurd (y x.0.start x.0.end x.0.piece)
answers_unique waits r place (method ∷ methods) (m ∷ ms) (n ∷ ns) x y =
    let first = answer_at_unique r place method m n x.0 y.0 in
    let there = subst (λ (k : AnswerMessage). MatchOption (next_start k.body) (ns ≡ []) (λ next. AreAnswersFrom waits r next (left_waiting waits k.reading method methods) ns))
    (sym first) y.1 in
    let left = left_waiting waits m.reading method methods in
    let others = rest_unique waits r left (next_start m.body) ms ns (λ next. answers_unique waits r next left ms ns) x.1 there in
    λ j. first j ∷ others j
