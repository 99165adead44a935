-- What a change adds to the text of an exchange.
use Rattle.std.proofs.Common.{◌≡◌, ℕ, ◌+◌, Bool, true, false, List, [], ◌∷◌, ◌++◌, length, reverse, flat_map, refl, sym, ap, ◌∙◌, arith, append_assoc, append-nil}
use Rattle.std.specs.Prelude.{if◌then◌else◌}
use Rattle.std.proofs.lemmas.Bool.{cond-false}
use Rattle.std.proofs.lemmas.List.{reverse-append}
use Rattle.std.proofs.lemmas.List.Concat.{flat_map-append}
use Rattle.model_h1.specs.Request.{Head}
use Rattle.model_h1.specs.Setting.{Setting}
use Rattle.model_h1.specs.Answer.{Asked, asked_of, size_stream, Shape, shape_of}
use Rattle.model_h1.specs.AnswerText.{sent_piece, sent_end, interim_text}
use Rattle.model_h1.specs.Handshake.{accept_key_of, accepting_head}
use Rattle.model_h1.specs.Frame.{Message}
use Rattle.model_h1.specs.Sums.{Answered}
use Rattle.model_h1.specs.Text.{answer_head_text, message_text}
use Rattle.model_h1.specs.Laws.Exchanges.{AnswerGiven, Session, Reply, no_reply, answer_given, session, Exchange, pieces_text, reply_text, exchange_text, newly_given, with_piece, with_end, with_sent, exchanges_text}

-- ---- exchanges in order

-- the newest text is the last
pub exchanges_text-cons : (setting : Setting) (e : Exchange) (es : List Exchange)
    → exchanges_text setting (e ∷ es) ≡ exchanges_text setting es ++ exchange_text setting e
exchanges_text-cons setting e es =
    let f = exchange_text setting in
    ap (flat_map f) (reverse-append (e ∷ []) es) ∙ flat_map-append f (reverse es) (e ∷ [])
    ∙ ap (λ (t : List ℕ). flat_map f (reverse es) ++ t) (append-nil (f e))

-- what is added to the newest text is added to all
pub newest_grows : (setting : Setting) (e new : Exchange) (es : List Exchange) (more : List ℕ)
    → exchange_text setting new ≡ exchange_text setting e ++ more
    → exchanges_text setting (new ∷ es) ≡ exchanges_text setting (e ∷ es) ++ more
newest_grows setting e new es more grows =
    let front = exchanges_text setting es in
    exchanges_text-cons setting new es ∙ ap (λ (t : List ℕ). front ++ t) grows ∙ sym (append_assoc front (exchange_text setting e) more)
    ∙ ap (λ (t : List ℕ). t ++ more) (sym (exchanges_text-cons setting e es))

-- ---- one exchange

-- a reply that grows
pub reply_grows : (setting : Setting) (e : Exchange) (reply : Reply) (more : List ℕ)
    → reply_text setting e.head reply ≡ reply_text setting e.head e.reply ++ more
    → exchange_text setting (record e { reply = reply }) ≡ exchange_text setting e ++ more
reply_grows setting e reply more grows =
    let front = if e.was_told then interim_text else [] in
    ap (λ (t : List ℕ). front ++ t) grows ∙ sym (append_assoc front (reply_text setting e.head e.reply) more)

-- the interim line, before a reply
pub told_grows : (setting : Setting) (e : Exchange) → e.was_told ≡ false → e.reply ≡ no_reply
    → exchange_text setting (record e { was_told = true }) ≡ exchange_text setting e ++ interim_text
told_grows setting e untold none =
    let text = λ (r : Reply). reply_text setting e.head r in
    let front : (if e.was_told then interim_text else []) ≡ [] = cond-false e.was_told interim_text [] untold in
    let before : exchange_text setting e ≡ [] =
    ap (λ (t : List ℕ). t ++ text e.reply) front ∙ ap text none in
    ap (λ (r : Reply). interim_text ++ text r) none ∙ append-nil interim_text ∙ ap (λ (t : List ℕ). t ++ interim_text) (sym before)

-- ---- one reply

-- the head of an answer
pub given_grows : (setting : Setting) (h : Head) (reply : Reply) (a : Answered) (moment : ℕ) → reply ≡ no_reply
    → reply_text setting h (newly_given a moment)
    ≡ reply_text setting h reply ++ answer_head_text setting a.drained (asked_of h) a.head a.size moment
unfolding pieces_text
given_grows setting h reply a moment none =
    let head = answer_head_text setting a.drained (asked_of h) a.head a.size moment in
    append-nil head ∙ ap (λ (r : Reply). reply_text setting h r ++ head) (sym none)

-- the head of a WebSocket's answer
pub session_grows : (setting : Setting) (h : Head) (reply : Reply) (drained : Bool) (moment : ℕ) → reply ≡ no_reply
    → reply_text setting h (session (record { drained = drained; moment = moment; sent = [] }))
    ≡ reply_text setting h reply ++ answer_head_text setting drained (asked_of h) (accepting_head (accept_key_of h)) size_stream moment
session_grows setting h reply drained moment none =
    let head = answer_head_text setting drained (asked_of h) (accepting_head (accept_key_of h)) size_stream moment in
    append-nil head ∙ ap (λ (r : Reply). reply_text setting h r ++ head) (sym none)

-- how many bytes the pieces have
abbrev pub pieces_len : List (List ℕ) → ℕ
pieces_len [] = 0
pieces_len (piece ∷ more) = length piece + pieces_len more

-- with one more
pub pieces_len-more : (pieces : List (List ℕ)) (piece : List ℕ) → pieces_len (pieces ++ piece ∷ []) ≡ length piece + pieces_len pieces
pieces_len-more [] piece = refl
pieces_len-more (p ∷ ps) piece = omega (arith, pieces_len-more ps piece)

-- the text of one more
pieces_text-more : (asked : Asked) (shape : Shape) (before : ℕ) (pieces : List (List ℕ)) (piece : List ℕ)
    → pieces_text asked shape before (pieces ++ piece ∷ [])
    ≡ pieces_text asked shape before pieces ++ sent_piece asked shape (before + pieces_len pieces) piece
unfolding pieces_text
pieces_text-more asked shape before [] piece =
    let none : before ≡ before + 0 = omega arith in
    append-nil (sent_piece asked shape before piece) ∙ ap (λ (n : ℕ). sent_piece asked shape n piece) none
pieces_text-more asked shape before (p ∷ ps) piece =
    let front = sent_piece asked shape before p in
    let behind = before + length p in
    let all : behind + pieces_len ps ≡ before + pieces_len (p ∷ ps) = omega arith in
    ap (λ (t : List ℕ). front ++ t)
    (pieces_text-more asked shape behind ps piece
    ∙ ap (λ (n : ℕ). pieces_text asked shape behind ps ++ sent_piece asked shape n piece) all)
    ∙ sym (append_assoc front (pieces_text asked shape behind ps) (sent_piece asked shape (before + pieces_len (p ∷ ps)) piece))

-- what is added in front of nothing is added at the end
before_nothing : (head front front' more last : List ℕ) → last ≡ [] → front' ≡ front ++ more
    → head ++ (front' ++ last) ≡ (head ++ (front ++ last)) ++ more
before_nothing head front front' more last none grows =
    ap (λ (l : List ℕ). head ++ (front' ++ l)) none ∙ ap (λ (l : List ℕ). head ++ l) (append-nil front' ∙ grows)
    ∙ sym (append_assoc head front more) ∙ ap (λ (l : List ℕ). (head ++ l) ++ more) (sym (append-nil front))
    ∙ ap (λ (l : List ℕ). (head ++ (front ++ l)) ++ more) (sym none)

-- a piece of an answer's body
pub piece_grows : (setting : Setting) (h : Head) (a : AnswerGiven) (bytes : List ℕ) → a.is_ended ≡ false
    → reply_text setting h (with_piece bytes (answer_given a))
    ≡ reply_text setting h (answer_given a)
    ++ sent_piece (asked_of h) (shape_of (asked_of h) a.answered.head a.answered.size) (pieces_len a.pieces) bytes
piece_grows setting h a bytes unended =
    let asked = asked_of h in
    let shape = shape_of asked a.answered.head a.answered.size in
    let zero : 0 + pieces_len a.pieces ≡ pieces_len a.pieces = omega arith in
    let head = answer_head_text setting a.answered.drained asked a.answered.head a.answered.size a.moment in
    before_nothing head (pieces_text asked shape 0 a.pieces) _ _ _
    (cond-false a.is_ended (sent_end asked shape) [] unended)
    (pieces_text-more asked shape 0 a.pieces bytes ∙ ap (λ (n : ℕ). pieces_text asked shape 0 a.pieces ++ sent_piece asked shape n bytes) zero)

-- the end of an answer's body
pub end_grows : (setting : Setting) (h : Head) (a : AnswerGiven) → a.is_ended ≡ false
    → reply_text setting h (with_end (answer_given a))
    ≡ reply_text setting h (answer_given a) ++ sent_end (asked_of h) (shape_of (asked_of h) a.answered.head a.answered.size)
end_grows setting h a unended =
    let asked = asked_of h in
    let shape = shape_of asked a.answered.head a.answered.size in
    let head = answer_head_text setting a.answered.drained asked a.answered.head a.answered.size a.moment in
    let front = pieces_text asked shape 0 a.pieces in
    let none = cond-false a.is_ended (sent_end asked shape) [] unended in
    sym (append_assoc head front (sent_end asked shape)) ∙ ap (λ (l : List ℕ). (head ++ l) ++ sent_end asked shape) (sym (append-nil front))
    ∙ ap (λ (l : List ℕ). (head ++ (front ++ l)) ++ sent_end asked shape) (sym none)

-- a message that is sent
pub sent_grows : (setting : Setting) (h : Head) (s : Session) (m : Message)
    → reply_text setting h (with_sent m (session s)) ≡ reply_text setting h (session s) ++ message_text m
sent_grows setting h s m =
    let head = answer_head_text setting s.drained (asked_of h) (accepting_head (accept_key_of h)) size_stream s.moment in
    ap (λ (l : List ℕ). head ++ l)
    (flat_map-append message_text s.sent (m ∷ []) ∙ ap (λ (l : List ℕ). flat_map message_text s.sent ++ l) (append-nil (message_text m)))
    ∙ sym (append_assoc head (flat_map message_text s.sent) (message_text m))
