-- Answers that were sent one after another are read as they were sent.
use Rattle.std.proofs.Common.{◌≡◌, ℕ, ◌+◌, ◌-◌, ◌≤◌, Bool, true, false, List, [], ◌∷◌, ◌++◌, length, take, drop, slice_range, Option, Some, None, MatchOption, refl, sym, ap, ◌∙◌, subst, arith, append-nil, append_assoc, length-append, length-drop, inl}
use Rattle.std.proofs.Math.Seq.{take-append_seam}
use Rattle.std.proofs.lemmas.List.{drop_at, length-map, length-take}
use Rattle.std.proofs.lemmas.Slice.{between_is}
use Rattle.httparse.specs.Grammar.{print_response, print_blank}
use Rattle.model_h1.specs.Runs.{Run}
use Rattle.model_h1.proofs.BlankLemmas.{ends_blank_long}
use Rattle.model_h1.specs.HeadPiece.{IsHeadPiece, HasNoHeadPiece, header_lines}
use Rattle.model_h1.specs.RequestHead.{header_of}
use Rattle.model_h1.specs.Parse.{content as body_content, Stop, next_start}
use Rattle.model_h1.proofs.BodyLemmas.{input}
use Rattle.model_client.specs.AnswerTable.{body_to}
use Rattle.model_client.specs.AnswerReading.{AnswerReading, answer_is, IsTextOf, IsAnswerReading, IsAnswerReadingWithin}
use Rattle.model_client.specs.AnswerParse.{Received, AnswerMessage, IsAnswerAt, left_waiting, AreAnswersFrom}
use Rattle.model_client.proofs.AnswerGrowth.{received}
use Rattle.model_client.proofs.AnswerLemmas.{answers_unique}
use Rattle.model_ends.specs.SentAnswer.{SentAnswer, IsSent, AreSent, AreHeld, sent_text, stop_of, AreTo, IsReadAs, AreReadAs}
use Rattle.model_h1.proofs.LineFeeds.{feeds, feeds-response}
use Rattle.model_ends.proofs.HeadText.{response_is_piece}
use Rattle.model_ends.proofs.SentBodies.{Stands, sent_stands}

-- ---- one answer

-- one answer is held where all are
abbrev pub IsHeld : Option ℕ → SentAnswer → Type 0
IsHeld None s = Unit {0}
IsHeld (Some size) s = length s.head ≤ size

pub first_held : (limit : Option ℕ) (s : SentAnswer) (ss : List SentAnswer) → AreHeld limit (s ∷ ss) → IsHeld limit s
first_held None s ss held = tt
first_held (Some size) s ss held = held.0

pub others_held : (limit : Option ℕ) (s : SentAnswer) (ss : List SentAnswer) → AreHeld limit (s ∷ ss) → AreHeld limit ss
others_held None s ss held = tt
others_held (Some size) s ss held = held.1

-- a piece that is held is read as it is without a limit
read_within : (limit : Option ℕ) (s : SentAnswer) (r : AnswerReading) → IsHeld limit s → IsAnswerReading s.head r → IsAnswerReadingWithin limit s.head r
read_within None s r held x = x
read_within (Some size) s r held x = inl (held, x)

module _ (ended : Bool) (limit : Option ℕ) (front rest : List ℕ) (s : SentAnswer) (sent : IsSent s) (held : IsHeld limit s) (last : s.is_whole ≡ false → rest ≡ []) where
  abbrev pub bytes : List ℕ
  bytes = front ++ (s.head ++ (s.body ++ rest))

  text_is : s.head ≡ print_response sent.back.head
  text_is = sent.back.reads.1 ∙ append-nil (print_response sent.back.head)

  few_lines : header_lines s.head ≤ 96
  few_lines =
      let h = sent.back.head in
      omega (
        arith,
        ap header_lines text_is,
        feeds-response h sent.back.reads.0,
        ap (λ b. feeds (print_blank b)) sent.back.blank,
        ap length sent.back.lines_are,
        length-map h.fields header_of,
        sent.few,
      )

  head_piece : IsHeadPiece (drop (length front) bytes) 0 (length s.head)
  head_piece =
      subst (λ t. IsHeadPiece t 0 (length s.head)) (sym (drop_at front (s.head ++ (s.body ++ rest)) (length front) refl))
      (subst (λ t. IsHeadPiece (t ++ (s.body ++ rest)) 0 (length t)) (sym text_is) (response_is_piece sent.back.head (s.body ++ rest) sent.back.reads.0 sent.back.blank))

  head_slice : slice_range (drop (length front) bytes) 0 (length s.head) ≡ s.head
  head_slice =
      between_is (drop (length front) bytes) 0 (length s.head)
      ∙ ap (take (length s.head)) (drop_at front (s.head ++ (s.body ++ rest)) (length front) refl)
      ∙ take-append_seam s.head (s.body ++ rest)

  is_answer : IsTextOf s.head s.answer
  is_answer = record {
    text = sent.back.head;
    reads = sent.back.reads;
    minor_is = sym sent.back.minor_is;
    status_is = (subst (λ n. 100 ≤ n) (sym sent.back.status_is) sent.status, sym sent.back.status_is);
    reason_is = sym sent.back.reason_is;
    fields = sent.back.fields;
    headers_are = sym sent.back.lines_are;
    body_is = sent.framed;
    connection_is = sent.connection;
  }

  abbrev pub stop : Stop
  stop = stop_of s.is_whole ended (length front + length s.head + length s.body)

  pub stands : Stands (input bytes None ended 0) (body_to s.method s.answer.body) (length front + length s.head) stop s.bytes
  stands =
      let place : length (front ++ s.head) ≡ length front + length s.head = length-append front s.head in
      let regrouped : (front ++ s.head) ++ (s.body ++ rest) ≡ bytes = append_assoc front s.head (s.body ++ rest) in
      subst (λ n. Stands (input bytes None ended 0) (body_to s.method s.answer.body) n (stop_of s.is_whole ended (n + length s.body)) s.bytes) place
      (subst (λ t. Stands (input t None ended 0) (body_to s.method s.answer.body) (length (front ++ s.head)) (stop_of s.is_whole ended (length (front ++ s.head) + length s.body)) s.bytes) regrouped
      (sent_stands ended 0 (front ++ s.head) s.body rest s.is_whole (body_to s.method s.answer.body) s.bytes last sent.body))

  abbrev pub message : AnswerMessage
  message = record { reading = answer_is s.answer; body_start = length front + length s.head; body = body_content stands.runs stop }

  pub answer_at : IsAnswerAt (received bytes ended limit) (length front) s.method message
  answer_at = record {
    start = 0;
    end = length s.head;
    piece = head_piece;
    body_start = refl;
    reading = subst (λ t. IsAnswerReadingWithin limit t (answer_is s.answer)) (sym head_slice)
        (read_within limit s (answer_is s.answer) held (few_lines, inl (sent.strict, is_answer)));
    body = stands.is;
  }

  pub read_as : IsReadAs (received bytes ended limit) (length front) message s
  read_as = record { head = refl; start = refl; runs = stands.runs; body = refl; carried = stands.carries }

-- ---- all answers

-- nothing holds no head
pub no_head : (front : List ℕ) → HasNoHeadPiece (drop (length front) (front ++ []))
no_head front s e piece =
    let none : drop (length front) (front ++ []) ≡ [] = drop_at front [] (length front) refl in
    absurd (omega (arith, ends_blank_long _ piece.ends, length-take (e - s) (drop s (drop (length front) (front ++ []))), length-drop s (drop (length front) (front ++ [])), ap length none))

module _ (waits : ℕ → Bool) where
  -- the answers from a place on, and that they are read as they were sent
  pub record Reads (r : Received) (place : ℕ) (methods : List (List ℕ)) (ss : List SentAnswer) : Type 0 where
    pub messages : List AnswerMessage
    pub are : AreAnswersFrom waits r place methods messages
    pub read : AreReadAs r place messages ss

  -- where nothing was sent nothing is read
  nothing_read : (r : Received) (place : ℕ) (ms : List AnswerMessage) → AreReadAs r place ms [] → ms ≡ []
  nothing_read r place [] read = refl
  nothing_read r place (m ∷ ms) read = absurd read

  -- what follows a body: the answers from its end on, or nothing while it is under way
  follow : (r : Received) (is_whole ended : Bool) (end : ℕ) (runs : List Run) (methods : List (List ℕ)) (ms : List AnswerMessage)
      → (is_whole ≡ false → ms ≡ []) → AreAnswersFrom waits r end methods ms
      → MatchOption (next_start (body_content runs (stop_of is_whole ended end))) (ms ≡ []) (λ n. AreAnswersFrom waits r n methods ms)
  follow r true ended end runs methods ms last are = are
  follow r false true end runs methods ms last are = last refl
  follow r false false end runs methods ms last are = last refl

  -- what was sent after a front is read from its end on, and further requests get no answer
  all_read : (ended : Bool) (limit : Option ℕ) (front : List ℕ) (ss : List SentAnswer) (methods : List (List ℕ)) → AreSent ss → AreHeld limit ss → AreTo waits methods ss
      → Reads (received (front ++ sent_text ss) ended limit) (length front) methods ss
  all_read ended limit front [] [] sent held to = record { messages = []; are = refl; read = ap length (sym (append-nil front)) }
  all_read ended limit front [] (m ∷ methods) sent held to = record { messages = []; are = no_head front; read = ap length (sym (append-nil front)) }
  all_read ended limit front (s ∷ ss) methods sent held to =
      let more = sent_text ss in
      let whole = front ++ (s.head ++ (s.body ++ more)) in
      let r = received whole ended limit in
      let end = length front + length s.head + length s.body in
      let next = front ++ (s.head ++ s.body) in
      let left = left_waiting waits (answer_is s.answer) s.method to.0 in
      let same : next ++ more ≡ whole = append_assoc front (s.head ++ s.body) more ∙ ap (λ t. front ++ t) (append_assoc s.head s.body more) in
      let place : length next ≡ end = omega (arith, length-append front (s.head ++ s.body), length-append s.head s.body) in
      let others = subst (λ t. Reads (received t ended limit) (length next) left ss) same (all_read ended limit next ss left sent.2 (others_held limit s ss held) to.2) in
      let there = subst (λ n. Reads r n left ss) place others in
      let last : s.is_whole ≡ false → more ≡ [] = λ part. ap sent_text (sent.1 part) in
      let fits = first_held limit s ss held in
      let m = message ended limit front more s sent.0 fits last in
      let nothing : s.is_whole ≡ false → there.messages ≡ [] = λ part. nothing_read r end there.messages (subst (AreReadAs r end there.messages) (sent.1 part) there.read) in
      record {
        messages = m ∷ there.messages;
        are = subst (λ l. AreAnswersFrom waits r (length front) l (m ∷ there.messages)) (sym to.1)
            (answer_at ended limit front more s sent.0 fits last, follow r s.is_whole ended end (stands ended limit front more s sent.0 fits last).runs left there.messages nothing there.are);
        read = (read_as ended limit front more s sent.0 fits last, there.read);
      }

  -- what was sent is read as it was sent
  pub sent_is_read : (r : Received) (methods : List (List ℕ)) (ss : List SentAnswer) → r.bytes ≡ sent_text ss → AreSent ss → AreHeld r.hold_size ss → AreTo waits methods ss
      → (ms : List AnswerMessage) × AreAnswersFrom waits r 0 methods ms × AreReadAs r 0 ms ss
  sent_is_read r methods ss is sent held to =
      let x = subst (λ t. Reads (received t r.ended r.hold_size) 0 methods ss) (sym is) (all_read r.ended r.hold_size [] ss methods sent held to) in
      (x.messages, x.are, x.read)

  -- and nothing else is read
  pub sent_alone : (r : Received) (methods : List (List ℕ)) (ss : List SentAnswer) (ms : List AnswerMessage) → r.bytes ≡ sent_text ss → AreSent ss → AreHeld r.hold_size ss
      → AreTo waits methods ss → AreAnswersFrom waits r 0 methods ms → AreReadAs r 0 ms ss
  sent_alone r methods ss ms is sent held to are =
      let x = sent_is_read r methods ss is sent held to in
      subst (λ l. AreReadAs r 0 l ss) (sym (answers_unique waits r 0 methods ms x.0 are x.1)) x.2
