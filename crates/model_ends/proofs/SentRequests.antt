-- Requests that were sent one after another are read as they were sent.
use Rattle.std.proofs.Common.{◌≡◌, ℕ, ◌+◌, ◌≤◌, Bool, true, Option, List, [], ◌∷◌, ◌++◌, length, take, drop, slice_range, None, refl, sym, ap, ◌∙◌, subst, inl, arith, append-nil, append_assoc, length-append}
use Rattle.std.specs.List.{AllByRecursion}
use Rattle.std.proofs.lemmas.Bool.{false≢true}
use Rattle.std.proofs.Math.Seq.{take-append_seam}
use Rattle.std.proofs.lemmas.List.{drop_at, length-map}
use Rattle.std.proofs.lemmas.Slice.{between_is}
use Rattle.httparse.specs.Grammar.{print_request, print_blank}
use Rattle.model_h1.specs.HeadPiece.{IsHeadPiece, header_lines}
use Rattle.model_h1.specs.RequestHead.{IsReadingWithin, header_of}
use Rattle.model_h1.specs.Request.{BodyKind, no_body, fixed_body, chunked_body, raw_body, head_is}
use Rattle.model_h1.specs.Parse.{Input, Body, content, Stop, ended_at, Message, IsBodyOf, IsMessageAt, AreMessages, IsParse}
use Rattle.model_h1.proofs.BodyLemmas.{input}
use Rattle.model_h1.proofs.MessageLemmas.{messages_unique}
use Rattle.model_ends.specs.SentAnswer.{IsBodyText}
use Rattle.model_ends.specs.SentRequest.{SentRequest, IsAsked, asked_text, IsServedAs, AreServedAs}
use Rattle.model_h1.proofs.LineFeeds.{feeds, feeds-head}
use Rattle.model_ends.proofs.HeadText.{request_is_piece}
use Rattle.model_ends.proofs.SentBodies.{Stands, sent_stands}
use Rattle.model_ends.proofs.SentAnswers.{no_head}

-- a body that isn't raw depends on no size, and on no frames
of_input : (bytes : List ℕ) (u : Option ℕ) (ended : Bool) (size place : ℕ) (kind : BodyKind) (text carried : List ℕ) (b : Body) → IsBodyText kind text carried
    → IsBodyOf (input bytes None ended 0) kind place b → IsBodyOf (input bytes u ended size) kind place b
of_input bytes u ended size place no_body text carried b is x = x
of_input bytes u ended size place (fixed_body n) text carried b is x = x
of_input bytes u ended size place chunked_body text carried b is x = x
of_input bytes u ended size place raw_body text carried b is x = absurd is

module _ (u : Option ℕ) (ended : Bool) (front rest : List ℕ) (size : ℕ) (s : SentRequest) (sent : IsAsked size s) where
  abbrev bytes : List ℕ
  bytes = front ++ (s.head ++ (s.body ++ rest))

  text_is : s.head ≡ print_request sent.back.text
  text_is = sent.back.reads.1 ∙ append-nil (print_request sent.back.text)

  few_lines : header_lines s.head ≤ 96
  few_lines =
      let h = sent.back.text in
      omega (
        arith,
        ap header_lines text_is,
        feeds-head h sent.back.reads.0,
        ap (λ b. feeds (print_blank b)) sent.blank,
        ap length sent.back.headers_are,
        length-map h.fields header_of,
        sent.few,
      )

  head_piece : IsHeadPiece (drop (length front) bytes) 0 (length s.head)
  head_piece =
      subst (λ t. IsHeadPiece t 0 (length s.head)) (sym (drop_at front (s.head ++ (s.body ++ rest)) (length front) refl))
      (subst (λ t. IsHeadPiece (t ++ (s.body ++ rest)) 0 (length t)) (sym text_is) (request_is_piece sent.back.text (s.body ++ rest) sent.back.reads.0 sent.blank))

  head_slice : slice_range (drop (length front) bytes) 0 (length s.head) ≡ s.head
  head_slice =
      between_is (drop (length front) bytes) 0 (length s.head)
      ∙ ap (take (length s.head)) (drop_at front (s.head ++ (s.body ++ rest)) (length front) refl)
      ∙ take-append_seam s.head (s.body ++ rest)

  abbrev stop : Stop
  stop = ended_at (length front + length s.head + length s.body) []

  stands : Stands (input bytes None ended 0) s.says.body (length front + length s.head) stop s.bytes
  stands =
      let regrouped : (front ++ s.head) ++ (s.body ++ rest) ≡ bytes = append_assoc front s.head (s.body ++ rest) in
      subst (λ n. Stands (input bytes None ended 0) s.says.body n (ended_at (n + length s.body) []) s.bytes) (length-append front s.head)
      (subst (λ t. Stands (input t None ended 0) s.says.body (length (front ++ s.head)) (ended_at (length (front ++ s.head) + length s.body) []) s.bytes) regrouped
      (sent_stands ended 0 (front ++ s.head) s.body rest true s.says.body s.bytes (λ part. absurd (false≢true (sym part))) sent.body))

  abbrev message : Message
  message = record { reading = head_is s.says; body_start = length front + length s.head; body = content stands.runs stop }

  message_at : IsMessageAt (input bytes u ended size) (length front) message
  message_at = record {
    start = 0;
    end = length s.head;
    piece = head_piece;
    body_start = refl;
    reading = subst (λ t. IsReadingWithin size t (head_is s.says)) (sym head_slice) (inl (sent.fits, (few_lines, sent.back)));
    body = of_input bytes u ended size (length front + length s.head) s.says.body s.body s.bytes (content stands.runs stop) sent.body stands.is;
  }

  served_as : IsServedAs (input bytes u ended size) (length front) message s
  served_as = record { head = refl; start = refl; runs = stands.runs; body = refl; carried = stands.carries }

record Serves (i : Input) (place : ℕ) (ss : List SentRequest) : Type 0 where
  messages : List Message
  are : AreMessages i place messages
  read : AreServedAs i place messages ss

all_served : (u : Option ℕ) (ended : Bool) (front : List ℕ) (size : ℕ) (ss : List SentRequest) → AllByRecursion (IsAsked size) ss
    → Serves (input (front ++ asked_text ss) u ended size) (length front) ss
all_served u ended front size [] sent = record { messages = []; are = no_head front; read = ap length (sym (append-nil front)) }
all_served u ended front size (s ∷ ss) sent =
    let more = asked_text ss in
    let whole = front ++ (s.head ++ (s.body ++ more)) in
    let next = front ++ (s.head ++ s.body) in
    let same : next ++ more ≡ whole = append_assoc front (s.head ++ s.body) more ∙ ap (λ t. front ++ t) (append_assoc s.head s.body more) in
    let place : length next ≡ length front + length s.head + length s.body = omega (arith, length-append front (s.head ++ s.body), length-append s.head s.body) in
    let others = subst (λ t. Serves (input t u ended size) (length next) ss) same (all_served u ended next size ss sent.1) in
    let there = subst (λ n. Serves (input whole u ended size) n ss) place others in
    record {
      messages = message u ended front more size s sent.0 ∷ there.messages;
      are = (message_at u ended front more size s sent.0, there.are);
      read = (served_as u ended front more size s sent.0, there.read);
    }

-- what was asked is read as it was asked
pub asked_is_served : (i : Input) (ss : List SentRequest) → i.bytes ≡ asked_text ss → AllByRecursion (IsAsked i.hold_size) ss
    → (ms : List Message) × IsParse i ms × AreServedAs i 0 ms ss
asked_is_served i ss is sent =
    let r = subst (λ t. Serves (input t i.upgraded i.ended i.hold_size) 0 ss) (sym is) (all_served i.upgraded i.ended [] i.hold_size ss sent) in
    (r.messages, r.are, r.read)

-- and nothing else is
pub asked_alone : (i : Input) (ss : List SentRequest) (ms : List Message) → i.bytes ≡ asked_text ss → AllByRecursion (IsAsked i.hold_size) ss → IsParse i ms
    → AreServedAs i 0 ms ss
asked_alone i ss ms is sent are =
    let r = asked_is_served i ss is sent in
    subst (λ l. AreServedAs i 0 l ss) (sym (messages_unique i 0 ms r.0 are r.1)) r.2
