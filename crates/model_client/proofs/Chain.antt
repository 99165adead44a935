-- Answers that were handed out and have ended, one after another, and what is handed out after them.
use Rattle.std.proofs.Common.{◌≡◌, ℕ, ◌≤◌, Bool, List, [], ◌∷◌, ◌++◌, length, take, drop, reverse, Option, Some, None, MatchOption, unwrap_or, IsSome, refl, sym, ap, ◌∙◌, subst, append_assoc}
use Rattle.std.proofs.lemmas.Grind.{reverse_onto}
use Rattle.model_h1.specs.HeadPiece.{HasNoHeadPiece}
use Rattle.model_h1.specs.Request.{too_large}
use Rattle.model_h1.specs.Parse.{next_start}
use Rattle.model_client.specs.AnswerReading.{refused}
use Rattle.model_client.specs.AnswerParse.{Received, AnswerMessage, IsAnswerAt, is_interim, left_waiting, AreAnswersFrom, AreAnswersIn}
use Rattle.model_client.proofs.AnswerLemmas.{answers_unique}
use Rattle.model_client.proofs.AnswerExistence.{answers_exist_from}
use Rattle.model_client.specs.ReadOut.{ReadAnswer, newly_read}
use Rattle.model_client.specs.Parsed.{IsReadOf, IsLastOrEnded, IsPrefixFrom}

-- what was received, by its parts
abbrev pub received : List ℕ → Bool → ℕ → Received
received bytes e size = record { bytes = bytes; ended = e; hold_size = Some size }

-- one was handed out that has ended in front of this place; it is to the first of these methods, and leaves those waiting
pub record IsRead (r : Received) (h : ReadAnswer) (start : ℕ) (method : List ℕ) (others : List (List ℕ)) (place : ℕ) (left : List (List ℕ)) : Type 0 where
  pub message : AnswerMessage
  pub at : IsAnswerAt r start method message
  pub is : IsReadOf r.bytes h message
  pub next : next_start message.body ≡ Some place
  pub left_is : left ≡ left_waiting is_interim message.reading method others

-- those that were handed out, the newest first, lead to this place, where these methods wait
abbrev pub Leads : Received → List (List ℕ) → List ReadAnswer → ℕ → List (List ℕ) → Type 0
Leads r methods [] place left = (place ≡ 0) × (left ≡ methods)
Leads r methods (h ∷ before) place left =
    (start : ℕ) × (method : List ℕ) × (others : List (List ℕ)) × Leads r methods before start (method ∷ others) × IsRead r h start method others place left

-- the answers from a place on, of which this is the first
pub record BeginsWith (r : Received) (method : List ℕ) (others : List (List ℕ)) (m : AnswerMessage) (ms : List AnswerMessage) : Type 0 where
  pub rest : List AnswerMessage
  pub are : ms ≡ m ∷ rest
  pub follow : MatchOption (next_start m.body) (rest ≡ []) (λ next. AreAnswersFrom is_interim r next (left_waiting is_interim m.reading method others) rest)

-- where an answer stands, it is the first
pub first_is : (r : Received) (place : ℕ) (method : List ℕ) (others : List (List ℕ)) (m : AnswerMessage) (ms : List AnswerMessage)
    → IsAnswerAt r place method m → AreAnswersFrom is_interim r place (method ∷ others) ms → BeginsWith r method others m ms
first_is r place method others m ms at are = by_next (next_start m.body) refl
  where
    left : List (List ℕ)
    left = left_waiting is_interim m.reading method others

    of_rest : (rest : List AnswerMessage) → MatchOption (next_start m.body) (rest ≡ []) (λ next. AreAnswersFrom is_interim r next left rest)
        → BeginsWith r method others m ms
    of_rest rest follow = record {
      rest = rest;
      are = answers_unique is_interim r place (method ∷ others) ms (m ∷ rest) are (at, follow);
      follow = follow;
    }

    by_next : (next : Option ℕ) → next_start m.body ≡ next → BeginsWith r method others m ms
    by_next None is =
        let none : List AnswerMessage = [] in
        of_rest none (subst (λ (o : Option ℕ). MatchOption o (none ≡ none) (λ next. AreAnswersFrom is_interim r next left none)) (sym is) refl)
    by_next (Some n) is =
        let more = answers_exist_from is_interim r n left in
        of_rest more.0 (subst (λ (o : Option ℕ). MatchOption o (more.0 ≡ []) (λ next. AreAnswersFrom is_interim r next left more.0)) (sym is) more.1)

-- what is handed out from a place on is the beginning of the answers there
abbrev pub IsTail : Received → ℕ → List (List ℕ) → ℕ → List ReadAnswer → Type 0
IsTail r place left size tail = (ms : List AnswerMessage) → AreAnswersFrom is_interim r place left ms → IsPrefixFrom size r.bytes place tail ms

-- one answer in front of a tail
tail_more : (r : Received) (size start : ℕ) (method : List ℕ) (others : List (List ℕ)) (h : ReadAnswer) (place : ℕ) (left : List (List ℕ)) (tail : List ReadAnswer)
    → IsRead r h start method others place left → IsTail r place left size tail → IsTail r start (method ∷ others) size (h ∷ tail)
tail_more r size start method others h place left tail x more ms are =
    let first = first_is r start method others x.message ms x.at are in
    let follow = subst (λ (o : Option ℕ). MatchOption o (first.rest ≡ []) (λ next. AreAnswersFrom is_interim r next (left_waiting is_interim x.message.reading method others) first.rest))
    x.next first.follow in
    let there = subst (λ (l : List (List ℕ)). AreAnswersFrom is_interim r place l first.rest) (sym x.left_is) follow in
    subst (IsPrefixFrom size r.bytes start (h ∷ tail)) (sym first.are)
    (x.is, ended tail, subst (λ (o : Option ℕ). IsPrefixFrom size r.bytes (unwrap_or o start) tail first.rest) (sym x.next) (more first.rest there))
  where
    ended : (tail : List ReadAnswer) → IsLastOrEnded x.message tail
    ended [] = tt
    ended (next ∷ more) = subst IsSome (sym x.next) refl

-- all that was handed out, and a tail
pub prefix_of : (r : Received) (size : ℕ) (methods : List (List ℕ)) (outs : List ReadAnswer) (place : ℕ) (left : List (List ℕ)) (tail : List ReadAnswer)
    (ms : List AnswerMessage) → Leads r methods outs place left → IsTail r place left size tail → AreAnswersIn is_interim r methods ms
    → IsPrefixFrom size r.bytes 0 (reverse outs ++ tail) ms
prefix_of r size methods [] place left tail ms (zero_is, left_is) tails are =
    subst (λ (p : ℕ). IsPrefixFrom size r.bytes p tail ms) zero_is
    (tails ms (subst (λ (p : ℕ). AreAnswersFrom is_interim r p left ms) (sym zero_is) (subst (λ (l : List (List ℕ)). AreAnswersFrom is_interim r 0 l ms) (sym left_is) are)))
prefix_of r size methods (h ∷ before) place left tail ms (start, method, others, leads, x) tails are =
    let all = prefix_of r size methods before start (method ∷ others) (h ∷ tail) ms leads (tail_more r size start method others h place left tail x tails) are in
    subst (λ (l : List ReadAnswer). IsPrefixFrom size r.bytes 0 l ms) (sym (moved before h tail)) all
  where
    moved : (before : List ReadAnswer) (h : ReadAnswer) (tail : List ReadAnswer) → reverse (h ∷ before) ++ tail ≡ reverse before ++ (h ∷ tail)
    moved before h tail = ap (λ (l : List ReadAnswer). l ++ tail) (reverse_onto before h []) ∙ append_assoc (reverse before) (h ∷ []) tail

-- ---- tails

-- nothing more
pub no_tail : (r : Received) (size place : ℕ) (left : List (List ℕ)) → IsTail r place left size []
no_tail r size place left [] are = tt
no_tail r size place left (m ∷ ms) are = tt

-- one answer, as far as it came
pub one_tail : (r : Received) (size place : ℕ) (method : List ℕ) (others : List (List ℕ)) (h : ReadAnswer) (m : AnswerMessage) → IsAnswerAt r place method m
    → IsReadOf r.bytes h m → IsTail r place (method ∷ others) size (h ∷ [])
one_tail r size place method others h m at is ms are =
    let first = first_is r place method others m ms at are in
    subst (IsPrefixFrom size r.bytes place (h ∷ [])) (sym first.are) (is, tt, nothing first.rest (unwrap_or (next_start m.body) place))
  where
    nothing : (ms : List AnswerMessage) (place : ℕ) → IsPrefixFrom size r.bytes place [] ms
    nothing [] place = tt
    nothing (m ∷ ms) place = tt

-- the refusal of bytes that hold no whole head
pub full_tail : (r : Received) (size place : ℕ) (left : List (List ℕ)) → HasNoHeadPiece (drop place r.bytes) → size ≤ length (drop place r.bytes)
    → HasNoHeadPiece (take size (drop place r.bytes)) → IsTail r place left size (newly_read (refused too_large) ∷ [])
full_tail r size place left none full front [] are = (refl, full, front)
full_tail r size place [] none full front (m ∷ ms) are = absurd (cc are)
full_tail r size place (method ∷ left) none full front (m ∷ ms) are = absurd (none are.0.start are.0.end are.0.piece)
