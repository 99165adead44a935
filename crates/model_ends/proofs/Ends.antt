-- Why a client of plain exchanges closes, and when it has read all.
use Rattle.std.proofs.Common.{◌≡◌, ℕ, ◌≤◌, Bool, true, false, ◌&&◌, not, List, [], ◌∷◌, ◌++◌, length, reverse, Option, Some, None, is_some, refl, sym, ap, ap₂, ◌∙◌, subst, inl, inr, arith, append-nil, length-append}
use Rattle.std.specs.Prelude.{IsTrue, if◌then◌else◌}
use Rattle.std.proofs.lemmas.Bool.{false≢true, cond-true}
use Rattle.std.proofs.lemmas.List.{length-reverse}
use Rattle.model_h1.specs.Handed.{Item}
use Rattle.model_h1.specs.HeadPiece.{HasNoHeadPiece}
use Rattle.model_h1.specs.Setting.{Setting}
use Rattle.model_state.specs.Change.{IsComing}
use Rattle.model_client.specs.AnswerReading.{AnswerReading, answer_is, refused}
use Rattle.model_client.specs.AnswerParse.{is_interim}
use Rattle.model_client.specs.ClientEvent as on
use Rattle.model_client.specs.ClientEvent.{ClientEnd, ClientOutcome, asked, unasked, input_ended, failed_request, broken_answer}
use Rattle.model_client.specs.ClientKept.{Waiting, ClientKept, is_free_of, is_free, is_waited_for, has_bytes, client_closing, client_allows}
use Rattle.model_client.specs.ClientStep.{ClientChange, behind_head, IsUpcoming, IsNext, IsClientStep, KnowsComing}
use Rattle.model_ends.specs.SentAnswer.{SentAnswer, AreSent, AreHeld, sent_text, AreTo}
use Rattle.model_ends.specs.Connected.{IsFairEnd}
use Rattle.model_client.specs.ReadOut.{ReadAnswer}
use Rattle.model_ends.proofs.Holds.{methods_of, faulty_some, AreSo, IsFree, IsBusy, IsIn, Holds}
use Rattle.model_ends.proofs.NextAnswers.{failed_closes, late, allowed_then}

-- ---- why it closes

-- behind a fault it closes for that
failed_end : (k : ClientKept) (f end : ClientEnd) → k.failed ≡ Some f → client_closing k ≡ Some end → f ≡ end
failed_end k f end failed closing =
    let e : client_closing k ≡ k.failed = cond-true (is_some k.failed) k.failed _ (ap is_some failed) in
    let named : ◌≡◌ {A = Option ClientEnd} (Some f) (Some end) = sym failed ∙ sym e ∙ closing in
    cc named

-- while a body is read it doesn't
abbrev closes_when : Option ClientEnd → Bool → Option ClientEnd → Option ClientEnd
closes_when failed free other = if is_some failed then failed else (if not free then None else other)

abbrev other_end : ClientKept → Option ClientEnd
other_end k =
    if k.closes then Some asked
    else (if not (is_waited_for k.waiting) && has_bytes k.unread then Some unasked
    else (if k.has_ended && not k.is_coming then Some input_ended else None))

-- where nothing is wrong and nothing is read
free_end : (k : ClientKept) → k.failed ≡ None → is_free k ≡ true → client_closing k ≡ other_end k
free_end k fine free = ap₂ (λ (f : Option ClientEnd) (t : Bool). closes_when f t (other_end k)) fine free

busy_end : (k : ClientKept) → k.failed ≡ None → is_free k ≡ false → client_closing k ≡ None
busy_end k fine busy = ap₂ (λ (f : Option ClientEnd) (t : Bool). closes_when f t (other_end k)) fine busy

fair : (end : ClientEnd) (t : Bool) (e : ClientEnd) → e ≡ end → IsFairEnd e t → IsFairEnd end t
fair end t e same x = subst (λ (c : ClientEnd). IsFairEnd c t) same x

module _ (size : ℕ) (ss : List SentAnswer) where
  -- bytes that nobody asked for never come
  none_unasked : (waiting : List Waiting) (unread more : List ℕ) (rest : List SentAnswer) → AreTo is_interim (methods_of (waiting ++ [])) rest
      → unread ++ more ≡ sent_text rest → (not (is_waited_for waiting) && has_bytes unread) ≡ false
  none_unasked (w ∷ ws) unread more rest to text = refl
  none_unasked [] [] more rest to text = refl
  none_unasked [] (b ∷ unread) more [] to text = absurd (no_cons text)
    where
      no_cons : b ∷ (unread ++ more) ≡ [] → ⊥
      no_cons e = cc
  none_unasked [] (b ∷ unread) more (s ∷ rest) to text = absurd (no_cons to.1)
    where
      no_cons : [] ≡ s.method ∷ to.0 → ⊥
      no_cons e = cc

  free_fair : (k : ClientKept) (more : List ℕ) (rest : List SentAnswer) (end : ClientEnd) → IsFree k more [] rest → other_end k ≡ Some end
      → IsFairEnd end k.has_ended
  free_fair k more rest end f e =
      by_tests k.closes (not (is_waited_for k.waiting) && has_bytes k.unread) k.has_ended k.is_coming refl (none_unasked k.waiting k.unread more rest f.to f.text) e
    where
      by_tests : (c u t coming : Bool) → k.has_ended ≡ t → u ≡ false
          → ◌≡◌ {A = Option ClientEnd} (if c then Some asked else (if u then Some unasked else (if t && not coming then Some input_ended else None))) (Some end)
          → IsFairEnd end k.has_ended
      by_tests true u t coming is none e = let same : asked ≡ end = cc in fair end k.has_ended asked same tt
      by_tests false true t coming is none e = absurd (false≢true (sym none))
      by_tests false false true false is none e = let same : input_ended ≡ end = cc in fair end k.has_ended input_ended same is
      by_tests false false true true is none e = absurd (cc e)
      by_tests false false false coming is none e = absurd (cc e)

  pub not_free : (k : ClientKept) (more : List ℕ) (outs : List ReadAnswer) (ds rest : List SentAnswer) → IsBusy k more [] rest outs ds → is_free k ≡ false
  not_free k more [] ds rest b = absurd b
  not_free k more (a ∷ outs) [] rest b = absurd b
  not_free k more (a ∷ outs) (s ∷ ds) rest b = ap is_free_of b.is ∙ b.goes_on

  pub ends_fairly : (outs : List ReadAnswer) (ds rest : List SentAnswer) (k : ClientKept) (more : List ℕ) (end : ClientEnd) → IsIn k more [] rest outs ds
      → client_closing k ≡ Some end → IsFairEnd end k.has_ended
  ends_fairly outs ds rest k more end state closing = elim state [
    | inl failed ↦ elim failed [
      | inl own ↦ fair end k.has_ended failed_request (failed_end k failed_request end own closing) tt
      | inr (cut, e) ↦ fair end k.has_ended broken_answer (failed_end k broken_answer end cut closing) e
    ]
    | inr (fine, x) ↦ elim x [
      | inl f ↦ free_fair k more rest end f (sym (free_end k fine f.free) ∙ closing)
      | inr b ↦ absurd (none_some (sym (busy_end k fine (not_free k more outs ds rest b)) ∙ closing))
    ]
  ]
    where
      none_some : ◌≡◌ {A = Option ClientEnd} None (Some end) → ⊥
      none_some e = cc

-- ---- when all is read

pub so_length : (e : Bool) (outs : List ReadAnswer) (ds : List SentAnswer) → AreSo e outs ds → length outs ≡ length ds
so_length e [] [] x = refl
so_length e [] (d ∷ ds) x = absurd x
so_length e (o ∷ outs) [] x = absurd x
so_length e (o ∷ outs) (d ∷ ds) x = omega (arith, so_length e outs ds x.1)

head_fits : (s : SentAnswer) (rest : List SentAnswer) → length s.head ≤ length (sent_text (s ∷ rest))
head_fits s rest = omega (arith, length-append s.head (s.body ++ sent_text rest))

module _ (setting : Setting) (k next : ClientKept) (known : KnowsComing k) (allowed : IsTrue (client_allows setting k on.next))
    (x : IsClientStep setting k on.next on.pending next) where
  -- a head that is read is never pending
  told : (k : ClientKept) (end : ℕ) (w : Waiting) (ws : List Waiting) (what : AnswerReading) → on.pending ≡ (behind_head k end w ws what).outcome → ⊥
  told k end w ws (refused f) e = cc
  told k end w ws (answer_is a) e = cc

  -- where a request waits none is coming
  none_coming : (waiting : List Waiting) (coming : Bool) (c : ClientChange) → is_waited_for waiting ≡ true → IsUpcoming setting k waiting coming c
      → on.pending ≡ c.outcome → coming ≡ false
  none_coming waiting false c some x e = refl
  none_coming [] true c some x e = absurd (false≢true some)
  none_coming (w ∷ ws) true c some (start, end, what, piece, reading, is) e =
      absurd (told k end w ws what (e ∙ ap (λ (c : ClientChange). c.outcome) is))

  -- so nothing is left
  none_left : (rest : List SentAnswer) → AreSent rest → AreHeld (Some setting.hold_size) rest → IsFree k [] [] rest → k.failed ≡ None → rest ≡ []
  none_left [] sent held f fine = refl
  none_left (s ∷ rest) sent held f fine = absurd (by_closing (client_closing k) refl x.changes)
    where
      waited : (waiting : List Waiting) → AreTo is_interim (methods_of (waiting ++ [])) (s ∷ rest) → is_waited_for waiting ≡ true
      waited [] to = absurd (no_cons to.1)
        where
          no_cons : [] ≡ s.method ∷ to.0 → ⊥
          no_cons e = cc
      waited (w ∷ ws) to = refl

      all : k.unread ≡ sent_text (s ∷ rest)
      all = sym (append-nil k.unread) ∙ f.text

      none_there : is_free k ≡ true → k.is_coming ≡ false → KnowsComing k → HasNoHeadPiece k.unread
      none_there free coming known = subst (λ (t : Bool). IsComing true k.unread t) coming (subst (λ (t : Bool). IsComing t k.unread k.is_coming) free known)

      by_closing : (o : Option ClientEnd) → client_closing k ≡ o → IsNext setting k o x.change → ⊥
      by_closing (Some end) closing y =
          let e : ◌≡◌ {A = ClientOutcome} on.pending (on.closed end) = x.answers ∙ ap (λ (c : ClientChange). c.outcome) y in absurd (cc e)
      by_closing None going y =
          let coming = none_coming k.waiting k.is_coming x.change (waited k.waiting f.to) y x.answers in
          let none : HasNoHeadPiece k.unread = none_there f.free coming known in
          omega (arith, late setting.hold_size k.unread [] s rest sent held f.text none, ap length all, head_fits s rest)

  -- and it doesn't close
  never_failed : is_some k.failed ≡ true → ⊥
  never_failed failed = by_closing (client_closing k) refl x.changes
    where
      by_closing : (o : Option ClientEnd) → client_closing k ≡ o → IsNext setting k o x.change → ⊥
      by_closing (Some end) closing y =
          let e : ◌≡◌ {A = ClientOutcome} on.pending (on.closed end) = x.answers ∙ ap (λ (c : ClientChange). c.outcome) y in absurd (cc e)
      by_closing None going y = false≢true (sym (ap is_some going) ∙ failed_closes k failed)

  -- all answers are handed out
  pub all_handed : (ss : List SentAnswer) (stray : List Item) (outs : List ReadAnswer) (ds rest : List SentAnswer)
      → Holds setting.hold_size ss stray outs ds rest k [] [] → length outs ≡ length ss
  all_handed ss stray outs ds rest h = elim h.state [
    | inl failed ↦ absurd (never_failed (faulty_some k.failed k.has_ended failed))
    | inr (fine, y) ↦ elim y [
      | inl f ↦
          let none = none_left rest h.sent h.held f fine in
          omega (arith, so_length k.has_ended outs ds h.so, ap length h.are, length-append (reverse ds) rest, length-reverse ds, ap length none)
      | inr b ↦
          let busy = not_free setting.hold_size ss k [] outs ds rest b in
          absurd (false≢true (sym busy ∙ allowed_then setting k on.next (busy_end k fine busy) allowed))
    ]
  ]
