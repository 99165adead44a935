-- What is known of a step that hands out an answer, and of one of a connection that closes.
use Rattle.std.proofs.Common.{◌≡◌, ℕ, Bool, true, false, List, [], ◌∷◌, drop, Option, Some, None, refl, ap, ◌∙◌, subst}
use Rattle.std.specs.Prelude.{slice_range, ◌==◌, length, if◌then◌else◌}
use Rattle.model_h1.specs.HeadPiece.{IsHeadPiece}
use Rattle.model_h1.specs.Request.{too_large}
use Rattle.model_h1.specs.Setting.{Setting}
use Rattle.model_client.specs.AnswerReading.{Answer, AnswerReading, answer_is, refused, IsAnswerReadingWithin}
use Rattle.model_client.specs.AnswerParse.{is_interim}
use Rattle.model_client.specs.ClientEvent as on
use Rattle.model_client.specs.ClientEvent.{ClientEvent, ClientEnd, ClientOutcome, large_answer}
use Rattle.model_client.specs.ClientKept.{Waiting, ClientKept, client_closing}
use Rattle.model_client.specs.ClientStep.{ClientChange, new_body, behind_answer, behind_head, without_head, IsUpcoming, IsNext, IsClientStep}

-- how an answer was read: the piece, who waited, and what is kept after it
pub record IsAnswered (setting : Setting) (k : ClientKept) (a : Answer) (kept : ClientKept) : Type 0 where
  pub start : ℕ
  pub end : ℕ
  pub first : Waiting
  pub others : List Waiting
  pub waited : k.waiting ≡ first ∷ others
  pub piece : IsHeadPiece k.unread start end
  pub reading : IsAnswerReadingWithin (Some setting.hold_size) (slice_range k.unread start end) (answer_is a)
  pub after : kept ≡ behind_answer k (drop end k.unread) a first others

-- where no whole head is there no answer is handed out
abbrev pub told_without : ClientKept → Bool → ClientChange
told_without k full =
    if full then record { outcome = on.fault too_large; kept = record k { failed = Some large_answer } } else record { outcome = on.pending; kept = k }

none_by_room : (k : ClientKept) (a : Answer) (full : Bool) → on.answer a ≡ (told_without k full).outcome → ⊥
none_by_room k a true is = cc is
none_by_room k a false is = cc is

none_without : (setting : Setting) (k : ClientKept) (a : Answer) → on.answer a ≡ (without_head setting k).outcome → ⊥
none_without setting k a is = none_by_room k a (length k.unread == setting.hold_size) is

-- what follows a head is an answer only where it was read as one
of_reading : (setting : Setting) (k : ClientKept) (a : Answer) (start end : ℕ) (w : Waiting) (ws : List Waiting) (what : AnswerReading) (c : ClientChange)
    → k.waiting ≡ w ∷ ws → IsHeadPiece k.unread start end
    → IsAnswerReadingWithin (Some setting.hold_size) (slice_range k.unread start end) what
    → c ≡ behind_head k end w ws what → on.answer a ≡ c.outcome → IsAnswered setting k a c.kept
of_reading setting k a start end w ws (refused f) c waited piece reading is out =
    let no : ◌≡◌ {A = ClientOutcome} (on.answer a) (on.fault f) = out ∙ ap (λ (c : ClientChange). c.outcome) is in absurd (cc no)
of_reading setting k a start end w ws (answer_is b) c waited piece reading is out =
    let named : ◌≡◌ {A = ClientOutcome} (on.answer a) (on.answer b) = out ∙ ap (λ (c : ClientChange). c.outcome) is in
    let same : b ≡ a = cc named in
    record {
      start = start;
      end = end;
      first = w;
      others = ws;
      waited = waited;
      piece = piece;
      reading = subst (λ (x : Answer). IsAnswerReadingWithin (Some setting.hold_size) (slice_range k.unread start end) (answer_is x)) same reading;
      after = ap (λ (c : ClientChange). c.kept) is ∙ ap (λ (x : Answer). behind_answer k (drop end k.unread) x w ws) same;
    }

of_upcoming : (setting : Setting) (k : ClientKept) (a : Answer) (waiting : List Waiting) (coming : Bool) (c : ClientChange) → k.waiting ≡ waiting
    → IsUpcoming setting k waiting coming c → on.answer a ≡ c.outcome → IsAnswered setting k a c.kept
of_upcoming setting k a [] false c waited x out = absurd (none_without setting k a (out ∙ ap (λ (c : ClientChange). c.outcome) x))
of_upcoming setting k a (w ∷ ws) false c waited x out = absurd (none_without setting k a (out ∙ ap (λ (c : ClientChange). c.outcome) x))
of_upcoming setting k a [] true c waited x out =
    let no : ◌≡◌ {A = ClientOutcome} (on.answer a) on.pending = out ∙ ap (λ (c : ClientChange). c.outcome) x in absurd (cc no)
of_upcoming setting k a (w ∷ ws) true c waited (start, end, what, piece, reading, is) out =
    of_reading setting k a start end w ws what c waited piece reading is out

of_next : (setting : Setting) (k : ClientKept) (a : Answer) (closing : Option ClientEnd) (c : ClientChange) → IsNext setting k closing c
    → on.answer a ≡ c.outcome → IsAnswered setting k a c.kept
of_next setting k a (Some end) c x out =
    let no : ◌≡◌ {A = ClientOutcome} (on.answer a) (on.closed end) = out ∙ ap (λ (c : ClientChange). c.outcome) x in absurd (cc no)
of_next setting k a None c x out = of_upcoming setting k a k.waiting k.is_coming c refl x out

pub answered : (setting : Setting) (k next : ClientKept) (a : Answer) → (x : IsClientStep setting k on.next (on.answer a) next)
    → IsAnswered setting k a x.change.kept
answered setting k next a x = of_next setting k a (client_closing k) x.change x.changes x.answers

-- ---- what is kept after it

pub interim_after : (k : ClientKept) (unread : List ℕ) (a : Answer) (w : Waiting) (ws : List Waiting) → is_interim a.status ≡ true
    → ((behind_answer k unread a w ws).waiting ≡ k.waiting) × ((behind_answer k unread a w ws).reading ≡ k.reading)
interim_after k unread a w ws is = rw is (refl, refl)

pub final_after : (k : ClientKept) (unread : List ℕ) (a : Answer) (w : Waiting) (ws : List Waiting) → is_interim a.status ≡ false
    → ((behind_answer k unread a w ws).waiting ≡ ws) × ((behind_answer k unread a w ws).unread ≡ unread)
    × ((behind_answer k unread a w ws).reading ≡ Some (new_body k.has_ended unread w.method a))
final_after k unread a w ws is = rw is (refl, refl, refl)

pub any_after : (k : ClientKept) (unread : List ℕ) (a : Answer) (w : Waiting) (ws : List Waiting) → (behind_answer k unread a w ws).unread ≡ unread
any_after k unread a w ws = by_status (is_interim a.status) refl
  where
    by_status : (t : Bool) → is_interim a.status ≡ t → (behind_answer k unread a w ws).unread ≡ unread
    by_status true is = rw is refl
    by_status false is = rw is refl
