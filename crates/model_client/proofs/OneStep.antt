-- An event has one outcome and one state after it.
use Rattle.std.proofs.Common.{◌≡◌, ℕ, Bool, true, false, List, [], ◌∷◌, Option, Some, None, sym, ap, ◌∙◌, subst}
use Rattle.std.specs.Prelude.{slice_range}
use Rattle.model_h1.specs.Setting.{Setting}
use Rattle.model_h1.specs.Event as server
use Rattle.model_h1.proofs.HeadPieceLemmas.{head_piece_unique}
use Rattle.model_state.specs.Pull.{Pulled}
use Rattle.model_state.specs.Change.{IsComing}
use Rattle.model_state.proofs.OneStep.{pull_one, coming_one}
use Rattle.model_client.specs.AnswerReading.{AnswerReading, IsAnswerReadingWithin}
use Rattle.model_client.proofs.AnswerLemmas.{answer_within_unique}
use Rattle.model_client.specs.ClientEvent as on
use Rattle.model_client.specs.ClientEvent.{ClientEvent, ClientEnd, ClientOutcome}
use Rattle.model_client.specs.ClientKept.{Waiting, ReadingBody, ClientKept, is_free, client_closing}
use Rattle.model_client.specs.ClientStep.{ClientChange, outcome_of, pulled_from, IsPulling, behind_head, IsUpcoming, IsNext, IsClientChange, IsClientStep}

-- ---- a pull

-- so that a pull changes one thing
pulling_one : (k : ClientKept) (body : Option ReadingBody) (c d : ClientChange) → IsPulling k body c → IsPulling k body d → c ≡ d
pulling_one k None c d x y = x ∙ sym y
pulling_one k (Some body) c d x y =
    let same = pull_one k.has_ended body.rest k.unread x.0 y.0 x.1 y.1 in
    let of : Pulled → ClientChange = λ p. record { outcome = outcome_of p.outcome; kept = pulled_from body p k } in
    x.2 ∙ ap of same ∙ sym y.2

-- ---- the next answer

-- the answer that is coming changes one thing
upcoming_one : (setting : Setting) (k : ClientKept) (waiting : List Waiting) (coming : Bool) (c d : ClientChange)
    → IsUpcoming setting k waiting coming c → IsUpcoming setting k waiting coming d → c ≡ d
upcoming_one setting k [] false c d x y = x ∙ sym y
upcoming_one setting k (w ∷ ws) false c d x y = x ∙ sym y
upcoming_one setting k [] true c d x y = x ∙ sym y
upcoming_one setting k (w ∷ ws) true c d x y =
    let place = head_piece_unique k.unread x.0 x.1 y.0 y.1 x.3 y.3 in
    let P : ℕ → ℕ → Type 0 = λ a b. IsAnswerReadingWithin (Some setting.hold_size) (slice_range k.unread a b) x.2 in
    let moved : P y.0 y.1 = subst (λ a. P a y.1) place.0 (subst (λ b. P x.0 b) place.1 x.4) in
    let what = answer_within_unique (Some setting.hold_size) (slice_range k.unread y.0 y.1) x.2 y.2 moved y.4 in
    x.5 ∙ ap (λ e. behind_head k e w ws x.2) place.1 ∙ ap (λ (r : AnswerReading). behind_head k y.1 w ws r) what ∙ sym y.5

-- and so does any call for the next answer
next_one : (setting : Setting) (k : ClientKept) (closing : Option ClientEnd) (c d : ClientChange) → IsNext setting k closing c
    → IsNext setting k closing d → c ≡ d
next_one setting k (Some end) c d x y = x ∙ sym y
next_one setting k None c d x y = upcoming_one setting k k.waiting k.is_coming c d x y

-- ---- all events

-- each event changes one thing
change_one : (setting : Setting) (k : ClientKept) (event : ClientEvent) (c d : ClientChange) → IsClientChange setting k event c
    → IsClientChange setting k event d → c ≡ d
change_one setting k (on.ask r size) c d x y = x ∙ sym y
change_one setting k (on.chunk bytes) c d x y = x ∙ sym y
change_one setting k on.body_end c d x y = x ∙ sym y
change_one setting k on.body_error c d x y = x ∙ sym y
change_one setting k (on.read bytes) c d x y = x ∙ sym y
change_one setting k on.eof c d x y = x ∙ sym y
change_one setting k on.next c d x y = next_one setting k (client_closing k) c d x y
change_one setting k on.pull c d x y = pulling_one k k.reading c d x y
change_one setting k on.drop_body c d x y = x ∙ sym y
change_one setting k (on.write n) c d x y = x ∙ sym y
change_one setting k (on.tick ms) c d x y = x ∙ sym y

pub one_outcome : (setting : Setting) (k : ClientKept) (event : ClientEvent) (a b : ClientOutcome) (m n : ClientKept)
    → IsClientStep setting k event a m → IsClientStep setting k event b n → a ≡ b
one_outcome setting k event a b m n x y =
    x.answers ∙ ap (λ (c : ClientChange). c.outcome) (change_one setting k event x.change y.change x.changes y.changes) ∙ sym y.answers

pub one_state : (setting : Setting) (k : ClientKept) (event : ClientEvent) (a b : ClientOutcome) (m n : ClientKept)
    → IsClientStep setting k event a m → IsClientStep setting k event b n → m ≡ n
one_state setting k event a b m n x y =
    let change = change_one setting k event x.change y.change x.changes y.changes in
    let there = subst (λ (c : ClientChange). IsComing (is_free c.kept) c.kept.unread x.coming) change x.comes in
    let coming = coming_one (is_free y.change.kept) y.change.kept.unread x.coming y.coming there y.comes in
    x.keeps ∙ (λ i. record (change i).kept { is_coming = coming i }) ∙ sym y.keeps
