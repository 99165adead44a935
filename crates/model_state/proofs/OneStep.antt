-- An event has one outcome and one state behind it.
use Rattle.std.proofs.Common.{◌≡◌, ℕ, Bool, true, false, List, [], ◌∷◌, ◌++◌, map, Option, Some, None, refl, sym, ap, ◌∙◌, subst}
use Rattle.std.specs.Prelude.{slice_range}
use Rattle.model_h1.specs.ChunkedText.{Trailer}
use Rattle.model_h1.specs.Place.{Place}
use Rattle.model_h1.specs.TakeNext.{Next, chunk, waits, ended, breaks, take_next}
use Rattle.model_h1.proofs.Trailers.{section_tells}
use Rattle.model_h1.specs.Request.{Reading}
use Rattle.model_h1.specs.RequestHead.{IsReadingWithin}
use Rattle.model_h1.specs.Setting.{Setting}
use Rattle.model_h1.specs.Parse.{trailer_header}
use Rattle.model_h1.specs.End.{End}
use Rattle.model_h1.specs.Event.{Event, Outcome}
use Rattle.model_h1.specs.Event as on
use Rattle.model_h1.proofs.HeadPieceLemmas.{head_piece_unique}
use Rattle.model_h1.proofs.ReadingLemmas.{reading_within_unique}
use Rattle.model_state.specs.Kept.{Rest, no_rest, raw_rest, fixed_rest, chunks_rest, frames_rest, Exchange, Kept, is_free}
use Rattle.model_state.specs.Local.{closing_by}
use Rattle.model_state.specs.Pull.{Pulled, gives, EndsWith, IsPullOfChunks, IsPull}
use Rattle.model_state.specs.Kept.{Change}
use Rattle.model_state.specs.Change.{behind_head, IsUpcoming, IsNext, pulled_from, IsPulling, IsChange, IsComing, noting_since, IsStep}

-- ---- a pull

-- the text of a section has one list of trailers
ends_one : (section behind : List ℕ) (p q : Pulled) → EndsWith section behind p → EndsWith section behind q → p ≡ q
ends_one [] behind p q x y = x ∙ sym y
ends_one (b ∷ section) behind p q x y =
    let lines = section_tells x.0 y.0 x.1 y.1 (x.2 ∙ sym y.2) in
    x.3 ∙ ap (λ (l : List Trailer). gives (on.trailers (map trailer_header l)) no_rest behind) lines ∙ sym y.3

-- what a pull gives of chunks is one
chunks_one : (is_ended : Bool) (place : Place) (section bytes : List ℕ) (next : Next) (noted : List ℕ) (p q : Pulled)
    → IsPullOfChunks is_ended place section bytes next noted p → IsPullOfChunks is_ended place section bytes next noted q → p ≡ q
chunks_one is_ended place section bytes (chunk given next behind) noted p q x y = x ∙ sym y
chunks_one true place section bytes (waits next) noted p q x y = x ∙ sym y
chunks_one false place section bytes (waits next) noted p q x y = x ∙ sym y
chunks_one is_ended place section bytes (ended behind) noted p q x y = ends_one (section ++ noted) behind p q x y
chunks_one is_ended place section bytes breaks noted p q x y = x ∙ sym y

-- and what it gives of any rest
pub pull_one : (is_ended : Bool) (rest : Rest) (bytes : List ℕ) (p q : Pulled) → IsPull is_ended rest bytes p → IsPull is_ended rest bytes q → p ≡ q
pull_one is_ended no_rest bytes p q x y = x ∙ sym y
pull_one is_ended raw_rest bytes p q x y = x ∙ sym y
pull_one is_ended (fixed_rest n) bytes p q x y = x ∙ sym y
pull_one is_ended (chunks_rest place section) bytes p q x y =
    chunks_one is_ended place section bytes (take_next place bytes).next (take_next place bytes).trailers p q x y
pull_one is_ended (frames_rest under_way limit) bytes p q x y = x ∙ sym y

-- so that a pull changes one thing
pulling_one : (k : Kept) (exchange : Option Exchange) (c d : Change) → IsPulling k exchange c → IsPulling k exchange d → c ≡ d
pulling_one k None c d x y = x ∙ sym y
pulling_one k (Some e) c d x y =
    let same = pull_one k.has_ended e.rest k.unread x.0 y.0 x.1 y.1 in
    let of : Pulled → Change = λ p. record { outcome = p.outcome; kept = pulled_from e p k } in
    x.2 ∙ ap of same ∙ sym y.2

-- ---- the next head

-- the head that is coming changes one thing
upcoming_one : (setting : Setting) (k : Kept) (coming : Bool) (c d : Change) → IsUpcoming setting k coming c → IsUpcoming setting k coming d → c ≡ d
upcoming_one setting k false c d x y = x ∙ sym y
upcoming_one setting k true c d x y =
    let place = head_piece_unique k.unread x.0 x.1 y.0 y.1 x.3 y.3 in
    let P : ℕ → ℕ → Type 0 = λ a b. IsReadingWithin setting.hold_size (slice_range k.unread a b) x.2 in
    let moved : P y.0 y.1 = subst (λ a. P a y.1) place.0 (subst (λ b. P x.0 b) place.1 x.4) in
    let what = reading_within_unique setting.hold_size (slice_range k.unread y.0 y.1) x.2 y.2 moved y.4 in
    x.5 ∙ ap (λ e. behind_head k e x.2) place.1 ∙ ap (λ (r : Reading). behind_head k y.1 r) what ∙ sym y.5

-- and so does any call for the next head
next_one : (setting : Setting) (k : Kept) (closing : Option End) (c d : Change) → IsNext setting k closing c → IsNext setting k closing d → c ≡ d
next_one setting k (Some end) c d x y = x ∙ sym y
next_one setting k None c d x y = upcoming_one setting k k.is_coming c d x y

-- ---- all events

-- each event changes one thing
change_one : (setting : Setting) (k : Kept) (event : Event) (c d : Change) → IsChange setting k event c → IsChange setting k event d → c ≡ d
change_one setting k on.next c d x y = next_one setting k (closing_by setting k) c d x y
change_one setting k on.pull c d x y = pulling_one k k.exchange c d x y
change_one setting k (on.read bytes) c d x y = x ∙ sym y
change_one setting k on.eof c d x y = x ∙ sym y
change_one setting k on.drain c d x y = x ∙ sym y
change_one setting k on.drop_body c d x y = x ∙ sym y
change_one setting k on.send_continue c d x y = x ∙ sym y
change_one setting k (on.answer head size) c d x y = x ∙ sym y
change_one setting k (on.chunk bytes) c d x y = x ∙ sym y
change_one setting k on.body_end c d x y = x ∙ sym y
change_one setting k on.body_error c d x y = x ∙ sym y
change_one setting k (on.write n) c d x y = x ∙ sym y
change_one setting k (on.tick ms) c d x y = x ∙ sym y
change_one setting k (on.accept limit) c d x y = x ∙ sym y
change_one setting k (on.send m) c d x y = x ∙ sym y

-- whether a head is coming is one answer
pub coming_one : (free : Bool) (bytes : List ℕ) (a b : Bool) → IsComing free bytes a → IsComing free bytes b → a ≡ b
coming_one false bytes a b x y = x ∙ sym y
coming_one true bytes true true x y = refl
coming_one true bytes true false x y = absurd (y x.0 x.1 x.2)
coming_one true bytes false true x y = absurd (x y.0 y.1 y.2)
coming_one true bytes false false x y = refl

-- one outcome
pub outcome_one : (setting : Setting) (k : Kept) (event : Event) (a b : Outcome) (m n : Kept) → IsStep setting k event a m
    → IsStep setting k event b n → a ≡ b
outcome_one setting k event a b m n x y =
    x.answers ∙ ap (λ (c : Change). c.outcome) (change_one setting k event x.change y.change x.changes y.changes) ∙ sym y.answers

-- one state
pub state_one : (setting : Setting) (k : Kept) (event : Event) (a b : Outcome) (m n : Kept) → IsStep setting k event a m → IsStep setting k event b n
    → m ≡ n
state_one setting k event a b m n x y =
    let same = change_one setting k event x.change y.change x.changes y.changes in
    let P : Change → Type 0 = λ c. IsComing (is_free c.kept) c.kept.unread x.coming in
    let comes : P y.change = subst P same x.comes in
    let coming = coming_one (is_free y.change.kept) y.change.kept.unread x.coming y.coming comes y.comes in
    x.keeps ∙ ap (λ (c : Change). noting_since setting (record c.kept { is_coming = x.coming })) same
    ∙ ap (λ b. noting_since setting (record y.change.kept { is_coming = b })) coming ∙ sym y.keeps
