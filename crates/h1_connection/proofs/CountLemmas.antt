-- How the number of heads that stand ahead goes on.
use Rattle.std.proofs.Common.{◌≡◌, ◌≢◌, ℕ, suc, List, ◌∷◌, length, sym, refl}
use Rattle.model_h1.specs.Request.{Head, Fault, Reading, head_is}
use Rattle.model_h1.specs.Setting.{Setting}
use Rattle.model_h1.specs.Event.{Outcome}
use Rattle.model_h1.specs.Event as on
use Rattle.model_h1.specs.Sums.{Step}
use Rattle.model_state.specs.Kept.{Kept}
use Rattle.model_state.specs.StandsFor.{StandsFor}
use Rattle.model_state.specs.Ahead.{MAX_AHEAD, is_bodiless, AreAhead, decoded_behind, IsAhead}
use Rattle.model_state.proofs.Counts.{next_decodes}
use Rattle.model_state.proofs.Numbers.{other_event, other_outcome, goes_on}

-- behind a head where none stood ahead
pub decodes : (setting : Setting) (k : Kept) (trace : List Step) (h : Head) (readings : List Reading) → IsAhead setting trace 0
    → StandsFor setting k (record { event = on.next; outcome = on.head h } ∷ trace) → AreAhead setting.hold_size MAX_AHEAD (is_bodiless (head_is h)) k.unread readings
    → IsAhead setting (record { event = on.next; outcome = on.head h } ∷ trace) (length readings)
decodes setting k trace h readings is stands are =
    goes_on setting (record { event = on.next; outcome = on.head h }) trace 0 (length readings) is (λ q of. sym (next_decodes setting k trace h readings stands are q of))

-- behind one that was
pub hands_out : (setting : Setting) (trace : List Step) (h : Head) (n : ℕ) → IsAhead setting trace (suc n) → IsAhead setting (record { event = on.next; outcome = on.head h } ∷ trace) n
hands_out setting trace h n is = goes_on setting (record { event = on.next; outcome = on.head h }) trace (suc n) n is (λ q of. refl)

pub fails : (setting : Setting) (trace : List Step) (f : Fault) (n : ℕ) → IsAhead setting trace (suc n) → IsAhead setting (record { event = on.next; outcome = on.fault f } ∷ trace) n
fails setting trace f n is = goes_on setting (record { event = on.next; outcome = on.fault f }) trace (suc n) n is (λ q of. refl)

pub fails_at_once : (setting : Setting) (trace : List Step) (f : Fault) → IsAhead setting trace 0 → IsAhead setting (record { event = on.next; outcome = on.fault f } ∷ trace) 0
fails_at_once setting trace f is = goes_on setting (record { event = on.next; outcome = on.fault f }) trace 0 0 is (λ q of. refl)

-- behind all else
pub finds_nothing : (setting : Setting) (trace : List Step) (o : Outcome) (n : ℕ) → ((h : Head) → o ≢ on.head h) → ((f : Fault) → o ≢ on.fault f) → IsAhead setting trace n
    → IsAhead setting (record { event = on.next; outcome = o } ∷ trace) n
finds_nothing setting trace o n head fault is =
    goes_on setting (record { event = on.next; outcome = o }) trace n n is (λ q of. other_outcome o n (decoded_behind q) head fault)

pub stays : (setting : Setting) (s : Step) (trace : List Step) (n : ℕ) → s.event ≢ on.next → IsAhead setting trace n → IsAhead setting (s ∷ trace) n
stays setting s trace n other is = goes_on setting s trace n n is (λ q of. other_event s.event s.outcome n (decoded_behind q) other)
