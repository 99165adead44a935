-- Where the bytes between two chunks lead.
use Rattle.std.proofs.Common.{◌≡◌, ℕ, ◌+◌, ◌*◌, ◌^◌, ◌<◌, ◌≤◌, ltb, cond, true, List, length, get_or, drop, refl, sym, ap, ◌∙◌, subst, arith}
use Rattle.std.specs.Char.{digit_value}
use Rattle.std.proofs.lemmas.Bool.{cond-true, lt-ltb}
use Rattle.model_h1.specs.Place.{Place, in_size, size_cr, bytes_end, bytes_cr, done, broken, after_digits, after_line, step, after}
use Rattle.model_h1.specs.TakeNext.{take_next}
use Rattle.model_h1.specs.Reading.{read}
use Rattle.model_h1.proofs.ReadSteps.{HasNext}
use Rattle.h1_payload.specs.Places.{is_quiet}
use Rattle.h1_payload.specs.QuietWays.{LeadsQuietly, HasLineEnd}
use Rattle.h1_payload.proofs.PassLemmas.{one_leads}
use Rattle.h1_payload.proofs.Places.{quiet_at}

-- no byte
pub none_leads : (p : Place) (bytes : List ℕ) (at : ℕ) → at ≤ length bytes → LeadsQuietly p bytes at at p
none_leads p bytes at below = record { within = below; same = refl; ending = refl; leads = refl }

-- some bytes, and then others
pub then_leads : (start p q : Place) (bytes : List ℕ) (from mid at : ℕ) → LeadsQuietly start bytes from mid p → LeadsQuietly p bytes mid at q
    → LeadsQuietly start bytes from at q
then_leads start p q bytes from mid at first then =
    record {
      within = then.within;
      same = first.same ∙ then.same;
      ending = first.ending ∙ then.ending;
      leads = first.leads ∙ then.leads;
    }

-- a quiet place has a next one
quiet_goes : (p : Place) → is_quiet p ≡ true → HasNext p
quiet_goes done quiet = cc
quiet_goes p quiet = tt

-- one more byte
pub step_leads : (start p next : Place) (bytes : List ℕ) (from at : ℕ) → LeadsQuietly start bytes from at p → is_quiet p ≡ true → at < length bytes
    → next ≡ step p (get_or bytes at 0) → LeadsQuietly start bytes from (at + 1) next
step_leads start p next bytes from at way quiet below leads =
    let one = one_leads p bytes at below (quiet_goes p quiet) in
    let rest = drop (at + 1) bytes in
    record {
      within = omega arith;
      same = way.same ∙ quiet_at p bytes at quiet below ∙ ap (λ q. take_next q rest) (sym leads);
      ending = way.ending ∙ one.ending ∙ ap (λ q. (read q rest).ending) (sym leads);
      leads = way.leads ∙ one.leads ∙ ap (λ q. after q rest) (sym leads);
    }

-- one more digit
digit_steps : (size b : ℕ) → size < 2 ^ 60 → digit_value b < 16 → step (in_size size) b ≡ in_size (size * 16 + digit_value b)
digit_steps size b fits is =
    let more = size * 16 + digit_value b in
    cond-true (ltb (digit_value b) 16) (cond (ltb more (2 ^ 64)) (in_size more) broken) (after_digits size b) (lt-ltb (digit_value b) 16 is)
    ∙ cond-true (ltb more (2 ^ 64)) (in_size more) broken (lt-ltb more (2 ^ 64) (omega arith))

pub digit_leads : (start : Place) (bytes : List ℕ) (from at size digit : ℕ) → LeadsQuietly start bytes from at (in_size size) → at < length bytes
    → size < 2 ^ 60 → digit_value (get_or bytes at 0) < 16 → digit ≡ digit_value (get_or bytes at 0)
    → LeadsQuietly start bytes from (at + 1) (in_size (size * 16 + digit))
digit_leads start bytes from at size digit way below fits is says =
    step_leads start (in_size size) (in_size (size * 16 + digit)) bytes from at way refl below
    (ap (λ d. in_size (size * 16 + d)) says ∙ sym (digit_steps size (get_or bytes at 0) fits is))

-- CR LF
two_lead : (start p q next : Place) (bytes : List ℕ) (from at : ℕ) → LeadsQuietly start bytes from at p → HasLineEnd bytes at → is_quiet p ≡ true
    → is_quiet q ≡ true → q ≡ step p 13 → next ≡ step q 10 → LeadsQuietly start bytes from (at + 2) next
two_lead start p q next bytes from at way ends quiet behind first then =
    let long = ends.0 in
    let to : at + 1 + 1 ≡ at + 2 = omega arith in
    subst (λ n. LeadsQuietly start bytes from n next) to
    (step_leads start q next bytes from (at + 1)
    (step_leads start p q bytes from at way quiet (omega arith) (first ∙ ap (step p) (sym ends.1)))
    behind (omega arith) (then ∙ ap (step q) (sym ends.2)))

-- behind the digits of a size
pub line_leads : (start : Place) (bytes : List ℕ) (from at size : ℕ) → LeadsQuietly start bytes from at (in_size size) → HasLineEnd bytes at
    → LeadsQuietly start bytes from (at + 2) (after_line size)
line_leads start bytes from at size way ends = two_lead start (in_size size) (size_cr size) (after_line size) bytes from at way ends refl refl refl refl

-- behind a chunk
pub chunk_end_leads : (bytes : List ℕ) (at : ℕ) → HasLineEnd bytes at → LeadsQuietly bytes_end bytes at (at + 2) (in_size 0)
chunk_end_leads bytes at ends =
    let long = ends.0 in
    two_lead bytes_end bytes_end bytes_cr (in_size 0) bytes at at (none_leads bytes_end bytes at (omega arith)) ends refl refl refl refl
