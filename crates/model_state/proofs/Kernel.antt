-- What holds of every past alike: why it closes, what is allowed, whether a head is coming; and with them a step.
use Rattle.std.proofs.Common.{◌≡◌, ℕ, List, ◌∷◌, Option, Some, None, refl, sym, ap, ◌∙◌, subst}
use Rattle.std.specs.Prelude.{is_some, if◌then◌else◌}
use Rattle.std.specs.Option.{option_or}
use Rattle.model_h1.specs.Setting.{Setting}
use Rattle.model_h1.specs.Event.{Event}
use Rattle.model_h1.specs.End.{End}
use Rattle.model_h1.specs.Sums.{last_tick}
use Rattle.model_h1.specs.Past.{ParsedStep, steps}
use Rattle.model_h1.specs.Closing.{closing, closing_since}
use Rattle.model_h1.specs.Allowed.{is_allowed}
use Rattle.model_h1.proofs.PastLemmas.{Legal}
use Rattle.model_state.specs.Kept.{Kept, is_free}
use Rattle.model_state.specs.Local.{closing_by, allowed_by}
use Rattle.model_state.specs.Change.{IsComing, noting_since, IsStep}
use Rattle.model_state.specs.KeptOf.{kept_of}
use Rattle.model_state.proofs.Changes.{bare, Changes}
use Rattle.model_state.proofs.Closing.{closing_same}
use Rattle.model_state.proofs.Allowed.{allowed_same}
use Rattle.model_state.proofs.Coming.{coming_same}

-- what is kept tells why the connection closes
pub closing_of : (setting : Setting) (past : List ParsedStep) → Legal setting past → closing_by setting (kept_of setting past) ≡ closing setting past
closing_of setting past l = closing_same setting past l

-- and which events are allowed
pub allowed_of : (setting : Setting) (past : List ParsedStep) (event : Event) → Legal setting past
    → allowed_by setting (kept_of setting past) event ≡ is_allowed setting past event
allowed_of setting past event l = allowed_same setting past event l

-- whether a head is coming is as the bytes say
pub coming_of : (setting : Setting) (past : List ParsedStep) → Legal setting past
    → IsComing (is_free (kept_of setting past)) (kept_of setting past).unread (kept_of setting past).is_coming
coming_of setting past l = coming_same setting past l

-- ---- a step

-- why a connection closes doesn't depend on since when
closing_bare : (setting : Setting) (k : Kept) (since : Option (Option ℕ))
    → closing_by setting (record k { closing_since = since }) ≡ closing_by setting k
unfolding closing_by
closing_bare setting k since = refl

-- since when the connection closes, of one more step
since-cons : (setting : Setting) (x : ParsedStep) (before : List ParsedStep)
    → closing_since setting (x ∷ before)
    ≡ option_or (closing_since setting before) (if is_some (closing setting (x ∷ before)) then Some (last_tick (steps (x ∷ before))) else None)
unfolding closing_since
since-cons setting x before = refl

-- what is noted last: whether a head is coming, and since when the connection closes
noted : (setting : Setting) (before : List ParsedStep) (x : ParsedStep) (k : Kept) → Legal setting (x ∷ before)
    → bare k ≡ bare (kept_of setting (x ∷ before)) → k.closing_since ≡ closing_since setting before
    → kept_of setting (x ∷ before) ≡ noting_since setting (record k { is_coming = (kept_of setting (x ∷ before)).is_coming })
noted setting before x k l parts since =
    let all = kept_of setting (x ∷ before) in
    let earlier : Kept = record all { closing_since = closing_since setting before } in
    let same : record k { is_coming = all.is_coming } ≡ earlier =
    λ i. record (parts i) { is_coming = all.is_coming; closing_since = since i } in
    let closes : closing_by setting earlier ≡ closing setting (x ∷ before) = closing_bare setting all (closing_since setting before) ∙ closing_of setting (x ∷ before) l in
    let now : all.closing_since ≡ (noting_since setting earlier).closing_since =
    since-cons setting x before
    ∙ sym (ap (λ (c : Option End). option_or (closing_since setting before) (if is_some c then Some (last_tick (steps (x ∷ before))) else None)) closes) in
    (λ i. record all { closing_since = now i }) ∙ sym (ap (noting_since setting) same)

-- what an event changes makes a step
pub step_of : (setting : Setting) (before : List ParsedStep) (x : ParsedStep) → Legal setting (x ∷ before) → Changes setting before x
    → IsStep setting (kept_of setting before) x.step.event x.step.outcome (kept_of setting (x ∷ before))
step_of setting before x l c =
    let all = kept_of setting (x ∷ before) in
    record {
      change = c.change;
      coming = all.is_coming;
      changes = c.changes;
      answers = c.answers;
      comes = subst (λ (k : Kept). IsComing (is_free k) k.unread all.is_coming) (sym c.parts) (coming_of setting (x ∷ before) l);
      keeps = noted setting before x c.change.kept l c.parts c.since;
    }
