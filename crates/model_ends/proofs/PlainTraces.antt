-- A trace that nothing interrupts has no refusal, and one without a 100 Continue has no client that got one.
use Rattle.std.proofs.Common.{◌≡◌, false, List, [], ◌∷◌, Option, Some, None, refl, ap, ◌∙◌}
use Rattle.std.specs.List.{AllByRecursion}
use Rattle.std.specs.Option.{option_or}
use Rattle.model_h1.specs.Request.{Head, Fault}
use Rattle.model_h1.specs.Event.{Event, Outcome}
use Rattle.model_h1.specs.Event as on
use Rattle.model_h1.specs.End as ends
use Rattle.model_h1.specs.Sums.{Step, head_of}
use Rattle.model_h1.specs.Laws.Exchanges.{no_reply, Exchange, changed_by, newest_changed, with_head, exchanges, refused_by, refusal}
use Rattle.model_ends.specs.PlainExchange.{IsUnrefused, HasNoContinue}

-- the client got no 100 Continue
abbrev pub IsQuiet : Exchange → Type 0
IsQuiet e = e.was_told ≡ false

-- ---- a step

-- nothing is refused
no_refusal : (before : List Step) (event : Event) (outcome : Outcome) → ((f : Fault) → ¬ (outcome ≡ on.fault f))
    → ¬ (outcome ≡ on.expired ends.slow_request) → refused_by before event outcome ≡ None
unfolding refused_by
no_refusal before on.next (on.fault f) sound in_time = absurd (sound f refl)
no_refusal before (on.tick ms) (on.expired ends.slow_request) sound in_time = absurd (in_time refl)
no_refusal before _ _ sound in_time = refl

-- a client gets none
stays_quiet : (before : List Step) (event : Event) (outcome : Outcome) (e : Exchange) → ¬ (event ≡ on.send_continue) → IsQuiet e
    → IsQuiet (changed_by before event outcome e)
unfolding changed_by
stays_quiet before on.send_continue on.done e other quiet = absurd (other refl)
stays_quiet before (on.answer head size) on.done e other quiet = quiet
stays_quiet before (on.chunk bytes) on.done e other quiet = quiet
stays_quiet before on.body_end on.done e other quiet = quiet
stays_quiet before (on.accept limit) on.done e other quiet = quiet
stays_quiet before (on.send m) on.done e other quiet = quiet
stays_quiet before _ _ e other quiet = quiet

-- ---- a trace

-- nothing is refused in it
pub none_refused : (trace : List Step) → IsUnrefused trace → refusal trace ≡ None
unfolding refusal
none_refused [] x = refl
none_refused (s ∷ before) x =
    ap (λ r. option_or r (refused_by before s.event s.outcome)) (none_refused before (record { no_fault = x.no_fault.1; in_time = x.in_time.1 }))
    ∙ no_refusal before s.event s.outcome x.no_fault.0 x.in_time.0

-- a fact of all exchanges stays, if it stays at the newest and holds of a new one
all_stay : (P : Exchange → Type 0) (h : Option Head) (change : Exchange → Exchange) (es : List Exchange)
    → ((head : Head) → P (record { head = head; was_told = false; reply = no_reply })) → ((e : Exchange) → P e → P (change e))
    → AllByRecursion P es → AllByRecursion P (with_head h (newest_changed change es))
all_stay P None change [] new stays all = tt
all_stay P (Some h) change [] new stays all = (new h, tt)
all_stay P None change (e ∷ es) new stays all = (stays e all.0, all.1)
all_stay P (Some h) change (e ∷ es) new stays all = (new h, (stays e all.0, all.1))

-- where no client got a 100 Continue, no exchange has one
pub quiet_exchanges : (trace : List Step) → HasNoContinue trace → AllByRecursion IsQuiet (exchanges trace)
unfolding exchanges
quiet_exchanges [] none = tt
quiet_exchanges (s ∷ before) none =
    all_stay IsQuiet (head_of s.outcome) (changed_by before s.event s.outcome) (exchanges before) (λ h. refl)
    (λ e. stays_quiet before s.event s.outcome e none.0) (quiet_exchanges before none.1)
