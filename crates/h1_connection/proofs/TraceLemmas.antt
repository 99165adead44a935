-- Events beside what was noted of their outcomes.
use Rattle.std.proofs.Common.{◌≡◌, ℕ, zero, suc, ◌<◌, List, [], ◌∷◌, ◌++◌, length, get_or, take, Option, Some, None, refl, sym, ap, ◌∙◌, arith}
use Rattle.std.specs.Prelude.{slice_get}
use Rattle.h1_connection.specs.Steps.{Pair, pair, paired}
use Rattle.h1_connection.specs.declared.event.Event.{Event}
use Rattle.h1_connection.specs.declared.noted.Noted.{Noted}

-- how many they are
pub length-paired : (events : List Event) (noted : List Noted) → length events ≡ length noted → length (paired events noted) ≡ length noted
length-paired events [] same = refl
length-paired [] (n ∷ noted) same = absurd (omega (arith, same))
length-paired (e ∷ events) (n ∷ noted) same = omega (arith, length-paired events noted (omega (arith, same)))

-- as many events as outcomes are enough
pub paired_take : (events : List Event) (noted : List Noted) → paired (take (length noted) events) noted ≡ paired events noted
paired_take events [] = refl
paired_take [] (n ∷ noted) = refl
paired_take (e ∷ events) (n ∷ noted) = ap (λ l. pair e n ∷ l) (paired_take events noted)

-- one outcome more
pub paired_push : (events : List Event) (noted : List Noted) (event : Event) (last : Noted) → length noted < length events → event ≡ get_or events (length noted) event
    → paired events (noted ++ last ∷ []) ≡ paired events noted ++ pair event last ∷ []
paired_push [] noted event last within is = absurd (omega (arith, within))
paired_push (e ∷ events) [] event last within is = ap (λ (x : Event). pair x last ∷ []) (sym is)
paired_push (e ∷ events) (n ∷ noted) event last within is = ap (λ l. pair e n ∷ l) (paired_push events noted event last (omega (arith, within)) is)

-- the pair at a place, where both are there
both : Option Event → Option Noted → Option Pair
both None noted = None
both (Some event) None = None
both (Some event) (Some noted) = Some (pair event noted)

neither : (event : Option Event) → both event None ≡ None
unfolding both
neither None = refl
neither (Some event) = refl

get_both : (events : List Event) (noted : List Noted) (i : ℕ) → slice_get (paired events noted) i ≡ both (slice_get events i) (slice_get noted i)
unfolding both
get_both events [] i = sym (neither (slice_get events i))
get_both [] (n ∷ noted) i = refl
get_both (e ∷ events) (n ∷ noted) zero = refl
get_both (e ∷ events) (n ∷ noted) (suc i) = get_both events noted i

pub paired_at : (events : List Event) (noted : List Noted) (i : ℕ) (event : Event) (n : Noted) → slice_get events i ≡ Some event → slice_get noted i ≡ Some n
    → slice_get (paired events noted) i ≡ Some (pair event n)
unfolding both
paired_at events noted i event n at_event at_noted = get_both events noted i ∙ (λ k. both (at_event k) (at_noted k))
