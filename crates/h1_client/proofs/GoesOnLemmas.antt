-- A step of the parts is one of the connection.
use Rattle.std.proofs.Common.{◌≡◌, ℕ, ◌<◌, ◌≤◌, Bool, true, false, not, ◌&&◌, List, [], ◌∷◌, length, Option, Some, None, Result, Ok, Err, refl, sym, ap, ◌∙◌, subst}
use Rattle.std.proofs.lemmas.Bool.{ltb-true}
use Rattle.std.specs.Prelude.{IsTrue, OnOk, OnErr, IfOk, option_map, is_some, nat_lt, nat_le, if◌then◌else◌}
use Rattle.http_config.specs.Config.{Settings}
use Rattle.http_framing.specs.declared.body.size.BodySize.{BodySize}
use Rattle.http_types.specs.declared.requests.head.RequestHead.{RequestHead}
use Rattle.h1_encoder.specs.Meaning.{size_of}
use Rattle.model_h1.specs.Limits.{MAX_MOMENT}
use Rattle.model_h1.specs.Setting.{Setting}
use Rattle.model_client.specs.ClientEvent as on
use Rattle.model_client.specs.ClientKept.{ClientKept, client_allows}
use Rattle.model_client.specs.ClientTrace.{Happened}
use Rattle.h1_encoder.specs.RequestMeaning.{has_text}
use Rattle.h1_client.specs.Bodies.{is_dropped_in, SaysPulled, IsPulledIn}
use Rattle.h1_client.specs.Answers.{SaysNext, IsNexted}
use Rattle.h1_client.specs.ClientMeaning.{setting_of, request_of}
use Rattle.h1_client.specs.Parts.{kept_of, reading_of, IsSound, Steps}
use Rattle.h1_client.specs.State.{State, IsAllowed, Stands, GoesOn, Is}
use Rattle.h1_client.specs.declared.connection.bodies.Reading.{Reading}
use Rattle.h1_client.specs.declared.connection.parts.Parts.{Parts}

-- ---- results

-- sound parts stay sound, whatever is answered
pub still_sound : {A E : Type 0} (r : Result A E) (p q : Parts) → IsSound p → OnOk r (IsSound q) → OnErr r (q ≡ p) → IsSound q
still_sound (Ok a) p q was sound same = sound
still_sound (Err e) p q was sound same = subst (λ (p : Parts). IsSound p) (sym same) was

pub ok_map : {A E : Type 0} (r : Result A E) (P Q : A → Type 0) → ((a : A) → P a → Q a) → IfOk r P → IfOk r Q
ok_map (Ok a) P Q f x = f a x
ok_map (Err e) P Q f x = tt

pub on_map : {A E : Type 0} (r : Result A E) (P Q : Type 0) → (P → Q) → OnOk r P → OnOk r Q
on_map (Ok a) P Q f x = f x
on_map (Err e) P Q f x = tt

err_map : {A E : Type 0} (r : Result A E) (P Q : Type 0) → (P → Q) → OnErr r P → OnErr r Q
err_map (Ok a) P Q f x = tt
err_map (Err e) P Q f x = f x

-- ---- a state

abbrev pub state_of : Settings → Parts → State
state_of s p = record { settings = s; kept = kept_of p }

-- an error changes nothing
pub same_state : {A E : Type 0} (r : Result A E) (s : Settings) (p q : Parts) (now : State) → state_of s p ≡ now → OnErr r (q ≡ p) → OnErr r (state_of s q ≡ now)
same_state r s p q now view same = err_map r (q ≡ p) (state_of s q ≡ now) (λ e. ap (λ (p : Parts). state_of s p) e ∙ view) same

goes_from : (s : Settings) (p q : Parts) (event : on.ClientEvent) (out : on.ClientOutcome) (Says : on.ClientOutcome → Type 0) → Says out
    → Steps (setting_of s) p event out q → IsAllowed (state_of s p) event → GoesOn (state_of s p) event Says (state_of s q)
goes_from s p q event out Says says steps allowed =
    record { outcome = out; says = says; step = steps; stands = λ trace stands. (kept_of p, stands, allowed, steps) }

-- a step of the parts is one of the connection
pub goes_on : (now : State) (s : Settings) (p q : Parts) (event : on.ClientEvent) (out : on.ClientOutcome) (Says : on.ClientOutcome → Type 0) → state_of s p ≡ now
    → IsAllowed now event → Says out → Steps (setting_of s) p event out q → GoesOn now event Says (state_of s q)
goes_on now s p q event out Says view allowed says steps =
    subst (λ (m : State). IsAllowed m event → GoesOn m event Says (state_of s q)) view (goes_from s p q event out Says says steps) allowed

-- one with the outcome that is told
pub goes_so : (now : State) (s : Settings) (p q : Parts) (event : on.ClientEvent) (out : on.ClientOutcome) → state_of s p ≡ now
    → IsAllowed now event → Steps (setting_of s) p event out q → GoesOn now event (Is out) (state_of s q)
goes_so now s p q event out view allowed steps = goes_on now s p q event out (Is out) view allowed refl steps

-- what is said of the connection is said of its parts
pub allowed_parts : (now : State) (s : Settings) (p : Parts) (event : on.ClientEvent) → state_of s p ≡ now → IsAllowed now event → IsAllowed (state_of s p) event
allowed_parts now s p event view allowed = subst (λ (m : State). IsAllowed m event) (sym view) allowed
