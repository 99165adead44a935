-- What is known of a service and of a call of it, and how each method changes that.
use Rattle.std.specs.Prelude.{◌≡◌, ◌≤◌, ℕ, Bool, true, Option, Some, None, List, [], ◌∷◌, ⊤, Result, Ok, Err}
use Rattle.futures.specs.declared.task.Poll.{Poll}
use Rattle.futures.specs.declared.task.Poll.TheVariants.{Ready, Pending}
use Rattle.futures.specs.Poll.{OnPending}
use Rattle.http_bodies.specs.Told.{Grows, Waits, Caused}
use Rattle.http_services.specs.Lent.{Lent, Took, TakesOnly, LentBound}

-- a service: the requests that it was called with and the answers that it gave, if they are known; how often it failed,
-- and how often it was pending in each of its two polls
pub record Serving (Q A E : Type 0) : Type 0 where
  pub called : Option (List Q)
  pub answered : Option (List (Result A E))
  pub faults : ℕ
  pub ready_waits : ℕ
  pub call_waits : ℕ

-- a call: whether it may be polled; its request and what it took of what it was lent, if they are known
pub record Calling (Q : Type 0) : Type 0 where
  pub is_open : Bool
  pub asked : Option Q
  pub took : Option Took

-- a service that knows this, its calls or the function by which it answers, refuses none
abbrev pub NeverFails : {A E T : Type 0} → Option T → Poll (Result A E) → Type 0
NeverFails None result = ⊤
NeverFails (Some called) (Ready (Ok x)) = ⊤
NeverFails (Some called) (Ready (Err e)) = ⊥
NeverFails (Some called) Pending = ⊤

-- the answer of a service that is asked whether it takes a call, and that of a call
abbrev pub Readiness : Type 0 → Type 0
Readiness E = Poll (Result Unit E)

abbrev pub Answering : Type 0 → Type 0 → Type 0
Answering A E = Poll (Result A E)

-- a service of which nothing is known beforehand but its counts, and a call of one
abbrev pub unknown_service : {Q A E : Type 0} → ℕ → ℕ → ℕ → Serving Q A E
unknown_service faults ready_waits call_waits =
    record { called = None; answered = None; faults = faults; ready_waits = ready_waits; call_waits = call_waits }

abbrev pub unknown_call : {Q : Type 0} → Calling Q
unknown_call = record { is_open = true; asked = None; took = None }

-- what a handler did with the request of a call is what the call answers
abbrev pub HandsOn : {Q A E : Type 0} → (Q → Result A E → Type 0) → Option Q → Answering A E → Type 0
HandsOn handled None result = ⊤
HandsOn handled (Some request) (Ready answer) = handled request answer
HandsOn handled (Some request) Pending = ⊥

pub record ReadySays {Q A E : Type 0} (old new : Serving Q A E) (result : Poll (Result Unit E)) : Type 0 where
  pub called : new.called ≡ old.called
  pub answered : new.answered ≡ old.answered
  pub sure : NeverFails old.called result
  pub cause : Caused old.faults new.faults result
  pub ready_waits : Waits old.ready_waits new.ready_waits result
  pub call_waits : new.call_waits ≡ old.call_waits

pub record CallSays {Q A E : Type 0} (old new : Serving Q A E) (request : Q) : Type 0 where
  pub called : Grows old.called new.called (request ∷ [])
  pub answered : new.answered ≡ old.answered
  pub faults : new.faults ≡ old.faults
  pub ready_waits : new.ready_waits ≡ old.ready_waits
  pub call_waits : new.call_waits ≡ old.call_waits

abbrev pub given : {A : Type 0} → Poll A → List A
given (Ready x) = x ∷ []
given Pending = []

pub record AnswerSays {Q A E : Type 0} (old new : Serving Q A E) (result : Poll (Result A E)) : Type 0 where
  pub called : new.called ≡ old.called
  pub answered : Grows old.answered new.answered (given result)
  pub cause : Caused old.faults new.faults result
  pub ready_waits : new.ready_waits ≡ old.ready_waits
  pub call_waits : Waits old.call_waits new.call_waits result

-- a new call took nothing
abbrev pub TookNothing : Option Took → Type 0
TookNothing None = ⊤
TookNothing (Some took) = (took.bytes ≡ []) × (took.error ≡ None)

-- a call whose taking is known takes only what it was lent, and puts nothing else back
abbrev pub Takes : Option Took → Option Took → Lent → Lent → Type 0
Takes None more old new = more ≡ None
Takes (Some took) None old new = ⊥
Takes (Some took) (Some more) old new = TakesOnly took more old new

-- a new call knows its request, where the service answers each by a function of it
abbrev pub Asks : {Q A : Type 0} → Option (Q → A) → Option Q → Q → Type 0
Asks None asked request = ⊤
Asks (Some f) asked request = asked ≡ Some request

abbrev pub AnswersBy : {Q A E : Type 0} → (Q → A) → Option Q → Option Q → Poll (Result A E) → Type 0
AnswersBy f None later result = NeverFails (Some f) result
AnswersBy f (Some request) later (Ready answer) = answer ≡ Ok (f request)
AnswersBy f (Some request) later Pending = later ≡ Some request

-- and it answers by that function
abbrev pub Answers : {Q A E : Type 0} → Option (Q → A) → Option Q → Option Q → Poll (Result A E) → Type 0
Answers None asked later result = ⊤
Answers (Some f) asked later result = AnswersBy f asked later result

pub record BeginSays {Q A : Type 0} (echoes : Option (Q → A)) (request : Q) (new : Calling Q) : Type 0 where
  pub is_open : new.is_open ≡ true
  pub asks : Asks echoes new.asked request
  pub took : TookNothing new.took

-- the first law of what is lent holds of every service, the others where the call's taking is known
pub record PollSays {Q A E : Type 0} (echoes : Option (Q → A)) (old new : Calling Q) (before after : Lent) (result : Poll (Result A E)) : Type 0 where
  pub bound : LentBound before after
  pub is_open : OnPending result (new.is_open ≡ true)
  pub answers : Answers echoes old.asked new.asked result
  pub takes : Takes old.took new.took before after
