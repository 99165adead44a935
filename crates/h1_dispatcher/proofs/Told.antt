-- A service as a view sees it: its answers by what their bodies give.
use Rattle.std.proofs.Common.{ℕ, Option, Some, None, List, [], ◌∷◌, Result, Ok, Err, ap, map, option_map, ◌∙◌}
use Rattle.std.proofs.lemmas.List.{map-append}
use Rattle.futures.specs.declared.task.Poll.{Poll}
use Rattle.futures.specs.declared.task.Poll.TheVariants.{Ready, Pending}
use Rattle.http_bodies.specs.Giving.{Giving}
use Rattle.http_bodies.specs.Told.{Grows, Waits, Caused}
use Rattle.http_types.specs.Response.{FullResponse}
use Rattle.http_services.specs.Serving.{Serving, NeverFails, ReadySays, CallSays, AnswerSays, given}
use Rattle.h1_dispatcher.specs.View.{Asking, Answer, told_response, told_result, told_service}

-- whether it takes a call, and the answer of a call
abbrev pub readiness : {B : Type 0} → (B → Giving) → Poll (Result Unit (FullResponse B)) → Poll (Result Unit Answer)
readiness gives (Ready (Ok x)) = Ready (Ok x)
readiness gives (Ready (Err r)) = Ready (Err (told_response gives r))
readiness gives Pending = Pending

abbrev pub answering : {B : Type 0} → (B → Giving) → Poll (Result (FullResponse B) (FullResponse B)) → Poll (Result Answer Answer)
answering gives (Ready r) = Ready (told_result gives r)
answering gives Pending = Pending

sure_so : {B : Type 0} (gives : B → Giving) (called : Option (List Asking)) (r : Poll (Result Unit (FullResponse B))) → NeverFails called r → NeverFails called (readiness gives r)
sure_so gives None r is = tt
sure_so gives (Some called) (Ready (Ok x)) is = tt
sure_so gives (Some called) (Ready (Err e)) is = absurd is
sure_so gives (Some called) Pending is = tt

cause_so : {B : Type 0} (gives : B → Giving) (a b : ℕ) (r : Poll (Result Unit (FullResponse B))) → Caused a b r → Caused a b (readiness gives r)
cause_so gives a b (Ready (Ok x)) is = is
cause_so gives a b (Ready (Err e)) is = is
cause_so gives a b Pending is = is

waits_so : {B : Type 0} (gives : B → Giving) (a b : ℕ) (r : Poll (Result Unit (FullResponse B))) → Waits a b r → Waits a b (readiness gives r)
waits_so gives a b (Ready (Ok x)) is = is
waits_so gives a b (Ready (Err e)) is = is
waits_so gives a b Pending is = is

pub told_ready : {B : Type 0} (gives : B → Giving) (old new : Serving Asking (FullResponse B) (FullResponse B)) (r : Poll (Result Unit (FullResponse B)))
    → ReadySays old new r → ReadySays (told_service gives old) (told_service gives new) (readiness gives r)
told_ready gives old new r says = record {
  called = says.called;
  answered = ap (λ a. option_map (map (told_result gives)) a) says.answered;
  sure = sure_so gives old.called r says.sure;
  cause = cause_so gives old.faults new.faults r says.cause;
  ready_waits = waits_so gives old.ready_waits new.ready_waits r says.ready_waits;
  call_waits = says.call_waits;
}

pub told_call : {B : Type 0} (gives : B → Giving) (old new : Serving Asking (FullResponse B) (FullResponse B)) (request : Asking)
    → CallSays old new request → CallSays (told_service gives old) (told_service gives new) request
told_call gives old new request says = record {
  called = says.called;
  answered = ap (λ a. option_map (map (told_result gives)) a) says.answered;
  faults = says.faults;
  ready_waits = says.ready_waits;
  call_waits = says.call_waits;
}

grows_so : {B : Type 0} (gives : B → Giving) (old new : Option (List (Result (FullResponse B) (FullResponse B)))) (r : Poll (Result (FullResponse B) (FullResponse B)))
    → Grows old new (given r) → Grows (option_map (map (told_result gives)) old) (option_map (map (told_result gives)) new) (given (answering gives r))
grows_so gives None new (Ready r) is = ap (λ a. option_map (map (told_result gives)) a) is
grows_so gives None new Pending is = ap (λ a. option_map (map (told_result gives)) a) is
grows_so gives (Some known) new (Ready r) is = ap (λ a. option_map (map (told_result gives)) a) is ∙ ap Some (map-append (told_result gives) known (r ∷ []))
grows_so gives (Some known) new Pending is = ap (λ a. option_map (map (told_result gives)) a) is ∙ ap Some (map-append (told_result gives) known [])

answer_cause : {B : Type 0} (gives : B → Giving) (a b : ℕ) (r : Poll (Result (FullResponse B) (FullResponse B))) → Caused a b r → Caused a b (answering gives r)
answer_cause gives a b (Ready (Ok x)) is = is
answer_cause gives a b (Ready (Err e)) is = is
answer_cause gives a b Pending is = is

answer_waits : {B : Type 0} (gives : B → Giving) (a b : ℕ) (r : Poll (Result (FullResponse B) (FullResponse B))) → Waits a b r → Waits a b (answering gives r)
answer_waits gives a b (Ready r) is = is
answer_waits gives a b Pending is = is

pub told_answer : {B : Type 0} (gives : B → Giving) (old new : Serving Asking (FullResponse B) (FullResponse B)) (r : Poll (Result (FullResponse B) (FullResponse B)))
    → AnswerSays old new r → AnswerSays (told_service gives old) (told_service gives new) (answering gives r)
told_answer gives old new r says = record {
  called = says.called;
  answered = grows_so gives old.answered new.answered r says.answered;
  cause = answer_cause gives old.faults new.faults r says.cause;
  ready_waits = says.ready_waits;
  call_waits = answer_waits gives old.call_waits new.call_waits r says.call_waits;
}
