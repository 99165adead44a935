-- A step of a client's connection is one of what a clause sees.
use Rattle.std.proofs.Common.{◌≡◌, ◌≤◌, ◌-◌, ◌∙◌, ℕ, Bool, List, true, false, length, take, drop, min, ap, refl, sym, subst, arith, length-drop}
use Rattle.std.proofs.lemmas.List.{length-take}
use Rattle.model_h1.specs.Answer as answers
use Rattle.model_client.specs.ClientEvent as on
use Rattle.model_client.specs.ClientEvent.{ClientRequest}
use Rattle.model_client.specs.ClientKept.{client_allows, client_closing}
use Rattle.h1_payload.specs.declared.pulled.Pulled.{Pulled}
use Rattle.h1_client.specs.Answers.{SaysNext}
use Rattle.h1_client.specs.Bodies.{SaysPulled}
use Rattle.h1_client.specs.ClientMeaning.{setting_of}
use Rattle.h1_client.specs.State.{State, GoesOn, Is}
use Rattle.h1_client.specs.declared.event.NextAnswer.{NextAnswer}
use Rattle.raspcream.specs.Named.{NamesRequest}
use Rattle.raspcream.specs.Numbers.{size_said, client_reason_said, answer_kind, pulled_kind}
use Rattle.raspcream.specs.Asked.{HasMade, HasRead, HasNext, HasPulled, HasRequested, HasWritten, HasGiven, HasHeld, AreNumbersOf, HasStated}
use Rattle.raspcream.specs.Refused.{IsOut}
use Rattle.raspcream.specs.Shown.{ShowsNextAnswer, ShowsPulled}
use Rattle.raspcream.specs.declared.reply.Reply.{Reply}

pub has_made : (before seen after : State) (event : on.ClientEvent) (reply : Reply) → before ≡ seen → reply.kind ≡ 0 → GoesOn before event (Is on.done) after → HasMade event reply seen after
has_made before seen after event reply is told stands = subst (λ (s : State). HasMade event reply s after) is (record { told = told; stands = stands })

pub has_read : (before seen after : State) (input : List ℕ) (reply : Reply) (count : ℕ) → before ≡ seen → reply.kind ≡ 1 → reply.number ≡ count
    → GoesOn before (on.read input) (Is (on.took count)) after → HasRead input reply seen after
has_read before seen after input reply count is kind told stands =
    subst (λ (s : State). HasRead input reply s after) is (record { kind = kind; count = count; told = told; stands = stands })

pub has_next : (before seen after : State) (reply : Reply) (next : NextAnswer) → before ≡ seen → reply.kind ≡ answer_kind next → ShowsNextAnswer next reply
    → GoesOn before on.next (SaysNext next) after → HasNext reply seen after
has_next before seen after reply next is told shown stands =
    subst (λ (s : State). HasNext reply s after) is (record { next = next; told = told; shown = shown; stands = stands })

pub has_pulled : (before seen after : State) (reply : Reply) (answer : Pulled) → before ≡ seen → reply.kind ≡ pulled_kind answer → ShowsPulled answer reply
    → GoesOn before on.pull (SaysPulled answer) after → HasPulled reply seen after
has_pulled before seen after reply answer is told shown stands =
    subst (λ (s : State). HasPulled reply s after) is (record { answer = answer; told = told; shown = shown; stands = stands })

pub has_requested : (before seen after : State) (arg number : ℕ) (input : List ℕ) (reply : Reply) (request : ClientRequest) (size : answers.BodySize) → before ≡ seen → reply.kind ≡ 0
    → NamesRequest arg input request → size ≡ size_said number → GoesOn before (on.ask request size) (Is on.done) after → HasRequested arg number input reply seen after
has_requested before seen after arg number input reply request size is told named said stands =
    subst (λ (s : State). HasRequested arg number input reply s after) is (record { told = told; request = request; named = named; size = size; said = said; stands = stands })

pub has_written : (before seen after : State) (number count : ℕ) (reply : Reply) → before ≡ seen → reply.kind ≡ 0 → count ≡ number → count ≤ length before.kept.buffered
    → GoesOn before (on.write count) (Is (on.gave (take count before.kept.buffered))) after → HasWritten number reply seen after
has_written before seen after number count reply is told said fits stands =
    subst (λ (s : State). HasWritten number reply s after) is (record { told = told; count = count; said = said; fits = fits; stands = stands })

pub has_given : (before seen : State) (reply : Reply) (told : List ℕ) → before ≡ seen → reply.kind ≡ 10 → reply.bytes.len ≡ length told → told ≡ before.kept.buffered → HasGiven reply seen seen
has_given before seen reply told is kind len whole =
    let all : HasGiven reply before before = record { same = refl; kind = kind; whole = len ∙ ap length whole } in subst (λ (s : State). HasGiven reply s s) is all

pub has_held : (before seen : State) (place start : ℕ) (reply : Reply) → before ≡ seen → reply.kind ≡ 17 → start ≡ place → reply.bytes.len ≡ length before.kept.unread - start → HasHeld place reply seen seen
has_held before seen place start reply is kind said len =
    let all : HasHeld place reply before before = record { same = refl; kind = kind; start = start; said = said; whole = len } in subst (λ (s : State). HasHeld place reply s s) is all

-- how many bytes are left behind a place
pub left_over : (held unread : List ℕ) (start at : ℕ) → held ≡ unread → at ≡ min start (length held) → length (take (length held - at) (drop at held)) ≡ length unread - start
left_over held unread start at is least = omega (arith, length-take (length held - at) (drop at held), length-drop at held, ap length is, least)

-- ---- refusals

pub barred : (before seen : State) (event : on.ClientEvent) (answer : Bool) → before ≡ seen → answer ≡ client_allows (setting_of before.settings) before.kept event → answer ≡ false → IsOut seen event
barred before seen event answer is says not = subst (λ (s : State). IsOut s event) is (sym says ∙ not)

is_not : false ≡ true → ⊥
is_not e = cc

-- it takes memory, since what takes none doesn't fail
pub wants : (P : State → Type 0) (before seen : State) → before ≡ seen → (P before → false ≡ true) → P seen → ⊥
wants P before seen is fails = subst (λ (s : State). P s → ⊥) is (λ light. is_not (fails light))

-- the request that is named may not come
pub misasked : (before seen : State) (arg number : ℕ) (input : List ℕ) (request : ClientRequest) (size : answers.BodySize) (answer : Bool) → before ≡ seen → NamesRequest arg input request
    → size ≡ size_said number → answer ≡ client_allows (setting_of before.settings) before.kept (on.ask request size) → answer ≡ false
    → (named : ClientRequest) × NamesRequest arg input named × IsOut seen (on.ask named (size_said number))
misasked before seen arg number input request size answer is named said says not =
    (request, named, subst (λ (z : answers.BodySize). IsOut seen (on.ask request z)) said (barred before seen (on.ask request size) answer is says not))

pub has_stated : (before seen : State) (reply : Reply) → before ≡ seen → reply.kind ≡ 16 → reply.reason ≡ client_reason_said (client_closing before.kept) → AreNumbersOf before reply.state
    → HasStated reply seen seen
has_stated before seen reply is kind reason numbers =
    let all : HasStated reply before before = record { same = refl; kind = kind; reason = reason; numbers = numbers } in
    subst (λ (s : State). HasStated reply s s) is all
