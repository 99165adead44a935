-- A step of a server's connection is one of what a clause sees.
use Rattle.std.proofs.Common.{◌≡◌, ◌≤◌, ◌<◌, ◌-◌, ◌∙◌, ℕ, Bool, List, true, false, length, take, drop, ap, refl, sym, subst, length-drop}
use Rattle.model_h1.specs.Answer as answers
use Rattle.model_h1.specs.Event as on
use Rattle.model_h1.specs.Frame.{Message}
use Rattle.model_h1.specs.Sums as sums
use Rattle.model_state.specs.Ahead.{IsAhead}
use Rattle.model_state.specs.Kept.{is_free}
use Rattle.model_state.specs.Local.{allowed_by, closing_by}
use Rattle.h1_decoder.specs.declared.decoder.HeadItem.{HeadItem}
use Rattle.h1_payload.specs.Rests.{SaysPulled}
use Rattle.h1_payload.specs.declared.pulled.Pulled.{Pulled}
use Rattle.h1_connection.specs.EventMeaning.{setting_of}
use Rattle.h1_connection.specs.Frames.{accepted_of, SaysFrame, SaysSent}
use Rattle.h1_connection.specs.Given.{next_allowed, frame_allowed}
use Rattle.h1_connection.specs.Heads.{SaysNext, with_head}
use Rattle.h1_connection.specs.State.{State, GoesOn, Is, IsCounted, TakesNoMemory}
use Rattle.h1_connection.specs.Ticks.{expiry_of}
use Rattle.h1_connection.specs.declared.connection.frames.Accepted.{Accepted}
use Rattle.h1_connection.specs.declared.connection.frames.PulledFrame.{PulledFrame}
use Rattle.h1_connection.specs.declared.connection.frames.Sent.{Sent}
use Rattle.h1_connection.specs.declared.connection.heads.NextKind.{NextKind}
use Rattle.h1_connection.specs.declared.connection.ticks.Expiry.{Expiry}
use Rattle.raspcream.specs.Named.{NamesAnswer}
use Rattle.raspcream.specs.Numbers.{kind_of, size_said, reason_said, expiry_kind, pulled_kind, accepted_kind, frame_kind, sent_kind}
use Rattle.raspcream.specs.Refused.{IsBarred, MayWant}
use Rattle.raspcream.specs.Served.{HasMade, HasRead, HasNext, HasPulled, HasAnswered, HasWritten, HasTicked, HasAccepted, HasFramed, HasSent, HasGiven, HasHeld, AreNumbersOf, HasStated, HasCounted, IsMessageOf}
use Rattle.raspcream.specs.Shown.{ShowsNext, ShowsPulled, ShowsExpiry, ShowsAccepted, ShowsPulledFrame, ShowsSent}
use Rattle.raspcream.specs.declared.reply.Reply.{Reply}

pub has_made : (before seen after : State) (event : on.Event) (reply : Reply) → before ≡ seen → reply.kind ≡ 0 → GoesOn before event (Is on.done) after → HasMade event reply seen after
has_made before seen after event reply is told stands = subst (λ (s : State). HasMade event reply s after) is (record { told = told; stands = stands })

pub has_read : (before seen after : State) (input : List ℕ) (reply : Reply) (count : ℕ) → before ≡ seen → reply.kind ≡ 1 → reply.number ≡ count
    → GoesOn before (on.read input) (Is (on.took count)) after → HasRead input reply seen after
has_read before seen after input reply count is kind told stands =
    subst (λ (s : State). HasRead input reply s after) is (record { kind = kind; count = count; told = told; stands = stands })

pub has_next : (before seen after : State) (reply : Reply) (item : HeadItem) (kind : NextKind) → before ≡ seen → reply.kind ≡ kind_of kind → ShowsNext item kind reply
    → GoesOn before on.next (SaysNext (with_head item kind)) after → HasNext reply seen after
has_next before seen after reply item kind is told shown stands =
    subst (λ (s : State). HasNext reply s after) is (record { item = item; kind = kind; told = told; shown = shown; stands = stands })

pub has_pulled : (before seen after : State) (reply : Reply) (answer : Pulled) → before ≡ seen → reply.kind ≡ pulled_kind answer → ShowsPulled answer reply
    → GoesOn before on.pull (SaysPulled answer) after → HasPulled reply seen after
has_pulled before seen after reply answer is told shown stands =
    subst (λ (s : State). HasPulled reply s after) is (record { answer = answer; told = told; shown = shown; stands = stands })

pub has_answered : (before seen after : State) (arg number : ℕ) (input : List ℕ) (reply : Reply) (head : answers.AnswerHead) (size : answers.BodySize) → before ≡ seen → reply.kind ≡ 0 → NamesAnswer arg input head
    → size ≡ size_said number → GoesOn before (on.answer head size) (Is on.done) after → HasAnswered arg number input reply seen after
has_answered before seen after arg number input reply head size is told named said stands =
    subst (λ (s : State). HasAnswered arg number input reply s after) is (record { told = told; head = head; named = named; size = size; said = said; stands = stands })

pub has_written : (before seen after : State) (number count : ℕ) (reply : Reply) → before ≡ seen → reply.kind ≡ 0 → count ≡ number → count ≤ length before.kept.buffered
    → GoesOn before (on.write count) (Is (on.gave (take count before.kept.buffered))) after → HasWritten number reply seen after
has_written before seen after number count reply is told said fits stands =
    subst (λ (s : State). HasWritten number reply s after) is (record { told = told; count = count; said = said; fits = fits; stands = stands })

pub has_ticked : (before seen after : State) (reply : Reply) (moment : ℕ) (expiry : Expiry) → before ≡ seen → reply.kind ≡ expiry_kind expiry → ShowsExpiry expiry reply
    → GoesOn before (on.tick moment) (Is (expiry_of expiry)) after → HasTicked moment reply seen after
has_ticked before seen after reply moment expiry is told shown stands =
    subst (λ (s : State). HasTicked moment reply s after) is (record { expiry = expiry; told = told; shown = shown; stands = stands })

pub has_accepted : (before seen after : State) (reply : Reply) (number limit : ℕ) (answer : Accepted) → before ≡ seen → limit ≡ number → reply.kind ≡ accepted_kind answer → ShowsAccepted answer reply
    → GoesOn before (on.accept limit) (Is (accepted_of answer)) after → HasAccepted number reply seen after
has_accepted before seen after reply number limit answer is said told shown stands =
    subst (λ (s : State). HasAccepted number reply s after) is (record { limit = limit; said = said; answer = answer; told = told; shown = shown; stands = stands })

pub has_framed : (before seen after : State) (reply : Reply) (answer : PulledFrame) → before ≡ seen → reply.kind ≡ frame_kind answer → ShowsPulledFrame answer reply
    → GoesOn before on.pull (SaysFrame answer) after → HasFramed reply seen after
has_framed before seen after reply answer is told shown stands =
    subst (λ (s : State). HasFramed reply s after) is (record { answer = answer; told = told; shown = shown; stands = stands })

pub has_sent : (before seen after : State) (arg number : ℕ) (input : List ℕ) (reply : Reply) (message : Message) (answer : Sent) → before ≡ seen
    → IsMessageOf arg number input message → reply.kind ≡ sent_kind answer → ShowsSent answer reply → GoesOn before (on.send message) (SaysSent answer) after → HasSent arg number input reply seen after
has_sent before seen after arg number input reply message answer is named told shown stands =
    subst (λ (s : State). HasSent arg number input reply s after) is (record { message = message; named = named; answer = answer; told = told; shown = shown; stands = stands })

pub has_given : (before seen : State) (reply : Reply) (told : ℕ) → before ≡ seen → reply.kind ≡ 10 → reply.bytes.len ≡ told → told ≤ length before.kept.buffered
    → (told ≡ 0 → length before.kept.buffered ≡ 0) → HasGiven reply seen seen
has_given before seen reply told is kind len fits some =
    let all : HasGiven reply before before = record { same = refl; kind = kind; fits = subst (λ (n : ℕ). n ≤ length before.kept.buffered) (sym len) fits; some = λ none. some (sym len ∙ none) } in
    subst (λ (s : State). HasGiven reply s s) is all

pub has_held : (before seen : State) (place start : ℕ) (reply : Reply) (told : List ℕ) → before ≡ seen → reply.kind ≡ 17 → start ≡ place → reply.bytes.len ≡ length told
    → length told ≤ length before.kept.unread - start → (start < length before.kept.unread → 0 < length told)
    → (is_free before.kept ≡ false → told ≡ drop start before.kept.unread) → HasHeld place reply seen seen
has_held before seen place start reply told is kind said len fits some whole =
    let all : HasHeld place reply before before = record {
      same = refl;
      kind = kind;
      start = start;
      said = said;
      fits = subst (λ (n : ℕ). n ≤ length before.kept.unread - start) (sym len) fits;
      some = λ below. subst (λ (n : ℕ). 0 < n) (sym len) (some below);
      whole = λ used. len ∙ (ap length (whole used) ∙ length-drop start before.kept.unread);
    } in
    subst (λ (s : State). HasHeld place reply s s) is all

-- ---- refusals

pub barred : (before seen : State) (event : on.Event) (answer : Bool) → before ≡ seen → answer ≡ allowed_by (setting_of before.settings) before.kept event → answer ≡ false → IsBarred seen event
barred before seen event answer is says not = subst (λ (s : State). IsBarred s event) is (sym says ∙ not)

pub barred_accept : (before seen : State) (number limit : ℕ) (answer : Bool) → before ≡ seen → limit ≡ number → answer ≡ allowed_by (setting_of before.settings) before.kept (on.accept limit)
    → answer ≡ false → IsBarred seen (on.accept number)
barred_accept before seen number limit answer is said says not =
    subst (λ (n : ℕ). IsBarred seen (on.accept n)) said (barred before seen (on.accept limit) answer is says not)

is_not : false ≡ true → ⊥
is_not e = cc

pub wants : (before seen : State) (event : on.Event) → before ≡ seen → (TakesNoMemory before event → false ≡ true) → MayWant seen event
wants before seen event is fails = subst (λ (s : State). MayWant s event) is (λ light. is_not (fails light))

pub barred_next : (before seen : State) (answer : Bool) → before ≡ seen → answer ≡ next_allowed (setting_of before.settings) before.kept → answer ≡ false
    → next_allowed (setting_of seen.settings) seen.kept ≡ false
barred_next before seen answer is says not = subst (λ (s : State). next_allowed (setting_of s.settings) s.kept ≡ false) is (sym says ∙ not)

pub barred_frame : (before seen : State) (answer : Bool) → before ≡ seen → answer ≡ frame_allowed (setting_of before.settings) before.kept → answer ≡ false
    → frame_allowed (setting_of seen.settings) seen.kept ≡ false
barred_frame before seen answer is says not = subst (λ (s : State). frame_allowed (setting_of s.settings) s.kept ≡ false) is (sym says ∙ not)

pub has_stated : (before seen : State) (reply : Reply) → before ≡ seen → reply.kind ≡ 16 → reply.reason ≡ reason_said (closing_by (setting_of before.settings) before.kept)
    → AreNumbersOf before reply.state → HasStated reply seen seen
has_stated before seen reply is kind reason numbers =
    let all : HasStated reply before before = record { same = refl; kind = kind; reason = reason; numbers = numbers } in
    subst (λ (s : State). HasStated reply s s) is all

pub has_counted : (before seen : State) (reply : Reply) (count : ℕ) → before ≡ seen → reply.kind ≡ 18 → reply.number ≡ count → count ≡ before.ahead
    → ((trace : List sums.Step) → IsCounted before trace → IsAhead (setting_of before.settings) trace count) → HasCounted reply seen seen
has_counted before seen reply count is kind told value traced =
    let all : HasCounted reply before before = record {
      same = refl;
      kind = kind;
      told = told ∙ value;
      counted = λ trace counts. subst (λ (n : ℕ). IsAhead (setting_of before.settings) trace n) (sym told) (traced trace counts);
    } in
    subst (λ (s : State). HasCounted reply s s) is all

-- counting wants memory only where a head stands ahead
pub wants_count : (before seen : State) → before ≡ seen → (before.ahead ≡ 0 → false ≡ true) → seen.ahead ≡ 0 → ⊥
wants_count before seen is fails = subst (λ (s : State). s.ahead ≡ 0 → ⊥) is (λ none. is_not (fails none))
