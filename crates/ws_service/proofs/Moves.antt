-- Single steps, by what the calls of a turn ensure.
use Rattle.std.proofs.Common.{◌≡◌, ◌<◌, ◌≤◌, ◌⊎◌, ℕ, Bool, true, false, Some, None, List, [], ◌∷◌, ◌++◌, length, take, Result, Ok, inl, inr, refl, sym, ap, ◌∙◌, subst, arith, length-append}
use Rattle.std.specs.Prelude.{zero, suc}
use Rattle.futures.specs.declared.task.Poll.{Poll}
use Rattle.futures.specs.declared.task.Poll.TheVariants.{Ready, Pending}
use Rattle.http_config.specs.declared.Failed.{Failed}
use Rattle.http_transport.specs.Wiring.{ReadSays, moved}
use Rattle.ws_frames.specs.Sent.{message_says}
use Rattle.ws_frames.specs.declared.message.Message.{Message}
use Rattle.model_h1.specs.Event as on
use Rattle.model_h1.specs.Frame as said
use Rattle.model_h1.specs.Setting.{Setting}
use Rattle.model_state.specs.Kept.{Kept}
use Rattle.model_state.specs.Local.{allowed_by}
use Rattle.h1_connection.specs.EventMeaning.{setting_of, SaysOutcome}
use Rattle.h1_connection.specs.declared.event.Outcome.TheVariants as out
use Rattle.h1_connection.specs.declared.event.Outcome.{Outcome}
use Rattle.h1_traced.specs.Traced.{TracedSteps, TracedFails}
use Rattle.ws_service.specs.declared.item.UpgradeItem.{UpgradeItem}
use Rattle.ws_service.specs.declared.dispatcher.Ending.TheVariants.{Broken}
use Rattle.ws_service.specs.declared.dispatcher.serve_frames.Given.{Given}
use Rattle.ws_service.specs.declared.dispatcher.serve_frames.Given.TheVariants.{Nothing}
use Rattle.ws_service.specs.Polls.{Needs}
use Rattle.ws_service.specs.View.{View, Stage, free, waiting, calling, sending, is_waiting, is_calling, is_sending, allows, allows_pull, allows_send, buffered, room}
use Rattle.ws_service.specs.Steps.{IsStep, IsFront, Took, shows_end, given_of, stage_given, FindsNone, WantsMemory, read, ready, pulled, sent, unsent, failed_read}

-- ---- how far the service is

pub now_waiting : (s : Stage) → is_waiting s ≡ true → (item : UpgradeItem) × (s ≡ waiting item)
now_waiting (waiting item) is = (item, refl)
now_waiting free is = absurd (cc is)
now_waiting calling is = absurd (cc is)
now_waiting (sending message) is = absurd (cc is)

pub now_calling : (s : Stage) → is_calling s ≡ true → s ≡ calling
now_calling calling is = refl
now_calling free is = absurd (cc is)
now_calling (waiting item) is = absurd (cc is)
now_calling (sending message) is = absurd (cc is)

pub now_sending : (s : Stage) → is_sending s ≡ true → (message : Message) × (s ≡ sending message)
now_sending (sending message) is = (message, refl)
now_sending free is = absurd (cc is)
now_sending (waiting item) is = absurd (cc is)
now_sending calling is = absurd (cc is)

-- ---- what stays

-- who notes the steps listens as before
pub unchanged : (w : View) (b : Bool) → w.listening ≡ b → w ≡ record w { listening = b }
unchanged w b is = ap (λ x. record w { listening = x }) is

-- and the end of the input has been shown where a read showed it
pub read_leaves : (w : View) (b : Bool) (answer : Poll (Result ℕ Failed)) → w.listening ≡ b → w.input_ended ≡ shows_end answer → w ≡ record w { listening = b; input_ended = shows_end answer }
read_leaves w b answer listens ends = ap (λ x. record w { listening = x }) listens ∙ ap (λ x. record w { listening = b; input_ended = x }) ends

pub none_ends : (n : ℕ) → n ≡ 0 → true ≡ shows_end (Ready (Ok n))
none_ends n is = sym (ap (λ m. shows_end (Ready (Ok m))) is)

pub some_goes : (b : Bool) (n : ℕ) → 0 < n → b ≡ false → b ≡ shows_end (Ready (Ok n))
some_goes b zero some is = absurd (omega (arith, some))
some_goes b (suc n) some is = is

-- ---- memory

-- what failed fails only where someone listens
pub heard : (b : Bool) → (b ≡ false → false ≡ true) → b ≡ true
heard true sure = refl
heard false sure = sure refl

-- or where the connection takes memory
pub wanted : (P : Type 0) (b : Bool) → (b ≡ false → P → false ≡ true) → (b ≡ true) ⊎ ¬ P
wanted P true sure = inl refl
wanted P false sure =
    inr
    (λ takes.
    let never : false ≡ true = sure refl takes in
    cc never)

-- ---- the transport

front_some : (front all : List ℕ) → (length front ≡ 0 → length all ≡ 0) → 0 < length all → 0 < length front
front_some [] all some waits =
    absurd
    (let none : length all ≡ 0 = some refl in
    omega (arith, none, waits))
front_some (b ∷ front) all some waits = omega arith

-- what the transport was given stands first of what waits
pub offered : (v : View) (front : List ℕ) → 0 < length (buffered v) → ((rest : List ℕ) × (front ++ rest ≡ buffered v)) → (length front ≡ 0 → length (buffered v) ≡ 0) → IsFront v front
offered v front waits first some = record { rest = first.0; first = first.1; some = front_some front (buffered v) some waits }

-- so no more was taken than waits
pub bounded : (v : View) (front : List ℕ) (n : ℕ) → IsFront v front → n ≤ length front → n ≤ length (buffered v)
bounded v front n is fits = omega (arith, fits, length-append front is.rest, ap length is.first)

pub read_step : (v w : View) (came buf : List ℕ) (answer : Poll (Result ℕ Failed)) → v.ending ≡ None → allows v on.eof ≡ true → v.input_ended ≡ false → 0 < length buf → length buf ≤ room v
    → came ≡ moved answer buf → ReadSays v.transport w.transport answer buf → Took v.traced w.traced came answer
    → w ≡ record v { traced = w.traced; transport = w.transport; input_ended = shows_end answer } → IsStep v (read came answer) w
read_step v w came buf answer running may coming some fits moves says took same = (running, may, (buf, some, fits, moves, says), took, same, coming)

pub read_fails : (v w : View) (came buf : List ℕ) (count : ℕ) → v.ending ≡ None → allows v on.eof ≡ true → v.input_ended ≡ false → 0 < length buf → length buf ≤ room v
    → came ≡ take count buf → ReadSays {E = Failed} v.transport w.transport (Ready (Ok count)) buf → 0 < count → TracedFails v.traced (on.read came) w.traced
    → w ≡ record v { traced = w.traced; transport = w.transport; ending = Some Broken } → IsStep v (failed_read came) w
read_fails v w came buf count running may coming some fits moves says is fails same = (running, may, (buf, count, some, fits, moves, says, is), fails, same, coming)

-- ---- the service

-- a frame was asked for
pub pulled_step : (v w : View) (outcome : Outcome) (given : Given) → v.ending ≡ None → v.stage ≡ free → allows_pull v ≡ true → given ≡ given_of outcome
    → TracedSteps v.traced on.pull (SaysOutcome outcome) w.traced → w.traced.state.settings ≡ v.traced.state.settings
    → w ≡ record v { traced = w.traced; stage = w.stage } → w.stage ≡ stage_given given → IsStep v (pulled given) w
pulled_step v w outcome given running is allowed gives steps settings same now =
    (running, is, allowed, (outcome, gives, record { steps = steps; settings = settings }), same ∙ ap (λ x. record v { traced = w.traced; stage = x }) now)

-- none was there
only_pending : (outcome : Outcome) → Nothing ≡ given_of outcome → outcome ≡ out.Pending
only_pending out.Pending is = refl
only_pending (out.Frame frame) is = absurd (cc is)
only_pending (out.Took count) is = absurd (cc is)
only_pending (out.Head item) is = absurd (cc is)
only_pending (out.Bytes bytes) is = absurd (cc is)
only_pending (out.Trailers map) is = absurd (cc is)
only_pending out.BodyEnd is = absurd (cc is)
only_pending (out.Closed end) is = absurd (cc is)
only_pending (out.Fault fault) is = absurd (cc is)
only_pending (out.Broken fault) is = absurd (cc is)
only_pending (out.Protocol error) is = absurd (cc is)
only_pending (out.Refused error) is = absurd (cc is)
only_pending (out.Gave bytes) is = absurd (cc is)
only_pending (out.Expired end) is = absurd (cc is)
only_pending out.Abandoned is = absurd (cc is)
only_pending out.Done is = absurd (cc is)

pub finds_none : (v u : View) (outcome : Outcome) → Nothing ≡ given_of outcome → TracedSteps v.traced on.pull (SaysOutcome outcome) u.traced → u.traced.state.settings ≡ v.traced.state.settings
    → u ≡ record v { traced = u.traced } → FindsNone v u
finds_none v u outcome gives steps settings same = record {
  asked = record { steps = subst (λ o. TracedSteps v.traced on.pull (SaysOutcome o) u.traced) (only_pending outcome gives) steps; settings = settings };
  same = same;
}

-- ---- what is needed

pub needs_ready : (w : View) (stage : Stage) (item : UpgradeItem) → stage ≡ waiting item → Needs w stage (ready Pending ∷ [])
needs_ready w stage item is = subst (λ s. Needs w s (ready Pending ∷ [])) (sym is) ([], refl)

pub needs_room : (w : View) (stage : Stage) (message : Message) → stage ≡ sending message → allows_send w ≡ false → Needs w stage []
needs_room w stage message is full = subst (λ s. Needs w s []) (sym is) full

-- ---- a message

-- whether one may be sent doesn't depend on it
pub any_message : (set : Setting) (k : Kept) (m : said.Message) → allowed_by set k (on.send said.nop) ≡ true → allowed_by set k (on.send m) ≡ true
unfolding allowed_by
any_message set k m is = is

-- one was sent, or couldn't be
pub sent_step : (v w : View) (message : Message) (outcome : Outcome) → v.ending ≡ None → v.stage ≡ sending message → allows_send v ≡ true
    → TracedSteps v.traced (on.send (message_says message)) (SaysOutcome outcome) w.traced → w.traced.state.settings ≡ v.traced.state.settings
    → w ≡ record v { traced = w.traced; stage = w.stage } → w.stage ≡ free → IsStep v (sent message) w
sent_step v w message outcome running is allowed steps settings same now = (
  running,
  is,
  any_message (setting_of v.traced.state.settings) v.traced.state.kept (message_says message) allowed,
  (outcome, record { steps = steps; settings = settings }),
  same ∙ ap (λ x. record v { traced = w.traced; stage = x }) now,
)

pub unsent_step : (v w : View) (message : Message) → v.ending ≡ None → v.stage ≡ sending message → allows_send v ≡ true
    → TracedFails v.traced (on.send (message_says message)) w.traced → w ≡ record v { traced = w.traced; stage = w.stage; ending = Some Broken } → w.stage ≡ free
    → WantsMemory v (on.send (message_says message)) → IsStep v (unsent message) w
unsent_step v w message running is allowed fails same now wants = (
  running,
  is,
  any_message (setting_of v.traced.state.settings) v.traced.state.kept (message_says message) allowed,
  fails,
  same ∙ ap (λ x. record v { traced = w.traced; stage = x; ending = Some Broken }) now,
  wants,
)
