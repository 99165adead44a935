-- What the parts of a turn say, one after the other.
use Rattle.std.proofs.Common.{◌≡◌, ◌≤◌, ◌<◌, ◌+◌, ◌*◌, ◌⊎◌, ◌++◌, ℕ, Bool, true, false, Option, Some, None, is_some, List, [], ◌∷◌, length, Result, Ok, inl, inr, refl, sym, ap, ◌∙◌, subst, arith}
use Rattle.std.proofs.lemmas.List.{length-append}
use Rattle.futures.specs.declared.task.Poll.{Poll}
use Rattle.futures.specs.declared.task.Poll.TheVariants.{Ready, Pending}
use Rattle.futures.specs.declared.task.context.Context.{Context}
use Rattle.std.specs.Prelude.{option_map, not, ◌&&◌, ◌||◌, ◌==◌, if◌then◌else◌}
use Rattle.http_bodies.specs.Giving.{Giving}
use Rattle.http_services.specs.Lent.{Took}
use Rattle.http_services.specs.Status.{status_of}
use Rattle.http_services.specs.declared.h1.send.PayloadStatus.TheVariants as status
use Rattle.model_h1.specs.Event as on
use Rattle.model_h1.specs.Setting.{Setting}
use Rattle.model_h1.specs.Sums as sums
use Rattle.model_state.specs.Kept.{Kept, is_open}
use Rattle.model_state.specs.Local.{closing_by, allowed_by}
use Rattle.h1_connection.specs.Given.{next_allowed}
use Rattle.h1_connection.specs.EventMeaning.{setting_of, end_of}
use Rattle.h1_connection.specs.declared.connection.heads.NextHead.TheVariants as next_head
use Rattle.h1_connection.specs.declared.event.End.{End}
use Rattle.h1_connection.specs.declared.event.End.TheVariants as ends
use Rattle.h1_traced.specs.Traced.{TracedView, TracedStands}
use Rattle.http_types.specs.declared.error.DispatchError.{DispatchError}
use Rattle.h1_dispatcher.specs.declared.dispatcher.Ending.TheVariants.{Closed}
use Rattle.h1_dispatcher.specs.declared.dispatcher.DispatcherTurn.{DispatcherTurn}
use Rattle.h1_dispatcher.specs.declared.dispatcher.DispatcherTurn.TheVariants.{Counted, Idle, Over}
use Rattle.h1_dispatcher.specs.View.{View, Asking, Stage, free, waiting, calling, replying, sending, is_busy, is_waiting, is_calling, is_awaiting, is_sending, allows_chunk, closes, allows, allows_next, has_write_room, asks_next, allows_answer, is_held, awaits_body, buffered, HasNoByte, HasNoOutput, HasNoInput}
use Rattle.h1_dispatcher.specs.Steps.{Step, IsStep, written, shut, next, ready, called, answered, sent}
use Rattle.h1_dispatcher.specs.Polls.{Continues, IsShut, Ended, result_of, counts, Asks, Awaits, Looks, Sends, Serves, Feeds, IsHeld, GoesOn, Ends, WritesFirst, TurnSays, ServeSays, AfterSays, EndSays, StepSays, Handed, ReadingSays, FeedingSays, TurnsSay}
use Rattle.h1_dispatcher.proofs.Replies.{Quiet, step_hands}
use Rattle.h1_dispatcher.proofs.Runs.{one, run_on, all_on, progress_on, ended_on, hands_on, goes_by, ends_by, goes_after, ends_after, more_goes, more_ends}

pub none_of : {A : Type 0} (x : Option A) → is_some x ≡ false → x ≡ None
none_of None is = refl
none_of (Some x) is = cc

pub clash : true ≡ false → ⊥
clash is = cc is

-- ---- shutting down

shut_ended : (w : View) (end : End) (result : Result Unit DispatchError) → result_of end ≡ result → IsShut w (shut (Ready (Ok tt)) ∷ []) result
    → Ended w (shut (Ready (Ok tt)) ∷ []) (result_of end)
shut_ended w ends.Malformed result is so = subst (λ r. IsShut w (shut (Ready (Ok tt)) ∷ []) r) (sym is) so
shut_ended w ends.TooLarge result is so = subst (λ r. IsShut w (shut (Ready (Ok tt)) ∷ []) r) (sym is) so
shut_ended w ends.SlowRequestTimeout result is so = subst (λ r. IsShut w (shut (Ready (Ok tt)) ∷ []) r) (sym is) so
shut_ended w ends.Body result is so = subst (λ r. IsShut w (shut (Ready (Ok tt)) ∷ []) r) (sym is) so
shut_ended w ends.BodyShort result is so = subst (λ r. IsShut w (shut (Ready (Ok tt)) ∷ []) r) (sym is) so
shut_ended w ends.KeepAliveExpired result is so = subst (λ r. IsShut w (shut (Ready (Ok tt)) ∷ []) r) (sym is) so
shut_ended w ends.Protocol result is so = subst (λ r. IsShut w (shut (Ready (Ok tt)) ∷ []) r) (sym is) so
shut_ended w ends.Asked result is so = subst (λ r. IsShut w (shut (Ready (Ok tt)) ∷ []) r) (sym is) so
shut_ended w ends.BrokenBody result is so = subst (λ r. IsShut w (shut (Ready (Ok tt)) ∷ []) r) (sym is) so
shut_ended w ends.UnreadBody result is so = subst (λ r. IsShut w (shut (Ready (Ok tt)) ∷ []) r) (sym is) so
shut_ended w ends.Drained result is so = subst (λ r. IsShut w (shut (Ready (Ok tt)) ∷ []) r) (sym is) so
shut_ended w ends.HalfClosed result is so = subst (λ r. IsShut w (shut (Ready (Ok tt)) ∷ []) r) (sym is) so
shut_ended w ends.InputEnded result is so = subst (λ r. IsShut w (shut (Ready (Ok tt)) ∷ []) r) (sym is) so

pub shut_over : (v w : View) (end : End) (result : Result Unit DispatchError) → result ≡ result_of end → w.ending ≡ Some (Closed end)
    → IsStep v (shut (Ready (Ok tt))) w → Ends v w 5 result
shut_over v w end result is ending step =
    subst (λ r. Ends v w 5 r) (sym is)
    (ends_by 5 (omega arith) v w (shut (Ready (Ok tt))) (result_of end) step (shut_ended w end (result_of end) refl (([], refl, tt), (end, ending, refl))) tt)

-- ---- one step before what follows

-- an answer of the service, which is handed on
pub step_then : (most : ℕ) → 3 ≤ most → (v u w : View) (d : Step) (turn : DispatcherTurn) → IsStep v d u → Continues d → u.traced ≡ v.traced → EndSays 2 u w turn
    → ((trace : List sums.Step) → TracedStands u.traced trace → Handed w turn) → ServeSays most v w turn
step_then most fits v u w d Counted is goes same says handed = record {
  steps = d ∷ says.steps;
  run = (u, is, says.run);
  go_on = (goes, says.go_on);
  enough = omega (arith, says.enough);
  few = omega (arith, says.few, fits);
  handed = λ trace stands none. handed trace (subst (λ (l : TracedView). TracedStands l trace) (sym same) stands);
}
step_then most fits v u w d Idle is goes same says handed = absurd says
step_then most fits v u w d (Over result) is goes same says handed = record {
  steps = d ∷ says.steps;
  run = (u, is, says.run);
  ended = ended_on w d says.steps result goes says.ended;
  few = omega (arith, says.few, fits);
  handed = λ trace stands none. inl (handed trace (subst (λ (l : TracedView). TracedStands l trace) (sym same) stands));
}

pub drop_then : (v u w : View) (d : Step) (turn : DispatcherTurn) → IsStep v d u → Quiet d → 1 ≤ counts d → StepSays u w turn → EndSays 2 v w turn
drop_then v u w d Counted is goes one says = goes_after v u w 1 0 1 (omega arith) 1 1 2 (omega arith) (goes_by 1 (omega arith) v u d 1 is goes one) says
drop_then v u w d Idle is goes one says = absurd says
drop_then v u w d (Over result) is goes one says = ends_after v u w 0 result 1 1 2 (omega arith) (goes_by 1 (omega arith) v u d 0 is goes (omega arith)) says

less : (v w : View) → GoesOn v w 1 1 → GoesOn v w 0 1
less v w g = record { steps = g.steps; run = g.run; go_on = g.go_on; enough = omega arith; few = g.few; handed = g.handed }

pub left_step : (v w : View) (turn : DispatcherTurn) → EndSays 1 v w turn → StepSays v w turn
left_step v w Counted says = less v w says
left_step v w Idle says = absurd says
left_step v w (Over result) says = says

pub more_end : (v w : View) (turn : DispatcherTurn) → EndSays 1 v w turn → EndSays 2 v w turn
more_end v w Counted says = more_goes v w 1 1 2 (omega arith) says
more_end v w Idle says = absurd says
more_end v w (Over result) says = more_ends v w result 1 2 (omega arith) says

pub only_end : (v w : View) (turn : DispatcherTurn) → EndSays 2 v w turn → ServeSays 4 v w turn
only_end v w Counted says = more_goes v w 1 2 4 (omega arith) says
only_end v w Idle says = absurd says
only_end v w (Over result) says = more_ends v w result 2 4 (omega arith) says

pub more_serve : (v w : View) (turn : DispatcherTurn) → ServeSays 3 v w turn → ServeSays 4 v w turn
more_serve v w Counted says = more_goes v w 1 3 4 (omega arith) says
more_serve v w Idle says = says
more_serve v w (Over result) says = more_ends v w result 3 4 (omega arith) says

-- what was pending, and then the input, where no body of a request may come
pub pending_then : (most : ℕ) → 2 ≤ most → (v u w : View) (d : Step) (turn : DispatcherTurn) → IsStep v d u → Quiet d → awaits_body u ≡ false → Serves v (is_sending v.stage) (allows_answer v) (d ∷ [])
    → ReadingSays u w turn → ServeSays most v w turn
pending_then most fits v u w d Counted is goes none waits says = goes_after v u w 0 1 1 (omega arith) 1 1 most (omega (arith, fits)) (goes_by 1 (omega arith) v u d 0 is goes (omega arith)) says
pending_then most fits v u w d Idle is goes none waits says =
    record {
      served = d ∷ [];
      between = u;
      serves = one v u d is;
      feeding = [];
      fed = u;
      feeds = refl;
      reading = says.reading;
      reads = says.reads;
      waits = waits;
      no_body = inr (inr (refl, inl none));
      no_input = says.no_input;
    }
pending_then most fits v u w d (Over result) is goes none waits says = ends_after v u w 0 result 1 1 most (omega (arith, fits)) (goes_by 1 (omega arith) v u d 0 is goes (omega arith)) says

-- and then the body of a request, and the input
pub feed_then : (most : ℕ) → 3 ≤ most → (v u w : View) (d : Step) (turn : DispatcherTurn) → IsStep v d u → Quiet d → Serves v (is_sending v.stage) (allows_answer v) (d ∷ []) → FeedingSays u w turn
    → ServeSays most v w turn
feed_then most fits v u w d Counted is goes waits says = goes_after v u w 0 1 1 (omega arith) 1 2 most (omega (arith, fits)) (goes_by 1 (omega arith) v u d 0 is goes (omega arith)) says
feed_then most fits v u w d Idle is goes waits says =
    record {
      served = d ∷ [];
      between = u;
      serves = one v u d is;
      feeding = says.feeding;
      fed = says.fed;
      feeds = says.feeds;
      reading = says.reading;
      reads = says.reads;
      waits = waits;
      no_body = says.no_body;
      no_input = says.no_input;
    }
feed_then most fits v u w d (Over result) is goes waits says = ends_after v u w 0 result 1 2 most (omega (arith, fits)) (goes_by 1 (omega arith) v u d 0 is goes (omega arith)) says

-- the input alone
pub input_then : (v w : View) (turn : DispatcherTurn) → awaits_body v ≡ false → Serves v (is_sending v.stage) (allows_answer v) [] → ReadingSays v w turn → ServeSays 4 v w turn
input_then v w Counted none waits says = more_goes v w 1 1 4 (omega arith) says
input_then v w Idle none waits says =
    record {
      served = [];
      between = v;
      serves = refl;
      feeding = [];
      fed = v;
      feeds = refl;
      reading = says.reading;
      reads = says.reads;
      waits = waits;
      no_body = inr (inr (refl, inl none));
      no_input = says.no_input;
    }
input_then v w (Over result) none waits says = more_ends v w result 1 4 (omega arith) says

-- ---- the body of a request

-- where none of the request's answer was tried
pub fed_then : (v w : View) (turn : DispatcherTurn) → Serves v (is_sending v.stage) (allows_answer v) [] → FeedingSays v w turn → ServeSays 4 v w turn
fed_then v w Counted waits says = more_goes v w 1 2 4 (omega arith) says
fed_then v w Idle waits says =
    record {
      served = [];
      between = v;
      serves = refl;
      feeding = says.feeding;
      fed = says.fed;
      feeds = says.feeds;
      reading = says.reading;
      reads = says.reads;
      waits = waits;
      no_body = says.no_body;
      no_input = says.no_input;
    }
fed_then v w (Over result) waits says = more_ends v w result 2 4 (omega arith) says

-- none comes, or nobody wants it
pub unfed_then : (v w : View) (turn : DispatcherTurn) → (awaits_body v ≡ false) ⊎ ((status_of v.queue ≡ status.Dropped) ⊎ (is_held v ≡ true)) → ReadingSays v w turn → FeedingSays v w turn
unfed_then v w Counted none says = more_goes v w 1 1 2 (omega arith) says
unfed_then v w Idle none says =
    record { feeding = []; fed = v; feeds = refl; reading = says.reading; reads = says.reads; no_body = inr (inr (refl, none)); no_input = says.no_input }
unfed_then v w (Over result) none says = more_ends v w result 1 2 (omega arith) says

-- it was pending, or its queue was
pub waited_then : (v u w : View) (d : Step) (turn : DispatcherTurn) → IsStep v d u → Quiet d → Feeds v (d ∷ []) → ReadingSays u w turn → FeedingSays v w turn
waited_then v u w d Counted is goes waits says = goes_after v u w 0 1 1 (omega arith) 1 1 2 (omega arith) (goes_by 1 (omega arith) v u d 0 is goes (omega arith)) says
waited_then v u w d Idle is goes waits says =
    record { feeding = d ∷ []; fed = u; feeds = one v u d is; reading = says.reading; reads = says.reads; no_body = waits; no_input = says.no_input }
waited_then v u w d (Over result) is goes waits says = ends_after v u w 0 result 1 1 2 (omega arith) (goes_by 1 (omega arith) v u d 0 is goes (omega arith)) says

-- nothing of a request that is held back is asked for
pub held_then : (v w : View) (turn : DispatcherTurn) → is_held v ≡ true → Serves v (is_sending v.stage) (allows_answer v) [] → ReadingSays v w turn → ServeSays 4 v w turn
held_then v w turn held waits says = fed_then v w turn waits (unfed_then v w turn (inr (inr held)) says)

-- ---- how far the last request is

pub now_free : (s : Stage) → is_busy s ≡ false → s ≡ free
now_free free is = refl
now_free (waiting request) is = absurd (cc is)
now_free (calling took) is = absurd (cc is)
now_free (replying answer) is = absurd (cc is)
now_free (sending body) is = absurd (cc is)

pub now_waiting : (s : Stage) → is_waiting s ≡ true → (request : Asking) × (s ≡ waiting request)
now_waiting (waiting request) is = (request, refl)
now_waiting free is = absurd (cc is)
now_waiting (calling took) is = absurd (cc is)
now_waiting (replying answer) is = absurd (cc is)
now_waiting (sending body) is = absurd (cc is)

pub waiting_awaits : (s : Stage) → is_waiting s ≡ true → is_awaiting s ≡ true
waiting_awaits (waiting request) is = refl
waiting_awaits free is = absurd (cc is)
waiting_awaits (calling took) is = absurd (cc is)
waiting_awaits (replying answer) is = absurd (cc is)
waiting_awaits (sending body) is = absurd (cc is)

pub sends_idle : (s : Stage) → is_sending s ≡ true → is_awaiting s ≡ false
sends_idle (sending body) is = refl
sends_idle free is = absurd (cc is)
sends_idle (waiting request) is = absurd (cc is)
sends_idle (calling took) is = absurd (cc is)
sends_idle (replying answer) is = absurd (cc is)

pub now_sending : (s : Stage) → is_sending s ≡ true → (body : Giving) × (s ≡ sending body)
now_sending (sending body) is = (body, refl)
now_sending free is = absurd (cc is)
now_sending (waiting request) is = absurd (cc is)
now_sending (calling took) is = absurd (cc is)
now_sending (replying answer) is = absurd (cc is)

pub now_calling : (s : Stage) → is_calling s ≡ true → (took : Option Took) × (s ≡ calling took)
now_calling (calling took) is = (took, refl)
now_calling free is = absurd (cc is)
now_calling (waiting request) is = absurd (cc is)
now_calling (replying answer) is = absurd (cc is)
now_calling (sending body) is = absurd (cc is)

-- ---- what was pending

serves_by : (v : View) (sends allows : Bool) (served : List Step) → sends ≡ false → allows ≡ true → Awaits v.stage (is_held v) (has_write_room v) served → Serves v sends allows served
serves_by v false true served unsent is waits = waits
serves_by v false false served unsent is waits = absurd (cc is)
serves_by v true allows served unsent is waits = absurd (cc unsent)

looks_by : (v : View) (sends allows : Bool) (served : List Step) → sends ≡ false → allows ≡ false → Looks v (asks_next v) v.stage served → Serves v sends allows served
looks_by v false false served unsent is looks = looks
looks_by v false true served unsent is looks = absurd (cc is)
looks_by v true allows served unsent is looks = absurd (cc unsent)

sends_by : (v : View) (sends allows : Bool) (served : List Step) → sends ≡ true → Sends (allows_chunk v) served → Serves v sends allows served
sends_by v true allows served is sends = sends
sends_by v false allows served is sends = absurd (cc is)

pub waits_body : (v : View) → is_sending v.stage ≡ true → allows_chunk v ≡ true → Serves v (is_sending v.stage) (allows_answer v) (sent Pending ∷ [])
waits_body v goes_out allowed = sends_by v (is_sending v.stage) (allows_answer v) _ goes_out (subst (λ b. Sends b (sent Pending ∷ [])) (sym allowed) refl)

pub waits_room : (v : View) → is_sending v.stage ≡ true → allows_chunk v ≡ false → Serves v (is_sending v.stage) (allows_answer v) []
waits_room v goes_out full = sends_by v (is_sending v.stage) (allows_answer v) _ goes_out (subst (λ b. Sends b []) (sym full) refl)

pub waits_call : (v : View) (took : Option Took) → allows_answer v ≡ true → v.stage ≡ calling took → Serves v (is_sending v.stage) (allows_answer v) (answered Pending ∷ [])
waits_call v took allowed is = serves_by v (is_sending v.stage) (allows_answer v) _ (ap is_sending is) allowed (subst (λ s. Awaits s (is_held v) (has_write_room v) (answered Pending ∷ [])) (sym is) refl)

pub waits_ready : (v : View) (request : Asking) → allows_answer v ≡ true → has_write_room v ≡ true → is_held v ≡ false → v.stage ≡ waiting request → Serves v (is_sending v.stage) (allows_answer v) (ready request Pending ∷ [])
waits_ready v request allowed some unheld is =
    serves_by v (is_sending v.stage) (allows_answer v) _ (ap is_sending is) allowed
    (subst (λ s. Awaits s (is_held v) (has_write_room v) (ready request Pending ∷ [])) (sym is)
    (subst (λ h. Asks h (has_write_room v) request (ready request Pending ∷ [])) (sym unheld) (subst (λ b. Asks false b request (ready request Pending ∷ [])) (sym some) (inl refl))))

-- and where there is no room for its answer
pub waits_crowded : (v : View) (request : Asking) → allows_answer v ≡ true → has_write_room v ≡ false → is_held v ≡ false → v.stage ≡ waiting request → Serves v (is_sending v.stage) (allows_answer v) []
waits_crowded v request allowed full unheld is =
    serves_by v (is_sending v.stage) (allows_answer v) _ (ap is_sending is) allowed
    (subst (λ s. Awaits s (is_held v) (has_write_room v) []) (sym is)
    (subst (λ h. Asks h (has_write_room v) request []) (sym unheld) (subst (λ b. Asks false b request []) (sym full) refl)))

-- and where it is held back
pub waits_held : (v : View) (request : Asking) → allows_answer v ≡ true → is_held v ≡ true → v.stage ≡ waiting request → Serves v (is_sending v.stage) (allows_answer v) []
waits_held v request allowed held is =
    serves_by v (is_sending v.stage) (allows_answer v) _ (ap is_sending is) allowed
    (subst (λ s. Awaits s (is_held v) (has_write_room v) []) (sym is) (subst (λ h. Asks h (has_write_room v) request []) (sym held) refl))

pub waits_none : (v : View) → allows_answer v ≡ true → v.stage ≡ free → Serves v (is_sending v.stage) (allows_answer v) []
waits_none v allowed is = serves_by v (is_sending v.stage) (allows_answer v) _ (ap is_sending is) allowed (subst (λ s. Awaits s (is_held v) (has_write_room v) []) (sym is) refl)

pub both_true : (a b : Bool) → a ≡ true → b ≡ true → (a && b) ≡ true
both_true a b is so = ap (λ x. x && b) is ∙ so

pub first_false : (a b : Bool) → a ≡ false → (a && b) ≡ false
first_false a b is = ap (λ x. x && b) is

last_false : (a b : Bool) → b ≡ false → (a && b) ≡ false
last_false true b is = is
last_false false b is = refl

-- no body comes where no request waits for its answer, or none may be answered, or the body is done with
pub idle_body : (v : View) → is_awaiting v.stage ≡ false → awaits_body v ≡ false
idle_body v is = first_false (is_awaiting v.stage) (allows_answer v && allows v on.drop_body) is

pub late_body : (v : View) → allows_answer v ≡ false → awaits_body v ≡ false
late_body v is = last_false (is_awaiting v.stage) _ (first_false (allows_answer v) (allows v on.drop_body) is)

pub done_body : (v : View) → allows v on.drop_body ≡ false → awaits_body v ≡ false
done_body v is = last_false (is_awaiting v.stage) _ (last_false (allows_answer v) (allows v on.drop_body) is)

pub coming_body : (v : View) → is_awaiting v.stage ≡ true → allows_answer v ≡ true → allows v on.drop_body ≡ true → awaits_body v ≡ true
coming_body v is may comes = both_true (is_awaiting v.stage) (allows_answer v && allows v on.drop_body) is (both_true (allows_answer v) (allows v on.drop_body) may comes)

pub waits_head : (v : View) → allows_answer v ≡ false → asks_next v ≡ true → v.stage ≡ free → Serves v (is_sending v.stage) (allows_answer v) (next v.peer next_head.Pending ∷ [])
waits_head v off may is =
    looks_by v (is_sending v.stage) (allows_answer v) _ (ap is_sending is) off (subst (λ m. Looks v m v.stage (next v.peer next_head.Pending ∷ [])) (sym may) (subst (λ s. Looks v true s (next v.peer next_head.Pending ∷ [])) (sym is) (inl refl)))

-- and where no byte of one is there
pub waits_unread : (v : View) → allows_answer v ≡ false → asks_next v ≡ true → v.stage ≡ free → HasNoByte v → Serves v (is_sending v.stage) (allows_answer v) []
waits_unread v off may is none =
    looks_by v (is_sending v.stage) (allows_answer v) _ (ap is_sending is) off (subst (λ m. Looks v m v.stage []) (sym may) (subst (λ s. Looks v true s []) (sym is) (inr (refl, none))))

looks_not : (v : View) (may : Bool) (s : Stage) → may ≡ false → Looks v may s []
looks_not v false s is = refl
looks_not v true s is = absurd (cc is)

looks_busy : (v : View) (may : Bool) (s : Stage) → is_busy s ≡ true → Looks v may s []
looks_busy v true (waiting request) is = refl
looks_busy v true (calling took) is = refl
looks_busy v true (replying answer) is = refl
looks_busy v true (sending body) is = refl
looks_busy v true free is = absurd (cc is)
looks_busy v false s is = refl

pub waits_not : (v : View) → is_sending v.stage ≡ false → allows_answer v ≡ false → allows_next v ≡ false → Serves v (is_sending v.stage) (allows_answer v) []
waits_not v unsent off may =
    looks_by v (is_sending v.stage) (allows_answer v) _ unsent off (looks_not v (asks_next v) v.stage (first_false (allows_next v) (has_write_room v) may))

-- and where there is no room for an answer
pub waits_full : (v : View) → is_sending v.stage ≡ false → allows_answer v ≡ false → has_write_room v ≡ false → Serves v (is_sending v.stage) (allows_answer v) []
waits_full v unsent off full =
    looks_by v (is_sending v.stage) (allows_answer v) _ unsent off (looks_not v (asks_next v) v.stage (last_false (allows_next v) (has_write_room v) full))

pub waits_busy : (v : View) → is_sending v.stage ≡ false → allows_answer v ≡ false → is_busy v.stage ≡ true → Serves v (is_sending v.stage) (allows_answer v) []
waits_busy v unsent off busy = looks_by v (is_sending v.stage) (allows_answer v) _ unsent off (looks_busy v (asks_next v) v.stage busy)

-- a call was begun, and polled at once
called_awaits : (u : View) (sends allows : Bool) (served : List Step) (took : Option Took) → sends ≡ false → allows ≡ true → u.stage ≡ calling took → Serves u sends allows served
    → served ≡ answered Pending ∷ []
called_awaits u false true served took unsent is now waits = subst (λ s. Awaits s (is_held u) (has_write_room u) served) now waits
called_awaits u false false served took unsent is now waits = absurd (cc is)
called_awaits u true allows served took unsent is now waits = absurd (cc unsent)

awaits_called : (s : Stage) (held room : Bool) (request : Asking) (served : List Step) → s ≡ waiting request → held ≡ false → room ≡ true → served ≡ answered Pending ∷ []
    → Awaits s held room (called request ∷ served)
awaits_called s held room request served is unheld some so =
    subst (λ x. Awaits x held room (called request ∷ served)) (sym is)
    (subst (λ h. Asks h room request (called request ∷ served)) (sym unheld) (subst (λ b. Asks false b request (called request ∷ served)) (sym some) (inr (ap (λ l. called request ∷ l) so))))

pub called_then : (v u w : View) (request : Asking) (took : Option Took) (turn : DispatcherTurn) → IsStep v (called request) u → allows_answer v ≡ true → has_write_room v ≡ true → is_held v ≡ false → allows_answer u ≡ true
    → v.stage ≡ waiting request → u.stage ≡ calling took → ServeSays 3 u w turn → ServeSays 4 v w turn
called_then v u w request took Counted is may some unheld allowed waits now says = goes_after v u w 0 1 1 (omega arith) 1 3 4 (omega arith) (goes_by 1 (omega arith) v u (called request) 0 is tt (omega arith)) says
called_then v u w request took Idle is may some unheld allowed waits now says =
    record {
      served = called request ∷ says.served;
      between = says.between;
      serves = (u, is, says.serves);
      feeding = says.feeding;
      fed = says.fed;
      feeds = says.feeds;
      reading = says.reading;
      reads = says.reads;
      waits = serves_by v (is_sending v.stage) (allows_answer v) (called request ∷ says.served) (ap is_sending waits) may
          (awaits_called v.stage (is_held v) (has_write_room v) request says.served waits unheld some (called_awaits u (is_sending u.stage) (allows_answer u) says.served took (ap is_sending now) allowed now says.waits));
      no_body = says.no_body;
      no_input = says.no_input;
    }
called_then v u w request took (Over result) is may some unheld allowed waits now says = ends_after v u w 0 result 1 3 4 (omega arith) (goes_by 1 (omega arith) v u (called request) 0 is tt (omega arith)) says

-- ---- after the writing

pub open_then : (v w : View) (turn : DispatcherTurn) → closes v ≡ false → ServeSays 4 v w turn → AfterSays v w turn
open_then v w Counted so says = says
open_then v w Idle so says = inr (so, says)
open_then v w (Over result) so says = says

pub end_then : (v w : View) (turn : DispatcherTurn) → EndSays 1 v w turn → AfterSays v w turn
end_then v w Counted says = more_goes v w 1 1 4 (omega arith) says
end_then v w Idle says = absurd says
end_then v w (Over result) says = more_ends v w result 1 4 (omega arith) says

pub quiet_then : (v w : View) (turn : DispatcherTurn) → v.ending ≡ None → HasNoOutput v → AfterSays v w turn → TurnSays v w turn
quiet_then v w Counted running none says = (more_goes v w 1 4 5 (omega arith) says, inl none)
quiet_then v w Idle running none says =
    inl (record { running = running; writing = []; after = v; writes = refl; no_output = inr (refl, none); waits = says })
quiet_then v w (Over result) running none says = more_ends v w result 4 5 (omega arith) says

pub written_then : (v u w : View) (turn : DispatcherTurn) → v.ending ≡ None → IsStep v (written Pending) u → AfterSays u w turn → TurnSays v w turn
written_then v u w Counted running is says = (
  record {
    steps = written Pending ∷ says.steps;
    run = (u, is, says.run);
    go_on = (tt, says.go_on);
    enough = omega (arith, says.enough);
    few = omega (arith, says.few);
    handed = (goes_after v u w 0 1 1 (omega arith) 1 4 5 (omega arith) (goes_by 1 (omega arith) v u (written Pending) 0 is tt (omega arith)) says).handed;
  },
  inr (Pending, says.steps, refl),
)
written_then v u w Idle running is says =
    inl (record { running = running; writing = written Pending ∷ []; after = u; writes = one v u (written Pending) is; no_output = inl refl; waits = says })
written_then v u w (Over result) running is says = ends_after v u w 0 result 1 4 5 (omega arith) (goes_by 1 (omega arith) v u (written Pending) 0 is tt (omega arith)) says

-- the transport took bytes
pub wrote_first : (v w : View) (count : ℕ) → IsStep v (written (Ready (Ok count))) w → TurnSays v w Counted
wrote_first v w count is = (
  record {
    steps = written (Ready (Ok count)) ∷ [];
    run = one v w (written (Ready (Ok count))) is;
    go_on = (tt, tt);
    enough = omega arith;
    few = omega arith;
    handed = λ trace stands none. step_hands v w (written (Ready (Ok count))) tt is none;
  },
  inr (Ready (Ok count), [], refl),
)

-- ---- the turns

-- so many turns: the first of them wrote first
pub record Turns (v u : View) (n : ℕ) : Type 0 where
  pub goes : GoesOn v u n (5 * n)
  pub first : ((n ≡ 0) × (u ≡ v) × (goes.steps ≡ [])) ⊎ WritesFirst v goes.steps

pub no_turn : (v : View) → Turns v v 0
no_turn v = record { goes = record { steps = []; run = refl; go_on = tt; enough = omega arith; few = omega arith; handed = λ trace stands none. none }; first = inl (refl, refl, refl) }

first_on : (v u : View) (n : ℕ) (s t : List Step) → ((n ≡ 0) × (u ≡ v) × (s ≡ [])) ⊎ WritesFirst v s → WritesFirst u t → WritesFirst v (s ++ t)
first_on v u n s t (inl none) now = subst (λ l. WritesFirst v (l ++ t)) (sym none.2) (subst (λ x. WritesFirst x t) none.1 now)
first_on v u n s t (inr (inl quiet)) now = inl quiet
first_on v u n s t (inr (inr (answer, rest, is))) now = inr (answer, rest ++ t, ap (λ l. l ++ t) is)

not_none : (v w : View) (n : ℕ) (s : List Step) → n ≡ 64 → ((n ≡ 0) × (w ≡ v) × (s ≡ [])) ⊎ WritesFirst v s → WritesFirst v s
not_none v w n s is (inl none) = absurd (omega (arith, none.0, is))
not_none v w n s is (inr first) = first

pub turns_spent : (v w : View) (cx : Context) (n : ℕ) (result : Poll (Result Unit DispatchError)) → n ≡ 64 → Turns v w n → cx.is_woken ≡ true → result ≡ Pending → TurnsSay v w cx result
turns_spent v w cx n result is turns woken pending =
    let goes = turns.goes in
    let all : GoesOn v w 64 (5 * 64) = record { steps = goes.steps; run = goes.run; go_on = goes.go_on; enough = omega (arith, goes.enough, is); few = omega (arith, goes.few, is); handed = goes.handed } in
    subst (λ r. TurnsSay v w cx r) (sym pending) (inr (record { goes = all; first = not_none v w n goes.steps is turns.first; woken = woken }))

pub turns_idle : (v u w : View) (cx : Context) (n : ℕ) → n < 64 → GoesOn v u n (5 * n) → TurnSays u w Idle → TurnsSay v w cx Pending
turns_idle v u w cx n below goes says = inl (record { turns = n; fewer = below; last = u; goes = goes; stuck = says })

pub turns_over : (v u w : View) (cx : Context) (n : ℕ) (result : Result Unit DispatchError) → n < 64 → GoesOn v u n (5 * n) → TurnSays u w (Over result) → TurnsSay v w cx (Ready result)
turns_over v u w cx n result below goes says = ends_after v u w n result (5 * n) 5 (5 * 64) (omega (arith, below)) goes says

-- another turn
pub turns_on : (v u w : View) (n : ℕ) → Turns v u n → TurnSays u w Counted → Turns v w (n + 1)
turns_on v u w n turns says = record {
  goes = record {
    steps = turns.goes.steps ++ says.0.steps;
    run = run_on v u w turns.goes.steps says.0.steps turns.goes.run says.0.run;
    go_on = all_on turns.goes.steps says.0.steps turns.goes.go_on says.0.go_on;
    enough = omega (arith, progress_on turns.goes.steps says.0.steps, turns.goes.enough, says.0.enough);
    few = omega (arith, length-append turns.goes.steps says.0.steps, turns.goes.few, says.0.few);
    handed = hands_on v u w turns.goes.steps turns.goes.go_on turns.goes.run turns.goes.handed says.0.handed;
  };
  first = inr (first_on v u n turns.goes.steps says.0.steps turns.first says.1);
}

-- ---- nothing to be done

pub held_idle : (v : View) (turn : DispatcherTurn) → turn ≡ Idle → IsHeld v v → AfterSays v v turn
held_idle v turn is held = subst (λ t. AfterSays v v t) (sym is) (inl held)

pub nothing_read : (v : View) (turn : DispatcherTurn) → turn ≡ Idle → HasNoInput v → ReadingSays v v turn
nothing_read v turn is none = subst (λ t. ReadingSays v v t) (sym is) (record { reading = []; reads = refl; no_input = inr (refl, none) })

-- ---- closing

pub not_closing : (v : View) (r : Option End) → r ≡ None → option_map end_of r ≡ closing_by (setting_of v.traced.state.settings) v.traced.state.kept → closes v ≡ false
not_closing v r none says = ap is_some (sym says) ∙ ap (λ x. is_some (option_map end_of x)) none

may_tell : (over closing open_one empty : Bool) → (not over && (if closing then true else true)) ≡ true → closing ≡ true → empty ≡ true
    → ((not over && (if closing then true else open_one)) && (not closing || empty)) ≡ false → ⊥
may_tell false true open_one true may is none refused = cc refused
may_tell false true open_one false may is none refused = cc none
may_tell false false open_one empty may is none refused = cc is
may_tell true closing open_one empty may is none refused = cc may

tells : (set : Setting) (k : Kept) → is_some (closing_by set k) ≡ true → allowed_by set k (on.write 0) ≡ true → length k.buffered ≡ 0
    → next_allowed set k ≡ false → ⊥
unfolding allowed_by
tells set k closing may empty refused =
    may_tell k.is_over (is_some (closing_by set k)) (not (is_open k)) (length k.buffered == 0) may closing (ap (λ n. n == 0) empty) refused

-- what a connection that closes waits for is that the rest is written, which was tried
pub held_armed : {P : Type 0} (v : View) → HasNoOutput v ⊎ P → closes v ≡ true → allows v (on.write 0) ≡ true → allows_next v ≡ false → P
held_armed v (inl (inl empty)) closing may refused = absurd (tells (setting_of v.traced.state.settings) v.traced.state.kept closing may empty refused)
held_armed v (inl (inr unwritten)) closing may refused = absurd (clash (sym may ∙ unwritten))
held_armed v (inr armed) closing may refused = armed

-- and a body that waits for room waits for that too
pub full_armed : {P : Type 0} (v : View) → HasNoOutput v ⊎ P → 0 < length (buffered v) → allows v (on.write 0) ≡ true → P
full_armed v (inl (inl empty)) some may = absurd (omega (arith, empty, some))
full_armed v (inl (inr unwritten)) some may = absurd (clash (sym may ∙ unwritten))
full_armed v (inr armed) some may = armed
