-- The bodies of answers give what they have, once and in order.
use Rattle.std.proofs.Common.{◌≡◌, ◌⊎◌, Bool, true, false, Option, Some, None, List, [], ◌∷◌, ◌++◌, Result, Ok, Err, inl, inr, refl, sym, ap, ◌∙◌, subst}
use Rattle.std.specs.Prelude.{◌||◌, if◌then◌else◌}
use Rattle.futures.specs.declared.task.Poll.{Poll}
use Rattle.futures.specs.declared.task.Poll.TheVariants.{Ready, Pending}
use Rattle.http_bodies.specs.Giving.{Given, Giving, Piece, PieceSays}
use Rattle.http_bodies.specs.Told.{Tells, led_by}
use Rattle.http_services.specs.Lent.{Took}
use Rattle.http_bodies.proofs.Histories.{led_by-more, led_by-none}
use Rattle.h1_dispatcher.specs.View.{View, Asking, Answer, Stage, free, waiting, calling, replying, sending, is_waiting, is_replying, is_sending}
use Rattle.h1_dispatcher.specs.Steps.{Step, IsStep, IsRun, request_at, stage_at, stage_asked, stage_answered, stage_replied, stage_sent, ticked, drained, written, read, shut, next, closed, continued, ready, called, answered, pulled, paused, dropped, replied, sent, failed, failed_write, failed_read, failed_fed, failed_sent, asked_to_drain, asked_to_hold, declined, let_on, turned_away, refused}
use Rattle.h1_dispatcher.specs.Bodies.{step_pieces, ends_body, is_reply, pieces, has_end, has_reply, GoesOut, SendsBody}
use Rattle.h1_dispatcher.proofs.Held.{accepts_waits}

clash : {A : Type 0} → true ≡ false → A
clash is = absurd (cc is)

-- ---- where no body goes out

-- this step is none of a body, and none goes out after it
record NoPiece (d : Step) (w : View) : Type 0 where
  none : step_pieces d ≡ []
  not_ended : ends_body d ≡ false
  after : is_sending w.stage ≡ false

asks_none : (request : Option Asking) → is_sending (stage_at request) ≡ false
asks_none None = refl
asks_none (Some request) = refl

asked_none : (request : Asking) (answer : Poll (Result Unit Answer)) → is_sending (stage_asked request answer) ≡ false
asked_none request (Ready (Ok x)) = refl
asked_none request (Ready (Err e)) = refl
asked_none request Pending = refl

answered_none : (more : Option Took) (answer : Poll (Result Answer Answer)) → is_sending (stage_answered more answer) ≡ false
answered_none more (Ready (Ok x)) = refl
answered_none more (Ready (Err e)) = refl
answered_none more Pending = refl

apart : (v w : View) (d : Step) → step_pieces d ≡ [] → ends_body d ≡ false → is_sending v.stage ≡ false → w.stage ≡ v.stage → NoPiece d w
apart v w d none goes not_sending same = record { none = none; not_ended = goes; after = ap is_sending same ∙ not_sending }

to : (w : View) (d : Step) (after : Stage) → step_pieces d ≡ [] → ends_body d ≡ false → is_sending after ≡ false → w.stage ≡ after → NoPiece d w
to w d after none goes not_sending now = record { none = none; not_ended = goes; after = ap is_sending now ∙ not_sending }

no_body : (v w : View) (d : Step) → is_reply d ≡ false → is_sending v.stage ≡ false → IsStep v d w → NoPiece d w
no_body v w (ticked moment expiry) other off is = apart v w (ticked moment expiry) refl refl off (ap (λ (x : View). x.stage) is.1)
no_body v w drained other off is = apart v w drained refl refl off (ap (λ (x : View). x.stage) is.1)
no_body v w (written answer) other off is = apart v w (written answer) refl refl off (ap (λ (x : View). x.stage) is.4)
no_body v w (read came answer) other off is = apart v w (read came answer) refl refl off (ap (λ (x : View). x.stage) is.4)
no_body v w (shut answer) other off is = apart v w (shut answer) refl refl off (ap (λ (x : View). x.stage) is.2)
no_body v w (next peer head) other off is = to w (next peer head) (stage_at (request_at peer head)) refl refl (asks_none (request_at peer head)) (ap (λ (x : View). x.stage) is.4)
no_body v w (closed end) other off is = apart v w (closed end) refl refl off (ap (λ (x : View). x.stage) is.4)
no_body v w continued other off is = apart v w continued refl refl off (ap (λ (x : View). x.stage) is.3)
no_body v w (ready request answer) other off is = to w (ready request answer) (stage_asked request answer) refl refl (asked_none request answer) (ap (λ (x : View). x.stage) is.3)
no_body v w (called request) other off is = to w (called request) (calling is.2.0) refl refl refl (ap (λ (x : View). x.stage) is.2.2)
no_body v w (answered answer) other off is = to w (answered answer) (stage_answered is.more answer) refl refl (answered_none is.more answer) (ap (λ (x : View). x.stage) is.same)
no_body v w (pulled piece) other off is = apart v w (pulled piece) refl refl off (ap (λ (x : View). x.stage) is.2)
no_body v w paused other off is = apart v w paused refl refl off (ap (λ (x : View). x.stage) is.4)
no_body v w dropped other off is = apart v w dropped refl refl off (ap (λ (x : View). x.stage) is.3)
no_body v w (replied answer) other off is = absurd (cc other)
no_body v w (sent piece) other off is = clash (sym (ap is_sending is.1.goes_out) ∙ off)
no_body v w (failed event) other off is = apart v w (failed event) refl refl off (ap (λ (x : View). x.stage) is.2)
no_body v w (failed_write count) other off is = apart v w (failed_write count) refl refl off (ap (λ (x : View). x.stage) is.4)
no_body v w (failed_read came event) other off is = apart v w (failed_read came event) refl refl off (ap (λ (x : View). x.stage) is.4)
no_body v w (failed_fed bytes) other off is = apart v w (failed_fed bytes) refl refl off (ap (λ (x : View). x.stage) is.2)
no_body v w (failed_sent piece) other off is = clash (sym (ap is_sending is.1.goes_out) ∙ off)
no_body v w asked_to_drain other off is = apart v w asked_to_drain refl refl off (ap (λ (x : View). x.stage) is)
no_body v w (asked_to_hold upgrades expects) other off is = apart v w (asked_to_hold upgrades expects) refl refl off (ap (λ (x : View). x.stage) is)
no_body v w declined other off is = apart v w declined refl refl off (ap (λ (x : View). x.stage) is)
no_body v w let_on other off is = apart v w let_on refl refl off (ap (λ (x : View). x.stage) is)
no_body v w (turned_away request answer) other off is = to w (turned_away request answer) (replying answer) refl refl refl (ap (λ (x : View). x.stage) is.2)
no_body v w (refused limit error) other off is = apart v w (refused limit error) refl refl off (ap (λ (x : View). x.stage) is.2)

-- ---- a step of a body that goes out

-- it goes on with what is left, or came to its end
abbrev Goes : Giving → Step → View → Type 0
Goes body d w = (left : Giving) × (w.stage ≡ sending left) × (body.coming ≡ led_by (step_pieces d) left.coming) × (ends_body d ≡ false)

abbrev Ends : Giving → Step → View → Type 0
Ends body d w = (w.stage ≡ free) × (step_pieces d ≡ []) × Tells body.coming []

stays : (v w : View) (d : Step) (body : Giving) → step_pieces d ≡ [] → ends_body d ≡ false → v.stage ≡ sending body → w.stage ≡ v.stage → Goes body d w ⊎ Ends body d w
stays v w d body none goes was same = inl (body, same ∙ was, sym (ap (λ l. led_by l body.coming) none ∙ led_by-none body.coming), goes)

polled : (w : View) (piece : Piece) (body left : Giving) → w.stage ≡ stage_sent left piece → PieceSays body left piece → Goes body (sent piece) w ⊎ Ends body (sent piece) w
polled w (Ready None) body left now says = inr (now, refl, says.ends)
polled w (Ready (Some x)) body left now says = inl (left, now, says.gives, refl)
polled w Pending body left now says = inl (left, now, says.gives, refl)

abbrev body_in : Stage → Giving → Giving
body_in (sending body) other = body
body_in stage other = other

same_body : (a b : Giving) → sending a ≡ sending b → a ≡ b
same_body a b same = ap (λ s. body_in s a) same

a_body : (v w : View) (d : Step) (body : Giving) → is_reply d ≡ false → v.stage ≡ sending body → IsStep v d w → Goes body d w ⊎ Ends body d w
a_body v w (ticked moment expiry) body other was is = stays v w (ticked moment expiry) body refl refl was (ap (λ (x : View). x.stage) is.1)
a_body v w drained body other was is = stays v w drained body refl refl was (ap (λ (x : View). x.stage) is.1)
a_body v w (written answer) body other was is = stays v w (written answer) body refl refl was (ap (λ (x : View). x.stage) is.4)
a_body v w (read came answer) body other was is = stays v w (read came answer) body refl refl was (ap (λ (x : View). x.stage) is.4)
a_body v w (shut answer) body other was is = stays v w (shut answer) body refl refl was (ap (λ (x : View). x.stage) is.2)
a_body v w (next peer head) body other was is = clash (ap is_sending (sym was ∙ is.1))
a_body v w (closed end) body other was is = stays v w (closed end) body refl refl was (ap (λ (x : View). x.stage) is.4)
a_body v w continued body other was is = clash (sym (sym (ap is_waiting was) ∙ is.0.1))
a_body v w (ready request answer) body other was is = clash (ap is_sending (sym was ∙ is.0.1))
a_body v w (called request) body other was is = clash (ap is_sending (sym was ∙ is.0.1))
a_body v w (answered answer) body other was is = clash (ap is_sending (sym was ∙ is.calls))
a_body v w (pulled piece) body other was is = stays v w (pulled piece) body refl refl was (ap (λ (x : View). x.stage) is.2)
a_body v w paused body other was is = stays v w paused body refl refl was (ap (λ (x : View). x.stage) is.4)
a_body v w dropped body other was is = clash (sym (sym (ap is_replying was) ∙ is.1))
a_body v w (replied answer) body other was is = absurd (cc other)
a_body v w (sent piece) body other was is =
    polled w piece body is.0 (ap (λ (x : View). x.stage) is.3) (subst (λ b. PieceSays b is.0 piece) (same_body is.1.body body (sym is.1.goes_out ∙ was)) is.1.says)
a_body v w (failed event) body other was is = stays v w (failed event) body refl refl was (ap (λ (x : View). x.stage) is.2)
a_body v w (failed_write count) body other was is = stays v w (failed_write count) body refl refl was (ap (λ (x : View). x.stage) is.4)
a_body v w (failed_read came event) body other was is = stays v w (failed_read came event) body refl refl was (ap (λ (x : View). x.stage) is.4)
a_body v w (failed_fed bytes) body other was is = stays v w (failed_fed bytes) body refl refl was (ap (λ (x : View). x.stage) is.2)
a_body v w (failed_sent piece) body other was is =
    let says = subst (λ b. PieceSays b is.0 piece) (same_body is.1.body body (sym is.1.goes_out ∙ was)) is.1.says in
    inl (is.0, ap (λ (x : View). x.stage) is.3, says.gives, refl)
a_body v w asked_to_drain body other was is = stays v w asked_to_drain body refl refl was (ap (λ (x : View). x.stage) is)
a_body v w (asked_to_hold upgrades expects) body other was is = stays v w (asked_to_hold upgrades expects) body refl refl was (ap (λ (x : View). x.stage) is)
a_body v w declined body other was is = stays v w declined body refl refl was (ap (λ (x : View). x.stage) is)
a_body v w let_on body other was is = stays v w let_on body refl refl was (ap (λ (x : View). x.stage) is)
a_body v w (turned_away request answer) body other was is = clash (ap is_sending (sym was ∙ is.1))
a_body v w (refused limit error) body other was is = clash (sym (sym (ap is_waiting was) ∙ accepts_waits v limit is.0))

-- ---- runs

-- the first step is an answer that was handed on, or is none
pieces_at : (d : Step) (steps : List Step) → is_reply d ≡ true → pieces (d ∷ steps) ≡ []
pieces_at d steps is = ap (λ b. if b then [] else (step_pieces d ++ pieces steps)) is

pieces_on : (d : Step) (steps : List Step) → is_reply d ≡ false → pieces (d ∷ steps) ≡ step_pieces d ++ pieces steps
pieces_on d steps is = ap (λ b. if b then [] else (step_pieces d ++ pieces steps)) is

end_at : (d : Step) (steps : List Step) → is_reply d ≡ true → has_end (d ∷ steps) ≡ false
end_at d steps is = ap (λ b. if b then false else (ends_body d || has_end steps)) is

end_on : (d : Step) (steps : List Step) → is_reply d ≡ false → has_end (d ∷ steps) ≡ (ends_body d || has_end steps)
end_on d steps is = ap (λ b. if b then false else (ends_body d || has_end steps)) is

reply_at : (d : Step) (steps : List Step) → is_reply d ≡ true → has_reply (d ∷ steps) ≡ true
reply_at d steps is = ap (λ b. b || has_reply steps) is

reply_on : (d : Step) (steps : List Step) → is_reply d ≡ false → has_reply (d ∷ steps) ≡ has_reply steps
reply_on d steps is = ap (λ b. b || has_reply steps) is

not_both : {A : Type 0} (b : Bool) → b ≡ true → b ≡ false → A
not_both b is other = clash (sym is ∙ other)

record Quiet (steps : List Step) (w : View) : Type 0 where
  none : pieces steps ≡ []
  after : has_reply steps ≡ false → is_sending w.stage ≡ false

quiet_on : (v u w : View) (d : Step) (steps : List Step) → is_sending v.stage ≡ false → IsStep v d u → (is_sending u.stage ≡ false → Quiet steps w) → Quiet (d ∷ steps) w
quiet_on v u w d steps off is rest = by_reply (is_reply d) refl
  where
    by_reply : (b : Bool) → is_reply d ≡ b → Quiet (d ∷ steps) w
    by_reply true so = record { none = pieces_at d steps so; after = λ last. not_both (has_reply (d ∷ steps)) (reply_at d steps so) last }
    by_reply false so =
        let n = no_body v u d so off is in
        let q = rest n.after in
        record { none = pieces_on d steps so ∙ ap (λ l. l ++ pieces steps) n.none ∙ q.none; after = λ last. q.after (sym (reply_on d steps so) ∙ last) }

quiet : (v w : View) (steps : List Step) → is_sending v.stage ≡ false → IsRun v steps w → Quiet steps w
quiet v w [] off is = record { none = refl; after = λ last. ap (λ (x : View). is_sending x.stage) is ∙ off }
quiet v w (d ∷ steps) off is = quiet_on v is.0 w d steps off is.1 (λ n. quiet is.0 w steps n is.2)

abbrev left_in : Stage → Option (List Given)
left_in (sending body) = body.coming
left_in other = None

-- the next answer was handed on, and nothing came of the body before
at_reply : (w : View) (d : Step) (steps : List Step) (coming : Option (List Given)) → is_reply d ≡ true → GoesOut coming (d ∷ steps) w
at_reply w d steps coming so = record {
  left = coming;
  gives = sym (ap (λ l. led_by l coming) (pieces_at d steps so) ∙ led_by-none coming);
  whole = λ ends. not_both (has_end (d ∷ steps)) ends (end_at d steps so);
  goes_on = λ last. not_both (has_reply (d ∷ steps)) (reply_at d steps so) last;
}

-- the body goes on after this step
goes_then : (w : View) (d : Step) (steps : List Step) (coming later : Option (List Given)) → is_reply d ≡ false → coming ≡ led_by (step_pieces d) later
    → ends_body d ≡ false → GoesOut later steps w → GoesOut coming (d ∷ steps) w
goes_then w d steps coming later so gives not_ended rest = record {
  left = rest.left;
  gives = gives ∙ ap (λ c. led_by (step_pieces d) c) rest.gives ∙ led_by-more (step_pieces d) (pieces steps) rest.left
      ∙ ap (λ l. led_by l rest.left) (sym (pieces_on d steps so));
  whole = λ ends. rest.whole (sym (ap (λ b. b || has_end steps) not_ended) ∙ sym (end_on d steps so) ∙ ends);
  goes_on = λ last. rest.goes_on (sym (reply_on d steps so) ∙ last);
}

-- it came to its end in this step
ends_then : (w : View) (d : Step) (steps : List Step) (coming : Option (List Given)) → is_reply d ≡ false → step_pieces d ≡ [] → Tells coming [] → Quiet steps w
    → GoesOut coming (d ∷ steps) w
ends_then w d steps coming so none whole q = record {
  left = coming;
  gives = sym (ap (λ l. led_by l coming) (pieces_on d steps so ∙ ap (λ l. l ++ pieces steps) none ∙ q.none) ∙ led_by-none coming);
  whole = λ ends. whole;
  goes_on = λ last other now. not_both (is_sending w.stage) (ap is_sending now) (q.after (sym (reply_on d steps so) ∙ last));
}

runs_on : (v u w : View) (d : Step) (steps : List Step) (body : Giving) → v.stage ≡ sending body → IsStep v d u → IsRun u steps w
    → ((left : Giving) → u.stage ≡ sending left → GoesOut left.coming steps w) → GoesOut body.coming (d ∷ steps) w
runs_on v u w d steps body was is later rest = by_reply (is_reply d) refl
  where
    by_step : is_reply d ≡ false → Goes body d u ⊎ Ends body d u → GoesOut body.coming (d ∷ steps) w
    by_step so (inl on) = goes_then w d steps body.coming on.0.coming so on.2 on.3 (rest on.0 on.1)
    by_step so (inr end) = ends_then w d steps body.coming so end.1 end.2 (quiet u w steps (ap is_sending end.0) later)

    by_reply : (b : Bool) → is_reply d ≡ b → GoesOut body.coming (d ∷ steps) w
    by_reply true so = at_reply w d steps body.coming so
    by_reply false so = by_step so (a_body v u d body so was is)

body_runs : (v w : View) (steps : List Step) (body : Giving) → v.stage ≡ sending body → IsRun v steps w → GoesOut body.coming steps w
body_runs v w [] body was is = record {
  left = body.coming;
  gives = sym (led_by-none body.coming);
  whole = λ ends. absurd (cc ends);
  goes_on = λ last other now. ap left_in (sym was ∙ sym (ap (λ (x : View). x.stage) is) ∙ now);
}
body_runs v w (d ∷ steps) body was is = runs_on v is.0 w d steps body was is.1 is.2 (λ left now. body_runs is.0 w steps left now is.2)

from : (v w : View) (steps : List Step) (stage : Stage) → v.stage ≡ stage → IsRun v steps w → SendsBody stage steps w
from v w steps free was is = (quiet v w steps (ap is_sending was) is).none
from v w steps (waiting request) was is = (quiet v w steps (ap is_sending was) is).none
from v w steps (calling took) was is = (quiet v w steps (ap is_sending was) is).none
from v w steps (replying answer) was is = (quiet v w steps (ap is_sending was) is).none
from v w steps (sending body) was is = body_runs v w steps body was is

pub run_sends : (v w : View) (steps : List Step) → IsRun v steps w → SendsBody v.stage steps w
run_sends v w steps is = from v w steps v.stage refl is

pub reply_sends : (v w : View) (answer : Answer) (steps : List Step) → IsRun v (replied answer ∷ steps) w → SendsBody (stage_replied answer.body answer.body.size) steps w
reply_sends v w answer steps is = from is.0 w steps (stage_replied answer.body answer.body.size) (ap (λ (x : View). x.stage) is.1.3) is.2
