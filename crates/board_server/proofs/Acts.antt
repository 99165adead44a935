-- One poll more.
use Rattle.std.proofs.Common.{◌≡◌, ◌<◌, ◌+◌, ℕ, Bool, true, false, List, [], ◌∷◌, ◌++◌, Result, Ok, Err, inr, refl, sym, ap, ◌∙◌, subst, arith}
use Rattle.std.specs.Prelude.{nat_lt}
use Rattle.std.specs.List.{AllByRecursion}
use Rattle.std.proofs.lemmas.List.{length-append}
use Rattle.futures.specs.declared.task.Poll.{Poll}
use Rattle.futures.specs.declared.task.Poll.TheVariants.{Ready, Pending}
use Rattle.http_types.specs.declared.error.DispatchError.{DispatchError}
use Rattle.h1_dispatcher.specs.View.{View}
use Rattle.h1_dispatcher.specs.Acts.{Act, polled, ActSays, ActsSay}
use Rattle.board_server.specs.declared.error.ServeError.{ServeError}
use Rattle.board_server.specs.declared.error.ServeError.TheVariants.{Dispatch, NoMemory}
use Rattle.board_server.specs.Serves.{IsWait, AreWaits, PollsAt, EndsAt, Ends, end_of}

pub says_more : (acts : List Act) (act : Act) (v u w : View) → ActsSay v acts u → ActSays u act w → ActsSay v (acts ++ act ∷ []) w
says_more [] act v u w say last = (w, subst (λ x. ActSays x act w) say last, refl)
says_more (a ∷ acts) act v u w say last = (say.0, say.1, says_more acts act say.0 u w say.2 last)

all_more : (may_give : ℕ → Bool) (acts : List Act) (act : Act) → AllByRecursion (IsWait may_give) acts → IsWait may_give act → AllByRecursion (IsWait may_give) (acts ++ act ∷ [])
all_more may_give [] act all last = (last, tt)
all_more may_give (a ∷ acts) act all last = (all.0, all_more may_give acts act all.1 last)

-- one more that was pending
pub waits_more : (may_give : ℕ → Bool) (v u w : View) (count : ℕ) → AreWaits may_give v count u → PollsAt may_give u w Pending → AreWaits may_give v (count + 1) w
waits_more may_give v u w count waits last =
    let act : Act = polled last.moment last.cx Pending in
    record {
      acts = waits.acts ++ act ∷ [];
      say = says_more waits.acts act v u w waits.say last.says;
      many = length-append waits.acts (act ∷ []) ∙ ap (λ n. n + 1) waits.many;
      each = all_more may_give waits.acts act waits.each last.given;
    }

-- a clock that has the same test
pub polls_alike : (other may_give : ℕ → Bool) (v w : View) (answer : Poll (Result Unit DispatchError)) → ((moment : ℕ) → other moment ≡ may_give moment) → PollsAt other v w answer → PollsAt may_give v w answer
polls_alike other may_give v w answer same last =
    record { moment = last.moment; given = sym (same last.moment) ∙ last.given; cx = last.cx; says = last.says }

-- none
pub no_waits : (may_give : ℕ → Bool) (v : View) → AreWaits may_give v 0 v
no_waits may_give v = record { acts = []; say = refl; many = refl; each = tt }

-- ---- how the polls end

-- each call was answered
pub none_below : (n : ℕ) → nat_lt 0 n ≡ false → n ≡ 0
none_below n is = grind arith

some_below : (n : ℕ) → nat_lt 0 n ≡ true → 0 < n
some_below n is = grind arith

module _ (polls count : ℕ) (may_give other : ℕ → Bool) (v u w : View) where
  at_end : (answer : Poll (Result Unit DispatchError)) → AreWaits may_give v count u → count < polls → ((moment : ℕ) → other moment ≡ may_give moment) → PollsAt other u w answer
      → EndsAt may_give polls v w answer
  at_end answer waits fewer same last =
      record { count = count; fewer = fewer; between = u; waits = waits; last = polls_alike other may_give u w answer same last }

  -- a call wasn't answered
  pub ends_stuck : (answer : Poll (Result Unit DispatchError)) → AreWaits may_give v count u → count < polls → ((moment : ℕ) → other moment ≡ may_give moment) → PollsAt other u w answer
      → nat_lt 0 w.service.call_waits ≡ true → Ends polls may_give v w (Err NoMemory)
  ends_stuck answer waits fewer same last stuck = inr (answer, at_end answer waits fewer same last, some_below w.service.call_waits stuck)

  -- the last poll answered so
  pub ends_ok : AreWaits may_give v count u → count < polls → ((moment : ℕ) → other moment ≡ may_give moment) → PollsAt other u w (Ready (Ok tt))
      → nat_lt 0 w.service.call_waits ≡ false → Ends polls may_give v w (Ok tt)
  ends_ok waits fewer same last stuck = (at_end (Ready (Ok tt)) waits fewer same last, none_below w.service.call_waits stuck)

  pub ends_err : (e : DispatchError) → AreWaits may_give v count u → count < polls → ((moment : ℕ) → other moment ≡ may_give moment) → PollsAt other u w (Ready (Err e))
      → nat_lt 0 w.service.call_waits ≡ false → Ends polls may_give v w (Err (Dispatch e))
  ends_err e waits fewer same last stuck = (at_end (Ready (Err e)) waits fewer same last, none_below w.service.call_waits stuck)

  pub ends_told : (r : Result Unit DispatchError) → AreWaits may_give v count u → count < polls → ((moment : ℕ) → other moment ≡ may_give moment) → PollsAt other u w (Ready r)
      → nat_lt 0 w.service.call_waits ≡ false → Ends polls may_give v w (end_of r)
  ends_told (Ok tt) waits fewer same last stuck = ends_ok waits fewer same last stuck
  ends_told (Err e) waits fewer same last stuck = ends_err e waits fewer same last stuck

  pub ends_by : (answer : Poll (Result Unit DispatchError)) (r : Result Unit DispatchError) (end : Result Unit ServeError) → AreWaits may_give v count u → count < polls
      → ((moment : ℕ) → other moment ≡ may_give moment) → PollsAt other u w answer → nat_lt 0 w.service.call_waits ≡ false → answer ≡ Ready r → end ≡ end_of r → Ends polls may_give v w end
  ends_by answer r end waits fewer same last stuck is ended =
      subst (λ e. Ends polls may_give v w e) (sym ended) (ends_told r waits fewer same (subst (λ a. PollsAt other u w a) is last) stuck)

  -- or it was pending
  pub waits_on : AreWaits may_give v count u → ((moment : ℕ) → other moment ≡ may_give moment) → PollsAt other u w Pending → AreWaits may_give v (count + 1) w
  waits_on waits same last = waits_more may_give v u w count waits (polls_alike other may_give u w Pending same last)
