-- What the parts of a turn say, one after the other.
use Rattle.std.proofs.Common.{◌≡◌, ◌≤◌, ◌<◌, ◌+◌, ◌*◌, ◌⊎◌, ◌++◌, ℕ, true, false, Option, None, is_some, List, [], ◌∷◌, Result, Ok, inl, inr, refl, sym, ap, ◌∙◌, subst, arith, length-append}
use Rattle.std.specs.Prelude.{option_map}
use Rattle.futures.specs.declared.task.Poll.{Poll}
use Rattle.futures.specs.declared.task.Poll.TheVariants.{Ready, Pending}
use Rattle.futures.specs.declared.task.context.Context.{Context}
use Rattle.model_h1.specs.Event as on
use Rattle.model_state.specs.Local.{closing_by}
use Rattle.h1_connection.specs.EventMeaning.{setting_of, end_of}
use Rattle.h1_connection.specs.declared.event.End.{End}
use Rattle.ws_service.specs.declared.error.UpgradeError.{UpgradeError}
use Rattle.ws_service.specs.declared.dispatcher.UpgradeTurn.{UpgradeTurn}
use Rattle.ws_service.specs.declared.dispatcher.UpgradeTurn.TheVariants.{Counted, Idle, Over}
use Rattle.ws_service.specs.View.{View, Stage, free, waiting, calling, sending, closes, allows, allows_pull, HasNoOutput, HasNoInput}
use Rattle.ws_service.specs.Steps.{Step, IsStep, FindsNone, written, told_end, pulled}
use Rattle.ws_service.specs.declared.dispatcher.serve_frames.Given.TheVariants.{Nothing}
use Rattle.ws_service.specs.Polls.{Continues, IsLast, Needs, IsHeld, Progress, WritesFirst, TurnSays, AfterSays, ServeSays, ReadingSays, TellSays, RestSays, EndSays, TurnsSay}
use Rattle.ws_service.proofs.Runs.{one, run_on, all_on, progress_on, goes_by, goes_after, ends_after, more_goes, more_ends}

-- ---- what the service needs

last_on : (d e : Step) (s : List Step) → IsLast d s → IsLast d (e ∷ s)
last_on d e s is = (e ∷ is.0, ap (λ l. e ∷ l) is.1)

needs_on : (w : View) (stage : Stage) (d : Step) (s : List Step) → Needs w stage s → Needs w stage (d ∷ s)
needs_on w free d s is = (last_on _ d s is.0, is.1)
needs_on w (waiting item) d s is = last_on _ d s is
needs_on w calling d s is = last_on _ d s is
needs_on w (sending message) d s is = is

-- a step before what follows
pub step_then : (x most : ℕ) → 1 + x ≤ most → (v u w : View) (d : Step) (turn : UpgradeTurn) → IsStep v d u → Continues d → ServeSays x u w turn → ServeSays most v w turn
step_then x most fits v u w d Counted is goes says =
    goes_after v u w 0 1 1 (omega arith) 1 x most fits (goes_by 1 (omega arith) v u d 0 is goes (omega arith)) says
step_then x most fits v u w d Idle is goes says = record {
  served = d ∷ says.served;
  between = says.between;
  serves = (u, is, says.serves);
  go_on = (goes, says.go_on);
  needs = needs_on says.between says.between.stage d says.served says.needs;
  few = omega (arith, says.few, fits);
  input = says.input;
}
step_then x most fits v u w d (Over result) is goes says =
    ends_after v u w 0 result 1 x most fits (goes_by 1 (omega arith) v u d 0 is goes (omega arith)) says

-- what was pending, and then the input
pub pending_then : (most : ℕ) → 2 ≤ most → (v u w : View) (d : Step) (turn : UpgradeTurn) → IsStep v d u → Continues d → Needs u u.stage (d ∷ []) → ReadingSays u w turn → ServeSays most v w turn
pending_then most fits v u w d Counted is goes needs says =
    goes_after v u w 0 1 1 (omega arith) 1 1 most (omega (arith, fits)) (goes_by 1 (omega arith) v u d 0 is goes (omega arith)) says
pending_then most fits v u w d Idle is goes needs says =
    record { served = d ∷ []; between = u; serves = one v u d is; go_on = (goes, tt); needs = needs; few = omega (arith, fits); input = says }
pending_then most fits v u w d (Over result) is goes needs says =
    ends_after v u w 0 result 1 1 most (omega (arith, fits)) (goes_by 1 (omega arith) v u d 0 is goes (omega arith)) says

-- no frame was there, and then the input was read, or its end told
pub rest_then : (most : ℕ) → 2 ≤ most → (v u w : View) (turn : UpgradeTurn) → v.ending ≡ None → v.stage ≡ free → allows_pull v ≡ true → FindsNone v u → IsStep v (pulled Nothing) u
    → RestSays u w turn → ServeSays most v w turn
rest_then most fits v u w Counted running unasked allowed finds is (inl reads) =
    goes_after v u w 0 1 1 (omega arith) 1 1 most (omega (arith, fits)) (goes_by 1 (omega arith) v u (pulled Nothing) 0 is tt (omega arith)) reads
rest_then most fits v u w Counted running unasked allowed finds is (inr tells) =
    goes_by most (omega (arith, fits)) v w told_end 1 (
      running,
      unasked,
      sym (ap (λ (x : View). x.input_ended) finds.same) ∙ tells.ended,
      allowed,
      (u, finds, tells.allowed, tells.told),
      tells.same ∙ ap (λ (x : View). record x { traced = w.traced }) finds.same,
    )
    tt (omega arith)
rest_then most fits v u w Idle running unasked allowed finds is says = record {
  served = pulled Nothing ∷ [];
  between = u;
  serves = one v u (pulled Nothing) is;
  go_on = (tt, tt);
  needs = subst (λ s. Needs u s (pulled Nothing ∷ [])) (sym (ap (λ (x : View). x.stage) finds.same ∙ unasked)) (([], refl), says.1);
  few = omega (arith, fits);
  input = says.0;
}
rest_then most fits v u w (Over result) running unasked allowed finds is says =
    ends_after v u w 0 result 1 1 most (omega (arith, fits)) (goes_by 1 (omega arith) v u (pulled Nothing) 0 is tt (omega arith)) says

pub reads_rest : (v w : View) (turn : UpgradeTurn) → v.input_ended ≡ false → ReadingSays v w turn → RestSays v w turn
reads_rest v w Counted coming says = inl says
reads_rest v w Idle coming says = (says, inl coming)
reads_rest v w (Over result) coming says = says

pub tells_rest : (v w : View) (turn : UpgradeTurn) → TellSays v w turn → RestSays v w turn
tells_rest v w Counted says = inr says
tells_rest v w Idle says = absurd says
tells_rest v w (Over result) says = says

pub nothing_rests : (v : View) (turn : UpgradeTurn) → turn ≡ Idle → allows v on.eof ≡ false → RestSays v v turn
nothing_rests v turn is off = subst (λ t. RestSays v v t) (sym is) (record { reading = []; reads = refl; no_input = inr (refl, inl off) }, inr off)

-- the input alone
pub input_then : (v w : View) (turn : UpgradeTurn) → Needs v v.stage [] → ReadingSays v w turn → ServeSays 1 v w turn
input_then v w Counted needs says = says
input_then v w Idle needs says = record { served = []; between = v; serves = refl; go_on = tt; needs = needs; few = omega arith; input = says }
input_then v w (Over result) needs says = says

-- an event in any case
pub only_end : (v w : View) (turn : UpgradeTurn) → EndSays v w turn → ServeSays 1 v w turn
only_end v w Counted says = says
only_end v w Idle says = absurd says
only_end v w (Over result) says = says

-- no more steps than so many are no more than three
pub more_serve : (most : ℕ) → most ≤ 3 → (v w : View) (turn : UpgradeTurn) → ServeSays most v w turn → ServeSays 3 v w turn
more_serve most fits v w Counted says = more_goes v w 1 most 3 fits says
more_serve most fits v w Idle says = record {
  served = says.served;
  between = says.between;
  serves = says.serves;
  go_on = says.go_on;
  needs = says.needs;
  few = omega (arith, says.few, fits);
  input = says.input;
}
more_serve most fits v w (Over result) says = more_ends v w result most 3 fits says

-- nothing may be read
pub nothing_read : (v : View) (turn : UpgradeTurn) → turn ≡ Idle → HasNoInput v → ReadingSays v v turn
nothing_read v turn is none = subst (λ t. ReadingSays v v t) (sym is) (record { reading = []; reads = refl; no_input = inr (refl, none) })

-- ---- after the writing

pub open_then : (v w : View) (turn : UpgradeTurn) → closes v ≡ false → ServeSays 3 v w turn → AfterSays v w turn
open_then v w Counted so says = says
open_then v w Idle so says = inr (so, says)
open_then v w (Over result) so says = says

pub end_then : (v w : View) (turn : UpgradeTurn) → EndSays v w turn → AfterSays v w turn
end_then v w Counted says = more_goes v w 1 1 3 (omega arith) says
end_then v w Idle says = absurd says
end_then v w (Over result) says = more_ends v w result 1 3 (omega arith) says

pub held_idle : (v : View) (turn : UpgradeTurn) → turn ≡ Idle → IsHeld v v → AfterSays v v turn
held_idle v turn is held = subst (λ t. AfterSays v v t) (sym is) (inl held)

pub quiet_then : (v w : View) (turn : UpgradeTurn) → v.ending ≡ None → HasNoOutput v → AfterSays v w turn → TurnSays v w turn
quiet_then v w Counted running none says = (more_goes v w 1 3 4 (omega arith) says, inl none)
quiet_then v w Idle running none says =
    inl (record { running = running; writing = []; after = v; writes = refl; no_output = inr (refl, none); waits = says })
quiet_then v w (Over result) running none says = more_ends v w result 3 4 (omega arith) says

pub written_then : (v u w : View) (turn : UpgradeTurn) → v.ending ≡ None → IsStep v (written Pending) u → AfterSays u w turn → TurnSays v w turn
written_then v u w Counted running is says = (
  record {
    steps = written Pending ∷ says.steps;
    run = (u, is, says.run);
    go_on = (tt, says.go_on);
    enough = omega (arith, says.enough);
    few = omega (arith, says.few);
  },
  inr (Pending, says.steps, refl),
)
written_then v u w Idle running is says =
    inl (record { running = running; writing = written Pending ∷ []; after = u; writes = one v u (written Pending) is; no_output = inl refl; waits = says })
written_then v u w (Over result) running is says =
    ends_after v u w 0 result 1 3 4 (omega arith) (goes_by 1 (omega arith) v u (written Pending) 0 is tt (omega arith)) says

-- the transport took bytes
pub wrote_first : (v w : View) (count : ℕ) → IsStep v (written (Ready (Ok count))) w → TurnSays v w Counted
wrote_first v w count is = (
  record { steps = written (Ready (Ok count)) ∷ []; run = one v w (written (Ready (Ok count))) is; go_on = (tt, tt); enough = omega arith; few = omega arith },
  inr (Ready (Ok count), [], refl),
)

pub not_closing : (v : View) (r : Option End) → r ≡ None → option_map end_of r ≡ closing_by (setting_of v.traced.state.settings) v.traced.state.kept → closes v ≡ false
not_closing v r none says = ap is_some (sym says) ∙ ap (λ x. is_some (option_map end_of x)) none

-- ---- the turns

-- so many turns: the first of them wrote first
pub record Turns (v u : View) (n : ℕ) : Type 0 where
  pub goes : Progress v u n (4 * n)
  pub first : ((n ≡ 0) × (u ≡ v) × (goes.steps ≡ [])) ⊎ WritesFirst v goes.steps

pub no_turn : (v : View) → Turns v v 0
no_turn v = record { goes = record { steps = []; run = refl; go_on = tt; enough = omega arith; few = omega arith }; first = inl (refl, refl, refl) }

first_on : (v u : View) (n : ℕ) (s t : List Step) → ((n ≡ 0) × (u ≡ v) × (s ≡ [])) ⊎ WritesFirst v s → WritesFirst u t → WritesFirst v (s ++ t)
first_on v u n s t (inl none) now = subst (λ l. WritesFirst v (l ++ t)) (sym none.2) (subst (λ x. WritesFirst x t) none.1 now)
first_on v u n s t (inr (inl quiet)) now = inl quiet
first_on v u n s t (inr (inr (answer, rest, is))) now = inr (answer, rest ++ t, ap (λ l. l ++ t) is)

not_none : (v w : View) (n : ℕ) (s : List Step) → n ≡ 64 → ((n ≡ 0) × (w ≡ v) × (s ≡ [])) ⊎ WritesFirst v s → WritesFirst v s
not_none v w n s is (inl none) = absurd (omega (arith, none.0, is))
not_none v w n s is (inr first) = first

pub turns_spent : (v w : View) (cx : Context) (n : ℕ) (result : Poll (Result Unit UpgradeError)) → n ≡ 64 → Turns v w n → cx.is_woken ≡ true → result ≡ Pending → TurnsSay v w cx result
turns_spent v w cx n result is turns woken pending =
    let goes = turns.goes in
    let all : Progress v w 64 (4 * 64) = record { steps = goes.steps; run = goes.run; go_on = goes.go_on; enough = omega (arith, goes.enough, is); few = omega (arith, goes.few, is) } in
    subst (λ r. TurnsSay v w cx r) (sym pending) (inr (record { goes = all; first = not_none v w n goes.steps is turns.first; woken = woken }))

pub turns_idle : (v u w : View) (cx : Context) (n : ℕ) → n < 64 → Progress v u n (4 * n) → TurnSays u w Idle → TurnsSay v w cx Pending
turns_idle v u w cx n below goes says = inl (record { turns = n; fewer = below; last = u; goes = goes; stuck = says })

pub turns_over : (v u w : View) (cx : Context) (n : ℕ) (result : Result Unit UpgradeError) → n < 64 → Progress v u n (4 * n) → TurnSays u w (Over result) → TurnsSay v w cx (Ready result)
turns_over v u w cx n result below goes says = ends_after v u w n result (4 * n) 4 (4 * 64) (omega (arith, below)) goes says

-- another turn
pub turns_on : (v u w : View) (n : ℕ) → Turns v u n → TurnSays u w Counted → Turns v w (n + 1)
turns_on v u w n turns says = record {
  goes = record {
    steps = turns.goes.steps ++ says.0.steps;
    run = run_on v u w turns.goes.steps says.0.steps turns.goes.run says.0.run;
    go_on = all_on turns.goes.steps says.0.steps turns.goes.go_on says.0.go_on;
    enough = omega (arith, progress_on turns.goes.steps says.0.steps, turns.goes.enough, says.0.enough);
    few = omega (arith, length-append turns.goes.steps says.0.steps, turns.goes.few, says.0.few);
  };
  first = inr (first_on v u n turns.goes.steps says.0.steps turns.first says.1);
}
