-- Where nobody asks that requests are held back, none is.
use Rattle.std.proofs.Common.{◌≡◌, Bool, true, false, List, [], ◌∷◌, refl, sym, ap, ◌∙◌, subst}
use Rattle.std.specs.Prelude.{◌&&◌, ◌||◌}
use Rattle.std.specs.List.{AllByRecursion}
use Rattle.model_h1.specs.Event as on
use Rattle.h1_connection.specs.declared.connection.heads.NextHead.{NextHead}
use Rattle.h1_connection.specs.declared.connection.heads.NextHead.TheVariants as next_head
use Rattle.h1_dispatcher.specs.View.{View, is_waiting, allows}
use Rattle.h1_dispatcher.specs.Steps.{Step, IsStep, IsRun, holding_at, checking_at, ticked, drained, written, read, shut, next, closed, continued, ready, called, answered, pulled, paused, dropped, replied, sent, failed, failed_write, failed_read, failed_fed, failed_sent, asked_to_drain, asked_to_hold, declined, let_on, turned_away, refused}
use Rattle.h1_dispatcher.specs.Acts.{Act, ActsSay}
use Rattle.h1_dispatcher.specs.Upgrades.{HoldsNone, AsksNoHold, DecidesNone, StaysUnheld}
use Rattle.h1_dispatcher.proofs.Acts.{acts_run}

-- these four stay
alike : (v w : View) → w.upgrades ≡ v.upgrades → w.expects ≡ v.expects → w.holding ≡ v.holding → w.checking ≡ v.checking → HoldsNone v → HoldsNone w
alike v w a b c d none = record { upgrades = a ∙ none.upgrades; expects = b ∙ none.expects; holding = c ∙ none.holding; checking = d ∙ none.checking }

-- the first two stay, and the last request isn't held back
freed : (v w : View) → w.upgrades ≡ v.upgrades → w.expects ≡ v.expects → w.holding ≡ false → w.checking ≡ false → HoldsNone v → HoldsNone w
freed v w a b c d none = record { upgrades = a ∙ none.upgrades; expects = b ∙ none.expects; holding = c; checking = d }

held_of_head : (head : NextHead) (v : View) → HoldsNone v → holding_at head v ≡ false
held_of_head (next_head.Head item) v none = none.upgrades
held_of_head (next_head.Fault fault) v none = none.holding
held_of_head next_head.Pending v none = none.holding
held_of_head (next_head.Closed end) v none = none.holding

checked_of_head : (head : NextHead) (v : View) → HoldsNone v → checking_at head v ≡ false
checked_of_head (next_head.Head item) v none = none.expects
checked_of_head (next_head.Fault fault) v none = none.checking
checked_of_head next_head.Pending v none = none.checking
checked_of_head (next_head.Closed end) v none = none.checking

step_none : (v w : View) (d : Step) → AsksNoHold d → IsStep v d w → HoldsNone v → HoldsNone w
step_none v w (ticked moment expiry) asks is none = alike v w (ap (λ (x : View). x.upgrades) is.1) (ap (λ (x : View). x.expects) is.1) (ap (λ (x : View). x.holding) is.1) (ap (λ (x : View). x.checking) is.1) none
step_none v w drained asks is none = alike v w (ap (λ (x : View). x.upgrades) is.1) (ap (λ (x : View). x.expects) is.1) (ap (λ (x : View). x.holding) is.1) (ap (λ (x : View). x.checking) is.1) none
step_none v w (written answer) asks is none = alike v w (ap (λ (x : View). x.upgrades) is.4) (ap (λ (x : View). x.expects) is.4) (ap (λ (x : View). x.holding) is.4) (ap (λ (x : View). x.checking) is.4) none
step_none v w (read came answer) asks is none = alike v w (ap (λ (x : View). x.upgrades) is.4) (ap (λ (x : View). x.expects) is.4) (ap (λ (x : View). x.holding) is.4) (ap (λ (x : View). x.checking) is.4) none
step_none v w (shut answer) asks is none = alike v w (ap (λ (x : View). x.upgrades) is.2) (ap (λ (x : View). x.expects) is.2) (ap (λ (x : View). x.holding) is.2) (ap (λ (x : View). x.checking) is.2) none
step_none v w (closed end) asks is none = alike v w (ap (λ (x : View). x.upgrades) is.4) (ap (λ (x : View). x.expects) is.4) (ap (λ (x : View). x.holding) is.4) (ap (λ (x : View). x.checking) is.4) none
step_none v w continued asks is none = alike v w (ap (λ (x : View). x.upgrades) is.3) (ap (λ (x : View). x.expects) is.3) (ap (λ (x : View). x.holding) is.3) (ap (λ (x : View). x.checking) is.3) none
step_none v w (ready request answer) asks is none = alike v w (ap (λ (x : View). x.upgrades) is.3) (ap (λ (x : View). x.expects) is.3) (ap (λ (x : View). x.holding) is.3) (ap (λ (x : View). x.checking) is.3) none
step_none v w (called request) asks is none = alike v w (ap (λ (x : View). x.upgrades) is.2.2) (ap (λ (x : View). x.expects) is.2.2) (ap (λ (x : View). x.holding) is.2.2) (ap (λ (x : View). x.checking) is.2.2) none
step_none v w (answered answer) asks is none = alike v w (ap (λ (x : View). x.upgrades) is.same) (ap (λ (x : View). x.expects) is.same) (ap (λ (x : View). x.holding) is.same) (ap (λ (x : View). x.checking) is.same) none
step_none v w (pulled piece) asks is none = alike v w (ap (λ (x : View). x.upgrades) is.2) (ap (λ (x : View). x.expects) is.2) (ap (λ (x : View). x.holding) is.2) (ap (λ (x : View). x.checking) is.2) none
step_none v w paused asks is none = alike v w (ap (λ (x : View). x.upgrades) is.4) (ap (λ (x : View). x.expects) is.4) (ap (λ (x : View). x.holding) is.4) (ap (λ (x : View). x.checking) is.4) none
step_none v w dropped asks is none = alike v w (ap (λ (x : View). x.upgrades) is.3) (ap (λ (x : View). x.expects) is.3) (ap (λ (x : View). x.holding) is.3) (ap (λ (x : View). x.checking) is.3) none
step_none v w (replied answer) asks is none = alike v w (ap (λ (x : View). x.upgrades) is.3) (ap (λ (x : View). x.expects) is.3) (ap (λ (x : View). x.holding) is.3) (ap (λ (x : View). x.checking) is.3) none
step_none v w (sent piece) asks is none = alike v w (ap (λ (x : View). x.upgrades) is.3) (ap (λ (x : View). x.expects) is.3) (ap (λ (x : View). x.holding) is.3) (ap (λ (x : View). x.checking) is.3) none
step_none v w (failed event) asks is none = alike v w (ap (λ (x : View). x.upgrades) is.2) (ap (λ (x : View). x.expects) is.2) (ap (λ (x : View). x.holding) is.2) (ap (λ (x : View). x.checking) is.2) none
step_none v w (failed_write count) asks is none = alike v w (ap (λ (x : View). x.upgrades) is.4) (ap (λ (x : View). x.expects) is.4) (ap (λ (x : View). x.holding) is.4) (ap (λ (x : View). x.checking) is.4) none
step_none v w (failed_read came event) asks is none = alike v w (ap (λ (x : View). x.upgrades) is.4) (ap (λ (x : View). x.expects) is.4) (ap (λ (x : View). x.holding) is.4) (ap (λ (x : View). x.checking) is.4) none
step_none v w (failed_fed bytes) asks is none = alike v w (ap (λ (x : View). x.upgrades) is.2) (ap (λ (x : View). x.expects) is.2) (ap (λ (x : View). x.holding) is.2) (ap (λ (x : View). x.checking) is.2) none
step_none v w (failed_sent piece) asks is none = alike v w (ap (λ (x : View). x.upgrades) is.3) (ap (λ (x : View). x.expects) is.3) (ap (λ (x : View). x.holding) is.3) (ap (λ (x : View). x.checking) is.3) none
step_none v w asked_to_drain asks is none = alike v w (ap (λ (x : View). x.upgrades) is) (ap (λ (x : View). x.expects) is) (ap (λ (x : View). x.holding) is) (ap (λ (x : View). x.checking) is) none
step_none v w (next peer head) asks is none =
    freed v w (ap (λ (x : View). x.upgrades) is.4) (ap (λ (x : View). x.expects) is.4) (ap (λ (x : View). x.holding) is.4 ∙ held_of_head head v none)
    (ap (λ (x : View). x.checking) is.4 ∙ checked_of_head head v none) none
step_none v w (asked_to_hold upgrades expects) asks is none = absurd asks
step_none v w declined asks is none =
    freed v w (ap (λ (x : View). x.upgrades) is) (ap (λ (x : View). x.expects) is) (ap (λ (x : View). x.holding) is) (ap (λ (x : View). x.checking) is ∙ none.checking) none
step_none v w let_on asks is none =
    freed v w (ap (λ (x : View). x.upgrades) is) (ap (λ (x : View). x.expects) is) (ap (λ (x : View). x.holding) is ∙ none.holding) (ap (λ (x : View). x.checking) is) none
step_none v w (turned_away request answer) asks is none = alike v w (ap (λ (x : View). x.upgrades) is.2) (ap (λ (x : View). x.expects) is.2) (ap (λ (x : View). x.holding) is.2) (ap (λ (x : View). x.checking) is.2) none
step_none v w (refused limit error) asks is none = alike v w (ap (λ (x : View). x.upgrades) is.2) (ap (λ (x : View). x.expects) is.2) (ap (λ (x : View). x.holding) is.2) (ap (λ (x : View). x.checking) is.2) none

run_none : (v w : View) (steps : List Step) → AllByRecursion AsksNoHold steps → IsRun v steps w → HoldsNone v → HoldsNone w
run_none v w [] asks is none = subst HoldsNone (sym is) none
run_none v w (d ∷ steps) asks is none = run_none is.0 w steps asks.1 is.2 (step_none v is.0 d asks.0 is.1 none)

none_held : (waits checking leave holding upgrade : Bool) → checking ≡ false → holding ≡ false → (waits && ((checking && leave) || (holding && upgrade))) ≡ false
none_held waits checking leave holding upgrade a b =
    ap (λ (c : Bool). waits && ((c && leave) || (holding && upgrade))) a ∙ ap (λ (h : Bool). waits && (h && upgrade)) b ∙ neither waits
  where
    neither : (waits : Bool) → (waits && false) ≡ false
    neither true = refl
    neither false = refl

pub run_unheld : (v w : View) (steps : List Step) → AllByRecursion AsksNoHold steps → IsRun v steps w → HoldsNone v → StaysUnheld w
run_unheld v w steps asks is none =
    let then = run_none v w steps asks is none in
    record {
      none = then;
      unheld = none_held (is_waiting w.stage) w.checking (allows w on.send_continue) w.holding (allows w (on.accept 0)) then.checking then.holding;
    }

-- ---- polls

undecided_asks : (d : Step) → DecidesNone d → AsksNoHold d
undecided_asks (ticked moment expiry) none = tt
undecided_asks drained none = tt
undecided_asks (written answer) none = tt
undecided_asks (read came answer) none = tt
undecided_asks (shut answer) none = tt
undecided_asks (next peer head) none = tt
undecided_asks (closed end) none = tt
undecided_asks continued none = tt
undecided_asks (ready request answer) none = tt
undecided_asks (called request) none = tt
undecided_asks (answered answer) none = tt
undecided_asks (pulled piece) none = tt
undecided_asks paused none = tt
undecided_asks dropped none = tt
undecided_asks (replied answer) none = tt
undecided_asks (sent piece) none = tt
undecided_asks (failed event) none = tt
undecided_asks (failed_write count) none = tt
undecided_asks (failed_read came event) none = tt
undecided_asks (failed_fed bytes) none = tt
undecided_asks (failed_sent piece) none = tt
undecided_asks asked_to_drain none = tt
undecided_asks declined none = tt
undecided_asks let_on none = tt
undecided_asks (turned_away request answer) none = tt
undecided_asks (refused limit error) none = tt
undecided_asks (asked_to_hold upgrades expects) none = absurd none

all_ask_none : (steps : List Step) → AllByRecursion DecidesNone steps → AllByRecursion AsksNoHold steps
all_ask_none [] all = tt
all_ask_none (d ∷ steps) all = (undecided_asks d all.0, all_ask_none steps all.1)

pub polls_unheld : (v w : View) (acts : List Act) → ActsSay v acts w → HoldsNone v → StaysUnheld w
polls_unheld v w acts says none =
    let r = acts_run v w acts says in
    run_unheld v w r.steps (all_ask_none r.steps r.undecided) r.run none
