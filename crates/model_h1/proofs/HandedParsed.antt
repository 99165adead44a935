-- All that a trace hands out is the beginning of the parse.
use Rattle.std.proofs.Common.{◌≡◌, ℕ, ◌-◌, ◌<◌, true, min, List, [], ◌∷◌, ◌++◌, length, take, reverse, Some, None, is_some, inl, inr, refl, sym, ap, ap₂, ◌∙◌, subst, subst₂, arith}
use Rattle.std.specs.Prelude.{slice_get}
use Rattle.std.proofs.lemmas.Bool.{cases_lt, false≢true}
use Rattle.std.proofs.lemmas.List.{length-reverse}
use Rattle.model_h1.specs.Setting.{Setting}
use Rattle.model_h1.specs.Parse.{Input, Message, IsParse}
use Rattle.model_h1.specs.Event.{Event, Outcome}
use Rattle.model_h1.specs.Event as on
use Rattle.model_h1.specs.Sums.{Step, step_taken, taken, accepted_limit, accepted, has_ended}
use Rattle.model_h1.specs.Handed.{Handed, handed_out, IsPrefixFrom, IsPrefixOf, HandsOutPrefix}
use Rattle.model_h1.specs.Past.{ParsedStep, steps, input_of, parse_of, held}
use Rattle.model_h1.specs.Closing.{told}
use Rattle.model_h1.specs.OutcomeTable.{pull_outcome, outcome_of}
use Rattle.model_h1.specs.Allowed.{asks_raw}
use Rattle.model_h1.specs.Trace.{IsPastOf, IsTrace}
use Rattle.model_h1.proofs.MessageLemmas.{messages_unique}
use Rattle.model_h1.proofs.PastLemmas.{Legal, legal_of}
use Rattle.model_h1.proofs.PastExistence.{past_exists}
use Rattle.model_h1.proofs.StepLemmas.{taken-nil, taken-cons, parsed, same_input, same_parse}
use Rattle.model_h1.proofs.TraceGrowth.{current_none, none_behind}
use Rattle.model_h1.proofs.HandedPrefix.{reverse_push, prefix_none, prefix_last}
use Rattle.model_h1.proofs.HandedTrace.{told-more, told_closes, is_opening, is_silent, silent_opening, Pulls, StepCase, other, grows, accepts, comes, pulls, step_case, Closed, closing_case}
use Rattle.model_h1.proofs.HandedSteps.{only, Running, Empty, Sound, nothing, running, failed, behind, nothing_yet, newest, still_empty, still_same, other_step, grows_step, accepts_step}
use Rattle.model_h1.proofs.HandedPulls.{pulls_step}
use Rattle.model_h1.proofs.HandedHeads.{first_step, next_step}

-- ---- where no bytes may be held

-- none are taken by a step
none_taken : (setting : Setting) (before : List ParsedStep) (e : Event) (o : Outcome) → setting.hold_size ≡ 0 → o ≡ outcome_of setting before e
    → step_taken e o ≡ []
unfolding outcome_of
none_taken setting before (on.read bytes) o none x =
    let size : min (length bytes) (setting.hold_size - held before) ≡ 0 = omega (arith, none) in
    ap (step_taken (on.read bytes)) x ∙ ap (λ n. take n bytes) size
none_taken setting before _ o none x = refl

-- nor by all
none_held : (setting : Setting) (past : List ParsedStep) → Legal setting past → setting.hold_size ≡ 0 → taken (steps past) ≡ []
none_held setting [] x none = taken-nil
none_held setting (m ∷ before) x none =
    taken-cons m.step (steps before)
    ∙ ap₂ (λ (a b : List ℕ). a ++ b) (none_held setting before x.3 none) (none_taken setting before m.step.event m.step.outcome none x.2)

-- so where there is a message, bytes may be held
room : (setting : Setting) (past : List ParsedStep) (k : ℕ) (m : Message) → Legal setting past → slice_get (parse_of past) k ≡ Some m
    → 0 < setting.hold_size
room setting past k m x e =
    let trace = steps past in
    elim (cases_lt 0 setting.hold_size) [
      | inl some ↦ some
      | inr none ↦
          let len = ap length (none_held setting past x (omega arith)) in
          absurd (none_behind (taken trace) (accepted trace) (has_ended trace) setting.hold_size 0 (parse_of past) k m
          (parsed setting past x) (omega (arith, len)) e)
    ]

-- ---- one more step

-- no head was handed out, so none is pulled from
empty_pull : (before : List ParsedStep) (s : Step) → Empty (steps before) → Pulls before s → is_silent s.outcome ≡ true
empty_pull before s none o = ap is_silent (o.outcome ∙ ap (pull_outcome (steps before)) (current_none before none.count))

-- a pull accepts nothing
pull_unaccepted : (before : List ParsedStep) (s : Step) → Pulls before s → accepted_limit s.event s.outcome ≡ None
pull_unaccepted before s o = ap (λ e. accepted_limit e s.outcome) o.event

-- nothing was handed out
empty_step : (setting : Setting) (x : ParsedStep) (before : List ParsedStep) → IsParse (input_of setting (x.step ∷ steps before)) x.parse
    → IsParse (input_of setting (steps before)) (parse_of before) → StepCase setting before x.step → Empty (steps before) → Sound setting (x ∷ before)
empty_step setting x before p q (other o) none = nothing (still_empty x.step (steps before) o.silent o.accepted none)
empty_step setting x before p q (grows o) none = nothing (still_empty x.step (steps before) o.silent o.accepted none)
empty_step setting x before p q (accepts o) none = absurd (false≢true (sym (ap asks_raw none.asked) ∙ o.raw))
empty_step setting x before p q (comes o) none = first_step setting x before p q o none
empty_step setting x before p q (pulls o) none =
    nothing (still_empty x.step (steps before) (empty_pull before x.step none o) (pull_unaccepted before x.step o) none)

-- a message goes on
running_step : (setting : Setting) (x : ParsedStep) (before : List ParsedStep) → IsParse (input_of setting (x.step ∷ steps before)) x.parse
    → Legal setting before → StepCase setting before x.step → (h : Handed) (hs : List Handed) → handed_out (steps before) ≡ only (h ∷ hs)
    → Running (taken (steps before)) (parse_of before) (steps before) h hs → Sound setting (x ∷ before)
running_step setting x before p l (other o) h hs handed r =
    running (behind x.step h) hs (newest x.step (steps before) h hs (silent_opening x.step.outcome o.silent) handed)
    (other_step setting x before p (parsed setting before l) o h hs r)
running_step setting x before p l (grows o) h hs handed r =
    running (behind x.step h) hs (newest x.step (steps before) h hs (silent_opening x.step.outcome o.silent) handed)
    (grows_step setting x before p (parsed setting before l) o h hs r)
running_step setting x before p l (accepts o) h hs handed r =
    running (behind x.step h) hs (newest x.step (steps before) h hs (ap is_opening o.outcome) handed)
    (accepts_step setting x before p (parsed setting before l) o h hs r)
running_step setting x before p l (comes o) h hs handed r =
    next_step setting x before p (parsed setting before l) (room setting before (length hs) r.message l r.there) o h hs handed r
running_step setting x before p l (pulls o) h hs handed r =
    let here = pulls_step setting x before p (parsed setting before l) o h hs handed r in
    running (behind x.step h) hs here.0 here.1

-- a fault was told
failed_step : (setting : Setting) (x : ParsedStep) (before : List ParsedStep) → IsParse (input_of setting (x.step ∷ steps before)) x.parse
    → IsParse (input_of setting (steps before)) (parse_of before) → Closed x.step → HandsOutPrefix setting (steps before) (parse_of before)
    → is_some (told (steps before)) ≡ true → Sound setting (x ∷ before)
failed_step setting x before p q c prefix fault =
    let s = x.step in
    let trace = steps before in
    let o = c.other in
    let same = same_input setting s trace o.taken o.eof o.accepted in
    let parse = same_parse setting x before same p q in
    let all = still_same s trace o.silent c.completes in
    failed
    (subst₂ (λ (i : Input) ms. IsPrefixOf setting.hold_size i.bytes (handed_out (s ∷ trace)) ms) (sym same) (sym parse)
    (subst (λ out. IsPrefixOf setting.hold_size (taken trace) out (parse_of before)) (sym all) prefix))
    (told-more s trace fault)

-- ---- all steps

-- by induction on the past
pub sound : (setting : Setting) (past : List ParsedStep) → Legal setting past → Sound setting past
sound setting [] x = nothing nothing_yet
sound setting (m ∷ before) x =
    let q = parsed setting before x.3 in
    elim (sound setting before x.3) [
      | nothing none ↦ empty_step setting m before x.0 q (step_case setting before m.step.event m.step.outcome x.1 x.2) none
      | running h hs handed r ↦ running_step setting m before x.0 x.3 (step_case setting before m.step.event m.step.outcome x.1 x.2) h hs handed r
      | failed prefix fault ↦
          let c = closing_case setting before m.step.event m.step.outcome (told_closes setting before fault) x.1 x.2 in
          failed_step setting m before x.0 q c prefix fault
    ]

-- what was handed out begins the parse
sound_prefix : (setting : Setting) (past : List ParsedStep) → Sound setting past → HandsOutPrefix setting (steps past) (parse_of past)
sound_prefix setting past (nothing none) =
    let text = taken (steps past) in
    let size = setting.hold_size in
    subst (λ out. IsPrefixOf size text out (parse_of past)) (sym none.handed) (refl, prefix_none size text 0 (parse_of past))
sound_prefix setting past (running h hs handed r) =
    let text = taken (steps past) in
    let size = setting.hold_size in
    let there = subst (λ k. slice_get (parse_of past) k ≡ Some r.message) (sym (length-reverse hs)) r.there in
    let last = prefix_last size text 0 (reverse hs) (parse_of past) h r.message r.older there r.agrees in
    let all : IsPrefixOf size text (only (h ∷ hs)) (parse_of past) =
    (refl, subst (λ gs. IsPrefixFrom size text 0 gs (parse_of past)) (sym (reverse_push h hs)) last) in
    subst (λ out. IsPrefixOf size text out (parse_of past)) (sym handed) all
sound_prefix setting past (failed prefix fault) = prefix

-- what a trace handed out begins the parse of its past
past_prefix : (setting : Setting) (trace : List Step) (past : List ParsedStep) → IsTrace setting trace → IsPastOf setting trace past
    → HandsOutPrefix setting trace (parse_of past)
past_prefix setting trace past x y =
    subst (λ t. HandsOutPrefix setting t (parse_of past)) y.same (sound_prefix setting past (sound setting past (legal_of setting trace past x y)))

-- what a trace handed out begins each parse of the bytes taken
pub handed_prefix : (setting : Setting) (trace : List Step) (parse : List Message) → IsTrace setting trace → IsParse (input_of setting trace) parse
    → HandsOutPrefix setting trace parse
handed_prefix setting trace parse x y =
    let past = past_exists setting trace in
    let own = parsed setting past.0 (legal_of setting trace past.0 x past.1) in
    let here : IsParse (input_of setting trace) (parse_of past.0) = subst (λ t. IsParse (input_of setting t) (parse_of past.0)) past.1.same own in
    let same = messages_unique (input_of setting trace) 0 (parse_of past.0) parse here y in
    subst (HandsOutPrefix setting trace) same (past_prefix setting trace past.0 x past.1)
