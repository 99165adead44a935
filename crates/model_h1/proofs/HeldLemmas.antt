-- What is passed never falls and is never more than was taken; what is held stays below the bound.
use Rattle.std.proofs.Common.{◌≡◌, ℕ, zero, suc, ◌-◌, ◌≤◌, min, Bool, true, false, List, [], ◌∷◌, ◌++◌, length, take, Option, Some, None, refl, sym, ap, ◌∙◌, subst, inl, inr, arith, append-nil, length-append}
use Rattle.std.specs.Prelude.{slice_get, is_some, is_none, not, ◌||◌, ◌&&◌}
use Rattle.std.specs.List.{list_any}
use Rattle.std.specs.Option.{option_or}
use Rattle.std.proofs.lemmas.Option.{none-some}
use Rattle.std.proofs.lemmas.Bool.{cases_Bool, true≢false, false≢true, and_parts, or_parts, not-true}
use Rattle.std.proofs.lemmas.List.{length-take}
use Rattle.model_h1.specs.Setting.{Setting}
use Rattle.model_h1.specs.Parse.{Input, Message, next_start, IsParse}
use Rattle.model_h1.specs.Sums.{Step, step_taken, taken, is_pull, is_eof, accepted_limit, accepted, head_of, since_head, request, answered, has_ended, is_upgraded, is_complete, is_open, was_pulled, was_dropped}
use Rattle.model_h1.specs.Past.{ParsedStep, steps, input_of, parse_of, head_count, current, given_bytes, given_frames, passed, held}
use Rattle.model_h1.specs.Allowed.{waits_for_answer}
use Rattle.model_h1.proofs.BodyLemmas.{input}
use Rattle.model_h1.proofs.PastLemmas.{Legal}
use Rattle.model_h1.proofs.PlaceLemmas.{get_before}
use Rattle.model_h1.proofs.StepLemmas.{taken-nil, taken-cons, accepted-cons, since_head-more, given_bytes-more, given_bytes-head, given_frames-more, given_frames-head, Accepts, quiet, reads, stops, accepts, begins, pulls, step_case, parsed}
use Rattle.model_h1.proofs.TraceGrowth.{IsParsed, message_at, Accepted, accepted_at, current_at, current_none}
use Rattle.model_h1.proofs.PulledLemmas.{Idle, idle_pulled, idle_holds, fresh_holds, unpulled_place, unpulled_fits}
use Rattle.model_h1.proofs.CarriedLemmas.{passed_none, passed_some, passed_complete, passed_pulled, end_below, Sound, Advance, Result, carry}
use Rattle.model_h1.proofs.HeldSteps.{quiet_idle, reads_idle, ends_idle, accepts_idle, quiet_step, pull_no_head, pull_step, head_step, read_step, end_step}

-- ---- a WebSocket is accepted

-- an idle step, behind steps that gave nothing
idle_given : (before : List ParsedStep) (s : Step) → Idle s → was_pulled (s ∷ steps before) ≡ false
    → (was_pulled (steps before) ≡ false → (given_bytes (steps before) ≡ 0) × (given_frames (steps before) ≡ 0))
    → (given_bytes (s ∷ steps before) ≡ 0) × (given_frames (s ∷ steps before) ≡ 0)
idle_given before s idle e old =
    let t = steps before in
    let parts = or_parts (is_pull s.event) (was_pulled t) (sym (ap (list_any (λ u. is_pull u.event)) (since_head-more s t idle.head)) ∙ e) in
    let given = old parts.1 in
    (omega (arith, given_bytes-more s t idle.head, idle.bytes), omega (arith, given_frames-more s t idle.head, idle.frames))

-- nothing was given of a body that wasn't asked for
pub unpulled_given : (setting : Setting) (past : List ParsedStep) → Legal setting past → was_pulled (steps past) ≡ false
    → (given_bytes (steps past) ≡ 0) × (given_frames (steps past) ≡ 0)
unfolding since_head
unpulled_given setting [] x e = (refl, refl)
unpulled_given setting (m ∷ before) x e =
    let t = steps before in
    elim (step_case setting before m.step.event m.step.outcome x.1 x.2) [
      | quiet q ↦ idle_given before m.step (quiet_idle before m.step q) e (unpulled_given setting before x.3)
      | reads r ↦ idle_given before m.step (reads_idle setting before m.step r) e (unpulled_given setting before x.3)
      | stops r ↦ idle_given before m.step (ends_idle before m.step r) e (unpulled_given setting before x.3)
      | accepts a ↦ idle_given before m.step (accepts_idle before m.step a) e (unpulled_given setting before x.3)
      | begins b ↦ (given_bytes-head m.step t b.head (ap head_of b.outcome), given_frames-head m.step t b.head (ap head_of b.outcome))
      | pulls p ↦
          let none = ap head_of p.outcome ∙ pull_no_head t (current before) in
          let parts = or_parts (is_pull m.step.event) (was_pulled t) (sym (ap (list_any (λ u. is_pull u.event)) (since_head-more m.step t none)) ∙ e) in
          absurd (true≢false (sym (ap is_pull p.event) ∙ parts.0))
    ]

-- the test of what was accepted: no answer was complete
not_complete : (trace : List Step) → waits_for_answer trace ≡ true → is_complete trace ≡ true → ⊥
not_complete trace x complete =
    let parts = and_parts (is_open trace && is_none (answered trace)) (not (is_upgraded trace)) x in
    let opened = (and_parts (is_open trace) (is_none (answered trace)) parts.0).0 in
    let waits = (and_parts (is_some (request trace)) (is_upgraded trace || not (is_complete trace)) opened).1 in
    go (is_upgraded trace) (is_complete trace) parts.1 waits complete
  where
    go : (upgraded complete : Bool) → not upgraded ≡ true → (upgraded || not complete) ≡ true → complete ≡ true → ⊥
    go true c a b d = false≢true a
    go false true a b d = false≢true b
    go false false a b d = false≢true d

-- what waits for its answer is no WebSocket yet
pub not_upgraded : (trace : List Step) → waits_for_answer trace ≡ true → accepted trace ≡ None
not_upgraded trace x =
    go (accepted trace) (not-true (is_upgraded trace) (and_parts (is_open trace && is_none (answered trace)) (not (is_upgraded trace)) x).1)
  where
    go : (o : Option ℕ) → is_some o ≡ false → o ≡ None
    go None e = refl
    go (Some limit) e = absurd (true≢false e)

-- a message advances by the acceptance
accept_advance : (setting : Setting) (before : List ParsedStep) (x : ParsedStep) (m n : Message) → Accepts before x.step → Legal setting before
    → m.body_start ≡ n.body_start → IsParsed (input_of setting (x.step ∷ steps before)) n
    → length (taken (x.step ∷ steps before)) ≡ length (taken (steps before)) → Advance before x m n
accept_advance setting before x m n a old start parsed len =
    let t = steps before in
    let unpulled = (or_parts (was_pulled t) (was_dropped t) a.unpulled).0 in
    let given = unpulled_given setting before old unpulled in
    let idle = accepts_idle before x.step a in
    let place = unpulled_place n t unpulled in
    let place' = unpulled_place m t unpulled in
    let after = idle_pulled n x.step t idle in
    let holds = fresh_holds (length (taken (x.step ∷ t))) n t parsed.lies place given.0 given.1 (unpulled_fits n t unpulled) in
    record {
      holds = idle_holds (length (taken (x.step ∷ t))) n x.step t idle holds;
      pulled = omega arith;
      ended = λ complete. absurd (not_complete t a.unanswered complete);
    }

-- the acceptance takes no bytes
accepted_bytes : (before : List ParsedStep) (x : ParsedStep) → Accepts before x.step → taken (x.step ∷ steps before) ≡ taken (steps before)
accepted_bytes before x a =
    let t = steps before in
    taken-cons x.step t ∙ ap (λ e. taken t ++ step_taken e x.step.outcome) a.event ∙ append-nil (taken t)

-- a message of the parse stands in its place behind the acceptance
pub accepted_message : (setting : Setting) (before : List ParsedStep) (x : ParsedStep) (k : ℕ) (m : Message) → Accepts before x.step
    → IsParse (input_of setting (x.step ∷ steps before)) x.parse → IsParse (input_of setting (steps before)) (parse_of before)
    → slice_get (parse_of before) k ≡ Some m
    → (n : Message) × (slice_get x.parse k ≡ Some n) × Accepted (length (taken (steps before))) m n
accepted_message setting before x k m a here there e =
    let t = steps before in
    let size = setting.hold_size in
    let j = input_of setting (x.step ∷ t) in
    let bytes = accepted_bytes before x a in
    let now_upgraded : j.upgraded ≡ Some a.limit =
    accepted-cons x.step t ∙ (λ i. option_or (accepted_limit (a.event i) (a.outcome i)) (accepted t)) in
    let ended : j.ended ≡ has_ended t = ap (λ e. is_eof e || has_ended t) a.event in
    let was = subst (λ u. IsParse (input (taken t) u (has_ended t) size) (parse_of before)) (not_upgraded t a.unanswered) there in
    let is : j ≡ input (taken t) (Some a.limit) (has_ended t) size = λ i. input (bytes i) (now_upgraded i) (ended i) size in
    let now = subst (λ (k : Input). IsParse k x.parse) is here in
    accepted_at (taken t) a.limit (has_ended t) size 0 (parse_of before) x.parse k m was now e

-- a WebSocket is accepted
accept_step : (setting : Setting) (before : List ParsedStep) (x : ParsedStep) → Accepts before x.step → Legal setting before
    → IsParse (input_of setting (x.step ∷ steps before)) x.parse
    → IsParse (input_of setting (steps before)) (parse_of before) → Sound before → Result before x
accept_step setting before x a old here there s =
    let t = steps before in
    let j = input_of setting (x.step ∷ t) in
    carry before x (head_count t) refl (ap head_of a.outcome) s
    (λ k m at current_is.
    let n = accepted_message setting before x k m a here there at in
    let parsed = message_at j 0 x.parse k n.0 here (omega arith) n.1 in
    (n.0, n.1, accept_advance setting before x m n.0 a old n.2.body_start parsed (ap length (accepted_bytes before x a))))

-- ---- every past

-- each step
next_sound : (setting : Setting) (before : List ParsedStep) (x : ParsedStep) → Legal setting (x ∷ before) → Sound before → Result before x
next_sound setting before x l s =
    let there = parsed setting before l.3 in
    elim (step_case setting before x.step.event x.step.outcome l.1 l.2) [
      | quiet q ↦ quiet_step setting before x q l.0 there s
      | reads r ↦ read_step setting before x r l.0 there s
      | stops e ↦ end_step setting before x e l.0 there s
      | accepts a ↦ accept_step setting before x a l.3 l.0 there s
      | begins b ↦ head_step setting before x b l.0 there s
      | pulls p ↦ pull_step setting before x p l.0 there s
    ]

-- no more is taken than there is room for
pub taken_room : (setting : Setting) (before : List ParsedStep) (x : ParsedStep) → Legal setting (x ∷ before)
    → length (step_taken x.step.event x.step.outcome) ≤ setting.hold_size - held before
taken_room setting before x l =
    elim (step_case setting before x.step.event x.step.outcome l.1 l.2) [
      | quiet q ↦ omega (arith, ap length q.taken)
      | reads r ↦
          let n = min (length r.bytes) (setting.hold_size - held before) in
          let is : step_taken x.step.event x.step.outcome ≡ take n r.bytes = λ i. step_taken (r.event i) (r.outcome i) in
          omega (arith, ap length is, length-take n r.bytes)
      | stops e ↦ omega (arith, ap (λ t. length (step_taken t x.step.outcome)) e.event)
      | accepts a ↦ omega (arith, ap (λ t. length (step_taken t x.step.outcome)) a.event)
      | begins b ↦ omega (arith, ap (λ t. length (step_taken t x.step.outcome)) b.event)
      | pulls p ↦ omega (arith, ap (λ t. length (step_taken t x.step.outcome)) p.event)
    ]

-- no more is passed than was taken
passed_taken : (setting : Setting) (past : List ParsedStep) (count : ℕ) → head_count (steps past) ≡ count
    → IsParse (input_of setting (steps past)) (parse_of past) → Sound past
    → passed past ≤ length (taken (steps past))
passed_taken setting past zero e x s = let none = passed_none past (current_none past e) in omega arith
passed_taken setting past (suc k) e x s =
    let m = get_before (parse_of past) k (omega (arith, s.count)) in
    let here = current_at past k e ∙ m.1 in
    let lies = (message_at (input_of setting (steps past)) 0 (parse_of past) k m.0 x (omega arith) m.1).lies in
    let holds = s.holds m.0 here in
    subst (λ n. n ≤ length (taken (steps past))) (sym (passed_some past m.0 here))
    (elim (cases_Bool (is_complete (steps past))) [
      | inl complete ↦ subst (λ n. n ≤ length (taken (steps past))) (sym (passed_complete past m.0 complete))
          (end_below (length (taken (steps past))) (length (taken (steps past))) (next_start m.0.body) (omega arith) (λ next f. (lies.next next f).1))
      | inr answering ↦ subst (λ n. n ≤ length (taken (steps past))) (sym (passed_pulled past m.0 answering)) holds.within
    ])

-- what is shown of every past
pub record Bounded (setting : Setting) (past : List ParsedStep) : Type 0 where
  pub sound : Sound past
  pub passed : passed past ≤ length (taken (steps past))
  pub held : held past ≤ setting.hold_size

-- each legal past keeps to the bounds
pub bounded : (setting : Setting) (past : List ParsedStep) → Legal setting past → Bounded setting past
bounded setting [] l =
    let none = passed_none [] refl in
    let empty = ap length taken-nil in
    record {
      sound = record { count = omega arith; holds = λ m e. absurd (none-some m e) };
      passed = omega arith;
      held = omega arith;
    }
bounded setting (x ∷ before) l =
    let old = bounded setting before l.3 in
    let new = next_sound setting before x l old.sound in
    let room = taken_room setting before x l in
    let len = ap length (taken-cons x.step (steps before)) ∙ length-append (taken (steps before)) (step_taken x.step.event x.step.outcome) in
    let old_passed = old.passed in
    let old_held = old.held in
    record {
      sound = new.0;
      passed = passed_taken setting (x ∷ before) (head_count (x.step ∷ steps before)) refl l.0 new.0;
      held = omega (arith, new.1);
    }

-- what is passed never falls
pub passed_grows : (setting : Setting) (before : List ParsedStep) (x : ParsedStep) → Legal setting (x ∷ before) → passed before ≤ passed (x ∷ before)
passed_grows setting before x l = (next_sound setting before x l (bounded setting before l.3).sound).1
