-- The last message that was handed out, behind a legal past: its head, its body, and how much of it is passed.
use Rattle.std.proofs.Common.{◌≡◌, ℕ, zero, suc, ◌≤◌, false, List, [], ◌∷◌, ◌++◌, length, Option, Some, None, refl, sym, ap, ◌∙◌, subst, inl, inr, arith}
use Rattle.std.specs.Prelude.{◌⊎◌, slice_get}
use Rattle.std.proofs.lemmas.Option.{none-some, same_Some}
use Rattle.std.specs.Option.{option_or}
use Rattle.model_h1.specs.Request.{Head, head_is}
use Rattle.model_h1.specs.Setting.{Setting}
use Rattle.model_h1.specs.Parse.{Message, IsBodyOf, IsBodyAfter}
use Rattle.model_h1.specs.Sums.{Step, step_taken, taken, is_eof, has_ended, accepted_limit, accepted, head_of, request}
use Rattle.model_h1.specs.Past.{ParsedStep, steps, input_of, parse_of, head_count, current, passed, message_passed}
use Rattle.model_h1.proofs.PastLemmas.{Legal}
use Rattle.model_h1.proofs.MessageGrowth.{parse_grows}
use Rattle.model_h1.proofs.BodySteps.{Lies}
use Rattle.model_h1.proofs.StepLemmas.{taken-cons, accepted-cons, head_count-more, head_count-head, Accepts, Begins, quiet, reads, stops, accepts, begins, pulls, step_case, parsed, same_input, same_parse}
use Rattle.model_h1.proofs.TraceGrowth.{message_at, grown_at, current_at, current_none}
use Rattle.model_h1.proofs.PulledLemmas.{Holds}
use Rattle.model_h1.proofs.CarriedLemmas.{passed_none, passed_some}
use Rattle.model_h1.proofs.HeldSteps.{headless_or_begins}
use Rattle.model_h1.proofs.HeldLemmas.{accepted_message, bounded}
use Rattle.model_h1.proofs.HandedTrace.{request-more}
use Rattle.model_state.proofs.StepSums.{request-cons}

-- the current message and its head
pub record Current (setting : Setting) (past : List ParsedStep) (m : Message) (h : Head) : Type 0 where
  pub current_is : current past ≡ Some m
  pub request_is : request (steps past) ≡ Some h
  pub reading : m.reading ≡ head_is h
  pub body : IsBodyOf (input_of setting (steps past)) h.body m.body_start m.body
  pub start : m.body_start ≤ length (taken (steps past))
  pub lies : Lies (length (taken (steps past))) m.body_start m.body
  pub holds : Holds (length (taken (steps past))) m (steps past)
  pub passed_is : passed past ≡ message_passed past m
  pub passed_within : passed past ≤ length (taken (steps past))

-- no head was handed out
pub record NoCurrent (past : List ParsedStep) : Type 0 where
  pub count : head_count (steps past) ≡ 0
  pub current_is : current past ≡ None
  pub request_is : request (steps past) ≡ None
  pub passed_is : passed past ≡ 0

-- ---- a message in the longer past

-- the message in the same place of the parse behind one more step: its head is the same
pub record Carried (x : ParsedStep) (k : ℕ) (m : Message) : Type 0 where
  pub message : Message
  pub at : slice_get x.parse k ≡ Some message
  pub reading : m.reading ≡ message.reading
  pub body_start : m.body_start ≡ message.body_start

-- where the parse stays
same_carried : (x : ParsedStep) (ms : List Message) (k : ℕ) (m : Message) → x.parse ≡ ms → slice_get ms k ≡ Some m → Carried x k m
same_carried x ms k m same e =
    record { message = m; at = ap (λ (l : List Message). slice_get l k) same ∙ e; reading = refl; body_start = refl }

-- where the input stays
still_carried : (setting : Setting) (before : List ParsedStep) (x : ParsedStep) (k : ℕ) (m : Message) → Legal setting (x ∷ before)
    → input_of setting (x.step ∷ steps before) ≡ input_of setting (steps before) → slice_get (parse_of before) k ≡ Some m → Carried x k m
still_carried setting before x k m l same e =
    same_carried x (parse_of before) k m (same_parse setting x before same l.0 (parsed setting before l.3)) e

-- where bytes come, or the input ends
grown_carried : (setting : Setting) (before : List ParsedStep) (x : ParsedStep) (k : ℕ) (m : Message) (more : List ℕ) → Legal setting (x ∷ before)
    → taken (x.step ∷ steps before) ≡ taken (steps before) ++ more → accepted (x.step ∷ steps before) ≡ accepted (steps before)
    → has_ended (steps before) ≡ false → slice_get (parse_of before) k ≡ Some m → Carried x k m
grown_carried setting before x k m more l bytes upgraded unended e =
    let i = input_of setting (steps before) in
    let j = input_of setting (x.step ∷ steps before) in
    let grows = parse_grows i j more (parse_of before) x.parse bytes upgraded refl unended (parsed setting before l.3) l.0 in
    let n = grown_at i.bytes j.bytes (parse_of before) x.parse k m grows e in
    record { message = n.0; at = n.1; reading = n.2.reading; body_start = n.2.body_start }

-- where a WebSocket is accepted
accepted_carried : (setting : Setting) (before : List ParsedStep) (x : ParsedStep) (k : ℕ) (m : Message) → Accepts before x.step
    → Legal setting (x ∷ before)
    → slice_get (parse_of before) k ≡ Some m → Carried x k m
accepted_carried setting before x k m a l e =
    let n = accepted_message setting before x k m a l.0 (parsed setting before l.3) e in
    record { message = n.0; at = n.1; reading = n.2.reading; body_start = n.2.body_start }

-- Behind each step a message that was parsed stands in its place.
pub carried : (setting : Setting) (before : List ParsedStep) (x : ParsedStep) (k : ℕ) (m : Message) → Legal setting (x ∷ before)
    → slice_get (parse_of before) k ≡ Some m → Carried x k m
carried setting before x k m l e =
    let t = steps before in
    elim (step_case setting before x.step.event x.step.outcome l.1 l.2) [
      | quiet q ↦ still_carried setting before x k m l (same_input setting x.step t q.taken q.eof q.accepted) e
      | reads r ↦
          let upgraded = accepted-cons x.step t ∙ ap (λ v. option_or (accepted_limit v x.step.outcome) (accepted t)) r.event in
          grown_carried setting before x k m (step_taken x.step.event x.step.outcome) l (taken-cons x.step t) upgraded r.unended e
      | stops r ↦
          let upgraded = accepted-cons x.step t ∙ ap (λ v. option_or (accepted_limit v x.step.outcome) (accepted t)) r.event in
          grown_carried setting before x k m (step_taken x.step.event x.step.outcome) l (taken-cons x.step t) upgraded r.unended e
      | accepts a ↦ accepted_carried setting before x k m a l e
      | begins b ↦
          let none : step_taken x.step.event x.step.outcome ≡ [] = ap (λ v. step_taken v x.step.outcome) b.event in
          still_carried setting before x k m l (same_input setting x.step t none (ap is_eof b.event) (ap (λ v. accepted_limit v x.step.outcome) b.event)) e
      | pulls p ↦
          let none : step_taken x.step.event x.step.outcome ≡ [] = ap (λ v. step_taken v x.step.outcome) p.event in
          still_carried setting before x k m l (same_input setting x.step t none (ap is_eof p.event) (ap (λ v. accepted_limit v x.step.outcome) p.event)) e
    ]

-- ---- the last request

-- where no head was handed out there is none
no_request : (trace : List Step) → head_count trace ≡ 0 → request trace ≡ None
unfolding request
no_request [] e = refl
no_request (s ∷ before) e = go (head_of s.outcome) refl (no_request before)
  where
    go : (o : Option Head) → head_of s.outcome ≡ o → (head_count before ≡ 0 → request before ≡ None) → request (s ∷ before) ≡ None
    go (Some h) some old = absurd (omega (arith, head_count-head s before h some))
    go None none old = request-more s before none ∙ old (omega (arith, head_count-more s before none))

-- the message of the last request, and its head
abbrev IsRead : List ParsedStep → ℕ → Type 0
IsRead past k =
    (m : Message) × (h : Head) × (slice_get (parse_of past) k ≡ Some m) × (request (steps past) ≡ Some h) × (m.reading ≡ head_is h)

-- a step that hands out no head leaves it
idle_read : (setting : Setting) (before : List ParsedStep) (x : ParsedStep) (k : ℕ) → Legal setting (x ∷ before) → head_of x.step.outcome ≡ None
    → head_count (steps (x ∷ before)) ≡ suc k → (head_count (steps before) ≡ suc k → IsRead before k) → IsRead (x ∷ before) k
idle_read setting before x k l none e old =
    let r = old (sym (head_count-more x.step (steps before) none) ∙ e) in
    let c = carried setting before x k r.0 l r.2 in
    (c.message, r.1, c.at, request-more x.step (steps before) none ∙ r.3, sym c.reading ∙ r.4)

-- a head that is handed out is that of the message that was to come
begun_read : (setting : Setting) (before : List ParsedStep) (x : ParsedStep) (k : ℕ) → Legal setting (x ∷ before) → Begins before x.step
    → head_count (steps (x ∷ before)) ≡ suc k → IsRead (x ∷ before) k
begun_read setting before x k l b e =
    let some : head_of x.step.outcome ≡ Some b.head = ap head_of b.outcome in
    let same : head_count (steps before) ≡ k = omega (arith, head_count-head x.step (steps before) b.head some) in
    let c = carried setting before x k b.message l (ap (slice_get (parse_of before)) (sym same) ∙ b.upcoming_is) in
    (c.message, b.head, c.at, request-cons x.step (steps before) ∙ ap (λ o. option_or o (request (steps before))) some, sym c.reading ∙ b.reading)

-- the last head that was handed out is that of its message
last_read : (setting : Setting) (past : List ParsedStep) (k : ℕ) → Legal setting past → head_count (steps past) ≡ suc k → IsRead past k
last_read setting [] k l e = absurd (omega arith)
last_read setting (x ∷ before) k l e =
    let old = last_read setting before k l.3 in
    elim (headless_or_begins setting before x l) [
      | inl none ↦ idle_read setting before x k l none e old
      | inr b ↦ begun_read setting before x k l b e
    ]

-- ---- all of it

-- the current message, where it is one of the parse
current_read : (setting : Setting) (past : List ParsedStep) (k : ℕ) → Legal setting past → head_count (steps past) ≡ suc k
    → (r : IsRead past k) → Current setting past r.0 r.1
current_read setting past k l e r =
    let i = input_of setting (steps past) in
    let b = bounded setting past l in
    let now = current_at past k e ∙ r.2 in
    let p = message_at i 0 (parse_of past) k r.0 (parsed setting past l) (omega arith) r.2 in
    record {
      current_is = now;
      request_is = r.3;
      reading = r.4;
      body = subst (λ v. IsBodyAfter i v r.0.body_start r.0.body) r.4 p.body;
      start = p.lies.start;
      lies = p.lies;
      holds = b.sound.holds r.0 now;
      passed_is = passed_some past r.0 now;
      passed_within = b.passed;
    }

-- by how many heads were handed out
by_count : (setting : Setting) (past : List ParsedStep) (count : ℕ) → head_count (steps past) ≡ count → Legal setting past
    → NoCurrent past ⊎ ((m : Message) × (h : Head) × Current setting past m h)
by_count setting past zero e l =
    let none = current_none past e in
    inl (record { count = e; current_is = none; request_is = no_request (steps past) e; passed_is = passed_none past none })
by_count setting past (suc k) e l =
    let r = last_read setting past k l e in
    inr (r.0, r.1, current_read setting past k l e r)

-- behind a legal past there is a current message, or no head was handed out
pub current_of : (setting : Setting) (past : List ParsedStep) → Legal setting past
    → NoCurrent past ⊎ ((m : Message) × (h : Head) × Current setting past m h)
current_of setting past l = by_count setting past (head_count (steps past)) refl l

-- the current message is the one of which all holds
pub current_with : (setting : Setting) (past : List ParsedStep) (n : Message) → Legal setting past → current past ≡ Some n
    → (h : Head) × Current setting past n h
current_with setting past n l e = elim (current_of setting past l) [
  | inl none ↦ absurd (none-some n (sym none.current_is ∙ e))
  | inr (m, h, c) ↦ (h, subst (λ (p : Message). Current setting past p h) (same_Some m n (sym c.current_is ∙ e)) c)
]
