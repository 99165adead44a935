-- The number and the messages of the parse.
use Rattle.std.proofs.Common.{◌≡◌, ◌⊎◌, ℕ, zero, suc, ◌+◌, ◌≤◌, List, [], ◌∷◌, length, drop, Option, Some, None, MatchOption, refl, sym, ap, ◌∙◌, subst, subst₂, inl, inr, arith, length-drop}
use Rattle.std.specs.Prelude.{slice_get}
use Rattle.std.specs.Option.{option_or}
use Rattle.std.proofs.lemmas.Option.{none-some, same_Some, slice_get_within, slice_get_cases}
use Rattle.model_h1.specs.Request.{Head, Reading, head_is}
use Rattle.model_h1.specs.Parse.{Input, Message, next_start, IsBodyAfter, AreMessages}
use Rattle.model_h1.specs.Setting.{Setting}
use Rattle.model_h1.specs.Event.{Event, Outcome}
use Rattle.model_h1.specs.Event as on
use Rattle.model_h1.specs.Sums.{Step, taken, head_of, request}
use Rattle.model_h1.specs.Past.{ParsedStep, steps, input_of, parse_of, head_count, current, upcoming, passed}
use Rattle.model_h1.specs.Trace.{IsPastOf, IsTrace}
use Rattle.model_h1.proofs.PastLemmas.{Legal, legal_of, past_of_unique}
use Rattle.model_h1.proofs.StepLemmas.{head_count-more, head_count-head, complete-head, parsed}
use Rattle.model_h1.proofs.TraceGrowth.{rest_of, current_at}
use Rattle.model_h1.proofs.HeldSteps.{headless_or_begins}
use Rattle.model_h1.proofs.PulledLemmas.{pulled_to-head}
use Rattle.model_h1.proofs.CarriedLemmas.{passed_pulled}
use Rattle.model_state.specs.Kept.{Kept}
use Rattle.model_state.specs.StandsFor.{StandsFor}
use Rattle.model_state.proofs.Current.{Current, NoCurrent, current_of, carried}
use Rattle.model_state.proofs.StepSums.{request-cons}
use Rattle.model_state.specs.Ahead.{MAX_AHEAD, is_bodiless, following, AreAhead, decoded_behind, ahead_after, ahead}
use Rattle.model_state.proofs.Following.{following_there, behind_bodiless, ahead_count}
use Rattle.model_state.proofs.Numbers.{ahead-nil, ahead-cons, other_event, next_or_other, past_before}

-- ---- the messages of a parse

-- those behind one of them
pub messages_behind : (i : Input) (place : ℕ) (ms : List Message) (k : ℕ) (m : Message) → AreMessages i place ms → slice_get ms k ≡ Some m
    → MatchOption (next_start m.body) (drop (suc k) ms ≡ []) (λ next. AreMessages i next (drop (suc k) ms))
messages_behind i place [] k m x e = absurd (none-some m e)
messages_behind i place (q ∷ ms) zero m x e =
    subst (λ (p : Message). MatchOption (next_start p.body) (ms ≡ []) (λ next. AreMessages i next ms)) (same_Some q m e) x.1
messages_behind i place (q ∷ ms) (suc k) m x e =
    let rest = rest_of i (next_start q.body) ms k m x.1 e in
    messages_behind i rest.0 ms k m rest.2 e

-- there are as many as before, or more
parse_longer : (setting : Setting) (before : List ParsedStep) (x : ParsedStep) (len : ℕ) → length (parse_of before) ≡ len → Legal setting (x ∷ before) → len ≤ length x.parse
parse_longer setting before x zero is l = omega arith
parse_longer setting before x (suc k) is l =
    elim (slice_get_cases (parse_of before) k).1 [
      | inl (m, within, some, get) ↦
          let c = carried setting before x k m l some in
          let there = slice_get_within x.parse k c.message c.at in
          omega (arith, there)
      | inr (past, none) ↦ absurd (omega (arith, is, past))
    ]

-- what was handed out was parsed
handed_parsed : (setting : Setting) (past : List ParsedStep) → Legal setting past → head_count (steps past) ≤ length (parse_of past)
handed_parsed setting past l = by_count (head_count (steps past)) refl (current_of setting past l)
  where
    by_count : (count : ℕ) → head_count (steps past) ≡ count → NoCurrent past ⊎ ((m : Message) × (h : Head) × Current setting past m h)
        → head_count (steps past) ≤ length (parse_of past)
    by_count zero is c = omega (arith, is)
    by_count (suc k) is (inl none) = absurd (omega (arith, is, none.count))
    by_count (suc k) is (inr (m, h, c)) =
        let at : slice_get (parse_of past) k ≡ Some m = sym (current_at past k is) ∙ c.current_is in
        let within = slice_get_within (parse_of past) k m at in
        omega (arith, is, within)

-- ---- what is counted wasn't handed out

-- decoded behind the last head: no more than stand there
decoded_there : (past : List ParsedStep) (o : Option Message) → current past ≡ o → head_count (steps past) ≤ length (parse_of past)
    → head_count (steps past) + decoded_behind past ≤ length (parse_of past)
decoded_there past None is within = let none : decoded_behind past ≡ 0 = rw is refl in omega (arith, none, within)
decoded_there past (Some m) is within =
    let behind = drop (head_count (steps past)) (parse_of past) in
    let some : decoded_behind past ≡ following MAX_AHEAD (is_bodiless m.reading) behind = rw is refl in
    let most = following_there MAX_AHEAD (is_bodiless m.reading) behind in
    let len = length-drop (head_count (steps past)) (parse_of past) in
    omega (arith, some, most, len, within)

-- behind a call for the next head that hands out one
head_counted : (n decoded count len len' : ℕ) (h : Head) → count + n ≤ len → len ≤ len' → suc count + decoded ≤ len'
    → suc count + ahead_after on.next (on.head h) n decoded ≤ len'
head_counted zero decoded count len len' h old longer new = new
head_counted (suc n) decoded count len len' h old longer new = omega (arith, old, longer)

-- behind one that hands out none
headless_counted : (o : Outcome) (n decoded : ℕ) → head_of o ≡ None → ahead_after on.next o n decoded ≤ n
headless_counted (on.head h) n decoded none = absurd (none-some h (sym none))
headless_counted (on.fault f) zero decoded none = omega arith
headless_counted (on.fault f) (suc n) decoded none = omega arith
headless_counted (on.took count) n decoded none = omega arith
headless_counted (on.bytes more) n decoded none = omega arith
headless_counted (on.trailers lines) n decoded none = omega arith
headless_counted on.body_ended n decoded none = omega arith
headless_counted (on.frame f) n decoded none = omega arith
headless_counted on.pending n decoded none = omega arith
headless_counted (on.closed end) n decoded none = omega arith
headless_counted (on.broken_by f) n decoded none = omega arith
headless_counted (on.protocol error) n decoded none = omega arith
headless_counted (on.refused error) n decoded none = omega arith
headless_counted (on.gave bytes) n decoded none = omega arith
headless_counted (on.expired end) n decoded none = omega arith
headless_counted on.abandoned n decoded none = omega arith
headless_counted on.done n decoded none = omega arith

event_counted : (e : Event) (o : Outcome) (n decoded : ℕ) → head_of o ≡ None → ahead_after e o n decoded ≤ n
event_counted e o n decoded none = elim (next_or_other e) [
  | inl next ↦ rw next (headless_counted o n decoded none)
  | inr other ↦ let is = other_event e o n decoded other in omega (arith, is)
]

step_counted : (setting : Setting) (before : List ParsedStep) (x : ParsedStep) → Legal setting (x ∷ before)
    → head_count (steps before) + ahead before ≤ length (parse_of before)
    → head_count (steps (x ∷ before)) + ahead (x ∷ before) ≤ length x.parse
step_counted setting before x l old =
    let longer = parse_longer setting before x (length (parse_of before)) refl l in
    let is = ahead-cons x before in
    elim (headless_or_begins setting before x l) [
      | inl none ↦
          let count = head_count-more x.step (steps before) none in
          let fewer = event_counted x.step.event x.step.outcome (ahead before) (decoded_behind (x ∷ before)) none in
          omega (arith, old, longer, is, count, fewer)
      | inr b ↦
          let some : head_of x.step.outcome ≡ Some b.head = ap head_of b.outcome in
          let count = head_count-head x.step (steps before) b.head some in
          let new = decoded_there (x ∷ before) (current (x ∷ before)) refl (handed_parsed setting (x ∷ before) l) in
          let more : ahead (x ∷ before) ≡ ahead_after on.next (on.head b.head) (ahead before) (decoded_behind (x ∷ before)) =
          is ∙ (λ i. ahead_after (b.event i) (b.outcome i) (ahead before) (decoded_behind (x ∷ before))) in
          let counted = head_counted (ahead before) (decoded_behind (x ∷ before)) (head_count (steps before)) (length (parse_of before)) (length x.parse) b.head old longer (omega (arith, new, count)) in
          omega (arith, counted, more, count)
    ]

past_counted : (setting : Setting) (past : List ParsedStep) → Legal setting past → head_count (steps past) + ahead past ≤ length (parse_of past)
past_counted setting [] l = omega (arith, ahead-nil)
past_counted setting (x ∷ before) l = step_counted setting before x l (past_counted setting before l.3)

pub counted_there : (setting : Setting) (trace : List Step) (past : List ParsedStep) → IsTrace setting trace → IsPastOf setting trace past
    → head_count trace + ahead past ≤ length (parse_of past)
counted_there setting trace past traced of =
    subst (λ (t : List Step). head_count t + ahead past ≤ length (parse_of past)) of.same (past_counted setting past (legal_of setting trace past traced of))

pub counted_next : (setting : Setting) (trace : List Step) (past : List ParsedStep) (n : ℕ) → IsTrace setting trace → IsPastOf setting trace past
    → ahead past ≡ suc n → (m : Message) × (upcoming past ≡ Some m)
counted_next setting trace past n traced of some =
    let there = past_counted setting past (legal_of setting trace past traced of) in
    elim (slice_get_cases (parse_of past) (head_count (steps past))).1 [
      | inl (m, within, is, get) ↦ (m, is)
      | inr (short, none) ↦ absurd (omega (arith, there, some, short))
    ]

-- ---- what a call for the next head decodes

-- the head that was handed out is the current one, and nothing of its body is passed
current_behind : (setting : Setting) (past : List ParsedStep) (x : ParsedStep) (before : List ParsedStep) (h : Head) → past ≡ x ∷ before
    → x.step.outcome ≡ on.head h → (m : Message) (g : Head) → Current setting past m g → (m.reading ≡ head_is h) × (passed past ≡ m.body_start)
current_behind setting past x before h is out m g c =
    let some : head_of x.step.outcome ≡ Some h = ap head_of out in
    let complete = complete-head x.step (steps before) h some in
    let c' = subst (λ (p : List ParsedStep). Current setting p m g) is c in
    let asked : Some g ≡ Some h = sym c'.request_is ∙ request_head x.step (steps before) h some in
    let place = c'.passed_is ∙ passed_pulled (x ∷ before) m complete ∙ pulled_to-head m x.step (steps before) h some in
    (c'.reading ∙ ap (λ (h : Head). head_is h) (same_Some g h asked), ap (λ (p : List ParsedStep). passed p) is ∙ place)
  where
    request_head : (s : Step) (t : List Step) (h : Head) → head_of s.outcome ≡ Some h → request (s ∷ t) ≡ Some h
    request_head s t h some = request-cons s t ∙ ap (λ (o : Option Head). option_or o (request t)) some

-- so many stand behind it
decoded_are : (setting : Setting) (past : List ParsedStep) (h : Head) (m : Message) (g : Head) (readings : List Reading) → Legal setting past
    → Current setting past m g → m.reading ≡ head_is h → passed past ≡ m.body_start
    → (k : ℕ) → head_count (steps past) ≡ suc k
    → AreAhead setting.hold_size MAX_AHEAD (is_bodiless (head_is h)) (drop (passed past) (taken (steps past))) readings
    → length readings ≡ decoded_behind past
decoded_are setting past h m g readings l c reading place k count are =
    let i = input_of setting (steps past) in
    let ms = parse_of past in
    let at : slice_get ms k ≡ Some m = sym (current_at past k count) ∙ c.current_is in
    let behind = messages_behind i 0 ms k m (parsed setting past l) at in
    let body = subst (λ r. IsBodyAfter i r m.body_start m.body) (sym c.reading) c.body in
    let ahead_in = subst₂ (λ r p. AreAhead setting.hold_size MAX_AHEAD (is_bodiless r) (drop p (taken (steps past))) readings) (sym reading) place are in
    let counted = ahead_count i MAX_AHEAD m.body_start (is_bodiless m.reading) (drop (suc k) ms) readings
    (λ none. behind_bodiless i m (drop (suc k) ms) body behind none) ahead_in in
    let decoded : decoded_behind past ≡ following MAX_AHEAD (is_bodiless m.reading) (drop (suc k) ms) =
    (rw c.current_is refl) ∙ ap (λ n. following MAX_AHEAD (is_bodiless m.reading) (drop n ms)) count in
    counted ∙ sym decoded

pub next_decodes : (setting : Setting) (k : Kept) (trace : List Step) (h : Head) (readings : List Reading)
    → StandsFor setting k (record { event = on.next; outcome = on.head h } ∷ trace)
    → AreAhead setting.hold_size MAX_AHEAD (is_bodiless (head_is h)) k.unread readings
    → (q : List ParsedStep) → IsPastOf setting (record { event = on.next; outcome = on.head h } ∷ trace) q → length readings ≡ decoded_behind q
next_decodes setting k trace h readings stands are q of =
    let s : Step = record { event = on.next; outcome = on.head h } in
    let same = past_of_unique setting (s ∷ trace) stands.past q stands.of_trace of in
    let unread : k.unread ≡ drop (passed q) (taken (steps q)) =
    ap (λ (k : Kept). k.unread) stands.parts ∙ ap (λ (p : List ParsedStep). drop (passed p) (taken (steps p))) same in
    let are' = subst (λ (bytes : List ℕ). AreAhead setting.hold_size MAX_AHEAD (is_bodiless (head_is h)) bytes readings) unread are in
    let l = legal_of setting (s ∷ trace) q stands.traced of in
    let (x, before, q_is, step_is, of_before) = past_before setting s trace q of in
    let out : x.step.outcome ≡ on.head h = ap (λ (s : Step). s.outcome) step_is in
    let count = ap (λ (p : List ParsedStep). head_count (steps p)) q_is ∙ head_count-head x.step (steps before) h (ap head_of out) in
    elim (current_of setting q l) [
      | inl none ↦ absurd (omega (arith, count, none.count))
      | inr (m, g, c) ↦
          let both = current_behind setting q x before h q_is out m g c in
          decoded_are setting q h m g readings l c both.0 both.1 (head_count (steps before)) count are'
    ]
