-- The parts tell which events are allowed.
use Rattle.std.proofs.Common.{◌≡◌, Bool, true, false, List, [], ◌∷◌, Option, Some, None, refl, sym, ap, ◌∙◌, inl, inr}
use Rattle.std.specs.Prelude.{◌&&◌, ◌||◌, not, is_some, is_none}
use Rattle.std.specs.List.{list_any}
use Rattle.std.proofs.lemmas.Bool.{true≢false, false≢true}
use Rattle.model_h1.specs.Request.{Head, has_body}
use Rattle.model_h1.specs.Setting.{Setting}
use Rattle.model_h1.specs.Parse.{Message}
use Rattle.model_h1.specs.Event.{Event, Outcome}
use Rattle.model_h1.specs.Event as on
use Rattle.model_h1.specs.Sums.{Step, is_drop, request, since_head, answered, is_complete, was_pulled, was_dropped, had_continue}
use Rattle.model_h1.specs.Sums as sums
use Rattle.model_h1.specs.Past.{ParsedStep, steps}
use Rattle.model_h1.specs.Allowed.{is_over, gives_up, request_expects, asks_raw, is_allowed}
use Rattle.model_h1.specs.Allowed as model
use Rattle.model_h1.specs.Facts.{goes_with}
use Rattle.model_h1.proofs.PastLemmas.{Legal}
use Rattle.model_state.specs.Kept.{Exchange, of_exchange, is_open}
use Rattle.model_state.specs.KeptOf.{tells_done, exchange_with, kept_of}
use Rattle.model_state.specs.Local.{has_body_left, waits_for_answer, is_answering, facts_of, allowed_by}
use Rattle.model_state.proofs.Current.{Current, NoCurrent, current_of}
use Rattle.model_state.proofs.Orderly.{Orderly, orderly}
use Rattle.model_state.proofs.Parts.{exchange_is, exchange_none, reply_unanswered, reply_sending, current_frames, none_open, none_answered, current_open, upgraded_of, open_of}
use Rattle.model_state.proofs.Closing.{closing_same}

-- ---- a body that is left

-- a body is given up by its end, its fault, or a drop
gives_up_by : (e : Event) (o : Outcome) → gives_up e o ≡ (tells_done e o || is_drop e)
gives_up_by on.drop_body o = refl
gives_up_by on.pull on.body_ended = refl
gives_up_by on.pull (on.broken_by fault) = refl
gives_up_by on.pull _ = refl
gives_up_by _ o = refl

-- four tests in another order
or_swapped : (a b c d : Bool) → ((a || b) || (c || d)) ≡ ((a || c) || (b || d))
or_swapped true b c d = refl
or_swapped false true true d = refl
or_swapped false true false d = refl
or_swapped false false c d = refl

-- a body was given up by one of both
given_up : (trace : List Step)
    → list_any (λ s. gives_up s.event s.outcome) trace ≡ (list_any (λ s. tells_done s.event s.outcome) trace || list_any (λ s. is_drop s.event) trace)
given_up [] = refl
given_up (s ∷ before) =
    (λ i. gives_up_by s.event s.outcome i || given_up before i)
    ∙ or_swapped (tells_done s.event s.outcome) (is_drop s.event) (list_any (λ s. tells_done s.event s.outcome) before) (list_any (λ s. is_drop s.event) before)

-- three tests in another order
and_turned : (a b c : Bool) → ((a && b) && c) ≡ ((a && c) && b)
and_turned true true true = refl
and_turned true true false = refl
and_turned true false true = refl
and_turned true false false = refl
and_turned false b c = refl

-- the open request has a body whose end, fault or drop hasn't come
body_left_of : (setting : Setting) (past : List ParsedStep) → Legal setting past
    → has_body_left (kept_of setting past) ≡ model.has_body_left (steps past) (request (steps past))
body_left_of setting past l = elim (current_of setting past l) [
  | inl n ↦
      let none : of_exchange (λ x. x.has_body && not (x.body_is_done || x.was_dropped)) (kept_of setting past) ≡ false = rw (exchange_none setting past n) refl in
      ap (λ b. b && is_open (kept_of setting past)) none ∙ sym (ap (model.has_body_left (steps past)) n.request_is)
  | inr (m, h, c) ↦
      let t = steps past in
      let x = exchange_with setting past m h in
      let some : of_exchange (λ x. x.has_body && not (x.body_is_done || x.was_dropped)) (kept_of setting past) ≡ (has_body h.body && not (x.body_is_done || x.was_dropped)) =
      rw (exchange_is setting past m h c) refl in
      (λ i. some i && open_of setting past l i)
      ∙ and_turned (has_body h.body) (not (x.body_is_done || x.was_dropped)) (sums.is_open t)
      ∙ ap (λ b. has_body h.body && sums.is_open t && not b) (sym (given_up (since_head t)))
      ∙ sym (ap (model.has_body_left t) c.request_is)
]

-- ---- an answer

-- no answer, an open request and no WebSocket
waits_same : (none upgraded done : Bool) → (none ≡ true → done ≡ false) → (none && not upgraded) ≡ (((upgraded || not done) && none) && not upgraded)
waits_same true true done e = refl
waits_same true false true e = absurd (true≢false (e refl))
waits_same true false false e = refl
waits_same false true done e = refl
waits_same false false true e = refl
waits_same false false false e = refl

-- what has no answer isn't complete
none_incomplete : (trace : List Step) → Orderly trace → is_none (answered trace) ≡ true → is_complete trace ≡ false
none_incomplete trace o e = go (is_complete trace) refl
  where
    both : {A : Type 0} (a : Option A) → is_none a ≡ true → is_some a ≡ true → ⊥
    both None x y = false≢true y
    both (Some a) x y = false≢true x

    go : (done : Bool) → is_complete trace ≡ done → done ≡ false
    go false f = refl
    go true f = absurd (both (answered trace) e (o.complete f))

-- of the current message
current_waits : (setting : Setting) (past : List ParsedStep) (m : Message) (h : Head) → Legal setting past → Current setting past m h
    → waits_for_answer (kept_of setting past) ≡ model.waits_for_answer (steps past)
current_waits setting past m h l c =
    let t = steps past in
    let none = reply_unanswered setting t h in
    let up = current_frames setting past m h l c in
    let opened = current_open setting past m h c in
    rw (exchange_is setting past m h c)
    ((λ i. none i && not (up i))
    ∙ waits_same (is_none (answered t)) (sums.is_upgraded t) (is_complete t) (none_incomplete t (orderly setting past l))
    ∙ sym (ap (λ b. (b && is_none (answered t)) && not (sums.is_upgraded t)) opened))

-- before the first head nothing waits
none_waits : (past : List ParsedStep) → NoCurrent past → model.waits_for_answer (steps past) ≡ false
none_waits past n = ap (λ b. (b && is_none (answered (steps past))) && not (sums.is_upgraded (steps past))) (none_open past n)

-- the last request waits for its answer
waits_of : (setting : Setting) (past : List ParsedStep) → Legal setting past → waits_for_answer (kept_of setting past) ≡ model.waits_for_answer (steps past)
waits_of setting past l = elim (current_of setting past l) [
  | inl n ↦ rw (exchange_none setting past n) (sym (none_waits past n))
  | inr (m, h, c) ↦ current_waits setting past m h l c
]

-- its answer's body is going out
answering_of : (setting : Setting) (past : List ParsedStep) → Legal setting past
    → is_answering (kept_of setting past) ≡ sums.is_answering (steps past)
answering_of setting past l = elim (current_of setting past l) [
  | inl n ↦ rw (exchange_none setting past n) (sym (ap (λ b. b && not (is_complete (steps past))) (none_answered setting past l n)))
  | inr (m, h, c) ↦ rw (exchange_is setting past m h c) (reply_sending setting (steps past) h)
]

-- what the last request says
says_of : (setting : Setting) (past : List ParsedStep) (test : Exchange → Bool) (says : Option Head → Bool) (since : Bool) → Legal setting past
    → says None ≡ false → ((m : Message) (h : Head) → test (exchange_with setting past m h) ≡ (says (Some h) && since))
    → of_exchange test (kept_of setting past) ≡ (says (request (steps past)) && since)
says_of setting past test says since l none same = elim (current_of setting past l) [
  | inl n ↦ rw (exchange_none setting past n) (sym (ap (λ o. says o && since) n.request_is ∙ ap (λ b. b && since) none))
  | inr (m, h, c) ↦ rw (exchange_is setting past m h c) (same m h ∙ sym (ap (λ o. says o && since) c.request_is))
]

-- ---- all facts

-- the parts tell what the trace tells
pub facts_same : (setting : Setting) (past : List ParsedStep) → Legal setting past
    → facts_of setting (kept_of setting past) ≡ model.facts_of setting (steps past)
facts_same setting past l =
    let t = steps past in
    let owed = says_of setting past (λ x. x.expects && not x.had_continue) request_expects (not (had_continue t)) l refl (λ m h. refl) in
    let raw = says_of setting past (λ x. x.asked.is_raw && not (x.was_pulled || x.was_dropped)) asks_raw (not (was_pulled t || was_dropped t)) l refl (λ m h. refl) in
    λ i. record (model.facts_of setting t) {
      is_upgraded = upgraded_of setting past l i;
      is_open = open_of setting past l i;
      has_body_left = body_left_of setting past l i;
      waits_for_answer = waits_of setting past l i;
      is_owed_continue = owed i;
      may_upgrade = raw i;
      is_answering = answering_of setting past l i;
    }

-- what is kept tells which events are allowed
pub allowed_same : (setting : Setting) (past : List ParsedStep) (event : Event) → Legal setting past
    → allowed_by setting (kept_of setting past) event ≡ is_allowed setting past event
unfolding is_allowed allowed_by
allowed_same setting past event l = λ i. goes_with setting (is_over (steps past)) (closing_same setting past l i) (facts_same setting past l i) event
