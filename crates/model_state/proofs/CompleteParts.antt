-- What every part that is kept is behind a step that completes an answer.
use Rattle.std.proofs.Common.{◌≡◌, ℕ, ◌≤◌, true, false, List, ◌∷◌, length, drop, Option, Some, None, refl, sym, ap, ◌∙◌, subst}
use Rattle.std.specs.Prelude.{◌||◌}
use Rattle.std.specs.Option.{option_or}
use Rattle.std.proofs.lemmas.Option.{same_Some}
use Rattle.model_h1.specs.Request.{ConnectionType, Head}
use Rattle.model_h1.specs.Setting.{Setting}
use Rattle.model_h1.specs.Parse.{Message, next_start}
use Rattle.model_h1.specs.End.{End}
use Rattle.model_h1.specs.Sums.{Step, taken, tick_of, is_drain, has_ended, accepted, first_tick, last_tick, request, answered as answer_of, completes, is_complete, was_dropped, had_continue, is_drop, is_continue, is_sending, is_receiving}
use Rattle.model_h1.specs.Past.{ParsedStep, steps, current, passed}
use Rattle.model_h1.specs.Text.{buffered}
use Rattle.model_h1.specs.Closing.{told, body_end_of}
use Rattle.model_h1.specs.Allowed.{is_over_by}
use Rattle.model_h1.proofs.PastLemmas.{Legal}
use Rattle.model_h1.proofs.StepLemmas.{Quiet, complete-more}
use Rattle.model_h1.proofs.CarriedLemmas.{passed_pulled}
use Rattle.model_h1.proofs.HandedTrace.{request-more}
use Rattle.model_state.specs.Kept.{Reply, answered, Exchange, Kept}
use Rattle.model_state.specs.Body.{Passed, pass_rest, passing}
use Rattle.model_state.specs.Reply.{completing}
use Rattle.model_state.specs.KeptOf.{rest_of, reply_of, exchange_with, exchange_of, clock_of, kept_of}
use Rattle.model_state.proofs.Changes.{bare}
use Rattle.model_state.proofs.Current.{Current, current_with}
use Rattle.model_state.proofs.StepSums.{first_tick-cons, last_tick-cons, completed_at-completes}
use Rattle.model_state.proofs.QuietParts.{rest_by, rest_parts, taken-quiet, accepted-quiet, ended-quiet, current-quiet, exchange-quiet, same_bare, option_or-none}
use Rattle.model_state.proofs.Completion.{passing_of}
use Rattle.model_state.proofs.PassedStart.{passed_begun}

-- the current message is the current one still
pub current-stays : (setting : Setting) (x : ParsedStep) (before : List ParsedStep) (m : Message) (h : Head) → Legal setting (x ∷ before)
    → Quiet before x.step
    → Current setting before m h → Current setting (x ∷ before) m h
current-stays setting x before m h l q c =
    let now = current_with setting (x ∷ before) m l (current-quiet setting x before l q ∙ c.current_is) in
    let head : now.0 ≡ h = same_Some now.0 h (sym now.1.request_is ∙ request-more x.step (steps before) q.head ∙ c.request_is) in
    subst (Current setting (x ∷ before) m) head now.1

-- where an answer is complete nothing behind the body's end was passed before
before_end : (setting : Setting) (before : List ParsedStep) (m : Message) (h : Head) → Current setting before m h → is_complete (steps before) ≡ false
    → (next : ℕ) → next_start m.body ≡ Some next → passed before ≤ next
before_end setting before m h c incomplete next e =
    subst (λ p. p ≤ next) (sym (c.passed_is ∙ passed_pulled before m incomplete)) (c.holds.before_next next e)

-- What was left of the request's body is passed by the step that completes its answer.
pub passes_rest : (setting : Setting) (x : ParsedStep) (before : List ParsedStep) (m : Message) (h : Head) → Legal setting (x ∷ before)
    → Quiet before x.step
    → Current setting before m h → completes x.step.event ≡ true → is_complete (steps before) ≡ false → accepted (steps before) ≡ None
    → pass_rest (has_ended (steps before)) (rest_of before m h.body) (drop (passed before) (taken (steps before)))
    ≡ record { rest = rest_of (x ∷ before) m h.body; unread = drop (passed (x ∷ before)) (taken (x.step ∷ steps before)) }
passes_rest setting x before m h l q c done incomplete plain =
    let t = steps before in
    let place = passed before in
    let bytes = taken-quiet x before q in
    let ended = ended-quiet x before q in
    let complete : is_complete (x.step ∷ t) ≡ true = complete-more x.step t q.head ∙ ap (λ b. b || is_complete t) done in
    let within : place ≤ length (taken (x.step ∷ t)) = subst (λ b. place ≤ length b) (sym bytes) c.passed_within in
    let passes = passing_of setting (x ∷ before) m h place (is_complete t) (is_receiving t) (current-stays setting x before m h l q c) complete
    (accepted-quiet x before q ∙ plain) (passed_begun setting before m l.3 c.current_is) within (before_end setting before m h c incomplete) in
    let rest : rest_of before m h.body ≡ rest_by place (taken (x.step ∷ t)) (is_complete t) None (is_receiving t) m h.body =
    rest_parts before m h.body ∙ (λ i. rest_by place (sym bytes i) (is_complete t) (plain i) (is_receiving t) m h.body) in
    (λ i. pass_rest (sym ended i) (rest i) (drop place (sym bytes i))) ∙ passes

-- what completing an answer leaves, by what is passed
completing_parts : (kind : ConnectionType) (x : Exchange) (k : Kept) (p : Passed) → pass_rest k.has_ended x.rest k.unread ≡ p
    → completing kind x k ≡ record k {
      unread = p.unread;
      exchange = Some (record x { reply = answered kind; rest = p.rest });
      clock = record k.clock { completed = k.clock.last };
    }
unfolding passing
completing_parts kind x k p e = ap (λ (p : Passed). record k {
  unread = p.unread;
  exchange = Some (record x { reply = answered kind; rest = p.rest });
  clock = record k.clock { completed = k.clock.last };
}) e

-- the clock, whose last moment is that of the answer
clock-completes : (s : Step) (before : List Step) → completes s.event ≡ true → tick_of s.event ≡ None
    → clock_of (s ∷ before) ≡ record (clock_of before) { completed = last_tick before }
clock-completes s before done untimed =
    let first = first_tick-cons s before ∙ ap (option_or (first_tick before)) untimed ∙ option_or-none (first_tick before) in
    let last = last_tick-cons s before ∙ ap (λ o. option_or o (last_tick before)) untimed in
    let completed = completed_at-completes s before done in
    λ i. record { first = first i; last = last i; completed = completed i }

-- A step that completes an answer and does nothing else.
pub record Completes (before : List ParsedStep) (x : ParsedStep) : Type 0 where
  pub quiet : Quiet before x.step
  pub completes : completes x.step.event ≡ true
  pub tick : tick_of x.step.event ≡ None
  pub drain : is_drain x.step.event ≡ false
  pub drop : is_drop x.step.event ≡ false
  pub send_continue : is_continue x.step.event ≡ false
  pub over : is_over_by x.step.outcome ≡ false

-- The state behind it, whatever the answer was before.
pub kept-completes : (setting : Setting) (x : ParsedStep) (before : List ParsedStep) (m : Message) (h : Head) (kind : ConnectionType) (was : Reply)
    (buffer : List ℕ) (end : Option End)
    → Legal setting (x ∷ before) → Completes before x → Current setting before m h → is_complete (steps before) ≡ false
    → accepted (steps before) ≡ None
    → reply_of setting (x.step ∷ steps before) h (answer_of (x.step ∷ steps before)) ≡ answered kind
    → buffered setting (x.step ∷ steps before) ≡ buffer → is_sending (x.step ∷ steps before) ≡ is_sending (steps before)
    → option_or (told (x.step ∷ steps before)) (body_end_of (x.step ∷ steps before)) ≡ end
    → bare (completing kind (record (exchange_with setting before m h) { reply = was }) (record (kept_of setting before) {
      buffered = buffer;
      failed = end;
      exchange = Some (record (exchange_with setting before m h) { reply = was });
    })) ≡ bare (kept_of setting (x ∷ before))
kept-completes setting x before m h kind was buffer end l s c incomplete plain reply buffer_is sending_is end_is =
    let t = steps before in
    let k = kept_of setting before in
    let old = exchange_with setting before m h in
    let put = record k { buffered = buffer; failed = end; exchange = Some (record old { reply = was }) } in
    let rest = rest_of (x ∷ before) m h.body in
    let unread = drop (passed (x ∷ before)) (taken (x.step ∷ t)) in
    let p : Passed = record { rest = rest; unread = unread } in
    let now = record put {
      unread = unread;
      exchange = Some (record old { reply = answered kind; rest = rest });
      clock = record k.clock { completed = k.clock.last };
    } in
    let dropped = ap (λ b. b || was_dropped t) s.drop in
    let told = ap (λ b. b || had_continue t) s.send_continue in
    let exchange : exchange_of setting (x ∷ before) (current (x ∷ before)) (request (x.step ∷ t)) ≡ Some (record old { reply = answered kind; rest = rest }) =
    exchange-quiet setting x before m h l s.quiet c
    ∙ (λ i. Some (record old { rest = rest; reply = reply i; was_dropped = dropped i; had_continue = told i })) in
    ap bare (completing_parts kind (record old { reply = was }) put p (passes_rest setting x before m h l s.quiet c s.completes incomplete plain))
    ∙ same_bare now (kept_of setting (x ∷ before)) refl (sym (ended-quiet x before s.quiet)) (sym (ap (λ b. b || k.is_draining) s.drain))
    (sym (ap (λ b. b || k.is_over) s.over)) (sym exchange) (sym buffer_is) (sym sending_is) (sym (clock-completes x.step t s.completes s.tick)) (sym end_is)

-- since when the connection closes isn't touched
pub completing_since : (kind : ConnectionType) (x : Exchange) (k : Kept) → (completing kind x k).closing_since ≡ k.closing_since
completing_since kind x k = ap (λ (k : Kept). k.closing_since) (completing_parts kind x k (pass_rest k.has_ended x.rest k.unread) refl)
